use Rattle.std.specs.Prelude.{◌≡◌, option_copied}
use Rattle.tk_look.specs.Colours.{colour_of, mixed_with}
use Rattle.tk_look.specs.Pieces.{pieces_behind}
use Rattle.tk_look.proofs.Splitting.{left_of}
use Rattle.tk_look.proofs.colours.colour.Given as goal

abbrev pub invariant-loop-behind : goal.invariant-loop-behind
invariant-loop-behind l = colour_of l.text ≡ mixed_with l.so_far (pieces_behind (option_copied l.behind))

abbrev pub decreases-loop-behind : goal.decreases-loop-behind
decreases-loop-behind l = left_of (option_copied l.behind)
