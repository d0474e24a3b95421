use Rattle.std.proofs.Common.{◌≡◌, length}
use Rattle.tk_keytext.specs.Parts.{parts_of}
use Rattle.tk_keytext.proofs.lists.first_part.Given as goal

abbrev pub invariant-loop-rest : goal.invariant-loop-rest
invariant-loop-rest l = record { told : parts_of l.fn.list ≡ parts_of l.rest }

abbrev pub decreases-loop-rest : goal.decreases-loop-rest
decreases-loop-rest l = length l.rest
