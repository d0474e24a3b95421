use Rattle.std.proofs.Common.{◌≡◌, map, take}
use Rattle.tk_expr.specs.Letters.{letter_of}
use Rattle.tk_expr.proofs.pieces.text_of.Given as goal

abbrev pub invariant-loop-tok : goal.invariant-loop-tok
invariant-loop-tok l = l.text.bytes ≡ map letter_of (take l.tok-index l.letters)
