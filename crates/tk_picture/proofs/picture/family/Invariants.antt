use Rattle.std.proofs.Common.{◌≡◌, take, codes}
use Rattle.tk_picture.proofs.picture.family.Given as goal

abbrev pub invariant-loop-byte : goal.invariant-loop-byte
invariant-loop-byte l = l.text ≡ take l.byte-index (codes "monospace")
