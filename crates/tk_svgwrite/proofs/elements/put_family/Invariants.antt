use Rattle.std.proofs.Common.{◌≡◌, ◌++◌, take}
use Rattle.tk_svgwrite.proofs.elements.put_family.Given as goal

-- the letters so far are written
abbrev pub invariant-loop-letter : goal.invariant-loop-letter
invariant-loop-letter l = l.out.items ≡ l.initial.out.items ++ take l.letter-index l.letter-items
