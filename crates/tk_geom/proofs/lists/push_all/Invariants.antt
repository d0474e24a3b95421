use Rattle.std.proofs.Common.{◌≡◌, ◌++◌, take}
use Rattle.tk_geom.proofs.lists.push_all.Given as goal

-- what was there, and the pieces so far
abbrev pub invariant-loop-piece : goal.invariant-loop-piece
invariant-loop-piece l = l.segs ≡ l.initial.segs ++ take l.piece-index l.pieces
