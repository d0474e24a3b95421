use Rattle.std.proofs.Common.{◌≡◌, ◌-◌, ◌≤◌, length}
use Rattle.tk_io.proofs.SoFar.{SoFar}
use Rattle.tk_io.proofs.reading.read_all.Given as goal

abbrev pub invariant-loop-buffer : goal.invariant-loop-buffer
invariant-loop-buffer g l = record {
  so_far : SoFar l.name (g.H.Shelf.meaning l.fn.shelf) l.bytes.items (g.H.Shelf.meaning l.shelf);
  most : length l.bytes.items ≤ 16777217;
  wide : length l.buffer ≡ 65536;
}

abbrev pub decreases-loop-buffer : goal.decreases-loop-buffer
decreases-loop-buffer g l = 16777217 - length l.bytes.items
