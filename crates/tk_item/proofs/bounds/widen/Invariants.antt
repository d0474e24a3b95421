-- The pieces up to here have widened the frame.
use Rattle.std.proofs.Common.{◌≡◌, take}
use Rattle.std.specs.Prelude.{IfSome}
use Rattle.tk_item.specs.Frame.{points_of_path, round_points, IsProperFrame}
use Rattle.tk_item.proofs.bounds.widen.Given as goal

abbrev pub invariant-loop-seg : goal.invariant-loop-seg
invariant-loop-seg l = record {
  value : l.widened ≡ round_points l.half l.fn.frame (points_of_path (take l.seg-index l.segs));
  proper : IfSome l.fn.frame IsProperFrame → IfSome l.widened IsProperFrame;
}
