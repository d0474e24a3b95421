use Rattle.std.specs.Prelude.{◌≡◌, Ok, vec_len}
use Rattle.tk_coord.specs.Starts.{corners_from}
use Rattle.tk_coord.proofs.corners.corners_from.Given as goal

abbrev pub invariant-loop-point : goal.invariant-loop-point
invariant-loop-point l = corners_from l.matrix l.at l.fn.starts.items (Ok l.fn.end) ≡ corners_from l.matrix l.at l.starts.items (Ok l.to)

abbrev pub decreases-loop-point : goal.decreases-loop-point
decreases-loop-point l = vec_len l.starts
