use Rattle.std.specs.Prelude.{◌≡◌, length}
use Rattle.tk_expr.specs.Evaluated.{evaluated}
use Rattle.tk_coord.specs.Coordinates.{absolute_point}
use Rattle.tk_coord.specs.Starts.{corners_from}
use Rattle.tk_coord.proofs.points.CoordinateSystem.absolute_point.Given as goal

abbrev pub invariant-loop-front : goal.invariant-loop-front
invariant-loop-front l =
    let found = absolute_point evaluated l.self.font l.self.look.now l.self.matrix l.at in
    found l.text ≡ corners_from l.self.matrix l.at l.starts.items (found l.rest)

abbrev pub decreases-loop-front : goal.decreases-loop-front
decreases-loop-front l = length l.rest
