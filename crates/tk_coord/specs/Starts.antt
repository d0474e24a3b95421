-- Private: only the code's own contracts use this.
use Rattle.std.specs.Prelude.{ℕ, List, [], ◌∷◌}
use Rattle.tk_item.specs.declared.Point.{Point}
use Rattle.tk_token.specs.Answers.{Answer, ◌>>=◌}
use Rattle.tk_affine.specs.declared.Matrix.{Matrix}
use Rattle.tk_coord.specs.declared.corners.CornerStart.{CornerStart}
use Rattle.tk_affine.specs.Faults.{answer_at}
use Rattle.tk_coord.specs.Coordinates.{corner_between}

-- the corners from all these points, from the last one, which leads to the point that is found behind them
abbrev pub corners_from : Matrix → ℕ → List CornerStart → Answer Point → Answer Point
corners_from m at [] found = found
corners_from m at (s ∷ starts) found = do
  q ← corners_from m at starts found
  answer_at at (corner_between s.sign m s.point q)
