-- Corners from many points, the last one first.
use Rattle.std.proofs.Common.{◌≡◌, ℕ, List, [], ◌∷◌, ◌++◌, Err, refl, ap}
use Rattle.tk_item.specs.declared.Point.{Point}
use Rattle.tk_token.specs.declared.Fault.{Fault}
use Rattle.tk_token.specs.Answers.{Answer, ◌>>=◌}
use Rattle.tk_affine.specs.declared.Matrix.{Matrix}
use Rattle.tk_coord.specs.declared.corners.CornerStart.{CornerStart}
use Rattle.tk_affine.specs.Faults.{answer_at}
use Rattle.tk_coord.specs.Coordinates.{corner_between}
use Rattle.tk_coord.specs.Starts.{corners_from}

module _ (m : Matrix) (at : ℕ) where
  -- the corner from one point to the one that is found behind it
  abbrev pub corner_from : CornerStart → Answer Point → Answer Point
  corner_from s found = found >>= λ q. answer_at at (corner_between s.sign m s.point q)

  -- the last point has the first corner
  pub last_first : (starts : List CornerStart) (s : CornerStart) (found : Answer Point)
      → corners_from m at (starts ++ s ∷ []) found ≡ corners_from m at starts (corner_from s found)
  last_first [] s found = refl
  last_first (t ∷ ts) s found = ap (corner_from t) (last_first ts s found)

  -- a fault is that of all
  pub fault_stands : (starts : List CornerStart) (f : Fault) → corners_from m at starts (Err f) ≡ Err f
  fault_stands [] f = refl
  fault_stands (s ∷ starts) f = ap (corner_from s) (fault_stands starts f)
