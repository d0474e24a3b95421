use Rattle.tk_affine.proofs.Neutral.{corner_is}
use Rattle.tk_coord.proofs.laws.corners_lie_straight_where_nothing_is_moved.Goals as goal

pub returns : goal.returns
returns c = record { horizontal = corner_is; vertical = λ p q h k. corner_is q p k h }
