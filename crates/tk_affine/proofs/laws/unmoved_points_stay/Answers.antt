use Rattle.tk_affine.proofs.Neutral.{point_stays, vector_stays, inverse_stays, corner_is}
use Rattle.tk_affine.proofs.laws.unmoved_points_stay.Goals as goal

pub returns : goal.returns
returns c = record { image = point_stays; vector = vector_stays; inverse = inverse_stays; corner = corner_is }
