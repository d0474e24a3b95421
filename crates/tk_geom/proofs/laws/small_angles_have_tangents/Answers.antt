use Rattle.tk_geom.proofs.Tangents.{IsOk-tangent}
use Rattle.tk_geom.proofs.laws.small_angles_have_tangents.Goals as goal

pub returns : goal.returns
returns c = IsOk-tangent
