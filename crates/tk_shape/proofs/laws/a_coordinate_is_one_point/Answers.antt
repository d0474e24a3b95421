use Rattle.tk_shape.proofs.Centres.{centre_is, anchors_are_centres, toward_is_centre}
use Rattle.tk_shape.proofs.laws.a_coordinate_is_one_point.Goals as goal

pub returns : goal.returns
returns c = record { centre = centre_is; anchors = anchors_are_centres; toward = toward_is_centre }
