use Rattle.std.proofs.Common.{◌≡◌, ◌∙◌, ap, to_z, of_z}
use Rattle.std.specs.Int.{w64}
use Rattle.tk_num.specs.Angle.{sine, cosine}
use Rattle.tk_affine.proofs.Wide.{fits_scaled}
use Rattle.tk_shape.specs.Anchors.{border_of_ray}
use Rattle.tk_shape.proofs.anchors.at_angle.Goals as goal

pub returns : goal.returns
returns c =
    let u : to_z w64 (of_z w64 c.sp.result) ≡ cosine c.args.angle = fits_scaled c.sp.result c.sp.ensures.range ∙ c.sp.ensures.value ∙ c.cos.ensures.value in
    let v : to_z w64 (of_z w64 c.sp-2.result) ≡ sine c.args.angle = fits_scaled c.sp-2.result c.sp-2.ensures.range
    ∙ c.sp-2.ensures.value
    ∙ c.sin.ensures.value in
    c.border_of_ray.ensures
    ∙ ap (λ z. border_of_ray z (to_z w64 (of_z w64 c.sp-2.result)) c.args.node.now) u
    ∙ ap (λ z. border_of_ray (cosine c.args.angle) z c.args.node.now) v
