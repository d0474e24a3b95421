use Rattle.std.proofs.Common.{◌≡◌, ◌∙◌, pos, to_z, of_z}
use Rattle.std.specs.Int.{w64}
use Rattle.std.proofs.lemmas.Int.{to_z-of_z}
use Rattle.tk_affine.specs.Directions.{whole_length}
use Rattle.tk_affine.proofs.Wide.{fits_scaled, same_point}
use Rattle.tk_shape.proofs.Parts.{length_is, part_is}
use Rattle.tk_shape.proofs.borders.circle_border.Goals as goal

pub returns : goal.returns
returns c =
    let u : to_z w64 (of_z w64 c.args.u) ≡ c.args.u = to_z-of_z w64 c.args.u c.ranges.u in
    let v : to_z w64 (of_z w64 c.args.v) ≡ c.args.v = to_z-of_z w64 c.args.v c.ranges.v in
    let n : to_z w64 c.whole_length-length.result ≡ pos (whole_length c.args.u c.args.v) = length_is c.whole_length-length.result _ _ c.args.u c.args.v u v
    c.whole_length-length.ensures.value c.whole_length-length.ensures.most c.requires.u c.requires.v in
    let r : to_z w64 (of_z w64 c.sp.result) ≡ c.args.radius = fits_scaled c.sp.result c.sp.ensures.range ∙ c.sp.ensures.value in
    let s : to_z w64 (of_z w64 c.sp-2.result) ≡ c.args.radius = fits_scaled c.sp-2.result c.sp-2.ensures.range ∙ c.sp-2.ensures.value in
    c.point.ensures
    ∙ same_point _ _ _ _
    (part_is _ _ _ _ _ _ c.share.result (record { sfits = c.share.type_inv }) r u n c.share.ensures.value)
    (part_is _ _ _ _ _ _ c.share-2.result (record { sfits = c.share-2.type_inv }) s v n c.share-2.ensures.value)
