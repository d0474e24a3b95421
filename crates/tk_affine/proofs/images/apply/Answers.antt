use Rattle.std.proofs.Common.{◌≡◌, ◌∙◌, ap, ◌+ℤ◌, to_z, of_z}
use Rattle.std.specs.Int.{w128}
use Rattle.tk_affine.specs.Images.{across, upward, image}
use Rattle.tk_affine.proofs.Wide.{moved_on, moved_on_fits, same_point}
use Rattle.tk_affine.proofs.images.apply.Goals as goal

pub returns : goal.returns
unfolding image
returns c =
    let x : to_z w128 (of_z w128 c.from.result) ≡ across c.args.m c.args.p +ℤ c.args.m.tx =
    moved_on c.across.result c.sp.result c.from.result c.across.ensures.within c.sp.ensures.range c.from.ensures
    ∙ ap (λ z. z +ℤ c.sp.result) c.across.ensures.value
    ∙ ap (λ z. across c.args.m c.args.p +ℤ z) c.sp.ensures.value in
    let y : to_z w128 (of_z w128 c.from-2.result) ≡ upward c.args.m c.args.p +ℤ c.args.m.ty =
    moved_on c.upward.result c.sp-2.result c.from-2.result c.upward.ensures.within c.sp-2.ensures.range c.from-2.ensures
    ∙ ap (λ z. z +ℤ c.sp-2.result) c.upward.ensures.value
    ∙ ap (λ z. upward c.args.m c.args.p +ℤ z) c.sp-2.ensures.value in
    record { gives = c.point.ensures ∙ same_point _ _ _ _ x y }

pub overflow_add-x : goal.overflow_add-x
overflow_add-x c = moved_on_fits c.across.result c.sp.result c.across.ensures.within c.sp.ensures.range

pub overflow_add-y : goal.overflow_add-y
overflow_add-y c = moved_on_fits c.upward.result c.sp-2.result c.upward.ensures.within c.sp-2.ensures.range
