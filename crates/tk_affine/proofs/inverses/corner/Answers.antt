use Rattle.std.proofs.Common.{◌≡◌, ◌∙◌, ap, ◌^◌, ◌+ℤ◌, ◌-ℤ◌, to_z, of_z}
use Rattle.std.specs.Int.{w64, w128}
use Rattle.std.proofs.lemmas.Int.{to_z-of_z}
use Rattle.tk_affine.specs.Inverses.{determinant, along_first, share, corner_of}
use Rattle.tk_affine.proofs.Wide.{bound_passed_on, wide_bound_passed_on, same_point, fits_scaled}
use Rattle.tk_affine.proofs.Regular.{found_by_inverse, no_inverse, divisor_passed_on, share_is}
use Rattle.tk_affine.proofs.inverses.corner.Goals as goal

pub returns : goal.returns
unfolding corner_of
returns c =
    let m = c.args.m in
    let p = c.args.p in
    let q = c.args.q in
    let dx : to_z w64 (of_z w64 c.difference.result) ≡ q.x -ℤ p.x = to_z-of_z w64 c.difference.result (record { sfits = c.difference.type_inv })
    ∙ c.difference.ensures.value in
    let dy : to_z w64 (of_z w64 c.difference-2.result) ≡ q.y -ℤ p.y = to_z-of_z w64 c.difference-2.result (record { sfits = c.difference-2.type_inv })
    ∙ c.difference-2.ensures.value in
    let whole : to_z w64 (of_z w64 c.determinant-whole.result) ≡ determinant m = to_z-of_z w64 c.determinant-whole.result
    (record { sfits = c.determinant-whole.type_inv }) ∙ c.determinant-whole.ensures.value in
    let part : to_z w64 (of_z w64 c.along_first-part.result) ≡ along_first m (q.x -ℤ p.x) (q.y -ℤ p.y) =
    to_z-of_z w64 c.along_first-part.result (record { sfits = c.along_first-part.type_inv })
    ∙ c.along_first-part.ensures.value
    ∙ ap (λ z. along_first m z (to_z w64 (of_z w64 c.difference-2.result))) dx
    ∙ ap (λ z. along_first m (q.x -ℤ p.x) z) dy in
    let a : to_z w64 (of_z w64 c.sp.result) ≡ m.a = fits_scaled c.sp.result c.sp.ensures.range ∙ c.sp.ensures.value in
    let b : to_z w64 (of_z w64 c.sp-2.result) ≡ m.b = fits_scaled c.sp-2.result c.sp-2.ensures.range ∙ c.sp-2.ensures.value in
    let x : to_z w128 (of_z w128 c.moved-x.result) ≡ p.x +ℤ share m m.a (along_first m (q.x -ℤ p.x) (q.y -ℤ p.y)) =
    to_z-of_z w128 c.moved-x.result (record { sfits = c.moved-x.type_inv })
    ∙ c.moved-x.ensures
    ∙ ap (λ z. p.x +ℤ z) (share_is c.sp.result c.along_first-part.result c.determinant-whole.result _ _ _ c.share.result
    (record { sfits = c.share.type_inv }) a part whole c.share.ensures.value) in
    let y : to_z w128 (of_z w128 c.moved-y.result) ≡ p.y +ℤ share m m.b (along_first m (q.x -ℤ p.x) (q.y -ℤ p.y)) =
    to_z-of_z w128 c.moved-y.result (record { sfits = c.moved-y.type_inv })
    ∙ c.moved-y.ensures
    ∙ ap (λ z. p.y +ℤ z) (share_is c.sp-2.result c.along_first-part.result c.determinant-whole.result _ _ _ c.share-2.result
    (record { sfits = c.share-2.type_inv }) b part whole c.share-2.ensures.value) in
    record {
      gives = c.point.ensures ∙ same_point _ _ _ _ x y ∙ found_by_inverse m _ c.determinant-whole.result c.determinant-whole.ensures.value
          c.if-whole-eq0.false;
    }

pub returns-then-whole-eq0 : goal.returns-then-whole-eq0
unfolding corner_of
returns-then-whole-eq0 c = record {
  gives = no_inverse c.args.m _ c.determinant-whole.result c.determinant-whole.ensures.value c.determinant-whole.ensures.within c.if-whole-eq0.true;
}

pub along_first-part-requires-clause-x : goal.along_first-part-requires-clause-x
along_first-part-requires-clause-x c = bound_passed_on c.difference.result 2147483646 (record { sfits = c.difference.type_inv }) c.difference.ensures.within

pub along_first-part-requires-clause-y : goal.along_first-part-requires-clause-y
along_first-part-requires-clause-y c =
    bound_passed_on c.difference-2.result 2147483646 (record { sfits = c.difference-2.type_inv }) c.difference-2.ensures.within

pub share-requires-clause-r : goal.share-requires-clause-r
share-requires-clause-r c = bound_passed_on c.sp.result 1073741823 (record { sfits = c.sp.type_inv }) c.sp.ensures.range

pub share-requires-clause-n : goal.share-requires-clause-n
share-requires-clause-n c =
    bound_passed_on c.along_first-part.result 4611686009837453316 (record { sfits = c.along_first-part.type_inv }) c.along_first-part.ensures.within

pub share-requires-clause-d : goal.share-requires-clause-d
share-requires-clause-d c = divisor_passed_on c.determinant-whole.result (record { sfits = c.determinant-whole.type_inv }) c.if-whole-eq0.false

pub moved-x-requires : goal.moved-x-requires
moved-x-requires c = wide_bound_passed_on c.share.result (2 ^ 92) (record { sfits = c.share.type_inv }) c.share.ensures.within

pub share-requires-2-clause-r : goal.share-requires-2-clause-r
share-requires-2-clause-r c = bound_passed_on c.sp-2.result 1073741823 (record { sfits = c.sp-2.type_inv }) c.sp-2.ensures.range

pub share-requires-2-clause-n : goal.share-requires-2-clause-n
share-requires-2-clause-n c =
    bound_passed_on c.along_first-part.result 4611686009837453316 (record { sfits = c.along_first-part.type_inv }) c.along_first-part.ensures.within

pub share-requires-2-clause-d : goal.share-requires-2-clause-d
share-requires-2-clause-d c = divisor_passed_on c.determinant-whole.result (record { sfits = c.determinant-whole.type_inv }) c.if-whole-eq0.false

pub moved-y-requires : goal.moved-y-requires
moved-y-requires c = wide_bound_passed_on c.share-2.result (2 ^ 92) (record { sfits = c.share-2.type_inv }) c.share-2.ensures.within
