use Rattle.std.proofs.Common.{◌≡◌, ◌∙◌, refl, ap, pos, ◌-ℤ◌, to_z, of_z}
use Rattle.std.specs.Int.{w64, w128}
use Rattle.std.proofs.lemmas.Int.{to_z-of_z}
use Rattle.tk_affine.specs.Inverses.{determinant, along_first, along_second, share, inverse_image}
use Rattle.tk_affine.proofs.Wide.{bound_passed_on, same_point}
use Rattle.tk_affine.proofs.Regular.{found_by_inverse, no_inverse, divisor_passed_on, share_is}
use Rattle.tk_affine.proofs.inverses.inverse_apply.Goals as goal

pub returns : goal.returns
unfolding inverse_image
returns c =
    let m = c.args.m in
    let dx : to_z w64 (of_z w64 c.difference-dx.result) ≡ c.args.p.x -ℤ m.tx = to_z-of_z w64 c.difference-dx.result
    (record { sfits = c.difference-dx.type_inv }) ∙ c.difference-dx.ensures.value in
    let dy : to_z w64 (of_z w64 c.difference-dy.result) ≡ c.args.p.y -ℤ m.ty = to_z-of_z w64 c.difference-dy.result
    (record { sfits = c.difference-dy.type_inv }) ∙ c.difference-dy.ensures.value in
    let whole : to_z w64 (of_z w64 c.determinant-whole.result) ≡ determinant m = to_z-of_z w64 c.determinant-whole.result
    (record { sfits = c.determinant-whole.type_inv }) ∙ c.determinant-whole.ensures.value in
    let first : to_z w64 (of_z w64 c.along_first.result) ≡ along_first m (c.args.p.x -ℤ m.tx) (c.args.p.y -ℤ m.ty) =
    to_z-of_z w64 c.along_first.result (record { sfits = c.along_first.type_inv })
    ∙ c.along_first.ensures.value
    ∙ ap (λ z. along_first m z (to_z w64 (of_z w64 c.difference-dy.result))) dx
    ∙ ap (λ z. along_first m (c.args.p.x -ℤ m.tx) z) dy in
    let second : to_z w64 (of_z w64 c.along_second.result) ≡ along_second m (c.args.p.x -ℤ m.tx) (c.args.p.y -ℤ m.ty) =
    to_z-of_z w64 c.along_second.result (record { sfits = c.along_second.type_inv })
    ∙ c.along_second.ensures.value
    ∙ ap (λ z. along_second m z (to_z w64 (of_z w64 c.difference-dy.result))) dx
    ∙ ap (λ z. along_second m (c.args.p.x -ℤ m.tx) z) dy in
    let x : to_z w128 (of_z w128 c.share-x.result) ≡ share m (pos 65536) (along_first m (c.args.p.x -ℤ m.tx) (c.args.p.y -ℤ m.ty)) =
    share_is (pos 65536) c.along_first.result c.determinant-whole.result _ _ _ c.share-x.result (record { sfits = c.share-x.type_inv }) refl first
    whole c.share-x.ensures.value in
    let y : to_z w128 (of_z w128 c.share-y.result) ≡ share m (pos 65536) (along_second m (c.args.p.x -ℤ m.tx) (c.args.p.y -ℤ m.ty)) =
    share_is (pos 65536) c.along_second.result c.determinant-whole.result _ _ _ c.share-y.result (record { sfits = c.share-y.type_inv }) refl second
    whole c.share-y.ensures.value in
    record {
      gives = c.point.ensures ∙ same_point _ _ _ _ x y ∙ found_by_inverse m _ c.determinant-whole.result c.determinant-whole.ensures.value
          c.if-whole-eq0.false;
    }

pub returns-then-whole-eq0 : goal.returns-then-whole-eq0
unfolding inverse_image
returns-then-whole-eq0 c = record {
  gives = no_inverse c.args.m _ c.determinant-whole.result c.determinant-whole.ensures.value c.determinant-whole.ensures.within c.if-whole-eq0.true;
}

pub along_first-requires-clause-x : goal.along_first-requires-clause-x
along_first-requires-clause-x c = bound_passed_on c.difference-dx.result 2147483646 (record { sfits = c.difference-dx.type_inv }) c.difference-dx.ensures.within

pub along_first-requires-clause-y : goal.along_first-requires-clause-y
along_first-requires-clause-y c = bound_passed_on c.difference-dy.result 2147483646 (record { sfits = c.difference-dy.type_inv }) c.difference-dy.ensures.within

pub share-x-requires-clause-n : goal.share-x-requires-clause-n
share-x-requires-clause-n c = bound_passed_on c.along_first.result 4611686009837453316 (record { sfits = c.along_first.type_inv }) c.along_first.ensures.within

pub share-x-requires-clause-d : goal.share-x-requires-clause-d
share-x-requires-clause-d c = divisor_passed_on c.determinant-whole.result (record { sfits = c.determinant-whole.type_inv }) c.if-whole-eq0.false

pub along_second-requires-clause-x : goal.along_second-requires-clause-x
along_second-requires-clause-x c =
    bound_passed_on c.difference-dx.result 2147483646 (record { sfits = c.difference-dx.type_inv }) c.difference-dx.ensures.within

pub along_second-requires-clause-y : goal.along_second-requires-clause-y
along_second-requires-clause-y c =
    bound_passed_on c.difference-dy.result 2147483646 (record { sfits = c.difference-dy.type_inv }) c.difference-dy.ensures.within

pub share-y-requires-clause-n : goal.share-y-requires-clause-n
share-y-requires-clause-n c =
    bound_passed_on c.along_second.result 4611686009837453316 (record { sfits = c.along_second.type_inv }) c.along_second.ensures.within

pub share-y-requires-clause-d : goal.share-y-requires-clause-d
share-y-requires-clause-d c = divisor_passed_on c.determinant-whole.result (record { sfits = c.determinant-whole.type_inv }) c.if-whole-eq0.false
