use Rattle.std.proofs.Common.{◌≡◌, ◌≤◌, ◌∙◌, ap, subst, sym, arith, pos, ℤ, unsigned_abs, ◌+ℤ◌, ◌*ℤ◌, int_div}
use Rattle.std.specs.Int.{w64}
use Rattle.std.proofs.lemmas.Int.{to_z-of_z, ints}
use Rattle.tk_num.proofs.Carry.{font_length}
use Rattle.tk_num.proofs.Wrap.{wrapped_mul, wrapped_product_fits, wrapped_add, product_small, sum_fits, fits_signed_64}
use Rattle.tk_num.specs.Number.{IsWhole, IsFraction}
use Rattle.tk_num.proofs.unit.in_font_unit.Goals as goal

whole_small : (z : ℤ) → IsWhole z → unsigned_abs z ≤ 1073741823
whole_small z h = omega (arith, ints, h.0, h.1)

part_small : (z : ℤ) → IsFraction z → unsigned_abs z ≤ 1073741823
part_small z h = omega (arith, ints, h.0, h.1)

cut_small : (c : goal.After-cut) → unsigned_abs c.cut.result ≤ 1152921502459363329
cut_small c =
    let part = part_small c.args.frac c.requires.frac in
    let most : unsigned_abs c.cut.result ≤ unsigned_abs (c.args.frac *ℤ c.sp-2.result) = subst (λ z. unsigned_abs c.cut.result ≤ unsigned_abs z)
    (wrapped_mul c.args.frac c.sp-2.result part c.sp-2.ensures.range) c.cut.ensures.small in
    let small = product_small c.args.frac c.sp-2.result part c.sp-2.ensures.range in
    omega (arith, most, small)

pub overflow_mul-result : goal.overflow_mul-result
overflow_mul-result c = wrapped_product_fits c.args.whole c.sp.result (whole_small c.args.whole c.requires.whole) c.sp.ensures.range

pub overflow_mul-frac : goal.overflow_mul-frac
overflow_mul-frac c = wrapped_product_fits c.args.frac c.sp-2.result (part_small c.args.frac c.requires.frac) c.sp-2.ensures.range

pub cut-requires-clause-small : goal.cut-requires-clause-small
cut-requires-clause-small c =
    let part = part_small c.args.frac c.requires.frac in
    let small = product_small c.args.frac c.sp-2.result part c.sp-2.ensures.range in
    subst (λ z. unsigned_abs z ≤ 4611686018427387904) (sym (wrapped_mul c.args.frac c.sp-2.result part c.sp-2.ensures.range)) (omega (arith, small))

pub overflow_add-result : goal.overflow_add-result
overflow_add-result c =
    let whole = whole_small c.args.whole c.requires.whole in
    let first = wrapped_mul c.args.whole c.sp.result whole c.sp.ensures.range in
    let second = to_z-of_z w64 c.cut.result (fits_signed_64 c.cut.result (omega (arith, cut_small c))) in
    let small = product_small c.args.whole c.sp.result whole c.sp.ensures.range in
    rw (first, second) (sum_fits (c.args.whole *ℤ c.sp.result) c.cut.result small (cut_small c))

pub returns : goal.returns
returns c =
    let whole = whole_small c.args.whole c.requires.whole in
    let first = wrapped_mul c.args.whole c.sp.result whole c.sp.ensures.range in
    let second = to_z-of_z w64 c.cut.result (fits_signed_64 c.cut.result (omega (arith, cut_small c))) in
    let small = product_small c.args.whole c.sp.result whole c.sp.ensures.range in
    let cut : c.cut.result ≡ int_div (c.args.frac *ℤ c.args.unit) (pos 65536) =
    c.cut.ensures.value
    ∙ ap (λ z. int_div z (pos 65536)) (wrapped_mul c.args.frac c.sp-2.result (part_small c.args.frac c.requires.frac) c.sp-2.ensures.range)
    ∙ ap (λ z. int_div (c.args.frac *ℤ z) (pos 65536)) c.sp-2.ensures.value in
    wrapped_add _ _ (c.args.whole *ℤ c.sp.result) c.cut.result first second small (cut_small c)
    ∙ ap (λ z. c.args.whole *ℤ z +ℤ c.cut.result) c.sp.ensures.value
    ∙ ap (λ z. c.args.whole *ℤ c.args.unit +ℤ z) cut
    ∙ font_length c.args.whole c.args.frac c.args.unit c.requires.whole c.requires.frac
