use Rattle.std.proofs.Common.{◌≡◌, ◌∙◌, ap, sym, subst, ℤ, ◌-ℤ◌, ◌*ℤ◌, unsigned_abs, ◌≤◌, arith, to_z, of_z}
use Rattle.std.specs.Int.{w64}
use Rattle.std.proofs.lemmas.Int.{to_z-of_z, fits_signed_from_abs}
use Rattle.tk_num.specs.Number.{IsScaled}
use Rattle.tk_affine.proofs.Wide.{wrapped_product, wider_product_fits, product_bound, difference_bound}
use Rattle.tk_affine.proofs.numbers.difference_of_products.Goals as goal

small : (a x b y : ℤ) → IsScaled a → unsigned_abs x ≤ 2147483646 → IsScaled b → unsigned_abs y ≤ 2147483646
    → unsigned_abs (a *ℤ x -ℤ b *ℤ y) ≤ 4611686009837453316
small a x b y la lx lb ly =
    let p = product_bound a x 1073741823 2147483646 la lx in
    let q = product_bound b y 1073741823 2147483646 lb ly in
    omega (arith, p, q, difference_bound (a *ℤ x) (b *ℤ y))

product_is : (a x : ℤ) → IsScaled a → unsigned_abs x ≤ 2147483646 → to_z w64 (of_z w64 (to_z w64 (of_z w64 a) *ℤ to_z w64 (of_z w64 x))) ≡ a *ℤ x
product_is a x la lx = wrapped_product a x 1073741823 2147483646 la lx (omega arith) (omega arith) (omega arith)

pub overflow_sub-result : goal.overflow_sub-result
overflow_sub-result c =
    rw (product_is c.sp.result c.args.x c.sp.ensures.range c.requires.x, product_is c.sp-2.result c.args.y c.sp-2.ensures.range c.requires.y)
    (fits_signed_from_abs w64 _ (omega (
      arith,
      small c.sp.result c.args.x c.sp-2.result c.args.y c.sp.ensures.range c.requires.x c.sp-2.ensures.range
          c.requires.y,
    )))

value_is : (a x b y : ℤ) → IsScaled a → unsigned_abs x ≤ 2147483646 → IsScaled b → unsigned_abs y ≤ 2147483646
    → to_z w64 (of_z w64 (to_z w64 (of_z w64 (to_z w64 (of_z w64 a) *ℤ to_z w64 (of_z w64 x)))
    -ℤ to_z w64 (of_z w64 (to_z w64 (of_z w64 b) *ℤ to_z w64 (of_z w64 y))))) ≡ a *ℤ x -ℤ b *ℤ y
value_is a x b y la lx lb ly =
    ap (λ z. to_z w64 (of_z w64 (z -ℤ to_z w64 (of_z w64 (to_z w64 (of_z w64 b) *ℤ to_z w64 (of_z w64 y)))))) (product_is a x la lx)
    ∙ ap (λ z. to_z w64 (of_z w64 (a *ℤ x -ℤ z))) (product_is b y lb ly)
    ∙ to_z-of_z w64 _ (fits_signed_from_abs w64 _ (omega (arith, small a x b y la lx lb ly)))

pub returns-clause-value : goal.returns-clause-value
returns-clause-value c =
    value_is c.sp.result c.args.x c.sp-2.result c.args.y c.sp.ensures.range c.requires.x c.sp-2.ensures.range c.requires.y
    ∙ ap (λ z. z *ℤ c.args.x -ℤ c.sp-2.result *ℤ c.args.y) c.sp.ensures.value
    ∙ ap (λ z. c.args.a *ℤ c.args.x -ℤ z *ℤ c.args.y) c.sp-2.ensures.value

pub returns-clause-within : goal.returns-clause-within
returns-clause-within c =
    subst (λ z. unsigned_abs z ≤ 4611686009837453316)
    (sym (value_is c.sp.result c.args.x c.sp-2.result c.args.y c.sp.ensures.range c.requires.x c.sp-2.ensures.range c.requires.y))
    (small c.sp.result c.args.x c.sp-2.result c.args.y c.sp.ensures.range c.requires.x c.sp-2.ensures.range c.requires.y)

pub overflow_mul-result : goal.overflow_mul-result
overflow_mul-result c = wider_product_fits c.sp.result c.args.x c.sp.ensures.range c.requires.x

pub overflow_mul-result-2 : goal.overflow_mul-result-2
overflow_mul-result-2 c = wider_product_fits c.sp-2.result c.args.y c.sp-2.ensures.range c.requires.y
