-- Sums and products of 64 bits that do not wrap.
use Rattle.std.proofs.Common.{◌≡◌, ◌≢◌, ℕ, ℤ, pos, negsuc, ◌+ℤ◌, ◌*ℤ◌, int_div, unsigned_abs, ◌+◌, ◌^◌, ◌<◌, ◌≤◌, false, eqb, refl, sym, ap, ◌∙◌}
use Rattle.std.proofs.Common.{arith, rules, SFits, to_z, of_z}
use Rattle.std.specs.Int.{w64}
use Rattle.std.proofs.Math.Nat.{mul-le-mul_left, mul-le-mul_right}
use Rattle.std.proofs.lemmas.Bool.Decides.{nat_tests}
use Rattle.std.proofs.lemmas.Int.{to_z-of_z, ints, unsigned_abs-mul, fits_signed_from_abs, quot_is, quot_fits}
use Rattle.tk_num.specs.Number.{IsScaled, scaled, product, quotient}

pub fits_signed_64 : (z : ℤ) → unsigned_abs z < 2 ^ 63 → SFits w64 z
fits_signed_64 z lt = fits_signed_from_abs w64 z lt

fits_in_64 : (z : ℤ) → IsScaled z → to_z w64 (of_z w64 z) ≡ z
fits_in_64 z small = to_z-of_z w64 z (fits_signed_64 z (omega arith))

-- a product of two numbers below 2 ^ 31
pub product_small : (a b : ℤ) → unsigned_abs a ≤ 1073741823 → unsigned_abs b ≤ 1073741823 → unsigned_abs (a *ℤ b) ≤ 1152921502459363329
product_small a b la lb =
    let l = mul-le-mul_left (unsigned_abs a) lb in
    let r = mul-le-mul_right 1073741823 la in
    omega (arith, unsigned_abs-mul a b, l, r)

pub wrapped_mul : (a b : ℤ) → unsigned_abs a ≤ 1073741823 → unsigned_abs b ≤ 1073741823
    → to_z w64 (of_z w64 (to_z w64 (of_z w64 a) *ℤ to_z w64 (of_z w64 b))) ≡ a *ℤ b
wrapped_mul a b la lb =
    ap (λ z. to_z w64 (of_z w64 (z *ℤ to_z w64 (of_z w64 b)))) (to_z-of_z w64 a (fits_signed_64 a (omega arith)))
    ∙ ap (λ z. to_z w64 (of_z w64 (a *ℤ z))) (to_z-of_z w64 b (fits_signed_64 b (omega arith)))
    ∙ to_z-of_z w64 (a *ℤ b) (let small = product_small a b la lb in fits_signed_64 (a *ℤ b) (omega arith))

product_fits : (x y : ℤ) → IsScaled x → IsScaled y → SFits w64 (x *ℤ y)
product_fits x y hx hy = let small = product_small x y hx hy in fits_signed_64 (x *ℤ y) (omega arith)

-- the product of two numbers, before it is divided
pub wrapped_product_fits : (x y : ℤ) → IsScaled x → IsScaled y → SFits w64 (to_z w64 (of_z w64 x) *ℤ to_z w64 (of_z w64 y))
wrapped_product_fits x y hx hy = rw (fits_in_64 x hx, fits_in_64 y hy) (product_fits x y hx hy)

-- the product of two numbers, divided by a point
pub wrapped_product : (x y : ℤ) → IsScaled x → IsScaled y
    → to_z w64 (of_z w64 (int_div (to_z w64 (of_z w64 (to_z w64 (of_z w64 x) *ℤ to_z w64 (of_z w64 y)))) (pos 65536))) ≡ product x y
wrapped_product x y hx hy =
    let fits = product_fits x y hx hy in
    ap (λ z. to_z w64 (of_z w64 (int_div z (pos 65536)))) (wrapped_mul x y hx hy ∙ sym (to_z-of_z w64 (x *ℤ y) fits))
    ∙ quot_is w64 (x *ℤ y) (pos 65536) fits (fits_signed_64 (pos 65536) (omega arith)) (quot_fits w64 (x *ℤ y) (pos 65536) fits (search rules))

sum_small : (a b : ℤ) → unsigned_abs (a +ℤ b) ≤ unsigned_abs a + unsigned_abs b
sum_small a b = omega (arith, ints)

pub sum_fits : (a b : ℤ) → unsigned_abs a ≤ 1152921502459363329 → unsigned_abs b ≤ 1152921502459363329 → SFits w64 (a +ℤ b)
sum_fits a b la lb = let s = sum_small a b in fits_signed_64 (a +ℤ b) (omega arith)

-- a sum whose parts are known
pub wrapped_add : (x y a b : ℤ) → x ≡ a → y ≡ b → unsigned_abs a ≤ 1152921502459363329 → unsigned_abs b ≤ 1152921502459363329
    → to_z w64 (of_z w64 (x +ℤ y)) ≡ a +ℤ b
wrapped_add x y a b e h la lb =
    ap (λ z. to_z w64 (of_z w64 (z +ℤ y))) e
    ∙ ap (λ z. to_z w64 (of_z w64 (a +ℤ z))) h
    ∙ to_z-of_z w64 (a +ℤ b) (sum_fits a b la lb)

-- ---- the quotient

not_zero : (n : ℕ) → n ≢ 0 → eqb n 0 ≡ false
not_zero n ne = grind (arith, nat_tests)

pub quotient_is : (x y q : ℤ) → unsigned_abs y ≢ 0 → q ≡ int_div (x *ℤ pos 65536) y → scaled q ≡ quotient x y
quotient_is x y q ne e = ap scaled e ∙ sym (rw (not_zero (unsigned_abs y) ne) refl)

pub abs_of_bits : (z : ℤ) → IsScaled z → of_z w64 z ≢ 0 → unsigned_abs z ≢ 0
abs_of_bits (pos n) h ne e = ne e
abs_of_bits (negsuc n) h ne e = absurd (omega arith)
