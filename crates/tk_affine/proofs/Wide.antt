-- Products, sums and quotients that do not wrap.
use Rattle.std.proofs.Common.{◌≡◌, ℕ, ℤ, pos, negsuc, ◌+ℤ◌, ◌-ℤ◌, ◌*ℤ◌, int_div, unsigned_abs, ◌+◌, ◌*◌, ◌^◌, ◌<◌, ◌≤◌, ap, ◌∙◌, arith, SFits, to_z}
use Rattle.std.proofs.Common.{of_z}
use Rattle.std.specs.Int.{w64, w128}
use Rattle.std.proofs.Math.Nat.{mul-le-mul_left, mul-le-mul_right}
use Rattle.tk_affine.specs.Images.{point_at}
use Rattle.std.proofs.lemmas.Int.{to_z-of_z, ints, unsigned_abs-mul, fits_signed_from_abs}

pub product_bound : (a b : ℤ) (m n : ℕ) → unsigned_abs a ≤ m → unsigned_abs b ≤ n → unsigned_abs (a *ℤ b) ≤ m * n
product_bound a b m n la lb =
    let l = mul-le-mul_left (unsigned_abs a) lb in
    let r = mul-le-mul_right n la in
    omega (arith, unsigned_abs-mul a b, l, r)

pub sum_bound : (a b : ℤ) → unsigned_abs (a +ℤ b) ≤ unsigned_abs a + unsigned_abs b
sum_bound a b = omega (arith, ints)

pub difference_bound : (a b : ℤ) → unsigned_abs (a -ℤ b) ≤ unsigned_abs a + unsigned_abs b
difference_bound a b = omega (arith, ints)

pub quotient_bound : (a d : ℤ) → unsigned_abs (int_div a d) ≤ unsigned_abs a
quotient_bound (pos a) (pos b) = grind arith
quotient_bound (pos a) (negsuc b) = grind arith
quotient_bound (negsuc a) (pos b) = grind arith
quotient_bound (negsuc a) (negsuc b) = grind arith

-- a product of two numbers that fit, and that fits
pub wrapped_product : (a b : ℤ) (m n : ℕ) → unsigned_abs a ≤ m → unsigned_abs b ≤ n → m < 2 ^ 63 → n < 2 ^ 63 → m * n < 2 ^ 63
    → to_z w64 (of_z w64 (to_z w64 (of_z w64 a) *ℤ to_z w64 (of_z w64 b))) ≡ a *ℤ b
wrapped_product a b m n la lb lm ln lmn =
    ap (λ z. to_z w64 (of_z w64 (z *ℤ to_z w64 (of_z w64 b)))) (to_z-of_z w64 a (fits_signed_from_abs w64 a (omega arith)))
    ∙ ap (λ z. to_z w64 (of_z w64 (a *ℤ z))) (to_z-of_z w64 b (fits_signed_from_abs w64 b (omega arith)))
    ∙ to_z-of_z w64 (a *ℤ b) (let small = product_bound a b m n la lb in fits_signed_from_abs w64 (a *ℤ b) (omega (arith, small)))

pub product_fits : (a b : ℤ) (m n : ℕ) → unsigned_abs a ≤ m → unsigned_abs b ≤ n → m < 2 ^ 63 → n < 2 ^ 63 → m * n < 2 ^ 63
    → SFits w64 (to_z w64 (of_z w64 a) *ℤ to_z w64 (of_z w64 b))
product_fits a b m n la lb lm ln lmn =
    rw (to_z-of_z w64 a (fits_signed_from_abs w64 a (omega arith)), to_z-of_z w64 b (fits_signed_from_abs w64 b (omega arith)))
    (let small = product_bound a b m n la lb in fits_signed_from_abs w64 (a *ℤ b) (omega (arith, small)))

pub scaled_product_fits : (a b : ℤ) → unsigned_abs a ≤ 1073741823 → unsigned_abs b ≤ 1073741823
    → SFits w64 (to_z w64 (of_z w64 a) *ℤ to_z w64 (of_z w64 b))
scaled_product_fits a b la lb = product_fits a b 1073741823 1073741823 la lb (omega arith) (omega arith) (omega arith)

pub wider_product_fits : (a b : ℤ) → unsigned_abs a ≤ 1073741823 → unsigned_abs b ≤ 2147483646
    → SFits w64 (to_z w64 (of_z w64 a) *ℤ to_z w64 (of_z w64 b))
wider_product_fits a b la lb = product_fits a b 1073741823 2147483646 la lb (omega arith) (omega arith) (omega arith)

-- a bound stays where a number is passed on
pub bound_passed_on : (z : ℤ) (n : ℕ) → SFits w64 z → unsigned_abs z ≤ n → unsigned_abs (to_z w64 (of_z w64 z)) ≤ n
bound_passed_on z n fits le = rw (to_z-of_z w64 z fits) le

pub wide_bound_passed_on : (z : ℤ) (n : ℕ) → SFits w128 z → unsigned_abs z ≤ n → unsigned_abs (to_z w128 (of_z w128 z)) ≤ n
wide_bound_passed_on z n fits le = rw (to_z-of_z w128 z fits) le

-- the same in 128 bits, of numbers that fit 64
pub wide_product : (a b : ℤ) → unsigned_abs a ≤ 1073741823 → unsigned_abs b ≤ 4611686009837453316
    → to_z w128 (of_z w128 (to_z w128 (of_z w128 a) *ℤ to_z w128 (of_z w128 b))) ≡ a *ℤ b
wide_product a b la lb =
    ap (λ z. to_z w128 (of_z w128 (z *ℤ to_z w128 (of_z w128 b)))) (to_z-of_z w128 a (fits_signed_from_abs w128 a (omega arith)))
    ∙ ap (λ z. to_z w128 (of_z w128 (a *ℤ z))) (to_z-of_z w128 b (fits_signed_from_abs w128 b (omega arith)))
    ∙ to_z-of_z w128 (a *ℤ b) (let small = product_bound a b 1073741823 4611686009837453316 la lb in fits_signed_from_abs w128 (a *ℤ b)
    (omega (arith, small)))

share_small : (a b d : ℤ) → unsigned_abs a ≤ 1073741823 → unsigned_abs b ≤ 4611686009837453316 → unsigned_abs (int_div (a *ℤ b) d) ≤ 2 ^ 92
share_small a b d la lb =
    let small = product_bound a b 1073741823 4611686009837453316 la lb in
    omega (arith, small, quotient_bound (a *ℤ b) d)

pub wide_product_fits : (x y a b : ℤ) → x ≡ a → y ≡ b → unsigned_abs a ≤ 1073741823 → unsigned_abs b ≤ 4611686009837453316
    → SFits w128 (to_z w128 (of_z w128 x) *ℤ to_z w128 (of_z w128 y))
wide_product_fits x y a b ex ey la lb =
    let small = product_bound a b 1073741823 4611686009837453316 la lb in
    rw (
      ex,
      ey,
      to_z-of_z w128 a (fits_signed_from_abs w128 a (omega arith)),
      to_z-of_z w128 b (fits_signed_from_abs w128 b (omega arith)),
    )
    (fits_signed_from_abs w128 (a *ℤ b) (omega (arith, small)))

bits_of_some : (z : ℤ) → 1 ≤ unsigned_abs z → unsigned_abs z ≤ 2 ^ 63 → 0 < of_z w128 z
bits_of_some (pos n) some few = omega (arith, ints)
bits_of_some (negsuc n) some few = omega (arith, ints)

pub wide_share_fits : (x y z a b d : ℤ) → x ≡ a → y ≡ b → z ≡ d → unsigned_abs a ≤ 1073741823 → unsigned_abs b ≤ 4611686009837453316
    → 1 ≤ unsigned_abs d → unsigned_abs d ≤ 2 ^ 63
    → (0 < of_z w128 z) × SFits w128 (int_div (to_z w128 (of_z w128 (to_z w128 (of_z w128 x) *ℤ to_z w128 (of_z w128 y)))) (to_z w128 (of_z w128 z)))
wide_share_fits x y z a b d ex ey ez la lb some ld =
    rw (ex, ey, ez, wide_product a b la lb, to_z-of_z w128 d (fits_signed_from_abs w128 d (omega arith)))
    (bits_of_some d some ld, fits_signed_from_abs w128 (int_div (a *ℤ b) d) (omega (arith, share_small a b d la lb)))

-- what is computed of r*n/d, and its bound
pub wide_share : (a b d : ℤ) → unsigned_abs a ≤ 1073741823 → unsigned_abs b ≤ 4611686009837453316 → unsigned_abs d ≤ 2 ^ 63
    → to_z w128 (of_z w128 (int_div (to_z w128 (of_z w128 (to_z w128 (of_z w128 a) *ℤ to_z w128 (of_z w128 b)))) (to_z w128 (of_z w128 d))))
    ≡ int_div (a *ℤ b) d
wide_share a b d la lb ld =
    ap (λ z. to_z w128 (of_z w128 (int_div z (to_z w128 (of_z w128 d))))) (wide_product a b la lb)
    ∙ ap (λ z. to_z w128 (of_z w128 (int_div (a *ℤ b) z))) (to_z-of_z w128 d (fits_signed_from_abs w128 d (omega arith)))
    ∙ to_z-of_z w128 (int_div (a *ℤ b) d) (fits_signed_from_abs w128 (int_div (a *ℤ b) d) (omega (arith, share_small a b d la lb)))

pub share_within : (a b d r : ℤ) → unsigned_abs a ≤ 1073741823 → unsigned_abs b ≤ 4611686009837453316 → r ≡ int_div (a *ℤ b) d
    → unsigned_abs r ≤ 2 ^ 92
share_within a b d r la lb e = rw e (share_small a b d la lb)

pub abs_fits : (z : ℤ) → SFits w64 z → unsigned_abs z ≤ 2 ^ 63
abs_fits (pos n) f = omega (arith, f.sfits)
abs_fits (negsuc n) f = omega (arith, f.sfits)

-- a sum in 64 bits, taken over into 128
pub moved_on : (q s x : ℤ) → unsigned_abs q ≤ 35184372088832 → unsigned_abs s ≤ 1073741823
    → x ≡ to_z w64 (of_z w64 (to_z w64 (of_z w64 q) +ℤ to_z w64 (of_z w64 s))) → to_z w128 (of_z w128 x) ≡ q +ℤ s
moved_on q s x lq ls e =
    let bound = sum_bound q s in
    let sum : to_z w64 (of_z w64 (to_z w64 (of_z w64 q) +ℤ to_z w64 (of_z w64 s))) ≡ q +ℤ s = omega (arith, ints) in
    ap (λ z. to_z w128 (of_z w128 z)) (e ∙ sum) ∙ to_z-of_z w128 (q +ℤ s) (fits_signed_from_abs w128 (q +ℤ s) (omega (arith, bound)))

pub moved_on_fits : (q s : ℤ) → unsigned_abs q ≤ 35184372088832 → unsigned_abs s ≤ 1073741823
    → SFits w64 (to_z w64 (of_z w64 q) +ℤ to_z w64 (of_z w64 s))
moved_on_fits q s lq ls =
    rw (to_z-of_z w64 q (fits_signed_from_abs w64 q (omega arith)), to_z-of_z w64 s (fits_signed_from_abs w64 s (omega arith)))
    (let bound = sum_bound q s in fits_signed_from_abs w64 (q +ℤ s) (omega (arith, bound)))

pub same_point : (x y a b : ℤ) → x ≡ a → y ≡ b → point_at x y ≡ point_at a b
same_point x y a b e h = ap (λ z. point_at z y) e ∙ ap (λ z. point_at a z) h

pub fits_scaled : (z : ℤ) → unsigned_abs z ≤ 1073741823 → to_z w64 (of_z w64 z) ≡ z
fits_scaled z small = to_z-of_z w64 z (fits_signed_from_abs w64 z (omega arith))
