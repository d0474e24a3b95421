-- Lengths of vectors, and their parts.
use Rattle.std.proofs.Common.{◌≡◌, ℕ, zero, suc, ℤ, pos, negsuc, neg_ℤ, ◌*ℤ◌, int_div, unsigned_abs, ◌+◌, ◌*◌, ◌/◌, ◌<◌, ◌≤◌, inl, inr, refl, sym, subst}
use Rattle.std.proofs.Common.{ap, ◌∙◌, Fits, SFits, to_z, of_z, arith}
use Rattle.std.specs.Int.{w64, w128}
use Rattle.std.proofs.lemmas.Int.{unsigned_abs-mul, to_z-of_z, to_z_pos, fits_signed_from_abs}
use Rattle.std.proofs.lemmas.Bool.{cases_lt}
use Rattle.tk_num.specs.Number.{IsScaled}
use Rattle.tk_affine.proofs.Wide.{wrapped_product, product_fits}
use Rattle.std.proofs.Math.Nat.{mul-le-mul_left, mul-le-mul_right, div-le_of_le-mul}

square_more : (a b : ℕ) → a ≤ b → a * a ≤ b * b
square_more a b le = let l = mul-le-mul_left a le in let r = mul-le-mul_right b le in omega (arith, l, r)

pub root_most : (a b r : ℕ) → r * r ≤ a * a + b * b → r ≤ a + b
root_most a b r le =
    elim (cases_lt (a + b) r) [
      | inl more ↦ absurd (
          let m = square_more (a + b + 1) r (omega arith) in
          let s : (a + b + 1) * (a + b + 1) ≡ a * a + b * b + 2 * (a * b) + 2 * a + 2 * b + 1 = grind arith in
          omega (arith, m, s, le))
      | inr few ↦ few
    ]

-- neither of two numbers is greater than the root of the sum of their squares
pub root_least : (a b r : ℕ) → a * a + b * b < (r + 1) * (r + 1) → a ≤ r
root_least a b r lt =
    elim (cases_lt r a) [
      | inl more ↦ absurd (let m = square_more (r + 1) a (omega arith) in omega (arith, m, lt))
      | inr few ↦ few
    ]

pub second_root_least : (a b r : ℕ) → a * a + b * b < (r + 1) * (r + 1) → b ≤ r
second_root_least a b r lt = root_least b a r (omega (arith, lt))

pub square_fits : (a : ℕ) → a ≤ 4611686009837453316 → Fits w128 (a * a)
square_fits a la = let s = square_more a 4611686009837453316 la in record { fits = omega (arith, s) }

pub squares_fit : (a b : ℕ) → a ≤ 4611686009837453316 → b ≤ 4611686009837453316 → Fits w128 (a * a + b * b)
squares_fit a b la lb =
    let s = square_more a 4611686009837453316 la in
    let t = square_more b 4611686009837453316 lb in
    record { fits = omega (arith, s, t) }

pub root_fits : (a b r : ℕ) → a ≤ 4611686009837453316 → b ≤ 4611686009837453316 → r * r ≤ a * a + b * b → Fits w64 r
root_fits a b r la lb le = let most = root_most a b r le in record { fits = omega (arith, most, la, lb) }

abs_neg : (k : ℕ) → unsigned_abs (neg_ℤ (pos k)) ≡ k
abs_neg zero = refl
abs_neg (suc k) = refl

abs_quotient : (z : ℤ) (n : ℕ) → unsigned_abs (int_div z (pos n)) ≡ unsigned_abs z / n
abs_quotient (pos a) n = refl
abs_quotient (negsuc a) n = abs_neg (suc a / n)

quotient_most : (a n : ℕ) → 1 ≤ n → a ≤ n → 65536 * a / n ≤ 65536
quotient_most a n some le = div-le_of_le-mul n {m = 65536 * a} {n = 65536} (omega arith)

-- a part of a length is at most 65536 of its 65536ths
pub part_small : (z : ℤ) (n : ℕ) → 1 ≤ n → unsigned_abs z ≤ n → unsigned_abs (int_div (pos 65536 *ℤ z) (pos n)) ≤ 65536
part_small z n some le = rw (abs_quotient (pos 65536 *ℤ z) n, unsigned_abs-mul (pos 65536) z) (quotient_most (unsigned_abs z) n some le)

pub part_is : (z : ℤ) (n : ℕ) → 1 ≤ n → unsigned_abs z ≤ n → n ≤ 2199023255552
    → to_z w64 (of_z w64 (int_div (to_z w64 (of_z w64 (pos 65536 *ℤ to_z w64 (of_z w64 z)))) (to_z w64 n))) ≡ int_div (pos 65536 *ℤ z) (pos n)
part_is z n some le most =
    let small = part_small z n some le in
    ap (λ y. to_z w64 (of_z w64 (int_div y (to_z w64 n)))) (wrapped_product (pos 65536) z 65536 2199023255552 (omega arith) (omega arith)
    (omega arith) (omega arith) (omega arith))
    ∙ ap (λ y. to_z w64 (of_z w64 (int_div (pos 65536 *ℤ z) y))) (to_z_pos w64 n (omega arith))
    ∙ to_z-of_z w64 (int_div (pos 65536 *ℤ z) (pos n)) (fits_signed_from_abs w64 (int_div (pos 65536 *ℤ z) (pos n)) (omega (arith, small)))

pub part_fits : (z : ℤ) (n : ℕ) → 1 ≤ n → unsigned_abs z ≤ n → n ≤ 2199023255552
    → IsScaled (to_z w64 (of_z w64 (int_div (to_z w64 (of_z w64 (pos 65536 *ℤ to_z w64 (of_z w64 z)))) (to_z w64 n))))
part_fits z n some le most =
    let small = part_small z n some le in
    subst (λ y. IsScaled y) (sym (part_is z n some le most)) (omega (arith, small))

-- the numbers of a part's quotient fit
pub part_times_fits : (z : ℤ) (n : ℕ) → unsigned_abs z ≤ n → n ≤ 2199023255552 → SFits w64 (pos 65536 *ℤ to_z w64 (of_z w64 z))
part_times_fits z n le most = product_fits (pos 65536) z 65536 2199023255552 (omega arith) (omega arith) (omega arith) (omega arith) (omega arith)

pub length_fits : (n : ℕ) → n ≤ 2199023255552 → SFits w64 (pos n)
length_fits n most = fits_signed_from_abs w64 (pos n) (omega arith)

pub part_quotient_fits : (z : ℤ) (n : ℕ) → 1 ≤ n → unsigned_abs z ≤ n → n ≤ 2199023255552
    → (0 < n) × SFits w64 (int_div (to_z w64 (of_z w64 (pos 65536 *ℤ to_z w64 (of_z w64 z)))) (to_z w64 n))
part_quotient_fits z n some le most =
    let small = part_small z n some le in
    rw (
      wrapped_product (pos 65536) z 65536 2199023255552 (omega arith) (omega arith) (omega arith) (omega arith) (omega arith),
      to_z_pos w64 n (omega arith),
    )
    (omega arith, fits_signed_from_abs w64 (int_div (pos 65536 *ℤ z) (pos n)) (omega (arith, small)))
