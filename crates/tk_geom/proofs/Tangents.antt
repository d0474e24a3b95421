-- Angles of at most 22.5 degrees have a tangent: their sines are below that of 23 degrees, their cosines above that of 67 degrees less.
use Rattle.std.proofs.Common.{◌≡◌, ℕ, zero, suc, ◌+◌, ◌-◌, ◌*◌, ◌/◌, ◌%◌, ◌<◌, ◌≤◌, true, false, eqb, ltb, leb, get_or, Ok, ℤ, pos, negsuc, neg_ℤ}
use Rattle.std.proofs.Common.{◌+ℤ◌, ◌*ℤ◌, IsOk, int_div, unsigned_abs, refl, ap, ◌∙◌, arith}
use Rattle.std.proofs.lemmas.Bool.{le-leb}
use Rattle.std.proofs.lemmas.Bool.Decides.{nat_tests}
use Rattle.std.proofs.lemmas.Int.{ints, unsigned_abs-mul}
use Rattle.std.proofs.Math.Nat.{mul-le-mul_left, div-le_of_le-mul}
use Rattle.tk_num.specs.Number.{quotient}
use Rattle.tk_num.specs.Angle.{sines, quarter_sine, turn_sine, sine, cosine, tangent}
use Rattle.tk_num.proofs.Sines.{sines_rise}
use Rattle.tk_geom.proofs.Quotients.{abs_neg, abs_quotient}

-- ---- the table

rise_from : (n k : ℕ) → n + k ≤ 90 → get_or sines n 0 ≤ get_or sines (n + k) 0
rise_from n zero le = let e : n + zero ≡ n = omega arith in rw e (omega arith)
rise_from n (suc k) le =
    let before = rise_from n k (omega arith) in
    let last = sines_rise (n + k) (omega arith) in
    let e : n + suc k ≡ n + k + 1 = omega arith in
    rw e (omega (arith, before, last))

sine_of_23 : get_or sines 23 0 ≡ 25607
unfolding sines
sine_of_23 = refl

sine_of_67 : get_or sines 67 0 ≡ 60326
unfolding sines
sine_of_67 = refl

sines_to_23_are_at_most_that : (n : ℕ) → n ≤ 23 → get_or sines n 0 ≤ 25607
sines_to_23_are_at_most_that n le =
    let rise = rise_from n (23 - n) (omega arith) in
    let e : n + (23 - n) ≡ 23 = omega arith in
    omega (arith, rw e at rise, sine_of_23)

sines_from_67_are_at_least_that : (n : ℕ) → 67 ≤ n → n ≤ 90 → 60326 ≤ get_or sines n 0
sines_from_67_are_at_least_that n low high =
    let rise = rise_from 67 (n - 67) (omega arith) in
    let e : 67 + (n - 67) ≡ n = omega arith in
    omega (arith, rw e at rise, sine_of_67)

-- ---- between two degrees

sine_between_is_between : (low high part : ℕ) → low ≤ high → part < 65536 → low + (high - low) * part / 65536 ≤ high
sine_between_is_between low high part le lt =
    let m = mul-le-mul_left (high - low) (let l : part ≤ 65536 = omega arith in l) in
    let d = div-le_of_le-mul 65536 {m = (high - low) * part} {n = high - low} (omega (arith, m)) in
    omega (arith, d)

quarter_most : (a : ℕ) → a ≤ 1474560 → quarter_sine a ≤ 25607
quarter_most a le =
    let b = sine_between_is_between (get_or sines (a / 65536) 0) (get_or sines (a / 65536 + 1) 0) (a % 65536) (sines_rise (a / 65536) (omega arith))
    (omega arith) in
    let m = sines_to_23_are_at_most_that (a / 65536 + 1) (omega arith) in
    omega (arith, b, m)

quarter_least : (a : ℕ) → 4423680 ≤ a → a ≤ 5898240 → 60326 ≤ quarter_sine a
quarter_least a low high = let l = sines_from_67_are_at_least_that (a / 65536) (omega arith) (omega arith) in omega (arith, l)

-- ---- angles of both signs

turn_low : (a : ℕ) → a ≤ 5898240 → turn_sine a ≡ pos (quarter_sine a)
turn_low a le = let s : ltb a 11796480 ≡ true = grind (arith, nat_tests) in let t : leb a 5898240 ≡ true = le-leb a 5898240 le in rw (s, t) refl

turn_past : (a : ℕ) → 5898240 < a → a < 11796480 → turn_sine a ≡ pos (quarter_sine (11796480 - a))
turn_past a low high =
    let s : ltb a 11796480 ≡ true = grind (arith, nat_tests) in let t : leb a 5898240 ≡ false = grind (arith, nat_tests) in rw (s, t) refl

turn_last : (a : ℕ) → 17694720 < a → a < 23592960 → turn_sine a ≡ neg_ℤ (pos (quarter_sine (11796480 - (a - 11796480))))
turn_last a low high =
    let s : ltb a 11796480 ≡ false = grind (arith, nat_tests) in let t : leb (a - 11796480) 5898240 ≡ false = grind (arith, nat_tests)
    in rw (s, t) refl

sine_of : (angle : ℤ) → unsigned_abs angle ≤ 1474560 → unsigned_abs (sine angle) ≤ 25607
sine_of (pos n) le =
    let e : n % 23592960 ≡ n = omega arith in
    let t = ap (λ k. unsigned_abs (turn_sine k)) e ∙ ap unsigned_abs (turn_low n (omega arith)) in
    omega (arith, t, quarter_most n le)
sine_of (negsuc n) le =
    let e : 23592960 - 1 - n % 23592960 ≡ 23592959 - n = omega arith in
    let k : 11796480 - ((23592959 - n) - 11796480) ≡ suc n = omega arith in
    let t = ap (λ k. unsigned_abs (turn_sine k)) e ∙ ap unsigned_abs (turn_last (23592959 - n) (omega arith) (omega arith)) ∙ abs_neg
    (quarter_sine (11796480 - ((23592959 - n) - 11796480))) ∙ ap quarter_sine k in
    omega (arith, t, quarter_most (suc n) le)

-- the cosine of such an angle is that sine of what it leaves of 90 degrees
cosine_at : (a n : ℕ) → a < 11796480 → turn_sine a ≡ pos (quarter_sine n) → turn_sine (a % 23592960) ≡ pos (quarter_sine n)
cosine_at a n lt e = let m : a % 23592960 ≡ a = omega arith in ap turn_sine m ∙ e

cosine_of : (angle : ℤ) → unsigned_abs angle ≤ 1474560 → (n : ℕ) × (cosine angle ≡ pos n) × (60326 ≤ n)
cosine_of (pos zero) le = (
  quarter_sine 5898240,
  cosine_at 5898240 5898240 (omega arith) (turn_low 5898240 (omega arith)),
  quarter_least 5898240
      (omega arith) (omega arith),
)
cosine_of (pos (suc n)) le =
    let a : suc n + 5898240 < 11796480 = omega arith in (
      quarter_sine (11796480 - (suc n + 5898240)),
      cosine_at (suc n + 5898240) (11796480 - (suc n + 5898240)) a
          (turn_past (suc n + 5898240) (omega arith) a),
      quarter_least (11796480 - (suc n + 5898240)) (omega arith) (omega arith),
    )
cosine_of (negsuc n) le =
    let a : ℕ = 5898240 - suc n in
    let sum : negsuc n +ℤ pos 5898240 ≡ pos (5898240 - suc n) = omega (arith, ints) in
    (quarter_sine a, ap sine sum ∙ cosine_at a a (omega arith) (turn_low a (omega arith)), quarter_least a (omega arith) (omega arith))

-- ---- the quotient of the two

quotient_small : (z : ℤ) (n : ℕ) → unsigned_abs z ≤ 25607 → 60326 ≤ n → unsigned_abs (int_div (z *ℤ pos 65536) (pos n)) ≤ 32768
quotient_small z n low high =
    let e = abs_quotient (z *ℤ pos 65536) n in
    let product = unsigned_abs-mul z (pos 65536) in
    let d = div-le_of_le-mul n {m = unsigned_abs (z *ℤ pos 65536)} {n = 32768} (omega (arith, product)) in
    omega (arith, e, d)

quotient_there : (z : ℤ) (n : ℕ) → unsigned_abs z ≤ 25607 → 60326 ≤ n → quotient z (pos n) ≡ Ok (int_div (z *ℤ pos 65536) (pos n))
quotient_there z n low high =
    let s = quotient_small z n low high in
    let some : eqb n 0 ≡ false = grind (arith, nat_tests) in
    let fits : leb (unsigned_abs (int_div (z *ℤ pos 65536) (pos n))) 1073741823 ≡ true = le-leb _ 1073741823 (omega (arith, s)) in
    rw (some, fits) refl

-- the tangent is there, and at most a half
pub tangent_there : (angle : ℤ) → unsigned_abs angle ≤ 1474560 → (t : ℤ) × (tangent angle ≡ Ok t) × (unsigned_abs t ≤ 32768)
tangent_there angle le =
    let c = cosine_of angle le in
    let s = sine_of angle le in (
      int_div (sine angle *ℤ pos 65536) (pos c.0),
      ap (quotient (sine angle)) c.1 ∙ quotient_there (sine angle) c.0 s c.2,
      quotient_small
          (sine angle) c.0 s c.2,
    )

pub IsOk-tangent : (angle : ℤ) → 2 * unsigned_abs angle ≤ 2949120 → IsOk (tangent angle)
IsOk-tangent angle le = let t = tangent_there angle (omega arith) in rw t.1 refl
