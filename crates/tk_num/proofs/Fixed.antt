-- Digits: n digits that write a number, and the two parts of a text with a point.
use Rattle.std.proofs.Common.{◌≡◌, ℕ, zero, suc, ◌+◌, ◌*◌, ◌/◌, ◌%◌, ◌^◌, ◌<◌, ◌≤◌, Bool, true, false, ◌&&◌, List, [], ◌∷◌, ◌++◌, length, refl, sym}
use Rattle.std.proofs.Common.{ap, subst, ◌∙◌, arith, length-append}
use Rattle.std.specs.List.{list_all, position_or_len}
use Rattle.std.specs.Char.{is_ascii_digit, digit_value}
use Rattle.std.specs.Str.Parse.{digits_value, digits_value_after, AllDigits}
use Rattle.std.specs.Fmt.{decimal}
use Rattle.std.proofs.Math.Nat.{pow-suc}
use Rattle.std.proofs.Math.Seq.{take-append_seam, drop-append-add}
use Rattle.std.proofs.lemmas.Bool.Decides.{nat_tests}
use Rattle.std.proofs.lemmas.Fmt.{decimal_is_IsNumeral, length-decimal-le}
use Rattle.std.proofs.lemmas.Int.Digits.{digits_push, digits_value_push, digits_value-lt}
use Rattle.std.proofs.lemmas.List.{take_all}
use Rattle.tk_num.specs.Number.{is_point, whole_digits, part_digits, fraction_of, nearest_65536th}
use Rattle.tk_num.specs.Text.{fixed_digits}
use Rattle.tk_num.proofs.Digits.{digit_bounds, digit_value_of}

-- ---- n digits that write a number

pub glyph_value : (d : ℕ) → d < 10 → digit_value (48 + d) ≡ d
glyph_value d lt = grind (arith, nat_tests)

pub fixed_all : (n m : ℕ) → AllDigits 10 (fixed_digits n m)
fixed_all zero m = tt
fixed_all (suc n) m =
    digits_push 10 (fixed_digits n (m / 10)) (48 + m % 10) (fixed_all n (m / 10)) (rw (glyph_value (m % 10) (omega arith)) (omega arith))

pub length-fixed : (n m : ℕ) → length (fixed_digits n m) ≡ n
length-fixed zero m = refl
length-fixed (suc n) m = omega (arith, length-append (fixed_digits n (m / 10)) ((48 + m % 10) ∷ []), length-fixed n (m / 10))

pub value-fixed : (n m : ℕ) → m < 10 ^ n → digits_value 10 (fixed_digits n m) ≡ m
value-fixed zero m lt = omega arith
value-fixed (suc n) m lt =
    let front : m / 10 < 10 ^ n = let l : m < 10 ^ n * 10 = rw (← pow-suc 10 n) lt in omega arith in
    digits_value_push 10 (fixed_digits n (m / 10)) (48 + m % 10) ∙ rw (value-fixed n (m / 10) front, glyph_value (m % 10) (omega arith)) (omega arith)

pub fraction_is : (ds : List ℕ) → length ds ≤ 17 → fraction_of ds ≡ nearest_65536th (length ds) (digits_value 10 ds)
fraction_is ds few = ap (λ (xs : List ℕ). nearest_65536th (length xs) (digits_value 10 xs)) (take_all 17 ds few)

pub fraction-fixed : (n m : ℕ) → n ≤ 17 → m < 10 ^ n → fraction_of (fixed_digits n m) ≡ nearest_65536th n m
fraction-fixed n m few lt =
    fraction_is (fixed_digits n m) (omega (arith, length-fixed n m))
    ∙ ap (λ (k : ℕ). nearest_65536th k (digits_value 10 (fixed_digits n m))) (length-fixed n m)
    ∙ ap (λ (k : ℕ). nearest_65536th n k) (value-fixed n m lt)

-- ---- the two words for digits

digit_passes : (c : ℕ) → digit_value c < 10 → is_ascii_digit c ≡ true
digit_passes c lt = grind (arith, nat_tests)

pub digits_are_ascii : (ds : List ℕ) → AllDigits 10 ds → list_all is_ascii_digit ds ≡ true
digits_are_ascii [] all = refl
digits_are_ascii (d ∷ ds) all = rw (digit_passes d all.0, digits_are_ascii ds all.1) refl

pub and_is_both : (a b : Bool) → (a && b) ≡ true → (a ≡ true) × (b ≡ true)
and_is_both true true e = (refl, refl)
and_is_both true false e = absurd (cc)
and_is_both false true e = absurd (cc)
and_is_both false false e = absurd (cc)

pub are_digits : (ds : List ℕ) → list_all is_ascii_digit ds ≡ true → AllDigits 10 ds
are_digits [] e = tt
are_digits (d ∷ ds) e =
    let two = and_is_both (is_ascii_digit d) (list_all is_ascii_digit ds) e in
    let b = digit_bounds d two.0 in
    (rw (digit_value_of d two.0) (omega (arith, b)), are_digits ds two.1)

-- ---- the value of digits in two parts

after_append : (n : ℕ) (xs ys : List ℕ) → digits_value_after 10 n (xs ++ ys) ≡ digits_value_after 10 (digits_value_after 10 n xs) ys
after_append n [] ys = refl
after_append n (x ∷ xs) ys = after_append (n * 10 + digit_value x) xs ys

digits_shift : (n v p r : ℕ) → (n * 10 + v) * p + r ≡ n * (p * 10) + ((0 * 10 + v) * p + r)
digits_shift n v p r = omega arith

after_from : (n : ℕ) (ys : List ℕ) → digits_value_after 10 n ys ≡ n * 10 ^ length ys + digits_value_after 10 0 ys
after_from n [] = omega arith
after_from n (y ∷ ys) =
    after_from (n * 10 + digit_value y) ys
    ∙ digits_shift n (digit_value y) (10 ^ length ys) (digits_value_after 10 0 ys)
    ∙ ap (λ p. n * p + ((0 * 10 + digit_value y) * 10 ^ length ys + digits_value_after 10 0 ys)) (sym (pow-suc 10 (length ys)))
    ∙ ap (λ r. n * 10 ^ length (y ∷ ys) + r) (sym (after_from (0 * 10 + digit_value y) ys))

pub value-append : (xs ys : List ℕ) → digits_value 10 (xs ++ ys) ≡ digits_value 10 xs * 10 ^ length ys + digits_value 10 ys
value-append xs ys = after_append 0 xs ys ∙ after_from (digits_value 10 xs) ys

-- ---- a point between digits

pub not_point : (c : ℕ) → is_ascii_digit c ≡ true → is_point c ≡ false
not_point c e = let b = digit_bounds c e in grind (arith, nat_tests)

pub point_place : (ds rest : List ℕ) → list_all is_ascii_digit ds ≡ true → position_or_len is_point (ds ++ 46 ∷ rest) ≡ length ds
point_place [] rest all = refl
point_place (d ∷ ds) rest all =
    let two = and_is_both (is_ascii_digit d) (list_all is_ascii_digit ds) all in
    rw (not_point d two.0) (omega (arith, point_place ds rest two.1))

pub whole-joined : (ds rest : List ℕ) → list_all is_ascii_digit ds ≡ true → whole_digits (ds ++ 46 ∷ rest) ≡ ds
whole-joined ds rest all = rw (point_place ds rest all) (take-append_seam ds (46 ∷ rest))

pub part-joined : (ds rest : List ℕ) → list_all is_ascii_digit ds ≡ true → part_digits (ds ++ 46 ∷ rest) ≡ rest
part-joined ds rest all = rw (point_place ds rest all) (drop-append-add ds (46 ∷ rest) 1)

-- ---- whole numbers

pub decimal_all : (w : ℕ) → w < 2 ^ 64 → AllDigits 10 (decimal w)
decimal_all w lt = (decimal_is_IsNumeral w lt).0.1

pub decimal_some : (w : ℕ) → w < 2 ^ 64 → 0 < length (decimal w)
decimal_some w lt = (decimal_is_IsNumeral w lt).0.0

pub value-decimal : (w : ℕ) → w < 2 ^ 64 → digits_value 10 (decimal w) ≡ w
value-decimal w lt = (decimal_is_IsNumeral w lt).1

-- a zero stands in front only where it is the only digit
pub no_needless_zero : (w : ℕ) (rest : List ℕ) → w < 2 ^ 64 → decimal w ≡ 48 ∷ rest → rest ≡ []
no_needless_zero w [] lt e = refl
no_needless_zero w (d ∷ ds) lt e =
    let all : AllDigits 10 (48 ∷ (d ∷ ds)) = subst (λ xs. AllDigits 10 xs) e (decimal_all w lt) in
    let value : digits_value 10 (48 ∷ (d ∷ ds)) ≡ w = ap (λ xs. digits_value 10 xs) (sym e) ∙ value-decimal w lt in
    let same : digits_value 10 (48 ∷ (d ∷ ds)) ≡ digits_value 10 (d ∷ ds) = refl in
    let below : digits_value 10 (d ∷ ds) < 10 ^ length (d ∷ ds) = digits_value-lt 10 (d ∷ ds) all.1 in
    let short : length (decimal w) ≤ length (d ∷ ds) = length-decimal-le (length (d ∷ ds)) w (omega arith) (omega (arith, value, same, below)) lt in
    absurd (omega (arith, ap length e, short))
