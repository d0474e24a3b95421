-- Digits read one after another.
use Rattle.std.proofs.Common.{◌≡◌, ℕ, ◌+◌, ◌-◌, ◌*◌, ◌^◌, ◌<◌, ◌≤◌, true, List, length, get_or, take, ap, ◌∙◌, arith, min, length-take}
use Rattle.std.specs.List.{list_all}
use Rattle.std.specs.Char.{is_ascii_digit, digit_value}
use Rattle.std.specs.Str.Parse.{digits_value}
use Rattle.std.proofs.Math.Nat.{pow-le-pow_right, div-lt_iff_lt-mul}
use Rattle.std.proofs.lemmas.Grind.{pow_more}
use Rattle.std.proofs.lemmas.Int.Digits.{digits_value_more}
use Rattle.std.proofs.lemmas.Str.Parse.{digits_value-take-le}
use Rattle.std.proofs.lemmas.List.Folds.{list_all_at, list_all_more}
use Rattle.std.proofs.lemmas.Bool.Decides.{nat_tests}
use Rattle.std.proofs.lemmas.Bool.{true_from_ne_false}
use Rattle.tk_num.specs.Number.{nearest_65536th}

pub digit_bounds : (c : ℕ) → is_ascii_digit c ≡ true → (48 ≤ c) × (c ≤ 57)
digit_bounds c e = grind (arith, nat_tests)

pub digit_value_of : (c : ℕ) → is_ascii_digit c ≡ true → digit_value c ≡ c - 48
digit_value_of c e = let b = digit_bounds c e in grind (arith, nat_tests)

pub digit_at : (ds : List ℕ) (i : ℕ) → list_all is_ascii_digit ds ≡ true → i < length ds → is_ascii_digit (get_or ds i 0) ≡ true
digit_at ds i all lt = true_from_ne_false _ (λ e. let f = list_all_at is_ascii_digit ds i 0 lt e in cc)

-- the number of one digit more
pub value_more : (ds : List ℕ) (i : ℕ) → i < length ds → is_ascii_digit (get_or ds i 0) ≡ true
    → digits_value 10 (take (i + 1) ds) ≡ digits_value 10 (take i ds) * 10 + (get_or ds i 0 - 48)
value_more ds i lt d = digits_value_more 10 ds i lt ∙ ap (λ x. digits_value 10 (take i ds) * 10 + x) (digit_value_of _ d)

-- the bound of one digit more
pub below_pow_more : (n i d : ℕ) → n < 10 ^ i → d ≤ 9 → n * 10 + d < 10 ^ (i + 1)
below_pow_more n i d lt le = rw (pow_more 10 i) (omega arith)

pub powers_of_ten_rise_to_17 : (i : ℕ) → i ≤ 17 → 10 ^ i ≤ 10 ^ 17
powers_of_ten_rise_to_17 i le = pow-le-pow_right (omega arith) le

-- more digits never make a smaller number
pub value_bound : (ds : List ℕ) (i most : ℕ) → most < digits_value 10 (take i ds) → most < digits_value 10 ds
value_bound ds i most lt = omega (arith, digits_value-take-le 10 ds i (omega arith))

-- one digit more
pub all_more : (ds : List ℕ) (i : ℕ) → i < length ds → list_all is_ascii_digit (take i ds) ≡ true → is_ascii_digit (get_or ds i 0) ≡ true
    → list_all is_ascii_digit (take (i + 1) ds) ≡ true
all_more ds i lt all d = rw (list_all_more is_ascii_digit ds i 0 lt) (rw all d)

pub bounds_at : (ds : List ℕ) (i : ℕ) → list_all is_ascii_digit ds ≡ true → i < length ds → (48 ≤ get_or ds i 0) × (get_or ds i 0 ≤ 57)
bounds_at ds i all lt = digit_bounds (get_or ds i 0) (digit_at ds i all lt)

-- the first digits are as many as were asked for
pub length_of_first : (n most : ℕ) (ds : List ℕ) → n ≡ min (length ds) most → length (take n ds) ≡ n
length_of_first n most ds e = omega (arith, length-take n ds)

-- a fraction is at most one
pub nearest_is_small : (n m : ℕ) → m < 10 ^ n → nearest_65536th n m ≤ 65536
nearest_is_small n m lt =
    let some : 0 < 2 * 10 ^ n = omega arith in
    let below : nearest_65536th n m < 65537 = (div-lt_iff_lt-mul {k = 2 * 10 ^ n} {x = 131072 * m + 10 ^ n} {y = 65537} some).1 (omega arith) in
    omega (arith, below)
