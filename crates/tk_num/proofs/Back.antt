-- Texts that are printed read back, and no shorter ones do.
use Rattle.std.proofs.Common.{◌≡◌, ◌≢◌, ℕ, ◌+◌, ◌*◌, ◌/◌, ◌%◌, ◌^◌, ◌<◌, ◌≤◌, Bool, true, false, eqb, leb, ltb, lt-ltb, le-leb, List, [], ◌∷◌, length}
use Rattle.std.proofs.Common.{Option, Some, None, ℤ, pos, unsigned_abs, refl, sym, ap, ◌∙◌, arith, inl, inr, eq-eqb, eqb-true}
use Rattle.std.specs.List.{list_all, position_or_len}
use Rattle.std.specs.Char.{is_ascii_digit}
use Rattle.std.specs.Str.Parse.{digits_value}
use Rattle.std.specs.Fmt.{decimal}
use Rattle.std.proofs.lemmas.Bool.{cases_lt}
use Rattle.std.proofs.lemmas.Int.Digits.{digits_value-lt}
use Rattle.std.proofs.lemmas.List.{take_all, drop_all}
use Rattle.tk_num.specs.Number.{is_point, nearest_65536th, whole_digits, part_digits, is_decimal, decimal_value, decimal_parts, fraction_of}
use Rattle.tk_num.specs.Text.{IsBest, places, fewest_digits, text_of}
use Rattle.tk_num.proofs.Best.{is_best}
use Rattle.tk_num.proofs.Chosen.{size_text, size_reads, places-size, part_passes, no_carry}
use Rattle.tk_num.proofs.Fixed.{and_is_both, not_point, digits_are_ascii, are_digits, fraction_is, decimal_all, decimal_some, value-decimal}
use Rattle.tk_num.proofs.Printed.{text-pointed, text-whole}

-- ---- digits with no point

no_point : (ds : List ℕ) → list_all is_ascii_digit ds ≡ true → position_or_len is_point ds ≡ length ds
no_point [] all = refl
no_point (d ∷ ds) all =
    let two = and_is_both (is_ascii_digit d) (list_all is_ascii_digit ds) all in
    rw (not_point d two.0) (omega (arith, no_point ds two.1))

whole-alone : (ds : List ℕ) → list_all is_ascii_digit ds ≡ true → whole_digits ds ≡ ds
whole-alone ds all = rw (no_point ds all) (take_all (length ds) ds (omega arith))

part-alone : (ds : List ℕ) → list_all is_ascii_digit ds ≡ true → part_digits ds ≡ []
part-alone ds all = rw (no_point ds all) (drop_all (length ds + 1) ds (omega arith))

-- ---- reading back

parts_when : (text : List ℕ) (n : ℕ) → is_decimal text ≡ true → decimal_value text ≡ n → n / 65536 ≤ 1073741823
    → decimal_parts text ≡ Some (pos (n / 65536), pos (n % 65536))
parts_when text n d v le =
    let few : leb (decimal_value text / 65536) 1073741823 ≡ true = le-leb _ _ (omega (arith, v, le)) in
    rw (d, few) (ap (λ k. Some (pos (k / 65536), pos (k % 65536))) v)

whole_back : (n : ℕ) → n < 2 ^ 64 → n % 65536 ≡ 0 → n / 65536 ≤ 1073741823
    → decimal_parts (decimal (n / 65536)) ≡ Some (pos (n / 65536), pos (n % 65536))
whole_back n lt none le =
    let w : ℕ = n / 65536 in
    let small : w < 2 ^ 64 = omega arith in
    let all = digits_are_ascii (decimal w) (decimal_all w small) in
    let any : ltb 0 (length (decimal w) + 0) ≡ true = lt-ltb _ _ (let some = decimal_some w small in omega arith) in
    let is : is_decimal (decimal w) ≡ true = rw (whole-alone (decimal w) all, part-alone (decimal w) all, all, any) refl in
    let value : decimal_value (decimal w) ≡ n =
    ap (λ ds. 65536 * digits_value 10 ds + fraction_of (part_digits (decimal w))) (whole-alone (decimal w) all)
    ∙ ap (λ ds. 65536 * digits_value 10 (decimal w) + fraction_of ds) (part-alone (decimal w) all)
    ∙ ap (λ v. 65536 * v + 0) (value-decimal w small)
    ∙ omega arith in
    parts_when (decimal w) n is value le

size_back : (n : ℕ) → n < 2 ^ 64 → n / 65536 ≤ 1073741823 → decimal_parts (size_text n) ≡ Some (pos (n / 65536), pos (n % 65536))
size_back n lt le = let r = size_reads n lt in parts_when (size_text n) n r.pointed.digits r.value le

pub text_back : (n : ℕ) → n ≤ 4294967295 → decimal_parts (text_of (pos n)) ≡ Some (pos (n / 65536), pos (n % 65536))
text_back n le = by_test (eqb (n % 65536) 0) refl
  where
    by_test : (b : Bool) → eqb (n % 65536) 0 ≡ b → decimal_parts (text_of (pos n)) ≡ Some (pos (n / 65536), pos (n % 65536))
    by_test true t =
        let none : n % 65536 ≡ 0 = eqb-true _ _ t in
        ap decimal_parts (sym (text-whole (pos n) none)) ∙ whole_back n (omega arith) none (omega arith)
    by_test false t =
        let some : n % 65536 ≢ 0 = λ e. absurd (let yes = eq-eqb _ _ e in cc) in
        ap decimal_parts (sym (text-pointed (pos n) some)) ∙ size_back n (omega arith) (omega arith)

-- ---- no shorter text

abbrev read_whole : Option (ℤ × ℤ) → ℕ
read_whole None = 0
read_whole (Some p) = unsigned_abs p.0

abbrev read_part : Option (ℤ × ℤ) → ℕ
read_part None = 0
read_part (Some p) = unsigned_abs p.1

-- what was read is a decimal of the value
was_read : (text : List ℕ) (w f : ℕ) → f < 65536 → decimal_parts text ≡ Some (pos w, pos f)
    → (is_decimal text ≡ true) × (decimal_value text ≡ 65536 * w + f)
was_read text w f lt e = by_tests (is_decimal text) (leb (decimal_value text / 65536) 1073741823) refl refl
  where
    by_tests : (a b : Bool) → is_decimal text ≡ a → leb (decimal_value text / 65536) 1073741823 ≡ b
        → (is_decimal text ≡ true) × (decimal_value text ≡ 65536 * w + f)
    by_tests true true a b =
        let is : ◌≡◌ {A = Option (ℤ × ℤ)} (Some (pos (decimal_value text / 65536), pos (decimal_value text % 65536))) (Some (pos w, pos f))
        = sym (rw (a, b) refl) ∙ e in
        let whole : decimal_value text / 65536 ≡ w = ap read_whole is in
        let part : decimal_value text % 65536 ≡ f = ap read_part is in
        (a, omega (arith, whole, part))
    by_tests true false a b = absurd (let none : None ≡ Some (pos w, pos f) = sym (rw (a, b) refl) ∙ e in cc)
    by_tests false b a h = absurd (let none : None ≡ Some (pos w, pos f) = sym (rw a refl) ∙ e in cc)

-- with no digit after the point there is no fraction
none_in : (ds : List ℕ) → length ds ≡ 0 → ds ≡ []
none_in [] e = refl
none_in (d ∷ ds) e = absurd (omega arith)

no_fraction : (text : List ℕ) → places text ≡ 0 → fraction_of (part_digits text) ≡ 0
no_fraction text e = ap fraction_of (none_in (part_digits text) e)

shortest_part : (n : ℕ) (text : List ℕ) → is_decimal text ≡ true → decimal_value text ≡ n → n % 65536 ≢ 0 → fewest_digits (n % 65536) ≤ places text
shortest_part n text d v ne =
    let f : ℕ = n % 65536 in
    let best : IsBest f (fewest_digits f) _ = is_best f (omega arith) in
    let k : ℕ = places text in
    let digits : ℕ = digits_value 10 (part_digits text) in
    let all = are_digits (part_digits text) (part_passes text d) in
    let below : digits < 10 ^ k = digits_value-lt 10 (part_digits text) all in
    elim (cases_lt 5 k) [
      | inl many ↦ (let most = best.reads.most in omega arith)
      | inr few ↦
          (let part : fraction_of (part_digits text) ≡ nearest_65536th k digits = fraction_is (part_digits text) (omega arith) in
          elim (cases_lt 0 k) [
            | inl some ↦
                (let small = no_carry k digits some few below in
                let reads : nearest_65536th k digits ≡ f = omega (arith, v, part, small) in
                best.fewest k digits (record { some = some; most = few; digits = below; reads = reads }))
            | inr none ↦
                (let whole = no_fraction text (omega arith) in absurd (ne (omega (arith, v, whole))))
          ])
    ]

pub no_shorter : (n : ℕ) (other : List ℕ) → n ≤ 4294967295 → decimal_parts other ≡ Some (pos (n / 65536), pos (n % 65536))
    → places (text_of (pos n)) ≤ places other
no_shorter n other le e = by_test (eqb (n % 65536) 0) refl
  where
    by_test : (b : Bool) → eqb (n % 65536) 0 ≡ b → places (text_of (pos n)) ≤ places other
    by_test true t =
        let none : n % 65536 ≡ 0 = eqb-true _ _ t in
        let all = digits_are_ascii (decimal (n / 65536)) (decimal_all (n / 65536) (omega arith)) in
        let here : places (text_of (pos n)) ≡ 0 = ap places (sym (text-whole (pos n) none)) ∙ ap length (part-alone (decimal (n / 65536)) all) in
        omega (arith, here)
    by_test false t =
        let some : n % 65536 ≢ 0 = λ h. absurd (let yes = eq-eqb _ _ h in cc) in
        let read = was_read other (n / 65536) (n % 65536) (omega arith) e in
        let here : places (text_of (pos n)) ≡ fewest_digits (n % 65536) = ap places (sym (text-pointed (pos n) some)) ∙ places-size n (omega arith) in
        let least = shortest_part n other read.0 (read.1 ∙ omega arith) some in
        omega (arith, here, least)
