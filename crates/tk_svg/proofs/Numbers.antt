-- The text of a number reads back.
use Rattle.std.proofs.Common.{◌≡◌, ℕ, suc, ◌+◌, ◌*◌, ◌/◌, ◌%◌, ◌^◌, ◌<◌, ◌≤◌, Bool, true, false, cond, eqb, ltb, leb, List, [], ◌∷◌, ◌++◌, length}
use Rattle.std.proofs.Common.{Some, refl, sym, ap, ◌∙◌, arith, append_assoc, add-zero}
use Rattle.std.specs.Prelude.{ℤ, pos, negsuc, unsigned_abs, decimal}
use Rattle.std.specs.Char.{is_ascii_digit, digit_value}
use Rattle.std.specs.Str.Parse.{AllDigits}
use Rattle.std.proofs.lemmas.Fmt.{decimal_is_IsNumeral}
use Rattle.std.proofs.lemmas.Str.Parse.{digit_from_value}
use Rattle.std.proofs.lemmas.List.{append-nil}
use Rattle.std.proofs.lemmas.Bool.{lt-ltb, le-leb, eqb-true, false_from_ne_true}
use Rattle.std.proofs.lemmas.Bool.Decides.{nat_tests}
use Rattle.tk_num.specs.Number.{fraction_of, nearest_65536th}
use Rattle.tk_num.specs.Text.{fixed_digits, fewest_digits, nearest_digits, part_text, text_of, IsBest}
use Rattle.tk_num.proofs.Best.{is_best}
use Rattle.tk_num.proofs.Fixed.{fixed_all, fraction-fixed, decimal_all, decimal_some, value-decimal}
use Rattle.tk_svg.specs.Scan.{digits_of, after_digits, digits_behind_point, after_part, value_of, unsigned_from, unsigned_at, number_at}

-- a digit is one
pub digit_is : (c : ℕ) → digit_value c < 10 → is_ascii_digit c ≡ true
digit_is c lt = let r = digit_from_value c lt in grind (arith, nat_tests)

not_mark : (c m : ℕ) → is_ascii_digit c ≡ true → is_ascii_digit m ≡ false → eqb c m ≡ false
not_mark c m d e =
    false_from_ne_true _ (λ h. let same : c ≡ m = eqb-true c m h in let g : is_ascii_digit m ≡ true = ap is_ascii_digit (sym same) ∙ d in cc)

-- no digit stands in front
abbrev pub EndsDigits : List ℕ → Type 0
EndsDigits [] = Unit {0}
EndsDigits (c ∷ cs) = is_ascii_digit c ≡ false

-- neither a digit nor a point stands in front
abbrev pub EndsNumber : List ℕ → Type 0
EndsNumber [] = Unit {0}
EndsNumber (c ∷ cs) = (is_ascii_digit c ≡ false) × (eqb c 46 ≡ false)

digits_front : (ds rest : List ℕ) → AllDigits 10 ds → EndsDigits rest → (digits_of (ds ++ rest) ≡ ds) × (after_digits (ds ++ rest) ≡ rest)
digits_front [] [] h e = (refl, refl)
digits_front [] (c ∷ cs) h e = (rw e refl, rw e refl)
digits_front (d ∷ ds) rest h e =
    let first = digit_is d h.0 in
    let more = digits_front ds rest h.1 e in
    (rw first (ap (λ w. d ∷ w) more.0), rw first more.1)

unsigned_from_is : (whole part rest : List ℕ) (v : ℕ) → 0 < length whole → value_of whole part ≡ v → v ≤ 4294967295
    → unsigned_from whole part rest ≡ Some (v, rest)
unfolding unsigned_from
unsigned_from_is whole part rest v some is le =
    let t : ltb 0 (length whole + length part) ≡ true = lt-ltb _ _ (omega arith) in
    let u : leb (value_of whole part) 4294967295 ≡ true = rw is (le-leb _ _ le) in
    rw (t, u, is) refl

unsigned_at_is : (bytes whole part rest : List ℕ) (v : ℕ) → digits_of bytes ≡ whole → digits_behind_point (after_digits bytes) ≡ part
    → after_part (after_digits bytes) ≡ rest → 0 < length whole → value_of whole part ≡ v → v ≤ 4294967295 → unsigned_at bytes ≡ Some (v, rest)
unfolding unsigned_at
unsigned_at_is bytes whole part rest v e f g some is le =
    ap (λ (x : List ℕ). unsigned_from x (digits_behind_point (after_digits bytes)) (after_part (after_digits bytes))) e
    ∙ ap (λ (x : List ℕ). unsigned_from whole x (after_part (after_digits bytes))) f
    ∙ ap (λ (x : List ℕ). unsigned_from whole part x) g
    ∙ unsigned_from_is whole part rest v some is le

no_part : (rest : List ℕ) → EndsNumber rest → (digits_behind_point rest ≡ []) × (after_part rest ≡ rest)
no_part [] e = (refl, refl)
no_part (c ∷ cs) e = (rw e.1 refl, rw e.1 refl)

no_digits : (rest : List ℕ) → EndsNumber rest → EndsDigits rest
no_digits [] e = tt
no_digits (c ∷ cs) e = e.0

-- a whole number is one number
whole_at : (w : ℕ) (rest : List ℕ) → w ≤ 65535 → EndsNumber rest → unsigned_at (decimal w ++ rest) ≡ Some (65536 * w, rest)
whole_at w rest le e =
    let d = digits_front (decimal w) rest (decimal_all w (omega arith)) (no_digits rest e) in
    let p = no_part rest e in
    let value : value_of (decimal w) [] ≡ 65536 * w = rw (value-decimal w (omega arith)) (add-zero (65536 * w)) in
    unsigned_at_is (decimal w ++ rest) (decimal w) [] rest (65536 * w) d.0 (ap digits_behind_point d.1 ∙ p.0) (ap after_part d.1 ∙ p.1)
    (decimal_some w (omega arith)) value (omega arith)

-- and so is one with digits behind a point
part_at : (w n m : ℕ) (rest : List ℕ) → w ≤ 65535 → n ≤ 17 → m < 10 ^ n → 65536 * w + nearest_65536th n m ≤ 4294967295 → EndsNumber rest
    → unsigned_at (decimal w ++ 46 ∷ (fixed_digits n m ++ rest)) ≡ Some (65536 * w + nearest_65536th n m, rest)
part_at w n m rest le high lt most e =
    let whole = digits_front (decimal w) (46 ∷ (fixed_digits n m ++ rest)) (decimal_all w (omega arith)) refl in
    let part = digits_front (fixed_digits n m) rest (fixed_all n m) (no_digits rest e) in
    let value : value_of (decimal w) (fixed_digits n m) ≡ 65536 * w + nearest_65536th n m =
    ap (λ (k : ℕ). 65536 * k + fraction_of (fixed_digits n m)) (value-decimal w (omega arith))
    ∙ ap (λ (k : ℕ). 65536 * w + k) (fraction-fixed n m high lt) in
    unsigned_at_is (decimal w ++ 46 ∷ (fixed_digits n m ++ rest)) (decimal w) (fixed_digits n m) rest (65536 * w + nearest_65536th n m) whole.0
    (ap digits_behind_point whole.1 ∙ part.0) (ap after_part whole.1 ∙ part.1) (decimal_some w (omega arith)) value most

-- the text of a number without its sign
abbrev pub unsigned_text : ℕ → List ℕ
unsigned_text s = decimal (s / 65536) ++ (cond (eqb (s % 65536) 0) [] (46 ∷ part_text (s % 65536)))

pub unsigned_back : (s : ℕ) (rest : List ℕ) → s ≤ 4294967295 → EndsNumber rest → unsigned_at (unsigned_text s ++ rest) ≡ Some (s, rest)
unsigned_back s rest le e = by_test (eqb (s % 65536) 0) refl
  where
    by_test : (b : Bool) → eqb (s % 65536) 0 ≡ b
        → unsigned_at ((decimal (s / 65536) ++ (cond b [] (46 ∷ part_text (s % 65536)))) ++ rest) ≡ Some (s, rest)
    by_test true t =
        let none : s % 65536 ≡ 0 = eqb-true _ _ t in
        let back : 65536 * (s / 65536) ≡ s = omega arith in
        ap (λ (x : List ℕ). unsigned_at (x ++ rest)) (append-nil (decimal (s / 65536)))
        ∙ whole_at (s / 65536) rest (omega arith) e
        ∙ ap (λ (k : ℕ). Some (k, rest)) back
    by_test false t =
        let w : ℕ = s / 65536 in
        let f : ℕ = s % 65536 in
        let n = fewest_digits f in
        let m = nearest_digits n f in
        let best : IsBest f n m = is_best f (omega arith) in
        let back : 65536 * w + nearest_65536th n m ≡ s = ap (λ (k : ℕ). 65536 * w + k) best.reads.reads ∙ omega arith in
        ap unsigned_at (append_assoc (decimal w) (46 ∷ fixed_digits n m) rest)
        ∙ part_at w n m rest (omega arith) (omega (arith, best.reads.most)) best.reads.digits (omega (arith, back)) e
        ∙ ap (λ (k : ℕ). Some (k, rest)) back

-- digits in front are no sign
no_sign : (ds rest : List ℕ) (s : ℕ) (left : List ℕ) → AllDigits 10 ds → 0 < length ds → unsigned_at (ds ++ rest) ≡ Some (s, left)
    → number_at (ds ++ rest) ≡ Some (pos s, left)
unfolding number_at
no_sign [] rest s left h some e = absurd (omega arith)
no_sign (d ∷ ds) rest s left h some e =
    let digit = digit_is d h.0 in
    let minus : eqb d 45 ≡ false = not_mark d 45 digit refl in
    let plus : eqb d 43 ≡ false = not_mark d 43 digit refl in
    rw (minus, plus, e) refl

pub number_back : (z : ℤ) (rest : List ℕ) → unsigned_abs z ≤ 4294967295 → EndsNumber rest → number_at (text_of z ++ rest) ≡ Some (z, rest)
unfolding number_at text_of
number_back (pos s) rest le e =
    let whole : text_of (pos s) ++ rest ≡ decimal (s / 65536) ++ (cond (eqb (s % 65536) 0) [] (46 ∷ part_text (s % 65536)) ++ rest) = append_assoc
    (decimal (s / 65536)) (cond (eqb (s % 65536) 0) [] (46 ∷ part_text (s % 65536))) rest in
    let digits = decimal_is_IsNumeral (s / 65536) (omega arith) in
    ap number_at whole ∙ no_sign (decimal (s / 65536)) _ s rest digits.0.1 digits.0.0 (ap unsigned_at (sym whole) ∙ unsigned_back s rest le e)
number_back (negsuc k) rest le e = rw (unsigned_back (suc k) rest le e) refl
