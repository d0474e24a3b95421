-- Numbers that are written read back.
use Rattle.std.proofs.Common.{◌≡◌, ℕ, zero, suc, ◌<◌, ◌≤◌, ◌/◌, ◌%◌, Bool, cond, eqb, true, false, List, [], ◌∷◌, ◌++◌, length, Some, refl, sym, ap}
use Rattle.std.proofs.Common.{◌∙◌, arith, append_assoc}
use Rattle.std.specs.Prelude.{ℤ, pos, negsuc, codes, decimal, nat_le, ◌&&◌}
use Rattle.std.specs.List.{list_all, AllByRecursion}
use Rattle.std.specs.Char.{is_ascii_digit}
use Rattle.std.specs.Str.Parse.{AllDigits}
use Rattle.std.proofs.lemmas.Bool.Decides.{nat_tests}
use Rattle.std.proofs.lemmas.Fmt.{decimal_is_IsNumeral}
use Rattle.std.proofs.lemmas.List.{append-nil}
use Rattle.std.proofs.lemmas.List.Folds.{list_all-append}
use Rattle.tk_num.specs.Text.{text_of, part_text, fewest_digits, nearest_digits}
use Rattle.tk_svg.specs.Scan.{is_xml_blank, is_value_byte, after_blanks, after_separator, after_comma, number_at, numbers_at, first_numbers_at}
use Rattle.tk_svg.specs.Scan.{lone_number, numbers_of}
use Rattle.tk_svg.specs.Fitting.{FitsBox}
use Rattle.tk_svg.proofs.Numbers.{digit_is, EndsNumber, number_back}
use Rattle.tk_num.proofs.Fixed.{fixed_all}
use Rattle.tk_svgwrite.specs.Values.{numbers_text}

-- ---- what a text is made of

-- a printable ASCII character that may stand in a value
abbrev pub is_plain : ℕ → Bool
is_plain c = nat_le 32 c && (nat_le c 126 && is_value_byte c)

pub all_both : {A : Type 0} (p : A → Bool) (xs ys : List A) → list_all p xs ≡ true → list_all p ys ≡ true → list_all p (xs ++ ys) ≡ true
all_both p xs ys a b = list_all-append p xs ys ∙ rw (a, b) refl

digit_plain : (c : ℕ) → is_ascii_digit c ≡ true → is_plain c ≡ true
digit_plain c d = grind (arith, nat_tests)

pub digits_plain : (ds : List ℕ) → AllDigits 10 ds → list_all is_plain ds ≡ true
digits_plain [] h = refl
digits_plain (d ∷ ds) h = rw (digit_plain d (digit_is d h.0), digits_plain ds h.1) refl

part_plain : (b : Bool) (f : ℕ) → list_all is_plain (cond b [] (46 ∷ part_text f)) ≡ true
part_plain true f = refl
part_plain false f = digits_plain (part_text f) (fixed_all (fewest_digits f) (nearest_digits (fewest_digits f) f))

unsigned_plain : (n : ℕ) → n ≤ 4294967295 → list_all is_plain (decimal (n / 65536) ++ cond (eqb (n % 65536) 0) [] (46 ∷ part_text (n % 65536))) ≡ true
unsigned_plain n le = all_both is_plain (decimal (n / 65536)) _ (digits_plain _ (decimal_is_IsNumeral (n / 65536) (omega arith)).0.1)
    (part_plain (eqb (n % 65536) 0) (n % 65536))

pub text_plain : (z : ℤ) → FitsBox z → list_all is_plain (text_of z) ≡ true
unfolding text_of
text_plain (pos s) le = unsigned_plain s le
text_plain (negsuc k) le = unsigned_plain (suc k) le

pub numbers_plain : (xs : List ℤ) → AllByRecursion FitsBox xs → list_all is_plain (numbers_text xs) ≡ true
numbers_plain [] h = refl
numbers_plain (x ∷ []) h = text_plain x h.0
numbers_plain (x ∷ (y ∷ ys)) h = all_both is_plain (text_of x ++ codes " ") (numbers_text (y ∷ ys)) (all_both is_plain (text_of x) (codes " ")
    (text_plain x h.0) refl) (numbers_plain (y ∷ ys) h.1)

-- ---- reading back

digit_starts : (c : ℕ) → is_ascii_digit c ≡ true → (is_xml_blank c ≡ false) × (eqb c 44 ≡ false)
digit_starts c d = (grind (arith, nat_tests), grind (arith, nat_tests))

digits_start : (ds rest : List ℕ) → AllDigits 10 ds → 0 < length ds
    → (after_blanks (ds ++ rest) ≡ ds ++ rest) × (after_comma (ds ++ rest) ≡ ds ++ rest)
digits_start [] rest h some = absurd (omega arith)
digits_start (d ∷ ds) rest h some =
    let p = digit_starts d (digit_is d h.0) in
    (rw p.0 refl, rw p.1 refl)

-- a number's text begins with no blank and no comma
text_starts : (z : ℤ) (rest : List ℕ) → FitsBox z
    → (after_blanks (text_of z ++ rest) ≡ text_of z ++ rest) × (after_comma (text_of z ++ rest) ≡ text_of z ++ rest)
unfolding text_of
text_starts (pos s) rest le =
    let whole = append_assoc (decimal (s / 65536)) (cond (eqb (s % 65536) 0) [] (46 ∷ part_text (s % 65536))) rest in
    let digits = decimal_is_IsNumeral (s / 65536) (omega arith) in
    let p = digits_start (decimal (s / 65536)) (cond (eqb (s % 65536) 0) [] (46 ∷ part_text (s % 65536)) ++ rest) digits.0.1 digits.0.0 in
    (ap after_blanks whole ∙ p.0 ∙ sym whole, ap after_comma whole ∙ p.1 ∙ sym whole)
text_starts (negsuc k) rest le = (refl, refl)

-- numbers behind the first
abbrev tail_text : List ℤ → List ℕ
tail_text [] = []
tail_text (y ∷ ys) = 32 ∷ numbers_text (y ∷ ys)

first_then : (x : ℤ) (xs : List ℤ) (rest : List ℕ) → numbers_text (x ∷ xs) ++ rest ≡ text_of x ++ (tail_text xs ++ rest)
first_then x [] rest = refl
first_then x (y ∷ ys) rest = simp append_assoc

tail_ends : (xs : List ℤ) (rest : List ℕ) → EndsNumber rest → EndsNumber (tail_text xs ++ rest)
tail_ends [] rest e = e
tail_ends (y ∷ ys) rest e = (refl, refl)

tail_back : (xs : List ℤ) (rest : List ℕ) → AllByRecursion FitsBox xs → EndsNumber rest
    → numbers_at (length xs) (tail_text xs ++ rest) ≡ Some (xs, rest)
tail_back [] rest h e = refl
tail_back (y ∷ ys) rest h e =
    let starts = text_starts y (tail_text ys ++ rest) h.0 in
    let here : number_at (after_separator (32 ∷ (numbers_text (y ∷ ys) ++ rest))) ≡ Some (y, tail_text ys ++ rest) =
    ap (λ (w : List ℕ). number_at (after_comma (after_blanks w))) (first_then y ys rest) ∙ ap (λ (w : List ℕ). number_at (after_comma w)) starts.0
    ∙ ap number_at starts.1 ∙ number_back y (tail_text ys ++ rest) h.0 (tail_ends ys rest e) in
    rw (here, tail_back ys rest h.1 e) refl

-- numbers behind a letter
pub numbers_back : (x : ℤ) (xs : List ℤ) (rest : List ℕ) → AllByRecursion FitsBox (x ∷ xs) → EndsNumber rest
    → first_numbers_at (length (x ∷ xs)) (numbers_text (x ∷ xs) ++ rest) ≡ Some (x ∷ xs, rest)
numbers_back x xs rest h e =
    let here : number_at (after_blanks (numbers_text (x ∷ xs) ++ rest)) ≡ Some (x, tail_text xs ++ rest) =
    ap (λ (w : List ℕ). number_at (after_blanks w)) (first_then x xs rest) ∙ ap number_at (text_starts x (tail_text xs ++ rest) h.0).0
    ∙ number_back x (tail_text xs ++ rest) h.0 (tail_ends xs rest e) in
    rw (here, tail_back xs rest h.1 e) refl

-- a value that is one number
pub number_of_back : (z : ℤ) → FitsBox z → lone_number (text_of z) ≡ Some z
number_of_back z le = rw (ap number_at (sym (append-nil (text_of z))) ∙ number_back z [] le tt) refl

-- a value that is several
pub list_back : (n : ℕ) (x : ℤ) (xs : List ℤ) → length xs < n → AllByRecursion FitsBox (x ∷ xs) → numbers_of n (numbers_text (x ∷ xs)) ≡ Some (x ∷ xs)
unfolding numbers_of
list_back zero x xs lt h = absurd (omega arith)
list_back (suc n) x [] lt h = rw (ap number_at (sym (append-nil (text_of x))) ∙ number_back x [] h.0 tt) refl
list_back (suc n) x (y ∷ ys) lt h =
    let here : number_at (numbers_text (x ∷ (y ∷ ys))) ≡ Some (x, 32 ∷ numbers_text (y ∷ ys)) =
    ap number_at (append_assoc (text_of x) (codes " ") (numbers_text (y ∷ ys))) ∙ number_back x (32 ∷ numbers_text (y ∷ ys)) h.0 (refl, refl) in
    let whole = sym (append-nil (numbers_text (y ∷ ys))) ∙ first_then y ys [] in
    let starts = text_starts y (tail_text ys ++ []) h.1.0 in
    let next : after_separator (32 ∷ numbers_text (y ∷ ys)) ≡ numbers_text (y ∷ ys) =
    ap (λ (w : List ℕ). after_comma (after_blanks w)) whole ∙ ap after_comma starts.0 ∙ starts.1 ∙ sym whole in
    rw (here, next, list_back n y ys (omega arith) h.1) refl
