-- There is one chosen text.
use Rattle.std.proofs.Common.{◌≡◌, ℕ, ◌+◌, ◌*◌, ◌/◌, ◌^◌, ◌<◌, ◌≤◌, List, [], ◌∷◌, ◌++◌, length, get_or, ℤ, unsigned_abs, refl, sym, ap, subst, ◌∙◌}
use Rattle.std.proofs.Common.{arith}
use Rattle.std.specs.Char.{digit_value}
use Rattle.std.specs.Str.Parse.{digits_value, AllDigits}
use Rattle.std.specs.Fmt.{decimal}
use Rattle.std.proofs.lemmas.Bool.Decides.{nat_tests}
use Rattle.std.proofs.lemmas.Fmt.{decimal-digits_value}
use Rattle.std.proofs.lemmas.Int.Digits.{digits_value-lt}
use Rattle.std.proofs.lemmas.Nat.{div-mul-add}
use Rattle.std.proofs.lemmas.Str.Parse.{IsNumeralModel}
use Rattle.tk_num.specs.Number.{whole_digits, part_digits}
use Rattle.tk_num.specs.Text.{IsChosen, ReadsBack, IsTextOf, IsPointedTextOf, places, number_without_point, distance_from, sign_text, pointed_text}
use Rattle.tk_num.specs.Text.{text_of, without_zero}
use Rattle.tk_num.proofs.Chosen.{size_text, size_chosen, text_splits, text-is, pointed-is, whole_passes, part_passes, whole-size}
use Rattle.tk_num.proofs.Fixed.{are_digits, value-append}

-- ---- digits are known by their count and their number

first_digit : (x : ℕ) (xs : List ℕ) → digits_value 10 (x ∷ xs) ≡ digit_value x * 10 ^ length xs + digits_value 10 xs
first_digit x xs = value-append (x ∷ []) xs ∙ ap (λ d. d * 10 ^ length xs + digits_value 10 xs) (omega arith)

quotient_same : (p a b c d : ℕ) → a < p → c < p → b * p + a ≡ d * p + c → b ≡ d
quotient_same p a b c d la lc e = sym (div-mul-add b p a la) ∙ ap (λ n. n / p) e ∙ div-mul-add d p c lc

digit_same : (x y : ℕ) → digit_value x < 10 → digit_value y < 10 → digit_value x ≡ digit_value y → x ≡ y
digit_same x y lx ly e = grind (arith, nat_tests)

rest_same : (m a b : ℕ) → m + a ≡ m + b → a ≡ b
rest_same m a b e = omega arith

pub same_digits : (xs ys : List ℕ) → AllDigits 10 xs → AllDigits 10 ys → length xs ≡ length ys → digits_value 10 xs ≡ digits_value 10 ys → xs ≡ ys
same_digits [] [] a b l v = refl
same_digits [] (y ∷ ys) a b l v = absurd (omega arith)
same_digits (x ∷ xs) [] a b l v = absurd (omega arith)
same_digits (x ∷ xs) (y ∷ ys) a b l v =
    let count : length xs ≡ length ys = omega arith in
    let p : ℕ = 10 ^ length xs in
    let low = digits_value-lt 10 xs a.1 in
    let low2 : digits_value 10 ys < p = subst (λ n. digits_value 10 ys < 10 ^ n) (sym count) (digits_value-lt 10 ys b.1) in
    let all : digit_value x * p + digits_value 10 xs ≡ digit_value y * p + digits_value 10 ys =
    sym (first_digit x xs) ∙ v ∙ first_digit y ys ∙ ap (λ n. digit_value y * 10 ^ n + digits_value 10 ys) (sym count) in
    let first : digit_value x ≡ digit_value y = quotient_same p (digits_value 10 xs) (digit_value x) (digits_value 10 ys) (digit_value y) low low2 all
    in
    let rest : digits_value 10 xs ≡ digits_value 10 ys = rest_same (digit_value x * p) (digits_value 10 xs) (digits_value 10 ys) (all
    ∙ ap (λ d. d * p + digits_value 10 ys) (sym first)) in
    ap (λ c. c ∷ xs) (digit_same x y a.0 b.0 first) ∙ ap (λ cs. y ∷ cs) (same_digits xs ys a.1 b.1 count rest)

digits_are_numerals : IsNumeralModel (AllDigits 10) (digits_value 10)
digits_are_numerals = record { to = λ ds h. h; from = λ ds h. h; same = λ ds h. refl }

-- ---- the choice

lone_zero : (ds : List ℕ) → 1 ≤ length ds → ((rest : List ℕ) → ds ≡ 48 ∷ rest → rest ≡ []) → get_or ds 0 0 ≡ 48 → length ds ≡ 1
lone_zero [] some h e = absurd (omega arith)
lone_zero (d ∷ ds) some h e = let none = h ds (ap (λ c. c ∷ ds) e) in omega (arith, ap length none)

whole_same : (n : ℕ) (text : List ℕ) → n < 2 ^ 64 → ReadsBack n text → whole_digits text ≡ decimal (n / 65536)
whole_same n text lt r =
    let ds : List ℕ = whole_digits text in
    let value : digits_value 10 ds ≡ n / 65536 = (text_splits n text r).whole in
    let all = are_digits ds (whole_passes text r.pointed.digits) in
    sym (decimal-digits_value digits_are_numerals ds all r.pointed.whole (lone_zero ds r.pointed.whole r.pointed.needed) (omega (arith, value)))
    ∙ ap decimal value

part_same : (n : ℕ) (a b : List ℕ) → ReadsBack n a → ReadsBack n b → places a ≡ places b → number_without_point a ≡ number_without_point b
    → part_digits a ≡ part_digits b
part_same n a b r s count number =
    let p : ℕ = n / 65536 * 10 ^ places a in
    let here = (text_splits n a r).number in
    let there : number_without_point b ≡ p + digits_value 10 (part_digits b) = (text_splits n b s).number
    ∙ ap (λ j. n / 65536 * 10 ^ j + digits_value 10 (part_digits b)) (sym count) in
    let value : digits_value 10 (part_digits a) ≡ digits_value 10 (part_digits b) = rest_same p _ _ (sym here ∙ number ∙ there) in
    same_digits (part_digits a) (part_digits b) (are_digits _ (part_passes a r.pointed.digits)) (are_digits _ (part_passes b s.pointed.digits)) count
    value

only_chosen : (n : ℕ) (text : List ℕ) → n < 2 ^ 64 → IsChosen n text → text ≡ size_text n
only_chosen n text lt h =
    let t : List ℕ = size_text n in
    let k = size_chosen n lt in
    let count : places text ≡ places t = (let a = h.fewest t k.reads in let b = k.fewest text h.reads in omega arith) in
    let near : distance_from n text ≤ distance_from n t = h.nearest t k.reads (sym count) in
    let near2 : distance_from n t ≤ distance_from n text = k.nearest text h.reads count in
    let tie : distance_from n text ≡ distance_from n t = same _ _ near near2 in
    let up : number_without_point t ≤ number_without_point text = h.greatest t k.reads (sym count) tie in
    let down : number_without_point text ≤ number_without_point t = k.greatest text h.reads count (sym tie) in
    let number : number_without_point text ≡ number_without_point t = same _ _ down up in
    let whole : whole_digits text ≡ whole_digits t = whole_same n text lt h.reads ∙ sym (whole-size n lt) in
    let part : part_digits text ≡ part_digits t = part_same n text t h.reads k.reads count number in
    h.reads.pointed.point
    ∙ ap (λ ds. ds ++ 46 ∷ part_digits text) whole
    ∙ ap (λ ds. whole_digits t ++ 46 ∷ ds) part
    ∙ sym k.reads.pointed.point
  where
    same : (a b : ℕ) → a ≤ b → b ≤ a → a ≡ b
    same a b l m = omega arith

pub only_pointed_text : (z : ℤ) (text : List ℕ) → unsigned_abs z < 2 ^ 64 → IsPointedTextOf z text → text ≡ pointed_text z
only_pointed_text z text lt h =
    h.written ∙ ap (λ ds. sign_text z ++ ds) (only_chosen (unsigned_abs z) h.size lt h.chosen) ∙ sym (pointed-is z)

pub only_text : (z : ℤ) (text : List ℕ) → unsigned_abs z < 2 ^ 64 → IsTextOf z text → text ≡ text_of z
only_text z text lt h =
    h.written ∙ ap (λ ds. sign_text z ++ without_zero ds) (only_chosen (unsigned_abs z) h.size lt h.chosen) ∙ sym (text-is z lt)
