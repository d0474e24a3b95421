-- The text that is found is the choice among all texts.
use Rattle.std.proofs.Common.{◌≡◌, ℕ, ◌+◌, ◌-◌, ◌*◌, ◌/◌, ◌%◌, ◌^◌, ◌<◌, ◌≤◌, Bool, true, false, eqb, ltb, lt-ltb, List, ◌∷◌, ◌++◌, length, ℤ}
use Rattle.std.proofs.Common.{unsigned_abs, refl, sym, ap, subst, ◌∙◌, arith, append_assoc, ◌≢◌, eq-eqb, eqb-true}
use Rattle.std.proofs.lemmas.Bool.Decides.{nat_tests}
use Rattle.tk_num.proofs.Printed.{text-whole, text-pointed}
use Rattle.std.specs.List.{list_all}
use Rattle.std.specs.Char.{is_ascii_digit}
use Rattle.std.specs.Str.Parse.{digits_value}
use Rattle.std.specs.Fmt.{decimal}
use Rattle.std.proofs.lemmas.Int.Digits.{digits_value-lt}
use Rattle.tk_num.specs.Number.{nearest_65536th, whole_digits, part_digits, is_decimal, decimal_value, fraction_of}
use Rattle.tk_num.specs.Text.{IsPointed, ReadsBack, IsChosen, IsBest, ReadsAs, IsTextOf, IsPointedTextOf, distance, distance_from, places}
use Rattle.tk_num.specs.Text.{number_without_point, fixed_digits, fewest_digits, nearest_digits, part_text, sign_text, pointed_text, text_of}
use Rattle.tk_num.specs.Text.{is_lone_zero, without_zero}
use Rattle.tk_num.proofs.Best.{is_best, by_count}
use Rattle.tk_num.proofs.Fixed.{and_is_both, digits_are_ascii, are_digits, fixed_all, length-fixed, value-fixed, fraction-fixed, fraction_is}
use Rattle.tk_num.proofs.Fixed.{decimal_all, decimal_some, value-decimal, no_needless_zero, value-append, whole-joined, part-joined}

-- ---- what any text with a point says

pub part_passes : (text : List ℕ) → is_decimal text ≡ true → list_all is_ascii_digit (part_digits text) ≡ true
part_passes text e = (and_is_both _ _ (and_is_both (list_all is_ascii_digit (whole_digits text)) _ e).1).0

pub whole_passes : (text : List ℕ) → is_decimal text ≡ true → list_all is_ascii_digit (whole_digits text) ≡ true
whole_passes text e = (and_is_both (list_all is_ascii_digit (whole_digits text)) _ e).0

-- one to five digits never come to a whole
pub no_carry : (k d : ℕ) → 1 ≤ k → k ≤ 5 → d < 10 ^ k → nearest_65536th k d < 65536
no_carry k d low high = by_count (λ n. d < 10 ^ n → nearest_65536th n d < 65536) (λ lt. omega arith) (λ lt. omega arith) (λ lt. omega arith)
    (λ lt. omega arith) (λ lt. omega arith) k low high

-- a text that reads back has the whole part, and digits that read as the fraction
pub record Splits (n : ℕ) (text : List ℕ) : Type 0 where
  pub whole : digits_value 10 (whole_digits text) ≡ n / 65536
  pub part : ReadsAs (n % 65536) (places text) (digits_value 10 (part_digits text))
  pub number : number_without_point text ≡ n / 65536 * 10 ^ places text + digits_value 10 (part_digits text)

pub text_splits : (n : ℕ) (text : List ℕ) → ReadsBack n text → Splits n text
text_splits n text r =
    let all = are_digits (part_digits text) (part_passes text r.pointed.digits) in
    let below : digits_value 10 (part_digits text) < 10 ^ places text = digits_value-lt 10 (part_digits text) all in
    let most : places text ≤ 5 = r.pointed.most in
    let part : fraction_of (part_digits text) ≡ nearest_65536th (places text) (digits_value 10 (part_digits text)) = fraction_is (part_digits text)
    (omega arith) in
    let small = no_carry (places text) (digits_value 10 (part_digits text)) r.pointed.some most below in
    let value : 65536 * digits_value 10 (whole_digits text) + nearest_65536th (places text) (digits_value 10 (part_digits text))
    ≡ n = ap (λ k. 65536 * digits_value 10 (whole_digits text) + k) (sym part) ∙ r.value in
    let whole : digits_value 10 (whole_digits text) ≡ n / 65536 = quotient_is _ _ _ value small in
    let rest : nearest_65536th (places text) (digits_value 10 (part_digits text)) ≡ n % 65536 = rest_is _ _ _ value small in
    record {
      whole = whole;
      part = record { some = r.pointed.some; most = most; digits = below; reads = rest };
      number = value-append (whole_digits text) (part_digits text) ∙ ap (λ w. w * 10 ^ places text + digits_value 10 (part_digits text)) whole;
    }
  where
    quotient_is : (v f n : ℕ) → 65536 * v + f ≡ n → f < 65536 → v ≡ n / 65536
    quotient_is v f n e lt = omega arith

    rest_is : (v f n : ℕ) → 65536 * v + f ≡ n → f < 65536 → f ≡ n % 65536
    rest_is v f n e lt = omega arith

-- the whole part makes no difference to how near a text is
distance-shift : (k w d n : ℕ) → w ≡ n / 65536 → distance k (w * 10 ^ k + d) n ≡ distance k d (n % 65536)
distance-shift k w d n e = by_power (10 ^ k) w d n (n % 65536) (omega arith)
  where
    by_power : (p w d n f : ℕ) → n ≡ 65536 * w + f
        → (65536 * (w * p + d) - p * n) + (p * n - 65536 * (w * p + d)) ≡ (65536 * d - p * f) + (p * f - 65536 * d)
    by_power p w d n f e = rw e (omega arith)

pub distance_of : (n : ℕ) (text : List ℕ) → Splits n text
    → distance (places text) (number_without_point text) n ≡ distance (places text) (digits_value 10 (part_digits text)) (n % 65536)
distance_of n text s =
    ap (λ m. distance (places text) m n) s.number ∙ distance-shift (places text) (n / 65536) (digits_value 10 (part_digits text)) n refl

-- ---- the text that is found

-- the whole part, a point, and digits
abbrev pub size_text : ℕ → List ℕ
size_text n = decimal (n / 65536) ++ 46 ∷ part_text (n % 65536)

pub whole-size : (n : ℕ) → n < 2 ^ 64 → whole_digits (size_text n) ≡ decimal (n / 65536)
whole-size n lt = whole-joined (decimal (n / 65536)) (part_text (n % 65536)) (digits_are_ascii _ (decimal_all (n / 65536) (omega arith)))

pub part-size : (n : ℕ) → n < 2 ^ 64 → part_digits (size_text n) ≡ part_text (n % 65536)
part-size n lt = part-joined (decimal (n / 65536)) (part_text (n % 65536)) (digits_are_ascii _ (decimal_all (n / 65536) (omega arith)))

decimal_when : (text whole part : List ℕ) → whole_digits text ≡ whole → part_digits text ≡ part → list_all is_ascii_digit whole ≡ true
    → list_all is_ascii_digit part ≡ true → 0 < length whole → is_decimal text ≡ true
decimal_when text whole part e p a b some =
    let any : ltb 0 (length whole + length part) ≡ true = lt-ltb 0 (length whole + length part) (omega arith) in
    rw (e, p, a, b, any) refl

pub places-size : (n : ℕ) → n < 2 ^ 64 → places (size_text n) ≡ fewest_digits (n % 65536)
places-size n lt = ap length (part-size n lt) ∙ length-fixed (fewest_digits (n % 65536)) (nearest_digits (fewest_digits (n % 65536)) (n % 65536))

best_of : (n : ℕ) → IsBest (n % 65536) (fewest_digits (n % 65536)) (nearest_digits (fewest_digits (n % 65536)) (n % 65536))
best_of n = is_best (n % 65536) (omega arith)

part_value : (n : ℕ) → n < 2 ^ 64 → digits_value 10 (part_digits (size_text n)) ≡ nearest_digits (fewest_digits (n % 65536)) (n % 65536)
part_value n lt = ap (λ ds. digits_value 10 ds) (part-size n lt) ∙ value-fixed (fewest_digits (n % 65536)) (nearest_digits (fewest_digits (n % 65536))
    (n % 65536)) (best_of n).reads.digits

pointed_size : (n : ℕ) → n < 2 ^ 64 → IsPointed (size_text n)
pointed_size n lt =
    let w : ℕ = n / 65536 in
    let small : w < 2 ^ 64 = omega arith in
    let best = (best_of n).reads in
    record {
      digits = decimal_when (size_text n) (decimal w) (part_text (n % 65536)) (whole-size n lt) (part-size n lt)
          (digits_are_ascii _ (decimal_all w small)) (digits_are_ascii (fixed_digits (fewest_digits (n % 65536))
          (nearest_digits (fewest_digits (n % 65536)) (n % 65536))) (fixed_all (fewest_digits (n % 65536)) (nearest_digits (fewest_digits (n % 65536))
          (n % 65536)))) (decimal_some w small);
      point = sym (ap (λ ds. ds ++ 46 ∷ part_digits (size_text n)) (whole-size n lt) ∙ ap (λ ds. decimal w ++ 46 ∷ ds) (part-size n lt));
      whole = (let some = decimal_some w small in omega (arith, ap length (whole-size n lt), some));
      needed = λ rest h. no_needless_zero w rest small (sym (whole-size n lt) ∙ h);
      some = omega (arith, places-size n lt, best.some);
      most = omega (arith, places-size n lt, best.most);
    }

value-size : (n : ℕ) → n < 2 ^ 64 → decimal_value (size_text n) ≡ n
value-size n lt =
    let w : ℕ = n / 65536 in
    let f : ℕ = n % 65536 in
    let best = (best_of n).reads in
    ap (λ ds. 65536 * digits_value 10 ds + fraction_of (part_digits (size_text n))) (whole-size n lt)
    ∙ ap (λ ds. 65536 * digits_value 10 (decimal w) + fraction_of ds) (part-size n lt)
    ∙ ap (λ v. 65536 * v + fraction_of (part_text f)) (value-decimal w (omega arith))
    ∙ ap (λ v. 65536 * w + v) (fraction-fixed (fewest_digits f) (nearest_digits (fewest_digits f) f) (omega (arith, best.most)) best.digits
    ∙ best.reads)
    ∙ omega arith

pub size_reads : (n : ℕ) → n < 2 ^ 64 → ReadsBack n (size_text n)
size_reads n lt = record { pointed = pointed_size n lt; value = value-size n lt }

-- a text with k places that reads back
record AtPlaces (n k : ℕ) (text : List ℕ) : Type 0 where
  reads : ReadsAs (n % 65536) k (digits_value 10 (part_digits text))
  far : distance_from n text ≡ distance k (digits_value 10 (part_digits text)) (n % 65536)
  number : number_without_point text ≡ n / 65536 * 10 ^ k + digits_value 10 (part_digits text)

at_places : (n k : ℕ) (text : List ℕ) → ReadsBack n text → places text ≡ k → AtPlaces n k text
at_places n k text r e =
    let s = text_splits n text r in
    subst (λ j. AtPlaces n j text) e (record { reads = s.part; far = distance_of n text s; number = s.number })

le_through : (a b c d : ℕ) → a ≡ b → c ≡ d → b ≤ d → a ≤ c
le_through a b c d e h le = omega arith

greater : (p m d x y : ℕ) → x ≡ p + m → y ≡ p + d → d ≤ m → y ≤ x
greater p m d x y e h le = omega arith

pub size_chosen : (n : ℕ) → n < 2 ^ 64 → IsChosen n (size_text n)
size_chosen n lt =
    let f : ℕ = n % 65536 in
    let k : ℕ = fewest_digits f in
    let m : ℕ = nearest_digits k f in
    let t : List ℕ = size_text n in
    let best = best_of n in
    let here : places t ≡ k = places-size n lt in
    let mine = at_places n k t (size_reads n lt) here in
    let far : distance_from n t ≡ distance k m f = mine.far ∙ ap (λ d. distance k d f) (part_value n lt) in
    record {
      reads = size_reads n lt;
      fewest = λ other r. (let least = best.fewest (places other) (digits_value 10 (part_digits other)) (text_splits n other r).part in omega
          (arith, here, least));
      nearest = λ other r same.
          (let o = at_places n k other r (same ∙ here) in
          le_through _ _ _ _ far o.far (best.nearest (digits_value 10 (part_digits other)) o.reads));
      greatest = λ other r same eq.
          (let o = at_places n k other r (same ∙ here) in
          let tie : distance k m f ≡ distance k (digits_value 10 (part_digits other)) f = sym far ∙ eq ∙ o.far in
          greater (n / 65536 * 10 ^ k) m (digits_value 10 (part_digits other)) (number_without_point t) (number_without_point other) (mine.number
          ∙ ap (λ d. n / 65536 * 10 ^ k + d) (part_value n lt)) o.number (best.greatest (digits_value 10 (part_digits other)) o.reads tie));
    }

-- ---- the texts with their sign

pub pointed-is : (z : ℤ) → pointed_text z ≡ sign_text z ++ size_text (unsigned_abs z)
pointed-is z = append_assoc (sign_text z) (decimal (unsigned_abs z / 65536)) (46 ∷ part_text (unsigned_abs z % 65536))

pub is_pointed_text : (z : ℤ) → unsigned_abs z < 2 ^ 64 → IsPointedTextOf z (pointed_text z)
is_pointed_text z lt = record {
  size = size_text (unsigned_abs z);
  chosen = size_chosen (unsigned_abs z) lt;
  written = pointed-is z;
}

one_digit : (f m : ℕ) → f ≢ 0 → m < 10 ^ 1 → nearest_65536th 1 m ≡ f → eqb (48 + m % 10) 48 ≡ false
one_digit f m ne lt e = not_same (48 + m % 10) 48 (λ h. ne (omega arith))
  where
    not_same : (a b : ℕ) → a ≢ b → eqb a b ≡ false
    not_same a b h = grind (arith, nat_tests)

-- digits that read as some fraction are no lone zero
some_digits : (f k m : ℕ) → f ≢ 0 → ReadsAs f k m → is_lone_zero (fixed_digits k m) ≡ false
some_digits f k m ne r =
    by_count (λ n. m < 10 ^ n → nearest_65536th n m ≡ f → is_lone_zero (fixed_digits n m) ≡ false)
    (λ lt e. one_digit f m ne lt e) (λ lt e. refl) (λ lt e. refl) (λ lt e. refl) (λ lt e. refl)
    k r.some r.most r.digits r.reads

without-none : (n : ℕ) → n < 2 ^ 64 → n % 65536 ≡ 0 → without_zero (size_text n) ≡ decimal (n / 65536)
without-none n lt e =
    let lone : is_lone_zero (part_digits (size_text n)) ≡ true = ap is_lone_zero (part-size n lt ∙ ap part_text e) in
    rw lone (whole-size n lt)

without-some : (n : ℕ) → n < 2 ^ 64 → n % 65536 ≢ 0 → without_zero (size_text n) ≡ size_text n
without-some n lt ne =
    let lone : is_lone_zero (part_digits (size_text n)) ≡ false = ap is_lone_zero (part-size n lt) ∙ some_digits (n % 65536) _ _ ne (best_of n).reads
    in
    rw lone refl

pub text-is : (z : ℤ) → unsigned_abs z < 2 ^ 64 → text_of z ≡ sign_text z ++ without_zero (size_text (unsigned_abs z))
text-is z lt = by_test (eqb (unsigned_abs z % 65536) 0) refl
  where
    by_test : (b : Bool) → eqb (unsigned_abs z % 65536) 0 ≡ b → text_of z ≡ sign_text z ++ without_zero (size_text (unsigned_abs z))
    by_test true t =
        let none : unsigned_abs z % 65536 ≡ 0 = eqb-true _ _ t in
        sym (text-whole z none) ∙ ap (λ ds. sign_text z ++ ds) (sym (without-none (unsigned_abs z) lt none))
    by_test false t =
        let some : unsigned_abs z % 65536 ≢ 0 = λ e. absurd (let yes = eq-eqb _ _ e in cc) in
        sym (text-pointed z some) ∙ append_assoc (sign_text z) (decimal (unsigned_abs z / 65536)) (46 ∷ part_text (unsigned_abs z % 65536))
        ∙ ap (λ ds. sign_text z ++ ds) (sym (without-some (unsigned_abs z) lt some))

pub is_text : (z : ℤ) → unsigned_abs z < 2 ^ 64 → IsTextOf z (text_of z)
is_text z lt = record {
  size = size_text (unsigned_abs z);
  chosen = size_chosen (unsigned_abs z) lt;
  written = text-is z lt;
}
