-- TeX's loop for the digits of a fraction: what it knows at each digit.
use Rattle.std.proofs.Common.{◌≡◌, ◌≢◌, ℕ, zero, suc, ◌+◌, ◌-◌, ◌*◌, ◌/◌, ◌%◌, ◌^◌, ◌<◌, ◌≤◌, true, false, cond, eqb, List, [], ◌∷◌, ◌++◌, length}
use Rattle.std.proofs.Common.{refl, sym, ap, subst, ◌∙◌, arith, ltb, append_assoc, eq-eqb, append-nil, length-append, inl, inr}
use Rattle.std.proofs.Math.Nat.{pow-suc}
use Rattle.std.proofs.lemmas.Bool.{cases_lt}
use Rattle.std.proofs.lemmas.Bool.Decides.{nat_tests}
use Rattle.tk_num.proofs.Fixed.{length-fixed}
use Rattle.tk_num.specs.Number.{nearest_65536th}
use Rattle.tk_num.specs.Text.{nearest_digits, reads_back, fewest_digits, fixed_digits, part_text}

-- twice the fraction and a half, times a power of ten: the digits so far are its multiples of 131072
abbrev pub scaled_up : ℕ → ℕ → ℕ
scaled_up k f = 10 ^ k * (2 * f + 1)

-- k digits are out, all that come into question, and none as short reads back
pub record AtDigit (f : ℕ) (before now : List ℕ) (rest delta : ℕ) : Type 0 where
  pub count : ℕ
  pub few : count ≤ 4
  pub delta_is : delta ≡ 10 ^ suc count
  pub done : now ≡ before ++ fixed_digits count (scaled_up count f / 131072)
  pub rest_is : rest ≡ 5 * (scaled_up count f % 131072)
  pub shorter : (k : ℕ) → 1 ≤ k → k ≤ count → reads_back k f ≡ false
  pub large : 1 ≤ count → delta < rest

-- a digit more
next_digits : (p : ℕ) → (10 * p) / 131072 ≡ 10 * (p / 131072) + (5 * (p % 131072)) / 65536
next_digits p = omega arith

next_rest : (p : ℕ) → 5 * ((10 * p) % 131072) ≡ 10 * ((5 * (p % 131072)) % 65536)
next_rest p = omega arith

-- where the loop ends, the digits read back, and no others do
one_digit_reads_back : (f : ℕ) → 5 * (scaled_up 1 f % 131072) ≤ 100
    → (nearest_65536th 1 (nearest_digits 1 f) ≡ f) × (scaled_up 1 f / 131072 ≡ nearest_digits 1 f)
one_digit_reads_back f le = (omega arith, omega arith)

two_digits_read_back : (f : ℕ) → 5 * (scaled_up 2 f % 131072) ≤ 1000
    → (nearest_65536th 2 (nearest_digits 2 f) ≡ f) × (scaled_up 2 f / 131072 ≡ nearest_digits 2 f)
two_digits_read_back f le = (omega arith, omega arith)

three_digits_read_back : (f : ℕ) → 5 * (scaled_up 3 f % 131072) ≤ 10000
    → (nearest_65536th 3 (nearest_digits 3 f) ≡ f) × (scaled_up 3 f / 131072 ≡ nearest_digits 3 f)
three_digits_read_back f le = (omega arith, omega arith)

four_digits_read_back : (f : ℕ) → 5 * (scaled_up 4 f % 131072) ≤ 100000
    → (nearest_65536th 4 (nearest_digits 4 f) ≡ f) × (scaled_up 4 f / 131072 ≡ nearest_digits 4 f)
four_digits_read_back f le = (omega arith, omega arith)

one_digit_is_too_few : (f : ℕ) → 100 < 5 * (scaled_up 1 f % 131072) → nearest_65536th 1 (nearest_digits 1 f) ≢ f
one_digit_is_too_few f lt e = omega arith

two_digits_are_too_few : (f : ℕ) → 1000 < 5 * (scaled_up 2 f % 131072) → nearest_65536th 2 (nearest_digits 2 f) ≢ f
two_digits_are_too_few f lt e = omega arith

three_digits_are_too_few : (f : ℕ) → 10000 < 5 * (scaled_up 3 f % 131072) → nearest_65536th 3 (nearest_digits 3 f) ≢ f
three_digits_are_too_few f lt e = omega arith

four_digits_are_too_few : (f : ℕ) → 100000 < 5 * (scaled_up 4 f % 131072) → nearest_65536th 4 (nearest_digits 4 f) ≢ f
four_digits_are_too_few f lt e = omega arith

-- the fifth digit, rounded
fifth_digit_is_nearest : (f : ℕ) → 100000 < 5 * (scaled_up 4 f % 131072)
    → 10 * (scaled_up 4 f / 131072) + (5 * (scaled_up 4 f % 131072) + 32768 - 50000) / 65536 ≡ nearest_digits 5 f
fifth_digit_is_nearest f lt = omega arith

-- one to four
by_place : (P : ℕ → Type 0) → P 1 → P 2 → P 3 → P 4 → (n : ℕ) → 1 ≤ n → n ≤ 4 → P n
by_place P p1 p2 p3 p4 zero low high = absurd (omega arith)
by_place P p1 p2 p3 p4 (suc zero) low high = p1
by_place P p1 p2 p3 p4 (suc (suc zero)) low high = p2
by_place P p1 p2 p3 p4 (suc (suc (suc zero))) low high = p3
by_place P p1 p2 p3 p4 (suc (suc (suc (suc zero)))) low high = p4
by_place P p1 p2 p3 p4 (suc (suc (suc (suc (suc n))))) low high = absurd (omega arith)

few_digits_read_back : (k f : ℕ) → 1 ≤ k → k ≤ 4 → 5 * (scaled_up k f % 131072) ≤ 10 ^ suc k
    → (reads_back k f ≡ true) × (scaled_up k f / 131072 ≡ nearest_digits k f)
few_digits_read_back k f low high =
    by_place (λ n. 5 * (scaled_up n f % 131072) ≤ 10 ^ suc n → (reads_back n f ≡ true) × (scaled_up n f / 131072 ≡ nearest_digits n f))
    (λ le. (eq-eqb _ _ (one_digit_reads_back f le).0, (one_digit_reads_back f le).1)) (λ le. (
      eq-eqb _ _ (two_digits_read_back f le).0,
      (two_digits_read_back f le).1,
    )) (λ le. (eq-eqb _ _ (three_digits_read_back f le).0, (three_digits_read_back f le).1))
    (λ le. (eq-eqb _ _ (four_digits_read_back f le).0, (four_digits_read_back f le).1))
    k low high

not_eqb : (m n : ℕ) → m ≢ n → eqb m n ≡ false
not_eqb m n ne = grind (arith, nat_tests)

few_digits_are_too_few : (k f : ℕ) → 1 ≤ k → k ≤ 4 → 10 ^ suc k < 5 * (scaled_up k f % 131072) → reads_back k f ≡ false
few_digits_are_too_few k f low high =
    by_place (λ n. 10 ^ suc n < 5 * (scaled_up n f % 131072) → reads_back n f ≡ false)
    (λ lt. not_eqb _ _ (one_digit_is_too_few f lt)) (λ lt. not_eqb _ _ (two_digits_are_too_few f lt))
    (λ lt. not_eqb _ _ (three_digits_are_too_few f lt)) (λ lt. not_eqb _ _ (four_digits_are_too_few f lt))
    k low high

-- the fewest digits are those that are found first
fewest_is : (k f : ℕ) → 1 ≤ k → k ≤ 4 → reads_back k f ≡ true → ((j : ℕ) → 1 ≤ j → j < k → reads_back j f ≡ false) → fewest_digits f ≡ k
fewest_is k f low high =
    by_place (λ n. reads_back n f ≡ true → ((j : ℕ) → 1 ≤ j → j < n → reads_back j f ≡ false) → fewest_digits f ≡ n)
    (λ e none. rw e refl)
    (λ e none. rw (none 1 (omega arith) (omega arith), e) refl)
    (λ e none. rw (none 1 (omega arith) (omega arith), none 2 (omega arith) (omega arith), e) refl)
    (λ e none. rw (none 1 (omega arith) (omega arith), none 2 (omega arith) (omega arith), none 3 (omega arith) (omega arith), e) refl)
    k low high

five_digits_are_fewest : (f : ℕ) → ((j : ℕ) → 1 ≤ j → j ≤ 4 → reads_back j f ≡ false) → fewest_digits f ≡ 5
five_digits_are_fewest f none = rw (
  none 1 (omega arith) (omega arith),
  none 2 (omega arith) (omega arith),
  none 3 (omega arith) (omega arith),
  none 4 (omega arith) (omega arith),
) refl

scaled-more : (k f : ℕ) → scaled_up (suc k) f ≡ 10 * scaled_up k f
scaled-more k f = rw (pow-suc 10 k) (omega arith)

-- a digit at the end
digit_more : (n m q d : ℕ) → m ≡ 10 * q + d → d ≤ 9 → fixed_digits n q ++ (48 + d) ∷ [] ≡ fixed_digits (suc n) m
digit_more n m q d e le =
    let front : m / 10 ≡ q = omega arith in
    let last : m % 10 ≡ d = omega arith in
    rw (front, last) refl

digit_out : (n m q d : ℕ) (before now : List ℕ) → now ≡ before ++ fixed_digits n q → m ≡ 10 * q + d → d ≤ 9
    → now ++ (48 + d) ∷ [] ≡ before ++ fixed_digits (suc n) m
digit_out n m q d before now done e le =
    rw done (append_assoc before (fixed_digits n q) ((48 + d) ∷ []) ∙ ap (λ ds. before ++ ds) (digit_more n m q d e le))

pub first_digit : (f : ℕ) (before : List ℕ) → f < 65536 → AtDigit f before before (10 * f + 5) 10
first_digit f before lt = record {
  count = 0;
  few = omega arith;
  delta_is = refl;
  done = sym (append-nil before);
  rest_is = omega arith;
  shorter = λ k low high. absurd (omega arith);
  large = λ low. absurd (omega arith);
}

below_more_places : (P : ℕ → Type 0) (k : ℕ) → ((j : ℕ) → 1 ≤ j → j ≤ k → P j) → P (suc k) → (j : ℕ) → 1 ≤ j → j ≤ suc k → P j
below_more_places P k all here j low high =
    elim (cases_lt k j) [
      | inl lt ↦ (let is : suc k ≡ j = omega arith in subst P is here)
      | inr ge ↦ all j low ge
    ]

-- the first four digits are taken from the rest as it is
powers_to_four_are_small : (k : ℕ) → k < 4 → 10 ^ suc k ≤ 10000
powers_to_four_are_small zero lt = omega arith
powers_to_four_are_small (suc zero) lt = omega arith
powers_to_four_are_small (suc (suc zero)) lt = omega arith
powers_to_four_are_small (suc (suc (suc zero))) lt = omega arith
powers_to_four_are_small (suc (suc (suc (suc n)))) lt = absurd (omega arith)

unrounded_before_the_fifth : (delta rest s : ℕ) → s ≡ cond (ltb 65536 delta) (rest + 32768 - 50000) rest → delta ≤ 10000 → s ≡ rest
unrounded_before_the_fifth delta rest s e le = grind (arith, nat_tests)

taken_rounded : (delta rest s : ℕ) → s ≡ cond (ltb 65536 delta) (rest + 32768 - 50000) rest → delta ≡ 100000 → s ≡ rest + 32768 - 50000
taken_rounded delta rest s e is = grind (arith, nat_tests)

-- one of the first four digits, and the rest after it
digit_is : (k f s : ℕ) → s ≡ 5 * (scaled_up k f % 131072) → scaled_up (suc k) f / 131072 ≡ 10 * (scaled_up k f / 131072) + s / 65536
digit_is k f s e = rw (scaled-more k f, e) (next_digits (scaled_up k f))

rest_is : (k f s : ℕ) → s ≡ 5 * (scaled_up k f % 131072) → 10 * (s % 65536) ≡ 5 * (scaled_up (suc k) f % 131072)
rest_is k f s e = rw (scaled-more k f, e) (sym (next_rest (scaled_up k f)))

power_more : (k delta : ℕ) → delta ≡ 10 ^ suc k → delta * 10 ≡ 10 ^ suc (suc k)
power_more k delta e = rw e (sym (pow-suc 10 (suc k)))

part_is : (f k : ℕ) → fewest_digits f ≡ k → fixed_digits k (nearest_digits k f) ≡ part_text f
part_is f k e = rw e refl

short_stop : (f k s delta : ℕ) (before now : List ℕ) → k < 4 → delta ≡ 10 ^ suc k → now ≡ before ++ fixed_digits k (scaled_up k f / 131072)
    → s ≡ 5 * (scaled_up k f % 131072) → ((j : ℕ) → 1 ≤ j → j ≤ k → reads_back j f ≡ false) → 10 * (s % 65536) ≤ delta * 10
    → now ++ (48 + s / 65536) ∷ [] ≡ before ++ part_text f
short_stop f k s delta before now few delta_is done e none le =
    let after : 5 * (scaled_up (suc k) f % 131072) ≤ 10 ^ suc (suc k) = omega (arith, rest_is k f s e, power_more k delta delta_is, le) in
    let end = few_digits_read_back (suc k) f (omega arith) (omega arith) after in
    let fewest : fewest_digits f ≡ suc k = fewest_is (suc k) f (omega arith) (omega arith) end.0 (λ j low lt. none j low (omega arith)) in
    digit_out k (scaled_up (suc k) f / 131072) (scaled_up k f / 131072) (s / 65536) before now done (digit_is k f s e) (omega arith)
    ∙ ap (λ m. before ++ fixed_digits (suc k) m) end.1
    ∙ ap (λ ds. before ++ ds) (part_is f (suc k) fewest)

last_stop : (f s : ℕ) (before now : List ℕ) → now ≡ before ++ fixed_digits 4 (scaled_up 4 f / 131072)
    → s ≡ 5 * (scaled_up 4 f % 131072) + 32768 - 50000 → 100000 < 5 * (scaled_up 4 f % 131072) → ((j : ℕ) → 1 ≤ j → j ≤ 4 → reads_back j f ≡ false)
    → now ++ (48 + s / 65536) ∷ [] ≡ before ++ part_text f
last_stop f s before now done e large none =
    digit_out 4 (nearest_digits 5 f) (scaled_up 4 f / 131072) (s / 65536) before now done (sym (rw e (fifth_digit_is_nearest f large))) (omega arith)
    ∙ ap (λ ds. before ++ ds) (part_is f 5 (five_digits_are_fewest f none))

pub last_digit : (f rest delta s : ℕ) (before now : List ℕ) → AtDigit f before now rest delta → s ≡ cond (ltb 65536 delta) (rest + 32768 - 50000) rest
    → 10 * (s % 65536) ≤ delta * 10 → now ++ (48 + s / 65536) ∷ [] ≡ before ++ part_text f
last_digit f rest delta s before now a e le =
    elim (cases_lt a.count 4) [
      | inl lt ↦
          (let same : s ≡ rest = unrounded_before_the_fifth delta rest s e (rw a.delta_is (powers_to_four_are_small a.count lt)) in
          short_stop f a.count s delta before now lt a.delta_is a.done (same ∙ a.rest_is) a.shorter le)
      | inr ge ↦
          (let four : a.count ≡ 4 = omega (arith, a.few) in
          let delta_is : delta ≡ 100000 = a.delta_is ∙ ap (λ k. 10 ^ suc k) four in
          let rest_is : rest ≡ 5 * (scaled_up 4 f % 131072) = a.rest_is ∙ ap (λ k. 5 * (scaled_up k f % 131072)) four in
          let large : delta < rest = a.large (omega arith) in
          last_stop f s before now (a.done ∙ ap (λ k. before ++ fixed_digits k (scaled_up k f / 131072)) four) (taken_rounded delta rest s e delta_is
          ∙ ap (λ r. r + 32768 - 50000) rest_is) (omega arith) (λ j low high. a.shorter j low (omega arith)))
    ]

short_go : (f k s delta : ℕ) (before now : List ℕ) → k < 4 → delta ≡ 10 ^ suc k → now ≡ before ++ fixed_digits k (scaled_up k f / 131072)
    → s ≡ 5 * (scaled_up k f % 131072) → ((j : ℕ) → 1 ≤ j → j ≤ k → reads_back j f ≡ false) → delta * 10 < 10 * (s % 65536)
    → AtDigit f before (now ++ (48 + s / 65536) ∷ []) (10 * (s % 65536)) (delta * 10)
short_go f k s delta before now few delta_is done e none lt =
    let after : 10 ^ suc (suc k) < 5 * (scaled_up (suc k) f % 131072) = omega (arith, rest_is k f s e, power_more k delta delta_is, lt) in
    record {
      count = suc k;
      few = omega arith;
      delta_is = power_more k delta delta_is;
      done = digit_out k (scaled_up (suc k) f / 131072) (scaled_up k f / 131072) (s / 65536) before now done (digit_is k f s e) (omega arith);
      rest_is = rest_is k f s e;
      shorter = below_more_places (λ j. reads_back j f ≡ false) k none (few_digits_are_too_few (suc k) f (omega arith) (omega arith) after);
      large = λ low. lt;
    }

pub next_digit : (f rest delta s : ℕ) (before now : List ℕ) → AtDigit f before now rest delta → s ≡ cond (ltb 65536 delta) (rest + 32768 - 50000) rest
    → delta * 10 < 10 * (s % 65536) → AtDigit f before (now ++ (48 + s / 65536) ∷ []) (10 * (s % 65536)) (delta * 10)
next_digit f rest delta s before now a e lt =
    elim (cases_lt a.count 4) [
      | inl less ↦
          (let same : s ≡ rest = unrounded_before_the_fifth delta rest s e (rw a.delta_is (powers_to_four_are_small a.count less)) in
          short_go f a.count s delta before now less a.delta_is a.done (same ∙ a.rest_is) a.shorter lt)
      | inr ge ↦
          (let four : a.count ≡ 4 = omega (arith, a.few) in
          let delta_is : delta ≡ 100000 = a.delta_is ∙ ap (λ k. 10 ^ suc k) four in
          absurd (omega arith))
    ]

-- how much room the digits so far take
pub digits_room : (f rest delta : ℕ) (before now : List ℕ) → AtDigit f before now rest delta → length now ≤ length before + 4
digits_room f rest delta before now a =
    omega (
      arith,
      a.few,
      ap length a.done,
      length-append before (fixed_digits a.count (scaled_up a.count f / 131072)),
      length-fixed a.count
          (scaled_up a.count f / 131072),
    )
