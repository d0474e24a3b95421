-- The table of sines rises, and never passes one.
use Rattle.std.proofs.Common.{◌≡◌, ℕ, zero, suc, ◌+◌, ◌-◌, ◌*◌, ◌/◌, ◌%◌, ◌<◌, ◌≤◌, Bool, true, ◌&&◌, leb, List, [], ◌∷◌, length, get_or, refl, arith}
use Rattle.std.proofs.Common.{add-one}
use Rattle.std.specs.List.{list_all}
use Rattle.std.proofs.lemmas.Bool.{leb-true, true_from_ne_false}
use Rattle.std.proofs.lemmas.List.Folds.{list_all_at}
use Rattle.std.proofs.Math.Nat.{mul-le-mul_left}
use Rattle.tk_num.specs.Angle.{sines, quarter_sine}
use Rattle.tk_num.proofs.Fixed.{and_is_both}

is_rising : List ℕ → Bool
is_rising [] = true
is_rising (a ∷ []) = true
is_rising (a ∷ (b ∷ xs)) = leb a b && is_rising (b ∷ xs)

rises_at : (xs : List ℕ) (n : ℕ) → is_rising xs ≡ true → suc n < length xs → get_or xs n 0 ≤ get_or xs (suc n) 0
unfolding is_rising
rises_at [] n e lt = absurd (omega arith)
rises_at (a ∷ []) n e lt = absurd (omega arith)
rises_at (a ∷ (b ∷ xs)) zero e lt = leb-true a b (and_is_both (leb a b) (is_rising (b ∷ xs)) e).0
rises_at (a ∷ (b ∷ xs)) (suc n) e lt = rises_at (b ∷ xs) n (and_is_both (leb a b) (is_rising (b ∷ xs)) e).1 (omega arith)

table_rises : is_rising sines ≡ true
unfolding is_rising sines
table_rises = refl

table_length : length sines ≡ 91
unfolding sines
table_length = refl

table_within : list_all (λ s. leb s 65536) sines ≡ true
unfolding sines
table_within = refl

pub sines_rise : (n : ℕ) → n < 90 → get_or sines n 0 ≤ get_or sines (n + 1) 0
sines_rise n lt = let r = rises_at sines n table_rises (omega (arith, table_length)) in rw (add-one n) r

pub sines_within : (n : ℕ) → n ≤ 90 → get_or sines n 0 ≤ 65536
sines_within n le = leb-true _ _
    (true_from_ne_false _ (λ e. let f = list_all_at (λ s. leb s 65536) sines n 0 (omega (arith, table_length)) e in let t = table_within in cc))

sine_between : (low high part : ℕ) → low ≤ high → high ≤ 65536 → part < 65536 → low + (high - low) * part / 65536 ≤ 65536
sine_between low high part rise most lt = let m = mul-le-mul_left (high - low) (let l : part ≤ 65536 = omega arith in l) in omega (arith, m)

pub quarter_within : (a : ℕ) → a / 65536 < 90 → quarter_sine a ≤ 65536
quarter_within a lt = sine_between _ _ (a % 65536) (sines_rise (a / 65536) lt) (sines_within (a / 65536 + 1) (omega arith)) (omega arith)
