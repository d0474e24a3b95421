-- What stands in front.
use Rattle.std.proofs.Common.{◌≡◌, ℕ, ◌+◌, ◌-◌, ◌≤◌, Bool, true, false, not, cond, ltb, List, [], ◌∷◌, length, take, drop, Option, Some, None, refl}
use Rattle.std.proofs.Common.{sym, ap, ◌∙◌, arith, one-add, length-drop}
use Rattle.std.specs.Prelude.{unwrap_or}
use Rattle.std.specs.List.{prefix_len, position, position_or_len, list_all}
use Rattle.std.proofs.lemmas.Bool.Decides.{nat_tests}
use Rattle.std.proofs.lemmas.List.{take_all}
use Rattle.std.proofs.lemmas.List.Sums.{prefix_len-le-length}

not_not : (b : Bool) → not (not b) ≡ b
not_not true = refl
not_not false = refl

prefix_not_not : (p : ℕ → Bool) (xs : List ℕ) → position_or_len (λ x. not (p x)) xs ≡ prefix_len p xs
prefix_not_not p [] = refl
prefix_not_not p (x ∷ xs) =
    ap (λ (b : Bool). cond b (1 + position_or_len (λ y. not (p y)) xs) 0) (not_not (p x)) ∙ ap (λ (n : ℕ). cond (p x) (1 + n) 0) (prefix_not_not p xs)

first_or_length : (n m : ℕ) → n ≤ m → unwrap_or (cond (ltb n m) (Some n) None) m ≡ n
first_or_length n m h = by_test (ltb n m) refl
  where
    by_test : (b : Bool) → ltb n m ≡ b → unwrap_or (cond b (Some n) None) m ≡ n
    by_test true e = refl
    by_test false e = grind (arith, nat_tests)

-- all that stands from a place on
pub all_taken : (xs : List ℕ) (n : ℕ) → take (length xs - n) (drop n xs) ≡ drop n xs
all_taken xs n = ap (λ (m : ℕ). take m (drop n xs)) (sym (length-drop n xs)) ∙ take_all (length (drop n xs)) (drop n xs) (omega arith)

-- the first place that doesn't pass, or else the length, is how many pass in front
pub front_len : (p : ℕ → Bool) (xs : List ℕ) (first : Option ℕ) → first ≡ position (λ x. not (p x)) xs → unwrap_or first (length xs) ≡ prefix_len p xs
front_len p xs first is =
    ap (λ (o : Option ℕ). unwrap_or o (length xs)) is
    ∙ first_or_length (position_or_len (λ x. not (p x)) xs) (length xs) (prefix_len-le-length (λ x. not (not (p x))) xs)
    ∙ prefix_not_not p xs

-- what stands in front passes
pub front_passes : (p : ℕ → Bool) (xs : List ℕ) → list_all p (take (prefix_len p xs) xs) ≡ true
front_passes p [] = refl
front_passes p (x ∷ xs) = by_test (p x) refl (front_passes p xs)
  where
    by_test : (b : Bool) → p x ≡ b → list_all p (take (prefix_len p xs) xs) ≡ true
        → list_all p (take (cond b (1 + prefix_len p xs) 0) (x ∷ xs)) ≡ true
    by_test true e h = rw (one-add, e) h
    by_test false e h = refl
