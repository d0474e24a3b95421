-- Recursion by a size that falls.
use Rattle.std.specs.Prelude.{◌≡◌, ℕ, zero, suc, ◌<◌, Bool, true, false, nat_lt}

-- f at b where the test says so
abbrev pub ask : {A R : Type 0} → Bool → R → (A → R) → A → R
ask true stuck f b = f b
ask false stuck f b = stuck

-- what a step at a may ask: f at what is smaller than a
abbrev pub smaller : {A R : Type 0} → (A → ℕ) → R → (A → R) → A → A → R
smaller size stuck f a b = ask (nat_lt (size b) (size a)) stuck f b

-- at most n steps deep
unfoldable pub within : {A R : Type 0} → (A → ℕ) → R → ((A → R) → A → R) → ℕ → A → R
within size stuck step zero a = stuck
within size stuck step (suc n) a = step (smaller size stuck (within size stuck step n) a) a

-- one step at a, over the meanings of what is smaller than a
unfoldable pub by_size : {A R : Type 0} → (A → ℕ) → R → ((A → R) → A → R) → A → R
by_size size stuck step a = within size stuck step (suc (size a)) a

-- a step asks for nothing but what is smaller: two meanings that agree there are alike to it
abbrev pub AsksSmaller : {A R : Type 0} → (A → ℕ) → ((A → R) → A → R) → Type 0
AsksSmaller {A = A} {R = R} size step =
    (f g : A → R) (a : A)
    → ((b : A) → size b < size a → f b ≡ g b)
    → step f a ≡ step g a
