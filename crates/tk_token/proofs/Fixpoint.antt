-- A meaning by size is one step over the meanings of what is smaller.
use Rattle.std.specs.Prelude.{◌≡◌, ℕ, zero, suc, ◌<◌, Bool, true, false, nat_lt}
use Rattle.std.proofs.Common.{refl, sym, ap, ◌∙◌, arith}
use Rattle.std.proofs.Math.Path.{fun_ext}
use Rattle.std.proofs.lemmas.Bool.{ltb-true, lt-ltb}
use Rattle.tk_token.specs.Recursion.{ask, smaller, within, by_size, AsksSmaller}

module _ {A R : Type 0} (size : A → ℕ) (stuck : R) where
  ask_alike : (t : Bool) (f g : A → R) (b : A) → (t ≡ true → f b ≡ g b) → ask t stuck f b ≡ ask t stuck g b
  ask_alike true f g b h = h refl
  ask_alike false f g b h = refl

  -- two meanings that agree on what is smaller are alike to a step
  pub smaller_alike : (f g : A → R) (a : A) → ((b : A) → size b < size a → f b ≡ g b) → smaller size stuck f a ≡ smaller size stuck g a
  smaller_alike f g a h = fun_ext (λ b. ask_alike (nat_lt (size b) (size a)) f g b (λ e. h b (ltb-true (size b) (size a) e)))

module _ {A R : Type 0} (size : A → ℕ) (stuck : R) (step : (A → R) → A → R) where
  pub enough : (n m : ℕ) (a : A) → size a < n → size a < m → within size stuck step n a ≡ within size stuck step m a
  unfolding within
  enough zero m a h k = absurd (omega arith)
  enough (suc n) zero a h k = absurd (omega arith)
  enough (suc n) (suc m) a h k =
      ap (λ (f : A → R). step f a) (smaller_alike size stuck (within size stuck step n) (within size stuck step m) a
      (λ b lt. enough n m b (omega arith) (omega arith)))

  pub by_size_is : (a : A) → by_size size stuck step a ≡ step (smaller size stuck (by_size size stuck step) a) a
  unfolding within by_size
  by_size_is a =
      ap (λ (f : A → R). step f a) (smaller_alike size stuck (within size stuck step (size a)) (by_size size stuck step) a
      (λ b lt. enough (size a) (suc (size b)) b (omega arith) (omega arith)))

module _ {A R : Type 0} (size : A → ℕ) (stuck : R) where
  asked_at : (t : Bool) (f : A → R) (b : A) → t ≡ true → ask t stuck f b ≡ f b
  asked_at true f b e = refl
  asked_at false f b e = absurd cc

  -- what is smaller may be asked
  pub asked : (f : A → R) (a b : A) → size b < size a → smaller size stuck f a b ≡ f b
  asked f a b lt = asked_at (nat_lt (size b) (size a)) f b (lt-ltb (size b) (size a) lt)

module _ {A R : Type 0} (size : A → ℕ) (stuck : R) (step : (A → R) → A → R) (P : A → R → Type 0) where
  ask_keeps : (t : Bool) (f : A → R) (b : A) → P b stuck → P b (f b) → P b (ask t stuck f b)
  ask_keeps true f b h k = k
  ask_keeps false f b h k = h

  within_keeps : ((a : A) → P a stuck) → ((f : A → R) → ((b : A) → P b (f b)) → (a : A) → P a (step f a)) → (n : ℕ) (a : A)
      → P a (within size stuck step n a)
  unfolding within
  within_keeps base keep zero a = base a
  within_keeps base keep (suc n) a =
      keep (smaller size stuck (within size stuck step n) a) (λ b. ask_keeps (nat_lt (size b) (size a)) (within size stuck step n) b (base b)
      (within_keeps base keep n b)) a

  -- what each step keeps holds of the meaning
  pub kept : ((a : A) → P a stuck) → ((f : A → R) → ((b : A) → P b (f b)) → (a : A) → P a (step f a)) → (a : A) → P a (by_size size stuck step a)
  unfolding by_size
  kept base keep a = within_keeps base keep (suc (size a)) a

-- What a step makes doesn't depend on the answer that stands for what isn't smaller.
module _ {A R : Type 0} (size : A → ℕ) (step : (A → R) → A → R) (asks : AsksSmaller size step) (s t : R) where
  depth_alike : (n : ℕ) (a : A) → size a < n → within size s step n a ≡ within size t step n a
  unfolding within
  depth_alike zero a h = absurd (omega arith)
  depth_alike (suc n) a h =
      asks (smaller size s (within size s step n) a) (smaller size t (within size t step n) a) a
      (λ b lt. asked size s (within size s step n) a b lt ∙ depth_alike n b (omega arith) ∙ sym (asked size t (within size t step n) a b lt))

  pub independent : (a : A) → by_size size s step a ≡ by_size size t step a
  unfolding by_size
  independent a = depth_alike (suc (size a)) a (omega arith)

-- and it is one step over itself
pub unbounded : {A R : Type 0} (size : A → ℕ) (stuck : R) (step : (A → R) → A → R) → AsksSmaller size step → (a : A)
    → by_size size stuck step a ≡ step (by_size size stuck step) a
unbounded size stuck step asks a =
    by_size_is size stuck step a ∙ asks (smaller size stuck (by_size size stuck step) a) (by_size size stuck step) a
    (λ b lt. asked size stuck (by_size size stuck step) a b lt)
