-- A meaning by size is pinned where its step, over anything that agrees with it on what is smaller, makes what it makes.
use Rattle.std.proofs.Common.{◌≡◌, ℕ, zero, suc, ◌<◌, sym, ◌∙◌, arith}
use Rattle.tk_token.specs.Recursion.{smaller, within, by_size}
use Rattle.tk_token.proofs.Fixpoint.{by_size_is, asked}

-- the step makes the same over all that agrees with the meaning on what is smaller
abbrev pub IsPinned : {A R : Type 0} → (A → ℕ) → R → ((A → R) → A → R) → Type 0
IsPinned {A = A} {R = R} size stuck step =
    (f : A → R) (a : A)
    → ((b : A) → size b < size a → f b ≡ by_size size stuck step b)
    → step f a ≡ step (by_size size stuck step) a

module _ {A R : Type 0} (size : A → ℕ) (stuck : R) (step : (A → R) → A → R) (pinned : IsPinned size stuck step) where
  pub is_its_step : (a : A) → by_size size stuck step a ≡ step (by_size size stuck step) a
  is_its_step a =
      by_size_is size stuck step a
      ∙ pinned (smaller size stuck (by_size size stuck step) a) a (λ b less. asked size stuck (by_size size stuck step) a b less)

  within_is : (other : R) (n : ℕ) (a : A) → size a < n → within size other step n a ≡ by_size size stuck step a
  unfolding within
  within_is other zero a h = absurd (omega arith)
  within_is other (suc n) a h =
      pinned (smaller size other (within size other step n) a) a
      (λ b less. asked size other (within size other step n) a b less ∙ within_is other n b (omega arith))
      ∙ sym (is_its_step a)

  -- whatever stands for what isn't smaller
  pub is_never_stuck : (other : R) (a : A) → by_size size stuck step a ≡ by_size size other step a
  unfolding by_size
  is_never_stuck other a = sym (within_is other (suc (size a)) a (omega arith))
