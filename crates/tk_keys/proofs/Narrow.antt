-- What is known only where the places of a run are narrow, that is, where some place is none of them. The laws of recursion
-- take all places and all environments, and nothing is known of ranges there.
use Rattle.std.specs.Prelude.{ℕ, Ok, Err, IfOk, IfErr}
use Rattle.tk_token.specs.declared.Fault.{Fault}
use Rattle.tk_token.specs.Answers.{Answer}
use Rattle.tk_expand.proofs.Places.{Stands}

module _ (P : ℕ → Type 0) where
  abbrev pub IfNarrow : Type 0 → Type 0
  IfNarrow A = (out : ℕ) → (P out → ⊥) → A

  -- what is so known of a value, where it is known of an answer
  pub narrow_value : {A : Type 0} (Q : A → Type 0) (m : Answer A) → IfNarrow (IfOk m Q) → IfOk m (λ x. IfNarrow (Q x))
  narrow_value Q (Ok x) h = h
  narrow_value Q (Err e) h = tt

  -- a fault that stands at such a place, or a value of which that is known
  pub stands_with : {A : Type 0} (Q : A → Type 0) (m : Answer A) → IfErr m (λ (f : Fault). P f.at) → IfOk m Q → Stands P Q m
  stands_with Q (Ok x) h k = k
  stands_with Q (Err e) h k = h
