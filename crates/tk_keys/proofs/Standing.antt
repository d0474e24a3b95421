-- Answers whose values hold a fact, and whose faults stand at certain places.
use Rattle.std.specs.Prelude.{ℕ, Bool, true, false, if◌then◌else◌, Option, Some, None, Ok, Err, IfOk, IfErr, IfSome}
use Rattle.tk_token.specs.declared.Code.{Code}
use Rattle.tk_token.specs.Answers.{Answer, ◌>>=◌, or_fault}
use Rattle.tk_expand.proofs.Places.{Stands}

module _ (P : ℕ → Type 0) where
  pub then_at : {A B : Type 0} (Q : A → Type 0) (R : B → Type 0) (m : Answer A) (f : A → Answer B) → Stands P Q m → ((x : A) → Q x → Stands P R (f x))
      → Stands P R (m >>= f)
  then_at Q R (Ok x) f h k = k x h
  then_at Q R (Err e) f h k = h

  pub if_at : {A : Type 0} (Q : A → Type 0) (b : Bool) (m n : Answer A) → Stands P Q m → Stands P Q n → Stands P Q (if b then m else n)
  if_at Q true m n h k = h
  if_at Q false m n h k = k

  -- a fact that holds so, and one of its value
  pub both_at : {A : Type 0} (Q R : A → Type 0) (m : Answer A) → Stands P Q m → IfOk m R → Stands P (λ x. Q x × R x) m
  both_at Q R (Ok x) h k = (h, k)
  both_at Q R (Err e) h k = h

  pub weaker_at : {A : Type 0} (Q R : A → Type 0) (m : Answer A) → ((x : A) → Q x → R x) → Stands P Q m → Stands P R m
  weaker_at Q R (Ok x) w h = w x h
  weaker_at Q R (Err e) w h = h

  pub only_fault : {A : Type 0} (m : Answer A) → IfErr m (λ f. P f.at) → Stands P (λ _. Unit {0}) m
  only_fault (Ok a) h = tt
  only_fault (Err f) h = h

  pub or_at : {A : Type 0} (Q : A → Type 0) (o : Option A) (code : Code) (at : ℕ) → P at → IfSome o Q → Stands P Q (or_fault o code at)
  or_at Q None code at p h = p
  or_at Q (Some a) code at p h = h

  pub some_at : {A : Type 0} (o : Option A) (code : Code) (at : ℕ) → P at → Stands P (λ _. Unit {0}) (or_fault o code at)
  some_at None code at p = p
  some_at (Some a) code at p = tt

-- the fact of a value
pub ok_at : {A : Type 0} (P : ℕ → Type 0) (Q : A → Type 0) (m : Answer A) → Stands P Q m → IfOk m Q
ok_at P Q (Ok a) h = h
ok_at P Q (Err e) h = tt

pub any_value : {A : Type 0} (m : Answer A) → IfOk m (λ _. Unit {0})
any_value (Ok a) = tt
any_value (Err e) = tt
