-- How a run goes on. It stands at a place that has a stream, and where it began is fixed, so that each fact speaks of one
-- place alone: the list ends where it ended, units don't fall, so much of the work is gone since then, and what is known of
-- such places holds there. A lemma goes from one such fact to the next, and no two ways are ever put together.
use Rattle.std.specs.Prelude.{◌≡◌, ℕ, ◌+◌, ◌≤◌, Bool, true, false, if◌then◌else◌, Option, Some, None, Ok, Err, IfSome, IfErr}
use Rattle.std.proofs.Common.{refl, arith}
use Rattle.tk_token.specs.declared.Code.{Code}
use Rattle.tk_token.specs.Answers.{Answer, ◌>>=◌, fault, or_fault}
use Rattle.tk_expand.specs.Expand.{Stream, work}
use Rattle.tk_expand.proofs.Places.{Stands}

module _ (budget : ℕ) {C : Type 0} (stream_of : C → Stream) (Good : C → Type 0) where
  -- the run that began at `from` stands at `now`, and so much of its work is gone
  pub record Standing (from : C) (gone : ℕ) (now : C) : Type 0 where
    pub end : (stream_of now).list.end ≡ (stream_of from).list.end
    pub units : (stream_of from).units ≤ (stream_of now).units
    pub work : work budget (stream_of now) + gone ≤ work budget (stream_of from)
    pub good : Good now

  -- where it began nothing is gone
  pub begins : (c : C) → Good c → Standing c 0 c
  begins c h = record { end = refl; units = omega arith; work = omega arith; good = h }

  -- where so much and more is gone, so much is
  pub less_gone : (from : C) (gone more : ℕ) (now : C) → Standing from (gone + more) now → Standing from gone now
  less_gone from gone more now s = record { end = s.end; units = s.units; work = (let a = s.work in omega arith); good = s.good }

module _ (P : ℕ → Type 0) where
  -- a value of that kind, or a fault at such a place; a record, so that what it speaks of is found from it
  pub record Going {A : Type 0} (Q : A → Type 0) (m : Answer A) : Type 0 where
    pub stands : Stands P Q m

  pub then_going : {A B : Type 0} {Q : A → Type 0} {R : B → Type 0} {m : Answer A} {f : A → Answer B} → Going Q m
      → ((x : A) → Q x → Going R (f x)) → Going R (m >>= f)
  then_going {m = Ok x} h k = k x h.stands
  then_going {m = Err e} h k = record { stands = h.stands }

  pub if_going : {A : Type 0} {Q : A → Type 0} (b : Bool) {m n : Answer A} → Going Q m → Going Q n → Going Q (if b then m else n)
  if_going true h k = h
  if_going false h k = k

  pub weaker_going : {A : Type 0} {Q R : A → Type 0} {m : Answer A} → Going Q m → ((x : A) → Q x → R x) → Going R m
  weaker_going {m = Ok x} h w = record { stands = w x h.stands }
  weaker_going {m = Err e} h w = record { stands = h.stands }

  -- a value that is wanted, or its fault there
  pub or_going : {A : Type 0} {Q : A → Type 0} (o : Option A) (code : Code) {at : ℕ} → P at → IfSome o Q → Going Q (or_fault o code at)
  or_going (Some x) code p h = record { stands = h }
  or_going None code p h = record { stands = p }

  -- the same, where nothing is known of the value
  pub some_going : {A : Type 0} (o : Option A) (code : Code) {at : ℕ} → P at → Going (λ (x : A). Unit {0}) (or_fault o code at)
  some_going (Some x) code p = record { stands = tt }
  some_going None code p = record { stands = p }

  -- where nothing is known of the value, and its fault stands at such a place
  pub fault_going : {A : Type 0} (m : Answer A) → IfErr m (λ f. P f.at) → Going (λ (x : A). Unit {0}) m
  fault_going (Ok x) h = record { stands = tt }
  fault_going (Err f) h = record { stands = h }

  pub gives : {A : Type 0} {Q : A → Type 0} (x : A) → Q x → Going Q (Ok x)
  gives x h = record { stands = h }

  pub refused : {A : Type 0} {Q : A → Type 0} (code : Code) (at : ℕ) → P at → Going Q (fault {A = A} code at)
  refused code at p = record { stands = p }
