-- From what a callee gives to what its caller gives.
use Rattle.std.proofs.Common.{◌≡◌, Ok, Err, sym, ap, subst}
use Rattle.std.specs.Prelude.{ℕ, Option, Some, None, IfOk, IfSome, refl}
use Rattle.tk_token.specs.declared.Code.{Code}
use Rattle.tk_token.specs.declared.Refusal.{Refusal}
use Rattle.tk_token.specs.declared.Refusal.TheVariants.{OutOfMemory, Fault as Refused}
use Rattle.tk_token.specs.Answers.{Answer, ◌>>=◌, or_fault}
use Rattle.tk_token.specs.Refusals.{Fails}

-- a fault is passed on
pub fails_then : {A B : Type 0} (e : Refusal) (m : Answer A) (f : A → Answer B) → Fails e m → Fails e (m >>= f)
fails_then OutOfMemory m f h = tt
fails_then (Refused x) m f h = ap (λ (m : Answer _). m >>= f) h

-- a fault of an answer is a fault of the same answer
pub fails_as : {A : Type 0} (e : Refusal) (m n : Answer A) → m ≡ n → Fails e n → Fails e m
fails_as e m n is h = subst (λ (m : Answer _). Fails e m) (sym is) h

-- where the first part is known, the rest is what follows from it
pub then_is : {A B : Type 0} (m : Answer A) (f : A → Answer B) (x : A) → m ≡ Ok x → (m >>= f) ≡ f x
then_is m f x is = ap (λ (m : Answer _). m >>= f) is

-- what holds of a value holds of the value that is known
pub known_of : {A : Type 0} (P : A → Type 0) (m : Answer A) (x : A) → m ≡ Ok x → IfOk m P → P x
known_of P m x is h = subst (λ (m : Answer _). IfOk m P) is h

-- a fact of the last value of two answers, one after the other
pub then_holds : {A B : Type 0} (P : A → Type 0) (Q : B → Type 0) (m : Answer A) (f : A → Answer B) → IfOk m P → ((x : A) → P x → IfOk (f x) Q)
    → IfOk (m >>= f) Q
then_holds P Q (Ok x) f h k = k x h
then_holds P Q (Err e) f h k = tt

-- answers that go on alike are alike
pub then_alike : {A B : Type 0} (P : A → Type 0) (m : Answer A) (f g : A → Answer B) → IfOk m P → ((x : A) → P x → f x ≡ g x) → (m >>= f) ≡ (m >>= g)
then_alike P (Ok x) f g h k = k x h
then_alike P (Err e) f g h k = refl

-- what holds of a value that is there holds of the answer
pub or_fault_holds : {A : Type 0} (P : A → Type 0) (o : Option A) (code : Code) (at : ℕ) → IfSome o P → IfOk (or_fault o code at) P
or_fault_holds P None code at h = tt
or_fault_holds P (Some x) code at h = h
