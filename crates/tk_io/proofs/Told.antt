-- What is said only where something is told.
use Rattle.std.proofs.Common.{◌≡◌, Option, Some, None, refl, subst}
use Rattle.std.specs.Prelude.{IfSome}

-- to say it, say it of what is told
pub told_by : {A : Type 0} (o : Option A) (P : A → Type 0) → ((x : A) → o ≡ Some x → P x) → IfSome o P
told_by None P h = tt
told_by (Some x) P h = h x refl

-- where it is told, it holds
pub told_at : {A : Type 0} (o : Option A) (P : A → Type 0) (x : A) → o ≡ Some x → IfSome o P → P x
told_at {A} o P x e h = subst (λ (o : Option A). IfSome o P) e h
