-- Units of a full expansion.
use Rattle.std.specs.Prelude.{ℕ, ◌≤◌, List, [], ◌∷◌, Ok, Err, IfOk}
use Rattle.std.proofs.Common.{arith}
use Rattle.tk_token.specs.declared.Code.TheVariants.{Budget}
use Rattle.tk_token.specs.declared.Tok.{Tok}
use Rattle.tk_token.specs.Answers.{Answer, fault}
use Rattle.tk_token.proofs.Answering.{then_holds}
use Rattle.tk_token.proofs.Fixpoint.{kept}
use Rattle.tk_store.specs.Levels.{Macros}
use Rattle.tk_expand.specs.Expand.{Stream, with_rest, work, front, full_list, full_step, full}
use Rattle.tk_expand.proofs.Falling.{Falls, front_falls}

module _ (budget : ℕ) (macros : Macros) where
  later : (n m : ℕ) (r : Answer Stream) → n ≤ m → IfOk r (λ s. m ≤ s.units) → IfOk r (λ s. n ≤ s.units)
  later n m (Ok s) le h = omega arith
  later n m (Err e) le h = tt

  full_list_spends : (rec : Stream → Answer Stream) → ((s : Stream) → IfOk (rec s) (λ r. s.units ≤ r.units)) → (s : Stream) (ts : List Tok)
      → IfOk (full_list budget macros rec s ts) (λ r. s.units ≤ r.units)
  full_list_spends rec h s [] = omega arith
  full_list_spends rec h s (t ∷ ts) =
      then_holds (λ (r : Stream). s.units ≤ r.units) (λ (r : Stream). s.units ≤ r.units) (rec (with_rest s ts)) _ (h (with_rest s ts)) (λ r k. k)

  -- the units of a full expansion don't fall
  pub full_spends : (s : Stream) → IfOk (full budget macros s) (λ r. s.units ≤ r.units)
  unfolding full
  full_spends = kept (work budget) (fault Budget 0) (full_step budget macros) (λ s r. IfOk r (λ r. s.units ≤ r.units)) (λ s. tt) (λ rec h s.
      then_holds (Falls budget s) (λ (r : Stream). s.units ≤ r.units) (front budget macros s) _ (front_falls budget macros s) (λ m f.
      later s.units m.units (full_list budget macros rec m m.list.rest) f.units (full_list_spends rec h m m.list.rest)))
