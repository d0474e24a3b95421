-- What an expansion leaves.
use Rattle.std.specs.Prelude.{◌≡◌, ℕ, ◌&&◌, Bool, true, List, [], ◌∷◌, Option, Some, None, Ok, Err, IfOk}
use Rattle.std.specs.Option.{is_none}
use Rattle.std.specs.List.{list_all}
use Rattle.std.proofs.Common.{refl, ◌∙◌, ap, sym, subst}
use Rattle.tk_token.specs.declared.Tok.{Tok}
use Rattle.tk_token.specs.declared.Code.TheVariants.{Budget}
use Rattle.tk_token.specs.Answers.{Answer, fault}
use Rattle.tk_token.proofs.Answering.{then_holds, then_is}
use Rattle.tk_token.proofs.Fixpoint.{kept}
use Rattle.tk_store.specs.declared.Macro.{Macro}
use Rattle.tk_store.specs.Levels.{Macros}
use Rattle.tk_expand.specs.Expand.{Stream, with_rest, called_by, replaced, front_token, front_list, front_step, work, front, full_list, full_step}
use Rattle.tk_expand.specs.Expand.{full, IsExpanded, StandsStill}
use Rattle.tk_expand.proofs.Falling.{front_is, full_is}

module _ (budget : ℕ) (macros : Macros) where
  -- ---- no call is left

  token_still : (rec : Stream → Answer Stream) → ((s : Stream) → IfOk (rec s) (λ r. StandsStill macros r.list.rest))
      → (s : Stream) (t : Tok) (ts : List Tok) → s.list.rest ≡ t ∷ ts → (called : Option Macro) → called_by macros t.kind ≡ called
      → IfOk (front_token budget macros rec s t ts called) (λ r. StandsStill macros r.list.rest)
  token_still rec h s t ts e None is = subst (StandsStill macros) (sym e) is
  token_still rec h s t ts e (Some called) is =
      then_holds (λ _. Unit {0}) (λ (r : Stream). StandsStill macros r.list.rest) (replaced budget called t.at (with_rest s ts)) _
      (anything (replaced budget called t.at (with_rest s ts))) (λ r p. h r)
    where
      anything : (r : Answer Stream) → IfOk r (λ _. Unit {0})
      anything (Ok x) = tt
      anything (Err e) = tt

  list_still : (rec : Stream → Answer Stream) → ((s : Stream) → IfOk (rec s) (λ r. StandsStill macros r.list.rest)) → (s : Stream) (ts : List Tok)
      → s.list.rest ≡ ts → IfOk (front_list budget macros rec s ts) (λ r. StandsStill macros r.list.rest)
  list_still rec h s [] e = subst (StandsStill macros) (sym e) tt
  list_still rec h s (t ∷ ts) e = token_still rec h s t ts e (called_by macros t.kind) refl

  -- the token in front of what is left calls nothing
  pub front_still : (s : Stream) → IfOk (front budget macros s) (λ r. StandsStill macros r.list.rest)
  unfolding front
  front_still = kept (work budget) (fault Budget 0) (front_step budget macros) (λ s r. IfOk r (λ r. StandsStill macros r.list.rest)) (λ s. tt)
      (λ f h s. list_still f h s s.list.rest refl)

  list_expanded : (rec : Stream → Answer Stream) → ((s : Stream) → IfOk (rec s) (λ r. IsExpanded macros r.list.rest)) → (s : Stream) (ts : List Tok)
      → s.list.rest ≡ ts → StandsStill macros ts → IfOk (full_list budget macros rec s ts) (λ r. IsExpanded macros r.list.rest)
  list_expanded rec h s [] e still = subst (IsExpanded macros) (sym e) refl
  list_expanded rec h s (t ∷ ts) e still =
      then_holds (λ (r : Stream). IsExpanded macros r.list.rest) (λ (r : Stream). IsExpanded macros r.list.rest) (rec (with_rest s ts)) _
      (h (with_rest s ts)) (λ more k.
      ap (λ (o : Option Macro). is_none o && list_all (λ (t : Tok). is_none (called_by macros t.kind)) more.list.rest) still ∙ k)

  -- no call is left
  pub full_expanded : (s : Stream) → IfOk (full budget macros s) (λ r. IsExpanded macros r.list.rest)
  unfolding full
  full_expanded =
      kept (work budget) (fault Budget 0) (full_step budget macros) (λ s r. IfOk r (λ r. IsExpanded macros r.list.rest)) (λ s. tt) (λ f h s.
      then_holds (λ (m : Stream). StandsStill macros m.list.rest) (λ (r : Stream). IsExpanded macros r.list.rest) (front budget macros s) _
      (front_still s) (λ m still. list_expanded f h m m.list.rest refl still))

  -- ---- a list without calls

  -- nothing is left
  pub front_ends : (s : Stream) → s.list.rest ≡ [] → front budget macros s ≡ Ok s
  front_ends s e = front_is budget macros s ∙ ap (front_list budget macros (front budget macros) s) e

  -- the token in front calls nothing
  pub front_stops : (s : Stream) (t : Tok) (ts : List Tok) → s.list.rest ≡ t ∷ ts → called_by macros t.kind ≡ None → front budget macros s ≡ Ok s
  front_stops s t ts e calls =
      front_is budget macros s ∙ ap (front_list budget macros (front budget macros) s) e
      ∙ ap (front_token budget macros (front budget macros) s t ts) calls

  -- where nothing is in front that calls, a step takes the token in front
  full_stops : (s : Stream) (ts : List Tok) → front budget macros s ≡ Ok s → s.list.rest ≡ ts
      → full budget macros s ≡ full_list budget macros (full budget macros) s ts
  full_stops s ts still e =
      full_is budget macros s ∙ then_is (front budget macros s) (λ a. full_list budget macros (full budget macros) a a.list.rest) s still
      ∙ ap (full_list budget macros (full budget macros) s) e

  no_call : (o : Option Macro) (b : Bool) → (is_none o && b) ≡ true → (o ≡ None) × (b ≡ true)
  no_call None b h = (refl, h)
  no_call (Some m) b h = absurd cc

  own_expansion : (s : Stream) (ts : List Tok) → s.list.rest ≡ ts → IsExpanded macros ts → full budget macros s ≡ Ok s
  own_expansion s [] e h = full_stops s [] (front_ends s e) e
  own_expansion s (t ∷ ts) e h =
      let k = no_call (called_by macros t.kind) (list_all (λ (t : Tok). is_none (called_by macros t.kind)) ts) h in
      full_stops s (t ∷ ts) (front_stops s t ts e k.0) e
      ∙ then_is (full budget macros (with_rest s ts)) (λ more. Ok (with_rest more (t ∷ more.list.rest))) (with_rest s ts)
      (own_expansion (with_rest s ts) ts refl k.1)
      ∙ ap (λ (us : List Tok). (let r : Answer Stream = Ok (with_rest s us) in r)) (sym e)

  -- a list in which nothing calls is its own expansion, and costs nothing
  pub full_own : (s : Stream) → IsExpanded macros s.list.rest → full budget macros s ≡ Ok s
  full_own s h = own_expansion s s.list.rest refl h
