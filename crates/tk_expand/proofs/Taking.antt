-- Tokens through expansion, as the code takes them.
use Rattle.std.proofs.Common.{◌≡◌, ℕ, Bool, true, false, Some, None, Ok, ap, ◌∙◌}
use Rattle.std.specs.Prelude.{if◌then◌else◌}
use Rattle.tk_token.specs.declared.Tok.{Tok}
use Rattle.tk_token.specs.declared.Refusal.{Refusal}
use Rattle.tk_token.specs.Answers.{Answer, ◌>>=◌}
use Rattle.tk_token.specs.Kinds.{is_space}
use Rattle.tk_token.specs.Refusals.{Fails}
use Rattle.tk_token.proofs.Answering.{then_is, fails_then, fails_as}
use Rattle.tk_store.specs.Levels.{Macros}
use Rattle.tk_expand.specs.Expand.{Stream}
use Rattle.tk_expand.specs.Reading.{Next, taken, is_there, next, next_solid}
use Rattle.tk_expand.proofs.Falling.{solid_is}

module _ (budget : ℕ) (macros : Macros) (s : Stream) where
  -- what follows the next token, where it is sought behind Spaces
  abbrev solid_from : Next → Answer Next
  solid_from n = if is_there is_space n.token then next_solid budget macros n.stream else Ok n

  -- a Space was taken
  pub solid_passes : (t : Tok) (r : Stream) → next budget macros s ≡ Ok (taken (Some t) r) → is_space t.kind ≡ true
      → next_solid budget macros s ≡ next_solid budget macros r
  solid_passes t r known h =
      solid_is budget macros s ∙ then_is (next budget macros s) solid_from (taken (Some t) r) known
      ∙ ap (λ (b : Bool). (let a : Answer Next = if b then next_solid budget macros r else Ok (taken (Some t) r) in a)) h

  -- another token was taken
  pub solid_stops : (t : Tok) (r : Stream) → next budget macros s ≡ Ok (taken (Some t) r) → is_space t.kind ≡ false
      → next_solid budget macros s ≡ Ok (taken (Some t) r)
  solid_stops t r known h =
      solid_is budget macros s ∙ then_is (next budget macros s) solid_from (taken (Some t) r) known
      ∙ ap (λ (b : Bool). (let a : Answer Next = if b then next_solid budget macros r else Ok (taken (Some t) r) in a)) h

  -- nothing was left
  pub solid_ends : (r : Stream) → next budget macros s ≡ Ok (taken None r) → next_solid budget macros s ≡ Ok (taken None r)
  solid_ends r known = solid_is budget macros s ∙ then_is (next budget macros s) solid_from (taken None r) known

  pub solid_fails : (e : Refusal) → Fails e (next budget macros s) → Fails e (next_solid budget macros s)
  solid_fails e h = fails_as e _ _ (solid_is budget macros s) (fails_then e (next budget macros s) solid_from h)
