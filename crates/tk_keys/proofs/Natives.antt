-- Native keys whose values have nothing to expand.
use Rattle.std.specs.Prelude.{ℕ, true, List, Option, Some, None, Result, Ok, Err, IfOk}
use Rattle.std.proofs.Common.{◌≡◌, sym, ap, ◌∙◌}
use Rattle.tk_token.specs.declared.Refusal.{Refusal}
use Rattle.tk_token.specs.declared.Tok.{Tok}
use Rattle.tk_token.specs.Answers.{Answer, ◌>>=◌}
use Rattle.tk_token.specs.Refusals.{Fails, Gives}
use Rattle.tk_token.proofs.Answering.{fails_then, fails_as, then_is}
use Rattle.tk_native.specs.declared.Native.{Native}
use Rattle.tk_expand.specs.Expand.{Stream, stream, is_expanded, full}
use Rattle.tk_expand.specs.Unread.{unread}
use Rattle.tk_expand.proofs.Finished.{full_own}
use Rattle.tk_expr.specs.Evaluated.{evaluated}
use Rattle.tk_look.specs.declared.GraphicsState.{GraphicsState}
use Rattle.tk_look.specs.Graphics.{graphics_by}
use Rattle.tk_keys.specs.declared.deeds.Deed as code
use Rattle.tk_keys.specs.Environment.{with_graphics, with_paid}
use Rattle.tk_keys.specs.Keys.{Deed, ExpandedValue, done, set_native}
use Rattle.tk_keys.specs.State.{State, env_of, given_of, situation_of}
use Rattle.tk_keys.specs.Views.{deed_of}

module _ (old : State) (at : ℕ) (name : List ℕ) (key : Native) (list : List Tok) where
  abbrev drawn : Answer GraphicsState
  drawn = graphics_by at evaluated old.font key name (Some list) old.graphics

  -- what the key leaves with that value
  abbrev drawn_with : ExpandedValue → Answer Deed
  drawn_with e = do
    graphics ← graphics_by at evaluated old.font key name e.value old.graphics
    Ok (done (with_graphics (with_paid (situation_of old) e.units) graphics))

  -- a value that was expanded
  abbrev value_of : Stream → Answer ExpandedValue
  value_of r = Ok (record { value = Some r.list.rest; units = r.units })

  abbrev set_here : Answer Deed
  set_here = set_native (given_of evaluated old) at name key (Some list) (situation_of old)

  abbrev nothing_left : State → Answer Deed
  nothing_left s = Ok (done (situation_of s))

  module _ (own : true ≡ is_expanded (env_of old).macros list) where
    -- the value is its own expansion
    starts : set_here ≡ drawn_with (record { value = Some list; units = old.units })
    starts =
        let from : Stream = stream old.units (unread list at) in
        let all : full old.budget (env_of old).macros from ≡ Ok from = full_own old.budget (env_of old).macros from (sym own) in
        ap (λ (m : Answer ExpandedValue). m >>= drawn_with) (then_is (full old.budget (env_of old).macros from) value_of from all)

    native_set : (new : State) → new ≡ record old { graphics = new.graphics } → drawn ≡ Ok new.graphics → set_here ≡ nothing_left new
    native_set new kept is =
        starts
        ∙ then_is drawn (λ graphics. Ok (done (with_graphics (situation_of old) graphics))) new.graphics is
        ∙ ap nothing_left (sym kept)

    native_fails : (e : Refusal) → Fails e drawn → Fails e set_here
    native_fails e h = fails_as e _ _ starts (fails_then e drawn _ h)

    -- the same of what the code gives
    pub native_gives : (new : State) → new ≡ record old { graphics = new.graphics } → (r : Result code.Deed Refusal)
        → Gives (λ _. new.graphics) r drawn → IfOk r (λ deed. deed.text ≡ None) → Gives (λ deed. deed_of deed new) r set_here
    native_gives new kept (Ok deed) is none =
        let left : Option (List Tok) → Answer Deed = λ o. Ok (record { now = situation_of new; text = o }) in
        native_set new kept is ∙ ap left (sym none)
    native_gives new kept (Err e) is none = native_fails e is
