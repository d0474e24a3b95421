use Rattle.std.proofs.Common.{◌≡◌, ℕ, Ok, sym, ap, ◌∙◌, arith, Some, None}
use Rattle.std.proofs.lemmas.Result.{err_from_is_err_and}
use Rattle.tk_token.proofs.Answering.{fails_as}
use Rattle.tk_expand.specs.Expand.{stream, called_by}
use Rattle.tk_expand.specs.Unread.{Unread}
use Rattle.tk_expand.specs.Reading.{Next, taken, next}
use Rattle.tk_expand.proofs.Written.{same_list}
use Rattle.tk_token.specs.Answers.{Answer}
use Rattle.tk_expand.proofs.Fronts.{no_word, next_ends, next_stops, next_fails, next_goes, call_spends}
use Rattle.tk_expand.proofs.input.Input.next.Goals as goal

pub returns-in_default-kind-clause-gives : goal.returns-in_default-kind-clause-gives
returns-in_default-kind-clause-gives c =
    c.loop-tok.invariant.told ∙ next_stops _ c.args.store.now.top.macros (stream c.loop-tok.units.used c.loop-tok.self) c.in-Some.tok c.raw.new.self
    c.in-Some.ensures.rest c.in-Some.ensures.end (no_word _ c.in-Some.tok.kind c.in_default-kind.not-Word)

pub returns-in_default-get_macro-clause-gives : goal.returns-in_default-get_macro-clause-gives
returns-in_default-get_macro-clause-gives c =
    c.loop-tok.invariant.told ∙ next_stops _ c.args.store.now.top.macros (stream c.loop-tok.units.used c.loop-tok.self) c.in-Some.tok c.raw.new.self
    c.in-Some.ensures.rest c.in-Some.ensures.end (ap (called_by c.args.store.now.top.macros) c.in-Word.is ∙ sym c.in_default-get_macro.ensures)

pub loop-tok-smaller : goal.loop-tok-smaller
loop-tok-smaller c =
    let call : called_by c.args.store.now.top.macros c.in-Some.tok.kind
    ≡ Some c.in-Some-get_macro.called.now = ap (called_by c.args.store.now.top.macros) c.in-Word.is ∙ sym c.in-Some-get_macro.ensures in
    let s = call_spends c.loop-tok.units.budget c.args.store.now.top.macros (stream c.loop-tok.units.used c.loop-tok.self) c.in-Some.tok
    c.raw.new.self c.in-Some.ensures.rest c.in-Some.ensures.end c.in-Some-get_macro.called.now call (stream c.replace.new.units.used
    c.replace.new.self) c.in_ok-replace.ensures.gives in
    omega (arith, s.1, c.in_ok-replace.ensures.budget)

pub loop-tok-preserved : goal.loop-tok-preserved
loop-tok-preserved c =
    let call : called_by c.args.store.now.top.macros c.in-Some.tok.kind
    ≡ Some c.in-Some-get_macro.called.now = ap (called_by c.args.store.now.top.macros) c.in-Word.is ∙ sym c.in-Some-get_macro.ensures in
    let s = call_spends c.loop-tok.units.budget c.args.store.now.top.macros (stream c.loop-tok.units.used c.loop-tok.self) c.in-Some.tok
    c.raw.new.self c.in-Some.ensures.rest c.in-Some.ensures.end c.in-Some-get_macro.called.now call (stream c.replace.new.units.used
    c.replace.new.self) c.in_ok-replace.ensures.gives in
    record {
      told =
          c.loop-tok.invariant.told
          ∙ next_goes c.loop-tok.units.budget c.args.store.now.top.macros (stream c.loop-tok.units.used c.loop-tok.self) c.in-Some.tok c.raw.new.self
          c.in-Some.ensures.rest c.in-Some.ensures.end c.in-Some-get_macro.called.now call (stream c.replace.new.units.used c.replace.new.self)
          c.in_ok-replace.ensures.gives
          ∙ ap (λ (b : ℕ). next b c.args.store.now.top.macros (stream c.replace.new.units.used c.replace.new.self))
          (sym c.in_ok-replace.ensures.budget);
      end = c.in_ok-replace.ensures.end ∙ c.in-Some.ensures.end ∙ c.loop-tok.invariant.end;
      budget = c.in_ok-replace.ensures.budget ∙ c.loop-tok.invariant.budget;
      used = omega (arith, s.0);
      work = omega (arith, s.1, c.in_ok-replace.ensures.budget);
    }

pub returns-in_err-replace-clause-gives : goal.returns-in_err-replace-clause-gives
returns-in_err-replace-clause-gives c =
    let call : called_by c.args.store.now.top.macros c.in-Some.tok.kind
    ≡ Some c.in-Some-get_macro.called.now = ap (called_by c.args.store.now.top.macros) c.in-Word.is ∙ sym c.in-Some-get_macro.ensures in
    let p = err_from_is_err_and c.from_residual.result c.from_residual.ensures.1 in
    rw (p.1, p.2) (fails_as c.in_err-replace.field-0.0 _ _ c.loop-tok.invariant.told (next_fails c.loop-tok.units.budget c.args.store.now.top.macros
    (stream c.loop-tok.units.used c.loop-tok.self) c.in-Some.tok c.raw.new.self c.in-Some.ensures.rest c.in-Some.ensures.end
    c.in-Some-get_macro.called.now call c.in_err-replace.field-0.0 c.in_err-replace.ensures.gives))

pub returns-clause-gives : goal.returns-clause-gives
returns-clause-gives c =
    c.loop-tok.invariant.told ∙ next_ends c.loop-tok.units.budget c.args.store.now.top.macros (stream c.loop-tok.units.used c.loop-tok.self)
    c.in_default.ensures.none
    ∙ ap (λ (list : Unread). (let r : Answer Next = Ok (taken None (stream c.loop-tok.units.used list)) in r))
    (same_list c.loop-tok.self c.raw.new.self c.in_default.ensures.rest (sym c.in_default.ensures.end))
