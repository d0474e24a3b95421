use Rattle.std.proofs.Common.{ℕ, ap, sym, ◌∙◌, arith, Ok}
use Rattle.std.proofs.lemmas.Result.{err_from_is_err_and}
use Rattle.tk_token.specs.Answers.{Answer}
use Rattle.tk_expand.specs.Expand.{Stream, stream, full}
use Rattle.tk_expand.specs.Unread.{unread}
use Rattle.tk_expand.proofs.Fronts.{with_kept, full_takes, full_ends, full_fails}
use Rattle.tk_expand.proofs.expansion.expand_by_one.Goals as goal

pub returns-in_err-tok-clause-gives : goal.returns-in_err-tok-clause-gives
returns-in_err-tok-clause-gives c =
    let p = err_from_is_err_and c.from_residual-in_err-tok.result c.from_residual-in_err-tok.ensures.1 in
    rw (p.1, p.2) (full_fails c.loop-text.units.budget c.args.store.now.top.macros (stream c.loop-text.units.used c.loop-text.input)
    c.loop-text.text.items _ c.loop-text.invariant.told c.in_err-tok.field-0.0 c.in_err-tok.ensures.gives)

pub loop-text-preserved : goal.loop-text-preserved
loop-text-preserved c = record {
  told =
      full_takes c.loop-text.units.budget c.args.store.now.top.macros (stream c.loop-text.units.used c.loop-text.input) c.loop-text.text.items _
      c.loop-text.invariant.told c.in-Some.tok (stream c.next.new.units.used c.next.new.self) c.push.new.self.items
      (rw c.in-Some.is at c.in_ok-tok.ensures.gives) c.in_ok-push.ensures.items
      ∙ ap (λ (b : ℕ). with_kept c.push.new.self.items (full b c.args.store.now.top.macros (stream c.next.new.units.used c.next.new.self)))
      (sym c.in_ok-tok.ensures.budget);
  end = c.in_ok-tok.ensures.end ∙ c.loop-text.invariant.end;
  budget = omega (arith, c.in_ok-tok.ensures.budget);
  used = omega (arith, c.in_ok-tok.ensures.used);
}

pub returns-clause-gives : goal.returns-clause-gives
returns-clause-gives c =
    full_ends c.loop-text.units.budget c.args.store.now.top.macros (stream c.loop-text.units.used c.loop-text.input) c.loop-text.text.items _
    c.loop-text.invariant.told (stream c.next.new.units.used c.next.new.self)
    (rw c.in_default.is at c.in_ok-tok.ensures.gives) (rw c.in_default.is at c.in_ok-tok.ensures.none)
    ∙ ap (λ (e : ℕ). (let x : Answer Stream = Ok (stream c.next.new.units.used (unread c.loop-text.text.items e)) in x)) (c.in_ok-tok.ensures.end
    ∙ c.loop-text.invariant.end)
