use Rattle.std.proofs.Common.{ℕ, rules, sym, ap, ◌∙◌, arith}
use Rattle.tk_token.proofs.Answering.{fails_as}
use Rattle.tk_expand.specs.Expand.{stream}
use Rattle.tk_expand.specs.Reading.{next_solid}
use Rattle.tk_expand.proofs.Taking.{solid_passes, solid_stops, solid_ends, solid_fails}
use Rattle.tk_expand.proofs.input.Input.next_solid.Goals as goal

pub returns-in_err-tok-clause-gives : goal.returns-in_err-tok-clause-gives
returns-in_err-tok-clause-gives c =
    let e = fails_as c.in_err-tok.field-0.0 _ _ c.loop-tok.invariant.told (solid_fails c.loop-tok.units.budget c.args.store.now.top.macros
    (stream c.loop-tok.units.used c.loop-tok.self) c.in_err-tok.field-0.0 c.in_err-tok.ensures.gives) in
    search rules

pub returns-then-not-is_space-clause-gives : goal.returns-then-not-is_space-clause-gives
returns-then-not-is_space-clause-gives c =
    c.loop-tok.invariant.told
    ∙ solid_stops c.loop-tok.units.budget c.args.store.now.top.macros (stream c.loop-tok.units.used c.loop-tok.self) c.in-Some.tok
    (stream c.next.new.units.used c.next.new.self) (rw c.in-Some.is at c.in_ok-tok.ensures.gives) (search rules)

pub loop-tok-preserved : goal.loop-tok-preserved
loop-tok-preserved c =
    let w = rw c.in-Some.is at c.in_ok-tok.ensures.work in
    record {
      told =
          c.loop-tok.invariant.told
          ∙ solid_passes c.loop-tok.units.budget c.args.store.now.top.macros (stream c.loop-tok.units.used c.loop-tok.self) c.in-Some.tok
          (stream c.next.new.units.used c.next.new.self) (rw c.in-Some.is at c.in_ok-tok.ensures.gives) (search rules)
          ∙ ap (λ (b : ℕ). next_solid b c.args.store.now.top.macros (stream c.next.new.units.used c.next.new.self)) (sym c.in_ok-tok.ensures.budget);
      end = c.in_ok-tok.ensures.end ∙ c.loop-tok.invariant.end;
      budget = c.in_ok-tok.ensures.budget ∙ c.loop-tok.invariant.budget;
      used = omega (arith, c.in_ok-tok.ensures.used);
      work = omega (arith, w);
    }

pub returns-clause-gives : goal.returns-clause-gives
returns-clause-gives c =
    c.loop-tok.invariant.told
    ∙ solid_ends c.loop-tok.units.budget c.args.store.now.top.macros (stream c.loop-tok.units.used c.loop-tok.self) (stream c.next.new.units.used
    c.next.new.self) (rw c.in_default.is at c.in_ok-tok.ensures.gives)
