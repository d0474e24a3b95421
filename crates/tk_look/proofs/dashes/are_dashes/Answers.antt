use Rattle.std.specs.Prelude.{ℕ, ◌+◌, ◌-◌, is_some}
use Rattle.std.proofs.Common.{ap, sym, ◌∙◌}
use Rattle.tk_look.specs.Dashes.{all_dashes}
use Rattle.tk_look.specs.Views.{dash_seen}
use Rattle.tk_look.proofs.DashCounts.{dashes_left_counted, none_left, none_here, last_here, more_are_there}
use Rattle.tk_look.proofs.dashes.are_dashes.Goals as goal

pub returns-in_default : goal.returns-in_default
returns-in_default c =
    let rest = c.loop.rest.now in
    let k = c.loop.counter in
    sym (c.loop.invariant ∙ ap (λ (n : ℕ). is_some (all_dashes n rest)) (dashes_left_counted k c.loop-test.true)
    ∙ ap is_some (none_here rest (8 - (k + 1)) c.in_default.ensures))

pub returns-then-is_empty : goal.returns-then-is_empty
returns-then-is_empty c =
    let rest = c.loop.rest.now in
    let k = c.loop.counter in
    sym (c.loop.invariant ∙ ap (λ (n : ℕ). is_some (all_dashes n rest)) (dashes_left_counted k c.loop-test.true)
    ∙ ap is_some (last_here rest (8 - (k + 1)) (dash_seen c.in-Some.dash) c.in-Some.ensures (sym c.if-is_empty.ensures)))

pub loop-preserved : goal.loop-preserved
loop-preserved c =
    let rest = c.loop.rest.now in
    let k = c.loop.counter in
    c.loop.invariant ∙ ap (λ (n : ℕ). is_some (all_dashes n rest)) (dashes_left_counted k c.loop-test.true) ∙ more_are_there rest (8 - (k + 1))
    (dash_seen c.in-Some.dash) c.in-Some.ensures (sym c.if-is_empty.ensures)

pub returns : goal.returns
returns c = sym (c.loop.invariant ∙ none_left c.loop.counter c.loop.rest.now c.loop-test.false)
