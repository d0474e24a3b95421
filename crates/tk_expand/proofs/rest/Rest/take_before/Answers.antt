use Rattle.std.proofs.Common.{◌≡◌, ℕ, ◌+◌, ◌-◌, List, length, drop, Option, Some, sym, ap, ◌∙◌, arith}
use Rattle.tk_token.specs.declared.Tok.{Tok}
use Rattle.tk_token.specs.Groups.{Cut, cut}
use Rattle.tk_expand.specs.Stops.{before_stop}
use Rattle.tk_expand.proofs.Stopping.{taken_there}
use Rattle.tk_expand.proofs.rest.Rest.take_before.Goals as goal

pub overflow_sub-self : goal.overflow_sub-self
overflow_sub-self c =
    let t = taken_there c.args.stop c.self.inside.list c.self.inside.from c.sought.result c.as_slice.result.now c.in-Some.front.now c.in-Some.rest.now
    c.self.invariant (c.as_slice.ensures ∙ sym c.self.view_is) c.sought.ensures c.in-Some.ensures in
    omega (arith, t.0, ap length c.as_slice-2.ensures)

pub invariant_of-self : goal.invariant_of-self
invariant_of-self c =
    let t = taken_there c.args.stop c.self.inside.list c.self.inside.from c.sought.result c.as_slice.result.now c.in-Some.front.now c.in-Some.rest.now
    c.self.invariant (c.as_slice.ensures ∙ sym c.self.view_is) c.sought.ensures c.in-Some.ensures in
    omega (arith, t.1, ap length c.as_slice-2.ensures)

pub returns-clause-gives : goal.returns-clause-gives
returns-clause-gives c =
    let t = taken_there c.args.stop c.self.inside.list c.self.inside.from c.sought.result c.as_slice.result.now c.in-Some.front.now c.in-Some.rest.now
    c.self.invariant (c.as_slice.ensures ∙ sym c.self.view_is) c.sought.ensures c.in-Some.ensures in
    let n : (length c.as_slice-2.result.now - length c.in-Some.rest.now) + 1 ≡ (length c.self.inside.list - length c.in-Some.rest.now)
    + 1 = ap (λ (ts : List Tok). (length ts - length c.in-Some.rest.now) + 1) c.as_slice-2.ensures in
    ap (λ (front : List Tok). (let o : Option Cut = Some (cut front (drop ((length c.as_slice-2.result.now - length c.in-Some.rest.now) + 1) c.self.inside.list)) in o)) c.in_ok-front.ensures
    ∙ ap (λ (k : ℕ). (let o : Option Cut = Some (cut c.in-Some.front.now (drop k c.self.inside.list)) in o)) n
    ∙ sym t.2 ∙ ap (before_stop c.args.stop) c.as_slice.ensures
