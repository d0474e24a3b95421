use Rattle.std.proofs.Common.{◌≡◌, suc, ◌-◌, length, slice_set, sym, ap, ◌∙◌, arith}
use Rattle.tk_expand.specs.Stops.{before_stop}
use Rattle.tk_expand.specs.Unread.{Unread}
use Rattle.tk_expand.proofs.Stacks.{no_tokens, stacked-set, last_left_out}
use Rattle.tk_expand.proofs.Stopping.{before_last}
use Rattle.tk_expand.proofs.input.Input.before_in_first.Goals as goal

pub returns-then-not-is_empty-clause-gives : goal.returns-then-not-is_empty-clause-gives
returns-then-not-is_empty-clause-gives c =
    let last : suc (c.len-last.result - 1) ≡ length c.self.inside.stack.items = grind (
      arith,
      c.self.inside.stack.ok.0,
      c.is_empty.ensures,
      c.if-is_empty.false,
      c.len-last.ensures,
    ) in
    ap (λ (u : Unread). before_stop c.args.stop u.rest) (sym c.self.view_is)
    ∙ before_last c.args.stop c.self.inside.stack.items (slice_set c.self.inside.stack.items (c.len-last.result - 1) c.take_before.new.self)
    (c.len-last.result - 1) c.index_mut-list.result.now c.take_before.new.self c.in-Some.front.items last c.index_mut-list.ensures.value
    (rw c.in-Some.is at c.in_ok-front.ensures.gives) (stacked-set c.self.inside.stack.items (c.len-last.result - 1) c.take_before.new.self last)

pub returns-clause-gives : goal.returns-clause-gives
returns-clause-gives c =
    let last : suc (c.len-last.result - 1) ≡ length c.self.inside.stack.items = grind (
      arith,
      c.self.inside.stack.ok.0,
      c.is_empty.ensures,
      c.if-is_empty.false,
      c.len-last.ensures,
    ) in
    let none : length c.take_before.new.self ≡ 0 = grind (arith, c.is_empty-2.ensures, c.if-not-is_empty.false) in
    ap (λ (u : Unread). before_stop c.args.stop u.rest) (sym c.self.view_is)
    ∙ before_last c.args.stop c.self.inside.stack.items c.truncate.new.self.items (c.len-last.result - 1) c.index_mut-list.result.now
    c.take_before.new.self c.in-Some.front.items last c.index_mut-list.ensures.value
    (rw c.in-Some.is at c.in_ok-front.ensures.gives) (last_left_out c.self.inside.stack.items c.truncate.new.self.items (c.len-last.result - 1)
    c.take_before.new.self last (no_tokens c.take_before.new.self none) c.truncate.ensures.items)
