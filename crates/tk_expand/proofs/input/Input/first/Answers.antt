use Rattle.std.proofs.Common.{◌≡◌, suc, ◌-◌, length, slice_get, sym, ap, ◌∙◌, arith}
use Rattle.tk_expand.specs.Unread.{Unread}
use Rattle.tk_expand.proofs.Stacks.{none_first, first_of_last}
use Rattle.tk_expand.proofs.input.Input.first.Goals as goal

pub returns-then-is_empty : goal.returns-then-is_empty
returns-then-is_empty c =
    let none : length c.self.inside.stack.items ≡ 0 = grind (arith, c.self.inside.stack.ok.0, c.is_empty.ensures, c.if-is_empty.true) in
    sym (ap (λ (u : Unread). slice_get u.rest 0) (sym c.self.view_is) ∙ none_first c.self.inside.stack.items none)

pub returns : goal.returns
returns c =
    let last : suc (c.len-last.result - 1) ≡ length c.self.inside.stack.items = grind (
      arith,
      c.self.inside.stack.ok.0,
      c.is_empty.ensures,
      c.if-is_empty.false,
      c.len-last.ensures,
    ) in
    sym (ap (λ (u : Unread). slice_get u.rest 0) (sym c.self.view_is) ∙ first_of_last c.self.inside.stack.items (c.len-last.result - 1)
    c.index.result.now c.index.result.now c.first.result last c.index.ensures c.first.ensures)
