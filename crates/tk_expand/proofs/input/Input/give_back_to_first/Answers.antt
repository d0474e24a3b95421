use Rattle.std.proofs.Common.{◌≡◌, suc, ◌-◌, Bool, true, false, List, ◌∷◌, length, ap, ◌∙◌, arith}
use Rattle.std.specs.Bool.{OnTrue}
use Rattle.tk_token.specs.declared.Tok.{Tok}
use Rattle.tk_expand.specs.Unread.{Unread, unread}
use Rattle.tk_expand.proofs.Stacks.{given-back}
use Rattle.tk_expand.proofs.input.Input.give_back_to_first.Goals as goal

-- what is given where the test holds
on_true : {P Q : Type 0} (b : Bool) → (P → Q) → OnTrue b P → OnTrue b Q
on_true true f h = f h
on_true false f h = h

pub returns-clause-given : goal.returns-clause-given
returns-clause-given c =
    let last : suc (c.len-last.result - 1) ≡ length c.self.inside.stack.items = grind (
      arith,
      c.self.inside.stack.ok.0,
      c.is_empty.ensures,
      c.if-is_empty.false,
      c.len-last.ensures,
    ) in
    on_true c.give_back.result
    (λ h. ap (λ (ts : List Tok). unread ts c.self.inside.end) (given-back c.self.inside.stack.items (c.len-last.result - 1) c.index_mut.result.now
    c.give_back.new.self c.args.tok last c.index_mut.ensures.value h)
    ∙ ap (λ (u : Unread). unread (c.args.tok ∷ u.rest) u.end) c.self.view_is)
    c.give_back.ensures.given
