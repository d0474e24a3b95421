use Rattle.std.proofs.Common.{◌≡◌, suc, ◌-◌, List, [], ◌∷◌, length, refl, sym, ap, ◌∙◌, arith}
use Rattle.tk_token.specs.declared.Tok.{Tok}
use Rattle.tk_expand.specs.Unread.{Unread}
use Rattle.tk_expand.proofs.Stacks.{taken-within, taken-out, none-left}
use Rattle.tk_expand.proofs.input.Input.raw.Goals as goal

-- a list of 0 tokens has none
no_tokens : (ts : List Tok) → length ts ≡ 0 → ts ≡ []
no_tokens [] is = refl
no_tokens (t ∷ ts) is = absurd (omega (arith, is))

pub returns-then-is_empty-clause-none : goal.returns-then-is_empty-clause-none
returns-then-is_empty-clause-none c =
    let none : length c.self.inside.stack.items ≡ 0 = grind (arith, c.self.inside.stack.ok.0, c.is_empty.ensures, c.if-is_empty.true) in
    ap (λ (u : Unread). u.rest) (sym c.self.view_is) ∙ none-left c.self.inside.stack.items none

pub returns-then-is_empty-2-clause-rest : goal.returns-then-is_empty-2-clause-rest
returns-then-is_empty-2-clause-rest c =
    let last : suc (c.len-last.result - 1) ≡ length c.self.inside.stack.items = grind (
      arith,
      c.self.inside.stack.ok.0,
      c.is_empty.ensures,
      c.if-is_empty.false,
      c.len-last.ensures,
    ) in
    let none : length c.take-tok.new.self ≡ 0 = grind (arith, c.is_empty-2.ensures, c.if-is_empty-2.true) in
    ap (λ (u : Unread). u.rest) (sym c.self.view_is)
    ∙ taken-out c.self.inside.stack.items c.truncate.new.self.items (c.len-last.result - 1) c.index_mut-list.result.now c.take-tok.new.self
    c.take-tok.result last c.index_mut-list.ensures.value c.take-tok.ensures (no_tokens c.take-tok.new.self none) c.truncate.ensures.items

pub returns-else-is_empty-2-clause-rest : goal.returns-else-is_empty-2-clause-rest
returns-else-is_empty-2-clause-rest c =
    let last : suc (c.len-last.result - 1) ≡ length c.self.inside.stack.items = grind (
      arith,
      c.self.inside.stack.ok.0,
      c.is_empty.ensures,
      c.if-is_empty.false,
      c.len-last.ensures,
    ) in
    ap (λ (u : Unread). u.rest) (sym c.self.view_is)
    ∙ taken-within c.self.inside.stack.items (c.len-last.result - 1) c.index_mut-list.result.now c.take-tok.new.self c.take-tok.result last
    c.index_mut-list.ensures.value c.take-tok.ensures
