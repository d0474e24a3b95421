use Rattle.std.proofs.Common.{◌≡◌, ◌∷◌, length, List, Ok, sym, ap, ◌∙◌, arith}
use Rattle.tk_token.specs.declared.Tok.{Tok}
use Rattle.tk_token.specs.Answers.{Answer}
use Rattle.tk_token.specs.Groups.{Cut, cut}
use Rattle.tk_token.specs.Spaces.{after_spaces}
use Rattle.tk_expand.specs.Unread.{Unread}
use Rattle.tk_expand.proofs.Written.{single_argument, spaces_no_longer}
use Rattle.tk_expand.proofs.input.Input.argument.Goals as goal

pub returns-in-Some-2-clause-shorter : goal.returns-in-Some-2-clause-shorter
returns-in-Some-2-clause-shorter c =
    let less = rw c.in-Some-2.is at c.in_ok-contents-in-Open.ensures.shorter in
    let first : c.in-Some.first ∷ c.raw.new.self.rest ≡ after_spaces c.args.self.now.rest = sym c.in-Some.ensures.rest
    ∙ ap (λ (u : Unread). u.rest) c.skip_spaces.ensures in
    omega (arith, less, ap length first, spaces_no_longer c.args.self.now.rest)

pub returns-in_ok-vec-in_default-kind : goal.returns-in_ok-vec-in_default-kind
returns-in_ok-vec-in_default-kind c =
    let first : c.in-Some.first ∷ c.raw.new.self.rest ≡ after_spaces c.args.self.now.rest = sym c.in-Some.ensures.rest
    ∙ ap (λ (u : Unread). u.rest) c.skip_spaces.ensures in
    record {
      gives =
          single_argument c.args.at c.args.self.now.rest c.in-Some.first c.raw.new.self.rest (sym first) c.in_default-kind.not-Open
          c.in_default-kind.not-Close
          ∙ ap (λ (front : List Tok). (let r : Answer Cut = Ok (cut front c.raw.new.self.rest) in r)) (sym c.in_ok-vec-in_default-kind.ensures.items);
      end = c.in-Some.ensures.end ∙ ap (λ (u : Unread). u.end) c.skip_spaces.ensures;
      shorter = omega (arith, ap length first, ap length c.in_ok-vec-in_default-kind.ensures.items, spaces_no_longer c.args.self.now.rest);
    }
