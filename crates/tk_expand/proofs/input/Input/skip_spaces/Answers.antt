use Rattle.std.proofs.Common.{◌≡◌, ◌∷◌, ◌∙◌, ap, sym, length, arith}
use Rattle.tk_expand.specs.Unread.{past_spaces}
use Rattle.tk_expand.proofs.Written.{first_dropped, passed_over, without_space_stays, none_stays, same_list}
use Rattle.tk_expand.proofs.input.Input.skip_spaces.Goals as goal

pub loop-tok-smaller : goal.loop-tok-smaller
loop-tok-smaller c =
    let e : c.loop-tok.self.rest ≡ c.in-Some.tok ∷ c.raw.new.self.rest = first_dropped c.loop-tok.self.rest c.in-Some.tok c.raw.result
    c.raw.new.self.rest (sym c.first.ensures ∙ c.in-Some.is) c.raw.ensures.rest c.raw.ensures.none in
    omega (arith, ap length e)

pub loop-tok-preserved : goal.loop-tok-preserved
loop-tok-preserved c =
    let e : c.loop-tok.self.rest ≡ c.in-Some.tok ∷ c.raw.new.self.rest = first_dropped c.loop-tok.self.rest c.in-Some.tok c.raw.result
    c.raw.new.self.rest (sym c.first.ensures ∙ c.in-Some.is) c.raw.ensures.rest c.raw.ensures.none in
    record {
      told = c.loop-tok.invariant.told ∙ passed_over c.loop-tok.self.rest c.in-Some.tok c.raw.new.self.rest e (sym c.is_space.ensures
          ∙ c.if-not-is_space.false);
      end = c.raw.ensures.end ∙ c.loop-tok.invariant.end;
    }

pub returns-then-not-is_space : goal.returns-then-not-is_space
returns-then-not-is_space c =
    same_list c.loop-tok.self (past_spaces c.args.self.now)
    (sym (c.loop-tok.invariant.told ∙ without_space_stays c.loop-tok.self.rest c.in-Some.tok (sym c.first.ensures ∙ c.in-Some.is)
    (sym c.is_space.ensures ∙ c.if-not-is_space.true)))
    c.loop-tok.invariant.end

pub returns : goal.returns
returns c =
    same_list c.loop-tok.self (past_spaces c.args.self.now)
    (sym (c.loop-tok.invariant.told ∙ none_stays c.loop-tok.self.rest (sym c.first.ensures ∙ c.in_default.is)))
    c.loop-tok.invariant.end
