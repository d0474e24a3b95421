use Rattle.std.proofs.Common.{◌∙◌, sym}
use Rattle.tk_token.proofs.Spaces.{last_left_out, last_stays, none_left_out}
use Rattle.tk_token.proofs.groups.before_spaces.Goals as goal

pub returns-then-not-is_space : goal.returns-then-not-is_space
returns-then-not-is_space c =
    sym (c.loop-last.invariant ∙ last_stays c.loop-last.rest.now c.in-Some.front.now c.in-Some.last.now c.in-Some.ensures.cases.0
    (sym c.if-not-is_space.ensures))

pub loop-last-preserved : goal.loop-last-preserved
loop-last-preserved c =
    c.loop-last.invariant ∙ last_left_out c.loop-last.rest.now c.in-Some.front.now c.in-Some.last.now c.in-Some.ensures.cases.0
    (sym c.if-not-is_space.ensures)

pub returns : goal.returns
returns c = sym (c.loop-last.invariant ∙ none_left_out c.loop-last.rest.now c.in_default.ensures.cases)
