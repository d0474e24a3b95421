use Rattle.std.specs.Prelude.{option_map}
use Rattle.std.proofs.Common.{ap, ◌∙◌, true, false}
use Rattle.tk_look.proofs.Parentheses.{nothing_closes, closed_by}
use Rattle.tk_look.proofs.values.before_closing.Goals as goal

pub returns-in_err-last : goal.returns-in_err-last
returns-in_err-last c = ap (option_map _) c.from_residual.ensures ∙ nothing_closes c.args.list.now c.in_err-last.ensures.cases

pub returns-then-is_char : goal.returns-then-is_char
returns-then-is_char c =
    closed_by c.args.list.now c.in_ok-last.before.now c.in_ok-last.last.now true c.in_ok-last.ensures.cases.0 c.if-is_char.ensures

pub returns-else-is_char : goal.returns-else-is_char
returns-else-is_char c =
    closed_by c.args.list.now c.in_ok-last.before.now c.in_ok-last.last.now false c.in_ok-last.ensures.cases.0 c.if-is_char.ensures
