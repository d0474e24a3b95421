use Rattle.std.proofs.lemmas.Result.{IfOk-equal}
use Rattle.tk_svgwrite.proofs.Writing.{fill_parts}
use Rattle.tk_svgwrite.proofs.elements.put_fill.Goals as goal

pub returns-in_ok-put_optional-in-Some-clause-text : goal.returns-in_ok-put_optional-in-Some-clause-text
returns-in_ok-put_optional-in-Some-clause-text c =
    IfOk-equal c.put_optional-in-Some-2.result _ _ _ c.put_optional-in-Some-2.ensures
    (fill_parts c.args.out.now.items _ c.args.fill c.in-Some.fill _ _ c.in-Some.is c.rgb_digits.ensures.text c.rule_word.ensures
    c.in_ok-put_optional-in-Some.ensures)
