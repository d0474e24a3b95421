use Rattle.std.proofs.lemmas.Result.{IfOk-equal}
use Rattle.tk_svgwrite.proofs.Writing.{pen_parts}
use Rattle.tk_svgwrite.proofs.elements.put_pen.Goals as goal

pub returns-clause-text : goal.returns-clause-text
returns-clause-text c =
    IfOk-equal c.put_optional_number-3.result _ _ _ c.put_optional_number-3.ensures.text
    (pen_parts c.args.out.now.items _ _ _ _ _ _ c.args.stroke.now _ _ _ c.rgb_digits.ensures.text c.cap_word.ensures c.join_word.ensures
    c.in_ok-put_optional.ensures c.in_ok-put_optional_number.ensures.text c.in_ok-put_optional-2.ensures c.in_ok-put_optional-3.ensures
    c.in_ok-put_optional_number-2.ensures.text c.in_ok-put_dashes.ensures.text)
