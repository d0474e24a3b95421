use Rattle.std.proofs.Common.{◌++◌, ◌∙◌, ap, take, length, arith}
use Rattle.std.proofs.lemmas.Result.{IfOk-equal}
use Rattle.tk_svgwrite.proofs.Writing.{family_parts}
use Rattle.tk_svgwrite.proofs.elements.put_family.Goals as goal

pub returns : goal.returns
returns c =
    IfOk-equal c.close_attribute.result _ _ _ c.close_attribute.ensures
    (family_parts c.args.out.now.items _ _ c.args.family.now c.loop-letter.letter-index
    (omega (arith, ap length c.as_slice-letter-items.ensures.value)) c.in_ok-open_attribute.ensures (c.loop-letter.invariant
    ∙ ap (λ w. c.open_attribute.new.out.items ++ take c.loop-letter.letter-index w) c.as_slice-letter-items.ensures.value))
