use Rattle.std.proofs.Common.{◌∙◌, sym, ap, length}
use Rattle.std.proofs.lemmas.Result.{IfOk-equal}
use Rattle.tk_svgwrite.proofs.Writing.{no_dashes, some_dashes}
use Rattle.tk_svgwrite.proofs.attributes.put_dashes.Goals as goal

pub returns-in-None-clause-text : goal.returns-in-None-clause-text
returns-in-None-clause-text c = no_dashes c.args.out.now.items c.args.dashes.now (ap length (sym c.as_slice.ensures.value) ∙ c.in-None.ensures.cases)

pub returns-in_ok-put_numbers-in-Some-clause-text : goal.returns-in_ok-put_numbers-in-Some-clause-text
returns-in_ok-put_numbers-in-Some-clause-text c =
    IfOk-equal c.close_attribute.result _ _ _ c.close_attribute.ensures (some_dashes c.args.out.now.items _ _ c.in-Some.first.now c.in-Some.rest.now
    c.args.dashes.now (sym c.as_slice.ensures.value ∙ c.in-Some.ensures.cases.0) c.in_ok-open_attribute-in-Some.ensures
    c.in_ok-put_numbers-in-Some.ensures.text c.in_ok-put_numbers-in-Some.ensures.range c.as_slice.ensures.dashes)
