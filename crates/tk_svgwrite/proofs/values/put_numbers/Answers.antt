use Rattle.std.proofs.Common.{◌++◌, ◌∙◌, ap, sym, arith, subst, append_assoc}
use Rattle.std.specs.Prelude.{flat_map}
use Rattle.std.specs.List.{All}
use Rattle.std.proofs.lemmas.List.{take_all}
use Rattle.std.proofs.lemmas.List.Elements.{recursion_from_All}
use Rattle.tk_num.specs.Number.{IsScaled}
use Rattle.tk_num.specs.Text.{text_of}
use Rattle.tk_svgwrite.proofs.Writing.{spaced_text, numbers_text-cons, flat_map_step, all_step}
use Rattle.tk_svgwrite.proofs.values.put_numbers.Goals as goal

pub loop-number-preserved : goal.loop-number-preserved
loop-number-preserved c = record {
  text = flat_map_step spaced_text c.args.rest.now c.loop-number.number-index c.number-item.result _ _ _ c.loop-number-test.true c.number-item.is
      c.loop-number.invariant.text c.in_ok-put_next.ensures.text;
  range = all_step IsScaled c.args.rest.now c.loop-number.number-index c.number-item.result c.loop-number-test.true c.number-item.is
      c.loop-number.invariant.range c.in_ok-put_next.ensures.range;
}

pub returns-clause-text : goal.returns-clause-text
returns-clause-text c =
    let all = take_all c.loop-number.number-index c.args.rest.now (omega arith) in
    c.loop-number.invariant.text ∙ ap (λ w. c.put_scaled.new.out.items ++ flat_map spaced_text w) all
    ∙ ap (λ w. w ++ flat_map spaced_text c.args.rest.now) c.in_ok-put_scaled.ensures.text
    ∙ append_assoc c.args.out.now.items (text_of c.args.first) (flat_map spaced_text c.args.rest.now)
    ∙ ap (λ w. c.args.out.now.items ++ w) (sym (numbers_text-cons c.args.first c.args.rest.now))

pub returns-clause-range : goal.returns-clause-range
returns-clause-range c = (
  c.in_ok-put_scaled.ensures.range,
  recursion_from_All IsScaled c.args.rest.now (subst (All IsScaled) (take_all c.loop-number.number-index
      c.args.rest.now (omega arith)) c.loop-number.invariant.range),
)
