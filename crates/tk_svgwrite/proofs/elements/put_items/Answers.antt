use Rattle.std.proofs.Common.{◌≤◌, arith, length, subst}
use Rattle.std.specs.List.{All}
use Rattle.std.proofs.lemmas.List.{take_all}
use Rattle.std.proofs.lemmas.List.Elements.{recursion_from_All}
use Rattle.tk_svgwrite.specs.Plain.{item_text}
use Rattle.tk_svgwrite.specs.Ranges.{ItemInRange}
use Rattle.tk_svgwrite.proofs.Writing.{flat_map_step, all_step, items_written}
use Rattle.tk_svgwrite.proofs.elements.put_items.Goals as goal

pub loop-item-preserved : goal.loop-item-preserved
loop-item-preserved c = record {
  text = flat_map_step item_text c.args.items.now c.loop-item.item-index c.item-item.result _ _ _ c.loop-item-test.true c.item-item.is
      c.loop-item.invariant.text c.in_ok-put_item.ensures.text;
  range = all_step ItemInRange c.args.items.now c.loop-item.item-index c.item-item.result c.loop-item-test.true c.item-item.is
      c.loop-item.invariant.range c.in_ok-put_item.ensures.range;
  kept = c.in_ok-put_item.ensures.kept;
}

pub returns : goal.returns
returns c =
    let all : length c.args.items.now ≤ c.loop-item.item-index = omega arith in
    record {
      text = items_written _ _ c.args.items.now c.loop-item.item-index all c.loop-item.invariant.text;
      range = recursion_from_All ItemInRange c.args.items.now (subst (All ItemInRange) (take_all c.loop-item.item-index c.args.items.now all)
          c.loop-item.invariant.range);
    }
