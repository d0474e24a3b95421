use Rattle.std.proofs.Common.{◌++◌, ◌∙◌, ap, subst, List}
use Rattle.std.specs.Prelude.{flat_map}
use Rattle.std.specs.List.{AllByRecursion}
use Rattle.tk_item.specs.declared.Item.{Item}
use Rattle.tk_svgwrite.specs.Plain.{item_text}
use Rattle.tk_svgwrite.specs.Ranges.{ItemInRange}
use Rattle.tk_svgwrite.proofs.Writing.{document_written}
use Rattle.tk_svgwrite.proofs.put_document.Goals as goal

pub returns : goal.returns
returns c = record {
  text = document_written c.args.out.now.items _ _ _ _ c.args.drawing.now c.in_ok-extend_from_slice.ensures.items c.in_ok-put_svg.ensures.text
      (c.in_ok-put_items.ensures.text ∙ ap (λ (w : List Item). c.put_svg.new.out.items ++ flat_map item_text w) c.as_slice.ensures)
      c.in_ok-extend_from_slice-2.ensures.items;
  size = c.in_ok-put_svg.ensures.range;
  range = subst (AllByRecursion ItemInRange) c.as_slice.ensures c.in_ok-put_items.ensures.range;
}
