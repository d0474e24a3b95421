use Rattle.tk_svgwrite.proofs.Writing.{presentation_parts}
use Rattle.tk_svgwrite.proofs.presentation.put_presentation.Goals as goal

pub returns : goal.returns
returns c = record {
  text = presentation_parts _ _ _ _ _ c.args.fill c.args.stroke.now c.requires c.in_ok-push.ensures.items c.in_ok-put_fill.ensures.text
      c.in_ok-put_stroke.ensures.text c.in_ok-extend_from_slice.ensures.items;
  colours = c.in_ok-put_fill.ensures.range;
  numbers = c.in_ok-put_stroke.ensures.range;
}
