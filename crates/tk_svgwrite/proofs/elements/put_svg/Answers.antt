use Rattle.tk_svgwrite.proofs.Writing.{svg_written}
use Rattle.tk_svgwrite.proofs.elements.put_svg.Goals as goal

pub returns-clause-text : goal.returns-clause-text
returns-clause-text c =
    svg_written c.args.out.now.items _ _ _ _ _ c.args.drawing.now c.in_ok-extend_from_slice.ensures.items c.in_ok-put_frame.ensures
    c.in_ok-put_family.ensures c.in_ok-put_size.ensures.text c.in_ok-extend_from_slice-2.ensures.items
