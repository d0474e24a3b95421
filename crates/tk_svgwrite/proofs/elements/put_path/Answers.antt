use Rattle.std.proofs.Common.{◌++◌, ◌∙◌, ap}
use Rattle.tk_svgwrite.proofs.Writing.{path_parts}
use Rattle.tk_svgwrite.proofs.elements.put_path.Goals as goal

pub returns-clause-text : goal.returns-clause-text
returns-clause-text c =
    path_parts _ _ _ _ c.args.segs.now c.args.presentation.now.fill c.args.presentation.now.stroke c.in_ok-extend_from_slice.ensures.items
    c.in_ok-put_data.ensures.text
    (c.in_ok-extend_from_slice-2.ensures.items ∙ ap (λ w. c.put_data.new.out.items ++ w) (c.as_slice.ensures ∙ c.requires.text))
