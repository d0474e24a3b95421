use Rattle.std.proofs.Common.{◌++◌, ◌∙◌, ap, List, ℕ}
use Rattle.tk_svgwrite.specs.Values.{content_text}
use Rattle.std.specs.Char.{IsScalar}
use Rattle.std.proofs.lemmas.List.Elements.{recursion_from_All}
use Rattle.tk_svgwrite.proofs.Writing.{label_parts}
use Rattle.tk_svgwrite.proofs.labels.put_label.Goals as goal

pub returns-clause-text : goal.returns-clause-text
returns-clause-text c =
    label_parts c.args.out.now.items _ _ _ _ _ _ _ c.args.label.now c.rgb_digits.ensures.text c.in_ok-extend_from_slice.ensures.items
    c.in_ok-put_placing.ensures.text c.in_ok-put_optional.ensures c.in_ok-extend_from_slice-2.ensures.items
    (c.in_ok-put_content.ensures ∙ ap (λ (w : List ℕ). c.extend_from_slice-2.new.self.items ++ content_text w) c.as_slice.ensures.value)
    c.in_ok-extend_from_slice-3.ensures.items

pub returns-clause-range : goal.returns-clause-range
returns-clause-range c = record {
  at = c.in_ok-put_placing.ensures.place;
  matrix = c.in_ok-put_placing.ensures.range;
  colour = c.rgb_digits.ensures.range;
  text = recursion_from_All IsScalar c.args.label.now.text c.as_slice.ensures.chars;
}
