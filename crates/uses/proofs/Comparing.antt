-- Documents tell drawings apart.
use Rattle.std.proofs.Common.{◌≡◌, Bool, true, ℕ, List, refl, ap, sym, subst, ◌∙◌}
use Rattle.std.specs.Bool.{Decides}
use Rattle.tk_item.specs.declared.Drawing.{Drawing}
use Rattle.tk_svg.specs.Document.{IsDocument}
use Rattle.tk_svgwrite.specs.Plain.{document_text}
use Rattle.tk_render.specs.Rendered.{IsSvgOf}
use Rattle.uses.specs.Documents.{asked, Compares}

pub compares :
    (one other first second : List ℕ) (same : Bool)
    → IsSvgOf asked one first
    → IsSvgOf asked other second
    → Decides same (first ≡ second)
    → Compares same one other
compares one other first second same a b decides = record {
  first = a.drawing;
  second = b.drawing;
  first_is = a.drawn;
  second_is = b.drawn;
  alike = (
    λ equal. b.means.only a.drawing (subst (λ (w : List ℕ). IsDocument w a.drawing) (sym a.is ∙ decides.0 equal ∙ b.is) a.means.is),
    λ alike. decides.1 (a.is ∙ ap document_text alike ∙ sym b.is),
  );
}
