use Rattle.std.proofs.Common.{◌≡◌, ◌++◌, ◌∙◌, ap, sym, subst, List, ℕ}
use Rattle.tk_svg.specs.Document.{IsDocument}
use Rattle.tk_svgwrite.specs.Plain.{document_text}
use Rattle.tk_svgwrite.proofs.Document.{document_means}
use Rattle.tk_svgwrite.proofs.write_svg.Goals as goal

pub returns : goal.returns
returns c =
    let d = c.args.drawing.now in
    let text : c.put_document.new.out.items ≡ document_text d = c.in_ok-put_document.ensures.text
    ∙ ap (λ (w : List ℕ). w ++ document_text d) c.in_ok-out.ensures.items in
    record {
      text = text;
      means = subst (λ (w : List ℕ). IsDocument w d) (sym text) (document_means d c.requires.fits c.in_ok-put_document.ensures.size
          c.in_ok-put_document.ensures.range);
    }
