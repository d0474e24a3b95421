-- The document of a drawing is that of the source, and a refusal explains it.
use Rattle.std.proofs.Common.{◌≡◌, ℕ, ◌≤◌, List, length, take, Ok, Err, ap, refl, subst}
use Rattle.std.specs.Str.{IsUtf8}
use Rattle.tk_token.specs.declared.Refusal.{Refusal}
use Rattle.tk_token.specs.declared.Refusal.TheVariants as refusals
use Rattle.tk_token.specs.Answers.{Answer}
use Rattle.tk_token.specs.Refusals.{OnFault}
use Rattle.tk_item.specs.declared.Drawing.{Drawing}
use Rattle.tk_svg.specs.Document.{IsDocument}
use Rattle.tk_svgwrite.specs.Plain.{document_text}
use Rattle.tk_picture.specs.declared.Asked.{Asked}
use Rattle.tk_picture.specs.declared.Compiled.{Compiled}
use Rattle.tk_picture.specs.Outcome.{IsOutcome}
use Rattle.tk_picture.proofs.Outcomes.{one_outcome}
use Rattle.tk_render.specs.Causes.{cause_of}
use Rattle.tk_render.specs.Rendered.{ComesTo, IsSvgOf, Explains}

-- no bytes are a document for two drawings
abbrev pub OneDrawing : Type 0
OneDrawing =
    (bytes : List ℕ) (a b : Drawing) → IsDocument bytes a → IsDocument bytes b → a ≡ b

pub is_svg_of :
    (law : OneDrawing)
    (asked : Asked) (source bytes : List ℕ) (c : Compiled)
    → IsOutcome asked source (Ok c)
    → bytes ≡ document_text c.drawing
    → IsDocument bytes c.drawing
    → IsSvgOf asked source bytes
is_svg_of law asked source bytes c outcome is document =
    let means = subst (λ (w : List ℕ). IsDocument w c.drawing) is document in
    record {
      drawing = c.drawing;
      drawn = (c.units, outcome);
      means = record {
        is = means;
        only = λ other also. law (document_text c.drawing) other c.drawing also means;
      };
      is = is;
    }

pub explains :
    (asked : Asked) (source : List ℕ) (refusal : Refusal)
    → OnFault refusal (λ f. IsOutcome asked source (Err f))
    → OnFault refusal (λ f. f.at ≤ length source)
    → OnFault refusal (λ f. IsUtf8 (take f.at source))
    → Explains asked source (cause_of source refusal)
explains asked source (refusals.Fault f) is within text = record {
  fault = f;
  broken = record { is = is; place = record { within = within; text = text } };
  is = refl;
}
explains asked source refusals.OutOfMemory is within text = tt

-- the drawing of what was compiled
abbrev drawing_of : Answer Compiled → Answer Drawing
drawing_of (Ok c) = Ok c.drawing
drawing_of (Err f) = Err f

-- a source comes to one drawing or fault
pub one_answer : (asked : Asked) (source : List ℕ) (a b : Answer Drawing) → ComesTo asked source a → ComesTo asked source b → a ≡ b
one_answer asked source (Ok d) (Ok e) x y = ap drawing_of (one_outcome asked source _ _ x.1 y.1)
one_answer asked source (Ok d) (Err g) x y = ap drawing_of (one_outcome asked source _ _ x.1 y)
one_answer asked source (Err f) (Ok e) x y = ap drawing_of (one_outcome asked source _ _ x y.1)
one_answer asked source (Err f) (Err g) x y = ap drawing_of (one_outcome asked source _ _ x y)
