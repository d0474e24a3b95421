-- What a source gives: the document of its drawing, or the cause why there is none.
use Rattle.std.specs.Prelude.{◌≡◌, ℕ, List, Ok, Err}
use Rattle.tk_token.specs.declared.Fault.{Fault}
use Rattle.tk_token.specs.Answers.{Answer}
use Rattle.tk_token.specs.Places.{line_of, column_of}
use Rattle.tk_item.specs.declared.Drawing.{Drawing}
use Rattle.tk_svg.specs.Document.{IsDocument}
use Rattle.tk_svgwrite.specs.Plain.{document_text}
use Rattle.tk_picture.specs.declared.Asked.{Asked}
use Rattle.tk_picture.specs.Outcome.{IsOutcome, IsPlace}
use Rattle.tk_render.specs.declared.Placed.{Placed}
use Rattle.tk_render.specs.declared.NoSvg.{NoSvg}
use Rattle.tk_render.specs.declared.NoSvg.TheVariants as causes

-- what a source comes to: a drawing, or its first fault
abbrev pub ComesTo : Asked → List ℕ → Answer Drawing → Type 0
ComesTo asked source (Ok drawing) =
    (units : ℕ) × IsOutcome asked source (Ok (record { drawing = drawing; units = units }))
ComesTo asked source (Err fault) = IsOutcome asked source (Err fault)

-- ---- its document

-- the bytes are a document for this drawing, and for no other
pub record ReadsBackAs (document : List ℕ) (drawing : Drawing) : Type 0 where
  pub is : IsDocument document drawing
  pub only : (other : Drawing) → IsDocument document other → other ≡ drawing

-- the source draws something, and the bytes are the one document that is written for it
pub record IsSvgOf (asked : Asked) (source document : List ℕ) : Type 0 where
  pub drawing : Drawing
  pub drawn : ComesTo asked source (Ok drawing)
  pub means : ReadsBackAs (document_text drawing) drawing
  pub is : document ≡ document_text drawing

-- ---- its first fault

-- the source has this fault first, at a place in it with whole characters before
pub record Breaks (asked : Asked) (source : List ℕ) (fault : Fault) : Type 0 where
  pub is : ComesTo asked source (Err fault)
  pub place : IsPlace source fault.at

-- a fault of a source, with its line and column
abbrev pub placed_fault : List ℕ → Fault → Placed
placed_fault source f =
    record { code = f.code; line = line_of source f.at; column = column_of source f.at }

-- the source has a fault first, and this is it with its line and column
pub record BreaksAt (asked : Asked) (source : List ℕ) (found : Placed) : Type 0 where
  pub fault : Fault
  pub broken : Breaks asked source fault
  pub is : found ≡ placed_fault source fault

-- the cause is true of the source; of want of memory nothing is said
abbrev pub Explains : Asked → List ℕ → NoSvg → Type 0
Explains asked source (causes.Fault found) = BreaksAt asked source found
Explains asked source causes.OutOfMemory = Unit {0}
