-- Private: only private contracts use this. What a file gives: the bytes of its document, or the cause why there is
-- none.
use Rattle.std.specs.Prelude.{◌≡◌, ℕ, List}
use Rattle.tk_item.specs.declared.Drawing.{Drawing}
use Rattle.tk_io.specs.Causes.{Rose}
use Rattle.tk_io.specs.Shelf.{Shelved}
use Rattle.tk_io.specs.declared.reading.ReadRefusal.{ReadRefusal}
use Rattle.tk_io.specs.declared.reading.ReadRefusal.TheVariants as readings
use Rattle.tk_svgwrite.specs.Plain.{document_text}
use Rattle.tk_render.specs.declared.Placed.{Placed}
use Rattle.tk_render.specs.declared.NoSvg.{NoSvg}
use Rattle.tk_render.specs.declared.NoSvg.TheVariants as renderings
use Rattle.tk_render.specs.Rendered.{IsSvgOf, BreaksAt}
use Rattle.tk_program.specs.declared.document.NoDocument.{NoDocument}
use Rattle.tk_program.specs.declared.document.NoDocument.TheVariants.{ReadFault, TooLong, Fault as HasFault, OutOfMemory}
use Rattle.tk_program.specs.Words.{Order}
use Rattle.tk_program.specs.Run.{WasRead, WasTooLong}

-- why a file that wasn't read gives no document
abbrev pub read_cause : ReadRefusal → NoDocument
read_cause readings.Failed = ReadFault
read_cause readings.TooLong = TooLong
read_cause readings.OutOfMemory = OutOfMemory

-- why a source gives none
abbrev pub source_cause : NoSvg → NoDocument
source_cause (renderings.Fault placed) = HasFault placed
source_cause renderings.OutOfMemory = OutOfMemory

-- the file was read, and the bytes are the document of what its source draws
pub record IsDocumentOf (order : Order) (before after : Shelved) (document : List ℕ) : Type 0 where
  pub source : List ℕ
  pub read : WasRead order.file source before after
  pub is : IsSvgOf order.asked source document

-- the file was read, and its source has that fault at that place
pub record FileBreaksAt (order : Order) (before after : Shelved) (placed : Placed) : Type 0 where
  pub source : List ℕ
  pub read : WasRead order.file source before after
  pub is : BreaksAt order.asked source placed

-- what each cause says of the file
abbrev pub Refuses : Order → Shelved → Shelved → NoDocument → Type 0
Refuses order before after ReadFault = Rose (before.faults order.file) (after.faults order.file)
Refuses order before after TooLong = WasTooLong order.file before after
Refuses order before after (HasFault placed) = FileBreaksAt order before after placed
Refuses order before after OutOfMemory = Unit {0}
