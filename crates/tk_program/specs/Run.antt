-- What each status of the program means. `command_of` (Words) says what is asked for.
use Rattle.std.specs.Prelude.{◌≡◌, ◌≢◌, ◌⊎◌, ℕ, ◌+◌, ◌<◌, ◌≤◌, List, [], length, take, drop, Option, Some, None, IfSome}
use Rattle.std.specs.Prelude.{Ok, Err, unwrap_or}
use Rattle.tk_token.specs.declared.Fault.{Fault}
use Rattle.tk_item.specs.declared.Drawing.{Drawing}
use Rattle.tk_io.specs.Causes.{Rose}
use Rattle.tk_io.specs.Shelf.{Shelved, Counts, Leaves, LeavesOfInput, standard_input}
use Rattle.tk_io.specs.Sink.{Sunk, Takes}
use Rattle.tk_svgwrite.specs.Plain.{document_text}
use Rattle.tk_render.specs.Rendered.{ComesTo, ReadsBackAs, Breaks}
use Rattle.tk_program.specs.Words.{Order, Command, Render}
use Rattle.tk_program.specs.Lines.{fault_line, too_long_line, read_fault_line, usage_line, write_fault_line}
use Rattle.tk_program.specs.Lines.{out_of_memory_line}

-- the most bytes of a source: 16 MiB
abbrev pub most_bytes : ℕ
most_bytes = 16777216

-- what the shelf and the two sinks mean at a moment
pub record World : Type 0 where
  pub shelf : Shelved
  pub out : Sunk
  pub err : Sunk

-- the world of these three
abbrev pub world : Shelved → Sunk → Sunk → World
world shelf out err = record { shelf = shelf; out = out; err = err }

-- ---- the file

-- the file was read to its end, and this is what it gave: all that the shelf holds under it, where
-- the shelf tells that; of standard input nothing is left then
pub record WasRead (file source : List ℕ) (before after : Shelved) : Type 0 where
  pub is_source : IfSome before.holds (λ holds. source ≡ unwrap_or (holds file) [])
  pub short : length source ≤ most_bytes
  pub taken : after.taken ≡ length source
  pub ended : IfSome before.holds (λ _. after.left ≡ Some [])
  pub emptied : file ≡ standard_input → LeavesOfInput (λ _. []) before after

-- the file gave one byte more than a source may have, and holds that many where the shelf tells
-- that; of standard input the rest is left then
pub record WasTooLong (file : List ℕ) (before after : Shelved) : Type 0 where
  pub taken : after.taken ≡ most_bytes + 1
  pub long : IfSome before.holds (λ holds. most_bytes < length (unwrap_or (holds file) []))
  pub input : file ≡ standard_input → LeavesOfInput (drop (most_bytes + 1)) before after

-- the file was read, and draws this
pub record FileDraws (order : Order) (before after : Shelved) (drawing : Drawing) : Type 0 where
  pub source : List ℕ
  pub read : WasRead order.file source before after
  pub is : ComesTo order.asked source (Ok drawing)

-- the file was read, these are its bytes, and this is their first fault
pub record FileBreaks
    (order : Order) (source : List ℕ) (before after : Shelved) (fault : Fault) : Type 0 where
  pub read : WasRead order.file source before after
  pub broken : Breaks order.asked source fault

-- no other file is touched: where the shelf tells its bytes it holds what it held, but of standard
-- input, if that is the file, exactly what is behind the bytes that were taken of it, and the counts
-- of its other files stay
pub record UsesOne (file : List ℕ) (before after : Shelved) : Type 0 where
  pub counts : Counts file before after
  pub leaves : Leaves file before after

-- ---- the statuses

-- a line was written, or a proper part of it where the sink failed
pub data Says (old new : Sunk) (line : List ℕ) : Type 0 where
  whole : Takes old new line → Says old new line
  part :
      (n : ℕ)
      → n < length line
      → Takes old new (take n line)
      → Rose old.faults new.faults
      → Says old new line

-- a document was written, which reads back as this drawing and no other
pub record WritesDocument (drawing : Drawing) (old new : Sunk) : Type 0 where
  pub written : Takes old new (document_text drawing)
  pub means : ReadsBackAs (document_text drawing) drawing

-- status 0: `out` took the document of the file's drawing, and `err` nothing
pub record Done (order : Order) (before after : World) : Type 0 where
  pub drawing : Drawing
  pub drawn : FileDraws order before.shelf after.shelf drawing
  pub written : WritesDocument drawing before.out after.out
  pub silent : after.err ≡ before.err

-- status 1: `err` took the line of the file's fault
pub record HasFault (order : Order) (before after : World) : Type 0 where
  pub source : List ℕ
  pub fault : Fault
  pub broken : FileBreaks order source before.shelf after.shelf fault
  pub says : Says before.err after.err (fault_line order.file source fault)
  pub untouched : after.out ≡ before.out

-- status 1: the file has more bytes than a source may have
pub record IsTooLong (file : List ℕ) (before after : World) : Type 0 where
  pub long : WasTooLong file before.shelf after.shelf
  pub says : Says before.err after.err (too_long_line file)
  pub untouched : after.out ≡ before.out

-- status 2: the words are faulty, and the shelf is as it was
pub record IsUsage (before after : World) : Type 0 where
  pub unopened : after.shelf ≡ before.shelf
  pub says : Says before.err after.err usage_line
  pub untouched : after.out ≡ before.out

-- status 3: the shelf failed at the file
pub record ReadFails (file : List ℕ) (before after : World) : Type 0 where
  pub cause : Rose (before.shelf.faults file) (after.shelf.faults file)
  pub says : Says before.err after.err (read_fault_line file)
  pub untouched : after.out ≡ before.out

-- status 4: `out` failed, and took a proper part of the document that status 0 would have written
pub record WriteFails (order : Order) (before after : World) : Type 0 where
  pub drawing : Drawing
  pub count : ℕ
  pub drawn : FileDraws order before.shelf after.shelf drawing
  pub means : ReadsBackAs (document_text drawing) drawing
  pub less : count < length (document_text drawing)
  pub written : Takes before.out after.out (take count (document_text drawing))
  pub cause : Rose before.out.faults after.out.faults
  pub says : Says before.err after.err write_fault_line

-- status 5: memory ran out before the first write to `out`
pub record LacksMemory (before after : World) : Type 0 where
  pub says : Says before.err after.err out_of_memory_line
  pub untouched : after.out ≡ before.out

-- ---- which status comes

-- no call failed, by their count
abbrev pub DidNotFail : ℕ → ℕ → Type 0
DidNotFail before after = Rose before after → ⊥

-- the shelf tells its bytes, these are what it holds under the file, and it didn't fail at it
pub record IsTold (file source : List ℕ) (before after : Shelved) : Type 0 where
  pub holds : List ℕ → Option (List ℕ)
  pub told : before.holds ≡ Some holds
  pub is : source ≡ unwrap_or (holds file) []
  pub sound : DidNotFail (before.faults file) (after.faults file)

-- the document of a drawing is written, unless `out` fails or memory runs out
abbrev pub Completes : Order → World → World → ℕ → Type 0
Completes order before after status =
    (source : List ℕ) (drawing : Drawing)
    → IsTold order.file source before.shelf after.shelf
    → length source ≤ most_bytes
    → ComesTo order.asked source (Ok drawing)
    → DidNotFail before.out.faults after.out.faults
    → ((status ≡ 0) × WritesDocument drawing before.out after.out) ⊎ (status ≡ 5)

-- a fault is named, unless memory runs out
abbrev pub NamesFault : Order → World → World → ℕ → Type 0
NamesFault order before after status =
    (source : List ℕ) (fault : Fault)
    → IsTold order.file source before.shelf after.shelf
    → length source ≤ most_bytes
    → ComesTo order.asked source (Err fault)
    → ((status ≡ 1) × Says before.err after.err (fault_line order.file source fault)) ⊎ (status ≡ 5)

-- a longer file is refused, unless memory runs out
abbrev pub RefusesLong : List ℕ → World → World → ℕ → Type 0
RefusesLong file before after status =
    (source : List ℕ)
    → IsTold file source before.shelf after.shelf
    → most_bytes < length source
    → ((status ≡ 1) × Says before.err after.err (too_long_line file)) ⊎ (status ≡ 5)

-- ---- a run

-- the status that `render` of a file answers, and what it did
pub record Renders (order : Order) (before after : World) (status : ℕ) : Type 0 where
  -- what each status means
  pub known : status ≤ 5
  pub done : status ≡ 0 → Done order before after
  pub refused : status ≡ 1 → HasFault order before after ⊎ IsTooLong order.file before after
  pub asked : status ≢ 2
  pub read : status ≡ 3 → ReadFails order.file before after
  pub write : status ≡ 4 → WriteFails order before after
  pub memory : status ≡ 5 → LacksMemory before after
  pub untouched : status ≢ 0 → status ≢ 4 → after.out ≡ before.out
  -- which status comes
  pub completes : Completes order before after status
  pub names_fault : NamesFault order before after status
  pub refuses_long : RefusesLong order.file before after status
  -- whatever the status
  pub one_file : UsesOne order.file before.shelf after.shelf

-- the status that a run answers, and what it did: status 2 comes exactly where nothing is asked for
abbrev pub Runs : Option Command → World → World → ℕ → Type 0
Runs None before after status = (status ≡ 2) × IsUsage before after
Runs (Some (Render order)) before after status = Renders order before after status
