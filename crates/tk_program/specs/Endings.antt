-- Private: only private contracts use this. How a run ends.
use Rattle.std.specs.Prelude.{◌≡◌, ◌⊎◌, ℕ, ◌<◌, List, length, take, Option, Some, None}
use Rattle.tk_io.specs.Causes.{Rose}
use Rattle.tk_io.specs.Sink.{Sunk, Takes}
use Rattle.tk_program.specs.declared.document.NoDocument.{NoDocument}
use Rattle.tk_program.specs.declared.document.NoDocument.TheVariants as causes
use Rattle.tk_program.specs.declared.program.Status.{Status}
use Rattle.tk_program.specs.declared.program.Status.TheVariants as statuses
use Rattle.tk_program.specs.Words.{Order, Command, Render}
use Rattle.tk_program.specs.Lines.{placed_line, too_long_line, read_fault_line, write_fault_line, out_of_memory_line}
use Rattle.tk_program.specs.Run.{World, Says, Done, HasFault, IsTooLong, IsUsage, ReadFails, WriteFails, LacksMemory}
use Rattle.tk_program.specs.Run.{UsesOne}

-- how `render` of a file ends
pub data Ends (order : Order) (before after : World) : Status → Type 0 where
  done : Done order before after → Ends order before after statuses.Done
  fault : HasFault order before after → Ends order before after statuses.Fault
  too_long : IsTooLong order.file before after → Ends order before after statuses.Fault
  read_fault : ReadFails order.file before after → Ends order before after statuses.ReadFault
  write_fault : WriteFails order before after → Ends order before after statuses.WriteFault
  out_of_memory : LacksMemory before after → Ends order before after statuses.OutOfMemory

-- how a run ends that does what is asked for
abbrev pub EndsAsAsked : Option Command → World → World → Status → Type 0
EndsAsAsked None before after status = (status ≡ statuses.Usage) × IsUsage before after
EndsAsAsked (Some (Render order)) before after status =
    Ends order before after status × UsesOne order.file before.shelf after.shelf

-- ---- parts of an end

-- `out` took a proper part of a document, and failed
pub record Stops (document : List ℕ) (out after : Sunk) : Type 0 where
  pub count : ℕ
  pub less : count < length document
  pub written : Takes out after (take count document)
  pub cause : Rose out.faults after.faults

-- a document was written, or `out` failed, which `err` is told
abbrev pub Delivers : List ℕ → Sunk → Sunk → Sunk → Sunk → Status → Type 0
Delivers document out out' err err' statuses.Done = Takes out out' document × (err' ≡ err)
Delivers document out out' err err' statuses.WriteFault =
    Stops document out out' × Says err err' write_fault_line
Delivers document out out' err err' statuses.Fault = ⊥
Delivers document out out' err err' statuses.Usage = ⊥
Delivers document out out' err err' statuses.ReadFault = ⊥
Delivers document out out' err err' statuses.OutOfMemory = ⊥

-- the line of a cause
abbrev pub line_of_cause : List ℕ → NoDocument → List ℕ
line_of_cause file causes.ReadFault = read_fault_line file
line_of_cause file causes.TooLong = too_long_line file
line_of_cause file (causes.Fault placed) = placed_line file placed.line placed.column placed.code
line_of_cause file causes.OutOfMemory = out_of_memory_line

-- the status of a cause
abbrev pub status_of_cause : NoDocument → Status
status_of_cause causes.ReadFault = statuses.ReadFault
status_of_cause causes.TooLong = statuses.Fault
status_of_cause (causes.Fault placed) = statuses.Fault
status_of_cause causes.OutOfMemory = statuses.OutOfMemory

-- a cause is told with its status, or memory runs out for its line
abbrev pub Reports : List ℕ → NoDocument → Sunk → Sunk → Status → Type 0
Reports file cause err err' status =
    ((status ≡ status_of_cause cause) × Says err err' (line_of_cause file cause))
    ⊎ ((status ≡ statuses.OutOfMemory) × Says err err' out_of_memory_line)
