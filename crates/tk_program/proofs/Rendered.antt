-- What a file gives, from what its source gives.
use Rattle.std.proofs.Common.{ℕ, List}
use Rattle.tk_io.specs.Shelf.{Shelved}
use Rattle.tk_render.specs.declared.NoSvg.{NoSvg}
use Rattle.tk_render.specs.declared.NoSvg.TheVariants as renderings
use Rattle.tk_render.specs.Rendered.{Explains}
use Rattle.tk_program.specs.Words.{Order}
use Rattle.tk_program.specs.Run.{WasRead}
use Rattle.tk_program.specs.Refused.{Refuses, source_cause}

-- a cause that is true of the source is true of the file
pub refuses :
    (order : Order) (before after : Shelved) (source : List ℕ) (cause : NoSvg)
    → WasRead order.file source before after
    → Explains order.asked source cause
    → Refuses order before after (source_cause cause)
refuses order before after source (renderings.Fault placed) read is =
    record { source = source; read = read; is = is }
refuses order before after source renderings.OutOfMemory read is = tt
