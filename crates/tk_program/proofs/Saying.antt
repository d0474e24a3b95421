-- What was said, and the ends that it makes.
use Rattle.std.proofs.Common.{◌≡◌, inl, inr, ℕ, ◌<◌, List, length, take, Result, Ok, Err, sym, subst}
use Rattle.tk_io.specs.Sink.{Sunk, Takes, WritesAll}
use Rattle.tk_io.specs.declared.Failed.{Failed}
use Rattle.tk_program.specs.declared.document.NoDocument.{NoDocument}
use Rattle.tk_program.specs.declared.document.NoDocument.TheVariants as causes
use Rattle.tk_program.specs.declared.program.Status.{Status}
use Rattle.tk_program.specs.declared.program.Status.TheVariants as statuses
use Rattle.tk_program.specs.Words.{Order}
use Rattle.tk_program.specs.Lines.{placed_line}
use Rattle.tk_program.specs.Run.{World, Says, whole, part}
use Rattle.tk_program.specs.Refused.{Refuses, IsDocumentOf}
use Rattle.tk_program.specs.Endings.{Ends, done, fault, too_long, read_fault, write_fault, out_of_memory, Delivers, Reports, line_of_cause}
use Rattle.tk_program.specs.Endings.{status_of_cause}

-- what writing a line says
pub says_from : (line : List ℕ) (old new : Sunk) (r : Result (Unit {0}) Failed) → WritesAll line old new r → Says old new line
says_from line old new (Ok u) w = whole w.whole
says_from line old new (Err e) w = part w.part.0 w.part.1 w.part.2 w.cause

module _ (order : Order) (before after : World) where
  -- a document that was delivered
  pub delivered : (document : List ℕ) (status : Status) → IsDocumentOf order before.shelf after.shelf document
      → Delivers document before.out after.out before.err after.err status → Ends order before after status
  delivered document statuses.Done d w = done (record {
    drawing = d.is.drawing;
    drawn = record { source = d.source; read = d.read; is = d.is.drawn };
    written = record {
      written = subst (λ (bytes : List ℕ). Takes before.out after.out bytes) d.is.is w.0;
      means = d.is.means;
    };
    silent = w.1;
  })
  delivered document statuses.WriteFault d w = write_fault (record {
    drawing = d.is.drawing;
    count = w.0.count;
    drawn = record { source = d.source; read = d.read; is = d.is.drawn };
    means = d.is.means;
    less = subst (λ (bytes : List ℕ). w.0.count < length bytes) d.is.is w.0.less;
    written = subst (λ (bytes : List ℕ). Takes before.out after.out (take w.0.count bytes)) d.is.is w.0.written;
    cause = w.0.cause;
    says = w.1;
  })
  delivered document statuses.Fault d w = absurd w
  delivered document statuses.Usage d w = absurd w
  delivered document statuses.ReadFault d w = absurd w
  delivered document statuses.OutOfMemory d w = absurd w

  -- a cause that was told
  told : (cause : NoDocument) → after.out ≡ before.out → Refuses order before.shelf after.shelf cause
      → Says before.err after.err (line_of_cause order.file cause) → Ends order before after (status_of_cause cause)
  told causes.ReadFault same r says = read_fault (record { cause = r; says = says; untouched = same })
  told causes.TooLong same r says = too_long (record { long = r; says = says; untouched = same })
  told (causes.Fault placed) same r says = fault (record {
    source = r.source;
    fault = r.is.fault;
    broken = record { read = r.read; broken = r.is.broken };
    says = subst (λ p. Says before.err after.err (placed_line order.file p.line p.column p.code)) r.is.is says;
    untouched = same;
  })
  told causes.OutOfMemory same r says = out_of_memory (record { says = says; untouched = same })

  pub reported : (cause : NoDocument) (status : Status) → after.out ≡ before.out → Refuses order before.shelf after.shelf cause
      → Reports order.file cause before.err after.err status → Ends order before after status
  reported cause status same r (inl t) = subst (λ s. Ends order before after s) (sym t.0) (told cause same r t.1)
  reported cause status same r (inr t) =
      subst (λ s. Ends order before after s) (sym t.0) (out_of_memory (record { says = t.1; untouched = same }))
