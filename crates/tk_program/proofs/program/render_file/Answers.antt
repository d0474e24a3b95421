use Rattle.std.proofs.Common.{ℕ, List, refl, sym, subst}
use Rattle.tk_program.specs.Commands.{order_of}
use Rattle.tk_program.specs.Run as run
use Rattle.tk_program.specs.Refused.{IsDocumentOf}
use Rattle.tk_program.proofs.Saying.{delivered, reported}
use Rattle.tk_program.proofs.program.render_file.Goals as goal

pub returns-in-Ok-clause-status : goal.returns-in-Ok-clause-status
returns-in-Ok-clause-status g c =
    delivered (order_of c.args.order)
    (run.world (g.H.Shelf.meaning c.args.shelf.now) (g.O.Sink.meaning c.args.out.now) (g.E.Sink.meaning c.args.err.now))
    (run.world (g.H.Shelf.meaning c.document_of.new.shelf) (g.O.Sink.meaning c.deliver.new.out) (g.E.Sink.meaning c.deliver.new.err))
    c.as_slice.result.now
    c.deliver.result
    (subst (λ (bytes : List ℕ). IsDocumentOf (order_of c.args.order) (g.H.Shelf.meaning c.args.shelf.now)
    (g.H.Shelf.meaning c.document_of.new.shelf) bytes) (sym c.as_slice.ensures.value) c.in-Ok.ensures.document)
    c.deliver.ensures

pub returns-in-Err-clause-status : goal.returns-in-Err-clause-status
returns-in-Err-clause-status g c =
    reported (order_of c.args.order)
    (run.world (g.H.Shelf.meaning c.args.shelf.now) (g.O.Sink.meaning c.args.out.now) (g.E.Sink.meaning c.args.err.now))
    (run.world (g.H.Shelf.meaning c.document_of.new.shelf) (g.O.Sink.meaning c.args.out.now) (g.E.Sink.meaning c.report.new.err))
    c.in-Err.cause
    c.report.result
    refl
    c.in-Err.ensures.refused
    c.report.ensures
