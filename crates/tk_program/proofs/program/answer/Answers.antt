use Rattle.std.proofs.Common.{refl, subst}
use Rattle.tk_program.specs.declared.program.Status.TheVariants.{Usage}
use Rattle.tk_program.specs.Run.{world}
use Rattle.tk_program.specs.Endings.{EndsAsAsked}
use Rattle.tk_program.proofs.program.answer.Goals as goal

pub returns-in-Some : goal.returns-in-Some
returns-in-Some g c =
    let before = world (g.H.Shelf.meaning c.args.shelf.now) (g.O.Sink.meaning c.args.out.now) (g.E.Sink.meaning c.args.err.now) in
    let after = world (g.H.Shelf.meaning c.obey.new.shelf) (g.O.Sink.meaning c.obey.new.out) (g.E.Sink.meaning c.obey.new.err) in
    subst (λ asked. EndsAsAsked asked before after c.obey.result) c.in-Some.ensures.command c.obey.ensures

pub returns-in-None : goal.returns-in-None
returns-in-None g c =
    let before = world (g.H.Shelf.meaning c.args.shelf.now) (g.O.Sink.meaning c.args.out.now) (g.E.Sink.meaning c.args.err.now) in
    let after = world (g.H.Shelf.meaning c.args.shelf.now) (g.O.Sink.meaning c.args.out.now) (g.E.Sink.meaning c.say.new.err) in
    subst (λ asked. EndsAsAsked asked before after Usage) c.in-None.ensures.command (
      refl,
      record {
        unopened = refl;
        says = c.say.ensures;
        untouched = refl;
      },
    )
