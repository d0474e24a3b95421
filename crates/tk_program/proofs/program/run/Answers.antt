use Rattle.std.proofs.Common.{ℕ, sym, subst, map, string_bytes, Global}
use Rattle.tk_program.specs.Words.{command_of}
use Rattle.tk_program.specs.Run.{world, Runs}
use Rattle.tk_program.proofs.Statuses.{tag_is, run_of}
use Rattle.tk_program.proofs.program.run.Goals as goal

pub returns : goal.returns
returns g c =
    let asked = command_of (map (string_bytes {Z = Global}) c.args.words.now) in
    let before = world (g.H.Shelf.meaning c.args.shelf.now) (g.O.Sink.meaning c.args.out.now) (g.E.Sink.meaning c.args.err.now) in
    let after = world (g.H.Shelf.meaning c.answer.new.shelf) (g.O.Sink.meaning c.answer.new.out) (g.E.Sink.meaning c.answer.new.err) in
    subst (λ (n : ℕ). Runs asked before after n) (sym (tag_is c.answer.result)) (run_of c.a_source_comes_to_one_answer.ensures asked before after
    c.answer.result c.answer.ensures)
