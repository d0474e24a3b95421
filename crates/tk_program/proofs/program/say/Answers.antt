use Rattle.tk_program.proofs.Saying.{says_from}
use Rattle.tk_program.proofs.program.say.Goals as goal

pub returns : goal.returns
returns g c =
    says_from c.args.line.now (g.E.Sink.meaning c.args.err.now) (g.E.Sink.meaning c.write_all.new.out) c.write_all.result c.write_all.ensures
