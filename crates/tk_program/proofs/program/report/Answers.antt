use Rattle.std.proofs.Common.{ℕ, List, inl, inr, refl, subst, ◌∙◌}
use Rattle.tk_program.specs.Run.{Says}
use Rattle.tk_program.proofs.program.report.Goals as goal

pub returns-in-Ok : goal.returns-in-Ok
returns-in-Ok g c = inl (
  c.cause_status.ensures,
  subst (λ (line : List ℕ). Says (g.E.Sink.meaning c.args.err.now) (g.E.Sink.meaning c.say.new.err) line) (c.as_bytes.ensures.value ∙ c.in-Ok.ensures)
      c.say.ensures,
)

pub returns-in-Err : goal.returns-in-Err
returns-in-Err g c = inr (refl, c.say-in-Err.ensures)
