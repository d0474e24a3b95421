use Rattle.std.proofs.Common.{ℕ, ◌∷◌, sym, ap, ◌∙◌, arith}
use Rattle.std.specs.Str.{chars}
use Rattle.tk_token.specs.Cutting.{after_gap}
use Rattle.tk_token.proofs.Runs.{gap_comment}
use Rattle.tk_token.proofs.lexer.after_gap.Goals as goal

pub loop-first-preserved : goal.loop-first-preserved
loop-first-preserved c = record {
  text = c.after_line-rest.utf8;
  told = ap after_gap c.after_line-rest.ensures.value ∙ sym (gap_comment (chars c.in-Some.tail.now))
      ∙ ap (λ (d : ℕ). after_gap (d ∷ chars c.in-Some.tail.now)) (sym c.if-first-eq37.true) ∙ ap after_gap (sym c.in-Some.ensures.value)
      ∙ c.loop-first.invariant.told;
  within = omega (arith, c.in-Some.ensures.within, c.after_line-rest.ensures.within, c.loop-first.invariant.within);
}
