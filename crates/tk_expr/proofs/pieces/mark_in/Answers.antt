use Rattle.std.proofs.Common.{sym, ◌∙◌, arith}
use Rattle.tk_expr.proofs.Tables.{marked_in_front, marked_behind, just_a_word}
use Rattle.tk_expr.proofs.pieces.mark_in.Goals as goal

pub returns-then-eq : goal.returns-then-eq
returns-then-eq c =
    sym (c.loop-text.invariant
    ∙ marked_in_front _ c.args.word.now c.args.table.now c.loop-text.text-index _ c.loop-text-test.true (sym c.eq.ensures ∙ c.if-eq.true))

pub loop-text-preserved : goal.loop-text-preserved
loop-text-preserved c =
    c.loop-text.invariant
    ∙ marked_behind _ c.args.word.now c.args.table.now c.loop-text.text-index _ c.loop-text-test.true (sym c.eq.ensures ∙ c.if-eq.false)

pub returns : goal.returns
returns c = sym (c.loop-text.invariant ∙ just_a_word _ c.args.word.now c.args.table.now c.loop-text.text-index (omega arith))
