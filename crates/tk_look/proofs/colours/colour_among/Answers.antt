use Rattle.std.proofs.Common.{sym, ap, Some, ◌∙◌, arith}
use Rattle.tk_look.proofs.Tables.{found_in_front, found_behind, not_found}
use Rattle.tk_look.proofs.colours.colour_among.Goals as goal

pub returns-then-eq : goal.returns-then-eq
returns-then-eq c =
    ap Some c.rgb.ensures
    ∙ sym (c.loop-text.invariant
    ∙ found_in_front _ c.args.name.now c.args.table.now c.loop-text.text-index _ c.loop-text-test.true (sym c.eq.ensures ∙ c.if-eq.true))

pub loop-text-preserved : goal.loop-text-preserved
loop-text-preserved c =
    c.loop-text.invariant
    ∙ found_behind _ c.args.name.now c.args.table.now c.loop-text.text-index _ c.loop-text-test.true (sym c.eq.ensures ∙ c.if-eq.false)

pub returns : goal.returns
returns c = sym (c.loop-text.invariant ∙ not_found _ c.args.name.now c.args.table.now c.loop-text.text-index (omega arith))
