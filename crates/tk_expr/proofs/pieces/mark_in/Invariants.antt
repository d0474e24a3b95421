use Rattle.std.proofs.Common.{◌≡◌, drop}
use Rattle.tk_expr.proofs.Tables.{marked}
use Rattle.tk_expr.proofs.pieces.mark_in.Given as goal

-- the rows that are left say the same
abbrev pub invariant-loop-text : goal.invariant-loop-text
invariant-loop-text l =
    marked (λ row. (row.0.now, row.1)) l.word l.table
    ≡ marked (λ row. (row.0.now, row.1)) l.word (drop l.text-index l.table)
