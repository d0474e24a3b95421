use Rattle.std.proofs.Common.{◌≡◌, drop}
use Rattle.tk_look.specs.Colours.{rgb}
use Rattle.tk_look.proofs.Tables.{looked_up}
use Rattle.tk_look.proofs.colours.colour_among.Given as goal

-- the colour is in the rows that are left, or nowhere
abbrev pub invariant-loop-text : goal.invariant-loop-text
invariant-loop-text l =
    looked_up (λ row. (row.0.now, rgb row.1 row.2 row.3)) l.name l.table
    ≡ looked_up (λ row. (row.0.now, rgb row.1 row.2 row.3)) l.name (drop l.text-index l.table)
