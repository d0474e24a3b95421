use Rattle.std.proofs.Common.{sym}
use Rattle.tk_store.proofs.Places.{past_end}
use Rattle.tk_store.proofs.tables.write.Goals as goal

pub returns-in_default : goal.returns-in_default
returns-in_default g c =
    sym (past_end c.args.table.now.entries c.args.place c.args.value (λ h. let some = c.in_default.ensures.found.1 h in cc))
