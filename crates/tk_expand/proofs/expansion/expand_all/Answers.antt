use Rattle.std.proofs.Common.{sym, ap, ◌∙◌}
use Rattle.tk_expand.specs.Expand.{stream, is_expanded}
use Rattle.tk_expand.specs.Unread.{unread}
use Rattle.tk_expand.proofs.Finished.{full_own}
use Rattle.tk_expand.proofs.Moved.{moved_gives}
use Rattle.tk_expand.proofs.expansion.expand_all.Goals as goal

pub returns-then-is_expanded-clause-gives : goal.returns-then-is_expanded-clause-gives
returns-then-is_expanded-clause-gives c = λ end.
    full_own c.args.units.now.budget c.args.store.now.top.macros (stream c.args.units.now.used (unread c.args.list.items end))
    (ap (is_expanded c.args.store.now.top.macros) (sym c.deref.ensures.value) ∙ sym c.is_expanded.ensures ∙ c.if-is_expanded.true)

pub returns-clause-gives : goal.returns-clause-gives
returns-clause-gives c = λ end.
    moved_gives c.args.units.now.budget c.args.store.now.top.macros c.args.units.now.used c.expand_by_one.new.units.used c.args.list.items
    c.in_ok-from_vec.field-0 c.expand_by_one.result c.in_ok-from_vec.ensures c.expand_by_one.ensures.gives end
