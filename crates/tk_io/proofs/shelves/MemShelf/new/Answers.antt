use Rattle.std.proofs.Common.{sym, subst}
use Rattle.tk_io.specs.Desk.{OnDesk, HoldsEach}
use Rattle.tk_io.proofs.Names.{HoldsEach-new}
use Rattle.tk_io.proofs.shelves.MemShelf.new.Goals as goal

pub returns-clause-holds : goal.returns-clause-holds
returns-clause-holds c =
    subst (λ (d : OnDesk). HoldsEach d c.args.files.items) (sym c.new.ensures) (HoldsEach-new c.args.files.items c.requires.differ)
