use Rattle.std.proofs.Common.{◌≡◌, length, true, Some, None, Ok, sym, ap, subst, ◌∙◌}
use Rattle.tk_io.specs.Shelf.{Opens}
use Rattle.tk_io.specs.Desk.{OnDesk, find_file, opened_at}
use Rattle.tk_io.specs.Stock.{Stock, stock_means}
use Rattle.tk_io.specs.StockView.{shown_stock}
use Rattle.tk_io.proofs.DeskFiles.{found_file_has_its_name}
use Rattle.tk_io.proofs.StockSteps.{called-is, found_is, fits_there, listed_is, Opens-opened, Opens-blamed, OpensStock-listed}
use Rattle.tk_io.proofs.shelves.MemShelfShelf.open.Goals as goal

pub returns-then-contains-clause-opens : goal.returns-then-contains-clause-opens
returns-then-contains-clause-opens c =
    let old = c.args.self.now in
    let there = found_is (shown_stock c.self.inside) old c.close.new.self c.args.name.now (Some c.in-Some.place) c.self.view_is c.close.ensures
    c.in-Some.ensures.place in
    let mid = called-is (shown_stock c.self.inside) old c.close.new.self c.saturating_add-self-inside.result (λ d. record d {
      current = None;
      taken = 0;
    }) c.self.view_is c.close.ensures c.saturating_add-self-inside.ensures in
    Opens-blamed c.args.name.now old _ c.blame-then-contains.new.self _ (Some c.in-Some.place) mid c.blame-then-contains.ensures.blamed
    c.blame-then-contains.ensures.no_fall there
    (fits_there old c.in-Some.place c.args.name.now (subst (λ (s : Stock). length s.faults ≡ length s.desk.files) c.self.view_is c.self.invariant.1)
    there)

pub returns-then-contains-clause-exactly : goal.returns-then-contains-clause-exactly
returns-then-contains-clause-exactly c =
    let old = c.args.self.now in
    let mid = called-is (shown_stock c.self.inside) old c.close.new.self c.saturating_add-self-inside.result (λ d. record d {
      current = None;
      taken = 0;
    }) c.self.view_is c.close.ensures c.saturating_add-self-inside.ensures in
    OpensStock-listed c.args.name.now old _ c.blame-then-contains.new.self _ c.in-Some.place mid c.blame-then-contains.ensures.blamed
    (found_is (shown_stock c.self.inside) old c.close.new.self c.args.name.now (Some c.in-Some.place) c.self.view_is c.close.ensures
    c.in-Some.ensures.place)
    (listed_is (shown_stock c.self.inside) old _ _ _ true c.self.view_is c.deref.ensures.value c.saturating_add-self-inside.ensures
    c.contains.ensures.value c.if-contains.true)

pub open_at-requires : goal.open_at-requires
open_at-requires c =
    let there = sym c.in-Some.ensures.place in
    ap (find_file c.close.new.self) (found_file_has_its_name c.close.new.self c.in-Some.place c.args.name.now there) ∙ there

pub returns-clause-opens : goal.returns-clause-opens
returns-clause-opens c =
    let old = c.args.self.now in
    let place = c.in-Some.place in
    let new = called-is (shown_stock c.self.inside) old c.open_at.new.self c.saturating_add-self-inside.result (λ d. opened_at d place) c.self.view_is
    (c.open_at.ensures ∙ ap (λ (d : OnDesk). opened_at d place) c.close.ensures) c.saturating_add-self-inside.ensures in
    subst (λ (s : Stock). Opens c.args.name.now (stock_means old) (stock_means s) (Ok tt)) (sym new)
    (Opens-opened c.args.name.now old place (found_is (shown_stock c.self.inside) old c.close.new.self c.args.name.now (Some c.in-Some.place)
    c.self.view_is c.close.ensures c.in-Some.ensures.place))
