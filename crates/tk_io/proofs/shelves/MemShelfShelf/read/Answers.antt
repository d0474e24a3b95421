use Rattle.std.proofs.Common.{◌<◌, ◌≤◌, ◌-◌, length, take, drop, min, true, false, Ok, refl, sym, ap, subst, ◌∙◌}
use Rattle.tk_io.specs.Shelf.{Reads}
use Rattle.tk_io.specs.Desk.{IsDesk, file_at, moved_on}
use Rattle.tk_io.specs.Stock.{Stock, stock_means}
use Rattle.tk_io.specs.StockView.{shown_stock}
use Rattle.tk_io.proofs.StockSteps.{called-is, fits_there, listed_is, Reads-moved, Reads-blamed, ReadsStock-listed, ReadsStock-moved}
use Rattle.tk_io.proofs.shelves.MemShelfShelf.read.Goals as goal

pub blame-requires : goal.blame-requires
blame-requires c = fits_there (shown_stock c.self.inside) c.in-Some.place _ c.self.invariant.1 (c.in-Some.ensures.desk.first c.in-Some.place
    (sym c.in-Some.ensures.place))

pub returns-then-contains-clause-reads : goal.returns-then-contains-clause-reads
returns-then-contains-clause-reads c name is_open =
    let inside = shown_stock c.self.inside in
    let old = c.args.self.now in
    let place = c.in-Some.place in
    let mid = called-is inside old inside.desk c.saturating_add-self-inside.result (λ d. d) c.self.view_is refl c.saturating_add-self-inside.ensures
    in
    let fits = fits_there inside place _ c.self.invariant.1 (c.in-Some.ensures.desk.first place (sym c.in-Some.ensures.place)) place refl in
    Reads-blamed name old _ c.blame.new.self _ place c.args.buf.now mid c.blame.ensures.blamed c.blame.ensures.no_fall
    (subst (λ (s : Stock). IsDesk s.desk) c.self.view_is c.in-Some.ensures.desk)
    (subst (λ (s : Stock). place < length s.faults) c.self.view_is fits)
    (ap (λ (s : Stock). s.desk.current) (sym c.self.view_is) ∙ sym c.in-Some.ensures.place)
    is_open

pub returns-then-contains-clause-exactly : goal.returns-then-contains-clause-exactly
returns-then-contains-clause-exactly c =
    let inside = shown_stock c.self.inside in
    let old = c.args.self.now in
    let mid = called-is inside old inside.desk c.saturating_add-self-inside.result (λ d. d) c.self.view_is refl c.saturating_add-self-inside.ensures
    in
    ReadsStock-listed old _ c.blame.new.self _ c.in-Some.place c.args.buf.now mid c.blame.ensures.blamed
    (ap (λ (s : Stock). s.desk.current) (sym c.self.view_is) ∙ sym c.in-Some.ensures.place)
    (listed_is inside old _ _ _ true c.self.view_is c.deref.ensures.value c.saturating_add-self-inside.ensures c.contains.ensures.value
    c.if-contains.true)

pub returns-clause-reads : goal.returns-clause-reads
returns-clause-reads c name is_open =
    let inside = shown_stock c.self.inside in
    let old = c.args.self.now in
    let place = c.in-Some.place in
    let n = c.hand_out.result in
    let new = called-is inside old c.hand_out.new.self c.saturating_add-self-inside.result (λ d. moved_on d place n) c.self.view_is
    c.hand_out.ensures.moved c.saturating_add-self-inside.ensures in
    subst (λ (s : Stock). Reads name (stock_means old) (stock_means s) (Ok n) c.hand_out.new.buf) (sym new)
    (Reads-moved name old place n c.args.buf.now c.hand_out.new.buf
    (subst (λ (s : Stock). IsDesk s.desk) c.self.view_is c.in-Some.ensures.desk)
    (subst (λ (s : Stock). 1 ≤ s.most) c.self.view_is c.self.invariant.0)
    (ap (λ (s : Stock). s.desk.current) (sym c.self.view_is) ∙ sym c.in-Some.ensures.place)
    is_open
    c.hand_out.auto.buf
    (c.hand_out.ensures.count ∙ ap (λ (s : Stock). min (min (length c.args.buf.now) s.most) (length (file_at s.desk place).1 - s.desk.at))
    c.self.view_is)
    (c.hand_out.ensures.front ∙ ap (λ (s : Stock). take n (drop s.desk.at (file_at s.desk place).1)) c.self.view_is))

pub returns-clause-exactly : goal.returns-clause-exactly
returns-clause-exactly c =
    let inside = shown_stock c.self.inside in
    let old = c.args.self.now in
    let place = c.in-Some.place in
    let n = c.hand_out.result in
    let new = called-is inside old c.hand_out.new.self c.saturating_add-self-inside.result (λ d. moved_on d place n) c.self.view_is
    c.hand_out.ensures.moved c.saturating_add-self-inside.ensures in
    ReadsStock-moved old _ place n c.args.buf.now c.hand_out.new.buf
    (ap (λ (s : Stock). s.desk.current) (sym c.self.view_is) ∙ sym c.in-Some.ensures.place)
    (listed_is inside old _ _ _ false c.self.view_is c.deref.ensures.value c.saturating_add-self-inside.ensures c.contains.ensures.value
    c.if-contains.false)
    new
    (c.hand_out.ensures.count ∙ ap (λ (s : Stock). min (min (length c.args.buf.now) s.most) (length (file_at s.desk place).1 - s.desk.at))
    c.self.view_is)
    (c.hand_out.ensures.front ∙ ap (λ (s : Stock). take n (drop s.desk.at (file_at s.desk place).1)) c.self.view_is)
    c.hand_out.ensures.rest
