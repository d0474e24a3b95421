use Rattle.std.proofs.Common.{◌≡◌, Some, Ok, sym, ap, subst, ◌∙◌}
use Rattle.tk_io.specs.declared.sure.Absent.TheVariants.{Nothing}
use Rattle.tk_io.specs.Shelf.{Opens}
use Rattle.tk_io.specs.Desk.{OnDesk, find_file, opened_at}
use Rattle.tk_io.specs.SureShelf.{Sure, sure_means}
use Rattle.tk_io.proofs.DeskFiles.{found_file_has_its_name}
use Rattle.tk_io.proofs.SureSteps.{Sure-opened}
use Rattle.tk_io.proofs.sure.SureShelfShelf.open.Goals as goal

pub open_at-requires : goal.open_at-requires
open_at-requires c =
    let there = sym c.in-Some.ensures.place in
    ap (find_file c.self.inside.desk) (found_file_has_its_name c.self.inside.desk c.in-Some.place c.args.name.now there) ∙ there

pub returns-in-Some-clause-opens : goal.returns-in-Some-clause-opens
returns-in-Some-clause-opens c =
    let old = c.args.self.now in
    let place = c.in-Some.place in
    let there : find_file old.desk c.args.name.now ≡ Some place = ap (λ (s : Sure). find_file s.desk c.args.name.now) (sym c.self.view_is)
    ∙ sym c.in-Some.ensures.place in
    let opened = c.open_at.ensures ∙ ap (λ (s : Sure). opened_at s.desk place) c.self.view_is in
    subst (λ (d : OnDesk). Opens c.args.name.now (sure_means old) (sure_means (record { desk = d; absent = Nothing })) (Ok tt)) (sym opened)
    (Sure-opened c.args.name.now old place there)
