use Rattle.std.proofs.Common.{length, arith}
use Rattle.std.proofs.lemmas.Result.{on_ok_weaker}
use Rattle.tk_path.specs.Undoing.{work_left}
use Rattle.tk_path.specs.Views.{given_to}
use Rattle.tk_path.proofs.Kept.{settings_paid}
use Rattle.tk_path.proofs.WorkLeft.{grid_left, only_falls}
use Rattle.tk_path.proofs.drawer.Drawer.grid.Goals as goal

pub returns-in-Ok-clause-most : goal.returns-in-Ok-clause-most
returns-in-Ok-clause-most g c =
    let f = c.in_ok-first.ensures in
    let m = c.in-Ok.ensures in
    let now = c.measures_from.new.self in
    on_ok_weaker c.grid_by.result (λ k. omega (arith, k.0, k.1, f.falls, settings_paid c.args.self.now c.ahead.new.self f.pays, m.most))
    (only_falls now c.grid_by.new.self c.grid_by.new.path c.grid_by.new.input c.grid_by.result _ (work_left now (length c.measures_from.new.input.rest))
    (λ d e. grid_left (given_to now) _ _ _ d e) c.grid_by.ensures.gives c.grid_by.ensures.pays)
