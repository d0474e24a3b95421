use Rattle.std.proofs.Common.{length, arith}
use Rattle.std.proofs.lemmas.Result.{on_ok_weaker}
use Rattle.tk_path.specs.Undoing.{work_left}
use Rattle.tk_path.specs.Views.{given_to}
use Rattle.tk_path.proofs.Kept.{settings_paid}
use Rattle.tk_path.proofs.WorkLeft.{line_left, only_falls}
use Rattle.tk_path.proofs.drawer.Drawer.to.Goals as goal

pub returns-clause-most : goal.returns-clause-most
returns-clause-most g c =
    let f = c.in_ok-first.ensures in
    let m = c.in_ok-measures_from.ensures in
    let now = c.measures_from.new.self in
    on_ok_weaker c.go.result (λ k. omega (arith, k.0, k.1, f.falls, settings_paid c.args.self.now c.ahead.new.self f.pays, m.most))
    (only_falls now c.go.new.self c.go.new.path c.go.new.input c.go.result _ (work_left now (length c.measures_from.new.input.rest))
    (λ d e. line_left (given_to now) _ d e) c.go.ensures.gives c.go.ensures.pays)
