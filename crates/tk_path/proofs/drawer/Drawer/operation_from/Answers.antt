use Rattle.std.proofs.Common.{ap, arith}
use Rattle.std.proofs.lemmas.Result.{on_ok_weaker}
use Rattle.tk_path.specs.declared.drawer.Drawer.{Drawer}
use Rattle.tk_outline.specs.CurrentPaths.{no_path}
use Rattle.tk_path.specs.Views.{given_to}
use Rattle.tk_path.proofs.Kept.{settings_paid}
use Rattle.tk_path.proofs.WorkLeft.{word_left}
use Rattle.tk_path.proofs.drawer.Drawer.operation_from.Goals as goal

pub returns-clause-high : goal.returns-clause-high
returns-clause-high g c =
    let w = c.in_ok-word.ensures in
    let left = word_left (given_to c.args.self.now) _ c.args.first _ _ (w.gives no_path) in
    let budget = ap (λ (d : Drawer). d.state.budget) w.pays in
    let settings = settings_paid c.args.self.now c.word_from.new.self w.pays in
    omega (arith, left, budget, settings, c.operation.ensures.high)

pub returns-clause-most : goal.returns-clause-most
returns-clause-most g c =
    let w = c.in_ok-word.ensures in
    let left = word_left (given_to c.args.self.now) _ c.args.first _ _ (w.gives no_path) in
    let budget = ap (λ (d : Drawer). d.state.budget) w.pays in
    let settings = settings_paid c.args.self.now c.word_from.new.self w.pays in
    on_ok_weaker c.operation.result (λ h. omega (arith, left, budget, settings, h)) c.operation.ensures.most
