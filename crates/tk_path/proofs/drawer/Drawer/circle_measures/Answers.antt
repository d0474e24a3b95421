use Rattle.std.proofs.Common.{ap, arith}
use Rattle.tk_path.specs.declared.drawer.Drawer.{Drawer}
use Rattle.tk_outline.specs.CurrentPaths.{no_path}
use Rattle.tk_path.specs.Views.{given_to}
use Rattle.tk_path.proofs.Kept.{settings_paid}
use Rattle.tk_path.proofs.WorkLeft.{text_left}
use Rattle.tk_path.proofs.drawer.Drawer.circle_measures.Goals as goal

pub returns-clause-most : goal.returns-clause-most
returns-clause-most g c =
    let t = c.in_ok-text.ensures in
    omega (
      arith,
      text_left (given_to c.args.self.now) _ _ _ (t.gives no_path),
      ap (λ (d : Drawer). d.state.budget) t.pays,
      settings_paid c.args.self.now c.text_behind.new.self t.pays,
    )
