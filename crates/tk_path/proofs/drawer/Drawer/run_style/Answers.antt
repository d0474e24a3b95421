use Rattle.std.proofs.Common.{arith}
use Rattle.std.proofs.lemmas.Result.{on_ok_weaker}
use Rattle.tk_path.proofs.StyleParts.{one_part}
use Rattle.tk_path.proofs.drawer.Drawer.run_style.Goals as goal

pub returns-then-has_run-clause-high : goal.returns-then-has_run-clause-high
returns-then-has_run-clause-high g c =
    let one = one_part c.args.style c.args.at in omega (arith, one, rw c.name.ensures at c.run_written.ensures.high)

pub returns-then-has_run-clause-most : goal.returns-then-has_run-clause-most
returns-then-has_run-clause-most g c =
    let one = one_part c.args.style c.args.at in
    on_ok_weaker c.run_written.result (λ h. omega (arith, one, rw c.name.ensures at h)) c.run_written.ensures.most
