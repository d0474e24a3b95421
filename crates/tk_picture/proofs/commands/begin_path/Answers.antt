use Rattle.std.proofs.Common.{arith, ◌∙◌}
use Rattle.std.proofs.lemmas.Result.{err_from_is_err_and, on_ok_weaker}
use Rattle.tk_expr.specs.Evaluated.{evaluated}
use Rattle.tk_expr.proofs.Runs.{evaluated_is_the_answer}
use Rattle.tk_outline.specs.CurrentPaths.{no_path}
use Rattle.tk_path.specs.Views.{given_to}
use Rattle.tk_path.proofs.Kept.{same_given, drawn_then}
use Rattle.tk_picture.specs.Views.{place_of_run}
use Rattle.tk_picture.proofs.Drawing.{style_fails, style_goes}
use Rattle.tk_picture.proofs.commands.begin_path.Goals as goal

pub returns-in_err-run_style-clause-gives : goal.returns-in_err-run_style-clause-gives
returns-in_err-run_style-clause-gives g c rest =
    let p = err_from_is_err_and c.from_residual.result c.from_residual.ensures.1 in
    let same = same_given evaluated c.args.drawer.now.state c.unpaint.new.drawer.state c.unpaint.ensures.kept.state in
    rw (p.1, p.2) (style_fails (given_to c.args.drawer.now) (given_to c.unpaint.new.drawer) c.args.keys.now c.args.at (place_of_run c.args.drawer.now
    rest) (place_of_run c.unpaint.new.drawer rest) same (c.unpaint.ensures.gives rest) c.in_err-run_style.field-0.0
    (c.in_err-run_style.ensures.gives evaluated evaluated_is_the_answer no_path rest))

pub returns-clause-gives : goal.returns-clause-gives
returns-clause-gives g c rest =
    let same = same_given evaluated c.args.drawer.now.state c.unpaint.new.drawer.state c.unpaint.ensures.kept.state in
    let later = same_given evaluated c.unpaint.new.drawer.state c.run_style.new.self.state c.in_ok-run_style.ensures.kept.state ∙ same in
    rw (style_goes (given_to c.args.drawer.now) (given_to c.unpaint.new.drawer) c.args.keys.now c.args.at (place_of_run c.args.drawer.now rest)
    (place_of_run c.unpaint.new.drawer rest) same (c.unpaint.ensures.gives rest)
    (given_to c.run_style.new.self) (place_of_run c.run_style.new.self rest) later (c.in_ok-run_style.ensures.gives evaluated evaluated_is_the_answer
    no_path rest))
    (c.run_written.ensures.gives evaluated evaluated_is_the_answer no_path rest)

pub returns-clause-kept : goal.returns-clause-kept
returns-clause-kept g c =
    on_ok_weaker c.run_written.result (λ kept. drawn_then c.args.drawer.now c.run_style.new.self c.run_written.new.self (drawn_then c.args.drawer.now c.unpaint.new.drawer
    c.run_style.new.self c.unpaint.ensures.kept c.in_ok-run_style.ensures.kept) kept) c.run_written.ensures.kept

pub returns-clause-high : goal.returns-clause-high
returns-clause-high g c =
    let style = c.in_ok-run_style.ensures in
    let few = c.requires.few c.args.at in
    omega (arith, c.run_written.ensures.high, style.most, few, c.unpaint.ensures.made, c.unpaint.ensures.paid, c.unpaint.ensures.kept.state.budget)

pub returns-clause-most : goal.returns-clause-most
returns-clause-most g c =
    let style = c.in_ok-run_style.ensures in
    let few = c.requires.few c.args.at in
    on_ok_weaker c.run_written.result (λ h. omega (
      arith,
      h,
      style.most,
      few,
      c.unpaint.ensures.made,
      c.unpaint.ensures.paid,
      c.unpaint.ensures.kept.state.budget,
    )) c.run_written.ensures.most
