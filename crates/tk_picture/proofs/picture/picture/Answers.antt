use Rattle.tk_path.proofs.Undone.{none_yet, same_units, same_budget}
use Rattle.std.proofs.Common.{rules, ap, arith, ◌∙◌}
use Rattle.std.proofs.lemmas.Result.{err_from_is_err_and}
use Rattle.tk_keys.specs.State.{State, given_of, env_of}
use Rattle.tk_expr.specs.Evaluated.{evaluated}
use Rattle.tk_picture.specs.Documents.{compiled}
use Rattle.tk_outline.specs.CurrentPaths.{no_path}
use Rattle.tk_path.specs.Views.{given_to, picture_of}
use Rattle.tk_picture.specs.Views.{progress_of}
use Rattle.tk_picture.proofs.Drawing.{first_is, picture_fails, picture_ends}
use Rattle.tk_picture.proofs.picture.picture.Goals as goal

pub returns-in_err-expect_nothing-clause-gives : goal.returns-in_err-expect_nothing-clause-gives
returns-in_err-expect_nothing-clause-gives g c =
    let same = ap (given_of evaluated) c.in_ok-open.ensures.opened in
    let none = first_is (env_of c.open.new.self) c.expect_name.new.self (picture_of c.args.drawer.now no_path) c.open.new.self.units
    c.requires.picture (ap (λ (s : State). s.units) c.in_ok-open.ensures.opened ∙ c.requires.units) in
    let e = picture_ends (given_to c.args.drawer.now) (given_of evaluated c.open.new.self) c.args.at c.args.input.now c.expect_name.new.self
    (env_of c.args.drawer.now.state) (env_of c.open.new.self) _ same c.requires.env none c.in_ok-expect_name.ensures.gives
    c.in_ok-open.ensures.gives (progress_of c.styled_commands.new.drawer c.styled_commands.new.input) c.in_ok-styled_commands.ensures.gives
    ∙ c.in_err-expect_nothing.ensures (compiled (picture_of c.styled_commands.new.drawer no_path) c.styled_commands.new.drawer.state.units) in
    search rules

pub returns-clause-gives : goal.returns-clause-gives
returns-clause-gives g c =
    let same = ap (given_of evaluated) c.in_ok-open.ensures.opened in
    let none = first_is (env_of c.open.new.self) c.expect_name.new.self (picture_of c.args.drawer.now no_path) c.open.new.self.units
    c.requires.picture (ap (λ (s : State). s.units) c.in_ok-open.ensures.opened ∙ c.requires.units) in
    picture_ends (given_to c.args.drawer.now) (given_of evaluated c.open.new.self) c.args.at c.args.input.now c.expect_name.new.self
    (env_of c.args.drawer.now.state) (env_of c.open.new.self) _ same c.requires.env none c.in_ok-expect_name.ensures.gives
    c.in_ok-open.ensures.gives (progress_of c.styled_commands.new.drawer c.styled_commands.new.input) c.in_ok-styled_commands.ensures.gives
    ∙ c.in_ok-expect_nothing.ensures (compiled (picture_of c.styled_commands.new.drawer no_path) c.styled_commands.new.drawer.state.units)

pub returns-in_err-styled_commands-clause-gives : goal.returns-in_err-styled_commands-clause-gives
returns-in_err-styled_commands-clause-gives g c =
    let p = err_from_is_err_and c.from_residual-in_err-styled_commands.result c.from_residual-in_err-styled_commands.ensures.1 in
    let same = ap (given_of evaluated) c.in_ok-open.ensures.opened in
    let none = first_is (env_of c.open.new.self) c.expect_name.new.self (picture_of c.args.drawer.now no_path) c.open.new.self.units
    c.requires.picture (ap (λ (s : State). s.units) c.in_ok-open.ensures.opened ∙ c.requires.units) in
    rw (p.1, p.2) (picture_fails (given_to c.args.drawer.now) (given_of evaluated c.open.new.self) c.args.at c.args.input.now c.expect_name.new.self
    (env_of c.args.drawer.now.state) (env_of c.open.new.self) _ same c.requires.env none c.in_ok-expect_name.ensures.gives
    c.in_ok-open.ensures.gives c.in_err-styled_commands.field-0.0 c.in_err-styled_commands.ensures.gives)

pub returns-in_err-styled_commands-clause-work : goal.returns-in_err-styled_commands-clause-work
returns-in_err-styled_commands-clause-work g c =
    let begun = c.in_ok-open.ensures.opened in
    let old = c.args.drawer.now.state in
    omega (
      arith,
      c.in_err-styled_commands.ensures.high,
      c.in_ok-expect_name.ensures.shorter,
      none_yet old c.open.new.self begun,
      same_units old c.open.new.self begun,
      same_budget old c.open.new.self begun,
    )

pub returns-in_err-expect_nothing-clause-work : goal.returns-in_err-expect_nothing-clause-work
returns-in_err-expect_nothing-clause-work g c =
    let begun = c.in_ok-open.ensures.opened in
    let old = c.args.drawer.now.state in
    omega (
      arith,
      c.in_ok-styled_commands.ensures.most,
      c.in_ok-expect_name.ensures.shorter,
      none_yet old c.open.new.self begun,
      same_units old c.open.new.self begun,
      same_budget old c.open.new.self begun,
    )

pub returns-clause-work : goal.returns-clause-work
returns-clause-work g c =
    let begun = c.in_ok-open.ensures.opened in
    let old = c.args.drawer.now.state in
    omega (
      arith,
      c.in_ok-styled_commands.ensures.most,
      c.in_ok-expect_name.ensures.shorter,
      none_yet old c.open.new.self begun,
      same_units old c.open.new.self begun,
      same_budget old c.open.new.self begun,
    )
