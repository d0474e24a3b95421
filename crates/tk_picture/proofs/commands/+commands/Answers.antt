use Rattle.std.proofs.Common.{rules, arith, ap, ◌∙◌}
use Rattle.tk_outline.specs.CurrentPaths.{no_path}
use Rattle.tk_keys.specs.Given.{Given}
use Rattle.tk_path.specs.declared.drawer.Drawer.{Drawer}
use Rattle.tk_path.specs.Views.{style_name, given_to, picture_of, lookahead_of}
use Rattle.tk_picture.specs.Views.{place_of_run, progress_of, opener_of}
use Rattle.tk_path.proofs.Kept.{keeps_then, same_given, paid_keeps, settings_paid}
use Rattle.tk_expr.proofs.Runs.{evaluated_is_the_answer}
use Rattle.std.proofs.lemmas.Result.{err_from_is_err_and}
use Rattle.tk_expr.specs.Evaluated.{evaluated}
use Rattle.tk_keys.specs.State.{State, env_of, given_of}
use Rattle.tk_path.specs.Configurations.{Configuration}
use Rattle.tk_path.proofs.Undone.{none_yet, same_units, same_budget, same_settings, units_behind, budget_behind}
use Rattle.tk_picture.proofs.Fitting.{sound_paid, sound_kept}
use Rattle.tk_picture.proofs.Scopes.{scope_fails, scope_ends}
use Rattle.tk_picture.proofs.Loops.{styled_work, front_fails, taken_work, commands_more, commands_finish, command_fails, command_less}
use Rattle.tk_picture.proofs.commands.+commands.Goals as goal

pub command-returns-in-Path-clause-gives : goal.command-returns-in-Path-clause-gives
command-returns-in-Path-clause-gives g t c = rw c.in-Path.is (c.draw_path.ensures.gives (opener_of c.args.opener))

pub command-returns-in-OpenGroup-clause-gives : goal.command-returns-in-OpenGroup-clause-gives
command-returns-in-OpenGroup-clause-gives g t c = rw c.in-OpenGroup.is (c.group.ensures.gives (opener_of c.args.opener))

pub command-returns-in-BeginEnvironment-clause-gives : goal.command-returns-in-BeginEnvironment-clause-gives
command-returns-in-BeginEnvironment-clause-gives g t c = rw c.in-BeginEnvironment.is (c.scope.ensures.gives (opener_of c.args.opener))

pub command-returns-in-Other-clause-gives : goal.command-returns-in-Other-clause-gives
command-returns-in-Other-clause-gives g t c = rw c.in-Other.is (c.set.ensures.gives (opener_of c.args.opener))

pub command-returns-in_ok-expect_end-in-EndEnvironment-clause-most : goal.command-returns-in_ok-expect_end-in-EndEnvironment-clause-most
command-returns-in_ok-expect_end-in-EndEnvironment-clause-most g t c = omega (arith, c.in_ok-expect_end-in-EndEnvironment.ensures.shorter)

pub commands-returns-in_err-first-clause-gives : goal.commands-returns-in_err-first-clause-gives
commands-returns-in_err-first-clause-gives g t c =
    let e = front_fails (given_to c.args.drawer.now) (given_to c.loop-first.drawer) (same_given evaluated c.args.drawer.now.state
    c.loop-first.drawer.state c.loop-first.invariant.kept) (opener_of c.args.opener) (place_of_run c.args.drawer.now c.args.input.now)
    (place_of_run c.loop-first.drawer c.loop-first.input) c.loop-first.invariant.told c.in_err-first.field-0.0 (c.in_err-first.ensures.gives
    evaluated no_path) in
    search rules

pub commands-command_at-requires : goal.commands-command_at-requires
commands-command_at-requires g t c =
    let w = taken_work (given_to c.args.drawer.now) (given_to c.loop-first.drawer) (same_given evaluated c.args.drawer.now.state
    c.loop-first.drawer.state c.loop-first.invariant.kept) (opener_of c.args.opener) (place_of_run c.args.drawer.now c.args.input.now)
    (place_of_run c.loop-first.drawer c.loop-first.input) c.loop-first.invariant.told (lookahead_of c.in_ok-first.first c.ahead.new.self
    no_path c.ahead.new.input) (c.in_ok-first.ensures.gives evaluated no_path) in
    let kept = ap (λ (g : Given). g.budget) (same_given evaluated c.args.drawer.now.state c.loop-first.drawer.state c.loop-first.invariant.kept) in
    let paid = ap (λ (g : Given). g.budget) (ap (λ (d : Drawer). given_to d) c.in_ok-first.ensures.pays) in
    λ κs b. (
      omega (arith, w, kept, paid, c.loop-first.invariant.work),
      (
        b,
        sound_paid c.loop-first.drawer c.ahead.new.self c.in_ok-first.ensures.pays
            c.loop-first.invariant.sound,
      ),
    )

pub commands-returns-in_err-command_at-clause-gives :
    goal.commands-returns-in_err-command_at-clause-gives
commands-returns-in_err-command_at-clause-gives g t c =
    let same = (same_given evaluated c.args.drawer.now.state c.loop-first.drawer.state c.loop-first.invariant.kept) in
    let e = command_fails (given_to c.args.drawer.now) (given_to c.loop-first.drawer) same (opener_of c.args.opener) (place_of_run c.args.drawer.now
    c.args.input.now) (place_of_run c.loop-first.drawer c.loop-first.input) c.loop-first.invariant.told (lookahead_of c.in_ok-first.first
    c.ahead.new.self no_path c.ahead.new.input) (c.in_ok-first.ensures.gives evaluated no_path) (given_to c.ahead.new.self)
    (ap (λ (d : Drawer). given_to d) c.in_ok-first.ensures.pays ∙ same) c.in_err-command_at.field-0.0 c.in_err-command_at.ensures.gives in
    search rules

pub commands-loop-first-smaller : goal.commands-loop-first-smaller
commands-loop-first-smaller g t c =
    let same = (same_given evaluated c.args.drawer.now.state c.loop-first.drawer.state c.loop-first.invariant.kept) in
    let later = ap (λ (d : Drawer). given_to d) c.in_ok-first.ensures.pays ∙ same in
    let less = command_less (given_to c.args.drawer.now) (given_to c.loop-first.drawer) same (opener_of c.args.opener) (place_of_run c.args.drawer.now
    c.args.input.now) (place_of_run c.loop-first.drawer c.loop-first.input) c.loop-first.invariant.told (lookahead_of c.in_ok-first.first
    c.ahead.new.self no_path c.ahead.new.input) (c.in_ok-first.ensures.gives evaluated no_path) (given_to c.ahead.new.self) later
    (place_of_run c.command_at.new.drawer c.command_at.new.input) (rw c.in-GoesOn.is at c.in_ok-command_at.ensures.gives) in
    let kept = ap (λ (g : Given). g.budget) same in
    let now = ap (λ (g : Given). g.budget) (same_given evaluated c.ahead.new.self.state c.command_at.new.drawer.state c.in_ok-command_at.ensures.kept
    ∙ later) in
    omega (arith, less, kept, now)

pub commands-loop-first-preserved : goal.commands-loop-first-preserved
commands-loop-first-preserved g t c =
    let same = (same_given evaluated c.args.drawer.now.state c.loop-first.drawer.state c.loop-first.invariant.kept) in
    let later = ap (λ (d : Drawer). given_to d) c.in_ok-first.ensures.pays ∙ same in
    let less = command_less (given_to c.args.drawer.now) (given_to c.loop-first.drawer) same (opener_of c.args.opener) (place_of_run c.args.drawer.now
    c.args.input.now) (place_of_run c.loop-first.drawer c.loop-first.input) c.loop-first.invariant.told (lookahead_of c.in_ok-first.first
    c.ahead.new.self no_path c.ahead.new.input) (c.in_ok-first.ensures.gives evaluated no_path) (given_to c.ahead.new.self) later
    (place_of_run c.command_at.new.drawer c.command_at.new.input) (rw c.in-GoesOn.is at c.in_ok-command_at.ensures.gives) in
    let kept = ap (λ (g : Given). g.budget) same in
    let now = ap (λ (g : Given). g.budget) (same_given evaluated c.ahead.new.self.state c.command_at.new.drawer.state c.in_ok-command_at.ensures.kept
    ∙ later) in
    record {
      told = commands_more (given_to c.args.drawer.now) (given_to c.loop-first.drawer) same (opener_of c.args.opener) (place_of_run c.args.drawer.now
          c.args.input.now) (place_of_run c.loop-first.drawer c.loop-first.input) c.loop-first.invariant.told (lookahead_of c.in_ok-first.first
          c.ahead.new.self no_path c.ahead.new.input) (c.in_ok-first.ensures.gives evaluated no_path) (given_to c.ahead.new.self) later
          (place_of_run c.command_at.new.drawer c.command_at.new.input) (rw c.in-GoesOn.is at c.in_ok-command_at.ensures.gives);
      sound = c.in_ok-command_at.ensures.sound;
      kept = keeps_then c.args.drawer.now.state c.loop-first.drawer.state c.command_at.new.drawer.state c.loop-first.invariant.kept
          (keeps_then c.loop-first.drawer.state c.ahead.new.self.state c.command_at.new.drawer.state (paid_keeps c.loop-first.drawer c.ahead.new.self
          c.in_ok-first.ensures.pays).state c.in_ok-command_at.ensures.kept);
      work = omega (arith, less, kept, now, c.loop-first.invariant.work);
      most = omega (
        arith,
        c.loop-first.invariant.most,
        c.in_ok-first.ensures.falls,
        settings_paid c.loop-first.drawer c.ahead.new.self
            c.in_ok-first.ensures.pays,
        c.in_ok-command_at.ensures.most,
      );
    }

pub commands-returns-in-Finishes-clause-gives : goal.commands-returns-in-Finishes-clause-gives
commands-returns-in-Finishes-clause-gives g t c =
    let same = (same_given evaluated c.args.drawer.now.state c.loop-first.drawer.state c.loop-first.invariant.kept) in
    commands_finish (given_to c.args.drawer.now) (given_to c.loop-first.drawer) same (opener_of c.args.opener) (place_of_run c.args.drawer.now
    c.args.input.now) (place_of_run c.loop-first.drawer c.loop-first.input) c.loop-first.invariant.told (lookahead_of c.in_ok-first.first
    c.ahead.new.self no_path c.ahead.new.input) (c.in_ok-first.ensures.gives evaluated no_path) (given_to c.ahead.new.self)
    (ap (λ (d : Drawer). given_to d) c.in_ok-first.ensures.pays ∙ same) (progress_of c.command_at.new.drawer c.command_at.new.input)
    (rw c.in-Finishes.is at c.in_ok-command_at.ensures.gives)

pub styled_commands-commands-requires : goal.styled_commands-commands-requires
styled_commands-commands-requires g t c =
    let kept = c.in_ok-run_styled.ensures.kept in
    let w = styled_work (given_to c.args.drawer.now) c.place.result (style_name c.args.style) (place_of_run c.args.drawer.now c.args.input.now)
    (place_of_run c.run_styled.new.drawer c.run_styled.new.input) c.in_ok-run_styled.ensures.gives in
    let budget = kept.state.budget in
    λ κs b. (omega (arith, w, budget), (b, sound_kept c.args.drawer.now c.run_styled.new.drawer kept (search rules)))

pub scope-styled_commands-requires : goal.scope-styled_commands-requires
scope-styled_commands-requires g t c =
    let short = c.in_ok-expect_named.ensures.shorter in
    let budget = ap (λ (s : State). s.budget) c.in_ok-open.ensures.opened in
    let units = ap (λ (s : State). s.units) c.in_ok-open.ensures.opened in
    λ κs b. (
      omega (arith, short, budget, units),
      (b, record { items = c.requires.sound.items; proper = c.requires.sound.proper }),
    )

pub scope-returns-in_err-styled_commands-clause-gives : goal.scope-returns-in_err-styled_commands-clause-gives
scope-returns-in_err-styled_commands-clause-gives g t c opener =
    let p = err_from_is_err_and c.from_residual-in_err-styled_commands.result c.from_residual-in_err-styled_commands.ensures.1 in
    let d : State → Configuration = λ s. record {
      env = env_of c.open.new.self;
      picture = picture_of c.args.drawer.now no_path;
      list = c.expect_named.new.input;
      units = s.units;
    } in
    rw (p.1, p.2) (scope_fails (given_to c.args.drawer.now) c.args.first opener (place_of_run c.args.drawer.now c.args.input.now)
    c.expect_named.new.input (env_of c.open.new.self) c.in_ok-expect_named.ensures.gives c.in_ok-open.ensures.gives
    (given_of evaluated c.open.new.self) (ap (given_of evaluated) c.in_ok-open.ensures.opened) (d c.open.new.self)
    (ap d c.in_ok-open.ensures.opened) c.in_err-styled_commands.field-0.0 c.in_err-styled_commands.ensures.gives)

pub scope-returns-clause-gives : goal.scope-returns-clause-gives
scope-returns-clause-gives g t c opener =
    let d : State → Configuration = λ s. record {
      env = env_of c.open.new.self;
      picture = picture_of c.args.drawer.now no_path;
      list = c.expect_named.new.input;
      units = s.units;
    } in
    let e = scope_ends (given_to c.args.drawer.now) c.args.first opener (place_of_run c.args.drawer.now c.args.input.now) c.expect_named.new.input
    (env_of c.open.new.self) c.in_ok-expect_named.ensures.gives c.in_ok-open.ensures.gives (given_of evaluated c.open.new.self)
    (ap (given_of evaluated) c.in_ok-open.ensures.opened) (d c.open.new.self) (ap d c.in_ok-open.ensures.opened)
    (progress_of c.styled_commands.new.drawer c.styled_commands.new.input) c.in_ok-styled_commands.ensures.gives in
    search rules

pub scope-returns-in_err-styled_commands-clause-high : goal.scope-returns-in_err-styled_commands-clause-high
scope-returns-in_err-styled_commands-clause-high g t c =
    let begun = c.in_ok-open.ensures.opened in
    let old = c.args.drawer.now.state in
    omega (
      arith,
      c.in_err-styled_commands.ensures.high,
      c.in_ok-expect_named.ensures.shorter,
      none_yet old c.open.new.self begun,
      same_units old c.open.new.self begun,
      same_budget old c.open.new.self begun,
    )

pub scope-returns-clause-high : goal.scope-returns-clause-high
scope-returns-clause-high g t c =
    let begun = c.in_ok-open.ensures.opened in
    let old = c.args.drawer.now.state in
    omega (
      arith,
      c.in_ok-styled_commands.ensures.most,
      c.close.ensures.high,
      c.in_ok-expect_named.ensures.shorter,
      none_yet old c.open.new.self begun,
      same_units old c.open.new.self begun,
      same_budget old c.open.new.self begun,
    )

pub scope-returns-clause-most : goal.scope-returns-clause-most
scope-returns-clause-most g t c =
    let begun = c.in_ok-open.ensures.opened in
    let old = c.args.drawer.now.state in
    let kept = c.in_ok-styled_commands.ensures.kept in
    omega (
      arith,
      c.in_ok-styled_commands.ensures.most,
      c.close.ensures.high,
      kept.budget,
      c.in_ok-expect_named.ensures.shorter,
      none_yet old c.open.new.self begun,
      same_units old c.open.new.self begun,
      same_budget old c.open.new.self begun,
      same_settings old c.open.new.self begun c.styled_commands.new.drawer.state c.close.new.self kept c.close.ensures.levels c.close.ensures.kept,
      units_behind old c.open.new.self begun c.styled_commands.new.drawer.state c.close.new.self kept c.close.ensures.levels c.close.ensures.kept,
      budget_behind old c.open.new.self begun c.styled_commands.new.drawer.state c.close.new.self kept c.close.ensures.levels c.close.ensures.kept,
    )

pub group-returns-in_err-commands-clause-high : goal.group-returns-in_err-commands-clause-high
group-returns-in_err-commands-clause-high g t c =
    let begun = c.in_ok-open.ensures.opened in
    let old = c.args.drawer.now.state in
    omega (
      arith,
      c.in_err-commands.ensures.high,
      none_yet old c.open.new.self begun,
      same_units old c.open.new.self begun,
      same_budget old c.open.new.self begun,
    )

pub group-returns-clause-high : goal.group-returns-clause-high
group-returns-clause-high g t c =
    let begun = c.in_ok-open.ensures.opened in
    let old = c.args.drawer.now.state in
    omega (
      arith,
      c.in_ok-commands.ensures.most,
      c.close.ensures.high,
      none_yet old c.open.new.self begun,
      same_units old c.open.new.self begun,
      same_budget old c.open.new.self begun,
    )

pub group-returns-clause-most : goal.group-returns-clause-most
group-returns-clause-most g t c =
    let begun = c.in_ok-open.ensures.opened in
    let old = c.args.drawer.now.state in
    let kept = c.in_ok-commands.ensures.kept in
    omega (
      arith,
      c.in_ok-commands.ensures.most,
      c.close.ensures.high,
      kept.budget,
      none_yet old c.open.new.self begun,
      same_units old c.open.new.self begun,
      same_budget old c.open.new.self begun,
      same_settings old c.open.new.self begun c.commands.new.drawer.state c.close.new.self kept c.close.ensures.levels c.close.ensures.kept,
      units_behind old c.open.new.self begun c.commands.new.drawer.state c.close.new.self kept c.close.ensures.levels c.close.ensures.kept,
      budget_behind old c.open.new.self begun c.commands.new.drawer.state c.close.new.self kept c.close.ensures.levels c.close.ensures.kept,
    )

pub commands-returns-in_err-command_at-clause-high : goal.commands-returns-in_err-command_at-clause-high
commands-returns-in_err-command_at-clause-high g t c =
    omega (
      arith,
      c.loop-first.invariant.most,
      c.in_ok-first.ensures.falls,
      settings_paid c.loop-first.drawer c.ahead.new.self
          c.in_ok-first.ensures.pays,
      c.in_err-command_at.ensures.high,
    )

pub commands-returns-in-Finishes-clause-high : goal.commands-returns-in-Finishes-clause-high
commands-returns-in-Finishes-clause-high g t c =
    omega (
      arith,
      c.loop-first.invariant.most,
      c.in_ok-first.ensures.falls,
      settings_paid c.loop-first.drawer c.ahead.new.self
          c.in_ok-first.ensures.pays,
      c.in_ok-command_at.ensures.most,
    )

pub commands-returns-in-Finishes-clause-most : goal.commands-returns-in-Finishes-clause-most
commands-returns-in-Finishes-clause-most g t c =
    omega (
      arith,
      c.loop-first.invariant.most,
      c.in_ok-first.ensures.falls,
      settings_paid c.loop-first.drawer c.ahead.new.self
          c.in_ok-first.ensures.pays,
      c.in_ok-command_at.ensures.most,
    )
