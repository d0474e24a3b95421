use Rattle.std.proofs.Common.{rules, arith, ap, ◌∙◌}
use Rattle.tk_keys.specs.Given.{Given}
use Rattle.tk_keys.specs.State.{State, given_of}
use Rattle.tk_expr.specs.Evaluated.{evaluated}
use Rattle.tk_path.specs.declared.drawer.Drawer.{Drawer}
use Rattle.tk_path.specs.Views.{given_to, configuration_of, lookahead_of}
use Rattle.tk_path.proofs.Kept.{same_given, drawn_then, paid_keeps, settings_paid}
use Rattle.tk_path.proofs.Loops.{front_fails, taken_work, operations_more, operations_finish, part_fails, part_less}
use Rattle.tk_path.proofs.Undone.{none_yet, same_units, same_budget, same_settings, units_behind, budget_behind}
use Rattle.tk_path.proofs.drawer.Drawer.+operations.Goals as goal

pub operations-returns-in_err-first-clause-gives : goal.operations-returns-in_err-first-clause-gives
operations-returns-in_err-first-clause-gives g t c =
    let same = same_given evaluated c.args.self.now.state c.loop-first.self.state c.loop-first.invariant.kept.state in
    let e = front_fails (given_to c.args.self.now) (given_to c.loop-first.self) same c.args.opener (configuration_of c.args.self.now c.args.path.now
    c.args.input.now) (configuration_of c.loop-first.self c.loop-first.path c.loop-first.input) c.loop-first.invariant.told
    c.in_err-first.field-0.0 (c.in_err-first.ensures.gives evaluated c.loop-first.path) in
    search rules

pub operations-part_from-requires : goal.operations-part_from-requires
operations-part_from-requires g t c =
    let same = same_given evaluated c.args.self.now.state c.loop-first.self.state c.loop-first.invariant.kept.state in
    let w = taken_work (given_to c.args.self.now) (given_to c.loop-first.self) same c.args.opener (configuration_of c.args.self.now c.args.path.now
    c.args.input.now) (configuration_of c.loop-first.self c.loop-first.path c.loop-first.input) c.loop-first.invariant.told
    (lookahead_of c.in_ok-first.first c.ahead.new.self c.loop-first.path c.ahead.new.input) (c.in_ok-first.ensures.gives evaluated c.loop-first.path)
    in
    let kept = ap (λ (g : Given). g.budget) same in
    let paid = ap (λ (d : Drawer). d.state.budget) c.in_ok-first.ensures.pays in
    λ κs b. (omega (arith, w, kept, paid, c.loop-first.invariant.work), b)

pub operations-returns-in_err-part_from-clause-gives : goal.operations-returns-in_err-part_from-clause-gives
operations-returns-in_err-part_from-clause-gives g t c =
    let same = same_given evaluated c.args.self.now.state c.loop-first.self.state c.loop-first.invariant.kept.state in
    let e = part_fails (given_to c.args.self.now) (given_to c.loop-first.self) same c.args.opener (configuration_of c.args.self.now c.args.path.now
    c.args.input.now) (configuration_of c.loop-first.self c.loop-first.path c.loop-first.input) c.loop-first.invariant.told
    (lookahead_of c.in_ok-first.first c.ahead.new.self c.loop-first.path c.ahead.new.input) (c.in_ok-first.ensures.gives evaluated c.loop-first.path)
    (given_to c.ahead.new.self) (ap (λ (d : Drawer). given_to d) c.in_ok-first.ensures.pays ∙ same) c.in_err-part_from.field-0.0
    c.in_err-part_from.ensures.gives in
    search rules

pub operations-loop-first-smaller : goal.operations-loop-first-smaller
operations-loop-first-smaller g t c =
    let same = same_given evaluated c.args.self.now.state c.loop-first.self.state c.loop-first.invariant.kept.state in
    let later = ap (λ (d : Drawer). given_to d) c.in_ok-first.ensures.pays ∙ same in
    let less = part_less (given_to c.args.self.now) (given_to c.loop-first.self) same c.args.opener (configuration_of c.args.self.now c.args.path.now
    c.args.input.now) (configuration_of c.loop-first.self c.loop-first.path c.loop-first.input) c.loop-first.invariant.told
    (lookahead_of c.in_ok-first.first c.ahead.new.self c.loop-first.path c.ahead.new.input) (c.in_ok-first.ensures.gives evaluated c.loop-first.path)
    (given_to c.ahead.new.self) later (configuration_of c.part_from.new.self c.part_from.new.path c.part_from.new.input)
    (rw c.in-GoesOn.is at c.in_ok-part_from.ensures.gives) in
    let kept = ap (λ (g : Given). g.budget) same in
    let now = ap (λ (g : Given). g.budget) (same_given evaluated c.ahead.new.self.state c.part_from.new.self.state
    c.in_ok-part_from.ensures.kept.state ∙ later) in
    omega (arith, less, kept, now)

pub operations-loop-first-preserved : goal.operations-loop-first-preserved
operations-loop-first-preserved g t c =
    let same = same_given evaluated c.args.self.now.state c.loop-first.self.state c.loop-first.invariant.kept.state in
    let later = ap (λ (d : Drawer). given_to d) c.in_ok-first.ensures.pays ∙ same in
    let less = part_less (given_to c.args.self.now) (given_to c.loop-first.self) same c.args.opener (configuration_of c.args.self.now c.args.path.now
    c.args.input.now) (configuration_of c.loop-first.self c.loop-first.path c.loop-first.input) c.loop-first.invariant.told
    (lookahead_of c.in_ok-first.first c.ahead.new.self c.loop-first.path c.ahead.new.input) (c.in_ok-first.ensures.gives evaluated c.loop-first.path)
    (given_to c.ahead.new.self) later (configuration_of c.part_from.new.self c.part_from.new.path c.part_from.new.input)
    (rw c.in-GoesOn.is at c.in_ok-part_from.ensures.gives) in
    let kept = ap (λ (g : Given). g.budget) same in
    let now = ap (λ (g : Given). g.budget) (same_given evaluated c.ahead.new.self.state c.part_from.new.self.state
    c.in_ok-part_from.ensures.kept.state ∙ later) in
    record {
      told = operations_more (given_to c.args.self.now) (given_to c.loop-first.self) same c.args.opener (configuration_of c.args.self.now
          c.args.path.now c.args.input.now) (configuration_of c.loop-first.self c.loop-first.path c.loop-first.input) c.loop-first.invariant.told
          (lookahead_of c.in_ok-first.first c.ahead.new.self c.loop-first.path c.ahead.new.input) (c.in_ok-first.ensures.gives evaluated
          c.loop-first.path)
          (given_to c.ahead.new.self) later (configuration_of c.part_from.new.self c.part_from.new.path c.part_from.new.input)
          (rw c.in-GoesOn.is at c.in_ok-part_from.ensures.gives);
      kept = drawn_then c.args.self.now c.loop-first.self c.part_from.new.self c.loop-first.invariant.kept (drawn_then c.loop-first.self
          c.ahead.new.self c.part_from.new.self (paid_keeps c.loop-first.self c.ahead.new.self c.in_ok-first.ensures.pays)
          c.in_ok-part_from.ensures.kept);
      work = omega (arith, less, kept, now, c.loop-first.invariant.work);
      most = omega (
        arith,
        c.loop-first.invariant.most,
        c.in_ok-first.ensures.falls,
        settings_paid c.loop-first.self c.ahead.new.self
            c.in_ok-first.ensures.pays,
        c.in_ok-part_from.ensures.most,
      );
    }

pub operations-returns-in-Finishes-clause-gives : goal.operations-returns-in-Finishes-clause-gives
operations-returns-in-Finishes-clause-gives g t c =
    let same = same_given evaluated c.args.self.now.state c.loop-first.self.state c.loop-first.invariant.kept.state in
    operations_finish (given_to c.args.self.now) (given_to c.loop-first.self) same c.args.opener (configuration_of c.args.self.now c.args.path.now
    c.args.input.now) (configuration_of c.loop-first.self c.loop-first.path c.loop-first.input) c.loop-first.invariant.told
    (lookahead_of c.in_ok-first.first c.ahead.new.self c.loop-first.path c.ahead.new.input) (c.in_ok-first.ensures.gives evaluated c.loop-first.path)
    (given_to c.ahead.new.self) (ap (λ (d : Drawer). given_to d) c.in_ok-first.ensures.pays ∙ same) (configuration_of c.part_from.new.self
    c.part_from.new.path c.part_from.new.input) (rw c.in-Finishes.is at c.in_ok-part_from.ensures.gives)

pub operations-returns-in_err-part_from-clause-high : goal.operations-returns-in_err-part_from-clause-high
operations-returns-in_err-part_from-clause-high g t c =
    omega (
      arith,
      c.loop-first.invariant.most,
      c.in_ok-first.ensures.falls,
      settings_paid c.loop-first.self c.ahead.new.self
          c.in_ok-first.ensures.pays,
      c.in_err-part_from.ensures.high,
    )

pub operations-returns-in-Finishes-clause-high : goal.operations-returns-in-Finishes-clause-high
operations-returns-in-Finishes-clause-high g t c =
    omega (
      arith,
      c.loop-first.invariant.most,
      c.in_ok-first.ensures.falls,
      settings_paid c.loop-first.self c.ahead.new.self
          c.in_ok-first.ensures.pays,
      c.in_ok-part_from.ensures.most,
    )

pub operations-returns-in-Finishes-clause-most : goal.operations-returns-in-Finishes-clause-most
operations-returns-in-Finishes-clause-most g t c =
    omega (
      arith,
      c.loop-first.invariant.most,
      c.in_ok-first.ensures.falls,
      settings_paid c.loop-first.self c.ahead.new.self
          c.in_ok-first.ensures.pays,
      c.in_ok-part_from.ensures.most,
    )

pub path_group-returns-in_err-operations-clause-high : goal.path_group-returns-in_err-operations-clause-high
path_group-returns-in_err-operations-clause-high g t c =
    let begun = c.in_ok-open.ensures.opened in
    let old = c.args.self.now.state in
    omega (
      arith,
      c.in_err-operations.ensures.high,
      none_yet old c.open.new.self begun,
      same_units old c.open.new.self begun,
      same_budget old c.open.new.self begun,
    )

pub path_group-returns-clause-high : goal.path_group-returns-clause-high
path_group-returns-clause-high g t c =
    let begun = c.in_ok-open.ensures.opened in
    let old = c.args.self.now.state in
    omega (
      arith,
      c.in_ok-operations.ensures.most,
      c.close.ensures.high,
      none_yet old c.open.new.self begun,
      same_units old c.open.new.self begun,
      same_budget old c.open.new.self begun,
    )

pub path_group-returns-clause-most : goal.path_group-returns-clause-most
path_group-returns-clause-most g t c =
    let begun = c.in_ok-open.ensures.opened in
    let old = c.args.self.now.state in
    let kept = c.in_ok-operations.ensures.kept.state in
    omega (
      arith,
      c.in_ok-operations.ensures.most,
      c.close.ensures.high,
      kept.budget,
      none_yet old c.open.new.self begun,
      same_units old c.open.new.self begun,
      same_budget old c.open.new.self begun,
      same_settings old c.open.new.self begun c.operations.new.self.state c.close.new.self kept c.close.ensures.levels c.close.ensures.kept,
      units_behind old c.open.new.self begun c.operations.new.self.state c.close.new.self kept c.close.ensures.levels c.close.ensures.kept,
      budget_behind old c.open.new.self begun c.operations.new.self.state c.close.new.self kept c.close.ensures.levels c.close.ensures.kept,
    )
