use Rattle.std.proofs.Common.{rules, arith}
use Rattle.tk_path.proofs.Undone.{none_yet, same_units, same_budget, same_settings, units_behind, budget_behind}
use Rattle.tk_picture.proofs.commands.draw_path.Goals as goal

pub returns-clause-gives : goal.returns-clause-gives
returns-clause-gives g c opener = search rules

pub returns-in_err-whole_path-clause-high : goal.returns-in_err-whole_path-clause-high
returns-in_err-whole_path-clause-high g c =
    let begun = c.in_ok-open.ensures.opened in
    let old = c.args.drawer.now.state in
    omega (
      arith,
      c.in_err-whole_path.ensures.high,
      none_yet old c.open.new.self begun,
      same_units old c.open.new.self begun,
      same_budget old c.open.new.self begun,
    )

pub returns-clause-high : goal.returns-clause-high
returns-clause-high g c =
    let begun = c.in_ok-open.ensures.opened in
    let old = c.args.drawer.now.state in
    omega (
      arith,
      c.in_ok-whole_path.ensures.most,
      c.close.ensures.high,
      none_yet old c.open.new.self begun,
      same_units old c.open.new.self begun,
      same_budget old c.open.new.self begun,
    )

pub returns-clause-most : goal.returns-clause-most
returns-clause-most g c =
    let begun = c.in_ok-open.ensures.opened in
    let old = c.args.drawer.now.state in
    let kept = c.in_ok-whole_path.ensures.kept in
    omega (
      arith,
      c.in_ok-whole_path.ensures.most,
      c.close.ensures.high,
      kept.budget,
      none_yet old c.open.new.self begun,
      same_units old c.open.new.self begun,
      same_budget old c.open.new.self begun,
      same_settings old c.open.new.self begun c.whole_path.new.drawer.state c.close.new.self kept c.close.ensures.levels c.close.ensures.kept,
      units_behind old c.open.new.self begun c.whole_path.new.drawer.state c.close.new.self kept c.close.ensures.levels c.close.ensures.kept,
      budget_behind old c.open.new.self begun c.whole_path.new.drawer.state c.close.new.self kept c.close.ensures.levels c.close.ensures.kept,
    )
