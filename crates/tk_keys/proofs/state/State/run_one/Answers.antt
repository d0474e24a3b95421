use Rattle.std.proofs.lemmas.Result.{err_from_is_err_and}
use Rattle.tk_keys.proofs.Loops.{none_begins, one_set, one_fails}
use Rattle.tk_keys.proofs.state.State.run_one.Goals as goal

pub returns-in_default-clause-gives : goal.returns-in_default-clause-gives
returns-in_default-clause-gives g c ev is = none_begins ev is c.args.self.now c.args.first c.args.input.now (rw c.in_default.is at c.setting_of.ensures)

pub returns-in_err-set-clause-gives : goal.returns-in_err-set-clause-gives
returns-in_err-set-clause-gives g c ev is =
    let p = err_from_is_err_and c.from_residual.result c.from_residual.ensures.1 in
    rw (p.1, p.2) (one_fails ev is c.args.self.now c.args.first c.args.input.now c.in-Some.setting c.in-Some.ensures c.in_err-set.field-0.0
    (rw c.root-dir.ensures at c.in_err-set.ensures.gives))

pub returns-clause-gives : goal.returns-clause-gives
returns-clause-gives g c ev is =
    one_set ev is c.args.self.now c.args.first c.args.input.now c.in-Some.setting c.in-Some.ensures c.set.new.self c.set.new.dir c.set.new.input
    (rw c.root-dir.ensures at c.in_ok-set.ensures.gives)
