use Rattle.std.proofs.Common.{◌∙◌}
use Rattle.std.proofs.lemmas.Result.{err_from_is_err_and}
use Rattle.tk_token.proofs.Answering.{fails_as}
use Rattle.tk_keys.specs.Settings.{A_key_list}
use Rattle.tk_keys.specs.State.{situation_of}
use Rattle.tk_keys.proofs.Loops.{runs_by}
use Rattle.tk_keys.proofs.state.State.run_list.Goals as goal

pub returns-in_err-run_keys-clause-gives : goal.returns-in_err-run_keys-clause-gives
returns-in_err-run_keys-clause-gives g c ev is =
    let p = err_from_is_err_and c.from_residual.result c.from_residual.ensures.1 in
    rw (p.1, p.2) (fails_as c.in_err-run_keys.field-0.0 _ _ (runs_by ev is c.args.self.now (A_key_list (situation_of c.args.self.now) c.args.dir
    c.args.list.now c.args.at)) c.in_err-run_keys.ensures.gives)

pub returns-clause-gives : goal.returns-clause-gives
returns-clause-gives g c ev is =
    runs_by ev is c.args.self.now (A_key_list (situation_of c.args.self.now) c.args.dir c.args.list.now c.args.at) ∙ c.in_ok-run_keys.ensures.gives
