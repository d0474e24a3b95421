use Rattle.std.proofs.Common.{◌∙◌}
use Rattle.std.proofs.lemmas.Result.{err_from_is_err_and}
use Rattle.tk_token.proofs.Answering.{fails_as}
use Rattle.tk_expand.specs.Unread.{unread}
use Rattle.tk_keys.specs.Settings.{Some_settings}
use Rattle.tk_keys.specs.State.{standing_of}
use Rattle.tk_keys.proofs.Loops.{runs_by}
use Rattle.tk_keys.proofs.state.State.run_settings.Goals as goal

pub returns-in_err-run_text-clause-gives : goal.returns-in_err-run_text-clause-gives
returns-in_err-run_text-clause-gives g c ev is =
    let p = err_from_is_err_and c.from_residual-in_err-run_text.result c.from_residual-in_err-run_text.ensures.1 in
    rw (p.1, p.2) (fails_as c.in_err-run_text.field-0.0 _ _ (runs_by ev is c.args.self.now
    (Some_settings (standing_of c.args.self.now c.args.dir (unread c.args.list.now c.args.at)))) (rw c.in_ok-list.ensures at
    c.in_err-run_text.ensures.gives))

pub returns-clause-gives : goal.returns-clause-gives
returns-clause-gives g c ev is =
    runs_by ev is c.args.self.now (Some_settings (standing_of c.args.self.now c.args.dir (unread c.args.list.now c.args.at)))
    ∙ (rw c.in_ok-list.ensures at c.in_ok-run_text.ensures.gives)
