use Rattle.std.proofs.Common.{Ok, Err, rules}
use Rattle.tk_define.proofs.Counting.{parameters_counted}
use Rattle.tk_define.proofs.head.bracketed_count.Goals as goal

pub returns-in_err-body_open-clause-gives : goal.returns-in_err-body_open-clause-gives
returns-in_err-body_open-clause-gives c =
    let e = parameters_counted c.args.input.now c.skip_spaces.new.self c.digit.new.input c.skip_spaces-2.new.self c.expect_char.new.self
    c.in_ok-count.count (Err c.in_err-body_open.field-0.0) c.skip_spaces.ensures c.in_ok-count.ensures.gives c.skip_spaces-2.ensures
    c.in_ok-expect_char.ensures.gives c.in_err-body_open.ensures.gives in
    search rules

pub returns-clause-gives : goal.returns-clause-gives
returns-clause-gives c =
    parameters_counted c.args.input.now c.skip_spaces.new.self c.digit.new.input c.skip_spaces-2.new.self c.expect_char.new.self c.in_ok-count.count
    (Ok c.body_open.new.input) c.skip_spaces.ensures c.in_ok-count.ensures.gives c.skip_spaces-2.ensures c.in_ok-expect_char.ensures.gives
    c.in_ok-body_open.ensures.gives
