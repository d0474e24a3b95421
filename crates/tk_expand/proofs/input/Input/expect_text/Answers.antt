use Rattle.std.proofs.Common.{rules, ◌∙◌, arith}
use Rattle.tk_expand.proofs.Written.{char_met, char_missed, text_met}
use Rattle.tk_expand.proofs.input.Input.expect_text.Goals as goal

pub returns-in_err-expect_char-clause-gives : goal.returns-in_err-expect_char-clause-gives
returns-in_err-expect_char-clause-gives c =
    let e = c.loop-byte.invariant.told ∙ char_missed c.args.code c.args.text.now c.loop-byte.byte-index c.loop-byte.self
    c.in_err-expect_char.field-0.0 c.loop-byte-test.true (search rules) in
    search rules

pub loop-byte-preserved : goal.loop-byte-preserved
loop-byte-preserved c = record {
  told = c.loop-byte.invariant.told ∙ char_met c.args.code c.args.text.now c.loop-byte.byte-index c.loop-byte.self c.expect_char.new.self
      c.loop-byte-test.true (search rules);
  end = search rules;
  shorter = omega (arith, c.in_ok-expect_char.ensures.shorter);
}

pub returns-clause-gives : goal.returns-clause-gives
returns-clause-gives c =
    c.loop-byte.invariant.told ∙ text_met c.args.code c.args.text.now c.loop-byte.byte-index c.loop-byte.self c.loop-byte-test.false
