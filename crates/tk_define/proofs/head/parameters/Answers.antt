use Rattle.std.proofs.Common.{ℕ, Ok, Err, rules, ap, sym, ◌∙◌, arith}
use Rattle.tk_token.specs.declared.Code.TheVariants.{MacroSyntax}
use Rattle.tk_token.specs.declared.Fault.{Fault}
use Rattle.tk_token.specs.Answers.{Answer}
use Rattle.tk_token.specs.Kinds.{is_char}
use Rattle.tk_token.proofs.Answering.{then_is}
use Rattle.tk_expand.specs.Reading.{Read, read, after_token}
use Rattle.tk_define.proofs.Counting.{then_fault, fails_next, fails_digit, goes, opens, misfits, at_nine}
use Rattle.tk_define.proofs.head.parameters.Goals as goal

pub returns-in_err-tok-clause-gives : goal.returns-in_err-tok-clause-gives
returns-in_err-tok-clause-gives c =
    let e = fails_next c.loop-count.count c.loop-count.input _ c.loop-count.invariant.told c.loop-count-test.true c.in_err-tok.field-0.0
    c.in_err-tok.ensures.gives in
    search rules

pub returns-in_err-expect_char-in-Param-clause-gives : goal.returns-in_err-expect_char-in-Param-clause-gives
returns-in_err-expect_char-in-Param-clause-gives c =
    let same = ap (λ (n : ℕ). after_token MacroSyntax (is_char n) c.token.new.self) (sym c.character.ensures) in
    let e = fails_digit c.loop-count.count c.loop-count.input _ c.loop-count.invariant.told c.loop-count-test.true c.in_ok-tok.tok c.token.new.self
    c.in_ok-tok.ensures.gives c.in-Param.is c.in_err-expect_char-in-Param.field-0.0 (same ∙ c.in_err-expect_char-in-Param.ensures.gives) in
    search rules

pub returns-in-Open-clause-gives : goal.returns-in-Open-clause-gives
returns-in-Open-clause-gives c =
    opens c.loop-count.count c.loop-count.input _ c.loop-count.invariant.told c.loop-count-test.true c.in_ok-tok.tok c.token.new.self
    c.in_ok-tok.ensures.gives c.in-Open.is

pub returns-in_default-clause-gives : goal.returns-in_default-clause-gives
returns-in_default-clause-gives c =
    misfits c.loop-count.count c.loop-count.input _ c.loop-count.invariant.told c.loop-count-test.true c.in_ok-tok.tok c.token.new.self
    c.in_ok-tok.ensures.gives c.in_default.not-Param c.in_default.not-Open
    ∙ ap (λ (f : Fault). (let a : Answer (Read ℕ) = Err f in a)) (sym c.misfit.ensures)

pub loop-count-preserved : goal.loop-count-preserved
loop-count-preserved c =
    let same = ap (λ (n : ℕ). after_token MacroSyntax (is_char n) c.token.new.self) (sym c.character.ensures) in
    record {
      told = goes c.loop-count.count c.loop-count.input _ c.loop-count.invariant.told c.loop-count-test.true c.in_ok-tok.tok c.token.new.self
          c.in_ok-tok.ensures.gives c.in-Param.is c.expect_char.new.self (same ∙ c.in_ok-expect_char-in-Param.ensures.gives);
      end = c.in_ok-expect_char-in-Param.ensures.end ∙ c.in_ok-tok.ensures.end ∙ c.loop-count.invariant.end;
      fewer = omega (arith, c.loop-count.invariant.fewer, c.in_ok-tok.ensures.shorter, c.in_ok-expect_char-in-Param.ensures.shorter);
    }

pub returns-in_err-expect_open-clause-gives : goal.returns-in_err-expect_open-clause-gives
returns-in_err-expect_open-clause-gives c =
    let e = at_nine c.loop-count.count c.loop-count.input _ c.loop-count.invariant.told (omega arith) (omega arith)
    ∙ then_fault _ (λ inside. Ok (read 9 inside)) c.in_err-expect_open.field-0.0 c.in_err-expect_open.ensures.gives in
    search rules

pub returns-clause-gives : goal.returns-clause-gives
returns-clause-gives c =
    at_nine c.loop-count.count c.loop-count.input _ c.loop-count.invariant.told (omega arith) (omega arith) ∙ then_is _ (λ inside. Ok (read 9 inside))
    c.expect_open.new.self c.in_ok-expect_open.ensures.gives
