use Rattle.std.proofs.Common.{◌≡◌, ◌+◌, ◌-◌, suc, List, [], ◌∷◌, ◌++◌, map, Vec, Global, ap, ◌∙◌, arith}
use Rattle.std.proofs.lemmas.List.{map-append}
use Rattle.std.proofs.lemmas.Result.{err_from_is_err_and}
use Rattle.tk_token.specs.declared.Tok.{Tok}
use Rattle.tk_token.specs.Groups.{cut}
use Rattle.tk_expand.proofs.Calls.{all_taken, one_missing, one_taken}
use Rattle.tk_expand.proofs.input.Input.arguments.Goals as goal

-- the texts of arguments
abbrev texts_of : List (Vec Tok Global) → List (List Tok)
texts_of arguments = map (λ (text : Vec Tok Global). text.items) arguments

pub returns-in_err-argument-clause-gives : goal.returns-in_err-argument-clause-gives
returns-in_err-argument-clause-gives c =
    let p = err_from_is_err_and c.from_residual.result c.from_residual.ensures.1 in
    let more : c.args.count - c.loop.counter ≡ suc (c.args.count - (c.loop.counter + 1)) = omega (arith, c.loop-test.true) in
    rw (p.1, p.2) (one_missing c.args.at (c.args.count - c.loop.counter) (texts_of c.loop.arguments.items) c.loop.self.rest _ c.loop.invariant.told
    (c.args.count - (c.loop.counter + 1)) more c.in_err-argument.field-0.0 c.in_err-argument.ensures.gives)

pub loop-preserved : goal.loop-preserved
loop-preserved c =
    let more : c.args.count - c.loop.counter ≡ suc (c.args.count - (c.loop.counter + 1)) = omega (arith, c.loop-test.true) in
    let pushed : texts_of c.push.new.self.items ≡ texts_of c.loop.arguments.items ++ c.in_ok-argument.field-0.items ∷ [] = ap texts_of
    c.in_ok-push.ensures.items ∙ map-append _ c.loop.arguments.items (c.in_ok-argument.field-0 ∷ []) in
    record {
      told = one_taken c.args.at (c.args.count - c.loop.counter) (texts_of c.loop.arguments.items) c.loop.self.rest _ c.loop.invariant.told
          (c.args.count - (c.loop.counter + 1)) more (cut c.in_ok-argument.field-0.items c.argument.new.self.rest) (texts_of c.push.new.self.items)
          c.in_ok-argument.ensures.gives pushed;
      end = c.in_ok-argument.ensures.end ∙ c.loop.invariant.end;
      within = omega (arith, c.loop-test.true);
    }

pub returns-clause-gives : goal.returns-clause-gives
returns-clause-gives c =
    let none : c.args.count - c.loop.counter ≡ 0 = omega (arith, c.loop-test.false) in
    all_taken c.args.at (c.args.count - c.loop.counter) (texts_of c.loop.arguments.items) c.loop.self.rest _ c.loop.invariant.told none
