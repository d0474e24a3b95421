use Rattle.std.proofs.Common.{List, Ok, ap, sym, ◌∙◌, rules, arith}
use Rattle.std.proofs.lemmas.Grind.{common_steps}
use Rattle.std.proofs.lemmas.List.{nil_from_length}
use Rattle.std.proofs.lemmas.Result.{err_from_is_err_and}
use Rattle.tk_token.specs.declared.Tok.{Tok}
use Rattle.tk_token.specs.Answers.{Answer}
use Rattle.tk_store.proofs.Written.{ends, goes, fails}
use Rattle.tk_store.proofs.body.Body.parse.Goals as goal

pub returns-in_err-tok-clause-gives : goal.returns-in_err-tok-clause-gives
returns-in_err-tok-clause-gives c =
    let p = err_from_is_err_and c.from_residual-in_err-tok.result c.from_residual-in_err-tok.ensures.1 in
    rw (p.1, p.2)
    (fails c.args.args c.loop-first.toks.items c.loop-first.rest.now _ c.loop-first.invariant.told
    c.in-Some.first.now c.in-Some.tail.now (search rules) c.in_err-tok.field-0.0 c.in_err-tok.ensures.gives)

pub loop-first-preserved : goal.loop-first-preserved
loop-first-preserved c = record {
  told = goes c.args.args c.loop-first.toks.items c.loop-first.rest.now _ c.loop-first.invariant.told
      c.in-Some.first.now c.in-Some.tail.now (search rules) c.in_ok-tok.tok c.in_ok-tok.behind.now c.push.new.self.items c.in_ok-tok.ensures.gives
      c.in_ok-push.ensures.items;
  places = grind (arith, common_steps);
}

pub returns-clause-gives : goal.returns-clause-gives
returns-clause-gives c =
    ends c.args.args c.loop-first.toks.items c.loop-first.rest.now _ c.loop-first.invariant.told (nil_from_length _ c.in_default.ensures.cases)
    ∙ ap (λ (toks : List Tok). (let a : Answer (List Tok) = Ok toks in a)) (sym c.in_ok-from_vec.ensures)
