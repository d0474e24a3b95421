use Rattle.std.proofs.Common.{rules, List, ℕ, ◌-◌, Err, reverse, length, ap, sym, ◌∙◌}
use Rattle.std.specs.List.{slice_get}
use Rattle.tk_token.specs.declared.Fault.{Fault}
use Rattle.tk_token.proofs.Braces.{one_more, one_fails, left_open}
use Rattle.tk_token.proofs.faults.balanced.Goals as goal

pub returns-in_err-open_after : goal.returns-in_err-open_after
returns-in_err-open_after c = λ names.
    let e = sym (one_fails names c.args.toks.now c.loop-tok.tok-index _ (reverse c.loop-tok.open_at.items) c.loop-tok-test.true
    c.in_err-open_after.field-0.0 (c.loop-tok.invariant.told names) (sym (c.in_err-open_after.ensures names))) in
    search rules

pub loop-tok-preserved : goal.loop-tok-preserved
loop-tok-preserved c = record {
  told = λ names. one_more names c.args.toks.now c.loop-tok.tok-index _ (reverse c.loop-tok.open_at.items) c.loop-tok-test.true
      (reverse c.open_after.new.open_at.items) (c.loop-tok.invariant.told names) (sym (c.in_ok-open_after.ensures names));
}

pub returns-in-Some : goal.returns-in-Some
returns-in-Some c = λ names.
    ap (λ (f : Fault). Err f) c.new.ensures
    ∙ sym (left_open names c.args.toks.now c.loop-tok.tok-index c.loop-tok.open_at.items c.in-Some.at.now c.loop-tok-test.false
    (c.loop-tok.invariant.told names) (c.in-Some.ensures.value ∙ ap (λ (xs : List ℕ). slice_get xs (length xs - 1)) c.deref.ensures.0))
