use Rattle.std.specs.Prelude.{ℕ, ◌+◌, ◌-◌, ◌≡◌, is_some, List, length, ℤ, ◌∷◌, [], ◌++◌}
use Rattle.std.proofs.Common.{ap, sym, arith, ◌∙◌, append_assoc}
use Rattle.std.proofs.lemmas.Bool.{true≢false}
use Rattle.std.proofs.lemmas.Result.{err_from_is_err_and}
use Rattle.tk_expr.specs.Evaluated.{evaluated}
use Rattle.tk_look.specs.Dashes.{all_dashes}
use Rattle.tk_look.specs.Views.{dash_seen}
use Rattle.tk_look.proofs.DashCounts.{before, before_before, lengths_of, dashes_left_counted, none_left, none_here, more_are_there, on_fails}
use Rattle.tk_look.proofs.DashCounts.{off_fails, ends_here, goes_on}
use Rattle.std.proofs.lemmas.List.{length-append}
use Rattle.tk_look.proofs.dashes.dash_lengths.Goals as goal
use Rattle.tk_look.proofs.dashes.dash_lengths.Goals.{else-loop-test, then-loop-test+in_default}

pub returns-in_err-dash_length : goal.returns-in_err-dash_length
returns-in_err-dash_length c =
    let p = err_from_is_err_and c.from_residual.result c.from_residual.ensures.1 in
    let rest = c.loop.rest.now in
    let fit = dashes_left_counted c.loop.counter c.loop-test.true in
    let there = sym (ap (λ (n : ℕ). is_some (all_dashes n rest)) fit) ∙ c.loop.invariant.there in
    rw (p.1, p.2) (sym (c.loop.invariant.told
    ∙ ap (λ (n : ℕ). before c.loop.dashes (lengths_of c.args.at evaluated c.args.font (all_dashes n rest))) fit
    ∙ ap (before c.loop.dashes) (on_fails c.args.at evaluated c.args.font rest (8 - (c.loop.counter + 1)) (dash_seen c.in-Some.dash) c.in-Some.ensures
    there c.in_err-dash_length.field-0.0 (sym c.in_err-dash_length.ensures.value))))

pub returns-in_err-dash_length-2 : goal.returns-in_err-dash_length-2
returns-in_err-dash_length-2 c =
    let p = err_from_is_err_and c.from_residual-in_err-dash_length-2.result c.from_residual-in_err-dash_length-2.ensures.1 in
    let rest = c.loop.rest.now in
    let fit = dashes_left_counted c.loop.counter c.loop-test.true in
    let there = sym (ap (λ (n : ℕ). is_some (all_dashes n rest)) fit) ∙ c.loop.invariant.there in
    rw (p.1, p.2) (sym (c.loop.invariant.told
    ∙ ap (λ (n : ℕ). before c.loop.dashes (lengths_of c.args.at evaluated c.args.font (all_dashes n rest))) fit
    ∙ ap (before c.loop.dashes) (off_fails c.args.at evaluated c.args.font rest (8 - (c.loop.counter + 1)) (dash_seen c.in-Some.dash)
    c.in-Some.ensures there c.in_ok-dash_length.field-0 c.in_err-dash_length-2.field-0.0 (sym c.in_ok-dash_length.ensures.value)
    (sym c.in_err-dash_length-2.ensures.value))))

pub returns-then-is_empty : goal.returns-then-is_empty
returns-then-is_empty c =
    let rest = c.loop.rest.now in
    let fit = dashes_left_counted c.loop.counter c.loop-test.true in
    let two = ends_here c.args.at evaluated c.args.font rest (8 - (c.loop.counter + 1)) (dash_seen c.in-Some.dash) c.in-Some.ensures
    c.in_ok-dash_length.field-0 c.in_ok-dash_length-2.field-0 (sym c.in_ok-dash_length.ensures.value)
    (sym c.in_ok-dash_length-2.ensures.value) (sym c.if-is_empty.ensures) in
    let pushed : c.push-in-loop.new.self ≡ c.loop.dashes ++ (c.in_ok-dash_length.field-0 ∷ (c.in_ok-dash_length-2.field-0 ∷ [])) =
    c.push-in-loop.ensures ∙ ap (λ (xs : List ℤ). xs ++ c.in_ok-dash_length-2.field-0 ∷ []) c.push.ensures
    ∙ append_assoc c.loop.dashes (c.in_ok-dash_length.field-0 ∷ []) (c.in_ok-dash_length-2.field-0 ∷ []) in
    rw pushed (sym (c.loop.invariant.told
    ∙ ap (λ (n : ℕ). before c.loop.dashes (lengths_of c.args.at evaluated c.args.font (all_dashes n rest))) fit
    ∙ ap (before c.loop.dashes) two))

pub loop-preserved : goal.loop-preserved
loop-preserved c =
    let rest = c.loop.rest.now in
    let fit = dashes_left_counted c.loop.counter c.loop-test.true in
    let d = dash_seen c.in-Some.dash in
    let n = 8 - (c.loop.counter + 1) in
    let more = goes_on c.args.at evaluated c.args.font rest n d c.in-Some.ensures c.in_ok-dash_length.field-0 c.in_ok-dash_length-2.field-0
    (sym c.in_ok-dash_length.ensures.value) (sym c.in_ok-dash_length-2.ensures.value) (sym c.if-is_empty.ensures) in
    let pushed : c.push-in-loop.new.self ≡ c.loop.dashes ++ (c.in_ok-dash_length.field-0 ∷ (c.in_ok-dash_length-2.field-0 ∷ [])) =
    c.push-in-loop.ensures ∙ ap (λ (xs : List ℤ). xs ++ c.in_ok-dash_length-2.field-0 ∷ []) c.push.ensures
    ∙ append_assoc c.loop.dashes (c.in_ok-dash_length.field-0 ∷ []) (c.in_ok-dash_length-2.field-0 ∷ []) in
    record {
      told = c.loop.invariant.told
          ∙ ap (λ (n : ℕ). before c.loop.dashes (lengths_of c.args.at evaluated c.args.font (all_dashes n rest))) fit
          ∙ ap (before c.loop.dashes) more
          ∙ before_before c.loop.dashes (c.in_ok-dash_length.field-0 ∷ (c.in_ok-dash_length-2.field-0 ∷ [])) (lengths_of c.args.at evaluated
          c.args.font (all_dashes n d.rest))
          ∙ ap (λ (xs : List ℤ). before xs (lengths_of c.args.at evaluated c.args.font (all_dashes n d.rest))) (sym pushed);
      there = sym (more_are_there rest n d c.in-Some.ensures (sym c.if-is_empty.ensures)) ∙ sym (ap (λ (n : ℕ). is_some (all_dashes n rest)) fit)
          ∙ c.loop.invariant.there;
      room = let sizes = ap length pushed ∙ length-append c.loop.dashes (c.in_ok-dash_length.field-0 ∷ (c.in_ok-dash_length-2.field-0 ∷ [])) in omega
          (arith, c.loop.invariant.room);
    }

pub returns : goal.returns
returns c = elim c.loop-test.branch [
  | else-loop-test w ↦ absurd (true≢false (sym c.loop.invariant.there ∙ none_left c.loop.counter c.loop.rest.now w.loop-test.false))
  | then-loop-test+in_default w ↦
      let rest = c.loop.rest.now in
      let fit = dashes_left_counted c.loop.counter w.loop-test.true in
      absurd (true≢false (sym c.loop.invariant.there ∙ ap (λ (n : ℕ). is_some (all_dashes n rest)) fit
      ∙ ap is_some (none_here rest (8 - (c.loop.counter + 1)) w.in_default.ensures)))
]
