use Rattle.std.proofs.Common.{ℕ, List, [], ◌∷◌, ◌++◌, sym, ap, ◌∙◌, arith, append_assoc}
use Rattle.std.specs.Str.{chars}
use Rattle.std.specs.List.{list_all}
use Rattle.tk_token.specs.Faults.{is_refused}
use Rattle.tk_token.specs.Pieces.{is_plain_byte}
use Rattle.tk_token.proofs.Refused.{first_found, none_found, none_more}
use Rattle.tk_token.proofs.PlainBytes.{plain_text}
use Rattle.tk_token.proofs.faults.first_refused.Goals as goal

pub returns-then-is_refused-clause-value : goal.returns-then-is_refused-clause-value
returns-then-is_refused-clause-value c =
    let (front, is, none) = c.loop-first.invariant.told in
    first_found is_refused c.args.text.now c.loop-first.rest.now front (chars c.in-Some.tail.now) c.in-Some.first c.utf8.text
    c.loop-first.invariant.text is c.in-Some.ensures.value none (sym c.if-is_refused.ensures)

pub loop-first-preserved : goal.loop-first-preserved
loop-first-preserved c =
    let (front, is, none) = c.loop-first.invariant.told in
    record {
      text = c.in-Some.ensures.text;
      within = omega (arith, c.in-Some.ensures.within, c.loop-first.invariant.within);
      told = (
        front ++ c.in-Some.first ∷ [],
        is ∙ ap (λ (r : List ℕ). front ++ r) c.in-Some.ensures.value
            ∙ sym (append_assoc front (c.in-Some.first ∷ []) (chars c.in-Some.tail.now)),
        none_more is_refused front c.in-Some.first none
            (sym c.if-is_refused.ensures),
      );
    }

pub returns-clause-value : goal.returns-clause-value
returns-clause-value c =
    let (front, is, none) = c.loop-first.invariant.told in
    none_found is_refused c.args.text.now front (is ∙ ap (λ (r : List ℕ). front ++ r) c.in_default.ensures.value) none

pub returns-then-is_plain-clause-value : goal.returns-then-is_plain-clause-value
returns-then-is_plain-clause-value c =
    plain_text c.args.text.now c.utf8.text (ap (list_all is_plain_byte) (sym c.as_bytes.ensures.value) ∙ sym c.if-is_plain.ensures)
