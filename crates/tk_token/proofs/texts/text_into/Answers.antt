use Rattle.std.proofs.Common.{◌≡◌, [], string_bytes, sym, ap, ◌∙◌}
use Rattle.std.proofs.lemmas.List.{nil_from_length}
use Rattle.tk_token.specs.Texts.{characters_of}
use Rattle.tk_token.proofs.Spelled.{behind, one_more, no_more, whole}
use Rattle.tk_token.proofs.texts.text_into.Goals as goal

pub returns-in_default-character_of : goal.returns-in_default-character_of
returns-in_default-character_of c =
    let text = string_bytes c.loop-first.text in
    sym (c.loop-first.invariant ∙ ap (λ ts. behind text (characters_of ts)) c.in-Some.ensures.cases.0 ∙ no_more text c.in-Some.first.now
    c.in-Some.tail.now c.in_default-character_of.ensures)

pub loop-first-preserved : goal.loop-first-preserved
loop-first-preserved c =
    let text = string_bytes c.loop-first.text in
    c.loop-first.invariant
    ∙ ap (λ ts. behind text (characters_of ts)) c.in-Some.ensures.cases.0
    ∙ one_more text c.in-Some.first.now c.in-Some.tail.now c.in-Some-character_of.character c.in-Some-character_of.ensures
    ∙ ap (λ t. behind t (characters_of c.in-Some.tail.now)) (sym c.in_ok-push.ensures.bytes)

pub returns : goal.returns
returns c =
    let text = string_bytes c.loop-first.text in
    let none : c.loop-first.rest.now ≡ [] = nil_from_length c.loop-first.rest.now c.in_default.ensures.cases in
    sym (c.loop-first.invariant ∙ ap (λ ts. behind text (characters_of ts)) none ∙ whole text)
