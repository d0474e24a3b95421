use Rattle.std.proofs.Common.{map, sym, ap, ◌∙◌, map-id}
use Rattle.std.proofs.lemmas.Iterator.{YieldsList-from_chars}
use Rattle.std.proofs.lemmas.Iterator.Consumers.{YieldsList-end}
use Rattle.tk_token.specs.Texts.{kind_in_text}
use Rattle.tk_token.proofs.texts.tokens_of.Goals as goal

pub returns : goal.returns
returns c =
    let end = YieldsList-end (YieldsList-from_chars c.args.text.now c.utf8.text cc) c.loop-character.yielded _ c.loop-character.yielded_by _ _
    c.in-None.is c.next.ensures.steps in
    c.loop-character.invariant ∙ ap (map (λ d. record { kind = kind_in_text d; at = c.args.at })) (sym (map-id c.loop-character.yielded) ∙ end.0)
