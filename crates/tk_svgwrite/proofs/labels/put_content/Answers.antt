use Rattle.std.proofs.Common.{◌++◌, ◌∙◌, ap, arith}
use Rattle.std.proofs.lemmas.List.{take_all}
use Rattle.tk_svgwrite.specs.Values.{escaped, content_text}
use Rattle.tk_svgwrite.proofs.Writing.{flat_map_step}
use Rattle.tk_svgwrite.proofs.labels.put_content.Goals as goal

pub loop-character-preserved : goal.loop-character-preserved
loop-character-preserved c = flat_map_step escaped c.args.text.now c.loop-character.character-index c.character-item.result _ _ _
    c.loop-character-test.true c.character-item.is c.loop-character.invariant c.in_ok-put_character.ensures

pub returns : goal.returns
returns c = c.loop-character.invariant ∙ ap (λ w. c.args.out.now.items ++ content_text w) (take_all c.loop-character.character-index c.args.text.now
    (omega arith))
