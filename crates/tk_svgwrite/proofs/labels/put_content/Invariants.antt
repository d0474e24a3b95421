use Rattle.std.proofs.Common.{◌≡◌, ◌++◌, take}
use Rattle.tk_svgwrite.specs.Values.{content_text}
use Rattle.tk_svgwrite.proofs.labels.put_content.Given as goal

-- the characters so far are written
abbrev pub invariant-loop-character : goal.invariant-loop-character
invariant-loop-character l = l.out.items ≡ l.initial.out.items ++ content_text (take l.character-index l.text)
