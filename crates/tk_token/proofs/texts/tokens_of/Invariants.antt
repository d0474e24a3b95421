use Rattle.std.proofs.Common.{◌≡◌, map}
use Rattle.tk_token.specs.Texts.{kind_in_text}
use Rattle.tk_token.proofs.texts.tokens_of.Given as goal

abbrev pub invariant-loop-character : goal.invariant-loop-character
invariant-loop-character l = l.toks.items ≡ map (λ c. record { kind = kind_in_text c; at = l.at }) l.yielded
