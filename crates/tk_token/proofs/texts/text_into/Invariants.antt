use Rattle.std.proofs.Common.{◌≡◌, length, string_bytes}
use Rattle.tk_token.specs.Texts.{text_in, characters_of}
use Rattle.tk_token.proofs.Spelled.{behind}
use Rattle.tk_token.proofs.texts.text_into.Given as goal

abbrev pub invariant-loop-first : goal.invariant-loop-first
invariant-loop-first l = text_in l.fn.list ≡ behind (string_bytes l.text) (characters_of l.rest)

abbrev pub decreases-loop-first : goal.decreases-loop-first
decreases-loop-first l = length l.rest
