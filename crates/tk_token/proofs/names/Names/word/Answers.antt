use Rattle.std.proofs.Common.{ℕ, List, ap, subst, ◌∙◌}
use Rattle.std.specs.List.{slice_get}
use Rattle.tk_token.specs.Words.{EachOnce}
use Rattle.tk_token.proofs.Listed.{each_once, word_at}
use Rattle.tk_token.proofs.names.Names.word.Goals as goal

pub returns-in_err-word-clause-once : goal.returns-in_err-word-clause-once
returns-in_err-word-clause-once c = subst EachOnce c.self.view_is (each_once c.self.inside.words.keys c.as_slice.ensures.unique)

pub returns-clause-word : goal.returns-clause-word
returns-clause-word c = word_at c.self.inside.words.keys c.as_slice.result.now c.args.n c.in_ok-word.word.now c.as_str.result.now
    c.as_slice.ensures.keys c.in_ok-word.ensures.lookup.0 c.in_ok-word.ensures.lookup.1 c.as_str.ensures.value
    ∙ ap (λ (ws : List (List ℕ)). slice_get ws c.args.n) c.self.view_is

pub returns-clause-once : goal.returns-clause-once
returns-clause-once c = subst EachOnce c.self.view_is (each_once c.self.inside.words.keys c.as_slice.ensures.unique)
