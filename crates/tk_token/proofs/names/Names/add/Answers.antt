use Rattle.std.proofs.Common.{◌≡◌, false, ℕ, List, Some, sym, subst, ◌∙◌}
use Rattle.std.specs.List.{slice_get}
use Rattle.tk_token.specs.Words.{EachOnce, has_word}
use Rattle.tk_token.proofs.Listed.{has_word_is, found_at, new_word_at, each_once, on_err}
use Rattle.tk_token.proofs.names.Names.add.Goals as goal

pub returns-in-Some-clause-number : goal.returns-in-Some-clause-number
returns-in-Some-clause-number c = subst (λ (ws : List (List ℕ)). slice_get ws c.in-Some.number ≡ Some c.args.word.now) c.self.view_is
    (found_at c.self.inside.words.keys c.args.word.now c.in-Some.number (sym c.in-Some.ensures.index))

pub returns-in-Some-clause-once : goal.returns-in-Some-clause-once
returns-in-Some-clause-once c = subst EachOnce c.self.view_is (each_once c.self.inside.words.keys c.len-last.ensures.unique)

pub returns-in_err-word-clause-once : goal.returns-in_err-word-clause-once
returns-in_err-word-clause-once c = subst EachOnce c.self.view_is (each_once c.self.inside.words.keys c.len-last.ensures.unique)

pub returns-in_err-word-clause-absent : goal.returns-in_err-word-clause-absent
returns-in_err-word-clause-absent c = on_err c.from_residual.result (subst (λ (ws : List (List ℕ)). has_word ws c.args.word.now
    ≡ false) c.self.view_is (sym (has_word_is c.self.inside.words.keys c.args.word.now) ∙ sym c.in_default.ensures.found))

pub returns-in_err-insert-clause-once : goal.returns-in_err-insert-clause-once
returns-in_err-insert-clause-once c = each_once c.insert.new.self.keys c.insert.ensures.unique

pub returns-in_err-insert-clause-absent : goal.returns-in_err-insert-clause-absent
returns-in_err-insert-clause-absent c =
    on_err c.from_residual-in_err-insert.result (subst (λ (ws : List (List ℕ)). has_word ws c.args.word.now ≡ false) c.self.view_is
    (sym (has_word_is c.self.inside.words.keys c.args.word.now) ∙ sym c.in_default.ensures.found))

pub returns-clause-number : goal.returns-clause-number
returns-clause-number c =
    new_word_at c.self.inside.words.keys c.insert.new.self.keys c.in_ok-word.word c.args.word.now c.len-last.result c.in_ok-word.ensures.ok
    (sym c.in_default.ensures.found) c.in_ok-insert.ensures.keys c.len-last.ensures.len

pub returns-clause-once : goal.returns-clause-once
returns-clause-once c = each_once c.insert.new.self.keys c.insert.ensures.unique
