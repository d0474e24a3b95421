use Rattle.std.proofs.Common.{ap, ◌∙◌}
use Rattle.std.specs.List.{slice_get}
use Rattle.std.specs.Str.{chars}
use Rattle.std.proofs.lemmas.Option.{slice_get_within}
use Rattle.tk_token.specs.Cutting.{after_gap}
use Rattle.tk_token.proofs.Cuts.{word_cut}
use Rattle.tk_token.proofs.lexer.next_word.Goals as goal

pub returns-clause-cuts : goal.returns-clause-cuts
returns-clause-cuts c =
    word_cut (chars c.args.tail.now) (chars c.after_gap.result.now) (slice_get c.add.new.self c.in_ok-number.number) c.split_letters.result.0.now
    c.requires.letter c.in_ok-number.ensures.number c.split_letters.ensures.letters (c.after_gap.ensures.value
    ∙ ap after_gap c.split_letters.ensures.after)

pub returns-clause-word : goal.returns-clause-word
returns-clause-word c = slice_get_within c.add.new.self c.in_ok-number.number c.split_letters.result.0.now c.in_ok-number.ensures.number
