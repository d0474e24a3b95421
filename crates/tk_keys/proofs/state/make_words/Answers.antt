use Rattle.tk_keys.proofs.Words.{numbers_made}
use Rattle.tk_keys.proofs.state.make_words.Goals as goal

pub returns-clause-words : goal.returns-clause-words
returns-clause-words c = cc (c.in_ok-add.ensures.words, c.in_ok-add-2.ensures.words, c.in_ok-add-3.ensures.words)

pub returns-clause-made : goal.returns-clause-made
returns-clause-made c =
    numbers_made c.add.new.self c.add-2.new.self c.add-3.new.self c.in_ok-add.field-0 c.in_ok-add-2.field-0 c.in_ok-add-3.field-0
    c.in_ok-add.ensures.number c.in_ok-add-2.ensures.words c.in_ok-add-2.ensures.number c.in_ok-add-3.ensures.words c.in_ok-add-3.ensures.number
    c.in_ok-add-3.ensures.once
