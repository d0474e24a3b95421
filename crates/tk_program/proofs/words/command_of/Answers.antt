use Rattle.std.proofs.Common.{string_bytes, Global, sym, ◌∙◌}
use Rattle.tk_program.proofs.Forms.{not_two, two_words_ask, asks_nothing}
use Rattle.tk_program.proofs.words.command_of.Goals as goal

pub returns-then-words-ne2-clause-command : goal.returns-then-words-ne2-clause-command
returns-then-words-ne2-clause-command c = not_two (string_bytes {Z = Global}) c.args.words.now c.if-words-ne2.true

pub returns-then-is_render-clause-command : goal.returns-then-is_render-clause-command
returns-then-is_render-clause-command c =
    two_words_ask (string_bytes {Z = Global}) c.args.words.now c.index-words-0.result c.index-words-1.result c.as_str-word.result.now
    c.as_str-file.result.now
    c.if-words-ne2.false c.index-words-0.is c.index-words-1.is c.as_str-word.ensures.value c.as_str-file.ensures.value (sym c.is_render.ensures
    ∙ c.if-is_render.true)

pub returns-else-is_render-clause-command : goal.returns-else-is_render-clause-command
returns-else-is_render-clause-command c =
    asks_nothing (string_bytes {Z = Global}) c.args.words.now c.index-words-0.result c.index-words-1.result c.as_str-word.result.now
    c.as_str-file.result.now
    c.if-words-ne2.false c.index-words-0.is c.index-words-1.is c.as_str-word.ensures.value c.as_str-file.ensures.value (sym c.is_render.ensures
    ∙ c.if-is_render.false)
