use Rattle.std.proofs.Common.{◌≡◌, sym, ap, subst, ◌∙◌}
use Rattle.std.specs.Str.{chars, IsUtf8}
use Rattle.tk_token.specs.Cutting.{letters_of}
use Rattle.tk_token.proofs.Ascii.{letters_are_text}
use Rattle.tk_token.proofs.TextCharacters.{letters_boundary, letters_taken, letters_dropped}
use Rattle.tk_token.proofs.lexer.split_letters.Goals as goal

pub split_at-requires : goal.split_at-requires
split_at-requires c =
    letters_boundary c.args.text.now c.after_word-after.result.now c.utf8.text c.after_word-after.utf8 c.after_word-after.ensures.value

letters_are : (c : goal.After-split_at) → c.split_at.result.0.now ≡ letters_of (chars c.args.text.now)
letters_are c = c.split_at.ensures.front ∙ letters_taken c.args.text.now c.after_word-after.result.now c.utf8.text c.after_word-after.utf8
    c.after_word-after.ensures.value

after_is : (c : goal.After-split_at) → c.split_at.result.1.now ≡ c.after_word-after.result.now
after_is c = c.split_at.ensures.back ∙ letters_dropped c.args.text.now c.after_word-after.result.now c.utf8.text c.after_word-after.utf8
    c.after_word-after.ensures.value

pub returns-clause-letters : goal.returns-clause-letters
returns-clause-letters c = letters_are c

pub returns-clause-after : goal.returns-clause-after
returns-clause-after c = ap chars (after_is c) ∙ c.after_word-after.ensures.value

pub returns-clause-text : goal.returns-clause-text
returns-clause-text c =
    (subst IsUtf8 (sym (letters_are c)) (letters_are_text (chars c.args.text.now)), subst IsUtf8 (sym (after_is c)) c.after_word-after.utf8)
