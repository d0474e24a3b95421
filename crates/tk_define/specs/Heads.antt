-- The heads of definitions: what stands between the command and the body.
use Rattle.std.specs.Prelude.{ℕ, zero, suc, ◌+◌, ◌==◌, if◌then◌else◌, Ok}
use Rattle.tk_token.specs.declared.Code.TheVariants.{MacroSyntax}
use Rattle.tk_token.specs.declared.Kind.{Kind}
use Rattle.tk_token.specs.declared.Kind.TheVariants.{Char, Word, Open}
use Rattle.tk_token.specs.declared.Tok.{Tok}
use Rattle.tk_token.specs.Answers.{Answer, ◌>>=◌, fault}
use Rattle.tk_characters.specs.Characters.{star, left_bracket, right_bracket}
use Rattle.tk_token.specs.Kinds.{is_char, is_open, is_close, is_param, word_of}
use Rattle.tk_store.specs.Bodies.{digit_of}
use Rattle.tk_expand.specs.Unread.{Unread, past_spaces}
use Rattle.tk_expand.specs.Reading.{Read, read, next_token, after_token, token_value}

-- the character of that digit
abbrev pub digit : ℕ → ℕ
digit n = 48 + n

-- ---- the parameters of `\def` (Knuth, TeX: The Program, sections 474 to 476, for parameters that nothing delimits)

-- The parameters, up to the `{` of the body: how many there are, where so many were read, and so many more can come.
unfoldable pub parameters : ℕ → ℕ → Unread → Answer (Read ℕ)
parameters count zero list = do
  inside ← after_token MacroSyntax is_open list
  Ok (read count inside)
parameters count (suc more) list = do
  next ← next_token MacroSyntax list
  if is_param next.value.kind
      then (do
        behind ← after_token MacroSyntax (is_char (digit (count + 1))) next.list
        parameters (suc count) more behind)
      else (do
        inside ← after_token MacroSyntax is_open list
        Ok (read count inside))

-- ---- the parts of `\newcommand`, before each of which Spaces may stand

-- the first token of the name: a `*` may stand before it
unfoldable pub name_start : Unread → Answer (Read Tok)
name_start list = do
  first ← next_token MacroSyntax (past_spaces list)
  if is_char star first.value.kind
      then next_token MacroSyntax (past_spaces first.list)
      else Ok first

-- the name in braces, whose `{` was read
unfoldable pub braced_name : Unread → Answer (Read ℕ)
braced_name list = do
  word ← token_value MacroSyntax word_of (past_spaces list)
  behind ← after_token MacroSyntax is_close (past_spaces word.list)
  Ok (read word.value behind)

-- the name that begins with a token of that kind, at that place
abbrev pub name_from : Kind → ℕ → Unread → Answer (Read ℕ)
name_from (Word w) at list = Ok (read w list)
name_from Open at list = braced_name list
name_from _ at list = fault MacroSyntax at

-- the name, plain or in braces
unfoldable pub name_of : Unread → Answer (Read ℕ)
name_of list = do
  first ← name_start list
  name_from first.value.kind first.value.at first.list

-- the number of arguments in brackets, whose `[` was read, up to the `{` of the body
unfoldable pub bracketed_count : Unread → Answer (Read ℕ)
bracketed_count list = do
  count ← token_value MacroSyntax digit_of (past_spaces list)
  behind ← after_token MacroSyntax (is_char right_bracket) (past_spaces count.list)
  inside ← after_token MacroSyntax is_open (past_spaces behind)
  Ok (read count.value inside)

-- the number of arguments that begins with a token of that kind, at that place; none is 0
abbrev pub count_from : Kind → ℕ → Unread → Answer (Read ℕ)
count_from Open at list = Ok (read 0 list)
count_from (Char c) at list =
    if c == left_bracket then bracketed_count list else fault MacroSyntax at
count_from _ at list = fault MacroSyntax at

-- the number of arguments, up to the `{` of the body
unfoldable pub count_of : Unread → Answer (Read ℕ)
count_of list = do
  first ← next_token MacroSyntax (past_spaces list)
  count_from first.value.kind first.value.at first.list
