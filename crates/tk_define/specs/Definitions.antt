-- Definitions of macros, read from behind their commands.
use Rattle.std.specs.Prelude.{ℕ, List, Ok}
use Rattle.tk_token.specs.declared.Code.TheVariants.{MacroSyntax}
use Rattle.tk_token.specs.declared.Tok.{Tok}
use Rattle.tk_token.specs.Answers.{Answer, ◌>>=◌, or_fault}
use Rattle.tk_token.specs.Groups.{group_of}
use Rattle.tk_token.specs.Kinds.{is_open, word_of}
use Rattle.tk_store.specs.Bodies.{body_of}
use Rattle.tk_store.specs.Levels.{Macros}
use Rattle.tk_expand.specs.Unread.{Unread, unread}
use Rattle.tk_expand.specs.Expand.{Stream, stream, full}
use Rattle.tk_expand.specs.Reading.{Read, read, after_token, token_value}
use Rattle.tk_define.specs.declared.DefinitionWord.{DefinitionWord}
use Rattle.tk_define.specs.declared.DefinitionWord.TheVariants.{Def, Edef, NewCommand}
use Rattle.tk_define.specs.declared.Definition.{Definition}
use Rattle.tk_define.specs.Heads.{parameters, name_of, count_of}

-- a body with so many arguments, whose `{` was read, and its `}`
unfoldable pub body_in : ℕ → Unread → Answer (Read (List Tok))
body_in args list = do
  group ← or_fault (group_of list.rest) MacroSyntax list.end
  body ← body_of args group.front
  Ok (read body (unread group.rest list.end))

-- a word stands for a body with so many arguments
abbrev pub stands_for : ℕ → ℕ → List Tok → Definition
stands_for word args body = record { word = word; value = record { args = args; body = body } }

-- `\def`: the word, its parameters, and its body, with no Space between them
unfoldable pub def : Unread → Answer (Read Definition)
def list = do
  name ← token_value MacroSyntax word_of list
  params ← parameters 0 9 name.list
  body ← body_in params.value params.list
  Ok (read (stands_for name.value params.value body.value) body.list)

-- `\newcommand`: the name, the number of its arguments, and its body
unfoldable pub new_command : Unread → Answer (Read Definition)
new_command list = do
  name ← name_of list
  count ← count_of name.list
  body ← body_in count.value count.list
  Ok (read (stands_for name.value count.value body.value) body.list)

-- a definition, and the stream behind it
pub record Defined : Type 0 where
  pub definition : Definition
  pub stream : Stream

-- a definition that costs nothing, where so many units are paid
abbrev pub for_nothing : ℕ → Answer (Read Definition) → Answer Defined
for_nothing units answer = do
  d ← answer
  Ok (record { definition = d.value; stream = stream units d.list })

-- `\edef`: the word, and its body, which has no parameters and is expanded with the macros of that moment
unfoldable pub edef : ℕ → Macros → Stream → Answer Defined
edef budget macros s = do
  name ← token_value MacroSyntax word_of s.list
  inside ← after_token MacroSyntax is_open name.list
  written ← body_in 0 inside
  text ← full budget macros (stream s.units (unread written.value s.list.end))
  Ok (record {
    definition = stands_for name.value 0 text.list.rest;
    stream = stream text.units written.list;
  })

-- the definition behind its command
abbrev pub defined : DefinitionWord → ℕ → Macros → Stream → Answer Defined
defined Def budget macros s = for_nothing s.units (def s.list)
defined NewCommand budget macros s = for_nothing s.units (new_command s.list)
defined Edef budget macros s = edef budget macros s
