-- The commands of a picture.
use Rattle.std.specs.Prelude.{ℕ, List, [], ◌∷◌, Option, Some, None, Ok, Err, codes, unwrap_or, slice_get}
use Rattle.std.specs.Map.{lookup}
use Rattle.std.specs.Str.{bytes_eq}
use Rattle.tk_token.specs.declared.Kind.{Kind}
use Rattle.tk_token.specs.declared.Kind.TheVariants.{Word, Open, Close}
use Rattle.tk_token.specs.declared.Tok.{Tok}
use Rattle.tk_token.specs.declared.Code.{Code}
use Rattle.tk_token.specs.declared.Code.TheVariants.{Budget, Unbuilt, UnknownCommand, EndMismatch}
use Rattle.tk_token.specs.Answers.{Answer, ◌>>=◌, fault, or_fault}
use Rattle.tk_token.specs.Recursion.{by_size}
use Rattle.tk_expand.specs.Reading.{after_name}
use Rattle.tk_expand.specs.Unread.{Unread}
use Rattle.tk_keys.specs.Environment.{level}
use Rattle.tk_keys.specs.Given.{Given}
use Rattle.tk_keys.specs.Settings.{Set, one_setting}
use Rattle.tk_path.specs.Flow.{Flow, Goes_on, Finishes, go_on}
use Rattle.tk_path.specs.Keys.{with_env, with_list, with_style_and_options}
use Rattle.tk_path.specs.Configurations.{Configuration, situation_at, work_at, ahead_of}
use Rattle.tk_picture.specs.Beginnings.{whole_path}
use Rattle.tk_picture.specs.Progress.{Progress, progress_at, with_progress}

-- what commands stand in, with its place: a picture, to its `\end{tikzpicture}`, a scope, to its `\end{scope}`, or a
-- group, to its `}`
pub data BlockOpener : Type 0 where
  A_picture : ℕ → BlockOpener
  A_scope : ℕ → BlockOpener
  A_group : ℕ → BlockOpener

-- where it stands
abbrev pub place_of_opener : BlockOpener → ℕ
place_of_opener (A_picture at) = at
place_of_opener (A_scope at) = at
place_of_opener (A_group at) = at

-- the name with which `\end` ends it
abbrev pub end_name : BlockOpener → Option (List ℕ)
end_name (A_picture at) = Some (codes "tikzpicture")
end_name (A_scope at) = Some (codes "scope")
end_name (A_group at) = None

-- what a token begins among the commands of a picture
pub data Beginning : Type 0 where
  -- a path, with the keys that its command stands for
  Begins_path : List ℕ → Beginning
  Opens_group : Beginning
  Closes_group : Beginning
  Begins_environment : Beginning
  Ends_environment : Beginning
  -- a command that isn't built
  Begins_later : Beginning
  -- a setting, or no command
  Begins_other : Beginning

-- each control word that begins or ends something, but for settings
abbrev pub commands_by_name : List (List ℕ × Beginning)
commands_by_name =
    (codes "path", Begins_path (codes ""))
    ∷ (codes "draw", Begins_path (codes "draw"))
    ∷ (codes "fill", Begins_path (codes "fill"))
    ∷ (codes "filldraw", Begins_path (codes "draw,fill"))
    ∷ (codes "begin", Begins_environment)
    ∷ (codes "end", Ends_environment)
    ∷ (codes "node", Begins_later)
    ∷ (codes "coordinate", Begins_later)
    ∷ (codes "foreach", Begins_later)
    ∷ []

-- what a control word begins
abbrev pub begun_by : List ℕ → Beginning
begun_by word = unwrap_or (lookup (bytes_eq word) commands_by_name) Begins_other

-- what a token begins
abbrev pub beginning_of : List (List ℕ) → Kind → Beginning
beginning_of names (Word n) = begun_by (unwrap_or (slice_get names n) [])
beginning_of names Open = Opens_group
beginning_of names Close = Closes_group
beginning_of names _ = Begins_other

-- commands, up to the end of what they stand in
pub record Block : Type 0 where
  pub opener : BlockOpener
  pub start : Configuration

-- those commands
abbrev pub block : BlockOpener → Configuration → Block
block opener start = record { opener = opener; start = start }

-- what a command leaves: more commands follow, or the end was met
abbrev pub CommandFlow : Type 0
CommandFlow = Flow Configuration Progress

-- the list behind a name in braces, or else a fault at a place
abbrev pub named_or : Code → ℕ → Answer Unread → Answer Unread
named_or code at (Ok list) = Ok list
named_or code at (Err f) = fault code at

-- the list behind an `\end` at a place, which has to end that
abbrev pub end_behind : ℕ → BlockOpener → Unread → Answer Unread
end_behind at opener list = do
  name ← or_fault (end_name opener) EndMismatch at
  named_or EndMismatch at (after_name EndMismatch name list)

-- the run goes on behind a setting
abbrev pub with_setting : Configuration → Set → Configuration
with_setting c set = record c { env = set.now.env; list = set.list; units = set.now.units }

-- a setting that stands there; nothing else is a command
abbrev pub set_or_unknown : ℕ → Configuration → Option Set → Answer CommandFlow
set_or_unknown at c None = fault UnknownCommand at
set_or_unknown at c (Some set) = Ok (Goes_on (with_setting c set))

module _ (given : Given) where
  module _ (commands : Block → Answer Progress) where
    -- a style and options, and the commands behind them
    abbrev pub styled_commands : List ℕ → BlockOpener → Configuration → Answer Progress
    styled_commands name opener c = do
      begun ← with_style_and_options given (place_of_opener opener) name c
      commands (block opener begun)

    -- what a command leaves, whose first token was taken
    abbrev pub command : Beginning → Tok → BlockOpener → Configuration → Answer CommandFlow
    command (Begins_path keys) t opener c = do
      inside ← level t.at c.env
      end ← whole_path given keys t.at (with_env inside c)
      Ok (Goes_on (with_progress c (progress_at end)))
    command Opens_group t opener c = do
      inside ← level t.at c.env
      group_behind ← commands (block (A_group t.at) (with_env inside c))
      Ok (Goes_on (with_progress c group_behind))
    command Closes_group t (A_group at) c = Ok (Finishes (progress_at c))
    command Closes_group t opener c = fault EndMismatch t.at
    command Begins_environment t opener c = do
      list ← named_or UnknownCommand t.at (after_name UnknownCommand (codes "scope") c.list)
      inside ← level t.at c.env
      scope_behind ← styled_commands (codes "every scope") (A_scope t.at) (with_env inside (with_list c list))
      Ok (Goes_on (with_progress c scope_behind))
    command Ends_environment t opener c = do
      list ← end_behind t.at opener c.list
      Ok (Finishes (progress_at (with_list c list)))
    command Begins_later t opener c = fault Unbuilt t.at
    command Begins_other t opener c = do
      set ← one_setting given t (situation_at c) c.list
      set_or_unknown t.at c set

    -- the same where the token is there; where the list runs out, what was opened is left open
    abbrev pub command_at : BlockOpener → Option Tok → Configuration → Answer CommandFlow
    command_at opener None c = fault EndMismatch (place_of_opener opener)
    command_at opener (Some t) c = command (beginning_of given.names t.kind) t opener c

    -- one command, and those that follow it
    abbrev pub commands_step : Block → Answer Progress
    commands_step b = do
      first ← ahead_of given b.start
      part ← command_at b.opener first.token first.behind
      go_on (λ next. commands (block b.opener next)) part

  -- the work that is left for commands
  abbrev pub block_work : Block → ℕ
  block_work b = work_at given b.start

  -- the picture behind the commands of a block
  unfoldable pub commands : Block → Answer Progress
  commands = by_size block_work (fault Budget 0) commands_step
