-- Settings, which set something and draw nothing, and key lists, whose code is settings again.
use Rattle.std.specs.Prelude.{ℕ, ◌+◌, ◌-◌, ◌==◌, if◌then◌else◌, List, [], ◌∷◌, length, Option, Some, None, Ok, ℤ, pos}
use Rattle.std.specs.Prelude.{◌*ℤ◌, int_div, codes, unwrap_or, slice_get, option_and_then}
use Rattle.std.specs.FinMap as map
use Rattle.std.specs.Map.{lookup}
use Rattle.std.specs.Str.{bytes_eq}
use Rattle.tk_characters.specs.Characters.{semicolon}
use Rattle.tk_num.specs.Text.{pointed_text, text_of}
use Rattle.tk_token.specs.declared.Code.TheVariants.{MacroArg, MacroSyntax, UnknownKey, NotASetting, Budget}
use Rattle.tk_token.specs.declared.Kind.{Kind}
use Rattle.tk_token.specs.declared.Kind.TheVariants.{Char, Word, Space}
use Rattle.tk_token.specs.declared.Tok.{Tok}
use Rattle.tk_token.specs.Answers.{Answer, ◌>>=◌, fault, or_fault}
use Rattle.tk_token.specs.Groups.{group_of}
use Rattle.tk_token.specs.Kinds.{one_word, is_open}
use Rattle.tk_token.specs.Places.{end_of}
use Rattle.tk_token.specs.Recursion.{by_size}
use Rattle.tk_token.specs.Texts.{tokens_of}
use Rattle.tk_store.specs.declared.Entry.{Entry}
use Rattle.tk_expand.specs.Arguments.{argument_of}
use Rattle.tk_expand.specs.Expand.{Stream, stream, full}
use Rattle.tk_expand.specs.Reading.{Read, read, next}
use Rattle.tk_expand.specs.Unread.{Unread, unread}
use Rattle.tk_define.specs.declared.DefinitionWord.{DefinitionWord}
use Rattle.tk_define.specs.declared.DefinitionWord.TheVariants.{Def, Edef, NewCommand}
use Rattle.tk_define.specs.Definitions.{defined}
use Rattle.tk_keytext.specs.Entries.{no_entry}
use Rattle.tk_keytext.specs.Parts.{KeyPart, parts_of}
use Rattle.tk_keytext.specs.Paths.{full_path}
use Rattle.tk_keys.specs.declared.setting.Origin.{Origin}
use Rattle.tk_keys.specs.declared.setting.Origin.TheVariants.{Root, Here, Tikz}
use Rattle.tk_keys.specs.declared.setting.Setting.{Setting}
use Rattle.tk_keys.specs.declared.setting.Setting.TheVariants.{Nothing, Define, Keys, SetValue, GetValue, SetNumber}
use Rattle.tk_keys.specs.declared.setting.Setting.TheVariants.{SetWhole}
use Rattle.tk_keys.specs.Environment.{Env, level, inner_list, with_macro, Situation, with_paid, with_text, with_key}
use Rattle.tk_keys.specs.Given.{Given}
use Rattle.tk_keys.specs.Keys.{part, expanded_name}

-- ---- what begins a setting

-- each control word that begins a setting
abbrev pub settings : List (List ℕ × Setting)
settings =
    (codes "def", Define Def)
    ∷ (codes "edef", Define Edef)
    ∷ (codes "newcommand", Define NewCommand)
    ∷ (codes "renewcommand", Define NewCommand)
    ∷ (codes "pgfkeys", Keys Root)
    ∷ (codes "pgfkeysalso", Keys Here)
    ∷ (codes "tikzset", Keys Tikz)
    ∷ (codes "pgfkeyssetvalue", SetValue)
    ∷ (codes "pgfkeysgetvalue", GetValue)
    ∷ (codes "pgfmathsetmacro", SetNumber)
    ∷ (codes "pgfmathtruncatemacro", SetWhole)
    ∷ (codes "relax", Nothing)
    ∷ []

-- the setting that a control word begins
abbrev pub setting_by : List ℕ → Option Setting
setting_by word = lookup (bytes_eq word) settings

-- the setting that a token begins; a Space and `;` set nothing
abbrev pub setting_of : List (List ℕ) → Kind → Option Setting
setting_of names (Word n) = setting_by (unwrap_or (slice_get names n) [])
setting_of names (Char c) = if c == semicolon then Some Nothing else None
setting_of names Space = Some Nothing
setting_of names _ = None

-- ---- among settings

-- where a run ends: the situation, and the default path
pub record Ending : Type 0 where
  pub now : Situation
  pub dir : List ℕ

-- the same where so many key lists run
abbrev pub with_lists : Ending → ℕ → Ending
with_lists e lists = record e { now = record e.now { env = record e.now.env { lists = lists } } }

-- where a run stands: the situation, the default path, and the list that it reads
pub record Standing : Type 0 where
  pub now : Situation
  pub dir : List ℕ
  pub list : Unread

-- those three
abbrev pub standing : Situation → List ℕ → Unread → Standing
standing s dir list = record { now = s; dir = dir; list = list }

-- the list as a stream
abbrev pub stream_here : Standing → Stream
stream_here st = stream st.now.units st.list

-- the run stands behind that stream
abbrev pub standing_behind : Standing → Stream → Standing
standing_behind st s = standing (with_paid st.now s.units) st.dir s.list

-- what a setting leaves with which the default path stays: the situation, and the tokens behind it
pub record Set : Type 0 where
  pub now : Situation
  pub list : Unread

-- those two
abbrev pub set_behind : Situation → Unread → Set
set_behind now list = record { now = now; list = list }

-- the run stands behind that setting, with that default path
abbrev pub with_dir : List ℕ → Answer Set → Answer Standing
with_dir dir answer = do
  set ← answer
  Ok (standing set.now dir set.list)

-- an argument of the command at a place
abbrev pub argument : ℕ → Unread → Answer (Read (List Tok))
argument at list = do
  found ← or_fault (argument_of list.rest) MacroArg at
  Ok (read found.front (unread found.rest list.end))

-- an argument that is one control word
abbrev pub word_argument : ℕ → Unread → Answer (Read ℕ)
word_argument at list = do
  text ← argument at list
  word ← or_fault (one_word text.value) MacroSyntax at
  Ok (read word text.list)

-- ---- default paths

-- the default path that a key list begins with
abbrev pub begins_at : Origin → List ℕ → List ℕ
begins_at Root dir = []
begins_at Tikz dir = codes "/tikz"
begins_at Here dir = dir

-- the default path behind a key list that ends with another: only `\pgfkeysalso` gives that on
abbrev pub dir_behind : Origin → List ℕ → List ℕ → List ℕ
dir_behind Here dir last = last
dir_behind _ dir last = dir

-- ---- values

-- the value that is stored at a path
abbrev pub stored_at : Env → List ℕ → Option (List Tok)
stored_at env path = option_and_then (λ (e : Entry). e.value) (map.get env.keys path)

-- a value is stored at a path; nothing else of the entry changes
abbrev pub with_value : Situation → List ℕ → List Tok → Situation
with_value s path value = with_key s path (record (unwrap_or (map.get s.env.keys path) no_entry) { value = Some value })

-- the text of the whole part of so many 65536ths: `-2` for -2.5, and `0` for -0.5
abbrev pub whole_text : ℤ → List ℕ
whole_text z = text_of (int_div z (pos 65536) *ℤ pos 65536)

-- the full path of a key that an argument names, the situation behind the name, and the list behind the argument
pub record KeyRead : Type 0 where
  pub path : List ℕ
  pub now : Situation
  pub list : Unread

-- the value of an expression, and the units behind it
pub record ExpressionValue : Type 0 where
  pub value : ℤ
  pub units : ℕ

-- what is run: a key list with its default path, whose command stands at a place, or settings
pub data Runnable : Type 0 where
  A_key_list : Situation → List ℕ → List Tok → ℕ → Runnable
  Some_settings : Standing → Runnable

module _ (given : Given) where
  -- a definition, whose command was taken
  abbrev pub define : DefinitionWord → Situation → Unread → Answer Set
  define kind s list = do
    d ← defined kind given.budget s.env.macros (stream s.units list)
    let env = with_macro s.env d.definition.word d.definition.value
    Ok (set_behind (record { env = env; units = d.stream.units }) d.stream.list)

  -- an argument that is the name of a key
  abbrev pub key_argument : ℕ → List ℕ → Situation → Unread → Answer KeyRead
  key_argument at dir s list = do
    text ← argument at list
    name ← expanded_name given UnknownKey at text.value s
    Ok (record { path = full_path dir name.name; now = name.now; list = text.list })

  -- `\pgfkeyssetvalue{k}{v}`: a value is stored
  abbrev pub set_value : ℕ → List ℕ → Situation → Unread → Answer Set
  set_value at dir s list = do
    key ← key_argument at dir s list
    text ← argument at key.list
    Ok (set_behind (with_value key.now key.path text.value) text.list)

  -- `\pgfkeysgetvalue{k}\m`: a word stands for the value that is stored
  abbrev pub get_value : ℕ → List ℕ → Situation → Unread → Answer Set
  get_value at dir s list = do
    key ← key_argument at dir s list
    value ← or_fault (stored_at key.now.env key.path) UnknownKey at
    word ← word_argument at key.list
    Ok (set_behind (with_text key.now word.value value) word.list)

  -- the value of an expression, once it is expanded
  abbrev pub expression_value : ℕ → List Tok → Situation → Answer ExpressionValue
  expression_value at list s = do
    expanded ← full given.budget s.env.macros (stream s.units (unread list at))
    found ← given.evaluate given.font at expanded.list.rest
    Ok (record { value = found.number; units = expanded.units })

  -- `\pgfmathsetmacro\m{e}` and `\pgfmathtruncatemacro\m{e}`: a word stands for the text of an expression's value
  abbrev pub set_number : (ℤ → List ℕ) → ℕ → Situation → Unread → Answer Set
  set_number written at s list = do
    word ← word_argument at list
    text ← argument at word.list
    found ← expression_value at text.value s
    Ok (set_behind (with_text (with_paid s found.units) word.value (tokens_of at (written found.value))) text.list)

  module _ (runs : Runnable → Answer Ending) where
    -- ---- settings

    -- `\pgfkeys`, `\tikzset` and `\pgfkeysalso`: a key list
    abbrev pub set_keys : Origin → ℕ → Standing → Answer Standing
    set_keys origin at st = do
      list ← argument at st.list
      after ← runs (A_key_list st.now (begins_at origin st.dir) list.value at)
      Ok (standing after.now (dir_behind origin st.dir after.dir) list.list)

    -- a setting, whose first token was taken
    abbrev pub set : Setting → ℕ → Standing → Answer Standing
    set Nothing at st = Ok st
    set (Define kind) at st = with_dir st.dir (define kind st.now st.list)
    set (Keys origin) at st = set_keys origin at st
    set SetValue at st = with_dir st.dir (set_value at st.dir st.now st.list)
    set GetValue at st = with_dir st.dir (get_value at st.dir st.now st.list)
    set SetNumber at st = with_dir st.dir (set_number pointed_text at st.now st.list)
    set SetWhole at st = with_dir st.dir (set_number whole_text at st.now st.list)

    -- A group, whose `{` was taken: its contents are a list of their own, and only the units come back from it. So `\m`
    -- is the same behind `{\def\m{2}}` as before it, and so is the default path behind `{\pgfkeysalso{/a/.cd}}`.
    abbrev pub group : ℕ → Standing → Answer Standing
    group at st = do
      contents ← or_fault (group_of st.list.rest) NotASetting at
      inside ← level at st.now.env
      after ← runs (Some_settings (standing (record st.now { env = inside }) st.dir
          (unread contents.front (end_of at contents.front))))
      Ok (standing (with_paid st.now after.now.units) st.dir (unread contents.rest st.list.end))

    -- what begins with a token, which was taken: a setting or a group
    abbrev pub set_or_group : Option Setting → Tok → Standing → Answer Standing
    set_or_group (Some setting) t st = set setting t.at st
    set_or_group None t st = if is_open t.kind then group t.at st else fault NotASetting t.at

    -- the same where a token is there, and the settings behind it
    abbrev pub settings_from : Option Tok → Standing → Answer Ending
    settings_from None st = Ok (record { now = st.now; dir = st.dir })
    settings_from (Some t) st = do
      behind ← set_or_group (setting_of given.names t.kind) t st
      runs (Some_settings behind)

    -- settings up to the end of their list
    abbrev pub all_settings : Standing → Answer Ending
    all_settings st = do
      ahead ← next given.budget st.now.env.macros (stream_here st)
      settings_from ahead.token (standing_behind st ahead.stream)

    -- ---- key lists

    -- what a part leaves, once its text was run, which runs out at its last token, or at the part
    abbrev pub text_run : ℕ → Option (List Tok) → List ℕ → Situation → Answer Ending
    text_run at None dir s = Ok (record { now = s; dir = dir })
    text_run at (Some text) dir s = runs (Some_settings (standing s dir (unread text (end_of at text))))

    -- a part, and the text that it leaves
    abbrev pub part_run : KeyPart → List ℕ → Situation → Answer Ending
    part_run p dir s = do
      effect ← part given p dir s
      text_run p.at effect.deed.text effect.dir effect.deed.now

    -- the parts one after the other
    unfoldable pub parts : List KeyPart → List ℕ → Situation → Answer Ending
    parts [] dir s = Ok (record { now = s; dir = dir })
    parts (p ∷ ps) dir s = do
      after ← part_run p dir s
      parts ps after.dir after.now

    -- a key list: while it runs, one more does
    abbrev pub key_list : Situation → List ℕ → List Tok → ℕ → Answer Ending
    key_list s dir list at = do
      inside ← inner_list at s.env
      after ← parts (parts_of list) dir (record s { env = inside })
      Ok (with_lists after s.env.lists)

    -- one step, over the runs that have less work left
    abbrev pub run_step : Runnable → Answer Ending
    run_step (A_key_list s dir list at) = key_list s dir list at
    run_step (Some_settings st) = all_settings st

  -- the work that is left for a run: the units that can still be paid, and the tokens
  abbrev pub work_of : Runnable → ℕ
  work_of (A_key_list s dir list at) = (given.budget - s.units) + length list
  work_of (Some_settings st) = (given.budget - st.now.units) + length st.list.rest

  -- where a run ends
  unfoldable pub runs : Runnable → Answer Ending
  runs = by_size work_of (fault Budget 0) run_step

  -- ---- one setting

  -- outside key lists the default path is the root, and ends with the setting
  abbrev pub set_alone : Option Setting → ℕ → Situation → Unread → Answer (Option Set)
  set_alone None at s list = Ok None
  set_alone (Some setting) at s list = do
    st ← set runs setting at (standing s [] list)
    Ok (Some (set_behind st.now st.list))

  -- the setting, other than a group, that begins with a token, which was taken; with other tokens none begins
  unfoldable pub one_setting : Tok → Situation → Unread → Answer (Option Set)
  one_setting t s list = set_alone (setting_of given.names t.kind) t.at s list
