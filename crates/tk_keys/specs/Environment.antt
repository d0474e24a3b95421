-- What words and keys mean at a place of a run.
use Rattle.std.specs.Prelude.{ℕ, suc, nat_lt, if◌then◌else◌, List, [], ◌∷◌, ◌++◌, map, Some, Ok, codes}
use Rattle.std.specs.FinMap as finmap
use Rattle.tk_token.specs.declared.Code.TheVariants.{Levels, KeyDepth}
use Rattle.tk_token.specs.declared.Tok.{Tok}
use Rattle.tk_token.specs.Answers.{Answer, fault}
use Rattle.tk_token.specs.Texts.{tokens_of}
use Rattle.tk_native.specs.Natives.{natives, styles}
use Rattle.tk_store.specs.declared.Entry.{Entry}
use Rattle.tk_store.specs.declared.Macro.{Macro}
use Rattle.tk_store.specs.declared.Run.{Run}
use Rattle.tk_store.specs.declared.Run.TheVariants as runs
use Rattle.tk_store.specs.Levels.{Macros, Keys}
use Rattle.tk_keytext.specs.Entries.{no_entry, also_keys}
use Rattle.tk_keytext.specs.Paths.{full_path}
use Rattle.tk_look.specs.declared.GraphicsState.{GraphicsState}
use Rattle.tk_look.specs.Graphics.{initial_graphics, graphics_below}
use Rattle.tk_keys.specs.Given.{Given, also_word}

-- what words and keys mean at a place, where and how what follows is drawn, how many levels are open, and how many key
-- lists run
pub record Env : Type 0 where
  pub macros : Macros
  pub keys : Keys
  pub graphics : GraphicsState
  pub levels : ℕ
  pub lists : ℕ

-- ---- the beginning

-- the full path of a name below /tikz
abbrev pub tikz_path : List ℕ → List ℕ
tikz_path name = full_path (codes "/tikz") name

-- an entry that runs, and nothing else
abbrev pub running : Run → Entry
running run = record no_entry { run = Some run }

-- a style that stands for a key list: code with the word `pgfkeysalso`, whose tokens stand at place 0
abbrev pub style_for : ℕ → List ℕ → Run
style_for also list = runs.Code 1 (also_keys also 0 (tokens_of 0 list))

-- the keys and styles that are there from the beginning, by the number of the word `pgfkeysalso`
abbrev pub initial_entries : ℕ → List (List ℕ × Entry)
initial_entries also =
    map (λ row. (tikz_path row.0, running (runs.Native row.1))) natives
    ++ map (λ row. (tikz_path row.0, running (style_for also row.1))) styles

-- keys with those entries, one after another
abbrev pub with_entries : Keys → List (List ℕ × Entry) → Keys
with_entries keys [] = keys
with_entries keys (e ∷ entries) = with_entries (finmap.insert keys e.0 e.1) entries

-- no word has a macro, the keys are those that are there from the beginning, nothing is moved or set, no level is open,
-- and no key list runs
abbrev pub first_env : Given → Env
first_env given = record {
  macros = finmap.empty;
  keys = with_entries finmap.empty (initial_entries (also_word given));
  graphics = initial_graphics given.font;
  levels = 0;
  lists = 0;
}

-- ---- levels

-- one more level is open, in which what is drawn has no name yet: at most 128 are, and another is the fault Levels at
-- that place
abbrev pub level : ℕ → Env → Answer Env
level at env =
    if nat_lt env.levels 128
    then Ok (record env { graphics = graphics_below env.graphics; levels = suc env.levels })
    else fault Levels at

-- one more key list runs: at most 256 do, and another is the fault KeyDepth at that place
abbrev pub inner_list : ℕ → Env → Answer Env
inner_list at env = if nat_lt env.lists 256 then Ok (record env { lists = suc env.lists }) else fault KeyDepth at

-- a word has a macro from there on
abbrev pub with_macro : Env → ℕ → Macro → Env
with_macro env word value = record env { macros = finmap.insert env.macros word value }

-- a key has an entry from there on
abbrev pub with_entry : Env → List ℕ → Entry → Env
with_entry env path entry = record env { keys = finmap.insert env.keys path entry }

-- ---- along a run

-- what words and keys mean at a place of a run, and the units paid so far
pub record Situation : Type 0 where
  pub env : Env
  pub units : ℕ

-- so many units are paid
abbrev pub with_paid : Situation → ℕ → Situation
with_paid s units = record s { units = units }

-- a word stands for a text from there on
abbrev pub with_text : Situation → ℕ → List Tok → Situation
with_text s word text = record s { env = with_macro s.env word (record { args = 0; body = text }) }

-- what is drawn from there on is drawn so
abbrev pub with_graphics : Situation → GraphicsState → Situation
with_graphics s graphics = record s { env = record s.env { graphics = graphics } }

-- a key has an entry from there on
abbrev pub with_key : Situation → List ℕ → Entry → Situation
with_key s path entry = record s { env = with_entry s.env path entry }
