-- Private: only private contracts use this. The numbers of the words that a run makes itself, and the keys that are
-- there from the beginning.
use Rattle.std.specs.Prelude.{◌≡◌, ℕ, List, [], codes}
use Rattle.std.specs.FinMap as finmap
use Rattle.tk_store.specs.declared.Entry.{Entry}
use Rattle.tk_store.specs.Levels.{Levels}
use Rattle.tk_keys.specs.Environment.{initial_entries, with_entries}
use Rattle.tk_keys.specs.declared.state.MadeWords.{MadeWords}
use Rattle.tk_token.specs.Words.{word_number}

-- the numbers are those of the words
pub record AreMade (names : List (List ℕ)) (made : MadeWords) : Type 0 where
  pub also : made.also ≡ word_number names (codes "pgfkeysalso")
  pub key : made.key ≡ word_number names (codes "pgfkeyscurrentkey")
  pub name : made.name ≡ word_number names (codes "pgfkeyscurrentname")

-- the current level has those entries too, one after another; no level was opened, no word got a macro, and the lowest
-- level counts no settings
pub record HasEntries (old new : Levels) (entries : List (List ℕ × Entry)) : Type 0 where
  pub outer : new.outer ≡ old.outer
  pub lowest : old.outer ≡ [] → new.top.settings ≡ old.top.settings
  pub macros : new.top.macros ≡ old.top.macros
  pub keys : new.top.keys ≡ with_entries old.top.keys entries

-- a store in which nothing was set
pub record IsFirstStore (also : ℕ) (store : Levels) : Type 0 where
  pub outer : store.outer ≡ []
  pub settings : store.top.settings ≡ 0
  pub macros : store.top.macros ≡ finmap.empty
  pub keys : store.top.keys ≡ with_entries finmap.empty (initial_entries also)
