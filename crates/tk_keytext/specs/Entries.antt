-- What handlers make of the entry of a key (the PGF manual, section "Key Management", "Key Handlers").
use Rattle.std.specs.Prelude.{ℕ, List, [], ◌∷◌, ◌++◌, unwrap_or, Option, Some, None, Ok}
use Rattle.tk_token.specs.declared.Code.TheVariants.{HandlerValue}
use Rattle.tk_token.specs.declared.Kind.TheVariants.{Word, Open, Close}
use Rattle.tk_token.specs.declared.Tok.{Tok}
use Rattle.tk_token.specs.Answers.{Answer, ◌>>=◌, fault, or_fault}
use Rattle.tk_token.specs.Kinds.{one_word}
use Rattle.tk_store.specs.declared.Entry.{Entry}
use Rattle.tk_store.specs.declared.Need.TheVariants as needs
use Rattle.tk_store.specs.declared.Run.{Run}
use Rattle.tk_store.specs.declared.Run.TheVariants as runs
use Rattle.tk_store.specs.Bodies.{body_of}
use Rattle.tk_keytext.specs.declared.Handler.{Handler}
use Rattle.tk_keytext.specs.declared.Handler.TheVariants.{Code, CodeTwo, Style, StyleTwo, AppendStyle, PrefixStyle}
use Rattle.tk_keytext.specs.declared.Handler.TheVariants.{Default, ValueRequired, ValueForbidden, Initial, IsChoice}
use Rattle.tk_keytext.specs.declared.Handler.TheVariants.{StoreIn}

-- nothing runs, no value is stored, and a value may be there or not
abbrev pub no_entry : Entry
no_entry = record { run = None; value = None; need = needs.Free }

-- the same entry with that run
abbrev pub with_run : Run → Entry → Entry
with_run run entry = record entry { run = Some run }

-- the run of code with so many arguments
abbrev pub coded : ℕ → List Tok → Answer Run
coded args written = do
  body ← body_of args written
  Ok (runs.Code args body)

-- by the number of the word `pgfkeysalso`, and the place of a part of a key list
module _ (also at : ℕ) where
  -- a style as code: `\pgfkeysalso{..}`
  abbrev pub also_keys : List Tok → List Tok
  also_keys list =
      record { kind = Word also; at = at }
      ∷ record { kind = Open; at = at }
      ∷ (list ++ record { kind = Close; at = at } ∷ [])

  -- the run of code with so many arguments: a style, with other code before it and behind it
  abbrev pub styled : ℕ → List Tok → List Tok → List Tok → Answer Run
  styled args before list behind = do
    style ← body_of args (also_keys list)
    Ok (runs.Code args (before ++ style ++ behind))

  -- a run with a style put before it or behind it: where nothing runs, the style alone; of runs only code can have more
  abbrev pub restyled : Handler → Option Run → List Tok → Answer Run
  restyled _ None list = coded 1 (also_keys list)
  restyled PrefixStyle (Some (runs.Code args body)) list = styled args [] list body
  restyled _ (Some (runs.Code args body)) list = styled args body list []
  restyled _ (Some _) list = fault HandlerValue at

  -- the run that a handler makes of a value
  abbrev pub run_by : Handler → Option Run → List Tok → Answer Run
  run_by Code old v = coded 1 v
  run_by CodeTwo old v = coded 2 v
  run_by Style old v = coded 1 (also_keys v)
  run_by StyleTwo old v = coded 2 (also_keys v)
  run_by AppendStyle old v = restyled AppendStyle old v
  run_by PrefixStyle old v = restyled PrefixStyle old v
  run_by StoreIn old v = do
    word ← or_fault (one_word v) HandlerValue at
    Ok (runs.StoreIn word)
  run_by _ old v = fault HandlerValue at

  -- the entry that a handler makes of an entry and a value; some ask for no value
  abbrev pub entry_by : Handler → Entry → Option (List Tok) → Answer Entry
  entry_by ValueRequired old value = Ok (record old { need = needs.Required })
  entry_by ValueForbidden old value = Ok (record old { need = needs.Forbidden })
  entry_by IsChoice old value = Ok (with_run runs.Choice old)
  entry_by Default old value = do
    v ← or_fault value HandlerValue at
    Ok (record old { need = needs.Default v })
  entry_by Initial old value = do
    v ← or_fault value HandlerValue at
    Ok (record old { value = Some v })
  entry_by handler old value = do
    v ← or_fault value HandlerValue at
    run ← run_by handler old.run v
    Ok (with_run run old)

  -- the entry that a handler makes of what stands at a path, if anything does
  unfoldable pub edited : Handler → Option Entry → Option (List Tok) → Answer Entry
  edited handler old value = entry_by handler (unwrap_or old no_entry) value
