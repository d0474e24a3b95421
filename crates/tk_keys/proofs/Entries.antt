-- Environments, texts and edited entries whose tokens all stand at certain places.
use Rattle.std.specs.Prelude.{◌≡◌, ℕ, Bool, true, false, cond, List, [], ◌∷◌, ◌++◌, map, Option, Some, None, Ok, IfSome, unwrap_or}
use Rattle.std.proofs.Common.{refl, sym, subst, ◌∙◌}
use Rattle.std.specs.Ordering.{nat_cmp, eq_by_cmp}
use Rattle.std.specs.Cmp.Lexicographic.{slice_cmp, nat_list_cmp_total}
use Rattle.std.specs.Str.{chars}
use Rattle.std.proofs.lemmas.Cmp.{nat_cmp_total}
use Rattle.std.specs.FinMap as map
use Rattle.std.specs.FinMap.{get-insert}
use Rattle.tk_token.specs.declared.Code.TheVariants.{HandlerValue}
use Rattle.tk_token.specs.declared.Tok.{Tok}
use Rattle.tk_token.specs.Answers.{◌>>=◌, or_fault}
use Rattle.tk_token.specs.Kinds.{one_word}
use Rattle.tk_token.specs.Texts.{kind_in_text, tokens_of}
use Rattle.tk_store.specs.declared.Entry.{Entry}
use Rattle.tk_store.specs.declared.Macro.{Macro}
use Rattle.tk_store.specs.declared.Need.{Need}
use Rattle.tk_store.specs.declared.Need.TheVariants as needs
use Rattle.tk_store.specs.declared.Run.{Run}
use Rattle.tk_store.specs.declared.Run.TheVariants as runs
use Rattle.tk_store.specs.Bodies.{body_of}
use Rattle.tk_store.specs.Levels.{Macros, Keys}
use Rattle.tk_expand.proofs.Places.{StandAt, Stands, BodiesAt, joined_at}
use Rattle.tk_keytext.specs.declared.Handler.{Handler}
use Rattle.tk_keytext.specs.declared.Handler.TheVariants.{Cd, Code, CodeTwo, Style, StyleTwo, AppendStyle, PrefixStyle, Default, ValueRequired}
use Rattle.tk_keytext.specs.declared.Handler.TheVariants.{ValueForbidden, Initial, IsChoice, StoreIn, Try}
use Rattle.tk_keytext.specs.Entries.{no_entry, with_run, coded, also_keys, styled, restyled, run_by, entry_by, edited}
use Rattle.tk_keys.specs.Environment.{Env, with_macro, with_entry}
use Rattle.tk_keys.proofs.Defining.{body_of_at}
use Rattle.tk_keys.proofs.Narrow.{IfNarrow}
use Rattle.tk_keys.proofs.Standing.{then_at}
use Rattle.tk_look.specs.Ranges.{IsInRange}

module _ (P : ℕ → Type 0) where
  -- ---- entries

  abbrev pub RunAt : Run → Type 0
  RunAt (runs.Code args body) = StandAt P body
  RunAt _ = Unit {0}

  abbrev pub NeedAt : Need → Type 0
  NeedAt (needs.Default v) = StandAt P v
  NeedAt _ = Unit {0}

  -- the tokens of an entry stand at such places
  pub record EntryAt (e : Entry) : Type 0 where
    pub run : IfSome e.run RunAt
    pub value : IfSome e.value (StandAt P)
    pub need : NeedAt e.need

  abbrev pub EntriesAt : Keys → Type 0
  EntriesAt keys = (path : List ℕ) (e : Entry) → map.get keys path ≡ Some e → EntryAt e

  -- the bodies of an environment stand at such places, and what is drawn in it is in range
  pub record EnvAt (env : Env) : Type 0 where
    pub bodies : BodiesAt P env.macros
    pub entries : EntriesAt env.keys
    pub graphics : IfNarrow P (IsInRange env.graphics)

  pub bodies_with : (macros : Macros) (word : ℕ) (value : Macro) → BodiesAt P macros → StandAt P value.body
      → BodiesAt P (map.insert macros word value)
  bodies_with macros word value h k q m is = by (eq_by_cmp nat_cmp q word) (sym (get-insert nat_cmp_total macros word value q) ∙ is)
    where
      by : (b : Bool) → cond b (Some value) (map.get macros q) ≡ Some m → StandAt P m.body
      by true e = (let same : value ≡ m = cc in subst (λ (m : Macro). StandAt P m.body) same k)
      by false e = h q m e

  pub entries_with : (keys : Keys) (path : List ℕ) (entry : Entry) → EntriesAt keys → EntryAt entry → EntriesAt (map.insert keys path entry)
  entries_with keys path entry h k q e is = by (eq_by_cmp (slice_cmp nat_cmp) q path) (sym (get-insert nat_list_cmp_total keys path entry q) ∙ is)
    where
      by : (b : Bool) → cond b (Some entry) (map.get keys q) ≡ Some e → EntryAt e
      by true same = (let eq : entry ≡ e = cc in subst EntryAt eq k)
      by false same = h q e same

  pub with_macro_at : (env : Env) (word : ℕ) (value : Macro) → EnvAt env → StandAt P value.body → EnvAt (with_macro env word value)
  with_macro_at env word value h k = record { bodies = bodies_with env.macros word value h.bodies k; entries = h.entries; graphics = h.graphics }

  pub with_entry_at : (env : Env) (path : List ℕ) (entry : Entry) → EnvAt env → EntryAt entry → EnvAt (with_entry env path entry)
  with_entry_at env path entry h k = record { bodies = h.bodies; entries = entries_with env.keys path entry h.entries k; graphics = h.graphics }

  pub known_entry : (keys : Keys) (path : List ℕ) → EntriesAt keys → IfSome (map.get keys path) EntryAt
  known_entry keys path h = by (map.get keys path) (h path)
    where
      by : (o : Option Entry) → ((e : Entry) → o ≡ Some e → EntryAt e) → IfSome o EntryAt
      by None k = tt
      by (Some e) k = k e refl

  -- ---- texts

  -- the tokens of a text stand at its place
  pub text_stands : (at : ℕ) (text : List ℕ) → P at → StandAt P (tokens_of at text)
  text_stands at text p = by (chars text)
    where
      by : (cs : List ℕ) → StandAt P (map (λ c. record { kind = kind_in_text c; at = at }) cs)
      by [] = tt
      by (c ∷ cs) = (p, by cs)

  -- ---- what handlers make

  module _ (also at : ℕ) (p : P at) where
    pub also_at : (list : List Tok) → StandAt P list → StandAt P (also_keys also at list)
    also_at list h = (p, (p, joined_at P list _ h (p, tt)))

    coded_at : (args : ℕ) (written : List Tok) → StandAt P written → Stands P RunAt (coded args written)
    coded_at args written h = then_at P (StandAt P) RunAt (body_of args written) _ (body_of_at P 0 0 args written h) (λ body k. k)

    styled_at : (args : ℕ) (before list behind : List Tok) → StandAt P before → StandAt P list → StandAt P behind
        → Stands P RunAt (styled also at args before list behind)
    styled_at args before list behind h k m =
        then_at P (StandAt P) RunAt (body_of args (also_keys also at list)) _ (body_of_at P 0 0 args (also_keys also at list) (also_at list k))
        (λ style l. joined_at P (before ++ style) behind (joined_at P before style h l) m)

    appended_at : (old : Option Run) (list : List Tok) → IfSome old RunAt → StandAt P list → Stands P RunAt (restyled also at AppendStyle old list)
    appended_at None list h k = coded_at 1 (also_keys also at list) (also_at list k)
    appended_at (Some (runs.Code args body)) list h k = styled_at args body list [] h k tt
    appended_at (Some (runs.Native n)) list h k = p
    appended_at (Some runs.Choice) list h k = p
    appended_at (Some (runs.StoreIn w)) list h k = p

    prefixed_at : (old : Option Run) (list : List Tok) → IfSome old RunAt → StandAt P list → Stands P RunAt (restyled also at PrefixStyle old list)
    prefixed_at None list h k = coded_at 1 (also_keys also at list) (also_at list k)
    prefixed_at (Some (runs.Code args body)) list h k = styled_at args [] list body tt k h
    prefixed_at (Some (runs.Native n)) list h k = p
    prefixed_at (Some runs.Choice) list h k = p
    prefixed_at (Some (runs.StoreIn w)) list h k = p

    stored_word : (o : Option ℕ) → Stands P RunAt (or_fault o HandlerValue at >>= λ word. Ok (runs.StoreIn word))
    stored_word None = p
    stored_word (Some w) = tt

    run_by_at : (handler : Handler) (old : Option Run) (list : List Tok) → IfSome old RunAt → StandAt P list
        → Stands P RunAt (run_by also at handler old list)
    run_by_at Code old list h k = coded_at 1 list k
    run_by_at CodeTwo old list h k = coded_at 2 list k
    run_by_at Style old list h k = coded_at 1 (also_keys also at list) (also_at list k)
    run_by_at StyleTwo old list h k = coded_at 2 (also_keys also at list) (also_at list k)
    run_by_at AppendStyle old list h k = appended_at old list h k
    run_by_at PrefixStyle old list h k = prefixed_at old list h k
    run_by_at StoreIn old list h k = stored_word (one_word list)
    run_by_at Cd old list h k = p
    run_by_at Default old list h k = p
    run_by_at ValueRequired old list h k = p
    run_by_at ValueForbidden old list h k = p
    run_by_at Initial old list h k = p
    run_by_at IsChoice old list h k = p
    run_by_at Try old list h k = p

    -- an entry with a run that a handler makes of its value
    remade_at : (handler : Handler) (old : Entry) (value : Option (List Tok)) → EntryAt old → IfSome value (StandAt P)
        → Stands P EntryAt (or_fault value HandlerValue at >>= λ v. run_by also at handler old.run v >>= λ run. Ok (with_run run old))
    remade_at handler old None h k = p
    remade_at handler old (Some v) h k =
        then_at P RunAt EntryAt (run_by also at handler old.run v) _ (run_by_at handler old.run v h.run k)
        (λ run l. record { run = l; value = h.value; need = h.need })

    defaulted_at : (old : Entry) (value : Option (List Tok)) → EntryAt old → IfSome value (StandAt P)
        → Stands P EntryAt (or_fault value HandlerValue at >>= λ v. Ok (record old { need = needs.Default v }))
    defaulted_at old None h k = p
    defaulted_at old (Some v) h k = record { run = h.run; value = h.value; need = k }

    initial_at : (old : Entry) (value : Option (List Tok)) → EntryAt old → IfSome value (StandAt P)
        → Stands P EntryAt (or_fault value HandlerValue at >>= λ v. Ok (record old { value = Some v }))
    initial_at old None h k = p
    initial_at old (Some v) h k = record { run = h.run; value = k; need = h.need }

    entry_by_at : (handler : Handler) (old : Entry) (value : Option (List Tok)) → EntryAt old → IfSome value (StandAt P)
        → Stands P EntryAt (entry_by also at handler old value)
    entry_by_at ValueRequired old value h k = record { run = h.run; value = h.value; need = tt }
    entry_by_at ValueForbidden old value h k = record { run = h.run; value = h.value; need = tt }
    entry_by_at IsChoice old value h k = record { run = tt; value = h.value; need = h.need }
    entry_by_at Default old value h k = defaulted_at old value h k
    entry_by_at Initial old value h k = initial_at old value h k
    entry_by_at Code old value h k = remade_at Code old value h k
    entry_by_at CodeTwo old value h k = remade_at CodeTwo old value h k
    entry_by_at Style old value h k = remade_at Style old value h k
    entry_by_at StyleTwo old value h k = remade_at StyleTwo old value h k
    entry_by_at AppendStyle old value h k = remade_at AppendStyle old value h k
    entry_by_at PrefixStyle old value h k = remade_at PrefixStyle old value h k
    entry_by_at StoreIn old value h k = remade_at StoreIn old value h k
    entry_by_at Cd old value h k = remade_at Cd old value h k
    entry_by_at Try old value h k = remade_at Try old value h k

    nothing_at : EntryAt no_entry
    nothing_at = record { run = tt; value = tt; need = tt }

    pub or_nothing_at : (old : Option Entry) → IfSome old EntryAt → EntryAt (unwrap_or old no_entry)
    or_nothing_at None h = nothing_at
    or_nothing_at (Some e) h = h

    pub edited_at : (handler : Handler) (old : Option Entry) (value : Option (List Tok)) → IfSome old EntryAt → IfSome value (StandAt P)
        → Stands P EntryAt (edited also at handler old value)
    unfolding edited
    edited_at handler old value h k = entry_by_at handler (unwrap_or old no_entry) value (or_nothing_at old h) k
