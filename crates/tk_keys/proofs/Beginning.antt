-- Where the tokens of the keys that are there from the beginning stand: at place 0.
use Rattle.std.specs.Prelude.{◌≡◌, ℕ, List, [], ◌∷◌, ◌++◌, map, Option, Some, None}
use Rattle.std.specs.FinMap as finmap
use Rattle.std.specs.FinMap.{get-empty}
use Rattle.std.specs.List.{AllByRecursion}
use Rattle.std.specs.Ordering.{nat_cmp}
use Rattle.std.specs.Cmp.Lexicographic.{slice_cmp}
use Rattle.std.proofs.Common.{sym, ◌∙◌}
use Rattle.tk_token.specs.Texts.{tokens_of}
use Rattle.tk_native.specs.declared.Native.{Native}
use Rattle.tk_native.specs.Natives.{natives, styles}
use Rattle.tk_store.specs.declared.Entry.{Entry}
use Rattle.tk_store.specs.declared.Macro.{Macro}
use Rattle.tk_store.specs.declared.Run.TheVariants as runs
use Rattle.tk_store.specs.Levels.{Keys}
use Rattle.tk_keys.specs.Environment.{tikz_path, running, style_for, initial_entries, with_entries, first_env}
use Rattle.tk_keys.specs.Given.{Given, also_word}
use Rattle.tk_look.proofs.Ranges.{initial_in}
use Rattle.tk_keys.proofs.Entries.{EntryAt, EntriesAt, EnvAt, entries_with, text_stands, also_at}

module _ (P : ℕ → Type 0) where
  abbrev AllAt : List (List ℕ × Entry) → Type 0
  AllAt entries = AllByRecursion (λ (e : List ℕ × Entry). EntryAt P e.1) entries

  set_at : (keys : Keys) (entries : List (List ℕ × Entry)) → EntriesAt P keys → AllAt entries → EntriesAt P (with_entries keys entries)
  set_at keys [] h k = h
  set_at keys (e ∷ es) h k = set_at (finmap.insert keys e.0 e.1) es (entries_with P keys e.0 e.1 h k.0) k.1

  joined : (es fs : List (List ℕ × Entry)) → AllAt es → AllAt fs → AllAt (es ++ fs)
  joined [] fs h k = k
  joined (e ∷ es) fs h k = (h.0, joined es fs h.1 k)

  natives_at : (rows : List (List ℕ × Native)) → AllAt (map (λ row. (tikz_path row.0, running (runs.Native row.1))) rows)
  natives_at [] = tt
  natives_at (r ∷ rows) = (record { run = tt; value = tt; need = tt }, natives_at rows)

  styles_at : (also : ℕ) → P 0 → (rows : List (List ℕ × List ℕ)) → AllAt (map (λ row. (tikz_path row.0, running (style_for also row.1))) rows)
  styles_at also p [] = tt
  styles_at also p (r ∷ rows) =
      (record { run = also_at P also 0 p (tokens_of 0 r.1) (text_stands P 0 r.1 p); value = tt; need = tt }, styles_at also p rows)

  none_at : EntriesAt P finmap.empty
  none_at path e is = (let none : ◌≡◌ {A = Option Entry} None (Some e) = sym (get-empty (slice_cmp nat_cmp) path) ∙ is in absurd cc)

  pub first_env_at : (given : Given) → P 0 → EnvAt P (first_env given)
  first_env_at given p = record {
    bodies = (λ w m is. (let none : ◌≡◌ {A = Option Macro} None (Some m) = sym (get-empty nat_cmp w) ∙ is in absurd cc));
    entries = set_at finmap.empty (initial_entries (also_word given)) none_at (joined (map (λ row. (tikz_path row.0, running (runs.Native row.1)))
        natives) (map (λ row. (tikz_path row.0, running (style_for (also_word given) row.1))) styles) (natives_at natives)
        (styles_at (also_word given) p styles));
    graphics = (λ out beyond. initial_in given.font);
  }
