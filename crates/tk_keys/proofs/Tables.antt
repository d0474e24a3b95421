-- Entries that are set one after another from a table.
use Rattle.std.specs.Prelude.{◌≡◌, ℕ, suc, ◌+◌, ◌<◌, ◌≤◌, List, [], ◌∷◌, ◌++◌, length, take, map}
use Rattle.std.specs.FinMap as finmap
use Rattle.std.proofs.Common.{refl, ap, sym, subst, arith, ◌∙◌, get_or}
use Rattle.std.proofs.Math.Seq.{take-suc}
use Rattle.std.proofs.lemmas.List.{map-append, take_all}
use Rattle.tk_store.specs.declared.Entry.{Entry}
use Rattle.tk_store.specs.Levels.{Levels, Keys, SetsKey}
use Rattle.tk_store.specs.declared.Run.{Run}
use Rattle.tk_keys.specs.Environment.{running, with_entries}
use Rattle.tk_keys.specs.Made.{HasEntries}

-- entries behind others
pub entries_behind : (keys : Keys) (es fs : List (List ℕ × Entry)) → with_entries keys (es ++ fs) ≡ with_entries (with_entries keys es) fs
entries_behind keys [] fs = refl
entries_behind keys (e ∷ es) fs = entries_behind (finmap.insert keys e.0 e.1) es fs

-- a key runs what is the same
pub runs_so : (now new : Levels) {path : List ℕ} {r q : Run} → r ≡ q → SetsKey now new path (running r) → SetsKey now new path (running q)
runs_so now new {path} is h = subst (λ (run : Run). SetsKey now new path (running run)) is h

-- none is set yet
pub none_set : (old : Levels) → HasEntries old old []
none_set old = record { outer = refl; lowest = λ _. refl; macros = refl; keys = refl }

-- those of one table are set behind those of another
pub both_set : (old now new : Levels) (es fs : List (List ℕ × Entry)) → HasEntries old now es → HasEntries now new fs
    → HasEntries old new (es ++ fs)
both_set old now new es fs h k = record {
  outer = k.outer ∙ h.outer;
  lowest = λ none. k.lowest (h.outer ∙ none) ∙ h.lowest none;
  macros = k.macros ∙ h.macros;
  keys = k.keys ∙ ap (λ (keys : Keys). with_entries keys fs) h.keys ∙ sym (entries_behind old.top.keys es fs);
}

-- one more is set
set_behind : (old now new : Levels) (es : List (List ℕ × Entry)) (e : List ℕ × Entry) → HasEntries old now es → SetsKey now new e.0 e.1
    → HasEntries old new (es ++ e ∷ [])
set_behind old now new es e h s = both_set old now new es (e ∷ []) h (record {
  outer = ap (λ (l : Levels). l.outer) s.levels;
  lowest = s.settings.lowest;
  macros = ap (λ (l : Levels). l.top.macros) s.levels;
  keys = ap (λ (l : Levels). l.top.keys) s.levels;
})

module _ {A : Type 0} (f : A → List ℕ × Entry) (old : Levels) (rows : List A) where
  -- the next row of a table is set
  pub next_set : (now new : Levels) (i : ℕ) (d : A) → i < length rows → HasEntries old now (map f (take i rows))
      → SetsKey now new (f (get_or rows i d)).0 (f (get_or rows i d)).1 → HasEntries old new (map f (take (i + 1) rows))
  next_set now new i d l h s =
      let one : i + 1 ≡ suc i = omega arith in
      let more = ap (λ (n : ℕ). map f (take n rows)) one ∙ ap (map f) (take-suc rows i d l) ∙ map-append f (take i rows) (get_or rows i d ∷ []) in
      rw more (set_behind old now new (map f (take i rows)) (f (get_or rows i d)) h s)

  -- the whole table is
  pub all_set : (now : Levels) (i : ℕ) → length rows ≤ i → HasEntries old now (map f (take i rows)) → HasEntries old now (map f rows)
  all_set now i l h = rw (sym (ap (map f) (take_all i rows l))) h
