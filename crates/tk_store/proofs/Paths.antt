-- Keys whose paths are texts, by the bytes of these.
use Rattle.std.proofs.Common.{◌≡◌, ℕ, zero, suc, ◌+◌, Bool, true, false, cond, not, List, [], ◌∷◌, ◌++◌, slice_get, position, Option, Some, None}
use Rattle.std.proofs.Common.{IsSome, is_some, String, refl, sym, ap, ◌∙◌, arith}
use Rattle.std.specs.String.{string_bytes}
use Rattle.std.specs.Str.{bytes_eq}
use Rattle.std.specs.List.{position_or_len}
use Rattle.std.specs.Map.{lookup, keys_of, values_of}
use Rattle.std.proofs.lemmas.List.{map-append}
use Rattle.indexmap.specs.IndexMap.{insert_entry, set_value_at}
use Rattle.indexmap.proofs.MapLemmas.{Found-position, absent_from_lookup, insert_entry-absent}
use Rattle.tk_store.specs.declared.Entry.{Entry}
use Rattle.tk_store.specs.Paths.{by_bytes}
use Rattle.tk_store.proofs.Places.{replaced_back}

module _ {A : Type 0} where
  -- a write at a place
  pub written_at : (es : List (String A × Entry)) (i : ℕ) (entry : Entry)
      → by_bytes (set_value_at es i entry) ≡ set_value_at (by_bytes es) i entry
  written_at [] i entry = refl
  written_at (e ∷ es) zero entry = refl
  written_at (e ∷ es) (suc i) entry =
      ap (λ (fs : List (List ℕ × Entry)). (string_bytes e.0, e.1) ∷ fs) (written_at es i entry)

  values_stay : (es : List (String A × Entry)) → values_of (by_bytes es) ≡ values_of es
  values_stay [] = refl
  values_stay (e ∷ es) = ap (λ (vs : List Entry). e.1 ∷ vs) (values_stay es)

  module _ (path : List ℕ) where
    -- whether it is the path
    abbrev pub at_path : String A → Bool
    at_path k = bytes_eq path (string_bytes k)

    -- a path is found by its bytes
    pub path_found : (es : List (String A × Entry)) → lookup (bytes_eq path) (by_bytes es) ≡ lookup at_path es
    path_found [] = refl
    path_found (e ∷ es) = ap (cond (at_path e.0) (Some e.1)) (path_found es)

    -- an entry that is set where there was one stands at its place
    written_first : (es : List (String A × Entry)) (entry : Entry) → IsSome (lookup at_path es)
        → insert_entry bytes_eq (by_bytes es) path entry ≡ set_value_at (by_bytes es) (position_or_len at_path (keys_of es)) entry
    written_first [] entry there = absurd cc
    written_first (e ∷ es) entry there = go (at_path e.0) there (written_first es entry)
      where
        go : (b : Bool) → IsSome (cond b (Some e.1) (lookup at_path es))
            → (IsSome (lookup at_path es)
            → insert_entry bytes_eq (by_bytes es) path entry ≡ set_value_at (by_bytes es) (position_or_len at_path (keys_of es)) entry)
            → cond b ((string_bytes e.0, entry) ∷ by_bytes es) ((string_bytes e.0, e.1) ∷ insert_entry bytes_eq (by_bytes es) path entry)
            ≡ set_value_at (by_bytes (e ∷ es)) (cond (not b) (1 + position_or_len at_path (keys_of es)) 0) entry
        go true there more = refl
        go false there more =
            let next : suc (position_or_len at_path (keys_of es)) ≡ 1 + position_or_len at_path (keys_of es) = omega arith in
            ap (λ (fs : List (List ℕ × Entry)). (string_bytes e.0, e.1) ∷ fs) (more there)
            ∙ ap (λ (n : ℕ). set_value_at (by_bytes (e ∷ es)) n entry) next

    -- so does one that is written at the place where the path was found
    pub set_at_place : (es : List (String A × Entry)) (place : ℕ) (old entry : Entry)
        → position at_path (keys_of es) ≡ Some place
        → slice_get (values_of es) place ≡ Some old
        → by_bytes (set_value_at es place entry) ≡ insert_entry bytes_eq (by_bytes es) path entry
    set_at_place es place old entry found has =
        let at = Found-position at_path es place found in
        written_at es place entry
        ∙ ap (λ (n : ℕ). set_value_at (by_bytes es) n entry) (sym at.or_len)
        ∙ sym (written_first es entry (ap is_some (at.value ∙ has)))

    -- and what it replaced undoes it there
    pub unset_at_place : (es : List (String A × Entry)) (place : ℕ) (old entry : Entry)
        → slice_get (values_of es) place ≡ Some old
        → set_value_at (by_bytes (set_value_at es place entry)) place old ≡ by_bytes es
    unset_at_place es place old entry has =
        ap (λ (fs : List (List ℕ × Entry)). set_value_at fs place old) (written_at es place entry)
        ∙ replaced_back (by_bytes es) place entry old (ap (λ (vs : List Entry). slice_get vs place) (values_stay es) ∙ has)

    -- a new one comes last
    pub added_last : (es : List (String A × Entry)) (k : String A) (entry : Entry) → string_bytes k ≡ path
        → by_bytes (es ++ (k, entry) ∷ []) ≡ by_bytes es ++ (path, entry) ∷ []
    added_last es k entry is =
        map-append _ es ((k, entry) ∷ []) ∙ ap (λ (p : List ℕ). by_bytes es ++ (p, entry) ∷ []) is

    -- as where no key has the path
    pub set_at_end : (es : List (String A × Entry)) (entry : Entry) → lookup (bytes_eq path) (by_bytes es) ≡ None
        → by_bytes es ++ (path, entry) ∷ [] ≡ insert_entry bytes_eq (by_bytes es) path entry
    set_at_end es entry none =
        sym (insert_entry-absent bytes_eq path entry (by_bytes es) (absent_from_lookup (bytes_eq path) (by_bytes es) none))

    pub not_there : (es : List (String A × Entry)) → is_some (lookup at_path es) ≡ false → lookup (bytes_eq path) (by_bytes es) ≡ None
    not_there es none = path_found es ∙ go (lookup at_path es) none
      where
        go : (o : Option Entry) → is_some o ≡ false → o ≡ None
        go None h = refl
        go (Some x) h = absurd cc
