-- Entries by their places: what a write and its undoing make of them.
use Rattle.std.proofs.Common.{◌≡◌, ℕ, zero, suc, ◌+◌, ◌-◌, ◌<◌, Bool, true, false, cond, not, eqb, List, [], ◌∷◌, ◌++◌, length, take, slice_get}
use Rattle.std.proofs.Common.{Option, Some, None, IsSome, refl, sym, ap, ◌∙◌, arith}
use Rattle.std.specs.List.{position_or_len}
use Rattle.std.specs.Map.{lookup, keys_of, values_of}
use Rattle.std.specs.Option.{option_to_list}
use Rattle.std.proofs.Math.Seq.{take-append_seam}
use Rattle.std.proofs.lemmas.List.{length-append, append-nil}
use Rattle.indexmap.specs.IndexMap.{insert_entry, set_value_at}

module _ {K X : Type 0} where
  -- a value that was replaced is put back
  pub replaced_back : (es : List (K × X)) (i : ℕ) (v old : X) → slice_get (values_of es) i ≡ Some old
      → set_value_at (set_value_at es i v) i old ≡ es
  replaced_back [] i v old has = refl
  replaced_back (e ∷ es) zero v old has = let same : e.1 ≡ old = cc in ap (λ (x : X). (e.0, x) ∷ es) (sym same)
  replaced_back (e ∷ es) (suc i) v old has = ap (λ (fs : List (K × X)). e ∷ fs) (replaced_back es i v old has)

  -- an entry that came last is taken
  pub added_back : (es : List (K × X)) (e : K × X) → take (length (es ++ e ∷ []) - 1) (es ++ e ∷ []) ≡ es
  added_back es e =
      let fewer : length (es ++ e ∷ []) - 1 ≡ length es = omega (arith, length-append es (e ∷ [])) in
      ap (λ (n : ℕ). take n (es ++ e ∷ [])) fewer ∙ take-append_seam es (e ∷ [])

  -- at a place past the end nothing is written
  pub past_end : (es : List (K × X)) (i : ℕ) (v : X) → (i < length es → ⊥) → set_value_at es i v ≡ es
  past_end [] i v past = refl
  past_end (e ∷ es) zero v past = absurd (past (omega arith))
  past_end (e ∷ es) (suc i) v past = ap (λ (fs : List (K × X)). e ∷ fs) (past_end es i v (λ h. past (omega (arith, h))))

  -- the last entry is taken, where there is one
  pub last_taken : (es fs : List (K × X)) (last : Option (K × X)) → es ≡ fs ++ option_to_list last
      → (0 < length es → IsSome last) → fs ≡ take (length es - 1) es
  last_taken [] fs None are some = sym (are ∙ append-nil fs)
  last_taken (e ∷ es) fs None are some = let has = some (omega arith) in cc
  last_taken es fs (Some e) are some = sym (ap (λ (l : List (K × X)). take (length l - 1) l) are ∙ added_back fs e)

-- a value that an insertion replaced is put back
pub inserted_back : {X : Type 0} (es : List (ℕ × X)) (k : ℕ) (v old : X) → lookup (eqb k) es ≡ Some old
    → set_value_at (insert_entry eqb es k v) (position_or_len (eqb k) (keys_of es)) old ≡ es
inserted_back [] k v old has = absurd cc
inserted_back {X = X} (e ∷ es) k v old has = go (eqb k e.0) has (inserted_back es k v old)
  where
    go : (b : Bool) → cond b (Some e.1) (lookup (eqb k) es) ≡ Some old
        → (lookup (eqb k) es ≡ Some old → set_value_at (insert_entry eqb es k v) (position_or_len (eqb k) (keys_of es)) old ≡ es)
        → set_value_at (cond b ((e.0, v) ∷ es) (e ∷ insert_entry eqb es k v)) (cond (not b) (1 + position_or_len (eqb k) (keys_of es)) 0) old
        ≡ e ∷ es
    go true has more = let same : e.1 ≡ old = cc in ap (λ (x : X). (e.0, x) ∷ es) (sym same)
    go false has more =
        let next : 1 + position_or_len (eqb k) (keys_of es) ≡ suc (position_or_len (eqb k) (keys_of es)) = omega arith in
        ap (λ (n : ℕ). set_value_at (e ∷ insert_entry eqb es k v) n old) next ∙ ap (λ (fs : List (ℕ × X)). e ∷ fs) (more has)
