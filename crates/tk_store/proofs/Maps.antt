-- Entries in the order of insertion as finite maps.
use Rattle.std.proofs.Common.{◌≡◌, ℕ, Bool, true, false, cond, eqb, List, [], ◌∷◌, Option, Some, refl, sym, ap, ◌∙◌, arith}
use Rattle.std.specs.Ordering.{nat_cmp, eq_by_cmp}
use Rattle.std.specs.declared.cmp.Ordering.{Ordering}
use Rattle.std.specs.Cmp.{IsTotalOrder, nat_cmp_total, eq_by_cmp_equiv}
use Rattle.std.specs.Cmp.Lexicographic.{slice_cmp, nat_list_cmp_total}
use Rattle.std.specs.Map.{lookup}
use Rattle.std.specs.Str.{bytes_eq}
use Rattle.std.specs.FinMap as map
use Rattle.std.specs.FinMap.{IsAntisymmetric, find, get-from_entries, get-insert, same_map, nat_cmp-IsAntisymmetric, slice_cmp-IsAntisymmetric}
use Rattle.std.proofs.lemmas.Bool.Decides.{nat_tests}
use Rattle.std.proofs.lemmas.Map.Text.{is_eq-slice_cmp}
use Rattle.indexmap.specs.IndexMap.{insert_entry}

module _ {K X : Type 0} {R : K → K → Ordering} (total : IsTotalOrder R) (exact : IsAntisymmetric R) where
  find_is : (q : K) (es : List (K × X)) → find R q es ≡ lookup (eq_by_cmp R q) es
  find_is q [] = refl
  find_is q (e ∷ es) = ap (cond (eq_by_cmp R q e.0) (Some e.1)) (find_is q es)

  -- what the map of the entries has at a key
  get_is : (es : List (K × X)) (q : K) → map.get (map.from_entries {R = R} es) q ≡ lookup (eq_by_cmp R q) es
  get_is es q = get-from_entries total es q ∙ find_is q es

  module _ (k : K) (v : X) (q : K) where
    -- an entry that is set hides what its key had
    hides : (a b : Bool) → a ≡ b → (old new : Option X) → cond a (Some v) new ≡ cond b (Some v) (cond a old new)
    hides true true h old new = refl
    hides false false h old new = refl
    hides true false h old new = absurd cc
    hides false true h old new = absurd cc

    -- and leaves those of other keys
    leaves : (a b : Bool) → (a ≡ true → b ≡ true → ⊥) → (old new : Option X)
        → cond a old (cond b (Some v) new) ≡ cond b (Some v) (cond a old new)
    leaves true true h old new = absurd (h refl refl)
    leaves true false h old new = refl
    leaves false b h old new = refl

    -- what is found once a key has an entry
    lookup_inserted : (es : List (K × X))
        → lookup (eq_by_cmp R q) (insert_entry (eq_by_cmp R) es k v) ≡ cond (eq_by_cmp R q k) (Some v) (lookup (eq_by_cmp R q) es)
    lookup_inserted [] = refl
    lookup_inserted (e ∷ es) = go (eq_by_cmp R k e.0) refl (lookup_inserted es)
      where
        laws : (a b c : K) → eq_by_cmp R a b ≡ true → eq_by_cmp R c b ≡ eq_by_cmp R c a
        laws a b c same =
            (eq_by_cmp_equiv total).symm c b ∙ sym ((eq_by_cmp_equiv total).congr a b c same) ∙ (eq_by_cmp_equiv total).symm a c

        go : (b : Bool) → eq_by_cmp R k e.0 ≡ b
            → lookup (eq_by_cmp R q) (insert_entry (eq_by_cmp R) es k v) ≡ cond (eq_by_cmp R q k) (Some v) (lookup (eq_by_cmp R q) es)
            → lookup (eq_by_cmp R q) (cond b ((e.0, v) ∷ es) (e ∷ insert_entry (eq_by_cmp R) es k v))
            ≡ cond (eq_by_cmp R q k) (Some v) (lookup (eq_by_cmp R q) (e ∷ es))
        go true same more = hides (eq_by_cmp R q e.0) (eq_by_cmp R q k) (laws k e.0 q same) (Some e.1) (lookup (eq_by_cmp R q) es)
        go false other more =
            ap (cond (eq_by_cmp R q e.0) (Some e.1)) more
            ∙ leaves (eq_by_cmp R q e.0) (eq_by_cmp R q k)
            (λ a b. let same : eq_by_cmp R k e.0 ≡ true = sym ((eq_by_cmp_equiv total).congr q k e.0 b) ∙ a in cc)
            (Some e.1) (lookup (eq_by_cmp R q) es)

  -- entries of which one is set are the map with that key set
  inserted_is : (es : List (K × X)) (k : K) (v : X)
      → map.from_entries {R = R} (insert_entry (eq_by_cmp R) es k v) ≡ map.insert (map.from_entries es) k v
  inserted_is es k v = same_map total exact _ _ (λ q.
      get_is (insert_entry (eq_by_cmp R) es k v) q
      ∙ lookup_inserted k v q es
      ∙ ap (cond (eq_by_cmp R q k) (Some v)) (sym (get_is es q))
      ∙ sym (get-insert total (map.from_entries es) k v q))

-- ---- numbers

same_number : (a b : ℕ) → eq_by_cmp nat_cmp a b ≡ eqb a b
same_number a b = grind (arith, nat_tests)

module _ {X : Type 0} where
  pub number_found : (es : List (ℕ × X)) (q : ℕ) → map.get (map.from_entries {R = nat_cmp} es) q ≡ lookup (eqb q) es
  number_found es q = get_is nat_cmp_total nat_cmp-IsAntisymmetric es q ∙ (λ i. lookup (λ k. same_number q k i) es)

  pub number_inserted : (es : List (ℕ × X)) (k : ℕ) (v : X)
      → map.from_entries {R = nat_cmp} (insert_entry eqb es k v) ≡ map.insert (map.from_entries es) k v
  number_inserted es k v =
      (λ i. map.from_entries {R = nat_cmp} (insert_entry (λ a b. sym (same_number a b) i) es k v))
      ∙ inserted_is nat_cmp_total nat_cmp-IsAntisymmetric es k v

  -- ---- texts

  pub text_found : (es : List (List ℕ × X)) (q : List ℕ)
      → map.get (map.from_entries {R = slice_cmp nat_cmp} es) q ≡ lookup (bytes_eq q) es
  text_found es q =
      get_is nat_list_cmp_total (slice_cmp-IsAntisymmetric nat_cmp-IsAntisymmetric) es q
      ∙ (λ i. lookup (λ k. is_eq-slice_cmp q k i) es)

  pub text_inserted : (es : List (List ℕ × X)) (k : List ℕ) (v : X)
      → map.from_entries {R = slice_cmp nat_cmp} (insert_entry bytes_eq es k v) ≡ map.insert (map.from_entries es) k v
  text_inserted es k v =
      (λ i. map.from_entries {R = slice_cmp nat_cmp} (insert_entry (λ a b. sym (is_eq-slice_cmp a b) i) es k v))
      ∙ inserted_is nat_list_cmp_total (slice_cmp-IsAntisymmetric nat_cmp-IsAntisymmetric) es k v
