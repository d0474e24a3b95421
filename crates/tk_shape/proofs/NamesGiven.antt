-- Names that are given, as finite maps.
use Rattle.std.proofs.Common.{◌≡◌, ℕ, cond, List, [], ◌∷◌, Some, String, refl, sym, ap, ◌∙◌, ◌++◌, reverse}
use Rattle.std.specs.Ordering.{nat_cmp, eq_by_cmp}
use Rattle.std.specs.Cmp.{eq_by_cmp_equiv}
use Rattle.std.specs.Cmp.Lexicographic.{slice_cmp, nat_list_cmp_total}
use Rattle.std.specs.Map.{lookup}
use Rattle.std.specs.Str.{bytes_eq}
use Rattle.std.specs.String.{string_bytes, string_eq}
use Rattle.std.specs.HashMap.{HashMap, get_by_text, Updates}
use Rattle.std.specs.FinMap as map
use Rattle.std.specs.FinMap.{find, get-from_entries, get-insert, same_map, nat_cmp-IsAntisymmetric, slice_cmp-IsAntisymmetric}
use Rattle.std.proofs.lemmas.List.{append_assoc, append-nil, reverse-append}
use Rattle.std.proofs.lemmas.Map.Text.{is_eq-slice_cmp, hash_map_updates_text}
use Rattle.tk_shape.specs.declared.NodeRecord.{NodeRecord}
use Rattle.tk_shape.specs.Nodes.{NamedNodes, by_bytes, names_given}

module _ {A : Type 0} where
  -- a name is sought among the texts as among their bytes
  sought : (name : List ℕ) (entries : List (String A × NodeRecord))
      → find (slice_cmp nat_cmp) name (by_bytes entries) ≡ lookup (λ k. bytes_eq name (string_bytes k)) entries
  sought name [] = refl
  sought name (e ∷ entries) =
      ap (λ b. cond b (Some e.1) (find (slice_cmp nat_cmp) name (by_bytes entries))) (is_eq-slice_cmp name (string_bytes e.0))
      ∙ ap (cond (bytes_eq name (string_bytes e.0)) (Some e.1)) (sought name entries)

  -- what the map of the entries has for a name
  pub named : (entries : List (String A × NodeRecord)) (name : List ℕ)
      → map.get (map.from_entries {R = slice_cmp nat_cmp} (by_bytes entries)) name ≡ lookup (λ k. bytes_eq name (string_bytes k)) entries
  named entries name = get-from_entries nat_list_cmp_total (by_bytes entries) name ∙ sought name entries

  -- what changes where a node is given a name
  pub name_given : {S : Type 0} (m n : HashMap (String A) NodeRecord S) (key : String A) (node : NodeRecord) → Updates string_eq m n key (Some node)
      → map.from_entries {R = slice_cmp nat_cmp} (by_bytes n.entries)
      ≡ map.insert (map.from_entries (by_bytes m.entries)) (string_bytes key) node
  name_given m n key node changed = same_map nat_list_cmp_total (slice_cmp-IsAntisymmetric nat_cmp-IsAntisymmetric) _ _ (λ name.
      named n.entries name
      ∙ hash_map_updates_text (string_bytes key) m n (Some node) changed name
      ∙ ap (λ b. cond b (Some node) (get_by_text m name))
      (sym (is_eq-slice_cmp (string_bytes key) name) ∙ (eq_by_cmp_equiv nat_list_cmp_total).symm (string_bytes key) name)
      ∙ ap (cond (eq_by_cmp (slice_cmp nat_cmp) name (string_bytes key)) (Some node)) (sym (named m.entries name))
      ∙ sym (get-insert nat_list_cmp_total (map.from_entries (by_bytes m.entries)) (string_bytes key) node name))

-- names that are given are the entries of a map, the last of them first
given_before : (entries given : List (List ℕ × NodeRecord))
    → names_given (map.from_entries {R = slice_cmp nat_cmp} entries) given ≡ map.from_entries {R = slice_cmp nat_cmp} (reverse given ++ entries)
given_before entries [] = refl
given_before entries (e ∷ given) =
    given_before (e ∷ entries) given
    ∙ ap (λ es. map.from_entries {R = slice_cmp nat_cmp} es)
    (sym (append_assoc (reverse given) (e ∷ []) entries) ∙ ap (λ es. es ++ entries) (sym (reverse-append (e ∷ []) given)))

-- entries are sought as their bytes are compared
found_is : (name : List ℕ) (entries : List (List ℕ × NodeRecord)) → find (slice_cmp nat_cmp) name entries ≡ lookup (bytes_eq name) entries
found_is name [] = refl
found_is name (e ∷ entries) =
    ap (λ b. cond b (Some e.1) (find (slice_cmp nat_cmp) name entries)) (is_eq-slice_cmp name e.0)
    ∙ ap (cond (bytes_eq name e.0) (Some e.1)) (found_is name entries)

pub last_given : (given : List (List ℕ × NodeRecord)) (name : List ℕ) → map.get (names_given map.empty given) name ≡ lookup (bytes_eq name) (reverse given)
last_given given name =
    ap (λ (nodes : NamedNodes). map.get nodes name) (given_before [] given ∙ ap (λ es. map.from_entries {R = slice_cmp nat_cmp} es) (append-nil (reverse given)))
    ∙ get-from_entries nat_list_cmp_total (reverse given) name
    ∙ found_is name (reverse given)
