-- A `text` element says one thing.
use Rattle.std.proofs.Common.{◌≡◌, ℕ, Bool, true, false, cond, not, List, [], ◌∷◌, ◌++◌, Option, Some, None, refl, sym, ap, subst, ◌∙◌}
use Rattle.std.specs.Prelude.{ℤ, pos, codes, bytes_eq, ◌==◌}
use Rattle.std.specs.List.{list_all}
use Rattle.std.proofs.lemmas.List.{append_cancel_left, append_cancel_right}
use Rattle.std.proofs.lemmas.Slice.Eq.{bytes_eq-Decides}
use Rattle.tk_item.specs.declared.Rgb.{Rgb}
use Rattle.tk_item.specs.declared.Item.{Item}
use Rattle.tk_characters.specs.Words.{word_meaning}
use Rattle.tk_svg.specs.Scan.{Attribute, numbers_of, scaled_of}
use Rattle.tk_svg.specs.Labels.{entities, Spells, nothing, itself, by_name, IsPlaced, by_point, by_matrix, label_of, FitsText}
use Rattle.tk_svg.specs.Fitting.{FitsItem}
use Rattle.tk_svg.proofs.Unique.{and_true, some_same, same_cells, split_same}

-- ---- characters

-- what passes for each word of a table passes for a word that has a meaning there
word_passes : (p : ℕ → Bool) (table : List (List ℕ × ℕ)) → list_all (λ entry. list_all p entry.0) table ≡ true → (word : List ℕ) (c : ℕ)
    → word_meaning table word ≡ Some c → list_all p word ≡ true
word_passes p [] h word c e = absurd cc
word_passes p (entry ∷ table) h word c e =
    let both = and_true (list_all p entry.0) _ h in
    by_test (bytes_eq word entry.0) refl both.0 (λ f. word_passes p table both.1 word c f) e
  where
    by_test : (b : Bool) → bytes_eq word entry.0 ≡ b → list_all p entry.0 ≡ true → (word_meaning table word ≡ Some c → list_all p word ≡ true)
        → cond b (Some entry.1) (word_meaning table word) ≡ Some c → list_all p word ≡ true
    by_test true t g more f = ap (list_all p) ((bytes_eq-Decides word entry.0).0 t) ∙ g
    by_test false t g more f = more f

-- not the `;` behind a name
abbrev is_name_of_entity : ℕ → Bool
is_name_of_entity c = not (c == 59)

entity_name : (name : List ℕ) (c : ℕ) → word_meaning entities name ≡ Some c → list_all is_name_of_entity name ≡ true
entity_name name c e = word_passes is_name_of_entity entities refl name c e

pub spells_same : {marks a b : List ℕ} → Spells marks a → Spells marks b → a ≡ b
spells_same nothing nothing = refl
spells_same (itself t s) (itself t' s') = same_cells refl (spells_same s s')
spells_same (itself t s) (by_name name e n s') = absurd cc
spells_same (by_name name e n s) (itself t s') = absurd cc
spells_same (by_name {c = c} {more = more} name e n s) (by_name {c = c'} {more = more'} {text = text'} name' e' n' s') =
    let both = split_same is_name_of_entity 59 refl name name' more more' (entity_name name c n) (entity_name name' c' n') (sym e ∙ e') in
    let meant = some_same (word_meaning entities name) c c' n (ap (word_meaning entities) both.0 ∙ n') in
    same_cells meant (spells_same s (subst (λ (m : List ℕ). Spells m text') (sym both.1) s'))

-- ---- places

given_and_not : {A : Type 0} (o : Option A) (x : A) → o ≡ None → o ≡ Some x → ⊥
given_and_not o x e f = absurd cc

pub placed_same : {own : List Attribute} {m n : List ℤ} → IsPlaced own m → IsPlaced own n → m ≡ n
placed_same (by_point {x_text = s} {y_text = t} {x = x} {y = y} a b c d e) (by_point {x_text = s'} {y_text = t'} {x = x'} {y = y'} a' b' c' d' e') =
    let xs = some_same (scaled_of s) x x' d (ap scaled_of (some_same _ s s' b b') ∙ d') in
    let ys = some_same (scaled_of t) y y' e (ap scaled_of (some_same _ t t' c c') ∙ e') in
    points_same xs ys
  where
    points_same : {x y u v : ℤ} → x ≡ u → y ≡ v
        → ◌≡◌ {A = List ℤ} (pos 65536 ∷ pos 0 ∷ pos 0 ∷ pos 65536 ∷ x ∷ y ∷ []) (pos 65536 ∷ pos 0 ∷ pos 0 ∷ pos 65536 ∷ u ∷ v ∷ [])
    points_same e f = cc
placed_same (by_point a b c d e) (by_matrix i a' b' c' d' e') = absurd (given_and_not _ _ a c')
placed_same (by_matrix i a b c d e) (by_point a' b' c' d' e') = absurd (given_and_not _ _ a' c)
placed_same (by_matrix {numbers = m} i a b c d e) (by_matrix {numbers = n} i' a' b' c' d' e') =
    let values = some_same _ (codes "matrix(" ++ (i ++ codes ")")) (codes "matrix(" ++ (i' ++ codes ")")) c c' in
    let insides : i ≡ i' = append_cancel_right i i' (codes ")") (append_cancel_left (codes "matrix(") _ _ values) in
    some_same (numbers_of 6 i) m n d (ap (numbers_of 6) insides ∙ d')

-- ---- what fits

pub label_fits : (numbers : List ℤ) (rgb : Rgb) (text : List ℕ) (item : Item) → FitsText text → label_of numbers rgb text ≡ Some item → FitsItem item
label_fits (a ∷ b ∷ c ∷ d ∷ e ∷ f ∷ []) rgb text item h is = subst FitsItem (some_same _ _ item refl is) h
label_fits [] rgb text item h is = absurd cc
label_fits (a ∷ []) rgb text item h is = absurd cc
label_fits (a ∷ b ∷ []) rgb text item h is = absurd cc
label_fits (a ∷ b ∷ c ∷ []) rgb text item h is = absurd cc
label_fits (a ∷ b ∷ c ∷ d ∷ []) rgb text item h is = absurd cc
label_fits (a ∷ b ∷ c ∷ d ∷ e ∷ []) rgb text item h is = absurd cc
label_fits (a ∷ b ∷ c ∷ d ∷ e ∷ f ∷ g ∷ more) rgb text item h is = absurd cc
