-- No bytes stand for two things.
use Rattle.std.proofs.Common.{◌≡◌, ℕ, Bool, ◌&&◌, true, false, List, [], ◌∷◌, ◌++◌, Option, Some, refl, sym, ap, subst, ◌∙◌, arith, inl, inr}
use Rattle.std.specs.Prelude.{ℤ}
use Rattle.std.specs.List.{list_all}
use Rattle.std.proofs.lemmas.Bool.Decides.{nat_tests}
use Rattle.std.proofs.lemmas.Bool.{false≢true}
use Rattle.tk_item.specs.declared.Seg.{Seg}
use Rattle.tk_svg.specs.Scan.{EndsTag, IsName, Attribute, Attributes, none, one, is_name_byte, is_value_byte, after_blanks, after_separator}
use Rattle.tk_svg.specs.Scan.{after_comma, first_numbers_at, numbers_at}
use Rattle.tk_svg.specs.PathData.{Letter, path_letter, arity, repeated, PathCommand, PathCommands, ends, named, again, begins_number, command_pieces}
use Rattle.tk_svg.specs.PathData.{IsPathData, LineTo, MoveTo}

pub some_same : {A : Type 0} (o : Option A) (x y : A) → o ≡ Some x → o ≡ Some y → x ≡ y
some_same o x y e f = cc

pub first_same : {A B : Type 0} (x y : A × B) → x ≡ y → x.0 ≡ y.0
first_same x y e = ap (λ p. p.0) e

pub second_same : {A B : Type 0} (x y : A × B) → x ≡ y → x.1 ≡ y.1
second_same x y e = ap (λ p. p.1) e

pub head_same : {A : Type 0} (xs : List A) (x y : A) (r s : List A) → xs ≡ x ∷ r → xs ≡ y ∷ s → x ≡ y
head_same xs x y r s e f = cc

pub tail_same : {A : Type 0} (xs : List A) (x y : A) (r s : List A) → xs ≡ x ∷ r → xs ≡ y ∷ s → r ≡ s
tail_same xs x y r s e f = cc

pub and_true : (a b : Bool) → (a && b) ≡ true → (a ≡ true) × (b ≡ true)
and_true true b e = (refl, e)
and_true false b e = absurd (false≢true e)

pub same_cells : {A : Type 0} {x y : A} {xs ys : List A} → x ≡ y → xs ≡ ys → x ∷ xs ≡ y ∷ ys
same_cells e f = cc

same_pairs : {A B : Type 0} {x y : A} {u v : B} → x ≡ y → u ≡ v → ◌≡◌ {A = A × B} (x, u) (y, v)
same_pairs {A} {B} {x} {y} {u} {v} e f = ap (λ (a : A). (a, u)) e ∙ ap (λ (b : B). (y, b)) f

-- two texts without the byte c, each up to a c, are one
pub split_same : (p : ℕ → Bool) (c : ℕ) → p c ≡ false → (xs ys r s : List ℕ) → list_all p xs ≡ true → list_all p ys ≡ true → xs ++ c ∷ r ≡ ys ++ c ∷ s
    → (xs ≡ ys) × (r ≡ s)
split_same p c not_p [] [] r s a b e = (refl, cc)
split_same p c not_p [] (y ∷ ys) r s a b e =
    let same : c ≡ y = cc in
    let holds : p y ≡ true = (and_true _ _ b).0 in
    absurd (false≢true (sym not_p ∙ ap p same ∙ holds))
split_same p c not_p (x ∷ xs) [] r s a b e =
    let same : x ≡ c = cc in
    let holds : p x ≡ true = (and_true _ _ a).0 in
    absurd (false≢true (sym not_p ∙ sym (ap p same) ∙ holds))
split_same p c not_p (x ∷ xs) (y ∷ ys) r s a b e =
    let same : x ≡ y = cc in
    let tails : xs ++ c ∷ r ≡ ys ++ c ∷ s = cc in
    let more = split_same p c not_p xs ys r s (and_true _ _ a).1 (and_true _ _ b).1 tails in
    (same_cells same more.0, more.1)

-- a letter begins no number
letter_no_number : (c : ℕ) (j : Letter) (cs : List ℕ) → path_letter c ≡ Some j → begins_number (after_comma (c ∷ cs)) ≡ false
letter_no_number c j cs e = grind (arith, nat_tests)

-- the command at the front is one, and so is what is left
named_same : (j j' : Letter) (c c' : ℕ) (front front' rest rest' : List ℕ) (args args' : List ℤ) (all : List ℕ) → all ≡ c ∷ front → all ≡ c' ∷ front'
    → path_letter c ≡ Some j → path_letter c' ≡ Some j' → first_numbers_at (arity j) front ≡ Some (args, rest)
    → first_numbers_at (arity j') front' ≡ Some (args', rest') → (j ≡ j') × (args ≡ args') × (rest ≡ rest')
named_same j j' c c' front front' rest rest' args args' all f f' g g' h h' =
    let cs = head_same all c c' front front' f f' in
    let fs = tail_same all c c' front front' f f' in
    let js : j ≡ j' = some_same (path_letter c) j j' g (ap path_letter cs ∙ g') in
    let out : first_numbers_at (arity j) front ≡ Some (args', rest') = ap (λ (i : Letter). first_numbers_at (arity i) front) js
    ∙ ap (λ (w : List ℕ). first_numbers_at (arity j') w) fs ∙ h' in
    let both = some_same _ (args, rest) (args', rest') h out in
    (js, first_same _ _ both, second_same _ _ both)

-- where the bytes end, no number begins
end_no_number : (bytes : List ℕ) → after_blanks bytes ≡ [] → begins_number (after_separator bytes) ≡ true → ⊥
end_no_number bytes e h = false≢true (sym (ap (λ w. begins_number (after_comma w)) e) ∙ h)

named_no_number : (bytes : List ℕ) (c : ℕ) (j : Letter) (front : List ℕ) → after_blanks bytes ≡ c ∷ front → path_letter c ≡ Some j
    → begins_number (after_separator bytes) ≡ true → ⊥
named_no_number bytes c j front e l h = false≢true (sym (ap (λ w. begins_number (after_comma w)) e ∙ letter_no_number c j front l) ∙ h)

pub commands_same : {k : Letter} {bytes : List ℕ} {a b : List PathCommand} → PathCommands k bytes a → PathCommands k bytes b → a ≡ b
commands_same (ends e) (ends f) = refl
commands_same (ends e) (named f g h i) = absurd cc
commands_same {bytes = bytes} (ends e) (again f g h i) = absurd (end_no_number bytes e g)
commands_same (named f g h i) (ends e) = absurd cc
commands_same {bytes = bytes} (named {j = j} {c = c} {front = front} {rest = rest} {args = args} {more = more} f g h i)
    (named {j = j'} {c = c'} {front = front'} {rest = rest'} {args = args'} {more = more'} f' g' h' i') =
    let s = named_same j j' c c' front front' rest rest' args args' (after_blanks bytes) f f' g g' h h' in
    let other : PathCommands (repeated j) rest more' = subst (λ (l : Letter). PathCommands (repeated l) rest more') (sym s.0)
    (subst (λ (w : List ℕ). PathCommands (repeated j') w more') (sym s.2) i') in
    same_cells (same_pairs s.0 s.1) (commands_same i other)
commands_same {bytes = bytes} (named {j = j} {c = c} {front = front} f g h i) (again f' g' h' i') = absurd (named_no_number bytes c j front f g g')
commands_same {bytes = bytes} (again f g h i) (ends e) = absurd (end_no_number bytes e g)
commands_same {bytes = bytes} (again f g h i) (named {j = j} {c = c} {front = front} f' g' h' i') = absurd (named_no_number bytes c j front f' g' g)
commands_same {k = k} {bytes = bytes} (again {rest = rest} {args = args} {more = more} f g h i) (again {rest = rest'} {args = args'} {more = more'}
    f' g' h' i') =
    let both = some_same (numbers_at (arity k) bytes) (args, rest) (args', rest') h h' in
    let r : rest' ≡ rest = sym (second_same _ _ both) in
    same_cells (same_pairs refl (first_same _ _ both)) (commands_same i (subst (λ (w : List ℕ). PathCommands k w more') r i'))

pub path_same : (bytes : List ℕ) (a b : List Seg) → IsPathData bytes a → IsPathData bytes b → a ≡ b
path_same bytes a b p q =
    let fronts = tail_same (after_blanks bytes) 77 77 p.front q.front p.begins q.begins in
    let both = some_same (first_numbers_at 2 p.front) (p.args, p.rest) (q.args, q.rest) p.first (ap (λ (w : List ℕ). first_numbers_at 2 w) fronts
    ∙ q.first) in
    let rests : q.rest ≡ p.rest = sym (second_same _ _ both) in
    let commands = commands_same p.commands (subst (λ (w : List ℕ). PathCommands LineTo w q.others) rests q.commands) in
    let whole = same_cells (same_pairs {x = MoveTo} refl (first_same _ _ both)) commands in
    some_same (command_pieces ((MoveTo, p.args) ∷ p.others)) a b p.meaning (ap command_pieces whole ∙ q.meaning)

-- ---- attributes

-- where a tag ends, no name begins
tag_no_name : (all rest name more : List ℕ) → all ≡ rest → EndsTag rest → all ≡ name ++ more → IsName name → ⊥
tag_no_name all rest [] more e tag_end f is = absurd (omega (arith, is.some))
tag_no_name all rest (c ∷ cs) more e tag_end f is =
    let named : is_name_byte c ≡ true = (and_true _ _ is.each).0 in
    elim tag_end.1 [
      | inl g ↦ (let here : 62 ≡ c = head_same all 62 c tag_end.0 (cs ++ more) (e ∙ g) f in let no : is_name_byte 62 ≡ true = ap is_name_byte here ∙ named in absurd cc)
      | inr g ↦ (let here : 47 ≡ c = head_same all 47 c tag_end.0 (cs ++ more) (e ∙ g) f in let no : is_name_byte 47 ≡ true = ap is_name_byte here ∙ named in absurd cc)
    ]

-- the first attribute is one, and so is what is left
attribute_same : (all name value more name' value' more' : List ℕ) → all ≡ name ++ 61 ∷ 34 ∷ (value ++ 34 ∷ more)
    → all ≡ name' ++ 61 ∷ 34 ∷ (value' ++ 34 ∷ more') → IsName name → IsName name' → list_all is_value_byte value ≡ true
    → list_all is_value_byte value' ≡ true → (name ≡ name') × (value ≡ value') × (more ≡ more')
attribute_same all name value more name' value' more' e e' is is' v v' =
    let names = split_same is_name_byte 61 refl name name' (34 ∷ (value ++ 34 ∷ more)) (34 ∷ (value' ++ 34 ∷ more')) is.each is'.each (sym e ∙ e') in
    let values = split_same is_value_byte 34 refl value value' more more' v v' (tail_same _ 34 34 _ _ refl names.1) in
    (names.0, values.0, values.1)

pub attributes_same : {bytes : List ℕ} {a b : List Attribute} {r s : List ℕ} → Attributes bytes a r → Attributes bytes b s → (a ≡ b) × (r ≡ s)
attributes_same (none e g) (none e' g') = (refl, sym e ∙ e')
attributes_same {bytes = bytes} (none {rest = rest} e g) (one {name = name} {value = value} {more = more} b f is v w) =
    absurd (tag_no_name (after_blanks bytes) rest name _ e g f is)
attributes_same {bytes = bytes} (one {name = name} {value = value} {more = more} b f is v w) (none {rest = rest} e g) =
    absurd (tag_no_name (after_blanks bytes) rest name _ e g f is)
attributes_same {bytes = bytes} (one {name = name} {value = value} {more = more} {rest = r} {others = others} b f is v w)
    (one {name = name'} {value = value'} {more = more'} {rest = s} {others = others'} b' f' is' v' w') =
    let here = attribute_same (after_blanks bytes) name value more name' value' more' f f' is is' v v' in
    let then = attributes_same w (subst (λ (m : List ℕ). Attributes m others' s) (sym here.2) w') in
    (same_cells (same_pairs here.0 here.1) then.0, then.1)
