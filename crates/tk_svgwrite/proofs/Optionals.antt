-- Attributes that are left out have their initial values.
use Rattle.std.proofs.Common.{◌≡◌, ℕ, Bool, ◌&&◌, ◌||◌, not, true, false, cond, List, [], ◌∷◌, None, refl, sym, ◌∙◌}
use Rattle.std.specs.Prelude.{bytes_eq}
use Rattle.std.specs.List.{list_all, list_any, AllByRecursion}
use Rattle.std.proofs.lemmas.Bool.{false≢true}
use Rattle.std.proofs.lemmas.Slice.Eq.{bytes_eq-Decides}
use Rattle.tk_svg.specs.Scan.{Attribute, attribute, are_distinct, are_among, IsName}
use Rattle.tk_svg.specs.Paint.{value_or_initial}
use Rattle.tk_svg.proofs.Unique.{and_true}
use Rattle.tk_svgwrite.specs.Values.{OptionalAttribute, differing}
use Rattle.tk_svgwrite.proofs.Numbers.{is_plain}

or_false : (a b : Bool) → (a || b) ≡ false → (a ≡ false) × (b ≡ false)
or_false true b e = absurd (false≢true (sym e))
or_false false b e = (refl, e)

-- one of the attributes has the name
abbrev pub has_name : List ℕ → List OptionalAttribute → Bool
has_name name [] = false
has_name name (s ∷ optionals) = bytes_eq name s.name || has_name name optionals

-- each name stands once
abbrev pub are_apart : List OptionalAttribute → Bool
are_apart [] = true
are_apart (s ∷ optionals) = not (has_name s.name optionals) && are_apart optionals

-- the attribute of that name, which has that initial value, and stands once
abbrev pub is_set : List ℕ → List ℕ → List OptionalAttribute → Bool
is_set name initial [] = true
is_set name initial (s ∷ optionals) =
    cond (bytes_eq name s.name) (bytes_eq initial s.initial && not (has_name name optionals)) (is_set name initial optionals)

-- the value of that name
abbrev pub value_in : List ℕ → List ℕ → List OptionalAttribute → List ℕ
value_in name initial [] = initial
value_in name initial (s ∷ optionals) = cond (bytes_eq name s.name) s.value (value_in name initial optionals)

-- a name that none of them has is no attribute's that is written
pub absent_name_has_no_value : (name : List ℕ) (optionals : List OptionalAttribute) → has_name name optionals ≡ false → attribute name (differing optionals) ≡ None
unfolding differing
absent_name_has_no_value name [] h = refl
absent_name_has_no_value name (s ∷ optionals) h =
    let both = or_false (bytes_eq name s.name) (has_name name optionals) h in
    by_test (bytes_eq s.value s.initial) (absent_name_has_no_value name optionals both.1) both.0
  where
    by_test : (b : Bool) → attribute name (differing optionals) ≡ None → bytes_eq name s.name ≡ false
        → attribute name (cond b (differing optionals) ((s.name, s.value) ∷ differing optionals)) ≡ None
    by_test true e f = e
    by_test false e f = rw f e

not_true : (b : Bool) → not b ≡ true → b ≡ false
not_true true e = absurd (false≢true e)
not_true false e = refl

value_at_its_name : (name initial : List ℕ) (s : OptionalAttribute) (others : List Attribute) (same : Bool) → bytes_eq s.value s.initial ≡ same → name ≡ s.name
    → initial ≡ s.initial → attribute name others ≡ None → value_or_initial (cond same others ((s.name, s.value) ∷ others)) name initial ≡ s.value
value_at_its_name name initial s others true t n i e = rw e (i ∙ sym ((bytes_eq-Decides s.value s.initial).0 t))
value_at_its_name name initial s others false t n i e = let found : bytes_eq name s.name ≡ true = (bytes_eq-Decides name s.name).1 n in rw found refl

value_elsewhere : (name initial : List ℕ) (s : OptionalAttribute) (others : List Attribute) (same : Bool) → bytes_eq name s.name ≡ false
    → value_or_initial (cond same others ((s.name, s.value) ∷ others)) name initial ≡ value_or_initial others name initial
value_elsewhere name initial s others true f = refl
value_elsewhere name initial s others false f = rw f refl

pub given_back : (name initial : List ℕ) (optionals : List OptionalAttribute) → is_set name initial optionals ≡ true
    → value_or_initial (differing optionals) name initial ≡ value_in name initial optionals
unfolding differing
given_back name initial [] h = refl
given_back name initial (s ∷ optionals) h = by_name (bytes_eq name s.name) refl h (given_back name initial optionals)
  where
    by_name : (b : Bool) → bytes_eq name s.name ≡ b
        → cond b (bytes_eq initial s.initial && not (has_name name optionals)) (is_set name initial optionals) ≡ true
        → (is_set name initial optionals ≡ true → value_or_initial (differing optionals) name initial ≡ value_in name initial optionals)
        → value_or_initial (differing (s ∷ optionals)) name initial ≡ cond b s.value (value_in name initial optionals)
    by_name true e g more =
        let both = and_true (bytes_eq initial s.initial) (not (has_name name optionals)) g in
        value_at_its_name name initial s (differing optionals) (bytes_eq s.value s.initial) refl ((bytes_eq-Decides name s.name).0 e)
        ((bytes_eq-Decides initial s.initial).0 both.0) (absent_name_has_no_value name optionals (not_true _ both.1))
    by_name false e g more = value_elsewhere name initial s (differing optionals) (bytes_eq s.value s.initial) e ∙ more g

pub distinct_back : (optionals : List OptionalAttribute) → are_apart optionals ≡ true → are_distinct (differing optionals) ≡ true
unfolding differing
distinct_back [] h = refl
distinct_back (s ∷ optionals) h =
    let both = and_true (not (has_name s.name optionals)) (are_apart optionals) h in
    by_test (bytes_eq s.value s.initial) (absent_name_has_no_value s.name optionals (not_true _ both.0)) (distinct_back optionals both.1)
  where
    by_test : (b : Bool) → attribute s.name (differing optionals) ≡ None → are_distinct (differing optionals) ≡ true
        → are_distinct (cond b (differing optionals) ((s.name, s.value) ∷ differing optionals)) ≡ true
    by_test true e f = f
    by_test false e f = rw e f

pub among_back : (names : List (List ℕ)) (optionals : List OptionalAttribute) → list_all (λ s. list_any (bytes_eq s.name) names) optionals ≡ true
    → are_among names (differing optionals) ≡ true
unfolding differing
among_back names [] h = refl
among_back names (s ∷ optionals) h =
    let both = and_true (list_any (bytes_eq s.name) names) (list_all (λ t. list_any (bytes_eq t.name) names) optionals) h in
    by_test (bytes_eq s.value s.initial) both.0 (among_back names optionals both.1)
  where
    by_test : (b : Bool) → list_any (bytes_eq s.name) names ≡ true → are_among names (differing optionals) ≡ true
        → are_among names (cond b (differing optionals) ((s.name, s.value) ∷ differing optionals)) ≡ true
    by_test true e f = f
    by_test false e f = rw e f

-- ---- what attributes are made of

-- a name and a value as they are written
pub record IsWritten (a : Attribute) : Type 0 where
  pub name : IsName a.0
  pub value : list_all is_plain a.1 ≡ true

pub written_back : (optionals : List OptionalAttribute) → AllByRecursion (λ s. IsWritten (s.name, s.value)) optionals
    → AllByRecursion IsWritten (differing optionals)
unfolding differing
written_back [] h = tt
written_back (s ∷ optionals) h = by_test (bytes_eq s.value s.initial) h.0 (written_back optionals h.1)
  where
    by_test : (b : Bool) → IsWritten (s.name, s.value) → AllByRecursion IsWritten (differing optionals)
        → AllByRecursion IsWritten (cond b (differing optionals) ((s.name, s.value) ∷ differing optionals))
    by_test true e f = f
    by_test false e f = (e, f)
