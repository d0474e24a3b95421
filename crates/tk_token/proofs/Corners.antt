-- Tokens without a `|` have no corner.
use Rattle.std.specs.Prelude.{◌≡◌, ℕ, ◌==◌, ◌&&◌, ◌||◌, Bool, true, false, List, [], ◌∷◌, None, codes}
use Rattle.std.specs.List.{list_any}
use Rattle.std.proofs.Common.{refl, ap, ◌∙◌}
use Rattle.tk_characters.specs.Characters.{bar}
use Rattle.tk_token.specs.declared.Tok.{Tok}
use Rattle.tk_token.specs.Groups.{with_first, depth_after, first_outside_in, first_outside}
use Rattle.tk_token.specs.Kinds.{is_char, is_close, begins_text, begins_corner}
use Rattle.tk_token.proofs.Outside.{none_in, closed_here, goes_past}

-- a `|`
abbrev is_bar : Tok → Bool
is_bar t = is_char bar t.kind

or_left : (a b : Bool) → (a || b) ≡ false → a ≡ false
or_left true b e = e
or_left false b e = refl

or_right : (a b : Bool) → (a || b) ≡ false → b ≡ false
or_right true b e = absurd (cc)
or_right false b e = e

-- nothing follows a test that fails
after_false : (a b : Bool) → b ≡ false → (a && b) ≡ false
after_false true b e = e
after_false false b e = refl

before_false : (a b : Bool) → a ≡ false → (a && b) ≡ false
before_false a b e = ap (λ (a : Bool). a && b) e

-- neither of two tests holds
neither_is_false : (a b : Bool) → a ≡ false → b ≡ false → (a || b) ≡ false
neither_is_false a b e h = ap (λ (a : Bool). a || b) e ∙ h

-- no character is in front of a `|` that isn't there
no_bar_in_front : (ts : List Tok) → list_any is_bar ts ≡ false → begins_text (124 ∷ []) ts ≡ false
no_bar_in_front [] n = refl
no_bar_in_front (t ∷ ts) n = before_false (is_bar t) true (or_left (is_bar t) (list_any is_bar ts) n)

-- no corner is in front
not_in_front : (t : Tok) (ts : List Tok) → is_bar t ≡ false → list_any is_bar ts ≡ false → begins_corner (t ∷ ts) ≡ false
not_in_front t ts e n =
    neither_is_false (begins_text (codes "-|") (t ∷ ts)) (begins_text (codes "|-") (t ∷ ts)) (after_false (is_char 45 t.kind)
    (begins_text (124 ∷ []) ts) (no_bar_in_front ts n)) (before_false (is_bar t) (begins_text (45 ∷ []) ts) e)

-- the search goes past a token that begins none
goes_on : (depth : ℕ) (t : Tok) (ts : List Tok) → begins_corner (t ∷ ts) ≡ false → first_outside_in begins_corner (depth_after depth t.kind) ts ≡ None
    → (b : Bool) → (depth == 0 && is_close t.kind) ≡ b → first_outside_in begins_corner depth (t ∷ ts) ≡ None
goes_on depth t ts h none true e = closed_here begins_corner depth t ts (after_false (depth == 0) (begins_corner (t ∷ ts)) h) e
goes_on depth t ts h none false e =
    goes_past begins_corner depth t ts (after_false (depth == 0) (begins_corner (t ∷ ts)) h) e ∙ ap (with_first t) none

no_corner_in : (depth : ℕ) (ts : List Tok) → list_any is_bar ts ≡ false → first_outside_in begins_corner depth ts ≡ None
no_corner_in depth [] n = none_in begins_corner depth
no_corner_in depth (t ∷ ts) n =
    goes_on depth t ts (not_in_front t ts (or_left (is_bar t) (list_any is_bar ts) n) (or_right (is_bar t) (list_any is_bar ts) n))
    (no_corner_in (depth_after depth t.kind) ts (or_right (is_bar t) (list_any is_bar ts) n)) (depth == 0 && is_close t.kind) refl

-- there is none outside braces
pub no_corner : (ts : List Tok) → list_any (λ (t : Tok). is_char bar t.kind) ts ≡ false → first_outside begins_corner ts ≡ None
no_corner ts n = no_corner_in 0 ts n
