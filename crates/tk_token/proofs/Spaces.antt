-- Spaces round tokens.
use Rattle.std.proofs.Common.{◌≡◌, ℕ, ◌+◌, ◌-◌, true, false, cond, List, [], ◌∷◌, ◌++◌, length, take, refl, ◌∙◌, arith, one-add}
use Rattle.std.specs.List.{suffix_len}
use Rattle.std.proofs.lemmas.List.{length_push, take_all, take-append-le, reverse-append, nil_from_length}
use Rattle.tk_token.specs.declared.Tok.{Tok}
use Rattle.tk_token.specs.Kinds.{is_space}
use Rattle.tk_token.specs.Spaces.{is_space_token, after_spaces, before_spaces}

-- a Space in front is passed over
pub space_passed : (t : Tok) (ts : List Tok) → is_space t.kind ≡ true → after_spaces (t ∷ ts) ≡ after_spaces ts
space_passed t ts h = rw (h, one-add) refl

-- and another token ends them
pub no_space_passed : (t : Tok) (ts : List Tok) → is_space t.kind ≡ false → after_spaces (t ∷ ts) ≡ t ∷ ts
no_space_passed t ts h = rw h refl

-- the Spaces at the end, where one more token stands there
suffix_more : (ts : List Tok) (t : Tok) → suffix_len is_space_token (ts ++ t ∷ []) ≡ cond (is_space t.kind) (1 + suffix_len is_space_token ts) 0
suffix_more ts t = rw (reverse-append ts (t ∷ [])) refl

taken_behind : (ts : List Tok) (t : Tok) (n k m : ℕ) → n ≡ length ts + 1 → m ≡ 1 + k → take (n - m) (ts ++ t ∷ []) ≡ take (length ts - k) ts
taken_behind ts t n k m e f =
    let same : n - m ≡ length ts - k = omega (arith, e, f) in rw same (take-append-le (length ts - k) ts (t ∷ []) (omega arith))

space_behind : (ts : List Tok) (t : Tok) → is_space t.kind ≡ true → before_spaces (ts ++ t ∷ []) ≡ before_spaces ts
unfolding before_spaces
space_behind ts t h =
    taken_behind ts t (length (ts ++ t ∷ [])) (suffix_len is_space_token ts) (suffix_len is_space_token (ts ++ t ∷ [])) (length_push ts t)
    (suffix_more ts t ∙ rw h refl)

other_behind : (ts : List Tok) (t : Tok) → is_space t.kind ≡ false → before_spaces (ts ++ t ∷ []) ≡ ts ++ t ∷ []
unfolding before_spaces
other_behind ts t h =
    let none : suffix_len is_space_token (ts ++ t ∷ []) ≡ 0 = suffix_more ts t ∙ rw h refl in
    take_all (length (ts ++ t ∷ []) - suffix_len is_space_token (ts ++ t ∷ [])) (ts ++ t ∷ []) (omega (arith, none))

-- a Space at the end is left out
pub last_left_out : (toks front : List Tok) (last : Tok) → toks ≡ front ++ last ∷ [] → is_space last.kind ≡ true
    → before_spaces toks ≡ before_spaces front
last_left_out toks front last e h = rw e (space_behind front last h)

-- another token at the end stays
pub last_stays : (toks front : List Tok) (last : Tok) → toks ≡ front ++ last ∷ [] → is_space last.kind ≡ false → before_spaces toks ≡ toks
last_stays toks front last e h = rw e (other_behind front last h)

pub none_left_out : (toks : List Tok) → length toks ≡ 0 → before_spaces toks ≡ toks
unfolding before_spaces
none_left_out toks h = rw (nil_from_length toks h) refl
