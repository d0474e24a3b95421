-- Lists that lie on one another.
use Rattle.std.proofs.Common.{◌≡◌, ℕ, zero, suc, List, [], ◌∷◌, ◌++◌, length, take, get_or, slice_get, Some, None, refl, sym, ap, ◌∙◌, append_assoc}
use Rattle.std.proofs.Common.{arith, slice_set}
use Rattle.std.proofs.lemmas.List.{append-nil}
use Rattle.tk_token.specs.declared.Tok.{Tok}
use Rattle.tk_expand.specs.Stack.{stacked}

-- a list that is put on the others is read first
pub stacked_push : (lists : List (List Tok)) (list : List Tok) → stacked (lists ++ list ∷ []) ≡ list ++ stacked lists
unfolding stacked
stacked_push [] list = sym (append-nil list)
stacked_push (l ∷ lists) list = ap (λ (ts : List Tok). ts ++ l) (stacked_push lists list) ∙ append_assoc list (stacked lists) l

-- the last list is read first
pub stacked-last : (lists : List (List Tok)) (i : ℕ) (d : List Tok) → suc i ≡ length lists
    → stacked lists ≡ get_or lists i d ++ stacked (take i lists)
unfolding stacked
stacked-last [] i d is = absurd (omega (arith, is))
stacked-last (l ∷ []) zero d is = sym (append-nil l)
stacked-last (l ∷ []) (suc i) d is = absurd (omega (arith, is))
stacked-last (l ∷ m ∷ lists) zero d is = absurd (omega (arith, is))
stacked-last (l ∷ m ∷ lists) (suc i) d is =
    ap (λ (ts : List Tok). ts ++ l) (stacked-last (m ∷ lists) i d (omega (arith, is))) ∙ append_assoc (get_or (m ∷ lists) i d)
    (stacked (take i (m ∷ lists))) l

-- another list in the place of the last one is read first
pub stacked-set : (lists : List (List Tok)) (i : ℕ) (new : List Tok) → suc i ≡ length lists
    → stacked (slice_set lists i new) ≡ new ++ stacked (take i lists)
unfolding stacked
stacked-set [] i new is = absurd (omega (arith, is))
stacked-set (l ∷ []) zero new is = sym (append-nil new)
stacked-set (l ∷ []) (suc i) new is = absurd (omega (arith, is))
stacked-set (l ∷ m ∷ lists) zero new is = absurd (omega (arith, is))
stacked-set (l ∷ m ∷ lists) (suc i) new is =
    ap (λ (ts : List Tok). ts ++ l) (stacked-set (m ∷ lists) i new (omega (arith, is))) ∙ append_assoc new (stacked (take i (m ∷ lists))) l

-- what was before the last list stays
pub take-set : {X : Type 0} (xs : List X) (i : ℕ) (x : X) → take i (slice_set xs i x) ≡ take i xs
take-set [] i x = refl
take-set (y ∷ xs) zero x = refl
take-set {X = X} (y ∷ xs) (suc i) x = ap (λ (ys : List X). y ∷ ys) (take-set xs i x)

-- the first token of the last list is taken
pub taken-within : (lists : List (List Tok)) (i : ℕ) (old new : List Tok) (tok : Tok) → suc i ≡ length lists → old ≡ get_or lists i old
    → old ≡ tok ∷ new → stacked lists ≡ tok ∷ stacked (slice_set lists i new)
taken-within lists i old new tok is there first =
    stacked-last lists i old is ∙ ap (λ (ts : List Tok). ts ++ stacked (take i lists)) (sym there ∙ first) ∙ ap (λ (ts : List Tok). tok ∷ ts)
    (sym (stacked-set lists i new is))

-- the only token of the last list is taken, and that list with it
pub taken-out : (lists lists' : List (List Tok)) (i : ℕ) (old new : List Tok) (tok : Tok) → suc i ≡ length lists → old ≡ get_or lists i old
    → old ≡ tok ∷ new → new ≡ [] → lists' ≡ take i (slice_set lists i new) → stacked lists ≡ tok ∷ stacked lists'
taken-out lists lists' i old new tok is there first none rest =
    taken-within lists i old new tok is there first
    ∙ ap (λ (ts : List Tok). tok ∷ ts) (stacked-set lists i new is ∙ ap (λ (ts : List Tok). ts ++ stacked (take i lists)) none
    ∙ ap stacked (sym (rest ∙ take-set lists i new)))

-- with no list there is no token
pub none-left : (lists : List (List Tok)) → length lists ≡ 0 → stacked lists ≡ []
unfolding stacked
none-left [] is = refl
none-left (l ∷ lists) is = absurd (omega (arith, is))

-- a list on no others is all that is left
pub first_list : (lists : List (List Tok)) (list : List Tok) → lists ≡ [] → list ++ stacked lists ≡ list
unfolding stacked
first_list lists list none = ap (λ (ls : List (List Tok)). list ++ stacked ls) none ∙ append-nil list

-- ---- the last list

-- the first token of all is that of the last list
pub first_of_last : (lists : List (List Tok)) (i : ℕ) (last : List Tok) (d : List Tok) (t : Tok) → suc i ≡ length lists → last ≡ get_or lists i d
    → slice_get last 0 ≡ Some t → slice_get (stacked lists) 0 ≡ Some t
first_of_last lists i last d t is there first =
    ap (λ (ts : List Tok). slice_get ts 0) (stacked-last lists i d is ∙ ap (λ (ts : List Tok). ts ++ stacked (take i lists)) (sym there))
    ∙ in_front last (stacked (take i lists)) first
  where
    in_front : (ts us : List Tok) → slice_get ts 0 ≡ Some t → slice_get (ts ++ us) 0 ≡ Some t
    in_front [] us h = absurd cc
    in_front (u ∷ ts) us h = h

-- the last list is what is read first, before the others
pub last_first : (lists : List (List Tok)) (i : ℕ) (last d : List Tok) → suc i ≡ length lists → last ≡ get_or lists i d
    → stacked lists ≡ last ++ stacked (take i lists)
last_first lists i last d is there = stacked-last lists i d is ∙ ap (λ (ts : List Tok). ts ++ stacked (take i lists)) (sym there)

-- an empty list in its place is left out
pub last_left_out : (lists lists' : List (List Tok)) (i : ℕ) (new : List Tok) → suc i ≡ length lists → new ≡ []
    → lists' ≡ take i (slice_set lists i new) → stacked lists' ≡ new ++ stacked (take i lists)
last_left_out lists lists' i new is none rest =
    ap stacked (rest ∙ take-set lists i new) ∙ ap (λ (ts : List Tok). ts ++ stacked (take i lists)) (sym none)

-- with no list there is no first token
pub none_first : (lists : List (List Tok)) → length lists ≡ 0 → slice_get (stacked lists) 0 ≡ None
none_first lists is = ap (λ (ts : List Tok). slice_get ts 0) (none-left lists is)

-- a list of 0 tokens has none
pub no_tokens : (ts : List Tok) → length ts ≡ 0 → ts ≡ []
no_tokens [] is = refl
no_tokens (t ∷ ts) is = absurd (omega (arith, is))

-- a token is given back to the last list
pub given-back : (lists : List (List Tok)) (i : ℕ) (old new : List Tok) (tok : Tok) → suc i ≡ length lists → old ≡ get_or lists i old
    → new ≡ tok ∷ old → stacked (slice_set lists i new) ≡ tok ∷ stacked lists
given-back lists i old new tok is there first =
    stacked-set lists i new is ∙ ap (λ (ts : List Tok). ts ++ stacked (take i lists)) first
    ∙ ap (λ (ts : List Tok). tok ∷ (ts ++ stacked (take i lists))) there
    ∙ ap (λ (ts : List Tok). tok ∷ ts) (sym (stacked-last lists i old is))
