-- The tokens before a `)` that ends them.
use Rattle.std.specs.Prelude.{◌≡◌, Bool, true, false, if◌then◌else◌, List, [], ◌∷◌, ◌++◌, length, Some, None, option_map}
use Rattle.std.proofs.Common.{refl, ap, sym, ◌∙◌}
use Rattle.std.proofs.lemmas.List.{nil_from_length}
use Rattle.tk_characters.specs.Characters.{right_parenthesis}
use Rattle.tk_token.specs.declared.Tok.{Tok}
use Rattle.tk_token.specs.Kinds.{is_char}
use Rattle.tk_look.specs.Values.{before_closing}

-- a token comes before those of a choice
one_more : (b : Bool) (t : Tok) (ts : List Tok)
    → option_map (λ before. t ∷ before) (if b then Some ts else None) ≡ (if b then Some (t ∷ ts) else None)
one_more true t ts = refl
one_more false t ts = refl

-- whether the last token is a `)` decides
before_closing_is : (before : List Tok) (last : Tok)
    → before_closing (before ++ last ∷ []) ≡ (if is_char right_parenthesis last.kind then Some before else None)
unfolding before_closing
before_closing_is [] last = refl
before_closing_is (t ∷ []) last = one_more (is_char right_parenthesis last.kind) t []
before_closing_is (t ∷ (u ∷ before)) last =
    ap (option_map (λ (ts : List Tok). t ∷ ts)) (before_closing_is (u ∷ before) last)
    ∙ one_more (is_char right_parenthesis last.kind) t (u ∷ before)

-- no tokens end with it
pub nothing_closes : (list : List Tok) → length list ≡ 0 → None ≡ before_closing list
unfolding before_closing
nothing_closes list none = ap before_closing (sym (nil_from_length list none))

-- the same of a list that ends with a token
pub closed_by : (list before : List Tok) (last : Tok) (b : Bool) → list ≡ before ++ last ∷ [] → b ≡ is_char right_parenthesis last.kind
    → (if b then Some before else None) ≡ before_closing list
closed_by list before last b is e =
    ap (λ (b : Bool). if b then Some before else None) e
    ∙ sym (before_closing_is before last)
    ∙ ap before_closing (sym is)
