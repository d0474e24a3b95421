-- The pieces in front.
use Rattle.std.proofs.Common.{◌≡◌, ◌≢◌, ℕ, true, false, List, [], ◌∷◌, Option, Some, sym, ap, subst, ◌∙◌}
use Rattle.std.specs.Prelude.{unwrap_or}
use Rattle.tk_token.specs.Token.{TokenSign, A_word, A_symbol, A_space}
use Rattle.tk_token.specs.Cutting.{is_blank, is_letter, letters_of, after_word, after_gap, makes_space, single, Tokens, gap, word, control_space}
use Rattle.tk_token.specs.Cutting.{symbol, other}
use Rattle.tk_token.specs.Pieces.{CutsOne}

pub gap_cut : (c : ℕ) (cs rest : List ℕ) → is_blank c ≡ true → rest ≡ after_gap cs → CutsOne (c ∷ cs) A_space rest
gap_cut c cs rest b is = record { cut = λ n ts t. gap b (subst (λ (r : List ℕ). Tokens n r ts) is t) }

pub single_cut : (c : ℕ) (cs : List ℕ) (sign : TokenSign) → is_blank c ≡ false → c ≢ 37 → c ≢ 92 → sign ≡ single c → CutsOne (c ∷ cs) sign cs
single_cut c cs sign b ne ne' is = subst (λ (s : TokenSign). CutsOne (c ∷ cs) s cs) (sym is) (record { cut = λ n ts t. other b ne ne' t })

pub control_space_cut : (cs rest : List ℕ) → makes_space cs ≡ true → rest ≡ after_gap cs → CutsOne (92 ∷ cs) (A_symbol 32) rest
control_space_cut cs rest e is = record { cut = λ n ts t. control_space e (subst (λ (r : List ℕ). Tokens n r ts) is t) }

pub symbol_cut : (cs : List ℕ) (c : ℕ) (rest : List ℕ) → cs ≡ c ∷ rest → is_letter c ≡ false → makes_space cs ≡ false
    → CutsOne (92 ∷ cs) (A_symbol c) rest
symbol_cut cs c rest is l e =
    subst (λ (r : List ℕ). CutsOne (92 ∷ r) (A_symbol c) rest) (sym is) (record { cut = λ n ts t. symbol l (ap makes_space (sym is) ∙ e) t })

-- a word, whose letters are one of the names
pub word_cut : (cs rest : List ℕ) (found : Option (List ℕ)) (letters : List ℕ) → (c : ℕ) × (more : List ℕ) × (cs ≡ c ∷ more) × (is_letter c ≡ true)
    → found ≡ Some letters → letters ≡ letters_of cs → rest ≡ after_gap (after_word cs) → CutsOne (92 ∷ cs) (A_word (unwrap_or found [])) rest
word_cut cs rest found letters (c, more, is, l) found_is letters_is rest_is =
    let whole : CutsOne (92 ∷ cs) (A_word (letters_of cs)) (after_gap (after_word cs)) =
    subst (λ (r : List ℕ). CutsOne (92 ∷ r) (A_word (letters_of r)) (after_gap (after_word r))) (sym is) (record { cut = λ n ts t. word l t }) in
    let named : letters_of cs ≡ unwrap_or found [] = sym (ap (λ (o : Option (List ℕ)). unwrap_or o []) found_is ∙ letters_is) in
    subst (λ (w : List ℕ). CutsOne (92 ∷ cs) (A_word w) rest) named (subst (CutsOne (92 ∷ cs) (A_word (letters_of cs))) (sym rest_is) whole)

pub ruleset cuts = (gap_cut, single_cut, control_space_cut, symbol_cut)
