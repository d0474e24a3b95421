-- Characters have one list of tokens, and a source lexes in one way.
use Rattle.std.proofs.Common.{◌≡◌, ℕ, Bool, true, false, List, ◌∷◌, refl, sym, ap, ◌∙◌, arith}
use Rattle.std.proofs.lemmas.Bool.{false≢true}
use Rattle.std.proofs.lemmas.Bool.Decides.{nat_tests}
use Rattle.tk_token.specs.Answers.{Answer}
use Rattle.tk_token.specs.Token.{Token}
use Rattle.tk_token.specs.Cutting.{Tokens, ends, comment, gap, word, control_space, symbol, other, is_blank, is_letter, makes_space}
use Rattle.tk_token.specs.Faults.{balanced, Lexes, refused, cut}

same_rest : {x : Token} {r s : List Token} → r ≡ s → x ∷ r ≡ x ∷ s
same_rest e = cc

letter_makes_no_space : (c : ℕ) (cs : List ℕ) → makes_space (c ∷ cs) ≡ true → is_letter c ≡ true → ⊥
letter_makes_no_space c cs e f = grind (arith, nat_tests)

true_is_not_false : (b : Bool) → b ≡ true → b ≡ false → ⊥
true_is_not_false b e f = false≢true (sym f ∙ e)

pub tokens_same : {n : ℕ} {cs : List ℕ} {a b : List Token} → Tokens n cs a → Tokens n cs b → a ≡ b
tokens_same ends ends = refl
tokens_same (comment t) (comment u) = tokens_same t u
tokens_same (comment t) (gap f u) = absurd (false≢true f)
tokens_same (comment t) (other f g h u) = absurd (g refl)
tokens_same (gap e t) (comment u) = absurd (false≢true e)
tokens_same (gap e t) (gap f u) = same_rest (tokens_same t u)
tokens_same (gap e t) (word f u) = absurd (false≢true e)
tokens_same (gap e t) (control_space f u) = absurd (false≢true e)
tokens_same (gap e t) (symbol f g u) = absurd (false≢true e)
tokens_same (gap {c = c} e t) (other f g h u) = absurd (true_is_not_false (is_blank c) e f)
tokens_same (word e t) (gap f u) = absurd (false≢true f)
tokens_same (word e t) (word f u) = same_rest (tokens_same t u)
tokens_same (word {c = c} {cs = cs} e t) (control_space f u) = absurd (letter_makes_no_space c cs f e)
tokens_same (word {c = c} e t) (symbol f g u) = absurd (true_is_not_false (is_letter c) e f)
tokens_same (word e t) (other f g h u) = absurd (h refl)
tokens_same (control_space e t) (gap f u) = absurd (false≢true f)
tokens_same (control_space e t) (word {c = c} {cs = cs} f u) = absurd (letter_makes_no_space c cs e f)
tokens_same (control_space e t) (control_space f u) = same_rest (tokens_same t u)
tokens_same (control_space e t) (symbol {c = c} {cs = cs} f g u) = absurd (true_is_not_false (makes_space (c ∷ cs)) e g)
tokens_same (control_space e t) (other f g h u) = absurd (h refl)
tokens_same (symbol e f t) (gap g u) = absurd (false≢true g)
tokens_same (symbol {c = c} e f t) (word g u) = absurd (true_is_not_false (is_letter c) g e)
tokens_same (symbol {c = c} {cs = cs} e f t) (control_space g u) = absurd (true_is_not_false (makes_space (c ∷ cs)) g f)
tokens_same (symbol e f t) (symbol g h u) = same_rest (tokens_same t u)
tokens_same (symbol e f t) (other g h k u) = absurd (k refl)
tokens_same (other e f g t) (comment u) = absurd (f refl)
tokens_same (other {c = c} e f g t) (gap h u) = absurd (true_is_not_false (is_blank c) h e)
tokens_same (other e f g t) (word h u) = absurd (g refl)
tokens_same (other e f g t) (control_space h u) = absurd (g refl)
tokens_same (other e f g t) (symbol h k u) = absurd (g refl)
tokens_same (other e f g t) (other h k l u) = same_rest (tokens_same t u)

pub lexes_same : (source : List ℕ) (a b : Answer (List Token)) → Lexes source a → Lexes source b → a ≡ b
lexes_same source a b (refused e) (refused f) = cc
lexes_same source a b (refused e) (cut f u) = absurd cc
lexes_same source a b (cut e t) (refused f) = absurd cc
lexes_same source a b (cut e t) (cut f u) = ap balanced (tokens_same t u)
