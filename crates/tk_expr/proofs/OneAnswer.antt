-- Tokens have one answer.
use Rattle.std.proofs.Common.{◌≡◌, ℕ, List, [], ◌∷◌, ◌++◌, drop, refl, sym, ap, ap₂, subst, ◌∙◌, arith, append_assoc, append-nil}
use Rattle.tk_token.specs.declared.Code.TheVariants.{TooDeep, Expression}
use Rattle.tk_token.specs.Answers.{Answer, fault}
use Rattle.tk_token.specs.declared.Tok.{Tok}
use Rattle.tk_expr.specs.declared.FontUnits.{FontUnits}
use Rattle.tk_expr.specs.declared.Value.{Value}
use Rattle.tk_expr.specs.declared.pieces.Mark.{Mark}
use Rattle.tk_expr.specs.declared.pieces.Piece.{Piece}
use Rattle.tk_expr.specs.Tree.{Tree}
use Rattle.tk_expr.specs.Grammar.{IsText}
use Rattle.tk_expr.specs.Faults.{IsBeginning, Opener, Call, unanswered, open_in, IsShallow, IsMiscount, too_many, too_few}
use Rattle.tk_token.specs.Places.{end_of}
use Rattle.tk_expr.specs.Evaluates.{has_unit, valued, IsMisfit, IsTooDeep, IsAnswer, evaluates, misfit, miscount, too_deep, ends, Evaluates}
use Rattle.tk_expr.specs.Pieces.{pieces_of}
use Rattle.tk_expr.proofs.ProperPieces.{AllProper, pieces_are_proper}
use Rattle.tk_expr.proofs.Runs.{one_text}

-- ---- beginnings

head_of : Piece → List Piece → Piece
head_of p [] = p
head_of p (q ∷ qs) = q

-- where two places of one list stand to one another
data Order (b : List Piece) (x : Piece) (c : List Piece) (y : Piece) : Type 0 where
  alike : b ≡ c → x ≡ y → Order b x c y
  before : (m : List Piece) → c ≡ (b ++ x ∷ []) ++ m → Order b x c y
  behind : (m : List Piece) → b ≡ (c ++ y ∷ []) ++ m → Order b x c y

order_more : (p q : Piece) (b c : List Piece) (x y : Piece) → p ≡ q → Order b x c y → Order (p ∷ b) x (q ∷ c) y
order_more p q b c x y e (alike f g) = alike (ap₂ (λ p l. p ∷ l) e f) g
order_more p q b c x y e (before m f) = before m (ap₂ (λ p l. p ∷ l) (sym e) f)
order_more p q b c x y e (behind m f) = behind m (ap₂ (λ p l. p ∷ l) e f)

order_of_pieces : (b c : List Piece) (x y : Piece) (r q : List Piece) → b ++ x ∷ r ≡ c ++ y ∷ q → Order b x c y
unfolding head_of
order_of_pieces [] [] x y r q e = alike refl (ap (head_of x) e)
order_of_pieces [] (z ∷ c) x y r q e = before c (ap (λ p. p ∷ c) (sym (ap (head_of x) e)))
order_of_pieces (z ∷ b) [] x y r q e = behind b (ap (λ p. p ∷ b) (ap (head_of y) e))
order_of_pieces (z ∷ b) (w ∷ c) x y r q e =
    order_more z w b c x y (ap (head_of z) e) (order_of_pieces b c x y r q (ap (λ (l : List Piece). drop 1 l) e))

beginning_of_beginning : (b m : List Piece) → IsBeginning (b ++ m) → IsBeginning b
beginning_of_beginning b m h = record {
  rest = m ++ h.rest;
  tree = h.tree;
  reads = subst (λ (l : List Piece). IsText l h.tree)
      (append_assoc b m h.rest) h.reads;
}

shorter_of : (b c m : List Piece) → c ≡ b ++ m → IsBeginning c → IsBeginning b
shorter_of b c m e h = beginning_of_beginning b m (subst IsBeginning e h)

text_begins : (ps : List Piece) (t : Tree) → IsText ps t → IsBeginning ps
text_begins ps t h = record { rest = []; tree = t; reads = subst (λ (l : List Piece). IsText l t) (sym (append-nil ps)) h }

one_more : (b : List Piece) (x : Piece) (m : List Piece) → (b ++ x ∷ []) ++ m ≡ b ++ x ∷ m
one_more b x m = append_assoc b (x ∷ []) m

-- ---- the first piece that doesn't fit

module _ (ps : List Piece) where
  misfit_refutes : {b : List Piece} {x : Piece} → IsMisfit ps b x → IsBeginning ps → ⊥
  misfit_refutes {b = b} {x = x} m h = m.fits_not (shorter_of (b ++ x ∷ []) ps m.rest (m.split ∙ sym (one_more b x m.rest)) h)

  one_misfit : {b c : List Piece} {x y : Piece} → IsMisfit ps b x → IsMisfit ps c y → (b ≡ c) × (x ≡ y)
  one_misfit {b = b} {c = c} {x = x} {y = y} m n = by (order_of_pieces b c x y m.rest n.rest (sym m.split ∙ n.split))
    where
      by : Order b x c y → (b ≡ c) × (x ≡ y)
      by (alike e f) = (e, f)
      by (before l e) = absurd (m.fits_not (shorter_of (b ++ x ∷ []) c l e n.beginning))
      by (behind l e) = absurd (n.fits_not (shorter_of (c ++ y ∷ []) b l e m.beginning))

  -- the 65th opener
  deep_refutes : {b c : List Piece} {x : Piece} (m : List Piece) → IsTooDeep ps b x → c ≡ (b ++ x ∷ []) ++ m → IsShallow c → ⊥
  deep_refutes {b = b} {x = x} m d e h = let le = h (b ++ x ∷ []) m e in let long = d.deep in omega (arith, le, long)

  all_refutes : {b : List Piece} {x : Piece} → IsTooDeep ps b x → IsShallow ps → ⊥
  all_refutes {b = b} {x = x} d h = deep_refutes d.rest d (d.split ∙ sym (one_more b x d.rest)) h

  misfit_deep : {b c : List Piece} {x y : Piece} → IsMisfit ps b x → IsTooDeep ps c y → ⊥
  misfit_deep {b = b} {c = c} {x = x} {y = y} m d = by (order_of_pieces b c x y m.rest d.rest (sym m.split ∙ d.split))
    where
      by : Order b x c y → ⊥
      by (alike e f) = m.fits_not (subst IsBeginning (sym (ap₂ (λ l z. l ++ z ∷ []) e f)) d.beginning)
      by (before l e) = m.fits_not (shorter_of (b ++ x ∷ []) (c ++ y ∷ []) (l ++ y ∷ []) (ap (λ k. k ++ y ∷ []) e
          ∙ append_assoc (b ++ x ∷ []) l (y ∷ [])) d.beginning)
      by (behind l e) = deep_refutes l d e m.shallow

  one_deep : {b c : List Piece} {x y : Piece} → IsTooDeep ps b x → IsTooDeep ps c y → x ≡ y
  one_deep {b = b} {c = c} {x = x} {y = y} d f = by (order_of_pieces b c x y d.rest f.rest (sym d.split ∙ f.split))
    where
      by : Order b x c y → x ≡ y
      by (alike e g) = g
      by (before l e) = absurd (deep_refutes l d e f.shallow)
      by (behind l e) = absurd (deep_refutes l f e d.shallow)

-- ---- the name of a call

name_is : (openers : List Opener) (m n : ℕ) (os rs : List Opener) → openers ≡ Call m ∷ os → openers ≡ Call n ∷ rs → m ≡ n
name_is openers m n os rs e f =
    ap (λ (l : List Opener). elim l as (λ _. ℕ) [ [] ↦ m | o ∷ _ ↦ elim o as (λ _. ℕ) [ Call i ↦ i | _ ↦ m ] ]) (sym e ∙ f)

one_name : (b : List Piece) (m n : ℕ) (x : Mark) → IsMiscount b m x → IsMiscount b n x → m ≡ n
one_name b m n x (too_many at {openers = os} e h) (too_many k {openers = rs} f g) = name_is (unanswered (open_in b)) m n os rs e f
one_name b m n x (too_few at {openers = os} e h) (too_few k {openers = rs} f g) = name_is (unanswered (open_in b)) m n os rs e f

-- a miscount at one misfit is one at the other
as_miscount : (ps b c : List Piece) (x y : Piece) (n : ℕ) → (b ≡ c) × (x ≡ y) → IsMiscount b n x.mark → IsMiscount c n y.mark
as_miscount ps b c x y n (e, f) h = subst (λ (z : Piece). IsMiscount c n z.mark) f (subst (λ (l : List Piece). IsMiscount l n x.mark) e h)

-- ---- one answer

module _ (font : FontUnits) (end : ℕ) (ps : List Piece) (all : AllProper ps) where
  fault_at : {x y : Piece} → x ≡ y → let a : Answer Value = fault Expression x.at in a ≡ fault Expression y.at
  fault_at e = ap (λ (p : Piece). let a : Answer Value = fault Expression p.at in a) e

  deep_at : {x y : Piece} → x ≡ y → let a : Answer Value = fault TooDeep x.at in a ≡ fault TooDeep y.at
  deep_at e = ap (λ (p : Piece). let a : Answer Value = fault TooDeep p.at in a) e

  name_at : {m n : ℕ} → m ≡ n → let a : Answer Value = fault Expression m in a ≡ fault Expression n
  name_at e = ap (λ (n : ℕ). let a : Answer Value = fault Expression n in a) e

  pub one_answer : {a b : Answer Value} → IsAnswer font end ps a → IsAnswer font end ps b → a ≡ b
  one_answer (evaluates {t = t} i s) (evaluates {t = u} j r) = ap (valued (has_unit ps)) (one_text font ps t u all i j)
  one_answer (evaluates {t = t} i s) (misfit m n) = absurd (misfit_refutes ps m (text_begins ps t i))
  one_answer (evaluates {t = t} i s) (miscount m n) = absurd (misfit_refutes ps m (text_begins ps t i))
  one_answer (evaluates i s) (too_deep d) = absurd (all_refutes ps d s)
  one_answer (evaluates {t = t} i s) (ends b r h) = absurd (h t i)
  one_answer (misfit m n) (evaluates {t = t} i s) = absurd (misfit_refutes ps m (text_begins ps t i))
  one_answer (misfit m n) (misfit k l) = fault_at (one_misfit ps m k).1
  one_answer (misfit {before = b} {x = x} m n) (miscount {before = c} {x = y} {name = i} k l) =
      let same = one_misfit ps k m in absurd (n i (as_miscount ps c b y x i same l))
  one_answer (misfit m n) (too_deep d) = absurd (misfit_deep ps m d)
  one_answer (misfit m n) (ends b r h) = absurd (misfit_refutes ps m b)
  one_answer (miscount m n) (evaluates {t = t} i s) = absurd (misfit_refutes ps m (text_begins ps t i))
  one_answer (miscount {before = b} {x = x} {name = i} m n) (misfit {before = c} {x = y} k l) =
      let same = one_misfit ps m k in absurd (l i (as_miscount ps b c x y i same n))
  one_answer (miscount {before = b} {x = x} {name = i} m n) (miscount {before = c} {x = y} {name = j} k l) =
      let same = one_misfit ps m k in name_at (one_name c i j y.mark (as_miscount ps b c x y i same n) l)
  one_answer (miscount m n) (too_deep d) = absurd (misfit_deep ps m d)
  one_answer (miscount m n) (ends b r h) = absurd (misfit_refutes ps m b)
  one_answer (too_deep d) (evaluates i s) = absurd (all_refutes ps d s)
  one_answer (too_deep d) (misfit m n) = absurd (misfit_deep ps m d)
  one_answer (too_deep d) (miscount m n) = absurd (misfit_deep ps m d)
  one_answer (too_deep d) (too_deep f) = deep_at (one_deep ps d f)
  one_answer (too_deep d) (ends b r h) = absurd (all_refutes ps d r)
  one_answer (ends b r h) (evaluates {t = t} i s) = absurd (h t i)
  one_answer (ends b r h) (misfit m n) = absurd (misfit_refutes ps m b)
  one_answer (ends b r h) (miscount m n) = absurd (misfit_refutes ps m b)
  one_answer (ends b r h) (too_deep d) = absurd (all_refutes ps d r)
  one_answer (ends b r h) (ends c s k) = refl

-- no tokens have two answers
pub a_text_has_one_answer : (font : FontUnits) (at : ℕ) (toks : List Tok) (a b : Answer Value) → Evaluates font at toks a → Evaluates font at toks b
    → a ≡ b
a_text_has_one_answer font at toks a b i j = one_answer font (end_of at toks) (pieces_of toks) (pieces_are_proper toks) i j
