-- One piece behind an operand.
use Rattle.std.proofs.Common.{◌≡◌, ◌⊎◌, ◌↔◌, inl, inr, ℕ, Bool, true, false, cond, nat_lt, List, ◌∷◌, length, is_some, Option, Some, None, Ok, refl}
use Rattle.std.proofs.Common.{sym, ap, subst, ◌∙◌, ◌||◌, ltb-true, ltb-false}
use Rattle.tk_num.specs.declared.unit.Unit.{Unit as AUnit}
use Rattle.tk_token.specs.declared.Code.TheVariants.{TooDeep, Expression}
use Rattle.tk_token.specs.Answers.{Answer, fault}
use Rattle.tk_expr.specs.declared.FontUnits.{FontUnits}
use Rattle.tk_expr.specs.declared.operators.Operator.{Operator}
use Rattle.tk_expr.specs.declared.operators.Operator.TheVariants.{Raise, Multiply, Divide, Add, Subtract, Same as Equal, Differs, AtMost, AtLeast}
use Rattle.tk_expr.specs.declared.operators.Operator.TheVariants.{Below, Above, Both, Either}
use Rattle.tk_expr.specs.declared.pieces.Mark.{Mark}
use Rattle.tk_expr.specs.declared.pieces.Mark.TheVariants.{Measure, Radian, Plus, Minus, Star, Slash, Caret, Bar, Ampersand, Equals, Bang, Less}
use Rattle.tk_expr.specs.declared.pieces.Mark.TheVariants.{Greater, Question, Colon, Comma, Right, Gap}
use Rattle.tk_expr.specs.declared.pieces.Piece.{Piece}
use Rattle.tk_expr.specs.declared.machine.Waiting.{Waiting}
use Rattle.tk_expr.specs.declared.machine.Pending.{Pending}
use Rattle.tk_expr.specs.declared.machine.OpenFrame.{OpenFrame}
use Rattle.tk_expr.specs.declared.machine.OpenFrame.TheVariants.{Then}
use Rattle.tk_expr.specs.declared.machine.Mode.{Mode}
use Rattle.tk_expr.specs.declared.machine.Mode.TheVariants.{Wanted, Ordered, Half, After}
use Rattle.tk_expr.specs.Evaluates.{is_unit}
use Rattle.tk_expr.specs.Faults.{Opener, name_behind, open_behind}
use Rattle.tk_expr.specs.Grammar.{piece, Postfixes, Powers, Products, Sums, Comparisons, Conjunctions, Disjunctions}
use Rattle.tk_expr.specs.Machine.{Found, ExprState, nothing, applied, powered, multiplied, added, compared, conjoined, disjoined, waiting, product_waits}
use Rattle.tk_expr.specs.Machine.{sum_waits, comparison_waits, waits, wanted_in, with_frame, operator, comparison, after}
use Rattle.tk_expr.proofs.Readings.{unit_found, radians_found, Goes, Exponential}
use Rattle.tk_expr.proofs.Continuations.{Behind, Via, after_disjunction, after_conjunction, after_comparison, comparing, after_sum, after_product}
use Rattle.tk_expr.proofs.Continuations.{after_signed, after_postfix, after_primary, wants, directly, ends_in, Completes}
use Rattle.tk_expr.proofs.Closing.{HalfMode}
use Rattle.tk_expr.proofs.Ends.{Unnamed, EndIs, right_is, comma_is, colon_is}
use Rattle.tk_expr.proofs.Fronts.{is_gap, OperatorAt, operator_in, operator_on, ChoiceAt, choice_on}
use Rattle.tk_expr.proofs.Gaps.{pass_primary, pass_ends}
use Rattle.tk_expr.proofs.Levels.{only_left, via_map, to_power, to_factor, to_summand, to_comparand, to_conjunct, to_disjunct, to_choice, to_end}
use Rattle.tk_expr.proofs.Levels.{IsNot, Refuses, from_power, from_factor, from_summand, from_comparand, from_conjunct, from_disjunct, from_choice}
use Rattle.tk_expr.proofs.Levels.{refuse_disjunction, refuse_conjunction, refuse_comparison, refuse_sum, refuse_product, refuse_signed}
use Rattle.tk_expr.proofs.Levels.{refuse_postfix, refuse_primary, no_ends, is_end, fresh_product, fresh_sum, fresh_comparison, fresh_conjunction}
use Rattle.tk_expr.proofs.Levels.{fresh_disjunction, fresh_whole, Tidy}
use Rattle.tk_expr.proofs.Outcomes.{Opens, NamedAt, Ahead, NoMiscount, FramesTidy, Kept, steps, refuses, StepIs, sure, deep, Same, sure_as}
use Rattle.tk_expr.proofs.SignRuns.{signed_none}

pub only_right : {A B : Type 0} → (A → ⊥) → A ⊎ B → B
only_right non (inl a) = absurd (non a)
only_right non (inr b) = b

-- what no mark of that name does
never : Behind → Found → ℕ → List Piece → ⊥ → ⊥
never k x at ps h = h

module _ (font : FontUnits) where
  -- ---- what refuses a mark

  abbrev pub IsNoChoice : Mark → Type 1
  IsNoChoice m = (k : Behind) (x : Found) (at : ℕ) (ps : List Piece) → ChoiceAt font k x m at ps → ⊥

  module _ (m : Mark) (g : is_gap m ≡ false) (e : is_end font m ≡ false) (c : IsNoChoice m) (p : Pending) (fs : List OpenFrame) (v : Found) where
    shut_disjunction : Refuses font m (after_disjunction font (ends_in font fs v))
    shut_disjunction = refuse_disjunction font m g p (ends_in font fs v) (λ x at ps h. c (ends_in font fs v) x at ps h) (no_ends font m g e fs v)

    shut_conjunction : IsNot font Disjunctions m → Refuses font m (after_conjunction font p (ends_in font fs v))
    shut_conjunction n6 = refuse_conjunction font m g p (ends_in font fs v) n6 shut_disjunction

    shut_comparison : IsNot font Conjunctions m → IsNot font Disjunctions m → Refuses font m (after_comparison font p (ends_in font fs v))
    shut_comparison n5 n6 = refuse_comparison font m g p (ends_in font fs v) n5 (shut_conjunction n6)

    shut_sum : IsNot font Comparisons m → IsNot font Conjunctions m → IsNot font Disjunctions m
        → Refuses font m (after_sum font p (ends_in font fs v))
    shut_sum n4 n5 n6 = refuse_sum font m g p (ends_in font fs v) n4 (shut_comparison n5 n6)

    shut_product : IsNot font Sums m → IsNot font Comparisons m → IsNot font Conjunctions m → IsNot font Disjunctions m
        → Refuses font m (after_product font p (ends_in font fs v))
    shut_product n3 n4 n5 n6 = refuse_product font m g p (ends_in font fs v) n3 (shut_sum n4 n5 n6)

    shut_signed : IsNot font Products m → IsNot font Sums m → IsNot font Comparisons m → IsNot font Conjunctions m → IsNot font Disjunctions m
        → Refuses font m (after_signed font p (ends_in font fs v))
    shut_signed n2 n3 n4 n5 n6 = refuse_signed font m g p (ends_in font fs v) n2 (shut_product n3 n4 n5 n6)

    shut_postfix : IsNot font Powers m → IsNot font Products m → IsNot font Sums m → IsNot font Comparisons m → IsNot font Conjunctions m
        → IsNot font Disjunctions m → Refuses font m (after_postfix font p (ends_in font fs v))
    shut_postfix n1 n2 n3 n4 n5 n6 = refuse_postfix font m g p (ends_in font fs v) n1 (shut_signed n2 n3 n4 n5 n6)

    shut_primary : IsNot font Postfixes m → IsNot font Powers m → IsNot font Products m → IsNot font Sums m → IsNot font Comparisons m
        → IsNot font Conjunctions m → IsNot font Disjunctions m → Refuses font m (after_primary font p (ends_in font fs v))
    shut_primary n0 n1 n2 n3 n4 n5 n6 = refuse_primary font m g p (ends_in font fs v) n0 (shut_postfix n1 n2 n3 n4 n5 n6)

  -- ---- what waits behind an operator

  waits_same : (w w' : Behind) (r : Behind) → ((x : Found) (ps : List Piece) → w x ps ↔ w' x ps) → Via r w ↔ Via r w'
  waits_same w w' r f = (λ h. via_map r w w' (λ x ps. (f x ps).0) h, λ h. via_map r w' w (λ x ps. (f x ps).1) h)

  powered_fresh : (at : ℕ) (x w : Found) (p : Pending) → powered (waits Raise at x p) w ≡ applied (waiting Raise at (powered p x)) w
  unfolding powered
  powered_fresh at x w p = ap (applied (waiting Raise at (powered p x))) (signed_none w)

  raise_same : (at : ℕ) (x : Found) (p : Pending) (k : Behind) (ps : List Piece)
      → Via (Exponential font ps) (λ w qs. Via (Goes font Powers (applied (waiting Raise at (powered p x)) w) qs) (after_signed font p k))
      ↔ Via (Exponential font ps) (after_postfix font (waits Raise at x p) k)
  raise_same at x p k ps = waits_same _ _ (Exponential font ps) (λ w qs. (
    λ h. subst (λ y. Via (Goes font Powers y qs) (after_signed font p k))
        (sym (powered_fresh at x w p)) h,
    λ h. subst (λ y. Via (Goes font Powers y qs) (after_signed font p k)) (powered_fresh at x w p) h,
  ))

  -- a comparison, where none waits
  comparand_in : (w : Option Waiting) (m : Mark) (g : is_gap m ≡ false) (p : Pending) (k : Behind) (x : Found) (at : ℕ) (ps : List Piece)
      → p.comparison ≡ w → w ≡ None → comparing font p.comparison (after_comparison font p k) (added p x) (piece m at ∷ ps)
      → Via (Goes font Comparisons (compared p x) (piece m at ∷ ps)) (after_comparison font p k)
  unfolding compared
  comparand_in w m g p k x at ps is e h =
      let alone = is ∙ e in
      subst (λ (w : Option Waiting). Via (Goes font Comparisons (applied w (added p x)) (piece m at ∷ ps)) (after_comparison font p k)) (sym alone)
      (subst (λ (w : Option Waiting). comparing font w (after_comparison font p k) (added p x) (piece m at ∷ ps)) alone h)

  comparand_on : (m : Mark) (p : Pending) (k : Behind) (x : Found) (at : ℕ) (ps : List Piece) → p.comparison ≡ None
      → Via (Goes font Comparisons (compared p x) (piece m at ∷ ps)) (after_comparison font p k)
      → comparing font p.comparison (after_comparison font p k) (added p x) (piece m at ∷ ps)
  unfolding compared
  comparand_on m p k x at ps alone h =
      subst (λ (w : Option Waiting). comparing font w (after_comparison font p k) (added p x) (piece m at ∷ ps)) (sym alone)
      (subst (λ (w : Option Waiting). Via (Goes font Comparisons (applied w (added p x)) (piece m at ∷ ps)) (after_comparison font p k)) alone h)

  -- ---- the states behind a piece

  module _ (s : ExprState) (t : FramesTidy font s.frames) where
    -- the same frames and unit
    pub kept_mode : (m : Mark) (at : ℕ) (mode : Mode) (p : Pending) → HalfMode font mode → Tidy font p → is_unit m ≡ false
        → ((name : Option ℕ) (os : List Opener) → open_behind name os m ≡ os)
        → ((name : Option ℕ) → Unnamed font name → NamedAt mode (name_behind name m at))
        → Kept font (Unnamed font) s.frames s.unit m at (record s { mode = mode; pending = p })
    kept_mode m at mode p half tidy u same named = record {
      valid = record { half = half; tidy = tidy; frames = t };
      unit_is = ap (λ (b : Bool). ◌||◌ b s.unit) (sym u);
      opens = λ name os e h. (subst (Opens s.frames) (sym (same name os)) h, named name e);
    }

  -- an opener
  pub opened_is : (c : Ahead) (right comma : ℕ → Ahead) (fits : Option ℕ → Type 0) (m : Mark) (at : ℕ) (f : OpenFrame) (s : ExprState)
      → Same font c (Completes font (wanted_in (f ∷ s.frames) s)) → Kept font fits s.frames s.unit m at (wanted_in (f ∷ s.frames) s)
      → StepIs font c right comma fits s.frames s.unit m at (with_frame at f s)
  opened_is c right comma fits m at f s same kept = by (nat_lt (length s.frames) 64) refl
    where
      by : (b : Bool) → nat_lt (length s.frames) 64 ≡ b
          → StepIs font c right comma fits s.frames s.unit m at (cond b (Ok (wanted_in (f ∷ s.frames) s)) (fault TooDeep at))
      by true e = sure (steps (wanted_in (f ∷ s.frames) s) same kept (λ le. ltb-true (length s.frames) 64 e))
      by false e = deep (wanted_in (f ∷ s.frames) s) same kept (ltb-false (length s.frames) 64 e) refl

  -- behind an operand x of the state's innermost expression
  abbrev pub BehindIs : Found → ExprState → Mark → ℕ → Answer ExprState → Type 0
  BehindIs x s m at r = StepIs font (λ ps v. after_primary font s.pending (ends_in font s.frames v) x (piece m at ∷ ps)) (λ k ps v. after_primary font
      s.pending (ends_in font s.frames v) x (piece Right k ∷ ps)) (λ k ps v. after_primary font s.pending (ends_in font s.frames v) x (piece Comma k
      ∷ ps)) (Unnamed font) s.frames s.unit m at r

  -- ---- operators

  operator_is : (m : Mark) (o : Operator) (mode : Mode) (at : ℕ) (x : Found) (s : ExprState) → FramesTidy font s.frames → HalfMode font mode
      → Tidy font (waits o at x s.pending) → is_unit m ≡ false → ((name : Option ℕ) (os : List Opener) → open_behind name os m ≡ os)
      → ((name : Option ℕ) → Unnamed font name → NamedAt mode (name_behind name m at))
      → Same font (λ ps v. after_primary font s.pending (ends_in font s.frames v) x (piece m at ∷ ps))
      (Completes font (record s { mode = mode; pending = waits o at x s.pending }))
      → BehindIs x s m at (operator o mode at x s)
  operator_is m o mode at x s t half tidy u same named iff =
      sure (steps (record s { mode = mode; pending = waits o at x s.pending }) iff (kept_mode s t m at mode (waits o at x s.pending) half tidy u same
      named) (λ le. le))

  module _ (at : ℕ) (x : Found) (p : Pending) (fs : List OpenFrame) (ps : List Piece) (v : Found) where
    caret_same : after_primary font p (ends_in font fs v) x (piece Caret at ∷ ps) ↔ wants font (waits Raise at x p).power (waits Raise at x p)
        (ends_in font fs v) ps
    caret_same =
        let k = ends_in font fs v in
        let f = raise_same at x p k ps in (
          λ h. f.0 (only_right (shut_signed Caret refl refl never p fs v never never never never never (powered p x) at ps)
              (operator_in font Caret at ps (after_signed font p k) refl (from_power font Caret refl p k x at ps never h))),
          λ h. to_power font p k x (piece Caret at ∷ ps) (operator_on font Powers (after_signed font p k) (powered p x) Caret at ps (f.1 h)),
        )

    star_same : after_primary font p (ends_in font fs v) x (piece Star at ∷ ps) ↔ wants font None (waits Multiply at x p) (ends_in font fs v) ps
    star_same =
        let k = ends_in font fs v in
        let f = fresh_product font (product_waits Multiply at x p) k ps in (
          λ h. f.0 (only_right (shut_product Star refl refl never p fs v never never never never (multiplied p x) at ps) (operator_in font Star at ps
              (after_product font p k) refl (from_factor font Star refl p k x at ps never never h))),
          λ h. to_factor font p k x (piece Star at ∷ ps) (operator_on font Products (after_product font p k) (multiplied p x) Star at ps (f.1 h)),
        )

    slash_same : after_primary font p (ends_in font fs v) x (piece Slash at ∷ ps) ↔ wants font None (waits Divide at x p) (ends_in font fs v) ps
    slash_same =
        let k = ends_in font fs v in
        let f = fresh_product font (product_waits Divide at x p) k ps in (
          λ h. f.0 (only_right (shut_product Slash refl refl never p fs v never never never never (multiplied p x) at ps)
              (operator_in font Slash at ps (after_product font p k) refl (from_factor font Slash refl p k x at ps never never h))),
          λ h. to_factor font p k x (piece Slash at ∷ ps) (operator_on font Products (after_product font p k) (multiplied p x) Slash at ps (f.1 h)),
        )

    plus_same : after_primary font p (ends_in font fs v) x (piece Plus at ∷ ps) ↔ wants font None (waits Add at x p) (ends_in font fs v) ps
    plus_same =
        let k = ends_in font fs v in
        let f = fresh_sum font (sum_waits Add at x p) k ps in (
          λ h. f.0 (only_right (shut_sum Plus refl refl never p fs v never never never (added p x) at ps) (operator_in font Plus at ps
              (after_sum font p k) refl (from_summand font Plus refl p k x at ps never never never h))),
          λ h. to_summand font p k x (piece Plus at ∷ ps) (operator_on font Sums (after_sum font p k) (added p x) Plus at ps (f.1 h)),
        )

    minus_same : after_primary font p (ends_in font fs v) x (piece Minus at ∷ ps) ↔ wants font None (waits Subtract at x p) (ends_in font fs v) ps
    minus_same =
        let k = ends_in font fs v in
        let f = fresh_sum font (sum_waits Subtract at x p) k ps in (
          λ h. f.0 (only_right (shut_sum Minus refl refl never p fs v never never never (added p x) at ps) (operator_in font Minus at ps
              (after_sum font p k) refl (from_summand font Minus refl p k x at ps never never never h))),
          λ h. to_summand font p k x (piece Minus at ∷ ps) (operator_on font Sums (after_sum font p k) (added p x) Minus at ps (f.1 h)),
        )

    both_same : after_primary font p (ends_in font fs v) x (piece Ampersand at ∷ ps)
        ↔ directly font Ampersand (wants font None (waits Both at x p) (ends_in font fs v)) ps
    both_same =
        let k = ends_in font fs v in
        let f = λ (qs : List Piece). fresh_conjunction font (waits Both at x p) k qs in (
          λ h. let (n, qs, e, g) = only_right (shut_conjunction Ampersand refl refl never p fs v never (conjoined p x) at ps) (operator_in font Ampersand at ps (after_conjunction font p k) refl (from_conjunct font Ampersand refl p k x at ps never never never never never h)) in (n, qs, e, (f qs).0 g),
          λ (n, qs, e, g). to_conjunct font p k x (piece Ampersand at ∷ ps) (operator_on font Conjunctions (after_conjunction font p k)
              (conjoined p x) Ampersand at ps (n, qs, e, (f qs).1 g)),
        )

    either_same : after_primary font p (ends_in font fs v) x (piece Bar at ∷ ps)
        ↔ directly font Bar (wants font None (waits Either at x p) (ends_in font fs v)) ps
    either_same =
        let k = ends_in font fs v in
        let f = λ (qs : List Piece). fresh_disjunction font (waits Either at x p) k qs in (
          λ h. let (n, qs, e, g) = only_right (shut_disjunction Bar refl refl never p fs v (disjoined p x) at ps) (operator_in font Bar at ps (after_disjunction font k) refl (from_disjunct font Bar refl p k x at ps never never never never never never h)) in (n, qs, e, (f qs).0 g),
          λ (n, qs, e, g). to_disjunct font p k x (piece Bar at ∷ ps) (operator_on font Disjunctions (after_disjunction font k) (disjoined p x) Bar at
              ps (n, qs, e, (f qs).1 g)),
        )

  -- ---- comparisons

  -- the operators that a comparison's mark begins, as the mode behind the mark reads them
  module _ (at : ℕ) (x : Found) (p : Pending) (k : Behind) (ps : List Piece) where
    equals_same : OperatorAt font Comparisons (after_comparison font p k) (compared p x) Equals at ps
        ↔ directly font Equals (wants font None (waits Equal at x p) k) ps
    equals_same = let f = λ (qs : List Piece). fresh_comparison font (comparison_waits Equal at x p) k qs in (
      λ (n, qs, e, g). (n, qs, e, (f qs).0 g),
      λ (n, qs, e, g). (n, qs, e, (f qs).1 g),
    )

    differs_same : OperatorAt font Comparisons (after_comparison font p k) (compared p x) Bang at ps
        ↔ directly font Equals (wants font None (waits Differs at x p) k) ps
    differs_same = let f = λ (qs : List Piece). fresh_comparison font (comparison_waits Differs at x p) k qs in (
      λ (n, qs, e, g).
          (n, qs, e, (f qs).0 g),
      λ (n, qs, e, g). (n, qs, e, (f qs).1 g),
    )

    less_to : OperatorAt font Comparisons (after_comparison font p k) (compared p x) Less at ps
        → wants font None (waits Below at x p) k ps ⊎ directly font Equals (wants font None (waits AtMost at x p) k) ps
    less_to (inl h) = inl ((fresh_comparison font (comparison_waits Below at x p) k ps).0 h)
    less_to (inr (n, qs, e, g)) = inr (n, qs, e, (fresh_comparison font (comparison_waits AtMost at x p) k qs).0 g)

    less_from : wants font None (waits Below at x p) k ps ⊎ directly font Equals (wants font None (waits AtMost at x p) k) ps
        → OperatorAt font Comparisons (after_comparison font p k) (compared p x) Less at ps
    less_from (inl h) = inl ((fresh_comparison font (comparison_waits Below at x p) k ps).1 h)
    less_from (inr (n, qs, e, g)) = inr (n, qs, e, (fresh_comparison font (comparison_waits AtMost at x p) k qs).1 g)

    greater_to : OperatorAt font Comparisons (after_comparison font p k) (compared p x) Greater at ps
        → wants font None (waits Above at x p) k ps ⊎ directly font Equals (wants font None (waits AtLeast at x p) k) ps
    greater_to (inl h) = inl ((fresh_comparison font (comparison_waits Above at x p) k ps).0 h)
    greater_to (inr (n, qs, e, g)) = inr (n, qs, e, (fresh_comparison font (comparison_waits AtLeast at x p) k qs).0 g)

    greater_from : wants font None (waits Above at x p) k ps ⊎ directly font Equals (wants font None (waits AtLeast at x p) k) ps
        → OperatorAt font Comparisons (after_comparison font p k) (compared p x) Greater at ps
    greater_from (inl h) = inl ((fresh_comparison font (comparison_waits Above at x p) k ps).1 h)
    greater_from (inr (n, qs, e, g)) = inr (n, qs, e, (fresh_comparison font (comparison_waits AtLeast at x p) k qs).1 g)

  module _ (m : Mark) (g : is_gap m ≡ false) (e : is_end font m ≡ false) (c : IsNoChoice m) (n0 : IsNot font Postfixes m) (n1 : IsNot font Powers m)
      (n2 : IsNot font Products m) (n3 : IsNot font Sums m) (n5 : IsNot font Conjunctions m) (n6 : IsNot font Disjunctions m) where
    -- where none waits
    alone_same : (at : ℕ) (x : Found) (p : Pending) (fs : List OpenFrame) (ps : List Piece) (v : Found) → p.comparison ≡ None → (r : Type 0)
        → OperatorAt font Comparisons (after_comparison font p (ends_in font fs v)) (compared p x) m at ps ↔ r
        → after_primary font p (ends_in font fs v) x (piece m at ∷ ps) ↔ r
    alone_same at x p fs ps v alone r f =
        let k = ends_in font fs v in (
          λ h. f.0 (only_right (shut_comparison m g e c p fs v n5 n6 (compared p x) at ps) (operator_in font m at ps (after_comparison font p k) g
              (comparand_in p.comparison m g p k x at ps refl alone (from_comparand font m g p k x at ps n0 n1 n2 n3 h)))),
          λ h. to_comparand font p k x (piece m at ∷ ps) (comparand_on m p k x at ps alone (operator_on font Comparisons (after_comparison font p k)
              (compared p x) m at ps (f.1 h))),
        )

    -- where one waits
    second_refused : (w : Waiting) (at : ℕ) (x : Found) (p : Pending) (fs : List OpenFrame) (ps : List Piece) (v : Found) → p.comparison ≡ Some w
        → after_primary font p (ends_in font fs v) x (piece m at ∷ ps) → ⊥
    second_refused w at x p fs ps v is h =
        let k = ends_in font fs v in
        shut_comparison m g e c p fs v n5 n6 (applied (Some w) (added p x)) at ps
        (subst (λ (w : Option Waiting). comparing font w (after_comparison font p k) (added p x) (piece m at ∷ ps)) is (from_comparand font m g p k x
        at ps n0 n1 n2 n3 h))

    comparison_is : (o : Operator) (mode : Mode) (at : ℕ) (x : Found) (s : ExprState) → FramesTidy font s.frames → HalfMode font mode
        → Tidy font (waits o at x s.pending) → is_unit m ≡ false → ((name : Option ℕ) (os : List Opener) → open_behind name os m ≡ os)
        → ((name : Option ℕ) → Unnamed font name → NamedAt mode (name_behind name m at)) → ((r c : ℕ → Ahead) → NoMiscount r c s.frames m)
        → ((ps : List Piece) (v : Found) → OperatorAt font Comparisons (after_comparison font s.pending (ends_in font s.frames v))
        (compared s.pending x) m at ps ↔ Completes font (record s { mode = mode; pending = waits o at x s.pending }) ps v)
        → BehindIs x s m at (comparison o mode at x s)
    comparison_is o mode at x s t half tidy u same named none iff = by s.pending.comparison refl
      where
        by : (w : Option Waiting) → s.pending.comparison ≡ w → BehindIs x s m at (cond (is_some w) (fault Expression at) (operator o mode at x s))
        by None is = operator_is m o mode at x s t half tidy u same named (λ ps v. alone_same at x s.pending s.frames ps v is _ (iff ps v))
        by (Some w) is = sure (refuses (λ ps v h. second_refused w at x s.pending s.frames ps v is h) (none _ _))

  -- ---- ends and choices

  end_same : (m : Mark) → is_gap m ≡ false → IsNoChoice m → IsNot font Postfixes m → IsNot font Powers m → IsNot font Products m → IsNot font Sums m
      → IsNot font Comparisons m → IsNot font Conjunctions m → IsNot font Disjunctions m
      → (x : Found) (p : Pending) (k : Behind) (at : ℕ) (ps : List Piece)
      → after_primary font p k x (piece m at ∷ ps) ↔ k (disjoined p x) (piece m at ∷ ps)
  end_same m g c n0 n1 n2 n3 n4 n5 n6 x p k at ps = (
    λ h. only_left (c k (disjoined p x) at ps) (from_choice font m g p k x at ps n0 n1 n2 n3 n4 n5 n6 h),
    λ h. to_end font p k x
        (piece m at ∷ ps) h,
  )

  end_is : (m : Mark) (at : ℕ) (x : Found) (s : ExprState) (r : Answer ExprState) → is_gap m ≡ false → IsNoChoice m → IsNot font Postfixes m
      → IsNot font Powers m → IsNot font Products m → IsNot font Sums m → IsNot font Comparisons m → IsNot font Conjunctions m
      → IsNot font Disjunctions m → EndIs font s.frames (disjoined s.pending x) s.unit m at r → BehindIs x s m at r
  end_is m at x s r g c n0 n1 n2 n3 n4 n5 n6 h =
      sure (sure_as font
      (λ ps v. end_same m g c n0 n1 n2 n3 n4 n5 n6 x s.pending (ends_in font s.frames v) at ps)
      (λ k ps v. end_same Right refl never never never never never never never never x s.pending (ends_in font s.frames v) k ps)
      (λ k ps v. end_same Comma refl never never never never never never never never x s.pending (ends_in font s.frames v) k ps)
      h)

  question_same : (at : ℕ) (x : Found) (p : Pending) (fs : List OpenFrame) (ps : List Piece) (v : Found)
      → after_primary font p (ends_in font fs v) x (piece Question at ∷ ps) ↔ wants font None nothing (ends_in font (Then (disjoined p x) ∷ fs) v) ps
  question_same at x p fs ps v =
      let k = ends_in font fs v in
      let f = fresh_whole font (ends_in font (Then (disjoined p x) ∷ fs) v) ps in (
        λ h. f.0 (only_right (no_ends font Question refl refl fs v (disjoined p x) at ps) (from_choice font Question refl p k x at ps never never
            never never never never never h)),
        λ h. to_choice font p k x (piece Question at ∷ ps) (choice_on font k (disjoined p x) at ps (f.1 h)),
      )

  -- ---- one piece

  -- a mark that stands behind no operand
  nothing_is : (m : Mark) (at : ℕ) (x : Found) (s : ExprState) → is_gap m ≡ false → is_end font m ≡ false → IsNoChoice m → IsNot font Postfixes m
      → IsNot font Powers m → IsNot font Products m → IsNot font Sums m → IsNot font Comparisons m → IsNot font Conjunctions m
      → IsNot font Disjunctions m → ((r c : ℕ → Ahead) → NoMiscount r c s.frames m) → BehindIs x s m at (fault Expression at)
  nothing_is m at x s g e c n0 n1 n2 n3 n4 n5 n6 none =
      sure (refuses (λ ps v h. shut_primary m g e c s.pending s.frames v n0 n1 n2 n3 n4 n5 n6 x at ps h) (none _ _))

  unit_same : (u : AUnit) (at : ℕ) (x : Found) (p : Pending) (fs : List OpenFrame) (ps : List Piece) (v : Found)
      → after_primary font p (ends_in font fs v) x (piece (Measure u) at ∷ ps) ↔ after_primary font p (ends_in font fs v) (unit_found font u at x) ps
  unit_same u at x p fs ps v =
      let k = ends_in font fs v in (
        λ h. only_right (shut_postfix (Measure u) refl refl never p fs v never never never never never never x at ps) (operator_in font (Measure u) at
            ps (after_postfix font p k) refl h),
        λ h. operator_on font Postfixes (after_postfix font p k) x (Measure u) at ps h,
      )

  radians_same : (at : ℕ) (x : Found) (p : Pending) (fs : List OpenFrame) (ps : List Piece) (v : Found)
      → after_primary font p (ends_in font fs v) x (piece Radian at ∷ ps) ↔ after_primary font p (ends_in font fs v) (radians_found at x) ps
  radians_same at x p fs ps v =
      let k = ends_in font fs v in (
        λ h. only_right (shut_postfix Radian refl refl never p fs v never never never never never never x at ps) (operator_in font Radian at ps
            (after_postfix font p k) refl h),
        λ h. operator_on font Postfixes (after_postfix font p k) x Radian at ps h,
      )

  gap_same : (at : ℕ) (x : Found) (p : Pending) (fs : List OpenFrame) (ps : List Piece) (v : Found)
      → after_primary font p (ends_in font fs v) x (piece Gap at ∷ ps) ↔ after_primary font p (ends_in font fs v) x ps
  gap_same at x p fs ps v = (
    λ h. pass_primary font p (ends_in font fs v) (pass_ends font fs v) x (piece Gap at ∷ ps) ps refl h,
    λ h. pass_primary
        font p (ends_in font fs v) (pass_ends font fs v) x ps (piece Gap at ∷ ps) refl h,
  )

  pub after_is : (x : Found) (m : Mark) (at : ℕ) (s : ExprState) → Tidy font s.pending → FramesTidy font s.frames
      → BehindIs x s m at (after font x m at s)
  after_is x (Measure u) at s p t = sure (steps (record s { mode = After (unit_found font u at x); unit = true }) (λ ps v. unit_same u at x s.pending
      s.frames ps v) (record { valid = record { half = tt; tidy = p; frames = t }; unit_is = refl; opens = λ name os e h. (h, refl) }) (λ le. le))
  after_is x Radian at s p t = sure (steps (record s { mode = After (radians_found at x) }) (λ ps v. radians_same at x s.pending s.frames ps v)
      (kept_mode s t Radian at (After (radians_found at x)) s.pending tt p refl (λ name os. refl) (λ name e. refl)) (λ le. le))
  after_is x Caret at s p t =
      operator_is Caret Raise Wanted at x s t tt (λ e. refl) refl (λ name os. refl) (λ name e. refl) (λ ps v. caret_same at x s.pending s.frames ps v)
  after_is x Star at s p t = operator_is Star Multiply Wanted at x s t tt (λ e. refl) refl (λ name os. refl) (λ name e. refl)
      (λ ps v. star_same at x s.pending s.frames ps v)
  after_is x Slash at s p t = operator_is Slash Divide Wanted at x s t tt (λ e. refl) refl (λ name os. refl) (λ name e. refl)
      (λ ps v. slash_same at x s.pending s.frames ps v)
  after_is x Plus at s p t =
      operator_is Plus Add Wanted at x s t tt (λ e. refl) refl (λ name os. refl) (λ name e. refl) (λ ps v. plus_same at x s.pending s.frames ps v)
  after_is x Minus at s p t = operator_is Minus Subtract Wanted at x s t tt (λ e. refl) refl (λ name os. refl) (λ name e. refl)
      (λ ps v. minus_same at x s.pending s.frames ps v)
  after_is x Less at s p t = comparison_is Less refl refl never never never never never never never Below Ordered at x s t tt (λ e. refl) refl
      (λ name os. refl) (λ name e. refl) (λ r c. tt) (λ ps v. (
        less_to at x s.pending (ends_in font s.frames v) ps,
        less_from at x s.pending
            (ends_in font s.frames v) ps,
      ))
  after_is x Greater at s p t = comparison_is Greater refl refl never never never never never never never Above Ordered at x s t tt (λ e. refl) refl
      (λ name os. refl) (λ name e. refl) (λ r c. tt) (λ ps v. (
        greater_to at x s.pending (ends_in font s.frames v) ps,
        greater_from at x s.pending
            (ends_in font s.frames v) ps,
      ))
  after_is x Equals at s p t = comparison_is Equals refl refl never never never never never never never Equal (Half Equals) at x s t tt (λ e. refl)
      refl (λ name os. refl) (λ name e. refl) (λ r c. tt) (λ ps v. equals_same at x s.pending (ends_in font s.frames v) ps)
  after_is x Bang at s p t = comparison_is Bang refl refl never never never never never never never Differs (Half Equals) at x s t tt (λ e. refl) refl
      (λ name os. refl) (λ name e. refl) (λ r c. tt) (λ ps v. differs_same at x s.pending (ends_in font s.frames v) ps)
  after_is x Ampersand at s p t = operator_is Ampersand Both (Half Ampersand) at x s t tt (λ e. refl) refl (λ name os. refl) (λ name e. refl)
      (λ ps v. both_same at x s.pending s.frames ps v)
  after_is x Bar at s p t = operator_is Bar Either (Half Bar) at x s t tt (λ e. refl) refl (λ name os. refl) (λ name e. refl)
      (λ ps v. either_same at x s.pending s.frames ps v)
  after_is x Question at s p t = opened_is _ _ _ (Unnamed font) Question at (Then (disjoined s.pending x)) s (λ ps v. question_same at x s.pending
      s.frames ps v) (record { valid = record { half = tt; tidy = λ e. refl; frames = t }; unit_is = refl; opens = λ name os e h. ((tt, h), refl) })
  after_is x Colon at s p t =
      end_is Colon at x s _ refl never never never never never never never never (colon_is font s.frames (disjoined s.pending x) s.unit at s refl t)
  after_is x Comma at s p t =
      end_is Comma at x s _ refl never never never never never never never never (comma_is font s.frames (disjoined s.pending x) s.unit at s refl t)
  after_is x Right at s p t =
      end_is Right at x s _ refl never never never never never never never never (right_is font s.frames (disjoined s.pending x) s.unit at s refl t)
  after_is x Gap at s p t = sure (steps (record s { mode = After x }) (λ ps v. gap_same at x s.pending s.frames ps v)
      (record { valid = record { half = tt; tidy = p; frames = t }; unit_is = refl; opens = λ name os e h. (h, e) }) (λ le. le))
  after_is x m at s p t = nothing_is m at x s refl refl never never never never never never never never (λ r c. tt)
