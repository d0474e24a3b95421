-- What the piece in front of a text tells of it.
use Rattle.std.proofs.Common.{◌≡◌, ◌⊎◌, inl, inr, ℕ, nat_lt, Bool, true, false, true≢false, List, [], ◌∷◌, None, Ok, refl, sym, ap, subst, ◌∙◌}
use Rattle.tk_expr.specs.declared.FontUnits.{FontUnits}
use Rattle.tk_expr.specs.declared.operators.Operator.{Operator}
use Rattle.tk_expr.specs.declared.operators.Operator.TheVariants.{Raise, Multiply, Divide, Add, Subtract, Same, Differs, AtMost, AtLeast, Below}
use Rattle.tk_expr.specs.declared.operators.Operator.TheVariants.{Above, Both, Either}
use Rattle.tk_expr.specs.declared.pieces.Mark.{Mark}
use Rattle.tk_expr.specs.declared.pieces.Mark.TheVariants.{Digit, Point, Measure, Radian, Pi, Single, Double, Several, Plus, Minus, Star, Slash}
use Rattle.tk_expr.specs.declared.pieces.Mark.TheVariants.{Caret, Bar, Ampersand, Equals, Bang, Less, Greater, Question, Colon, Left, Gap}
use Rattle.tk_expr.specs.declared.pieces.Piece.{Piece}
use Rattle.tk_expr.specs.declared.machine.Bracket.TheVariants.{Plain, Only, First, Each}
use Rattle.tk_expr.specs.Number.{no_digits, with_digit}
use Rattle.tk_expr.specs.Values.{pi_value}
use Rattle.tk_expr.specs.Grammar.{piece, skip, past_gap, Precedence, Postfixes, Powers, Products, Sums, Comparisons, Conjunctions, Disjunctions}
use Rattle.tk_expr.specs.Grammar.{precedence_of, is_chain, Begins, Stands}
use Rattle.tk_expr.specs.Machine.{Found, applied, waiting, choice_found}
use Rattle.tk_expr.proofs.Readings.{unit_found, radians_found, Whole, Asks, unasked, asked, Part, Goes, stays, on_unit, on_radians, on_power}
use Rattle.tk_expr.proofs.Readings.{on_operator, on_comparison, Exponential, Primary, of_digits, of_point, of_parenthesis, of_pi, of_one, of_two}
use Rattle.tk_expr.proofs.Readings.{of_most}
use Rattle.tk_expr.proofs.Continuations.{Behind, Via, in_bracket, in_number, in_dot, in_name}

-- ---- the piece in front

abbrev pub is_gap : Mark → Bool
is_gap Gap = true
is_gap _ = false

pub past_solid : (m : Mark) (more ps : List Piece) → is_gap m ≡ false → past_gap m more ps ≡ ps
past_solid Gap more ps e = absurd (true≢false e)
past_solid _ more ps e = refl

abbrev head_mark : Mark → List Piece → Mark
head_mark m [] = m
head_mark m (p ∷ ps) = p.mark

abbrev head_at : List Piece → ℕ
head_at [] = 0
head_at (p ∷ ps) = p.at

abbrev tail_of : List Piece → List Piece
tail_of [] = []
tail_of (p ∷ ps) = ps

-- what holds of pieces that are read holds of those in front
pub front_to : (P : Mark → ℕ → List Piece → Type 0) (m n : Mark) (at k : ℕ) (ps qs : List Piece) → is_gap m ≡ false
    → skip (piece m at ∷ ps) ≡ piece n k ∷ qs → P n k qs → P m at ps
front_to P m n at k ps qs g e h =
    let same : piece m at ∷ ps ≡ piece n k ∷ qs = sym (past_solid m (skip ps) (piece m at ∷ ps) g) ∙ e in
    subst (λ (l : List Piece). P (head_mark m l) (head_at l) (tail_of l)) (sym same) h

-- and the other way round
pub front_from : (P : Mark → ℕ → List Piece → Type 0) (m n : Mark) (at k : ℕ) (ps qs : List Piece) → piece m at ∷ ps ≡ piece n k ∷ qs → P m at ps
    → P n k qs
front_from P m n at k ps qs e h = subst (λ (l : List Piece). P (head_mark m l) (head_at l) (tail_of l)) e h

-- ---- operators in front

module _ (font : FontUnits) where
  -- how a text goes on behind an operand, with an operator of the level whose mark is in front
  abbrev pub OperatorAt : Precedence → Behind → Found → Mark → ℕ → List Piece → Type 0
  OperatorAt Postfixes k x (Measure u) at ps = Via (Goes font Postfixes (unit_found font u at x) ps) k
  OperatorAt Postfixes k x Radian at ps = Via (Goes font Postfixes (radians_found at x) ps) k
  OperatorAt Powers k x Caret at ps = Via (Exponential font ps) (λ w qs. Via (Goes font Powers (applied (waiting Raise at x) w) qs) k)
  OperatorAt Products k x Star at ps = Via (Part font Products ps) (λ w qs. Via (Goes font Products (applied (waiting Multiply at x) w) qs) k)
  OperatorAt Products k x Slash at ps = Via (Part font Products ps) (λ w qs. Via (Goes font Products (applied (waiting Divide at x) w) qs) k)
  OperatorAt Sums k x Plus at ps = Via (Part font Sums ps) (λ w qs. Via (Goes font Sums (applied (waiting Add at x) w) qs) k)
  OperatorAt Sums k x Minus at ps = Via (Part font Sums ps) (λ w qs. Via (Goes font Sums (applied (waiting Subtract at x) w) qs) k)
  OperatorAt Comparisons k x Equals at ps =
      (n : ℕ) × (qs : List Piece) × (ps ≡ piece Equals n ∷ qs) × Via (Part font Comparisons qs) (λ w rs. k (applied (waiting Same at x) w) rs)
  OperatorAt Comparisons k x Bang at ps =
      (n : ℕ) × (qs : List Piece) × (ps ≡ piece Equals n ∷ qs) × Via (Part font Comparisons qs) (λ w rs. k (applied (waiting Differs at x) w) rs)
  OperatorAt Comparisons k x Less at ps =
      Via (Part font Comparisons ps) (λ w qs. k (applied (waiting Below at x) w) qs) ⊎ ((n : ℕ) × (qs : List Piece) × (ps ≡ piece Equals n ∷ qs)
      × Via (Part font Comparisons qs) (λ w rs. k (applied (waiting AtMost at x) w) rs))
  OperatorAt Comparisons k x Greater at ps =
      Via (Part font Comparisons ps) (λ w qs. k (applied (waiting Above at x) w) qs) ⊎ ((n : ℕ) × (qs : List Piece) × (ps ≡ piece Equals n ∷ qs)
      × Via (Part font Comparisons qs) (λ w rs. k (applied (waiting AtLeast at x) w) rs))
  OperatorAt Conjunctions k x Ampersand at ps =
      (n : ℕ) × (qs : List Piece) × (ps ≡ piece Ampersand n ∷ qs)
      × Via (Part font Conjunctions qs) (λ w rs. Via (Goes font Conjunctions (applied (waiting Both at x) w) rs) k)
  OperatorAt Disjunctions k x Bar at ps =
      (n : ℕ) × (qs : List Piece) × (ps ≡ piece Bar n ∷ qs)
      × Via (Part font Disjunctions qs) (λ w rs. Via (Goes font Disjunctions (applied (waiting Either at x) w) rs) k)
  OperatorAt _ k x _ at ps = ⊥

  chain_at : (o : Operator) (k : Behind) (x : Found) (m : Mark) (at n : ℕ) (ps qs : List Piece) → is_gap m ≡ false → is_chain (precedence_of o) ≡ true
      → Stands o n (piece m at ∷ ps) qs
      → Via (Part font (precedence_of o) qs) (λ w rs. Via (Goes font (precedence_of o) (applied (waiting o n x) w) rs) k)
      → OperatorAt (precedence_of o) k x m at ps
  chain_at Multiply k x m at n ps qs g c e h = front_to (OperatorAt Products k x) m Star at n ps qs g e h
  chain_at Divide k x m at n ps qs g c e h = front_to (OperatorAt Products k x) m Slash at n ps qs g e h
  chain_at Add k x m at n ps qs g c e h = front_to (OperatorAt Sums k x) m Plus at n ps qs g e h
  chain_at Subtract k x m at n ps qs g c e h = front_to (OperatorAt Sums k x) m Minus at n ps qs g e h
  chain_at Both k x m at n ps qs g c e h =
      front_to (OperatorAt Conjunctions k x) m Ampersand at n ps (piece Ampersand e.0 ∷ qs) g e.1 (e.0, qs, refl, h)
  chain_at Either k x m at n ps qs g c e h = front_to (OperatorAt Disjunctions k x) m Bar at n ps (piece Bar e.0 ∷ qs) g e.1 (e.0, qs, refl, h)
  chain_at Raise k x m at n ps qs g c e h = absurd (true≢false (sym c))
  chain_at Same k x m at n ps qs g c e h = absurd (true≢false (sym c))
  chain_at Differs k x m at n ps qs g c e h = absurd (true≢false (sym c))
  chain_at AtMost k x m at n ps qs g c e h = absurd (true≢false (sym c))
  chain_at AtLeast k x m at n ps qs g c e h = absurd (true≢false (sym c))
  chain_at Below k x m at n ps qs g c e h = absurd (true≢false (sym c))
  chain_at Above k x m at n ps qs g c e h = absurd (true≢false (sym c))

  -- whether a level is that of the comparisons
  abbrev compares : Precedence → Bool
  compares Comparisons = true
  compares _ = false

  comparison_at : (o : Operator) (k : Behind) (x : Found) (m : Mark) (at n : ℕ) (ps qs : List Piece) → is_gap m ≡ false
      → compares (precedence_of o) ≡ true → Stands o n (piece m at ∷ ps) qs
      → Via (Part font Comparisons qs) (λ w rs. k (applied (waiting o n x) w) rs) → OperatorAt Comparisons k x m at ps
  comparison_at Same k x m at n ps qs g c e h =
      front_to (OperatorAt Comparisons k x) m Equals at n ps (piece Equals e.0 ∷ qs) g e.1 (e.0, qs, refl, h)
  comparison_at Differs k x m at n ps qs g c e h =
      front_to (OperatorAt Comparisons k x) m Bang at n ps (piece Equals e.0 ∷ qs) g e.1 (e.0, qs, refl, h)
  comparison_at AtMost k x m at n ps qs g c e h =
      front_to (OperatorAt Comparisons k x) m Less at n ps (piece Equals e.0 ∷ qs) g e.1 (inr (e.0, qs, refl, h))
  comparison_at AtLeast k x m at n ps qs g c e h =
      front_to (OperatorAt Comparisons k x) m Greater at n ps (piece Equals e.0 ∷ qs) g e.1 (inr (e.0, qs, refl, h))
  comparison_at Below k x m at n ps qs g c e h = front_to (OperatorAt Comparisons k x) m Less at n ps qs g e (inl h)
  comparison_at Above k x m at n ps qs g c e h = front_to (OperatorAt Comparisons k x) m Greater at n ps qs g e (inl h)
  comparison_at Raise k x m at n ps qs g c e h = absurd (true≢false (sym c))
  comparison_at Multiply k x m at n ps qs g c e h = absurd (true≢false (sym c))
  comparison_at Divide k x m at n ps qs g c e h = absurd (true≢false (sym c))
  comparison_at Add k x m at n ps qs g c e h = absurd (true≢false (sym c))
  comparison_at Subtract k x m at n ps qs g c e h = absurd (true≢false (sym c))
  comparison_at Both k x m at n ps qs g c e h = absurd (true≢false (sym c))
  comparison_at Either k x m at n ps qs g c e h = absurd (true≢false (sym c))

  of_level : (l : Precedence) (o : Operator) (k : Behind) (x : Found) (m : Mark) (at n : ℕ) (ps qs : List Piece) → is_gap m ≡ false
      → precedence_of o ≡ l → is_chain l ≡ true → Stands o n (piece m at ∷ ps) qs
      → Via (Part font l qs) (λ w rs. Via (Goes font l (applied (waiting o n x) w) rs) k) → OperatorAt l k x m at ps
  of_level l o k x m at n ps qs g is c e h =
      subst (λ (l : Precedence). OperatorAt l k x m at ps) is
      (chain_at o k x m at n ps qs g (subst (λ (l : Precedence). is_chain l ≡ true) (sym is) c) e
      (subst (λ (l : Precedence). Via (Part font l qs) (λ w rs. Via (Goes font l (applied (waiting o n x) w) rs) k)) (sym is) h))

  -- behind an operand the piece in front is an operator of the level, or what stands behind the level goes on with it
  pub operator_or : {l : Precedence} {x y : Found} {m : Mark} {at : ℕ} {ps qs : List Piece} (k : Behind) → is_gap m ≡ false
      → Goes font l x (piece m at ∷ ps) y qs → k y qs → k x (piece m at ∷ ps) ⊎ OperatorAt l k x m at ps
  operator_or k g stays h = inl h
  operator_or {x = x} {m = m} {at = at} {ps = ps} k g (on_unit {qs = qs} {u = u} {at = n} e r) h =
      inr (front_to (OperatorAt Postfixes k x) m (Measure u) at n ps qs g e (record { value = _; rest = _; read = r; goes = h }))
  operator_or {x = x} {m = m} {at = at} {ps = ps} k g (on_radians {qs = qs} {at = n} e r) h =
      inr (front_to (OperatorAt Postfixes k x) m Radian at n ps qs g e (record { value = _; rest = _; read = r; goes = h }))
  operator_or {x = x} {m = m} {at = at} {ps = ps} k g (on_power {qs = qs} {at = n} e w r) h =
      inr (front_to (OperatorAt Powers k x) m Caret at n ps qs g e (record {
        value = _;
        rest = _;
        read = w;
        goes = record {
          value = _;
          rest = _;
          read = r;
          goes = h;
        };
      }))
  operator_or {x = x} {m = m} {at = at} {ps = ps} k g (on_operator {l = l} {qs = qs} o n is c e w r) h =
      inr (of_level l o k x m at n ps qs g is c e (record {
        value = _;
        rest = _;
        read = w;
        goes = record {
          value = _;
          rest = _;
          read = r;
          goes = h;
        };
      }))
  operator_or {x = x} {m = m} {at = at} {ps = ps} k g (on_comparison {qs = qs} o n is e w) h =
      inr (comparison_at o k x m at n ps qs g (ap compares is) e (record { value = _; rest = _; read = w; goes = h }))

  pub operator_in : {l : Precedence} {x : Found} (m : Mark) (at : ℕ) (ps : List Piece) (k : Behind) → is_gap m ≡ false
      → Via (Goes font l x (piece m at ∷ ps)) k → k x (piece m at ∷ ps) ⊎ OperatorAt l k x m at ps
  operator_in m at ps k g v = operator_or k g v.read v.goes

  -- the other way round
  pub operator_on : (l : Precedence) (k : Behind) (x : Found) (m : Mark) (at : ℕ) (ps : List Piece) → OperatorAt l k x m at ps
      → Via (Goes font l x (piece m at ∷ ps)) k
  operator_on Postfixes k x (Measure u) at ps h = record { value = h.value; rest = h.rest; read = on_unit refl h.read; goes = h.goes }
  operator_on Postfixes k x Radian at ps h = record { value = h.value; rest = h.rest; read = on_radians refl h.read; goes = h.goes }
  operator_on Powers k x Caret at ps h = record {
    value = h.goes.value;
    rest = h.goes.rest;
    read = on_power refl h.read h.goes.read;
    goes = h.goes.goes;
  }
  operator_on Products k x Star at ps h = record {
    value = h.goes.value;
    rest = h.goes.rest;
    read = on_operator Multiply at refl refl refl h.read
        h.goes.read;
    goes = h.goes.goes;
  }
  operator_on Products k x Slash at ps h = record {
    value = h.goes.value;
    rest = h.goes.rest;
    read = on_operator Divide at refl refl refl h.read
        h.goes.read;
    goes = h.goes.goes;
  }
  operator_on Sums k x Plus at ps h = record {
    value = h.goes.value;
    rest = h.goes.rest;
    read = on_operator Add at refl refl refl h.read h.goes.read;
    goes = h.goes.goes;
  }
  operator_on Sums k x Minus at ps h = record {
    value = h.goes.value;
    rest = h.goes.rest;
    read = on_operator Subtract at refl refl refl h.read
        h.goes.read;
    goes = h.goes.goes;
  }
  operator_on Comparisons k x Equals at ps (n, qs, e, h) = record {
    value = _;
    rest = h.rest;
    read = on_comparison Same at refl
        (n, ap (λ l. piece Equals at ∷ l) e) h.read;
    goes = h.goes;
  }
  operator_on Comparisons k x Bang at ps (n, qs, e, h) = record {
    value = _;
    rest = h.rest;
    read = on_comparison Differs at refl
        (n, ap (λ l. piece Bang at ∷ l) e) h.read;
    goes = h.goes;
  }
  operator_on Comparisons k x Less at ps (inl h) = record { value = _; rest = h.rest; read = on_comparison Below at refl refl h.read; goes = h.goes }
  operator_on Comparisons k x Less at ps (inr (n, qs, e, h)) = record {
    value = _;
    rest = h.rest;
    read = on_comparison AtMost at refl
        (n, ap (λ l. piece Less at ∷ l) e) h.read;
    goes = h.goes;
  }
  operator_on Comparisons k x Greater at ps (inl h) = record {
    value = _;
    rest = h.rest;
    read = on_comparison Above at refl refl h.read;
    goes = h.goes;
  }
  operator_on Comparisons k x Greater at ps (inr (n, qs, e, h)) = record {
    value = _;
    rest = h.rest;
    read = on_comparison AtLeast at refl
        (n, ap (λ l. piece Greater at ∷ l) e) h.read;
    goes = h.goes;
  }
  operator_on Conjunctions k x Ampersand at ps (n, qs, e, h) = record {
    value = h.goes.value;
    rest = h.goes.rest;
    read = on_operator Both at refl refl
        (n, ap (λ l. piece Ampersand at ∷ l) e) h.read h.goes.read;
    goes = h.goes.goes;
  }
  operator_on Disjunctions k x Bar at ps (n, qs, e, h) = record {
    value = h.goes.value;
    rest = h.goes.rest;
    read = on_operator Either at refl refl
        (n, ap (λ l. piece Bar at ∷ l) e) h.read h.goes.read;
    goes = h.goes.goes;
  }
  operator_on _ k x _ at ps h = elim h [ ]

  -- ---- a choice in front

  abbrev pub ChoiceAt : Behind → Found → Mark → ℕ → List Piece → Type 0
  ChoiceAt k c Question at ps =
      Via (Whole font ps) (λ x qs. (n : ℕ) × (rs : List Piece) × Begins Colon n qs rs × Via (Whole font rs) (λ y ss. k (choice_found c x y) ss))
  ChoiceAt k c _ at ps = ⊥

  pub choice_or : {c y : Found} {m : Mark} {at : ℕ} {ps qs : List Piece} (k : Behind) → is_gap m ≡ false → Asks font c (piece m at ∷ ps) y qs → k y qs
      → k c (piece m at ∷ ps) ⊎ ChoiceAt k c m at ps
  choice_or k g unasked h = inl h
  choice_or {c = c} {m = m} {at = at} {ps = ps} k g (asked {qs = qs} {rs = rs} {ss = ss} {m = i} {n = n} q t e u) h =
      inr (front_to (ChoiceAt k c) m Question at i ps qs g q (record {
        value = _;
        rest = rs;
        read = t;
        goes = (n, ss, e, record { value = _; rest = _; read = u; goes = h });
      }))

  pub choice_in : {c : Found} (m : Mark) (at : ℕ) (ps : List Piece) (k : Behind) → is_gap m ≡ false → Via (Asks font c (piece m at ∷ ps)) k
      → k c (piece m at ∷ ps) ⊎ ChoiceAt k c m at ps
  choice_in m at ps k g v = choice_or k g v.read v.goes

  pub choice_on : (k : Behind) (c : Found) (at : ℕ) (ps : List Piece) → ChoiceAt k c Question at ps → Via (Asks font c (piece Question at ∷ ps)) k
  choice_on k c at ps h = record { value = _; rest = h.goes.3.rest; read = asked refl h.read h.goes.2 h.goes.3.read; goes = h.goes.3.goes }

  -- ---- an operand in front

  abbrev pub PrimaryAt : Behind → Mark → ℕ → List Piece → Type 0
  PrimaryAt k (Digit d) at ps = (nat_lt d 10 ≡ true) × in_number font (with_digit d (no_digits false at)) k ps
  PrimaryAt k Point at ps = in_dot font at k ps
  PrimaryAt k Pi at ps = k (Ok pi_value) ps
  PrimaryAt k (Single f) at ps = in_name font (Only f at) k ps
  PrimaryAt k (Double f) at ps = in_name font (First f at) k ps
  PrimaryAt k (Several f) at ps = in_name font (Each f None) k ps
  PrimaryAt k Left at ps = Via (Whole font ps) (in_bracket font Plain k)
  PrimaryAt k _ at ps = ⊥

  pub primary_of : {x : Found} {m : Mark} {at : ℕ} {ps qs : List Piece} (k : Behind) → is_gap m ≡ false → Primary font (piece m at ∷ ps) x qs → k x qs
      → PrimaryAt k m at ps
  primary_of {m = m} {at = at} {ps = ps} k g (of_digits {qs = qs} {d = d} {at = i} {n = n} e small f) h =
      front_to (PrimaryAt k) m (Digit d) at i ps qs g e (small, (n, f, h))
  primary_of {m = m} {at = at} {ps = ps} k g (of_point {qs = qs} {d = d} {at = i} {k = j} {n = n} e small f) h =
      front_to (PrimaryAt k) m Point at i ps (piece (Digit d) j ∷ qs) g e (d, j, qs, refl, small, (n, f, h))
  primary_of {m = m} {at = at} {ps = ps} k g (of_parenthesis {qs = qs} {ss = ss} {m = i} {n = n} l t r) h =
      front_to (PrimaryAt k) m Left at i ps qs g l (record { value = _; rest = _; read = t; goes = (n, ss, r, h) })
  primary_of {m = m} {at = at} {ps = ps} k g (of_pi {qs = qs} {at = i} e) h = front_to (PrimaryAt k) m Pi at i ps qs g e h
  primary_of {m = m} {at = at} {ps = ps} k g (of_one {qs = qs} {rs = rs} {us = us} {f = f} {at = i} {m = j} {n = n} e l t r) h =
      front_to (PrimaryAt k) m (Single f) at i ps qs g e (j, rs, l, record { value = _; rest = _; read = t; goes = (n, us, r, h) })
  primary_of {m = m} {at = at} {ps = ps} k g (of_two {qs = qs} {rs = rs} {us = us} {ws = ws} {f = f} {at = i} {k = j} {m = a} {n = n} e l t c u r) h =
      front_to (PrimaryAt k) m (Double f) at i ps qs g e (
        j,
        rs,
        l,
        record {
          value = _;
          rest = _;
          read = t;
          goes = (a, us, c, record { value = _; rest = _; read = u; goes = (n, ws, r, h) });
        },
      )
  primary_of {m = m} {at = at} {ps = ps} k g (of_most {qs = qs} {rs = rs} {f = f} {at = i} {k = j} e l t a) h =
      front_to (PrimaryAt k) m (Several f) at i ps qs g e (
        j,
        rs,
        l,
        record {
          value = _;
          rest = _;
          read = t;
          goes = record {
            value = _;
            rest = _;
            read = a;
            goes = h;
          };
        },
      )

  pub primary_in : (m : Mark) (at : ℕ) (ps : List Piece) (k : Behind) → is_gap m ≡ false → Via (Primary font (piece m at ∷ ps)) k
      → PrimaryAt k m at ps
  primary_in m at ps k g v = primary_of k g v.read v.goes

  pub primary_on : (k : Behind) (m : Mark) (at : ℕ) (ps : List Piece) → PrimaryAt k m at ps → Via (Primary font (piece m at ∷ ps)) k
  primary_on k (Digit d) at ps (small, (n, f, h)) = record { value = _; rest = _; read = of_digits refl small f; goes = h }
  primary_on k Point at ps (d, j, qs, e, small, (n, f, h)) = record {
    value = _;
    rest = _;
    read = of_point (ap (λ l. piece Point at ∷ l) e)
        small f;
    goes = h;
  }
  primary_on k Pi at ps h = record { value = _; rest = _; read = of_pi refl; goes = h }
  primary_on k (Single f) at ps (j, rs, l, h) = record { value = _; rest = _; read = of_one refl l h.read h.goes.2; goes = h.goes.3 }
  primary_on k (Double f) at ps (j, rs, l, h) = record {
    value = _;
    rest = _;
    read = of_two refl l h.read h.goes.2 h.goes.3.read h.goes.3.goes.2;
    goes = h.goes.3.goes.3;
  }
  primary_on k (Several f) at ps (j, rs, l, h) = record { value = _; rest = _; read = of_most refl l h.read h.goes.read; goes = h.goes.goes }
  primary_on k Left at ps h = record { value = _; rest = _; read = of_parenthesis refl h.read h.goes.2; goes = h.goes.3 }
  primary_on k _ at ps h = elim h [ ]
