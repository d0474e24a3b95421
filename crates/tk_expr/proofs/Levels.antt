-- Levels one by one: a mark that is no operator of a level passes it, and what waits on it is settled.
use Rattle.std.proofs.Common.{◌≡◌, ◌⊎◌, ◌↔◌, inl, inr, ℕ, Bool, true, false, true≢false, List, [], ◌∷◌, Option, Some, None, refl, sym, ap, ap₂, subst}
use Rattle.std.proofs.Common.{◌∙◌}
use Rattle.tk_expr.specs.declared.FontUnits.{FontUnits}
use Rattle.tk_expr.specs.declared.operators.Prefix.{Prefix}
use Rattle.tk_expr.specs.declared.operators.Signs.{Signs}
use Rattle.tk_expr.specs.declared.pieces.Mark.{Mark}
use Rattle.tk_expr.specs.declared.pieces.Mark.TheVariants.{Colon, Comma, Right}
use Rattle.tk_expr.specs.declared.pieces.Most.{Most}
use Rattle.tk_expr.specs.declared.pieces.Piece.{Piece}
use Rattle.tk_expr.specs.declared.machine.Waiting.{Waiting}
use Rattle.tk_expr.specs.declared.machine.Pending.{Pending}
use Rattle.tk_expr.specs.declared.machine.Bracket.{Bracket}
use Rattle.tk_expr.specs.declared.machine.Bracket.TheVariants.{Plain, Only, First, Second, Each}
use Rattle.tk_expr.specs.declared.machine.OpenFrame.{OpenFrame}
use Rattle.tk_expr.specs.declared.machine.OpenFrame.TheVariants.{Inside, Then, Else}
use Rattle.tk_expr.specs.Grammar.{piece, skip, past_gap, prefix_of, exponent_sign, Precedence, Postfixes, Powers, Products, Sums, Comparisons}
use Rattle.tk_expr.specs.Grammar.{Conjunctions, Disjunctions, Begins}
use Rattle.tk_expr.specs.Machine.{Found, no_signs, nothing, with_prefix, signed_found, applied, powered, multiplied, added, compared, conjoined}
use Rattle.tk_expr.specs.Machine.{disjoined, choice_found}
use Rattle.tk_expr.proofs.Readings.{prefixed_found, Whole, whole, unasked, group, Part, primary_part, postfix_part, prefixed_part, product_part}
use Rattle.tk_expr.proofs.Readings.{sum_part, comparison_part, conjunction_part, Goes, stays, sign_before, no_sign_before, Exponential}
use Rattle.tk_expr.proofs.Readings.{exponent_sign_before, bare_exponent, Primary, Further, no_further, one_further}
use Rattle.tk_expr.proofs.Continuations.{Behind, Via, after_disjunction, after_conjunction, after_comparison, comparing, after_sum, after_product}
use Rattle.tk_expr.proofs.Continuations.{after_unsigned, after_signed, after_postfix, after_primary, wants, closes, in_bracket, ends_in}
use Rattle.tk_expr.proofs.Fronts.{is_gap, past_solid, front_to, OperatorAt, operator_in, ChoiceAt, choice_in}
use Rattle.tk_expr.proofs.SignRuns.{signed_none, signs_more}

pub only_left : {A B : Type 0} → (B → ⊥) → A ⊎ B → A
only_left non (inl a) = a
only_left non (inr b) = absurd (non b)

pub via_map : (r k l : Behind) → ((x : Found) (ps : List Piece) → k x ps → l x ps) → Via r k → Via r l
via_map r k l f v = record { value = v.value; rest = v.rest; read = v.read; goes = f v.value v.rest v.goes }

module _ (font : FontUnits) where
  pub stays_via : (l : Precedence) (k : Behind) (x : Found) (ps : List Piece) → k x ps → Via (Goes font l x ps) k
  stays_via l k x ps h = record { value = x; rest = ps; read = stays; goes = h }

  -- ---- what waits is settled

  compares_via : (w : Option Waiting) (k : Behind) (x : Found) (ps : List Piece) → k (applied w x) ps → comparing font w k x ps
  compares_via None k x ps h = stays_via Comparisons k x ps h
  compares_via (Some w) k x ps h = h

  module _ (p : Pending) (k : Behind) (x : Found) (ps : List Piece) where
    pub to_power : Via (Goes font Powers (powered p x) ps) (after_signed font p k) → after_primary font p k x ps
    to_power h = stays_via Postfixes (after_postfix font p k) x ps h

    pub to_factor : Via (Goes font Products (multiplied p x) ps) (after_product font p k) → after_primary font p k x ps
    unfolding multiplied
    to_factor h = to_power (stays_via Powers (after_signed font p k) (powered p x) ps h)

    pub to_summand : Via (Goes font Sums (added p x) ps) (after_sum font p k) → after_primary font p k x ps
    unfolding added
    to_summand h = to_factor (stays_via Products (after_product font p k) (multiplied p x) ps h)

    pub to_comparand : after_sum font p k (added p x) ps → after_primary font p k x ps
    to_comparand h = to_summand (stays_via Sums (after_sum font p k) (added p x) ps h)

    pub to_conjunct : Via (Goes font Conjunctions (conjoined p x) ps) (after_conjunction font p k) → after_primary font p k x ps
    unfolding conjoined compared
    to_conjunct h = to_comparand (compares_via p.comparison (after_comparison font p k) (added p x) ps h)

    pub to_disjunct : Via (Goes font Disjunctions (disjoined p x) ps) (after_disjunction font k) → after_primary font p k x ps
    unfolding disjoined
    to_disjunct h = to_conjunct (stays_via Conjunctions (after_conjunction font p k) (conjoined p x) ps h)

    pub to_choice : after_disjunction font k (disjoined p x) ps → after_primary font p k x ps
    to_choice h = to_disjunct (stays_via Disjunctions (after_disjunction font k) (disjoined p x) ps h)

    pub to_end : k (disjoined p x) ps → after_primary font p k x ps
    to_end h = to_choice (record { value = disjoined p x; rest = ps; read = unasked; goes = h })

  -- ---- a mark that is no operator of a level

  abbrev pub IsNot : Precedence → Mark → Type 1
  IsNot l m = (k : Behind) (x : Found) (at : ℕ) (ps : List Piece) → OperatorAt font l k x m at ps → ⊥

  abbrev pub Refuses : Mark → Behind → Type 0
  Refuses m k = (x : Found) (at : ℕ) (ps : List Piece) → k x (piece m at ∷ ps) → ⊥

  module _ (m : Mark) (g : is_gap m ≡ false) where
    pub past : (l : Precedence) → IsNot l m → (k : Behind) (x : Found) (at : ℕ) (ps : List Piece) → Via (Goes font l x (piece m at ∷ ps)) k
        → k x (piece m at ∷ ps)
    past l non k x at ps h = only_left (non k x at ps) (operator_in font m at ps k g h)

    past_comparing : IsNot Comparisons m → (w : Option Waiting) (k : Behind) (x : Found) (at : ℕ) (ps : List Piece)
        → comparing font w k x (piece m at ∷ ps) → k (applied w x) (piece m at ∷ ps)
    past_comparing non None k x at ps h = past Comparisons non k x at ps h
    past_comparing non (Some w) k x at ps h = h

    -- the value of an operand whose operators up to a level have ended
    module _ (p : Pending) (k : Behind) (x : Found) (at : ℕ) (ps : List Piece) where
      pub from_power : IsNot Postfixes m → after_primary font p k x (piece m at ∷ ps)
          → Via (Goes font Powers (powered p x) (piece m at ∷ ps)) (after_signed font p k)
      from_power non h = past Postfixes non (after_postfix font p k) x at ps h

      pub from_factor : IsNot Postfixes m → IsNot Powers m → after_primary font p k x (piece m at ∷ ps)
          → Via (Goes font Products (multiplied p x) (piece m at ∷ ps)) (after_product font p k)
      unfolding multiplied
      from_factor n0 n1 h = past Powers n1 (after_signed font p k) (powered p x) at ps (from_power n0 h)

      pub from_summand : IsNot Postfixes m → IsNot Powers m → IsNot Products m → after_primary font p k x (piece m at ∷ ps)
          → Via (Goes font Sums (added p x) (piece m at ∷ ps)) (after_sum font p k)
      unfolding added
      from_summand n0 n1 n2 h = past Products n2 (after_product font p k) (multiplied p x) at ps (from_factor n0 n1 h)

      pub from_comparand : IsNot Postfixes m → IsNot Powers m → IsNot Products m → IsNot Sums m → after_primary font p k x (piece m at ∷ ps)
          → after_sum font p k (added p x) (piece m at ∷ ps)
      from_comparand n0 n1 n2 n3 h = past Sums n3 (after_sum font p k) (added p x) at ps (from_summand n0 n1 n2 h)

      pub from_conjunct : IsNot Postfixes m → IsNot Powers m → IsNot Products m → IsNot Sums m → IsNot Comparisons m
          → after_primary font p k x (piece m at ∷ ps) → Via (Goes font Conjunctions (conjoined p x) (piece m at ∷ ps)) (after_conjunction font p k)
      unfolding conjoined compared
      from_conjunct n0 n1 n2 n3 n4 h = past_comparing n4 p.comparison (after_comparison font p k) (added p x) at ps (from_comparand n0 n1 n2 n3 h)

      pub from_disjunct : IsNot Postfixes m → IsNot Powers m → IsNot Products m → IsNot Sums m → IsNot Comparisons m → IsNot Conjunctions m
          → after_primary font p k x (piece m at ∷ ps) → Via (Goes font Disjunctions (disjoined p x) (piece m at ∷ ps)) (after_disjunction font k)
      unfolding disjoined
      from_disjunct n0 n1 n2 n3 n4 n5 h = past Conjunctions n5 (after_conjunction font p k) (conjoined p x) at ps (from_conjunct n0 n1 n2 n3 n4 h)

      pub from_choice : IsNot Postfixes m → IsNot Powers m → IsNot Products m → IsNot Sums m → IsNot Comparisons m → IsNot Conjunctions m
          → IsNot Disjunctions m → after_primary font p k x (piece m at ∷ ps)
          → k (disjoined p x) (piece m at ∷ ps) ⊎ ChoiceAt font k (disjoined p x) m at ps
      from_choice n0 n1 n2 n3 n4 n5 n6 h =
          choice_in font m at ps k g (past Disjunctions n6 (after_disjunction font k) (disjoined p x) at ps (from_disjunct n0 n1 n2 n3 n4 n5 h))

    -- what stands behind a level refuses a mark that is none of a coarser one
    module _ (p : Pending) (k : Behind) where
      pub refuse_disjunction : ((c : Found) (at : ℕ) (ps : List Piece) → ChoiceAt font k c m at ps → ⊥) → Refuses m k
          → Refuses m (after_disjunction font k)
      refuse_disjunction non r x at ps h = r x at ps (only_left (non x at ps) (choice_in font m at ps k g h))

      pub refuse_conjunction : IsNot Disjunctions m → Refuses m (after_disjunction font k) → Refuses m (after_conjunction font p k)
      refuse_conjunction non r x at ps h =
          r (applied p.disjunction x) at ps (past Disjunctions non (after_disjunction font k) (applied p.disjunction x) at ps h)

      pub refuse_comparison : IsNot Conjunctions m → Refuses m (after_conjunction font p k) → Refuses m (after_comparison font p k)
      refuse_comparison non r x at ps h =
          r (applied p.conjunction x) at ps (past Conjunctions non (after_conjunction font p k) (applied p.conjunction x) at ps h)

      pub refuse_sum : IsNot Comparisons m → Refuses m (after_comparison font p k) → Refuses m (after_sum font p k)
      refuse_sum non r x at ps h = r (applied p.comparison x) at ps (past_comparing non p.comparison (after_comparison font p k) x at ps h)

      pub refuse_product : IsNot Sums m → Refuses m (after_sum font p k) → Refuses m (after_product font p k)
      refuse_product non r x at ps h = r (applied p.sum x) at ps (past Sums non (after_sum font p k) (applied p.sum x) at ps h)

      pub refuse_signed : IsNot Products m → Refuses m (after_product font p k) → Refuses m (after_signed font p k)
      refuse_signed non r x at ps h = r _ at ps (past Products non (after_product font p k) _ at ps h)

      pub refuse_postfix : IsNot Powers m → Refuses m (after_signed font p k) → Refuses m (after_postfix font p k)
      refuse_postfix non r x at ps h = r (powered p x) at ps (past Powers non (after_signed font p k) (powered p x) at ps h)

      pub refuse_primary : IsNot Postfixes m → Refuses m (after_postfix font p k) → Refuses m (after_primary font p k)
      refuse_primary non r x at ps h = r x at ps (past Postfixes non (after_postfix font p k) x at ps h)

  -- ---- marks that end an expression

  abbrev pub is_end : Mark → Bool
  is_end Colon = true
  is_end Comma = true
  is_end Right = true
  is_end _ = false

  no_end : (m n : Mark) (at i : ℕ) (ps qs : List Piece) → is_gap m ≡ false → is_end m ≡ false → is_end n ≡ true → Begins n i (piece m at ∷ ps) qs → ⊥
  no_end m n at i ps qs g e is b = true≢false (sym (front_to (λ m _ _. is_end m ≡ true) m n at i ps qs g b is) ∙ e)

  no_close : (m : Mark) → is_gap m ≡ false → is_end m ≡ false → (k : Behind) → Refuses m (closes font k)
  no_close m g e k x at ps (i, qs, b, h) = no_end m Right at i ps qs g e refl b

  no_further_end : {f : Most} {m : Mark} {at : ℕ} {ps qs : List Piece} {x y : Found} → is_gap m ≡ false → is_end m ≡ false
      → Further font f x (piece m at ∷ ps) y qs → ⊥
  no_further_end {m = m} {at = at} {ps = ps} g e (no_further {qs = qs} {at = i} b) = no_end m Right at i ps qs g e refl b
  no_further_end {m = m} {at = at} {ps = ps} g e (one_further {qs = qs} {at = i} b w r) = no_end m Comma at i ps qs g e refl b

  no_bracket : (m : Mark) → is_gap m ≡ false → is_end m ≡ false → (b : Bracket) (k : Behind) → Refuses m (in_bracket font b k)
  no_bracket m g e Plain k x at ps h = no_close m g e k x at ps h
  no_bracket m g e (Only f i) k x at ps h = no_close m g e k _ at ps h
  no_bracket m g e (First f i) k x at ps (j, qs, b, h) = no_end m Comma at j ps qs g e refl b
  no_bracket m g e (Second f i y) k x at ps h = no_close m g e k _ at ps h
  no_bracket m g e (Each f y) k x at ps h = no_further_end g e h.read

  pub end_of_list : (m : Mark) (at : ℕ) (ps : List Piece) → is_gap m ≡ false → skip (piece m at ∷ ps) ≡ [] → ⊥
  end_of_list m at ps g e = absurd (not_empty (sym (solid m (skip ps) (piece m at ∷ ps) g) ∙ e))
    where
      solid : (m : Mark) (more ps : List Piece) → is_gap m ≡ false → past_gap m more ps ≡ ps
      solid m more ps g = past_solid m more ps g

      not_empty : piece m at ∷ ps ≡ [] → ⊥
      not_empty e = true≢false (ap (λ (l : List Piece). elim l as (λ _. Bool) [ [] ↦ false | q ∷ qs ↦ true ]) e)

  pub no_ends : (m : Mark) → is_gap m ≡ false → is_end m ≡ false → (fs : List OpenFrame) (v : Found) → Refuses m (ends_in font fs v)
  no_ends m g e [] v x at ps h = end_of_list m at ps g h.1
  no_ends m g e (Inside b p ∷ fs) v x at ps h = no_bracket m g e b (after_primary font p (ends_in font fs v)) x at ps h
  no_ends m g e (Then c ∷ fs) v x at ps (j, qs, b, h) = no_end m Colon at j ps qs g e refl b
  no_ends m g e (Else c y ∷ fs) v x at ps h = no_ends m g e fs v (choice_found c y x) at ps h

  -- ---- an operand with nothing that waits

  pub sum_parts : (k : Behind) (ps : List Piece) → Via (Part font Sums ps) k ↔ Via (Part font Products ps) (λ x qs. Via (Goes font Products x qs) k)
  sum_parts k ps = (
    λ v. by v.read v.goes,
    λ v. record {
      value = v.goes.value;
      rest = v.goes.rest;
      read = product_part (group v.read v.goes.read);
      goes = v.goes.goes;
    },
  )
    where
      by : {y : Found} {qs : List Piece} → Part font Sums ps y qs → k y qs → Via (Part font Products ps) (λ x qs. Via (Goes font Products x qs) k)
      by (product_part (group p r)) h = record { value = _; rest = _; read = p; goes = record { value = _; rest = _; read = r; goes = h } }

  comparison_parts : (k : Behind) (ps : List Piece) → Via (Part font Comparisons ps) k ↔ Via (Part font Sums ps) (λ x qs. Via (Goes font Sums x qs) k)
  comparison_parts k ps = (
    λ v. by v.read v.goes,
    λ v. record {
      value = v.goes.value;
      rest = v.goes.rest;
      read = sum_part (group v.read v.goes.read);
      goes = v.goes.goes;
    },
  )
    where
      by : {y : Found} {qs : List Piece} → Part font Comparisons ps y qs → k y qs → Via (Part font Sums ps) (λ x qs. Via (Goes font Sums x qs) k)
      by (sum_part (group p r)) h = record { value = _; rest = _; read = p; goes = record { value = _; rest = _; read = r; goes = h } }

  conjunction_parts : (k : Behind) (ps : List Piece)
      → Via (Part font Conjunctions ps) k ↔ Via (Part font Comparisons ps) (λ x qs. Via (Goes font Comparisons x qs) k)
  conjunction_parts k ps = (
    λ v. by v.read v.goes,
    λ v. record {
      value = v.goes.value;
      rest = v.goes.rest;
      read = comparison_part (group v.read v.goes.read);
      goes = v.goes.goes;
    },
  )
    where
      by : {y : Found} {qs : List Piece} → Part font Conjunctions ps y qs → k y qs
          → Via (Part font Comparisons ps) (λ x qs. Via (Goes font Comparisons x qs) k)
      by (comparison_part (group p r)) h = record { value = _; rest = _; read = p; goes = record { value = _; rest = _; read = r; goes = h } }

  disjunction_parts : (k : Behind) (ps : List Piece)
      → Via (Part font Disjunctions ps) k ↔ Via (Part font Conjunctions ps) (λ x qs. Via (Goes font Conjunctions x qs) k)
  disjunction_parts k ps = (
    λ v. by v.read v.goes,
    λ v. record {
      value = v.goes.value;
      rest = v.goes.rest;
      read = conjunction_part (group v.read v.goes.read);
      goes = v.goes.goes;
    },
  )
    where
      by : {y : Found} {qs : List Piece} → Part font Disjunctions ps y qs → k y qs
          → Via (Part font Conjunctions ps) (λ x qs. Via (Goes font Conjunctions x qs) k)
      by (conjunction_part (group p r)) h = record { value = _; rest = _; read = p; goes = record { value = _; rest = _; read = r; goes = h } }

  whole_parts : (k : Behind) (ps : List Piece)
      → Via (Whole font ps) k ↔ Via (Part font Disjunctions ps) (λ x qs. Via (Goes font Disjunctions x qs) (after_disjunction font k))
  whole_parts k ps = (
    λ v. by v.read v.goes,
    λ v. record {
      value = v.goes.goes.value;
      rest = v.goes.goes.rest;
      read = whole (group v.read v.goes.read)
          v.goes.goes.read;
      goes = v.goes.goes.goes;
    },
  )
    where
      by : {y : Found} {qs : List Piece} → Whole font ps y qs → k y qs
          → Via (Part font Disjunctions ps) (λ x qs. Via (Goes font Disjunctions x qs) (after_disjunction font k))
      by (whole (group p r) a) h = record {
        value = _;
        rest = _;
        read = p;
        goes = record {
          value = _;
          rest = _;
          read = r;
          goes = record { value = _; rest = _; read = a; goes = h };
        };
      }

  -- nothing waits on the levels up to one
  abbrev pub no_products : Pending → Pending
  no_products p = record p { signs = no_signs; product = None }

  abbrev pub no_sums : Pending → Pending
  no_sums p = record p { signs = no_signs; product = None; sum = None }

  abbrev pub no_comparisons : Pending → Pending
  no_comparisons p = record p { signs = no_signs; product = None; sum = None; comparison = None }

  abbrev pub no_conjunctions : Pending → Pending
  no_conjunctions p = record p { signs = no_signs; product = None; sum = None; comparison = None; conjunction = None }

  module _ (p : Pending) (k : Behind) (ps : List Piece) where
    pub fresh_product : Via (Part font Products ps) (after_unsigned font p k)
        ↔ Via (Part font Products ps) (after_signed font (record p { signs = no_signs }) k)
    fresh_product = (
      λ v. via_map (Part font Products ps) (after_unsigned font p k) (after_signed font (record p { signs = no_signs }) k)
          (λ x qs h. subst (λ x. after_unsigned font p k x qs) (sym (signed_none x)) h) v,
      λ v. via_map (Part font Products ps)
          (after_signed font (record p { signs = no_signs }) k) (after_unsigned font p k) (λ x qs h. subst (λ x. after_unsigned font p k x qs)
          (signed_none x) h) v,
    )

  module _ (p : Pending) (k : Behind) (ps : List Piece) where
    pub fresh_sum : Via (Part font Sums ps) (after_product font p k) ↔ Via (Part font Products ps) (after_signed font (no_products p) k)
    fresh_sum = let a = sum_parts (after_product font p k) ps in let b = fresh_product (no_products p) k ps in (λ v. b.0 (a.0 v), λ v. a.1 (b.1 v))

  module _ (p : Pending) (k : Behind) (ps : List Piece) where
    pub fresh_comparison : Via (Part font Comparisons ps) (after_sum font p k) ↔ Via (Part font Products ps) (after_signed font (no_sums p) k)
    fresh_comparison = let a = comparison_parts (after_sum font p k) ps in let b = fresh_sum (no_sums p) k ps in (λ v. b.0 (a.0 v), λ v. a.1 (b.1 v))

  module _ (p : Pending) (k : Behind) (ps : List Piece) where
    pub fresh_conjunction : Via (Part font Conjunctions ps) (after_comparison font p k)
        ↔ Via (Part font Products ps) (after_signed font (no_comparisons p) k)
    fresh_conjunction = let a = conjunction_parts (after_comparison font p k) ps in let b = fresh_comparison (no_comparisons p) k ps in (
      λ v.
          b.0 (a.0 v),
      λ v. a.1 (b.1 v),
    )

  module _ (p : Pending) (k : Behind) (ps : List Piece) where
    pub fresh_disjunction : Via (Part font Disjunctions ps) (after_conjunction font p k)
        ↔ Via (Part font Products ps) (after_signed font (no_conjunctions p) k)
    fresh_disjunction = let a = disjunction_parts (after_conjunction font p k) ps in let b = fresh_conjunction (no_conjunctions p) k ps in (
      λ v.
          b.0 (a.0 v),
      λ v. a.1 (b.1 v),
    )

  pub fresh_whole : (k : Behind) (ps : List Piece) → Via (Whole font ps) k ↔ Via (Part font Products ps) (after_signed font nothing k)
  fresh_whole k ps = let a = whole_parts k ps in let b = fresh_disjunction nothing k ps in (λ v. b.0 (a.0 v), λ v. a.1 (b.1 v))

  -- ---- an operand that begins with a sign or doesn't

  -- signs stand before an exponent only where an operator `^` waits
  abbrev pub Tidy : Pending → Type 0
  Tidy p = p.power ≡ None → p.exponent ≡ no_signs

  bare : (p : Pending) → p.power ≡ None → Tidy p → (x : Found) → powered p x ≡ x
  unfolding powered
  bare p e t x = ap₂ (λ (w : Option Waiting) (s : Signs). applied w (signed_found s x)) e (t e) ∙ signed_none x

  -- a sign in front, and then an operand
  abbrev pub SignAt : Option Waiting → Pending → Behind → Mark → List Piece → Type 0
  SignAt None p k m ps = (s : Prefix) × (prefix_of m ≡ Some s) × Via (Part font Products ps) (λ x qs. after_signed font p k (prefixed_found s x) qs)
  SignAt (Some w) p k m ps =
      (s : Prefix) × (exponent_sign m ≡ Some s) × Via (Exponential font ps) (λ x qs. after_postfix font p k (prefixed_found s x) qs)

  prefixed_or : (p : Pending) (k : Behind) (m : Mark) (at : ℕ) (ps qs : List Piece) (x : Found) → is_gap m ≡ false → p.power ≡ None → Tidy p
      → Part font Products (piece m at ∷ ps) x qs → after_signed font p k x qs
      → SignAt None p k m ps ⊎ Via (Primary font (piece m at ∷ ps)) (after_primary font p k)
  prefixed_or p k m at ps qs x g e t (prefixed_part (sign_before {qs = rs} {p = q} {s = s} b f u)) h =
      inl (front_to (λ m _ ps. SignAt None p k m ps) m q.mark at q.at ps rs g b (
        s,
        f,
        record {
          value = _;
          rest = _;
          read = prefixed_part u;
          goes = h;
        },
      ))
  prefixed_or p k m at ps qs x g e t (prefixed_part (no_sign_before (group {rs = us} (postfix_part (group {rs = rs} {y = y} (primary_part a) r)) s)))
      h =
      inr (record {
        value = _;
        rest = _;
        read = a;
        goes = record {
          value = _;
          rest = _;
          read = r;
          goes = subst (λ (y : Found). Via (Goes font Powers y rs) (after_signed font p k)) (sym (bare p e t y)) (record {
            value = _;
            rest = _;
            read = s;
            goes = h;
          });
        };
      })

  exponent_or : (p : Pending) (k : Behind) (w : Waiting) (m : Mark) (at : ℕ) (ps qs : List Piece) (x : Found) → is_gap m ≡ false
      → Exponential font (piece m at ∷ ps) x qs → after_postfix font p k x qs
      → SignAt (Some w) p k m ps ⊎ Via (Primary font (piece m at ∷ ps)) (after_primary font p k)
  exponent_or p k w m at ps qs x g (exponent_sign_before {qs = rs} {p = q} {s = s} b f u) h =
      inl (front_to (λ m _ ps. SignAt (Some w) p k m ps) m q.mark at q.at ps rs g b (s, f, record { value = _; rest = _; read = u; goes = h }))
  exponent_or p k w m at ps qs x g (bare_exponent (group (primary_part a) r)) h =
      inr (record { value = _; rest = _; read = a; goes = record { value = _; rest = _; read = r; goes = h } })

  pub wants_or : (w : Option Waiting) (p : Pending) (k : Behind) (m : Mark) (at : ℕ) (ps : List Piece) → is_gap m ≡ false → p.power ≡ w → Tidy p
      → wants font w p k (piece m at ∷ ps) → SignAt w p k m ps ⊎ Via (Primary font (piece m at ∷ ps)) (after_primary font p k)
  wants_or None p k m at ps g e t v = prefixed_or p k m at ps v.rest v.value g e t v.read v.goes
  wants_or (Some w) p k m at ps g e t v = exponent_or p k w m at ps v.rest v.value g v.read v.goes

  pub wants_primary : (w : Option Waiting) (p : Pending) (k : Behind) (ps : List Piece) → p.power ≡ w → Tidy p
      → Via (Primary font ps) (after_primary font p k) → wants font w p k ps
  wants_primary None p k ps e t v =
      let y = v.goes.value in
      let r = subst (λ (y : Found). Via (Goes font Powers y v.goes.rest) (after_signed font p k)) (bare p e t y) v.goes.goes in
      record {
        value = r.value;
        rest = r.rest;
        read = prefixed_part (no_sign_before (group (postfix_part (group (primary_part v.read) v.goes.read))
            r.read));
        goes = r.goes;
      }
  wants_primary (Some w) p k ps e t v = record {
    value = v.goes.value;
    rest = v.goes.rest;
    read = bare_exponent (group (primary_part v.read) v.goes.read);
    goes = v.goes.goes;
  }

  -- one more sign, before an operand or an exponent
  pub sign_on : (s : Prefix) (p : Pending) (k : Behind) (m : Mark) (at : ℕ) (ps : List Piece) → is_gap m ≡ false → prefix_of m ≡ Some s
      → Via (Part font Products ps) (after_signed font (record p { signs = with_prefix s p.signs }) k)
      → Via (Part font Products (piece m at ∷ ps)) (after_signed font p k)
  sign_on s p k m at ps g f v = record {
    value = prefixed_found s v.value;
    rest = v.rest;
    read = by v.read;
    goes = subst (λ x. after_unsigned font p k x v.rest) (signs_more s p.signs v.value) v.goes;
  }
    where
      by : {x : Found} {qs : List Piece} → Part font Products ps x qs → Part font Products (piece m at ∷ ps) (prefixed_found s x) qs
      by (prefixed_part u) = prefixed_part (sign_before (past_solid m (skip ps) (piece m at ∷ ps) g) f u)

  pub sign_off : (s : Prefix) (p : Pending) (k : Behind) (ps : List Piece)
      → Via (Part font Products ps) (λ x qs. after_signed font p k (prefixed_found s x) qs)
      → Via (Part font Products ps) (after_signed font (record p { signs = with_prefix s p.signs }) k)
  sign_off s p k ps v = record {
    value = v.value;
    rest = v.rest;
    read = v.read;
    goes = subst (λ x. after_unsigned font p k x v.rest)
        (sym (signs_more s p.signs v.value)) v.goes;
  }

  powered_more : (s : Prefix) (p : Pending) (x : Found)
      → powered (record p { exponent = with_prefix s p.exponent }) x ≡ powered p (prefixed_found s x)
  unfolding powered
  powered_more s p x = ap (applied p.power) (signs_more s p.exponent x)

  pub exponent_on : (s : Prefix) (p : Pending) (k : Behind) (m : Mark) (at : ℕ) (ps : List Piece) → is_gap m ≡ false → exponent_sign m ≡ Some s
      → Via (Exponential font ps) (after_postfix font (record p { exponent = with_prefix s p.exponent }) k)
      → Via (Exponential font (piece m at ∷ ps)) (after_postfix font p k)
  exponent_on s p k m at ps g f v = record {
    value = prefixed_found s v.value;
    rest = v.rest;
    read = exponent_sign_before (past_solid m (skip ps) (piece m at ∷ ps) g) f v.read;
    goes = subst (λ x. Via (Goes font Powers x v.rest) (after_signed font p k)) (powered_more s p v.value) v.goes;
  }

  pub exponent_off : (s : Prefix) (p : Pending) (k : Behind) (ps : List Piece)
      → Via (Exponential font ps) (λ x qs. after_postfix font p k (prefixed_found s x) qs)
      → Via (Exponential font ps) (after_postfix font (record p { exponent = with_prefix s p.exponent }) k)
  exponent_off s p k ps v = record {
    value = v.value;
    rest = v.rest;
    read = v.read;
    goes = subst (λ x. Via (Goes font Powers x v.rest) (after_signed font p k)) (sym (powered_more s p v.value)) v.goes;
  }
