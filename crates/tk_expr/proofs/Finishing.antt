-- Where the pieces run out.
use Rattle.std.proofs.Common.{◌≡◌, ◌↔◌, inl, inr, ℕ, Bool, true, false, true≢false, List, [], ◌∷◌, Option, Some, None, refl, sym, ap, subst, ◌∙◌}
use Rattle.tk_token.specs.declared.Code.TheVariants.{Expression}
use Rattle.tk_token.specs.Answers.{Answer, fault}
use Rattle.tk_expr.specs.declared.FontUnits.{FontUnits}
use Rattle.tk_expr.specs.declared.Value.{Value}
use Rattle.tk_expr.specs.declared.operators.Operator.{Operator}
use Rattle.tk_expr.specs.declared.operators.Operator.TheVariants.{Same as Equal, Differs, AtMost, AtLeast, Both, Either}
use Rattle.tk_expr.specs.declared.pieces.Most.{Most}
use Rattle.tk_expr.specs.declared.pieces.Piece.{Piece}
use Rattle.tk_expr.specs.declared.machine.Waiting.{Waiting}
use Rattle.tk_expr.specs.declared.machine.Pending.{Pending}
use Rattle.tk_expr.specs.declared.machine.Bracket.{Bracket}
use Rattle.tk_expr.specs.declared.machine.Bracket.TheVariants.{Plain, Only, First, Second, Each}
use Rattle.tk_expr.specs.declared.machine.OpenFrame.{OpenFrame}
use Rattle.tk_expr.specs.declared.machine.OpenFrame.TheVariants.{Inside, Then, Else}
use Rattle.tk_expr.specs.declared.machine.Mode.{Mode}
use Rattle.tk_expr.specs.declared.machine.Mode.TheVariants.{Wanted, Ordered, Half, Named, Dot, Number, Measured, After}
use Rattle.tk_expr.specs.Evaluates.{valued}
use Rattle.tk_expr.specs.Grammar.{Precedence, Products, Stands}
use Rattle.tk_expr.specs.Machine.{Found, ExprState, applied, powered, multiplied, added, compared, conjoined, disjoined, closed, choice_found, operand}
use Rattle.tk_expr.specs.Machine.{value_in, finish_behind, finish}
use Rattle.tk_expr.specs.Number.{plain_value}
use Rattle.tk_expr.proofs.Readings.{Asks, unasked, asked, group, Part, primary_part, postfix_part, prefixed_part, Goes, stays, on_unit, on_radians}
use Rattle.tk_expr.proofs.Readings.{on_power, on_operator, on_comparison, Prefixed, sign_before, no_sign_before, Exponential, exponent_sign_before}
use Rattle.tk_expr.proofs.Readings.{bare_exponent, Primary, of_digits, of_point, of_parenthesis, of_pi, of_one, of_two, of_most, Further, no_further}
use Rattle.tk_expr.proofs.Readings.{one_further}
use Rattle.tk_expr.proofs.Continuations.{Behind, Via, after_disjunction, after_conjunction, after_comparison, comparing, after_sum, after_product}
use Rattle.tk_expr.proofs.Continuations.{after_signed, after_postfix, after_primary, wants, in_bracket, ends_in, in_mode, Completes}
use Rattle.tk_expr.proofs.Levels.{to_end}
use Rattle.tk_expr.proofs.Stepping.{some_not_none, same_some}

-- no piece is there
no_piece : {p : Piece} {ps : List Piece} → [] ≡ p ∷ ps → ⊥
no_piece e = true≢false (ap (λ (l : List Piece). elim l as (λ _. Bool) [ [] ↦ true | q ∷ qs ↦ false ]) e)

none_stands : (o : Operator) (at : ℕ) (qs : List Piece) → Stands o at [] qs → ⊥
none_stands Equal at qs e = no_piece e.1
none_stands Differs at qs e = no_piece e.1
none_stands AtMost at qs e = no_piece e.1
none_stands AtLeast at qs e = no_piece e.1
none_stands Both at qs e = no_piece e.1
none_stands Either at qs e = no_piece e.1
none_stands _ at qs e = no_piece e

module _ (font : FontUnits) where
  -- ---- nothing is read from nothing

  no_primary : {x : Found} {qs : List Piece} → Primary font [] x qs → ⊥
  no_primary (of_digits b s f) = no_piece b
  no_primary (of_point b s f) = no_piece b
  no_primary (of_parenthesis l t r) = no_piece l
  no_primary (of_pi b) = no_piece b
  no_primary (of_one b l t r) = no_piece b
  no_primary (of_two b l t c u r) = no_piece b
  no_primary (of_most b l t a) = no_piece b

  no_prefixed : {x : Found} {qs : List Piece} → Prefixed font [] x qs → ⊥
  no_prefixed (sign_before b f u) = no_piece b
  no_prefixed (no_sign_before (group (postfix_part (group (primary_part a) r)) s)) = no_primary a

  no_product : {x : Found} {qs : List Piece} → Part font Products [] x qs → ⊥
  no_product (prefixed_part u) = no_prefixed u

  no_exponent : {x : Found} {qs : List Piece} → Exponential font [] x qs → ⊥
  no_exponent (exponent_sign_before b f u) = no_piece b
  no_exponent (bare_exponent (group (primary_part a) r)) = no_primary a

  no_wants : (w : Option Waiting) (p : Pending) (k : Behind) → wants font w p k [] → ⊥
  no_wants None p k v = no_product v.read
  no_wants (Some w) p k v = no_exponent v.read

  goes_empty : {l : Precedence} {x y : Found} {qs : List Piece} (k : Behind) → Goes font l x [] y qs → k y qs → k x []
  goes_empty k stays h = h
  goes_empty k (on_unit b r) h = absurd (no_piece b)
  goes_empty k (on_radians b r) h = absurd (no_piece b)
  goes_empty k (on_power b w r) h = absurd (no_piece b)
  goes_empty k (on_operator {qs = qs} o at l c b w r) h = absurd (none_stands o at qs b)
  goes_empty k (on_comparison {qs = qs} o at l b w) h = absurd (none_stands o at qs b)

  asks_empty : {x y : Found} {qs : List Piece} (k : Behind) → Asks font x [] y qs → k y qs → k x []
  asks_empty k unasked h = h
  asks_empty k (asked q t n u) h = absurd (no_piece q)

  goes_via : {l : Precedence} (k : Behind) (x : Found) → Via (Goes font l x []) k → k x []
  goes_via k x v = goes_empty k v.read v.goes

  asks_via : (k : Behind) (x : Found) → Via (Asks font x []) k → k x []
  asks_via k x v = asks_empty k v.read v.goes

  comparing_empty : (w : Option Waiting) (k : Behind) (x : Found) → comparing font w k x [] → k (applied w x) []
  comparing_empty None k x v = goes_empty k v.read v.goes
  comparing_empty (Some w) k x h = h

  -- what waits is settled
  settled : (p : Pending) (k : Behind) (x : Found) → after_primary font p k x [] → k (disjoined p x) []
  unfolding disjoined conjoined compared added multiplied
  settled p k x v =
      asks_via k (disjoined p x)
      (goes_via (after_disjunction font k) (disjoined p x)
      (goes_via (after_conjunction font p k) (conjoined p x)
      (comparing_empty p.comparison (after_comparison font p k) (added p x)
      (goes_via (after_sum font p k) (added p x)
      (goes_via (after_product font p k) (multiplied p x)
      (goes_via (after_signed font p k) (powered p x)
      (goes_via (after_postfix font p k) x v)))))))

  no_further_empty : {f : Most} {x y : Found} {qs : List Piece} → Further font f x [] y qs → ⊥
  no_further_empty (no_further b) = no_piece b
  no_further_empty (one_further b w r) = no_piece b

  no_bracket_empty : (b : Bracket) (k : Behind) (x : Found) → in_bracket font b k x [] → ⊥
  no_bracket_empty Plain k x (n, qs, b, h) = no_piece b
  no_bracket_empty (Only f i) k x (n, qs, b, h) = no_piece b
  no_bracket_empty (First f i) k x (n, qs, b, h) = no_piece b
  no_bracket_empty (Second f i y) k x (n, qs, b, h) = no_piece b
  no_bracket_empty (Each f y) k x v = no_further_empty v.read

  -- ---- the state behind the last piece

  -- the last operand, with what is open round it
  pub record Last (s : ExprState) (v : Found) : Type 0 where
    pub value : Found
    pub is : operand font s.mode ≡ Some value
    pub ends : ends_in font s.frames v (disjoined s.pending value) []

  last_in : (m : Mode) (p : Pending) (fs : List OpenFrame) (unit : Bool) (v : Found) → in_mode font m p (ends_in font fs v) []
      → Last (record { mode = m; pending = p; frames = fs; unit = unit }) v
  last_in Wanted p fs unit v h = absurd (no_wants p.power p (ends_in font fs v) h)
  last_in Ordered p fs unit v (inl h) = absurd (no_wants p.power p (ends_in font fs v) h)
  last_in Ordered p fs unit v (inr (i, qs, e, h)) = absurd (no_piece e)
  last_in (Half m) p fs unit v (i, qs, e, h) = absurd (no_piece e)
  last_in (Named b) p fs unit v (i, qs, e, h) = absurd (no_piece e)
  last_in (Dot place) p fs unit v (d, i, qs, e, small, h) = absurd (no_piece e)
  last_in (Number n) p fs unit v (m, e, h) = record {
    value = plain_value font n;
    is = refl;
    ends = settled p (ends_in font fs v) (plain_value font n)
        (subst (λ m. after_primary font p (ends_in font fs v) (plain_value font m) []) (sym (same_some {a = n} {b = m} refl e)) h);
  }
  last_in (Measured n) p fs unit v h = record { value = plain_value font n; is = refl; ends = settled p (ends_in font fs v) (plain_value font n) h }
  last_in (After x) p fs unit v h = record { value = x; is = refl; ends = settled p (ends_in font fs v) x h }

  pub last_of : (s : ExprState) (v : Found) → Completes font s [] v → Last s v
  last_of s v h = last_in s.mode s.pending s.frames s.unit v h

  completes_as : (m : Mode) (p : Pending) (fs : List OpenFrame) (v x : Found) → operand font m ≡ Some x → ends_in font fs v (disjoined p x) []
      → in_mode font m p (ends_in font fs v) []
  completes_as Wanted p fs v x e h = absurd (some_not_none refl e)
  completes_as Ordered p fs v x e h = absurd (some_not_none refl e)
  completes_as (Half m) p fs v x e h = absurd (some_not_none refl e)
  completes_as (Named b) p fs v x e h = absurd (some_not_none refl e)
  completes_as (Dot place) p fs v x e h = absurd (some_not_none refl e)
  completes_as (Number n) p fs v x e h = (
    n,
    refl,
    to_end font p (ends_in font fs v) (plain_value font n) [] (subst (λ x. ends_in font fs v (disjoined p x) [])
        (sym (same_some {a = plain_value font n} {b = x} refl e)) h),
  )
  completes_as (Measured n) p fs v x e h =
      to_end font p (ends_in font fs v) (plain_value font n) [] (subst (λ x. ends_in font fs v (disjoined p x) [])
      (sym (same_some {a = plain_value font n} {b = x} refl e)) h)
  completes_as (After y) p fs v x e h =
      to_end font p (ends_in font fs v) y [] (subst (λ x. ends_in font fs v (disjoined p x) []) (sym (same_some {a = y} {b = x} refl e)) h)

  -- an answer where pieces run out: the one value, or the fault
  pub data FinishIs (c : Found → Type 0) (unit : Bool) (end : ℕ) : Answer Value → Type 0 where
    finds : (v : Found) → c v → FinishIs c unit end (valued unit v)
    lacks : ((v : Found) → c v → ⊥) → FinishIs c unit end (fault Expression end)

  frames_end : (fs : List OpenFrame) (x : Found) (unit : Bool) (end : ℕ)
      → FinishIs (λ v. ends_in font fs v x []) unit end (value_in end (closed x fs).frames (closed x fs).value unit)
  frames_end [] x unit end = finds x (refl, refl)
  frames_end (Inside b p ∷ fs) x unit end = lacks (λ v h. no_bracket_empty b _ x h)
  frames_end (Then c ∷ fs) x unit end = lacks (λ v (n, qs, b, h). no_piece b)
  frames_end (Else c y ∷ fs) x unit end = frames_end fs (choice_found c y x) unit end

  finish_as : {c d : Found → Type 0} {unit : Bool} {end : ℕ} {r : Answer Value} → ((v : Found) → c v ↔ d v) → FinishIs d unit end r
      → FinishIs c unit end r
  finish_as f (finds v h) = finds v ((f v).1 h)
  finish_as f (lacks h) = lacks (λ v x. h v ((f v).0 x))

  pub finish_is : (s : ExprState) (end : ℕ) → FinishIs (λ v. Completes font s [] v) s.unit end (finish font end s)
  unfolding finish
  finish_is s end = by (operand font s.mode) refl
    where
      by : (o : Option Found) → operand font s.mode ≡ o → FinishIs (λ v. Completes font s [] v) s.unit end (finish_behind end o s)
      by None e = lacks (λ v h. some_not_none e (last_of s v h).is)
      by (Some x) e = finish_as (λ v. (
        λ h. let l = last_of s v h in subst (λ x. ends_in font s.frames v (disjoined s.pending x) [])
            (same_some l.is e) l.ends,
        λ h. completes_as s.mode s.pending s.frames v x e h,
      )) (frames_end s.frames (disjoined s.pending x) s.unit end)

  -- the value is the only one
  one_end : (fs : List OpenFrame) (v w x : Found) → ends_in font fs v x [] → ends_in font fs w x [] → v ≡ w
  one_end [] v w x h k = h.0 ∙ sym k.0
  one_end (Inside b p ∷ fs) v w x h k = absurd (no_bracket_empty b _ x h)
  one_end (Then c ∷ fs) v w x (n, qs, b, h) k = absurd (no_piece b)
  one_end (Else c y ∷ fs) v w x h k = one_end fs v w (choice_found c y x) h k

  pub one_value : (s : ExprState) (v w : Found) → Completes font s [] v → Completes font s [] w → v ≡ w
  one_value s v w h k =
      let l = last_of s v h in
      let m = last_of s w k in
      one_end s.frames v w (disjoined s.pending l.value) l.ends (subst (λ x. ends_in font s.frames w (disjoined s.pending x) [])
      (same_some m.is l.is) m.ends)
