-- Where the faults of expressions, pairs and vectors stand: what holds of the places of all tokens holds of theirs.
use Rattle.std.proofs.Common.{◌≡◌, inl, inr, refl, sym, subst, ℕ, zero, suc, ◌+◌, ◌*◌, Bool, true, false, cond, List, [], ◌∷◌, length, drop, map}
use Rattle.std.proofs.Common.{Option, Some, None, is_some, unwrap_or, Result, Ok, Err, IfErr, IfSome, ℤ, nat_lt}
use Rattle.std.specs.List.{AllByRecursion, prefix_len, list_all}
use Rattle.tk_num.specs.Number.{scaled, product}
use Rattle.tk_num.specs.Angle.{sine, cosine}
use Rattle.tk_num.specs.declared.NumFault.{NumFault}
use Rattle.tk_item.specs.declared.Point.{Point}
use Rattle.tk_token.specs.declared.Fault.{Fault}
use Rattle.tk_token.specs.Answers.{Answer, ◌>>=◌}
use Rattle.tk_token.specs.Cutting.{is_letter}
use Rattle.tk_token.specs.declared.Kind.{Kind}
use Rattle.tk_token.specs.declared.Kind.TheVariants.{Char}
use Rattle.tk_token.specs.declared.Tok.{Tok}
use Rattle.tk_characters.specs.Characters as characters
use Rattle.tk_token.specs.Groups.{Cut, first_outside, before_char, group_of, alone, contents, unbraced}
use Rattle.tk_token.specs.Kinds.{is_open, begins_and}
use Rattle.tk_token.specs.Spaces.{is_space_token, after_spaces}
use Rattle.tk_token.proofs.Outside.{first_outside_keeps, before_char_keeps, group_keeps}
use Rattle.tk_expr.specs.declared.FontUnits.{FontUnits}
use Rattle.tk_expr.specs.declared.Value.{Value}
use Rattle.tk_expr.specs.declared.ValuePair.{ValuePair}
use Rattle.tk_expr.specs.declared.ValuePair.TheVariants.{Plane, Polar}
use Rattle.tk_expr.specs.declared.operators.Operator.{Operator}
use Rattle.tk_expr.specs.declared.operators.Operator.TheVariants.{Raise, Multiply, Divide, Add, Subtract, Same, Differs, AtMost, AtLeast, Below}
use Rattle.tk_expr.specs.declared.operators.Operator.TheVariants.{Above, Both, Either}
use Rattle.tk_expr.specs.declared.operators.Prefix.{Prefix}
use Rattle.tk_expr.specs.declared.operators.Prefix.TheVariants.{Negate, Keep, Not}
use Rattle.tk_expr.specs.declared.operators.Signs.{Signs}
use Rattle.tk_expr.specs.declared.pieces.Most.{Most}
use Rattle.tk_expr.specs.declared.pieces.Mark.{Mark}
use Rattle.tk_expr.specs.declared.pieces.Mark.TheVariants.{Digit, Point as Dots, Measure, Radian, Pi, Single, Double, Several, Plus, Minus, Star}
use Rattle.tk_expr.specs.declared.pieces.Mark.TheVariants.{Slash, Caret, Bar, Ampersand, Equals, Bang, Less, Greater, Question, Colon, Comma, Left}
use Rattle.tk_expr.specs.declared.pieces.Mark.TheVariants.{Right, Gap}
use Rattle.tk_expr.specs.declared.pieces.Piece.{Piece}
use Rattle.tk_expr.specs.declared.machine.Waiting.{Waiting}
use Rattle.tk_expr.specs.declared.machine.Pending.{Pending}
use Rattle.tk_expr.specs.declared.machine.Bracket.{Bracket}
use Rattle.tk_expr.specs.declared.machine.Bracket.TheVariants.{Plain, Only, First, Second, Each}
use Rattle.tk_expr.specs.declared.machine.OpenFrame.{OpenFrame}
use Rattle.tk_expr.specs.declared.machine.OpenFrame.TheVariants.{Inside, Then, Else}
use Rattle.tk_expr.specs.declared.machine.Mode.{Mode}
use Rattle.tk_expr.specs.declared.machine.Mode.TheVariants.{Wanted, Ordered, Half, Named, Dot, Number, Measured, After}
use Rattle.tk_expr.specs.Number.{Decimal, no_digits, with_digit, with_whole_digit, with_point, plain_value}
use Rattle.tk_expr.specs.Values.{placed}
use Rattle.tk_expr.specs.Machine.{Found, ExprState, signed_found, applied, powered, multiplied, added, compared, conjoined, disjoined, product_waits}
use Rattle.tk_expr.specs.Machine.{sum_waits, comparison_waits, waits, waiting_or_same, Closed, choice_found, closed, closed_behind, wanted_in}
use Rattle.tk_expr.specs.Machine.{with_frame, most_found, bracket_ends, at_right, bracket_goes_on, at_comma, at_colon, to_mode, sign_exponent}
use Rattle.tk_expr.specs.Machine.{sign_operand, begin, ordered, is_half, half, named, operator, comparison, after, dot, measured, number, step_in}
use Rattle.tk_expr.specs.Machine.{step, start, run, operand, value_in, finish_behind, finish}
use Rattle.tk_expr.specs.Pieces.{Lump, Letters, Alone, with_letter, with_token, lumps_of, piece_of, pieces_of}
use Rattle.tk_expr.specs.Evaluated.{evaluated}
use Rattle.tk_expr.specs.Evaluates.{Evaluation}
use Rattle.tk_token.specs.Places.{end_of}
use Rattle.tk_expr.specs.Places.{IsPlaceOf}
use Rattle.tk_expr.specs.Pairs.{part_value, plane, radii, polar, by_colon, by_comma, paired, length_along, vector_of}

module _ {A : Type 0} where
  -- what holds at a value, and at a fault
  abbrev Holds : (A → Type 0) → (Fault → Type 0) → Answer A → Type 0
  Holds P F (Ok a) = P a
  Holds P F (Err f) = F f

  holds_if : (P : A → Type 0) (F : Fault → Type 0) (b : Bool) (m n : Answer A) → Holds P F m → Holds P F n → Holds P F (cond b m n)
  holds_if P F true m n h k = h
  holds_if P F false m n h k = k

  from_fault : (P : A → Type 0) (F : Fault → Type 0) (m : Answer A) → ((a : A) → P a) → IfErr m F → Holds P F m
  from_fault P F (Ok a) h k = h a
  from_fault P F (Err f) h k = k

  only_fault : (P : A → Type 0) (F : Fault → Type 0) (m : Answer A) → Holds P F m → IfErr m F
  only_fault P F (Ok a) h = tt
  only_fault P F (Err f) h = h

  fault_only : (F : Fault → Type 0) (m : Answer A) → IfErr m F → Holds (λ _. Unit {0}) F m
  fault_only F (Ok a) h = tt
  fault_only F (Err f) h = h

module _ {A B : Type 0} where
  holds_then : (P : A → Type 0) (Q : B → Type 0) (F : Fault → Type 0) (m : Answer A) (f : A → Answer B) → Holds P F m
      → ((a : A) → P a → Holds Q F (f a)) → Holds Q F (m >>= f)
  holds_then P Q F (Ok a) f h k = k a h
  holds_then P Q F (Err e) f h k = h

module _ (Good : ℕ → Type 0) where
  abbrev Early : Fault → Type 0
  Early f = Good f.at

  -- an answer whose fault stands early
  abbrev Fine : {A : Type 0} → Answer A → Type 0
  Fine m = Holds (λ _. Unit {0}) Early m

  fine_then : {A B : Type 0} (m : Answer A) (f : A → Answer B) → Fine m → ((a : A) → Fine (f a)) → Fine (m >>= f)
  fine_then (Ok a) f h k = k a
  fine_then (Err e) f h k = h

  placed_fine : (at : ℕ) (r : Result ℤ NumFault) → Good at → Fine (placed at r)
  placed_fine at (Ok z) h = tt
  placed_fine at (Err e) h = h

  abbrev WaitingFine : Option Waiting → Type 0
  WaitingFine None = Unit {0}
  WaitingFine (Some w) = Fine w.left × (Good w.at)

  record PendingFine (p : Pending) : Type 0 where
    power : WaitingFine p.power
    product : WaitingFine p.product
    sum : WaitingFine p.sum
    comparison : WaitingFine p.comparison
    conjunction : WaitingFine p.conjunction
    disjunction : WaitingFine p.disjunction

  abbrev OptionFine : Option Found → Type 0
  OptionFine None = Unit {0}
  OptionFine (Some x) = Fine x

  abbrev BracketFine : Bracket → Type 0
  BracketFine Plain = Unit {0}
  BracketFine (Only f at) = Good at
  BracketFine (First f at) = Good at
  BracketFine (Second f at x) = (Good at) × Fine x
  BracketFine (Each f x) = OptionFine x

  abbrev FrameFine : OpenFrame → Type 0
  FrameFine (Inside bracket saved) = BracketFine bracket × PendingFine saved
  FrameFine (Then c) = Fine c
  FrameFine (Else c v) = Fine c × Fine v

  abbrev FramesFine : List OpenFrame → Type 0
  FramesFine [] = Unit {0}
  FramesFine (f ∷ fs) = FrameFine f × FramesFine fs

  abbrev ModeFine : Mode → Type 0
  ModeFine Wanted = Unit {0}
  ModeFine Ordered = Unit {0}
  ModeFine (Half wanted) = Unit {0}
  ModeFine (Named bracket) = BracketFine bracket
  ModeFine (Dot place) = Good place
  ModeFine (Number n) = Good n.at
  ModeFine (Measured n) = Good n.at
  ModeFine (After x) = Fine x

  record StateFine (s : ExprState) : Type 0 where
    mode : ModeFine s.mode
    pending : PendingFine s.pending
    frames : FramesFine s.frames

  abbrev Stays : Answer ExprState → Type 0
  Stays m = Holds StateFine Early m

  -- ---- operators

  signed_fine : (s : Signs) (x : Found) → Fine x → Fine (signed_found s x)
  signed_fine s x h = fine_then x _ h (λ v. tt)

  applied_fine : (w : Option Waiting) (x : Found) → WaitingFine w → Fine x → Fine (applied w x)
  applied_fine None x h k = k
  applied_fine (Some w) x h k = fine_then w.left _ h.0 (λ a. fine_then x _ k (λ b. placed_fine w.at _ h.1))

  powered_fine : (p : Pending) (x : Found) → PendingFine p → Fine x → Fine (powered p x)
  unfolding powered
  powered_fine p x h k = applied_fine p.power _ h.power (signed_fine p.exponent x k)

  multiplied_fine : (p : Pending) (x : Found) → PendingFine p → Fine x → Fine (multiplied p x)
  unfolding multiplied
  multiplied_fine p x h k = applied_fine p.product _ h.product (signed_fine p.signs _ (powered_fine p x h k))

  added_fine : (p : Pending) (x : Found) → PendingFine p → Fine x → Fine (added p x)
  unfolding added
  added_fine p x h k = applied_fine p.sum _ h.sum (multiplied_fine p x h k)

  compared_fine : (p : Pending) (x : Found) → PendingFine p → Fine x → Fine (compared p x)
  unfolding compared
  compared_fine p x h k = applied_fine p.comparison _ h.comparison (added_fine p x h k)

  conjoined_fine : (p : Pending) (x : Found) → PendingFine p → Fine x → Fine (conjoined p x)
  unfolding conjoined
  conjoined_fine p x h k = applied_fine p.conjunction _ h.conjunction (compared_fine p x h k)

  disjoined_fine : (p : Pending) (x : Found) → PendingFine p → Fine x → Fine (disjoined p x)
  unfolding disjoined
  disjoined_fine p x h k = applied_fine p.disjunction _ h.disjunction (conjoined_fine p x h k)

  product_fine : (o : Operator) (at : ℕ) (x : Found) (p : Pending) → Good at → Fine x → PendingFine p → PendingFine (product_waits o at x p)
  product_fine o at x p e k h = record {
    power = tt;
    product = (multiplied_fine p x h k, e);
    sum = h.sum;
    comparison = h.comparison;
    conjunction = h.conjunction;
    disjunction = h.disjunction;
  }

  sum_fine : (o : Operator) (at : ℕ) (x : Found) (p : Pending) → Good at → Fine x → PendingFine p → PendingFine (sum_waits o at x p)
  sum_fine o at x p e k h = record {
    power = tt;
    product = tt;
    sum = (added_fine p x h k, e);
    comparison = h.comparison;
    conjunction = h.conjunction;
    disjunction = h.disjunction;
  }

  comparison_fine : (o : Operator) (at : ℕ) (x : Found) (p : Pending) → Good at → Fine x → PendingFine p → PendingFine (comparison_waits o at x p)
  comparison_fine o at x p e k h = record {
    power = tt;
    product = tt;
    sum = tt;
    comparison = (compared_fine p x h k, e);
    conjunction = h.conjunction;
    disjunction = h.disjunction;
  }

  waits_fine : (o : Operator) (at : ℕ) (x : Found) (p : Pending) → Good at → Fine x → PendingFine p → PendingFine (waits o at x p)
  waits_fine Raise at x p e k h = record {
    power = (powered_fine p x h k, e);
    product = h.product;
    sum = h.sum;
    comparison = h.comparison;
    conjunction = h.conjunction;
    disjunction = h.disjunction;
  }
  waits_fine Multiply at x p e k h = product_fine Multiply at x p e k h
  waits_fine Divide at x p e k h = product_fine Divide at x p e k h
  waits_fine Add at x p e k h = sum_fine Add at x p e k h
  waits_fine Subtract at x p e k h = sum_fine Subtract at x p e k h
  waits_fine Both at x p e k h = record {
    power = tt;
    product = tt;
    sum = tt;
    comparison = tt;
    conjunction = (conjoined_fine p x h k, e);
    disjunction = h.disjunction;
  }
  waits_fine Either at x p e k h = record {
    power = tt;
    product = tt;
    sum = tt;
    comparison = tt;
    conjunction = tt;
    disjunction = (disjoined_fine p x h k, e);
  }
  waits_fine Same at x p e k h = comparison_fine Same at x p e k h
  waits_fine Differs at x p e k h = comparison_fine Differs at x p e k h
  waits_fine AtMost at x p e k h = comparison_fine AtMost at x p e k h
  waits_fine AtLeast at x p e k h = comparison_fine AtLeast at x p e k h
  waits_fine Below at x p e k h = comparison_fine Below at x p e k h
  waits_fine Above at x p e k h = comparison_fine Above at x p e k h

  or_same_fine : (w : Option Waiting) → WaitingFine w → WaitingFine (waiting_or_same w)
  or_same_fine None h = tt
  or_same_fine (Some w) h = h

  -- ---- what is open

  choice_fine : (c x y : Found) → Fine c → Fine x → Fine y → Fine (choice_found c x y)
  choice_fine c x y h k l = fine_then c _ h (λ b. fine_then x _ k (λ v. fine_then y _ l (λ w. tt)))

  record ClosedFine (c : Closed) : Type 0 where
    value : Fine c.value
    frames : FramesFine c.frames

  closed_fine : (v : Found) (fs : List OpenFrame) → Fine v → FramesFine fs → ClosedFine (closed v fs)
  closed_fine v [] h k = record { value = h; frames = tt }
  closed_fine v (Inside bracket saved ∷ fs) h k = record { value = h; frames = k }
  closed_fine v (Then c ∷ fs) h k = record { value = h; frames = k }
  closed_fine v (Else c x ∷ fs) h k = closed_fine (choice_found c x v) fs (choice_fine c x v k.0.0 k.0.1 h) k.1

  behind_fine : (x : Found) (s : ExprState) → Fine x → StateFine s → ClosedFine (closed_behind x s)
  behind_fine x s k h = closed_fine (disjoined s.pending x) s.frames (disjoined_fine s.pending x h.pending k) h.frames

  nothing_fine : (fs : List OpenFrame) (s : ExprState) → FramesFine fs → StateFine (wanted_in fs s)
  nothing_fine fs s h = record {
    mode = tt;
    pending = record {
      power = tt;
      product = tt;
      sum = tt;
      comparison = tt;
      conjunction = tt;
      disjunction = tt;
    };
    frames = h;
  }

  opened_fine : (at : ℕ) (f : OpenFrame) (s : ExprState) → Good at → FrameFine f → StateFine s → Stays (with_frame at f s)
  opened_fine at f s e k h = holds_if StateFine Early (nat_lt (length s.frames) 64) _ _ (nothing_fine (f ∷ s.frames) s (k, h.frames)) e

  outside_fine : (v : Found) (p : Pending) (fs : List OpenFrame) (s : ExprState) → Fine v → PendingFine p → FramesFine fs
      → StateFine (record { mode = After v; pending = p; frames = fs; unit = s.unit })
  outside_fine v p fs s h k l = record { mode = h; pending = k; frames = l }

  most_fine : (f : Most) (x : Option Found) (y : Found) → OptionFine x → Fine y → Fine (most_found f x y)
  most_fine f None y h k = k
  most_fine f (Some x) y h k = fine_then x _ h (λ v. fine_then y _ k (λ w. tt))

  ends_fine : (at : ℕ) (b : Bracket) (v : Found) (p : Pending) (fs : List OpenFrame) (s : ExprState) → Good at → BracketFine b → Fine v → PendingFine p
      → FramesFine fs → Stays (bracket_ends at b v p fs s)
  ends_fine at Plain v p fs s e k h i j = outside_fine v p fs s h i j
  ends_fine at (Only f name) v p fs s e k h i j = outside_fine _ p fs s (fine_then v _ h (λ _. placed_fine name _ k)) i j
  ends_fine at (First f name) v p fs s e k h i j = k
  ends_fine at (Second f name x) v p fs s e k h i j =
      outside_fine _ p fs s (fine_then x _ k.1 (λ _. fine_then v _ h (λ _. placed_fine name _ k.0))) i j
  ends_fine at (Each f x) v p fs s e k h i j = outside_fine _ p fs s (most_fine f x v k h) i j

  right_fine : (at : ℕ) (v : Found) (fs : List OpenFrame) (s : ExprState) → Good at → Fine v → FramesFine fs → Stays (at_right at v fs s)
  right_fine at v [] s e h k = e
  right_fine at v (Inside bracket saved ∷ fs) s e h k = ends_fine at bracket v saved fs s e k.0.0 h k.0.1 k.1
  right_fine at v (Then c ∷ fs) s e h k = e
  right_fine at v (Else c x ∷ fs) s e h k = e

  goes_on_fine : (at : ℕ) (b : Bracket) (v : Found) (p : Pending) (fs : List OpenFrame) (s : ExprState) → Good at → BracketFine b → Fine v → PendingFine p
      → FramesFine fs → Stays (bracket_goes_on at b v p fs s)
  goes_on_fine at Plain v p fs s e k h i j = e
  goes_on_fine at (Only f name) v p fs s e k h i j = k
  goes_on_fine at (First f name) v p fs s e k h i j = nothing_fine (Inside (Second f name v) p ∷ fs) s (((k, h), i), j)
  goes_on_fine at (Second f name x) v p fs s e k h i j = k.0
  goes_on_fine at (Each f x) v p fs s e k h i j = nothing_fine (Inside (Each f (Some (most_found f x v))) p ∷ fs) s ((most_fine f x v k h, i), j)

  comma_fine : (at : ℕ) (v : Found) (fs : List OpenFrame) (s : ExprState) → Good at → Fine v → FramesFine fs → Stays (at_comma at v fs s)
  comma_fine at v [] s e h k = e
  comma_fine at v (Inside bracket saved ∷ fs) s e h k = goes_on_fine at bracket v saved fs s e k.0.0 h k.0.1 k.1
  comma_fine at v (Then c ∷ fs) s e h k = e
  comma_fine at v (Else c x ∷ fs) s e h k = e

  colon_fine : (at : ℕ) (v : Found) (fs : List OpenFrame) (s : ExprState) → Good at → Fine v → FramesFine fs → Stays (at_colon at v fs s)
  colon_fine at v [] s e h k = e
  colon_fine at v (Inside bracket saved ∷ fs) s e h k = e
  colon_fine at v (Then c ∷ fs) s e h k = nothing_fine (Else c v ∷ fs) s ((k.0, h), k.1)
  colon_fine at v (Else c x ∷ fs) s e h k = e

  -- ---- one piece

  mode_fine : (m : Mode) (s : ExprState) → ModeFine m → StateFine s → Stays (to_mode m s)
  mode_fine m s k h = record { mode = k; pending = h.pending; frames = h.frames }

  same_pending : (m : Mode) (s : ExprState) (p : Pending) → ModeFine m → PendingFine p → StateFine s → StateFine (record s { mode = m; pending = p })
  same_pending m s p k l h = record { mode = k; pending = l; frames = h.frames }

  exponent_fine : (sign : Prefix) (at : ℕ) (s : ExprState) → Good at → StateFine s → Stays (sign_exponent sign at s)
  exponent_fine Not at s e h = e
  exponent_fine Negate at s e h = record {
    mode = tt;
    pending = (let p = h.pending in record {
      power = p.power;
      product = p.product;
      sum = p.sum;
      comparison = p.comparison;
      conjunction = p.conjunction;
      disjunction = p.disjunction;
    });
    frames = h.frames;
  }
  exponent_fine Keep at s e h = record {
    mode = tt;
    pending = (let p = h.pending in record {
      power = p.power;
      product = p.product;
      sum = p.sum;
      comparison = p.comparison;
      conjunction = p.conjunction;
      disjunction = p.disjunction;
    });
    frames = h.frames;
  }

  operand_fine : (w : Option Waiting) (sign : Prefix) (at : ℕ) (s : ExprState) → Good at → StateFine s → Stays (sign_operand w sign at s)
  operand_fine None sign at s e h = record {
    mode = tt;
    pending = (let p = h.pending in record {
      power = p.power;
      product = p.product;
      sum = p.sum;
      comparison = p.comparison;
      conjunction = p.conjunction;
      disjunction = p.disjunction;
    });
    frames = h.frames;
  }
  operand_fine (Some w) sign at s e h = exponent_fine sign at s e h

  begin_fine : (m : Mark) (at : ℕ) (s : ExprState) → Good at → StateFine s → Stays (begin m at s)
  begin_fine (Digit d) at s e h = mode_fine _ s e h
  begin_fine Dots at s e h = mode_fine _ s e h
  begin_fine Pi at s e h = mode_fine _ s tt h
  begin_fine (Single f) at s e h = mode_fine _ s e h
  begin_fine (Double f) at s e h = mode_fine _ s e h
  begin_fine (Several f) at s e h = mode_fine _ s tt h
  begin_fine Minus at s e h = operand_fine s.pending.power Negate at s e h
  begin_fine Plus at s e h = operand_fine s.pending.power Keep at s e h
  begin_fine Bang at s e h = operand_fine s.pending.power Not at s e h
  begin_fine Left at s e h = opened_fine at (Inside Plain s.pending) s e (tt, h.pending) h
  begin_fine Gap at s e h = mode_fine Wanted s tt h
  begin_fine _ at s e h = e

  ordered_fine : (m : Mark) (at : ℕ) (s : ExprState) → Good at → StateFine s → Stays (ordered m at s)
  ordered_fine Equals at s e h = record {
    mode = tt;
    pending = (let p = h.pending in record {
      power = p.power;
      product = p.product;
      sum = p.sum;
      comparison = or_same_fine s.pending.comparison p.comparison;
      conjunction = p.conjunction;
      disjunction = p.disjunction;
    });
    frames = h.frames;
  }
  ordered_fine mark at s e h = begin_fine mark at s e h

  half_fine : (w m : Mark) (at : ℕ) (s : ExprState) → Good at → StateFine s → Stays (half w m at s)
  half_fine w m at s e h = holds_if StateFine Early (is_half w m) _ _ (mode_fine Wanted s tt h) e

  named_fine : (b : Bracket) (m : Mark) (at : ℕ) (s : ExprState) → Good at → BracketFine b → StateFine s → Stays (named b m at s)
  named_fine b Left at s e k h = opened_fine at (Inside b s.pending) s e (k, h.pending) h
  named_fine b Gap at s e k h = mode_fine (Named b) s k h
  named_fine b _ at s e k h = e

  operator_fine : (o : Operator) (m : Mode) (at : ℕ) (x : Found) (s : ExprState) → Good at → ModeFine m → Fine x → StateFine s
      → Stays (operator o m at x s)
  operator_fine o m at x s e i k h = same_pending m s (waits o at x s.pending) i (waits_fine o at x s.pending e k h.pending) h

  a_comparison_fine : (o : Operator) (m : Mode) (at : ℕ) (x : Found) (s : ExprState) → Good at → ModeFine m → Fine x → StateFine s
      → Stays (comparison o m at x s)
  a_comparison_fine o m at x s e i k h = holds_if StateFine Early (is_some s.pending.comparison) _ _ e (operator_fine o m at x s e i k h)

  after_fine : (font : FontUnits) (x : Found) (m : Mark) (at : ℕ) (s : ExprState) → Good at → Fine x → StateFine s → Stays (after font x m at s)
  after_fine font x (Measure unit) at s e k h = record { mode = fine_then x _ k (λ v. placed_fine at _ e); pending = h.pending; frames = h.frames }
  after_fine font x Radian at s e k h = mode_fine _ s (fine_then x _ k (λ v. placed_fine at _ e)) h
  after_fine font x Caret at s e k h = operator_fine Raise Wanted at x s e tt k h
  after_fine font x Star at s e k h = operator_fine Multiply Wanted at x s e tt k h
  after_fine font x Slash at s e k h = operator_fine Divide Wanted at x s e tt k h
  after_fine font x Plus at s e k h = operator_fine Add Wanted at x s e tt k h
  after_fine font x Minus at s e k h = operator_fine Subtract Wanted at x s e tt k h
  after_fine font x Less at s e k h = a_comparison_fine Below Ordered at x s e tt k h
  after_fine font x Greater at s e k h = a_comparison_fine Above Ordered at x s e tt k h
  after_fine font x Equals at s e k h = a_comparison_fine Same (Half Equals) at x s e tt k h
  after_fine font x Bang at s e k h = a_comparison_fine Differs (Half Equals) at x s e tt k h
  after_fine font x Ampersand at s e k h = operator_fine Both (Half Ampersand) at x s e tt k h
  after_fine font x Bar at s e k h = operator_fine Either (Half Bar) at x s e tt k h
  after_fine font x Question at s e k h = opened_fine at (Then (disjoined s.pending x)) s e (disjoined_fine s.pending x h.pending k) h
  after_fine font x Colon at s e k h = let c = behind_fine x s k h in colon_fine at _ _ s e c.value c.frames
  after_fine font x Comma at s e k h = let c = behind_fine x s k h in comma_fine at _ _ s e c.value c.frames
  after_fine font x Right at s e k h = let c = behind_fine x s k h in right_fine at _ _ s e c.value c.frames
  after_fine font x Gap at s e k h = mode_fine (After x) s k h
  after_fine font x _ at s e k h = e

  digit_fine : (d : ℕ) (n : Decimal) → Good n.at → Good (with_digit d n).at
  digit_fine d n h = at n.pointed (nat_lt n.count 17)
    where
      at : (b c : Bool) → Good (cond b (cond c (record n { count = n.count + 1; part = 10 * n.part + d }) n) (with_whole_digit d n)).at
      at true true = h
      at true false = h
      at false c = h

  dot_fine : (place : ℕ) (m : Mark) (at : ℕ) (s : ExprState) → Good at → Good place → StateFine s → Stays (dot place m at s)
  dot_fine place (Digit d) at s e k h = mode_fine _ s (digit_fine d (no_digits true place) k) h
  dot_fine place _ at s e k h = e

  measured_fine : (font : FontUnits) (n : Decimal) (m : Mark) (at : ℕ) (s : ExprState) → Good at → Good n.at → StateFine s
      → Stays (measured font n m at s)
  measured_fine font n (Measure unit) at s e k h = record { mode = placed_fine n.at _ k; pending = h.pending; frames = h.frames }
  measured_fine font n Gap at s e k h = mode_fine (Measured n) s k h
  measured_fine font n mark at s e k h = after_fine font (plain_value font n) mark at s e (placed_fine n.at _ k) h

  number_fine : (font : FontUnits) (n : Decimal) (m : Mark) (at : ℕ) (s : ExprState) → Good at → Good n.at → StateFine s → Stays (number font n m at s)
  number_fine font n (Digit d) at s e k h = mode_fine _ s (digit_fine d n k) h
  number_fine font n Dots at s e k h = holds_if StateFine Early n.pointed _ _ e (mode_fine (Number (with_point n)) s k h)
  number_fine font n mark at s e k h = measured_fine font n mark at s e k h

  mode_step : (font : FontUnits) (m : Mode) (mark : Mark) (at : ℕ) (s : ExprState) → Good at → ModeFine m → StateFine s → Stays (step_in font m mark at s)
  mode_step font Wanted mark at s e k h = begin_fine mark at s e h
  mode_step font Ordered mark at s e k h = ordered_fine mark at s e h
  mode_step font (Half wanted) mark at s e k h = half_fine wanted mark at s e h
  mode_step font (Named bracket) mark at s e k h = named_fine bracket mark at s e k h
  mode_step font (Dot place) mark at s e k h = dot_fine place mark at s e k h
  mode_step font (Number n) mark at s e k h = number_fine font n mark at s e k h
  mode_step font (Measured n) mark at s e k h = measured_fine font n mark at s e k h
  mode_step font (After x) mark at s e k h = after_fine font x mark at s e k h

  step_fine : (font : FontUnits) (s : ExprState) (p : Piece) → Good p.at → StateFine s → Stays (step font s p)
  unfolding step
  step_fine font s p e h = mode_step font s.mode p.mark p.at s e h.mode h

  -- ---- all pieces

  abbrev PiecesFine : List Piece → Type 0
  PiecesFine ps = AllByRecursion (λ (p : Piece). Good p.at) ps

  run_fine : (font : FontUnits) (s : ExprState) (ps : List Piece) → PiecesFine ps → StateFine s → Stays (run font s ps)
  run_fine font s [] e h = h
  run_fine font s (p ∷ ps) e h = holds_then StateFine StateFine Early (step font s p) _ (step_fine font s p e.0 h) (λ t k. run_fine font t ps e.1 k)

  value_fine : (end : ℕ) (fs : List OpenFrame) (v : Found) (unit : Bool) → Good end → Fine v → Fine (value_in end fs v unit)
  value_fine end [] v unit e h = fine_then v _ h (λ n. tt)
  value_fine end (f ∷ fs) v unit e h = e

  last_fine : (end : ℕ) (x : Found) (s : ExprState) → Good end → Fine x → StateFine s → Fine (finish_behind end (Some x) s)
  last_fine end x s e k h = value_fine end _ _ s.unit e (behind_fine x s k h).value

  mode_last : (font : FontUnits) (m : Mode) (end : ℕ) (s : ExprState) → Good end → ModeFine m → StateFine s → Fine (finish_behind end (operand font m) s)
  mode_last font (Number n) end s e k h = last_fine end _ s e (placed_fine n.at _ k) h
  mode_last font (Measured n) end s e k h = last_fine end _ s e (placed_fine n.at _ k) h
  mode_last font (After x) end s e k h = last_fine end x s e k h
  mode_last font Wanted end s e k h = e
  mode_last font Ordered end s e k h = e
  mode_last font (Half wanted) end s e k h = e
  mode_last font (Named bracket) end s e k h = e
  mode_last font (Dot place) end s e k h = e

  finish_fine : (font : FontUnits) (end : ℕ) (s : ExprState) → Good end → StateFine s → Fine (finish font end s)
  unfolding finish
  finish_fine font end s e h = mode_last font s.mode end s e h.mode h

  -- ---- tokens

  abbrev pub Within : List Tok → Type 0
  Within ts = AllByRecursion (λ (t : Tok). Good t.at) ts

  abbrev LumpFine : Lump → Type 0
  LumpFine (Letters text at) = Good at
  LumpFine (Alone kind at) = Good at

  abbrev LumpsFine : List Lump → Type 0
  LumpsFine lumps = AllByRecursion LumpFine lumps

  letter_fine : (c at : ℕ) (lumps : List Lump) → Good at → LumpsFine lumps → LumpsFine (with_letter c at lumps)
  letter_fine c at [] e h = (e, h)
  letter_fine c at (Letters text place ∷ lumps) e h = (e, h.1)
  letter_fine c at (Alone kind place ∷ lumps) e h = (e, h)

  char_fine : (c at : ℕ) (lumps : List Lump) (b : Bool) → Good at → LumpsFine lumps
      → LumpsFine (cond b (with_letter c at lumps) (Alone (Char c) at ∷ lumps))
  char_fine c at lumps true e h = letter_fine c at lumps e h
  char_fine c at lumps false e h = (e, h)

  token_fine : (kind : Kind) (at : ℕ) (lumps : List Lump) → Good at → LumpsFine lumps → LumpsFine (with_token kind at lumps)
  token_fine (Char c) at lumps e h = char_fine c at lumps (is_letter c) e h
  token_fine _ at lumps e h = (e, h)

  lumps_fine : (ts : List Tok) → Within ts → LumpsFine (lumps_of ts)
  lumps_fine [] h = tt
  lumps_fine (t ∷ ts) h = token_fine t.kind t.at (lumps_of ts) h.0 (lumps_fine ts h.1)

  pieces_fine : (lumps : List Lump) → LumpsFine lumps → PiecesFine (map piece_of lumps)
  pieces_fine [] h = tt
  pieces_fine (Letters text at ∷ lumps) h = (h.0, pieces_fine lumps h.1)
  pieces_fine (Alone kind at ∷ lumps) h = (h.0, pieces_fine lumps h.1)

  end_fine : (at : ℕ) (ts : List Tok) → Good at → Within ts → Good (end_of at ts)
  end_fine at [] e h = e
  end_fine at (t ∷ ts) e h = end_fine t.at ts h.0 h.1

  evaluated_fine : (font : FontUnits) (at : ℕ) (ts : List Tok) → Good at → Within ts → Fine (evaluated font at ts)
  unfolding evaluated
  evaluated_fine font at ts e h = holds_then StateFine (λ _. Unit {0}) Early (run font start (pieces_of ts)) _ (run_fine font start (pieces_of ts)
      (pieces_fine (lumps_of ts) (lumps_fine ts h)) (nothing_fine [] start tt)) (λ s k. finish_fine font (end_of at ts) s (end_fine at ts e h) k)

  -- ---- pairs

  dropped : (k : ℕ) (ts : List Tok) → Within ts → Within (drop k ts)
  dropped zero ts h = h
  dropped (suc k) [] h = tt
  dropped (suc k) (t ∷ ts) h = dropped k ts h.1

  abbrev AllSome : Option (List Tok) → Type 0
  AllSome None = Unit {0}
  AllSome (Some ts) = Within ts

  -- the parts of a cut
  abbrev CutFine : Option Cut → Type 0
  CutFine found = IfSome found (λ (c : Cut). Within c.front × Within c.rest)

  some_if : (b : Bool) (ts : List Tok) → Within ts → AllSome (cond b (Some ts) None)
  some_if true ts h = h
  some_if false ts h = tt

  alone_within : (found : Option Cut) → CutFine found → AllSome (alone found)
  alone_within None h = tt
  alone_within (Some c) h = some_if (list_all is_space_token c.rest) c.front h.0

  group_if : (b : Bool) (o : Option (List Tok)) → AllSome o → AllSome (cond b o None)
  group_if true o h = h
  group_if false o h = tt

  contents_within : (ts : List Tok) → Within ts → AllSome (contents ts)
  contents_within [] h = tt
  contents_within (t ∷ ts) h =
      group_if (is_open t.kind) (alone (group_of ts)) (alone_within (group_of ts) (group_keeps (λ (t : Tok). Good t.at) ts h.1))

  or_within : (o : Option (List Tok)) (ts : List Tok) → AllSome o → Within ts → Within (unwrap_or o ts)
  or_within None ts h k = k
  or_within (Some us) ts h k = h

  unbraced_within : (ts : List Tok) → Within ts → Within (unbraced ts)
  unfolding unbraced
  unbraced_within ts h = or_within (contents (after_spaces ts)) ts (contents_within (after_spaces ts) (dropped (prefix_len is_space_token ts) ts h)) h

  -- by an evaluation whose faults stand so
  module _ (ev : Evaluation) (font : FontUnits) (at : ℕ) (here : Good at) (ev_fine : (ts : List Tok) → Within ts → Fine (ev font at ts)) where
    value_within : (ts : List Tok) → Within ts → Fine (part_value ev font at ts)
    value_within ts h = ev_fine (unbraced ts) (unbraced_within ts h)

    plane_within : (front back : List Tok) → Within front → Within back → Fine (plane ev font at front back)
    unfolding plane
    plane_within front back h k =
        holds_if (λ _. Unit {0}) Early (is_some (before_char characters.comma back)) _ _ here
        (fine_then (part_value ev font at front) _ (value_within front h)
        (λ x. fine_then (part_value ev font at back) _ (value_within back k) (λ y. tt)))

    radii_within : (angle : ℤ) (back : List Tok) (found : Option Cut) → Within back → CutFine found → Fine (radii ev font at angle back found)
    radii_within angle back None h k = fine_then (part_value ev font at back) _ (value_within back h) (λ r. tt)
    radii_within angle back (Some c) h k =
        fine_then (part_value ev font at c.front) _ (value_within c.front k.0)
        (λ r. fine_then (part_value ev font at (drop 3 c.rest)) _ (value_within (drop 3 c.rest) (dropped 3 c.rest k.1)) (λ s. tt))

    polar_within : (front back : List Tok) → Within front → Within back → Fine (polar ev font at front back)
    unfolding polar
    polar_within front back h k =
        fine_then (ev font at front) _ (ev_fine front h)
        (λ angle. radii_within angle.number back (first_outside begins_and back) k (first_outside_keeps (λ (t : Tok). Good t.at) begins_and back k))

    by_colon_within : (found : Option Cut) → CutFine found → Fine (by_colon ev font at found)
    by_colon_within None h = tt
    by_colon_within (Some c) h = fine_then (polar ev font at c.front c.rest) _ (polar_within c.front c.rest h.0 h.1) (λ pair. tt)

    by_comma_within : (ts : List Tok) (found : Option Cut) → Within ts → CutFine found → Fine (by_comma ev font at ts found)
    by_comma_within ts None h k = by_colon_within (before_char characters.colon ts) (before_char_keeps (λ (t : Tok). Good t.at) characters.colon ts h)
    by_comma_within ts (Some c) h k = fine_then (plane ev font at c.front c.rest) _ (plane_within c.front c.rest k.0 k.1) (λ pair. tt)

    pub paired_within : (ts : List Tok) → Within ts → Fine (paired ev font at ts)
    unfolding paired
    paired_within ts h = by_comma_within ts (before_char characters.comma ts) h (before_char_keeps (λ (t : Tok). Good t.at) characters.comma ts h)

  along_within : (vector : ℤ) (at : ℕ) (v : Value) → Good at → Fine (length_along vector at v)
  along_within vector at v e = holds_if (λ _. Unit {0}) Early v.unit _ _ tt (placed_fine at _ e)

-- two numbers of a point, at one place
two_placed : (Good : ℕ → Type 0) (at : ℕ) (a b : Result ℤ NumFault) → Good at
    → Fine Good (let r : Answer Point = placed at a >>= λ p. placed at b >>= λ q. Ok (record { x = p; y = q }) in r)
two_placed Good at (Ok a) (Ok b) e = tt
two_placed Good at (Ok a) (Err f) e = e
two_placed Good at (Err f) b e = e

-- ---- what holds of the places of a text holds of the place of a fault

pub evaluated_at : (font : FontUnits) (at : ℕ) (ts : List Tok) (Good : ℕ → Type 0) → Good at → Within Good ts
    → IfErr (evaluated font at ts) (λ (f : Fault). Good f.at)
evaluated_at font at ts Good e h = only_fault (λ _. Unit {0}) (Early Good) (evaluated font at ts) (evaluated_fine Good font at ts e h)

pub paired_at : (font : FontUnits) (at : ℕ) (ts : List Tok) (Good : ℕ → Type 0) → Good at → Within Good ts
    → IfErr (paired evaluated font at ts) (λ (f : Fault). Good f.at)
paired_at font at ts Good e h = only_fault (λ _. Unit {0}) (Early Good) (paired evaluated font at ts) (paired_within Good evaluated font at e
    (λ ts. evaluated_fine Good font at ts e) ts h)

-- the same by any evaluation whose faults stand so
pub paired_by_at : (ev : Evaluation) (font : FontUnits) (at : ℕ) (ts : List Tok) (Good : ℕ → Type 0) → Good at
    → ((ts : List Tok) → Within Good ts → IfErr (ev font at ts) (λ (f : Fault). Good f.at)) → Within Good ts
    → IfErr (paired ev font at ts) (λ (f : Fault). Good f.at)
paired_by_at ev font at ts Good e fine h =
    only_fault (λ _. Unit {0}) (Early Good) (paired ev font at ts) (paired_within Good ev font at e (λ ts k. from_fault (λ _. Unit {0}) (Early Good)
    (ev font at ts) (λ _. tt) (fine ts k)) ts h)

pub vector_at : (x y : ℤ) (at : ℕ) (p : ValuePair) (Good : ℕ → Type 0) → Good at → IfErr (vector_of x y at p) (λ (f : Fault). Good f.at)
unfolding vector_of
vector_at x y at (Plane v w) Good e =
    only_fault (λ _. Unit {0}) (Early Good) _
    (fine_then Good (length_along x at v) _ (along_within Good x at v e)
    (λ p. fine_then Good (length_along y at w) _ (along_within Good y at w e) (λ q. tt)))
vector_at x y at (Polar angle v w) Good e =
    only_fault (λ _. Unit {0}) (Early Good) _
    (fine_then Good (length_along x at v) _ (along_within Good x at v e)
    (λ r. fine_then Good (length_along y at w) _ (along_within Good y at w e)
    (λ s. two_placed Good at (scaled (product r (cosine angle))) (scaled (product s (sine angle))) e)))

-- ---- places of a text

-- the place of an empty text is one
pub own_place : (at : ℕ) (ts : List Tok) → IsPlaceOf at ts at
own_place at [] = refl
own_place at (t ∷ ts) = inr (own_place at ts)

-- those of some of its tokens are
places_more : (at : ℕ) (t : Tok) (ts us : List Tok) → Within (IsPlaceOf at ts) us → Within (IsPlaceOf at (t ∷ ts)) us
places_more at t ts [] h = tt
places_more at t ts (u ∷ us) h = (inr h.0, places_more at t ts us h.1)

pub all_places : (at : ℕ) (ts : List Tok) → Within (IsPlaceOf at ts) ts
all_places at [] = tt
all_places at (t ∷ ts) = (inl refl, places_more at t ts ts (all_places at ts))

-- what holds of all of them holds of each
pub place_holds : (at : ℕ) (ts : List Tok) (Good : ℕ → Type 0) → Good at → Within Good ts → (place : ℕ) → IsPlaceOf at ts place → Good place
place_holds at [] Good e h place is = subst Good (sym is) e
place_holds at (t ∷ ts) Good e h place (inl is) = subst Good (sym is) h.0
place_holds at (t ∷ ts) Good e h place (inr is) = place_holds at ts Good e h.1 place is

pub evaluated_stands : (font : FontUnits) (at : ℕ) (ts : List Tok) → IfErr (evaluated font at ts) (λ (f : Fault). IsPlaceOf at ts f.at)
evaluated_stands font at ts = evaluated_at font at ts (IsPlaceOf at ts) (own_place at ts) (all_places at ts)

pub paired_stands : (font : FontUnits) (at : ℕ) (ts : List Tok) → IfErr (paired evaluated font at ts) (λ (f : Fault). IsPlaceOf at ts f.at)
paired_stands font at ts = paired_at font at ts (IsPlaceOf at ts) (own_place at ts) (all_places at ts)

pub vector_stands : (x y : ℤ) (at : ℕ) (p : ValuePair) → IfErr (vector_of x y at p) (λ (f : Fault). f.at ≡ at)
vector_stands x y at p = vector_at x y at p (λ (n : ℕ). n ≡ at) refl
