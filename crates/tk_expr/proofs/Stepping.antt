-- One piece in any state.
use Rattle.std.proofs.Common.{◌≡◌, ◌⊎◌, ◌↔◌, inl, inr, ℕ, Bool, true, false, cond, true≢false, nat_lt, List, [], ◌∷◌, is_some, Option, Some, None, Ok}
use Rattle.std.proofs.Common.{refl, sym, ap, subst, ◌∙◌}
use Rattle.tk_num.specs.declared.unit.Unit.{Unit as AUnit}
use Rattle.tk_token.specs.declared.Code.TheVariants.{Expression}
use Rattle.tk_token.specs.Answers.{Answer, fault}
use Rattle.tk_expr.specs.declared.FontUnits.{FontUnits}
use Rattle.tk_expr.specs.declared.operators.Prefix.{Prefix}
use Rattle.tk_expr.specs.declared.operators.Prefix.TheVariants.{Negate, Keep, Not}
use Rattle.tk_expr.specs.declared.pieces.Mark.{Mark}
use Rattle.tk_expr.specs.declared.pieces.Mark.TheVariants.{Digit, Point, Measure, Pi, Single, Double, Several, Plus, Minus, Bar, Ampersand, Equals}
use Rattle.tk_expr.specs.declared.pieces.Mark.TheVariants.{Bang, Comma, Left, Right, Gap}
use Rattle.tk_expr.specs.declared.pieces.Piece.{Piece}
use Rattle.tk_expr.specs.declared.machine.Waiting.{Waiting}
use Rattle.tk_expr.specs.declared.machine.Pending.{Pending}
use Rattle.tk_expr.specs.declared.machine.Bracket.{Bracket}
use Rattle.tk_expr.specs.declared.machine.Bracket.TheVariants.{Plain, Only, First, Each}
use Rattle.tk_expr.specs.declared.machine.OpenFrame.{OpenFrame}
use Rattle.tk_expr.specs.declared.machine.OpenFrame.TheVariants.{Inside}
use Rattle.tk_expr.specs.declared.machine.Mode.{Mode}
use Rattle.tk_expr.specs.declared.machine.Mode.TheVariants.{Wanted, Ordered, Half, Named, Dot, Number, Measured, After}
use Rattle.tk_expr.specs.Evaluates.{is_unit}
use Rattle.tk_expr.specs.Faults.{Opener, opener_behind, name_behind, open_behind}
use Rattle.tk_expr.specs.Number.{Decimal, no_digits, with_digit, with_point, plain_value, unit_value}
use Rattle.tk_expr.specs.Values.{pi_value}
use Rattle.tk_expr.specs.Grammar.{piece, skip, next_unit, after_unit, past_unit, prefix_of, exponent_sign}
use Rattle.tk_expr.specs.Machine.{Found, ExprState, with_prefix, wanted_in, to_mode, sign_operand, begin, ordered, is_half, half, named, dot, measured}
use Rattle.tk_expr.specs.Machine.{number, step_in, step}
use Rattle.tk_expr.proofs.Readings.{decimal_from, decimal_found, Whole, Primary}
use Rattle.tk_expr.proofs.Continuations.{Behind, Via, after_primary, wants, in_bracket, ends_in, in_number, in_dot, in_name, directly, or_same_waits}
use Rattle.tk_expr.proofs.Continuations.{in_mode, Completes}
use Rattle.tk_expr.proofs.Closing.{HalfMark, HalfMode}
use Rattle.tk_expr.proofs.Ends.{Unnamed}
use Rattle.tk_expr.proofs.Fronts.{is_gap, front_to, front_from, PrimaryAt, primary_in, primary_on}
use Rattle.tk_expr.proofs.Gaps.{wants_alike, pass_primary, pass_ends}
use Rattle.tk_expr.proofs.Levels.{only_left, fresh_whole, Tidy, SignAt, wants_or, wants_primary, sign_on, sign_off, exponent_on, exponent_off}
use Rattle.tk_expr.proofs.Outcomes.{Opens, NamedAt, Ahead, Proper, Valid, FramesTidy, Kept, steps, refuses, StepIs, sure, no_miscount, step_as}
use Rattle.tk_expr.proofs.Behind.{only_right, kept_mode, opened_is, after_is}

-- no sign
pub some_not_none : {A : Type 0} {a : A} {o : Option A} → o ≡ None → o ≡ Some a → ⊥
some_not_none e f = true≢false (ap is_some (sym f ∙ e))

pub same_some : {A : Type 0} {a b : A} {o : Option A} → o ≡ Some a → o ≡ Some b → a ≡ b
same_some {a = a} e f = ap (λ o. elim o as (λ _. _) [ None ↦ a | Some x ↦ x ]) (sym e ∙ f)

-- what no mark of that name does
never : Behind → ℕ → List Piece → ⊥ → ⊥
never k at ps h = h

module _ (font : FontUnits) where
  -- ---- where an operand is wanted

  -- an operand is wanted in the state
  abbrev pub Wants : ExprState → Ahead
  Wants s ps v = wants font s.pending.power s.pending (ends_in font s.frames v) ps

  abbrev IsNoPrimary : Mark → Type 1
  IsNoPrimary m = (k : Behind) (at : ℕ) (ps : List Piece) → PrimaryAt font k m at ps → ⊥

  no_sign_at : (w : Option Waiting) (p : Pending) (k : Behind) (m : Mark) (ps : List Piece) → prefix_of m ≡ None → exponent_sign m ≡ None
      → SignAt font w p k m ps → ⊥
  no_sign_at None p k m ps e f (s, h, v) = some_not_none e h
  no_sign_at (Some w) p k m ps e f (s, h, v) = some_not_none f h

  -- an operand that begins with a mark
  primary_same : (m : Mark) → is_gap m ≡ false → prefix_of m ≡ None → exponent_sign m ≡ None → (at : ℕ) (s : ExprState) → Tidy font s.pending
      → (ps : List Piece) (v : Found) → Wants s (piece m at ∷ ps) v ↔ PrimaryAt font (after_primary font s.pending (ends_in font s.frames v)) m at ps
  primary_same m g e f at s t ps v =
      let p = s.pending in
      let k = ends_in font s.frames v in (
        λ h. primary_in font m at ps (after_primary font p k) g (only_right (no_sign_at p.power p k m ps e f) (wants_or font p.power p k m at
            ps g refl t h)),
        λ h. wants_primary font p.power p k (piece m at ∷ ps) refl t (primary_on font (after_primary font p k) m at ps h),
      )

  -- a mark that begins no operand
  wants_not : (m : Mark) → is_gap m ≡ false → prefix_of m ≡ None → exponent_sign m ≡ None → IsNoPrimary m → (at : ℕ) (s : ExprState) → Tidy font s.pending
      → (ps : List Piece) (v : Found) → Wants s (piece m at ∷ ps) v → ⊥
  wants_not m g e f non at s t ps v h = non (after_primary font s.pending (ends_in font s.frames v)) at ps ((primary_same m g e f at s t ps v).0 h)

  -- in a state that wants an operand
  abbrev WantsIs : ExprState → Mark → ℕ → Answer ExprState → Type 0
  WantsIs s m at r = StepIs font (λ ps v. Wants s (piece m at ∷ ps) v) (λ k ps v. Wants s (piece Right k ∷ ps) v)
      (λ k ps v. Wants s (piece Comma k ∷ ps) v) (Unnamed font) s.frames s.unit m at r

  mode_is : (m : Mark) (at : ℕ) (mode : Mode) (s : ExprState) → Tidy font s.pending → FramesTidy font s.frames → HalfMode font mode → is_unit m ≡ false
      → ((name : Option ℕ) (os : List Opener) → open_behind name os m ≡ os)
      → ((name : Option ℕ) → Unnamed font name → NamedAt mode (name_behind name m at))
      → ((ps : List Piece) (v : Found) → Wants s (piece m at ∷ ps) v ↔ in_mode font mode s.pending (ends_in font s.frames v) ps)
      → WantsIs s m at (to_mode mode s)
  mode_is m at mode s p t half u same named iff =
      sure (steps (record s { mode = mode }) iff (kept_mode font s t m at mode s.pending half p u same named) (λ le. le))

  refused_is : (m : Mark) → is_gap m ≡ false → prefix_of m ≡ None → exponent_sign m ≡ None → IsNoPrimary m → (at : ℕ) (s : ExprState)
      → Tidy font s.pending → WantsIs s m at (fault Expression at)
  refused_is m g e f non at s t = sure (refuses (λ ps v h. wants_not m g e f non at s t ps v h) (no_miscount font _ _ s.frames m
      (λ k ps v h. wants_not Right refl refl refl never k s t ps v h) (λ k ps v h. wants_not Comma refl refl refl never k s t ps v h)))

  -- ---- signs

  sign_same : (sign : Prefix) (m : Mark) → is_gap m ≡ false → prefix_of m ≡ Some sign → IsNoPrimary m → (at : ℕ) (p : Pending) (k : Behind)
      → p.power ≡ None → Tidy font p → (ps : List Piece)
      → wants font None p k (piece m at ∷ ps) ↔ wants font None (record p { signs = with_prefix sign p.signs }) k ps
  sign_same sign m g f non at p k alone t ps = (λ h. by (wants_or font None p k m at ps g alone t h), λ h. sign_on font sign p k m at ps g f h)
    where
      by : SignAt font None p k m ps ⊎ Via (Primary font (piece m at ∷ ps)) (after_primary font p k)
          → wants font None (record p { signs = with_prefix sign p.signs }) k ps
      by (inl (s, e, h)) =
          subst (λ (s : Prefix). wants font None (record p { signs = with_prefix s p.signs }) k ps) (same_some e f) (sign_off font s p k ps h)
      by (inr h) = absurd (non (after_primary font p k) at ps (primary_in font m at ps (after_primary font p k) g h))

  exponent_same : (sign : Prefix) (m : Mark) → is_gap m ≡ false → exponent_sign m ≡ Some sign → IsNoPrimary m
      → (at : ℕ) (w : Waiting) (p : Pending) (k : Behind) → p.power ≡ Some w → Tidy font p → (ps : List Piece)
      → wants font (Some w) p k (piece m at ∷ ps) ↔ wants font (Some w) (record p { exponent = with_prefix sign p.exponent }) k ps
  exponent_same sign m g f non at w p k is t ps =
      (λ h. by (wants_or font (Some w) p k m at ps g is t h), λ h. exponent_on font sign p k m at ps g f h)
    where
      by : SignAt font (Some w) p k m ps ⊎ Via (Primary font (piece m at ∷ ps)) (after_primary font p k)
          → wants font (Some w) (record p { exponent = with_prefix sign p.exponent }) k ps
      by (inl (s, e, h)) = subst (λ (s : Prefix). wants font (Some w) (record p { exponent = with_prefix s p.exponent }) k ps) (same_some e f)
          (exponent_off font s p k ps h)
      by (inr h) = absurd (non (after_primary font p k) at ps (primary_in font m at ps (after_primary font p k) g h))

  module _ (m : Mark) (g : is_gap m ≡ false) (non : IsNoPrimary m) (u : is_unit m ≡ false) (same : (name : Option ℕ) (os : List Opener)
      → open_behind name os m ≡ os) (named : (name : Option ℕ) (at : ℕ) → name_behind name m at ≡ None) where
    operand_sign : (sign : Prefix) → prefix_of m ≡ Some sign → (at : ℕ) (s : ExprState) → s.pending.power ≡ None → Tidy font s.pending
        → FramesTidy font s.frames
        → WantsIs s m at (Ok (record s { mode = Wanted; pending = record s.pending { signs = with_prefix sign s.pending.signs } }))
    operand_sign sign f at s alone p t =
        let q = record s.pending { signs = with_prefix sign s.pending.signs } in
        sure (steps (record s { mode = Wanted; pending = q })
        (λ ps v. subst (λ (w : Option Waiting). wants font w s.pending (ends_in font s.frames v) (piece m at ∷ ps)
        ↔ wants font w q (ends_in font s.frames v) ps) (sym alone) (sign_same sign m g f non at s.pending (ends_in font s.frames v) alone p ps))
        (kept_mode font s t m at Wanted q tt p u same (λ name e. named name at)) (λ le. le))

    exponent_sign_is : (sign : Prefix) → exponent_sign m ≡ Some sign → (at : ℕ) (s : ExprState) (w : Waiting) → s.pending.power ≡ Some w
        → Tidy font s.pending → FramesTidy font s.frames
        → WantsIs s m at (Ok (record s { mode = Wanted; pending = record s.pending { exponent = with_prefix sign s.pending.exponent } }))
    exponent_sign_is sign f at s w is p t =
        let q = record s.pending { exponent = with_prefix sign s.pending.exponent } in
        sure (steps (record s { mode = Wanted; pending = q })
        (λ ps v. subst (λ (w : Option Waiting). wants font w s.pending (ends_in font s.frames v) (piece m at ∷ ps)
        ↔ wants font w q (ends_in font s.frames v) ps) (sym is) (exponent_same sign m g f non at w s.pending (ends_in font s.frames v) is p ps))
        (kept_mode font s t m at Wanted q tt (λ e. absurd (some_not_none e is)) u same (λ name e. named name at)) (λ le. le))

  minus_is : (w : Option Waiting) (at : ℕ) (s : ExprState) → s.pending.power ≡ w → Tidy font s.pending → FramesTidy font s.frames
      → WantsIs s Minus at (sign_operand w Negate at s)
  minus_is None at s e p t = operand_sign Minus refl never refl (λ name os. refl) (λ name at. refl) Negate refl at s e p t
  minus_is (Some w) at s e p t = exponent_sign_is Minus refl never refl (λ name os. refl) (λ name at. refl) Negate refl at s w e p t

  plus_is : (w : Option Waiting) (at : ℕ) (s : ExprState) → s.pending.power ≡ w → Tidy font s.pending → FramesTidy font s.frames
      → WantsIs s Plus at (sign_operand w Keep at s)
  plus_is None at s e p t = operand_sign Plus refl never refl (λ name os. refl) (λ name at. refl) Keep refl at s e p t
  plus_is (Some w) at s e p t = exponent_sign_is Plus refl never refl (λ name os. refl) (λ name at. refl) Keep refl at s w e p t

  no_exponent : (w : Waiting) (at : ℕ) (p : Pending) (k : Behind) (ps : List Piece) → p.power ≡ Some w → Tidy font p
      → wants font p.power p k (piece Bang at ∷ ps) → ⊥
  no_exponent w at p k ps is t h =
      by (wants_or font (Some w) p k Bang at ps refl is t (subst (λ (w : Option Waiting). wants font w p k (piece Bang at ∷ ps)) is h))
    where
      by : SignAt font (Some w) p k Bang ps ⊎ Via (Primary font (piece Bang at ∷ ps)) (after_primary font p k) → ⊥
      by (inl (s, e, h)) = some_not_none refl e
      by (inr h) = primary_in font Bang at ps (after_primary font p k) refl h

  bang_is : (w : Option Waiting) (at : ℕ) (s : ExprState) → s.pending.power ≡ w → Tidy font s.pending → FramesTidy font s.frames
      → WantsIs s Bang at (sign_operand w Not at s)
  bang_is None at s e p t = operand_sign Bang refl never refl (λ name os. refl) (λ name at. refl) Not refl at s e p t
  bang_is (Some w) at s e p t = sure (refuses (λ ps v h. no_exponent w at s.pending (ends_in font s.frames v) ps e p h) tt)

  -- ---- all marks

  left_same : (at : ℕ) (s : ExprState) → Tidy font s.pending → (ps : List Piece) (v : Found)
      → Wants s (piece Left at ∷ ps) v ↔ Completes font (wanted_in (Inside Plain s.pending ∷ s.frames) s) ps v
  left_same at s p ps v
      = let f = primary_same Left refl refl refl at s p ps v in let w = fresh_whole font (ends_in font (Inside Plain s.pending ∷ s.frames) v) ps in
      (λ h. w.0 (f.0 h), λ h. f.1 (w.1 h))

  begin_is : (m : Mark) (at : ℕ) (s : ExprState) → Proper m → Tidy font s.pending → FramesTidy font s.frames → WantsIs s m at (begin m at s)
  begin_is (Digit d) at s small p t = mode_is (Digit d) at (Number (with_digit d (no_digits false at))) s p t tt refl (λ name os. refl)
      (λ name e. refl) (λ ps v. let f = primary_same (Digit d) refl refl refl at s p ps v in (λ h. (f.0 h).1, λ h. f.1 (small, h)))
  begin_is Point at s small p t =
      mode_is Point at (Dot at) s p t tt refl (λ name os. refl) (λ name e. refl) (λ ps v. primary_same Point refl refl refl at s p ps v)
  begin_is Pi at s small p t =
      mode_is Pi at (After (Ok pi_value)) s p t tt refl (λ name os. refl) (λ name e. refl) (λ ps v. primary_same Pi refl refl refl at s p ps v)
  begin_is (Single f) at s small p t =
      mode_is (Single f) at (Named (Only f at)) s p t tt refl (λ name os. refl) (λ name e. refl) (λ ps v. primary_same (Single f) refl refl
      refl at s p ps v)
  begin_is (Double f) at s small p t =
      mode_is (Double f) at (Named (First f at)) s p t tt refl (λ name os. refl) (λ name e. refl) (λ ps v. primary_same (Double f) refl refl
      refl at s p ps v)
  begin_is (Several f) at s small p t =
      mode_is (Several f) at (Named (Each f None)) s p t tt refl (λ name os. refl) (λ name e. tt) (λ ps v. primary_same (Several f) refl refl
      refl at s p ps v)
  begin_is Minus at s small p t = minus_is s.pending.power at s refl p t
  begin_is Plus at s small p t = plus_is s.pending.power at s refl p t
  begin_is Bang at s small p t = bang_is s.pending.power at s refl p t
  begin_is Left at s small p t = opened_is font _ _ _ (Unnamed font) Left at (Inside Plain s.pending) s (λ ps v. left_same at s p ps v)
      (record {
        valid = record { half = tt; tidy = λ e. refl; frames = (p, t) };
        unit_is = refl;
        opens = λ name os e h.
            (subst (λ (name : Option ℕ). Opens (Inside Plain s.pending ∷ s.frames) (opener_behind name ∷ os)) (sym e) (tt, h), refl);
      })
  begin_is Gap at s small p t = mode_is Gap at Wanted s p t tt refl (λ name os. refl) (λ name e. e)
      (λ ps v. (
        λ h. wants_alike font s.pending.power s.pending (ends_in font s.frames v) (piece Gap at ∷ ps) ps refl h,
        λ h. wants_alike font
            s.pending.power s.pending (ends_in font s.frames v) ps (piece Gap at ∷ ps) refl h,
      ))
  begin_is m at s small p t = refused_is m refl refl refl never at s p

  -- ---- behind `<` or `>`

  abbrev is_equals : Mark → Bool
  is_equals Equals = true
  is_equals _ = false

  -- another mark stands in front
  not_directly : (test : Mark → Bool) (m n : Mark) (k : List Piece → Type 0) (at : ℕ) (ps : List Piece) → test m ≡ false → test n ≡ true
      → directly font n k (piece m at ∷ ps) → ⊥
  not_directly test m n k at ps e is (i, qs, b, h) = true≢false (sym is ∙ front_from (λ m _ _. test m ≡ false) m n at i ps qs b e)

  directly_same : (m : Mark) (k : List Piece → Type 0) (at : ℕ) (ps : List Piece) → directly font m k (piece m at ∷ ps) ↔ k ps
  directly_same m k at ps = (λ (i, qs, b, h). front_from (λ _ _ ps. k ps) m m i at qs ps (sym b) h, λ h. (at, ps, refl, h))

  abbrev Orders : ExprState → Ahead
  Orders s ps v = in_mode font Ordered s.pending (ends_in font s.frames v) ps

  order_same : (m : Mark) → is_equals m ≡ false → (at : ℕ) (s : ExprState) (ps : List Piece) (v : Found)
      → Orders s (piece m at ∷ ps) v ↔ Wants s (piece m at ∷ ps) v
  order_same m e at s ps v = (λ h. only_left (λ h. not_directly is_equals m Equals _ at ps e refl h) h, λ h. inl h)

  abbrev OrderIs : ExprState → Mark → ℕ → Answer ExprState → Type 0
  OrderIs s m at r = StepIs font (λ ps v. Orders s (piece m at ∷ ps) v) (λ k ps v. Orders s (piece Right k ∷ ps) v)
      (λ k ps v. Orders s (piece Comma k ∷ ps) v) (Unnamed font) s.frames s.unit m at r

  order_as : (m : Mark) → is_equals m ≡ false → (at : ℕ) (s : ExprState) (r : Answer ExprState) → WantsIs s m at r → OrderIs s m at r
  order_as m e at s r h =
      step_as font (λ ps v. order_same m e at s ps v) (λ k ps v. order_same Right refl k s ps v) (λ k ps v. order_same Comma refl k s ps v) h

  ordered_is : (m : Mark) (at : ℕ) (s : ExprState) → Proper m → Tidy font s.pending → FramesTidy font s.frames → OrderIs s m at (ordered m at s)
  ordered_is Equals at s small p t = sure (steps (record s { mode = Wanted; pending = or_same_waits font s.pending })
      (λ ps v. let d = directly_same Equals (wants font s.pending.power (or_same_waits font s.pending) (ends_in font s.frames v)) at ps in (
        λ h.
            d.0 (only_right (wants_not Equals refl refl refl never at s p ps v) h),
        λ h. inr (d.1 h),
      )) (kept_mode font s t Equals at Wanted
      (or_same_waits font s.pending) tt p refl (λ name os. refl) (λ name e. refl)) (λ le. le))
  ordered_is m at s small p t = order_as m refl at s (begin m at s) (begin_is m at s small p t)

  -- ---- behind the first half of an operator

  half_same : (w m : Mark) → is_half w m ≡ true → w ≡ m
  half_same Equals Equals e = refl
  half_same Ampersand Ampersand e = refl
  half_same Bar Bar e = refl
  half_same _ _ e = absurd (true≢false (sym e))

  half_self : (w : Mark) → HalfMark font w → is_half w w ≡ true
  half_self Equals h = refl
  half_self Ampersand h = refl
  half_self Bar h = refl
  half_self _ h = elim h [ ]

  not_half : (w : Mark) → (is_half w Right ≡ false) × (is_half w Comma ≡ false)
  not_half Equals = (refl, refl)
  not_half Ampersand = (refl, refl)
  not_half Bar = (refl, refl)
  not_half _ = (refl, refl)

  half_kept : (w : Mark) (at : ℕ) (s : ExprState) → HalfMark font w → Tidy font s.pending → FramesTidy font s.frames
      → Kept font (Unnamed font) s.frames s.unit w at (record s { mode = Wanted })
  half_kept Equals at s h p t = kept_mode font s t Equals at Wanted s.pending tt p refl (λ name os. refl) (λ name e. refl)
  half_kept Ampersand at s h p t = kept_mode font s t Ampersand at Wanted s.pending tt p refl (λ name os. refl) (λ name e. refl)
  half_kept Bar at s h p t = kept_mode font s t Bar at Wanted s.pending tt p refl (λ name os. refl) (λ name e. refl)
  half_kept _ at s h p t = elim h [ ]

  abbrev HalfIs : Mark → ExprState → Mark → ℕ → Answer ExprState → Type 0
  HalfIs w s m at r = StepIs font (λ ps v. in_mode font (Half w) s.pending (ends_in font s.frames v) (piece m at ∷ ps))
      (λ k ps v. in_mode font (Half w) s.pending (ends_in font s.frames v) (piece Right k ∷ ps)) (λ k ps v. in_mode font (Half w) s.pending
      (ends_in font s.frames v) (piece Comma k ∷ ps)) (Unnamed font) s.frames s.unit m at r

  half_is : (w m : Mark) (at : ℕ) (s : ExprState) → HalfMark font w → Tidy font s.pending → FramesTidy font s.frames → HalfIs w s m at (half w m at s)
  half_is w m at s h p t = by (is_half w m) refl
    where
      by : (b : Bool) → is_half w m ≡ b → HalfIs w s m at (cond b (to_mode Wanted s) (fault Expression at))
      by true e = subst (λ (m : Mark). HalfIs w s m at (to_mode Wanted s)) (half_same w m e)
          (sure (steps (record s { mode = Wanted }) (λ ps v. directly_same w (wants font s.pending.power s.pending (ends_in font s.frames v)) at ps)
          (half_kept w at s h p t) (λ le. le)))
      by false e = sure (refuses (λ ps v x. not_directly (is_half w) m w _ at ps e (half_self w h) x) (no_miscount font _ _ s.frames m
          (λ k ps v x. not_directly (is_half w) Right w _ k ps (not_half w).0 (half_self w h) x) (λ k ps v x. not_directly (is_half w) Comma w _ k ps
          (not_half w).1 (half_self w h) x)))

  -- what stands behind an operand of the state
  abbrev behind : ExprState → Found → Behind
  behind s v = after_primary font s.pending (ends_in font s.frames v)

  -- ---- behind a name

  abbrev is_left : Mark → Bool
  is_left Left = true
  is_left _ = false

  no_left : (b : Bracket) (m : Mark) (k : Behind) (at : ℕ) (ps : List Piece) → is_gap m ≡ false → is_left m ≡ false
      → in_name font b k (piece m at ∷ ps) → ⊥
  no_left b m k at ps g e (i, qs, l, h) = true≢false (sym (front_to (λ m _ _. is_left m ≡ true) m Left at i ps qs g l refl) ∙ e)

  left_of : (b : Bracket) (k : Behind) (at : ℕ) (ps : List Piece) → in_name font b k (piece Left at ∷ ps) ↔ Via (Whole font ps) (in_bracket font b k)
  left_of b k at ps =
      (λ (i, qs, l, h). front_from (λ _ _ ps. Via (Whole font ps) (in_bracket font b k)) Left Left i at qs ps (sym l) h, λ h. (at, ps, refl, h))

  abbrev NameIs : Bracket → ExprState → Mark → ℕ → Answer ExprState → Type 0
  NameIs b s m at r = StepIs font (λ ps v. in_mode font (Named b) s.pending (ends_in font s.frames v) (piece m at ∷ ps))
      (λ k ps v. in_mode font (Named b) s.pending (ends_in font s.frames v) (piece Right k ∷ ps)) (λ k ps v. in_mode font (Named b) s.pending
      (ends_in font s.frames v) (piece Comma k ∷ ps)) (NamedAt (Named b)) s.frames s.unit m at r

  name_opens : (b : Bracket) (p : Pending) (fs : List OpenFrame) (name : Option ℕ) (os : List Opener) → NamedAt (Named b) name → Opens fs os
      → Opens (Inside b p ∷ fs) (opener_behind name ∷ os)
  name_opens b p fs None os e h = (e, h)
  name_opens b p fs (Some n) os e h = (e, h)

  named_is : (b : Bracket) (m : Mark) (at : ℕ) (s : ExprState) → Tidy font s.pending → FramesTidy font s.frames → NameIs b s m at (named b m at s)
  named_is b Left at s p t = opened_is font _ _ _ (NamedAt (Named b)) Left at (Inside b s.pending) s
      (λ ps v. let k = after_primary font s.pending (ends_in font s.frames v) in let l = left_of b k at ps in let w = fresh_whole font (in_bracket font b k) ps in (λ h. w.0 (l.0 h), λ h. l.1 (w.1 h))) (record { valid = record { half = tt; tidy = λ e. refl; frames = (p, t) }; unit_is = refl; opens = λ name os e h. (name_opens b s.pending s.frames name os e h, refl) })
  named_is b Gap at s p t = sure (steps (record s { mode = Named b }) (λ ps v. (λ h. h, λ h. h))
      (record { valid = record { half = tt; tidy = p; frames = t }; unit_is = refl; opens = λ name os e h. (h, e) }) (λ le. le))
  named_is b m at s p t = sure (refuses (λ ps v h. no_left b m (behind s v) at ps refl refl h)
      (no_miscount font (λ k ps v. in_name font b (behind s v) (piece Right k ∷ ps)) (λ k ps v. in_name font b (behind s v) (piece Comma k ∷ ps))
      s.frames m (λ k ps v h. no_left b Right (behind s v) k ps refl refl h) (λ k ps v h. no_left b Comma (behind s v) k ps refl refl h)))

  -- ---- decimals

  -- a digit behind the point
  abbrev DotAt : ℕ → Behind → Mark → List Piece → Type 0
  DotAt place k (Digit d) ps = in_number font (with_digit d (no_digits true place)) k ps
  DotAt place k _ ps = ⊥

  dot_at : (place : ℕ) (k : Behind) (m : Mark) (at : ℕ) (ps : List Piece) → in_dot font place k (piece m at ∷ ps) → DotAt place k m ps
  dot_at place k m at ps (d, i, qs, e, small, h) = front_from (λ m _ ps. DotAt place k m ps) (Digit d) m i at qs ps (sym e) h

  abbrev DotIs : ℕ → ExprState → Mark → ℕ → Answer ExprState → Type 0
  DotIs place s m at r = StepIs font (λ ps v. in_mode font (Dot place) s.pending (ends_in font s.frames v) (piece m at ∷ ps))
      (λ k ps v. in_mode font (Dot place) s.pending (ends_in font s.frames v) (piece Right k ∷ ps)) (λ k ps v. in_mode font (Dot place) s.pending
      (ends_in font s.frames v) (piece Comma k ∷ ps)) (Unnamed font) s.frames s.unit m at r

  dot_is : (place : ℕ) (m : Mark) (at : ℕ) (s : ExprState) → Proper m → Tidy font s.pending → FramesTidy font s.frames
      → DotIs place s m at (dot place m at s)
  dot_is place (Digit d) at s small p t =
      sure (steps (record s { mode = Number (with_digit d (no_digits true place)) }) (λ ps v. (
        λ h. dot_at place (behind s v) (Digit d) at ps h,
        λ h.
            (d, at, ps, refl, small, h),
      )) (kept_mode font s t (Digit d) at (Number (with_digit d (no_digits true place))) s.pending tt p refl
      (λ name os. refl) (λ name e. refl)) (λ le. le))
  dot_is place m at s small p t = sure (refuses (λ ps v h. dot_at place (behind s v) m at ps h)
      (no_miscount font (λ k ps v. in_dot font place (behind s v) (piece Right k ∷ ps)) (λ k ps v. in_dot font place (behind s v) (piece Comma k
      ∷ ps)) s.frames m (λ k ps v h. dot_at place (behind s v) Right k ps h) (λ k ps v h. dot_at place (behind s v) Comma k ps h)))

  abbrev MeasuredIs : Decimal → ExprState → Mark → ℕ → Answer ExprState → Type 0
  MeasuredIs n s m at r = StepIs font (λ ps v. in_mode font (Measured n) s.pending (ends_in font s.frames v) (piece m at ∷ ps))
      (λ k ps v. in_mode font (Measured n) s.pending (ends_in font s.frames v) (piece Right k ∷ ps)) (λ k ps v. in_mode font (Measured n) s.pending
      (ends_in font s.frames v) (piece Comma k ∷ ps)) (Unnamed font) s.frames s.unit m at r

  -- gaps before the unit, or before what stands there in its place
  past_gaps : (unit : Option AUnit) (k : Behind) (x : Found) (ms ps qs : List Piece) → ((ps qs : List Piece) → skip ps ≡ skip qs → k x ps → k x qs)
      → skip ps ≡ skip qs → k x (past_unit unit ms ps) → k x (past_unit unit ms qs)
  past_gaps (Some u) k x [] ps qs pass e h = pass ps qs e h
  past_gaps (Some u) k x (m ∷ ms) ps qs pass e h = h
  past_gaps None k x ms ps qs pass e h = pass ps qs e h

  gap_same : (n : Decimal) (at : ℕ) (s : ExprState) (ps : List Piece) (v : Found)
      → in_mode font (Measured n) s.pending (ends_in font s.frames v) (piece Gap at ∷ ps)
      ↔ in_mode font (Measured n) s.pending (ends_in font s.frames v) ps
  gap_same n at s ps v =
      let k = after_primary font s.pending (ends_in font s.frames v) in
      let x = decimal_found font (next_unit ps) n in
      let pass = λ (ps qs : List Piece) (e : skip ps ≡ skip qs) (h : k x ps). pass_primary font s.pending (ends_in font s.frames v)
      (pass_ends font s.frames v) x ps qs e h in (
        λ h. past_gaps (next_unit ps) k x (skip ps) (piece Gap at ∷ ps) ps pass refl h,
        λ h. past_gaps (next_unit ps) k x (skip ps) ps (piece Gap at
            ∷ ps) pass refl h,
      )

  measured_is : (n : Decimal) (m : Mark) (at : ℕ) (s : ExprState) → Tidy font s.pending → FramesTidy font s.frames
      → MeasuredIs n s m at (measured font n m at s)
  measured_is n (Measure u) at s p t =
      sure (steps (record s { mode = After (unit_value font u n); unit = true }) (λ ps v. (λ h. h, λ h. h))
      (record { valid = record { half = tt; tidy = p; frames = t }; unit_is = refl; opens = λ name os e h. (h, refl) }) (λ le. le))
  measured_is n Gap at s p t = sure (steps (record s { mode = Measured n }) (λ ps v. gap_same n at s ps v)
      (record { valid = record { half = tt; tidy = p; frames = t }; unit_is = refl; opens = λ name os e h. (h, e) }) (λ le. le))
  measured_is n m at s p t = after_is font (plain_value font n) m at s p t

  abbrev NumberIs : Decimal → ExprState → Mark → ℕ → Answer ExprState → Type 0
  NumberIs n s m at r = StepIs font (λ ps v. in_mode font (Number n) s.pending (ends_in font s.frames v) (piece m at ∷ ps))
      (λ k ps v. in_mode font (Number n) s.pending (ends_in font s.frames v) (piece Right k ∷ ps)) (λ k ps v. in_mode font (Number n) s.pending
      (ends_in font s.frames v) (piece Comma k ∷ ps)) (Unnamed font) s.frames s.unit m at r

  -- a decimal that has ended
  decimal_ends : (n : Decimal) (k : Behind) (ps qs : List Piece) (found : Option Decimal) → found ≡ Some n
      → ((m : Decimal) × (found ≡ Some m) × k (decimal_found font (next_unit ps) m) qs) ↔ k (decimal_found font (next_unit ps) n) qs
  decimal_ends n k ps qs found e =
      (λ (m, f, h). subst (λ (m : Decimal). k (decimal_found font (next_unit ps) m) qs) (same_some f e) h, λ h. (n, e, h))

  digit_same : (n : Decimal) (d at : ℕ) (k : Behind) (ps : List Piece) → nat_lt d 10 ≡ true
      → in_number font n k (piece (Digit d) at ∷ ps) ↔ in_number font (with_digit d n) k ps
  digit_same n d at k ps small =
      let is : decimal_from (piece (Digit d) at ∷ ps) n
      ≡ decimal_from ps (with_digit d n) = ap (λ (b : Bool). cond b (decimal_from ps (with_digit d n)) None) small in
      (λ (m, e, h). (m, sym is ∙ e, h), λ (m, e, h). (m, is ∙ e, h))

  point_same : (n : Decimal) (at : ℕ) (k : Behind) (ps : List Piece) → n.pointed ≡ false
      → in_number font n k (piece Point at ∷ ps) ↔ in_number font (with_point n) k ps
  point_same n at k ps e =
      let is : decimal_from (piece Point at ∷ ps) n ≡ decimal_from ps (with_point n) = ap (λ (b : Bool). cond b None (decimal_from ps (with_point n)))
      e in
      (λ (m, f, h). (m, sym is ∙ f, h), λ (m, f, h). (m, is ∙ f, h))

  second_point : (n : Decimal) (at : ℕ) (k : Behind) (ps : List Piece) → n.pointed ≡ true → in_number font n k (piece Point at ∷ ps) → ⊥
  second_point n at k ps e (m, f, h) = some_not_none (ap (λ (b : Bool). cond b None (decimal_from ps (with_point n))) e) f

  point_is : (b : Bool) (n : Decimal) (at : ℕ) (s : ExprState) → n.pointed ≡ b → Tidy font s.pending → FramesTidy font s.frames
      → NumberIs n s Point at (cond b (fault Expression at) (to_mode (Number (with_point n)) s))
  point_is true n at s e p t = sure (refuses (λ ps v h. second_point n at (behind s v) ps e h) tt)
  point_is false n at s e p t = sure (steps (record s { mode = Number (with_point n) }) (λ ps v. point_same n at (behind s v) ps e)
      (kept_mode font s t Point at (Number (with_point n)) s.pending tt p refl (λ name os. refl) (λ name e. refl)) (λ le. le))

  number_is : (n : Decimal) (m : Mark) (at : ℕ) (s : ExprState) → Proper m → Tidy font s.pending → FramesTidy font s.frames
      → NumberIs n s m at (number font n m at s)
  number_is n (Digit d) at s small p t =
      sure (steps (record s { mode = Number (with_digit d n) }) (λ ps v. digit_same n d at (behind s v) ps small) (kept_mode font s t (Digit d) at
      (Number (with_digit d n)) s.pending tt p refl (λ name os. refl) (λ name e. refl)) (λ le. le))
  number_is n Point at s small p t = point_is n.pointed n at s refl p t
  number_is n m at s small p t = step_as font (λ ps v. decimal_ends n (after_primary font s.pending (ends_in font s.frames v)) (piece m at ∷ ps)
      (after_unit (piece m at ∷ ps)) (Some n) refl) (λ k ps v. decimal_ends n (after_primary font s.pending (ends_in font s.frames v)) (piece Right k
      ∷ ps) (piece Right k ∷ ps) (Some n) refl) (λ k ps v. decimal_ends n (after_primary font s.pending (ends_in font s.frames v)) (piece Comma k
      ∷ ps) (piece Comma k ∷ ps) (Some n) refl) (measured_is n m at s p t)

  -- ---- one piece in any state

  abbrev pub ModeIs : Mode → ExprState → Mark → ℕ → Answer ExprState → Type 0
  ModeIs mode s m at r = StepIs font (λ ps v. in_mode font mode s.pending (ends_in font s.frames v) (piece m at ∷ ps)) (λ k ps v. in_mode font mode
      s.pending (ends_in font s.frames v) (piece Right k ∷ ps)) (λ k ps v. in_mode font mode s.pending (ends_in font s.frames v) (piece Comma k ∷ ps))
      (NamedAt mode) s.frames s.unit m at r

  mode_step : (mode : Mode) (m : Mark) (at : ℕ) (s : ExprState) → Proper m → HalfMode font mode → Tidy font s.pending → FramesTidy font s.frames
      → ModeIs mode s m at (step_in font mode m at s)
  mode_step Wanted m at s small h p t = begin_is m at s small p t
  mode_step Ordered m at s small h p t = ordered_is m at s small p t
  mode_step (Half w) m at s small h p t = half_is w m at s h p t
  mode_step (Named b) m at s small h p t = named_is b m at s p t
  mode_step (Dot place) m at s small h p t = dot_is place m at s small p t
  mode_step (Number n) m at s small h p t = number_is n m at s small p t
  mode_step (Measured n) m at s small h p t = measured_is n m at s p t
  mode_step (After x) m at s small h p t = after_is font x m at s p t

  pub step_is : (s : ExprState) (p : Piece) → Proper p.mark → Valid font s → ModeIs s.mode s p.mark p.at (step font s p)
  unfolding step
  step_is s p small h = mode_step s.mode p.mark p.at s small h.half h.tidy h.frames
