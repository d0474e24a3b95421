-- The marks that end an expression: `)`, `,` and `:`.
use Rattle.std.proofs.Common.{◌≡◌, ◌↔◌, inr, ℕ, Bool, true, false, true≢false, List, [], ◌∷◌, Option, Some, None, refl, sym, subst, ◌∙◌, arith}
use Rattle.tk_token.specs.Answers.{Answer}
use Rattle.tk_expr.specs.declared.FontUnits.{FontUnits}
use Rattle.tk_expr.specs.declared.pieces.Most.{Most}
use Rattle.tk_expr.specs.declared.pieces.Mark.{Mark}
use Rattle.tk_expr.specs.declared.pieces.Mark.TheVariants.{Colon, Comma, Right}
use Rattle.tk_expr.specs.declared.pieces.Piece.{Piece}
use Rattle.tk_expr.specs.declared.machine.Pending.{Pending}
use Rattle.tk_expr.specs.declared.machine.Bracket.{Bracket}
use Rattle.tk_expr.specs.declared.machine.Bracket.TheVariants.{Plain, Only, First, Second, Each}
use Rattle.tk_expr.specs.declared.machine.OpenFrame.{OpenFrame}
use Rattle.tk_expr.specs.declared.machine.OpenFrame.TheVariants.{Inside, Then, Else}
use Rattle.tk_expr.specs.Faults.{Opener, Parenthesis, Call, Asked, Answered, name_behind, open_behind}
use Rattle.tk_expr.specs.Grammar.{piece, Begins}
use Rattle.tk_expr.specs.Machine.{Found, ExprState, closed, choice_found, wanted_in, outside, one_found, two_found, most_found, bracket_ends, at_right}
use Rattle.tk_expr.specs.Machine.{bracket_goes_on, at_comma, at_colon}
use Rattle.tk_expr.proofs.Readings.{Whole, Further, no_further, one_further}
use Rattle.tk_expr.proofs.Continuations.{Behind, Via, after_primary, closes, in_bracket, ends_in}
use Rattle.tk_expr.proofs.Closing.{right_fits, comma_fits}
use Rattle.tk_expr.proofs.Fronts.{is_gap, front_to, front_from}
use Rattle.tk_expr.proofs.Levels.{fresh_whole, end_of_list}
use Rattle.tk_expr.proofs.Outcomes.{IsPlain, CalledAt, Opens, NamedAt, Ahead, NoMiscount, Miscounts, FramesTidy, Kept, SureIs, steps, refuses}
use Rattle.tk_expr.proofs.Outcomes.{miscounts}

module _ (font : FontUnits) where
  -- ---- what a bracket says of its mark

  -- a test that tells the marks apart
  abbrev is_right : Mark → Bool
  is_right Right = true
  is_right _ = false

  abbrev is_comma : Mark → Bool
  is_comma Comma = true
  is_comma _ = false

  abbrev is_colon : Mark → Bool
  is_colon Colon = true
  is_colon _ = false

  -- another mark is not the one that is wanted
  other : (test : Mark → Bool) (m n : Mark) (at i : ℕ) (ps qs : List Piece) → is_gap m ≡ false → test m ≡ false → test n ≡ true
      → Begins n i (piece m at ∷ ps) qs → ⊥
  other test m n at i ps qs g e is b = true≢false (sym (front_to (λ m _ _. test m ≡ true) m n at i ps qs g b is) ∙ e)

  closed_same : (k : Behind) (y : Found) (at : ℕ) (ps : List Piece) → closes font k y (piece Right at ∷ ps) ↔ k y ps
  closed_same k y at ps = ((λ (i, qs, b, h). front_from (λ _ _ ps. k y ps) Right Right i at qs ps (sym b) h), λ h. (at, ps, refl, h))

  closed_other : (m : Mark) → is_gap m ≡ false → is_right m ≡ false → (k : Behind) (y : Found) (at : ℕ) (ps : List Piece)
      → closes font k y (piece m at ∷ ps) → ⊥
  closed_other m g e k y at ps (i, qs, b, h) = other is_right m Right at i ps qs g e refl b

  further_right : {f : Most} {at : ℕ} {ps qs : List Piece} {x y : Found} (k : Behind) → Further font f x (piece Right at ∷ ps) y qs → k y qs → k x ps
  further_right {at = at} {ps = ps} {x = x} k (no_further {qs = qs} {at = i} b) h = front_from (λ _ _ ps. k x ps) Right Right i at qs ps (sym b) h
  further_right {at = at} {ps = ps} k (one_further {qs = qs} {at = i} b w r) h = absurd (other is_comma Right Comma at i ps qs refl refl refl b)

  further_comma : {f : Most} {at : ℕ} {ps qs : List Piece} {x y : Found} (k : Behind) → Further font f x (piece Comma at ∷ ps) y qs → k y qs
      → Via (Whole font ps) (λ z rs. Via (Further font f (most_found f (Some x) z) rs) k)
  further_comma {at = at} {ps = ps} k (no_further {qs = qs} {at = i} b) h = absurd (other is_right Comma Right at i ps qs refl refl refl b)
  further_comma {f = f} {at = at} {ps = ps} {x = x} k (one_further {qs = qs} {at = i} b w r) h =
      front_from (λ _ _ ps. Via (Whole font ps) (λ z rs. Via (Further font f (most_found f (Some x) z) rs) k)) Comma Comma i at qs ps (sym b)
      (record { value = _; rest = _; read = w; goes = record { value = _; rest = _; read = r; goes = h } })

  further_colon : {f : Most} {at : ℕ} {ps qs : List Piece} {x y : Found} → Further font f x (piece Colon at ∷ ps) y qs → ⊥
  further_colon {at = at} {ps = ps} (no_further {qs = qs} {at = i} b) = other is_right Colon Right at i ps qs refl refl refl b
  further_colon {at = at} {ps = ps} (one_further {qs = qs} {at = i} b w r) = other is_comma Colon Comma at i ps qs refl refl refl b

  no_colon : (b : Bracket) (k : Behind) (y : Found) (at : ℕ) (ps : List Piece) → in_bracket font b k y (piece Colon at ∷ ps) → ⊥
  no_colon Plain k y at ps h = closed_other Colon refl refl k y at ps h
  no_colon (Only f n) k y at ps h = closed_other Colon refl refl k _ at ps h
  no_colon (First f n) k y at ps (i, qs, b, h) = other is_comma Colon Comma at i ps qs refl refl refl b
  no_colon (Second f n x) k y at ps h = closed_other Colon refl refl k _ at ps h
  no_colon (Each f x) k y at ps h = further_colon h.read

  -- ---- what is kept

  abbrev pub Unnamed : Option ℕ → Type 0
  Unnamed name = name ≡ None

  -- a `?` that has its `:` ends with its expression
  kept_behind : (c v : Found) (fs : List OpenFrame) (unit : Bool) (m : Mark) (at : ℕ) (t : ExprState)
      → ((name : Option ℕ) (os : List Opener) → open_behind name (Answered ∷ os) m ≡ open_behind name os m) → Kept font Unnamed fs unit m at t
      → Kept font Unnamed (Else c v ∷ fs) unit m at t
  kept_behind c v fs unit m at t same k = record { valid = k.valid; unit_is = k.unit_is; opens = go }
    where
      go : (name : Option ℕ) (os : List Opener) → Unnamed name → Opens (Else c v ∷ fs) os
          → Opens t.frames (open_behind name os m) × NamedAt t.mode (name_behind name m at)
      go name [] e h = elim h [ ]
      go name (Answered ∷ os) e h =
          subst (λ (os : List Opener). Opens t.frames os × NamedAt t.mode (name_behind name m at)) (sym (same name os)) (k.opens name os e h.1)
      go name (Parenthesis ∷ os) e h = elim h.0 [ ]
      go name (Call n ∷ os) e h = elim h.0 [ ]
      go name (Asked ∷ os) e h = elim h.0 [ ]

  sure_behind : (c v : Found) (fs : List OpenFrame) (unit : Bool) (m : Mark) (at : ℕ) (r : Answer ExprState) (a : Ahead) (rights commas : ℕ → Ahead)
      → ((name : Option ℕ) (os : List Opener) → open_behind name (Answered ∷ os) m ≡ open_behind name os m)
      → SureIs font a rights commas Unnamed fs unit m at r → SureIs font a rights commas Unnamed (Else c v ∷ fs) unit m at r
  sure_behind c v fs unit m at r a rights commas same (steps t h k l) = steps t h (kept_behind c v fs unit m at t same k) (λ le. l (omega arith))
  sure_behind c v fs unit m at r a rights commas same (refuses h k) = refuses h (no_miscount_behind m k)
    where
      no_miscount_behind : (m : Mark) → NoMiscount rights commas fs m → NoMiscount rights commas (Else c v ∷ fs) m
      no_miscount_behind Comma k = k
      no_miscount_behind _ k = k
  sure_behind c v fs unit m at r a rights commas same (miscounts name h k) = miscounts name h (miscounts_behind m k)
    where
      miscounts_behind : (m : Mark) → Miscounts rights commas fs name m → Miscounts rights commas (Else c v ∷ fs) name m
      miscounts_behind Comma k = k
      miscounts_behind _ k = k

  -- a parenthesis or call that ends
  kept_right : (b : Bracket) (p : Pending) (fs : List OpenFrame) (unit : Bool) (at : ℕ) (y : Found) (s : ExprState) → s.unit ≡ unit
      → FramesTidy font (Inside b p ∷ fs) → Kept font Unnamed (Inside b p ∷ fs) unit Right at (outside y p fs s)
  kept_right b p fs unit at y s u t = record { valid = record { half = tt; tidy = t.0; frames = t.1 }; unit_is = u; opens = go }
    where
      go : (name : Option ℕ) (os : List Opener) → Unnamed name → Opens (Inside b p ∷ fs) os
          → Opens fs (open_behind name os Right) × (name_behind name Right at ≡ None)
      go name [] e h = elim h [ ]
      go name (Parenthesis ∷ os) e h = (h.1, refl)
      go name (Call n ∷ os) e h = (h.1, refl)
      go name (Answered ∷ os) e h = elim h.0 [ ]
      go name (Asked ∷ os) e h = elim h.0 [ ]

  -- a call that goes on
  kept_comma : (b c : Bracket) (p : Pending) (fs : List OpenFrame) (unit : Bool) (at : ℕ) (s : ExprState) → s.unit ≡ unit → (IsPlain b → ⊥)
      → ((n : ℕ) → CalledAt b n → CalledAt c n) → FramesTidy font (Inside b p ∷ fs)
      → Kept font Unnamed (Inside b p ∷ fs) unit Comma at (wanted_in (Inside c p ∷ fs) s)
  kept_comma b c p fs unit at s u not_plain same t = record { valid = record { half = tt; tidy = λ e. refl; frames = t }; unit_is = u; opens = go }
    where
      go : (name : Option ℕ) (os : List Opener) → Unnamed name → Opens (Inside b p ∷ fs) os
          → Opens (Inside c p ∷ fs) (open_behind name os Comma) × (name_behind name Comma at ≡ None)
      go name [] e h = elim h [ ]
      go name (Parenthesis ∷ os) e h = absurd (not_plain h.0)
      go name (Call n ∷ os) e h = ((same n h.0, h.1), refl)
      go name (Answered ∷ os) e h = elim h.0 [ ]
      go name (Asked ∷ os) e h = elim h.0 [ ]

  -- a choice that goes on
  kept_colon : (c v : Found) (fs : List OpenFrame) (unit : Bool) (at : ℕ) (s : ExprState) → s.unit ≡ unit → FramesTidy font (Then c ∷ fs)
      → Kept font Unnamed (Then c ∷ fs) unit Colon at (wanted_in (Else c v ∷ fs) s)
  kept_colon c v fs unit at s u t = record { valid = record { half = tt; tidy = λ e. refl; frames = t }; unit_is = u; opens = go }
    where
      go : (name : Option ℕ) (os : List Opener) → Unnamed name → Opens (Then c ∷ fs) os
          → Opens (Else c v ∷ fs) (open_behind name os Colon) × (name_behind name Colon at ≡ None)
      go name [] e h = elim h [ ]
      go name (Asked ∷ os) e h = ((tt, h.1), refl)
      go name (Parenthesis ∷ os) e h = elim h.0 [ ]
      go name (Call n ∷ os) e h = elim h.0 [ ]
      go name (Answered ∷ os) e h = elim h.0 [ ]

  -- ---- the three marks

  -- behind an expression with that value
  abbrev pub EndIs : List OpenFrame → Found → Bool → Mark → ℕ → Answer ExprState → Type 0
  EndIs fs y unit m at r = SureIs font (λ ps v. ends_in font fs v y (piece m at ∷ ps)) (λ k ps v. ends_in font fs v y (piece Right k ∷ ps))
      (λ k ps v. ends_in font fs v y (piece Comma k ∷ ps)) Unnamed fs unit m at r

  right_in : (b : Bracket) (p : Pending) (fs : List OpenFrame) (y : Found) (unit : Bool) (at : ℕ) (s : ExprState) → s.unit ≡ unit
      → FramesTidy font (Inside b p ∷ fs) → EndIs (Inside b p ∷ fs) y unit Right at (bracket_ends at b y p fs s)
  right_in Plain p fs y unit at s u t =
      steps (outside y p fs s) (λ ps v. closed_same (after_primary font p (ends_in font fs v)) y at ps) (kept_right Plain p fs unit at y s u t)
      (λ le. omega arith)
  right_in (Only f n) p fs y unit at s u t =
      steps (outside (one_found f n y) p fs s) (λ ps v. closed_same (after_primary font p (ends_in font fs v)) (one_found f n y) at ps)
      (kept_right (Only f n) p fs unit at (one_found f n y) s u t) (λ le. omega arith)
  right_in (First f n) p fs y unit at s u t =
      miscounts n (λ ps v (i, qs, b, h). other is_comma Right Comma at i ps qs refl refl refl b) (refl, λ k. comma_fits font p fs k (two_found f n y))
  right_in (Second f n x) p fs y unit at s u t =
      steps (outside (two_found f n x y) p fs s) (λ ps v. closed_same (after_primary font p (ends_in font fs v)) (two_found f n x y) at ps)
      (kept_right (Second f n x) p fs unit at (two_found f n x y) s u t) (λ le. omega arith)
  right_in (Each f x) p fs y unit at s u t =
      steps (outside (most_found f x y) p fs s) (λ ps v. (
        λ h. further_right (after_primary font p (ends_in font fs v)) h.read h.goes,
        λ h.
            record { value = most_found f x y; rest = ps; read = no_further refl; goes = h },
      )) (kept_right (Each f x) p fs unit at (most_found f x y) s u t)
      (λ le. omega arith)

  pub right_is : (fs : List OpenFrame) (y : Found) (unit : Bool) (at : ℕ) (s : ExprState) → s.unit ≡ unit → FramesTidy font fs
      → EndIs fs y unit Right at (at_right at (closed y fs).value (closed y fs).frames s)
  right_is [] y unit at s u t = refuses (λ ps v h. end_of_list font Right at ps refl h.1) (inr tt)
  right_is (Inside b p ∷ fs) y unit at s u t = right_in b p fs y unit at s u t
  right_is (Then c ∷ fs) y unit at s u t = refuses (λ ps v (i, qs, b, h). other is_colon Right Colon at i ps qs refl refl refl b) (inr tt)
  right_is (Else c x ∷ fs) y unit at s u t =
      sure_behind c x fs unit Right at _ _ _ _ (λ name os. refl) (right_is fs (choice_found c x y) unit at s u t)

  comma_in : (b : Bracket) (p : Pending) (fs : List OpenFrame) (y : Found) (unit : Bool) (at : ℕ) (s : ExprState) → s.unit ≡ unit
      → FramesTidy font (Inside b p ∷ fs) → EndIs (Inside b p ∷ fs) y unit Comma at (bracket_goes_on at b y p fs s)
  comma_in Plain p fs y unit at s u t = refuses (λ ps v h. closed_other Comma refl refl (after_primary font p (ends_in font fs v)) y at ps h) (inr tt)
  comma_in (Only f n) p fs y unit at s u t =
      miscounts n (λ ps v h. closed_other Comma refl refl (after_primary font p (ends_in font fs v)) (one_found f n y) at ps h)
      (refl, λ k. right_fits font p fs k (one_found f n y))
  comma_in (First f n) p fs y unit at s u t =
      steps (wanted_in (Inside (Second f n y) p ∷ fs) s)
      (λ ps v. let k = after_primary font p (ends_in font fs v) in let w = fresh_whole font (in_bracket font (Second f n y) k) ps in (
        λ (i, qs, b, h).
            w.0 (front_from (λ _ _ ps. Via (Whole font ps) (in_bracket font (Second f n y) k)) Comma Comma i at qs ps (sym b) h),
        λ h.
            (at, ps, refl, w.1 h),
      )) (kept_comma (First f n) (Second f n y) p fs unit at s u (λ h. h) (λ i h. h) t) (λ le. le)
  comma_in (Second f n x) p fs y unit at s u t =
      miscounts n (λ ps v h. closed_other Comma refl refl (after_primary font p (ends_in font fs v)) (two_found f n x y) at ps h)
      (refl, λ k. right_fits font p fs k (two_found f n x y))
  comma_in (Each f x) p fs y unit at s u t =
      steps (wanted_in (Inside (Each f (Some (most_found f x y))) p ∷ fs) s)
      (λ ps v. let k = after_primary font p (ends_in font fs v) in let w = fresh_whole font (in_bracket font (Each f (Some (most_found f x y))) k) ps in (λ h. w.0 (further_comma k h.read h.goes), λ h. let e = w.1 h in record { value = e.goes.value; rest = e.goes.rest; read = one_further refl e.read e.goes.read; goes = e.goes.goes })) (kept_comma (Each f x) (Each f (Some (most_found f x y))) p fs unit at s u (λ h. h) (λ i h. h) t) (λ le. le)

  pub comma_is : (fs : List OpenFrame) (y : Found) (unit : Bool) (at : ℕ) (s : ExprState) → s.unit ≡ unit → FramesTidy font fs
      → EndIs fs y unit Comma at (at_comma at (closed y fs).value (closed y fs).frames s)
  comma_is [] y unit at s u t = refuses (λ ps v h. end_of_list font Comma at ps refl h.1) (inr tt)
  comma_is (Inside b p ∷ fs) y unit at s u t = comma_in b p fs y unit at s u t
  comma_is (Then c ∷ fs) y unit at s u t = refuses (λ ps v (i, qs, b, h). other is_colon Comma Colon at i ps qs refl refl refl b) (inr tt)
  comma_is (Else c x ∷ fs) y unit at s u t =
      sure_behind c x fs unit Comma at _ _ _ _ (λ name os. refl) (comma_is fs (choice_found c x y) unit at s u t)

  pub colon_is : (fs : List OpenFrame) (y : Found) (unit : Bool) (at : ℕ) (s : ExprState) → s.unit ≡ unit → FramesTidy font fs
      → EndIs fs y unit Colon at (at_colon at (closed y fs).value (closed y fs).frames s)
  colon_is [] y unit at s u t = refuses (λ ps v h. end_of_list font Colon at ps refl h.1) tt
  colon_is (Inside b p ∷ fs) y unit at s u t = refuses (λ ps v h. no_colon b (after_primary font p (ends_in font fs v)) y at ps h) tt
  colon_is (Then c ∷ fs) y unit at s u t =
      steps (wanted_in (Else c y ∷ fs) s) (λ ps v. let w = fresh_whole font (λ z rs. ends_in font fs v (choice_found c y z) rs) ps in (
        λ (i, qs, b, h). w.0 (front_from (λ _ _ ps. Via (Whole font ps) (λ z rs. ends_in font fs v (choice_found c y z) rs)) Colon Colon i at qs ps
            (sym b) h),
        λ h. (at, ps, refl, w.1 h),
      )) (kept_colon c y fs unit at s u t) (λ le. le)
  colon_is (Else c x ∷ fs) y unit at s u t =
      sure_behind c x fs unit Colon at _ _ _ _ (λ name os. refl) (colon_is fs (choice_found c x y) unit at s u t)
