-- What a step of the machine tells of the texts that begin so.
use Rattle.std.proofs.Common.{◌≡◌, ◌⊎◌, ◌↔◌, inl, inr, ℕ, suc, ◌≤◌, Bool, true, ◌||◌, nat_lt, List, [], ◌∷◌, length, Option, Some, None, Ok}
use Rattle.tk_token.specs.declared.Code.TheVariants.{TooDeep, Expression}
use Rattle.tk_token.specs.Answers.{Answer, fault}
use Rattle.tk_expr.specs.declared.FontUnits.{FontUnits}
use Rattle.tk_expr.specs.declared.pieces.Mark.{Mark}
use Rattle.tk_expr.specs.declared.pieces.Mark.TheVariants.{Digit, Comma, Right}
use Rattle.tk_expr.specs.declared.pieces.Piece.{Piece}
use Rattle.tk_expr.specs.declared.machine.Bracket.{Bracket}
use Rattle.tk_expr.specs.declared.machine.Bracket.TheVariants.{Plain, Only, First, Second, Each}
use Rattle.tk_expr.specs.declared.machine.OpenFrame.{OpenFrame}
use Rattle.tk_expr.specs.declared.machine.OpenFrame.TheVariants.{Inside, Then, Else}
use Rattle.tk_expr.specs.declared.machine.Mode.{Mode}
use Rattle.tk_expr.specs.declared.machine.Mode.TheVariants.{Named}
use Rattle.tk_expr.specs.Evaluates.{is_unit}
use Rattle.tk_expr.specs.Faults.{Opener, Parenthesis, Call, Asked, Answered, name_behind, open_behind}
use Rattle.tk_expr.specs.Machine.{Found, ExprState}
use Rattle.tk_expr.proofs.Continuations.{Completes}
use Rattle.tk_expr.proofs.Closing.{HalfMode}
use Rattle.tk_expr.proofs.Levels.{Tidy}

-- ---- frames are openers

abbrev pub IsPlain : Bracket → Type 0
IsPlain Plain = Unit {0}
IsPlain _ = ⊥

-- the bracket is that of a call whose name stands there
abbrev pub CalledAt : Bracket → ℕ → Type 0
CalledAt Plain n = ⊥
CalledAt (Only f at) n = at ≡ n
CalledAt (First f at) n = at ≡ n
CalledAt (Second f at x) n = at ≡ n
CalledAt (Each f x) n = Unit {0}

abbrev pub FrameOpens : OpenFrame → Opener → Type 0
FrameOpens (Inside b p) Parenthesis = IsPlain b
FrameOpens (Inside b p) (Call n) = CalledAt b n
FrameOpens (Then c) Asked = Unit {0}
FrameOpens (Else c v) Answered = Unit {0}
FrameOpens _ _ = ⊥

abbrev pub Opens : List OpenFrame → List Opener → Type 0
Opens [] [] = Unit {0}
Opens (f ∷ fs) (o ∷ os) = FrameOpens f o × Opens fs os
Opens _ _ = ⊥

-- the name that the parenthesis to come belongs to
abbrev pub NamedAt : Mode → Option ℕ → Type 0
NamedAt (Named b) (Some n) = CalledAt b n
NamedAt (Named b) None = IsPlain b
NamedAt _ name = name ≡ None

-- the innermost frame beside each `?` that has its `:` is no call, or one whose name stands there
abbrev pub NoCall : List OpenFrame → Type 0
NoCall [] = Unit {0}
NoCall (Inside b p ∷ fs) = IsPlain b
NoCall (Then c ∷ fs) = Unit {0}
NoCall (Else c v ∷ fs) = NoCall fs

abbrev pub Called : Bracket → ℕ → Type 0
Called Plain n = ⊥
Called (Only f at) n = at ≡ n
Called (First f at) n = at ≡ n
Called (Second f at x) n = at ≡ n
Called (Each f x) n = ⊥

abbrev pub InCall : List OpenFrame → ℕ → Type 0
InCall [] n = ⊥
InCall (Inside b p ∷ fs) n = Called b n
InCall (Then c ∷ fs) n = ⊥
InCall (Else c v ∷ fs) n = InCall fs n

-- a statement about the pieces behind one in front, and the value
abbrev pub Ahead : Type 1
Ahead = List Piece → Found → Type 0

abbrev pub NoMiscount : (ℕ → Ahead) → (ℕ → Ahead) → List OpenFrame → Mark → Type 0
NoMiscount r c fs Comma = ((k : ℕ) (ps : List Piece) (v : Found) → r k ps v → ⊥) ⊎ NoCall fs
NoMiscount r c fs Right = ((k : ℕ) (ps : List Piece) (v : Found) → c k ps v → ⊥) ⊎ NoCall fs
NoMiscount r c fs _ = Unit {0}

abbrev pub Miscounts : (ℕ → Ahead) → (ℕ → Ahead) → List OpenFrame → ℕ → Mark → Type 0
Miscounts r c fs name Comma = InCall fs name × ((k : ℕ) → (ps : List Piece) × (v : Found) × r k ps v)
Miscounts r c fs name Right = InCall fs name × ((k : ℕ) → (ps : List Piece) × (v : Found) × c k ps v)
Miscounts r c fs name _ = ⊥

-- digits are below ten
abbrev pub Proper : Mark → Type 0
Proper (Digit d) = nat_lt d 10 ≡ true
Proper _ = Unit {0}

module _ (font : FontUnits) where
  abbrev pub FramesTidy : List OpenFrame → Type 0
  FramesTidy [] = Unit {0}
  FramesTidy (Inside b p ∷ fs) = Tidy font p × FramesTidy fs
  FramesTidy (Then c ∷ fs) = FramesTidy fs
  FramesTidy (Else c v ∷ fs) = FramesTidy fs

  -- what the machine keeps
  pub record Valid (s : ExprState) : Type 0 where
    pub half : HalfMode font s.mode
    pub tidy : Tidy font s.pending
    pub frames : FramesTidy s.frames

  -- the state behind a mark, where those frames were open before it
  pub record Kept (fits : Option ℕ → Type 0) (fs : List OpenFrame) (unit : Bool) (m : Mark) (at : ℕ) (t : ExprState) : Type 0 where
    pub valid : Valid t
    pub unit_is : t.unit ≡ is_unit m || unit
    pub opens : (name : Option ℕ) (os : List Opener) → fits name → Opens fs os
        → Opens t.frames (open_behind name os m) × NamedAt t.mode (name_behind name m at)

  -- a step that opens nothing too much: the texts that go on are those that go on from the state behind it, or there are none
  pub data SureIs (c : Ahead) (right comma : ℕ → Ahead) (fits : Option ℕ → Type 0) (fs : List OpenFrame) (unit : Bool) (m : Mark) (at : ℕ) : Answer ExprState
      → Type 0 where
    steps : (t : ExprState) → ((ps : List Piece) (v : Found) → c ps v ↔ Completes font t ps v) → Kept fits fs unit m at t
        → (length fs ≤ 64 → length t.frames ≤ 64) → SureIs c right comma fits fs unit m at (Ok t)
    refuses : ((ps : List Piece) (v : Found) → c ps v → ⊥) → NoMiscount right comma fs m
        → SureIs c right comma fits fs unit m at (fault Expression at)
    miscounts : (name : ℕ) → ((ps : List Piece) (v : Found) → c ps v → ⊥) → Miscounts right comma fs name m
        → SureIs c right comma fits fs unit m at (fault Expression name)

  pub data StepIs (c : Ahead) (right comma : ℕ → Ahead) (fits : Option ℕ → Type 0) (fs : List OpenFrame) (unit : Bool) (m : Mark) (at : ℕ) : Answer ExprState
      → Type 0 where
    sure : {r : Answer ExprState} → SureIs c right comma fits fs unit m at r → StepIs c right comma fits fs unit m at r
    deep : (t : ExprState) → ((ps : List Piece) (v : Found) → c ps v ↔ Completes font t ps v) → Kept fits fs unit m at t → 64 ≤ length fs
        → length t.frames ≡ suc (length fs) → StepIs c right comma fits fs unit m at (fault TooDeep at)

  -- ---- the same of other statements

  abbrev pub Same : Ahead → Ahead → Type 0
  Same c d = (ps : List Piece) (v : Found) → c ps v ↔ d ps v

  no_miscount_as : (r c r' c' : ℕ → Ahead) (fs : List OpenFrame) (m : Mark) → ((k : ℕ) → Same (r k) (r' k)) → ((k : ℕ) → Same (c k) (c' k))
      → NoMiscount r' c' fs m → NoMiscount r c fs m
  no_miscount_as r c r' c' fs Comma f g (inl h) = inl (λ k ps v x. h k ps v ((f k ps v).0 x))
  no_miscount_as r c r' c' fs Comma f g (inr h) = inr h
  no_miscount_as r c r' c' fs Right f g (inl h) = inl (λ k ps v x. h k ps v ((g k ps v).0 x))
  no_miscount_as r c r' c' fs Right f g (inr h) = inr h
  no_miscount_as r c r' c' fs _ f g h = tt

  miscounts_as : (r c r' c' : ℕ → Ahead) (fs : List OpenFrame) (name : ℕ) (m : Mark) → ((k : ℕ) → Same (r k) (r' k)) → ((k : ℕ) → Same (c k) (c' k))
      → Miscounts r' c' fs name m → Miscounts r c fs name m
  miscounts_as r c r' c' fs name Comma f g h = (h.0, λ k. let e = h.1 k in (e.0, e.1, (f k e.0 e.1).1 e.2))
  miscounts_as r c r' c' fs name Right f g h = (h.0, λ k. let e = h.1 k in (e.0, e.1, (g k e.0 e.1).1 e.2))
  miscounts_as r c r' c' fs name _ f g h = elim h [ ]

  pub no_miscount : (r c : ℕ → Ahead) (fs : List OpenFrame) (m : Mark) → ((k : ℕ) (ps : List Piece) (v : Found) → r k ps v → ⊥)
      → ((k : ℕ) (ps : List Piece) (v : Found) → c k ps v → ⊥) → NoMiscount r c fs m
  no_miscount r c fs Comma f g = inl f
  no_miscount r c fs Right f g = inl g
  no_miscount r c fs _ f g = tt

  pub sure_as : {c d : Ahead} {right comma right' comma' : ℕ → Ahead} {fits : Option ℕ → Type 0} {fs : List OpenFrame} {unit : Bool} {m : Mark} {at : ℕ}
      {r : Answer ExprState}
      → Same c d → ((k : ℕ) → Same (right k) (right' k)) → ((k : ℕ) → Same (comma k) (comma' k)) → SureIs d right' comma' fits fs unit m at r
      → SureIs c right comma fits fs unit m at r
  sure_as e f g (steps t h k l) = steps t (λ ps v. (λ x. (h ps v).0 ((e ps v).0 x), λ x. (e ps v).1 ((h ps v).1 x))) k l
  sure_as {right = right} {comma = comma} {right' = right'} {comma' = comma'} {fs = fs} {m = m} e f g (refuses h k) =
      refuses (λ ps v x. h ps v ((e ps v).0 x)) (no_miscount_as right comma right' comma' fs m f g k)
  sure_as {right = right} {comma = comma} {right' = right'} {comma' = comma'} {fs = fs} {m = m} e f g (miscounts name h k) =
      miscounts name (λ ps v x. h ps v ((e ps v).0 x)) (miscounts_as right comma right' comma' fs name m f g k)

  pub step_as : {c d : Ahead} {right comma right' comma' : ℕ → Ahead} {fits : Option ℕ → Type 0} {fs : List OpenFrame} {unit : Bool} {m : Mark} {at : ℕ}
      {r : Answer ExprState}
      → Same c d → ((k : ℕ) → Same (right k) (right' k)) → ((k : ℕ) → Same (comma k) (comma' k)) → StepIs d right' comma' fits fs unit m at r
      → StepIs c right comma fits fs unit m at r
  step_as e f g (sure s) = sure (sure_as e f g s)
  step_as e f g (deep t h k l n) = deep t (λ ps v. (λ x. (h ps v).0 ((e ps v).0 x), λ x. (e ps v).1 ((h ps v).1 x))) k l n
