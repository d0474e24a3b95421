-- What the machine comes to is the answer.
--
-- A guide to the proofs of this crate. The relation that carries them is `Completes font s ps v`: behind what the state s
-- has read, the pieces ps are the rest of some text, whose value is v. Behind `1+2`, for instance, `*3` completes to 7,
-- and `)` to nothing, since nothing is open.
--
-- 1. Readings gives the grammar over values in place of trees, and Trees says that it is the same grammar. Gaps and Fronts
--    say what stands in front of a text, Decimals how digits make a number, and SignRuns that a run of signs is one sign.
-- 2. Continuations defines `Completes`: how a text goes on behind an operand, level by level, with what waits for it and
--    what is open. Levels says that at the start this is the grammar itself (`fresh_whole`).
-- 3. Behind, Ends and Stepping take one piece: the machine goes to a state that the same texts complete, or refuses a
--    piece with which no text goes on. Outcomes has the words for that, and Stepping joins the modes (`step_is`).
-- 4. Closing completes each state by some text, so that what was read is always the beginning of one. Finishing says what
--    the machine makes of the end of the pieces.
-- 5. This file goes through all pieces (`Reached`), and so shows that the machine's answer is one by the grammar.
--    OneAnswer shows that there is no other, and Evaluations that therefore all evaluations are the machine's.
-- 6. Apart from that: Places follows the places of faults, ShortWay shows that a decimal read without the machine has the
--    machine's value, and Letters and ProperPieces tie tokens to pieces.
use Rattle.std.proofs.Common.{◌≡◌, ◌⊎◌, ◌↔◌, inl, inr, ℕ, suc, ◌≤◌, Bool, true, false, ◌||◌, List, [], ◌∷◌, ◌++◌, length, drop, Option, None, refl}
use Rattle.std.proofs.Common.{sym, ap, ap₂, subst, ◌∙◌, arith, append_assoc, append-nil, zero-le}
use Rattle.tk_token.specs.Answers.{Answer, ◌>>=◌}
use Rattle.tk_token.specs.declared.Tok.{Tok}
use Rattle.tk_expr.specs.declared.FontUnits.{FontUnits}
use Rattle.tk_expr.specs.declared.Value.{Value}
use Rattle.tk_expr.specs.declared.pieces.Mark.{Mark}
use Rattle.tk_expr.specs.declared.pieces.Mark.TheVariants.{Comma, Right}
use Rattle.tk_expr.specs.declared.pieces.Piece.{Piece}
use Rattle.tk_expr.specs.declared.machine.Bracket.{Bracket}
use Rattle.tk_expr.specs.declared.machine.Bracket.TheVariants.{Plain, Only, First, Second, Each}
use Rattle.tk_expr.specs.declared.machine.OpenFrame.{OpenFrame}
use Rattle.tk_expr.specs.declared.machine.OpenFrame.TheVariants.{Inside, Then, Else}
use Rattle.tk_expr.specs.Tree.{Tree, value}
use Rattle.tk_expr.specs.Grammar.{piece, IsText}
use Rattle.tk_expr.specs.Faults.{IsBeginning, Opener, Parenthesis, Call, Asked, Answered, unanswered, name_behind, open_behind, open_from, open_in}
use Rattle.tk_expr.specs.Faults.{IsShallow, IsMiscount, too_many, too_few}
use Rattle.tk_token.specs.Places.{end_of}
use Rattle.tk_expr.specs.Evaluates.{is_unit, has_unit, valued, IsMisfit, IsTooDeep, IsAnswer, evaluates, misfit, miscount, too_deep, ends, Evaluates}
use Rattle.tk_expr.specs.Evaluated.{evaluated}
use Rattle.tk_expr.specs.Pieces.{pieces_of}
use Rattle.tk_expr.specs.Machine.{Found, ExprState, start, step, run, finish}
use Rattle.tk_expr.proofs.Closing.{completes}
use Rattle.tk_expr.proofs.Continuations.{ends_in, in_mode, Completes}
use Rattle.tk_expr.proofs.Finishing.{FinishIs, finds, lacks, finish_is, one_value}
use Rattle.tk_expr.proofs.Levels.{fresh_whole}
use Rattle.tk_expr.proofs.Outcomes.{IsPlain, CalledAt, Called, Opens, NamedAt, NoCall, InCall, Ahead, NoMiscount, Miscounts, Valid, Kept, SureIs}
use Rattle.tk_expr.proofs.Outcomes.{steps, refuses, miscounts, StepIs, sure, deep, Same}
use Rattle.tk_expr.proofs.ProperPieces.{AllProper, pieces_are_proper}
use Rattle.tk_expr.proofs.Stepping.{step_is}
use Rattle.tk_expr.proofs.Trees.{read_expression, tell_whole}

-- ---- openers

-- frames without each `?` on top that has its `:`
no_call : (fs : List OpenFrame) (os rest : List Opener) (n : ℕ) → NoCall fs → Opens fs os → unanswered os ≡ Call n ∷ rest → ⊥
no_call [] [] rest n h o e = not_call e
  where
    not_call : {rest : List Opener} {n : ℕ} → [] ≡ Call n ∷ rest → ⊥
    not_call e = cc
no_call [] (_ ∷ os) rest n h o e = elim o [ ]
no_call (f ∷ fs) [] rest n h o e = elim o [ ]
no_call (Inside b p ∷ fs) (Parenthesis ∷ os) rest n h o e = absurd (cc)
no_call (Inside Plain p ∷ fs) (Call m ∷ os) rest n h o e = elim o.0 [ ]
no_call (Inside (Only f i) p ∷ fs) (Call m ∷ os) rest n h o e = elim h [ ]
no_call (Inside (First f i) p ∷ fs) (Call m ∷ os) rest n h o e = elim h [ ]
no_call (Inside (Second f i x) p ∷ fs) (Call m ∷ os) rest n h o e = elim h [ ]
no_call (Inside (Each f x) p ∷ fs) (Call m ∷ os) rest n h o e = elim h [ ]
no_call (Inside b p ∷ fs) (Asked ∷ os) rest n h o e = elim o.0 [ ]
no_call (Inside b p ∷ fs) (Answered ∷ os) rest n h o e = elim o.0 [ ]
no_call (Then c ∷ fs) (Asked ∷ os) rest n h o e = absurd (cc)
no_call (Then c ∷ fs) (Parenthesis ∷ os) rest n h o e = elim o.0 [ ]
no_call (Then c ∷ fs) (Call m ∷ os) rest n h o e = elim o.0 [ ]
no_call (Then c ∷ fs) (Answered ∷ os) rest n h o e = elim o.0 [ ]
no_call (Else c v ∷ fs) (Answered ∷ os) rest n h o e = no_call fs os rest n h o.1 e
no_call (Else c v ∷ fs) (Parenthesis ∷ os) rest n h o e = elim o.0 [ ]
no_call (Else c v ∷ fs) (Call m ∷ os) rest n h o e = elim o.0 [ ]
no_call (Else c v ∷ fs) (Asked ∷ os) rest n h o e = elim o.0 [ ]

called_name : (b : Bracket) (m n : ℕ) → Called b n → CalledAt b m → m ≡ n
called_name Plain m n h k = elim h [ ]
called_name (Only f i) m n h k = sym k ∙ h
called_name (First f i) m n h k = sym k ∙ h
called_name (Second f i x) m n h k = sym k ∙ h
called_name (Each f x) m n h k = elim h [ ]

plain_call : (b : Bracket) (n : ℕ) → Called b n → IsPlain b → ⊥
plain_call Plain n h k = elim h [ ]
plain_call (Only f i) n h k = elim k [ ]
plain_call (First f i) n h k = elim k [ ]
plain_call (Second f i x) n h k = elim k [ ]
plain_call (Each f x) n h k = elim k [ ]

in_call : (fs : List OpenFrame) (os : List Opener) (n : ℕ) → InCall fs n → Opens fs os → (rest : List Opener) × (unanswered os ≡ Call n ∷ rest)
in_call [] os n h o = elim h [ ]
in_call (f ∷ fs) [] n h o = elim o [ ]
in_call (Inside b p ∷ fs) (Parenthesis ∷ os) n h o = absurd (plain_call b n h o.0)
in_call (Inside b p ∷ fs) (Call m ∷ os) n h o = (os, ap (λ i. Call i ∷ os) (called_name b m n h o.0))
in_call (Inside b p ∷ fs) (Asked ∷ os) n h o = elim o.0 [ ]
in_call (Inside b p ∷ fs) (Answered ∷ os) n h o = elim o.0 [ ]
in_call (Then c ∷ fs) (_ ∷ os) n h o = elim h [ ]
in_call (Else c v ∷ fs) (Answered ∷ os) n h o = in_call fs os n h o.1
in_call (Else c v ∷ fs) (Parenthesis ∷ os) n h o = elim o.0 [ ]
in_call (Else c v ∷ fs) (Call m ∷ os) n h o = elim o.0 [ ]
in_call (Else c v ∷ fs) (Asked ∷ os) n h o = elim o.0 [ ]

same_length : (fs : List OpenFrame) (os : List Opener) → Opens fs os → length os ≡ length fs
same_length [] [] o = refl
same_length [] (_ ∷ os) o = elim o [ ]
same_length (f ∷ fs) [] o = elim o [ ]
same_length (f ∷ fs) (_ ∷ os) o = ap suc (same_length fs os o.1)

-- ---- beginnings

-- a beginning of a text and one more piece is a beginning of the text, or all of it
beginning_or : (before : List Piece) (p : Piece) (b rest : List Piece) → before ++ p ∷ [] ≡ b ++ rest
    → ((more : List Piece) × (before ≡ b ++ more)) ⊎ (b ≡ before ++ p ∷ [])
beginning_or before p [] rest e = inl (before, refl)
beginning_or [] p (q ∷ b) rest e = inr (ap₂ (λ q l. q ∷ l) (sym (head_is e)) (none_left b rest (tail_is e)))
  where
    head_is : p ∷ [] ≡ q ∷ (b ++ rest) → p ≡ q
    head_is e = ap (λ (l : List Piece). elim l as (λ _. Piece) [ [] ↦ p | x ∷ xs ↦ x ]) e

    tail_is : p ∷ [] ≡ q ∷ (b ++ rest) → [] ≡ b ++ rest
    tail_is e = ap (λ (l : List Piece). drop 1 l) e

    none_left : (b rest : List Piece) → [] ≡ b ++ rest → b ≡ []
    none_left [] rest e = refl
    none_left (x ∷ b) rest e = absurd (cc)
beginning_or (q ∷ before) p (r ∷ b) rest e = by (beginning_or before p b rest (ap (λ (l : List Piece). drop 1 l) e))
  where
    head_is : q ≡ r
    head_is = ap (λ (l : List Piece). elim l as (λ _. Piece) [ [] ↦ q | x ∷ xs ↦ x ]) e

    by : ((more : List Piece) × (before ≡ b ++ more)) ⊎ (b ≡ before ++ p ∷ [])
        → ((more : List Piece) × (q ∷ before ≡ r ∷ b ++ more)) ⊎ (r ∷ b ≡ q ∷ before ++ p ∷ [])
    by (inl (more, f)) = inl (more, ap₂ (λ q l. q ∷ l) head_is f)
    by (inr f) = inr (ap₂ (λ q l. q ∷ l) (sym head_is) f)

shallow_more : (before : List Piece) (p : Piece) → IsShallow before → length (open_in (before ++ p ∷ [])) ≤ 64 → IsShallow (before ++ p ∷ [])
shallow_more before p h le b rest e = by (beginning_or before p b rest e)
  where
    by : ((more : List Piece) × (before ≡ b ++ more)) ⊎ (b ≡ before ++ p ∷ []) → length (open_in b) ≤ 64
    by (inl (more, f)) = h b more f
    by (inr f) = subst (λ (b : List Piece). length (open_in b) ≤ 64) (sym f) le

shallow_none : IsShallow []
shallow_none b rest e = by b e
  where
    by : (b : List Piece) → [] ≡ b ++ rest → length (open_in b) ≤ 64
    by [] e = zero-le
    by (x ∷ b) e = absurd (cc)

or_more : (u m t r : Bool) → t ≡ m || u → u || (m || r) ≡ t || r
or_more true true t r e = rw e refl
or_more true false t r e = rw e refl
or_more false true t r e = rw e refl
or_more false false t r e = rw e refl

module _ (font : FontUnits) where
  -- ---- texts and values

  pub text_in : (ps : List Piece) (t : Tree) → IsText ps t → Completes font start ps (value font t)
  text_in ps t h = (fresh_whole font (ends_in font [] (value font t)) ps).0 (record {
    value = value font t;
    rest = h.left;
    read = read_expression font
        h.reads;
    goes = (refl, h.all);
  })

  -- a text with that value
  pub record Text_of (ps : List Piece) (v : Found) : Type 0 where
    pub tree : Tree
    pub is : value font tree ≡ v
    pub text : IsText ps tree

  pub text_out : (ps : List Piece) (v : Found) → Completes font start ps v → Text_of ps v
  text_out ps v h =
      let w = (fresh_whole font (ends_in font [] v) ps).1 h in
      let t = tell_whole font w.read in
      record { tree = t.tree; is = t.is ∙ sym w.goes.0; text = record { left = w.rest; reads = t.read; all = w.goes.1 } }

  -- ---- what was read

  -- the state behind those pieces
  record Reached (before : List Piece) (s : ExprState) : Type 0 where
    same : (ps : List Piece) (v : Found) → Completes font start (before ++ ps) v ↔ Completes font s ps v
    valid : Valid font s
    unit : (ps : List Piece) → has_unit (before ++ ps) ≡ s.unit || has_unit ps
    name : Option ℕ
    openers : List Opener
    open_is : (ps : List Piece) → open_in (before ++ ps) ≡ open_from name openers ps
    named : NamedAt s.mode name
    opens : Opens s.frames openers
    shallow : IsShallow before
    few : length s.frames ≤ 64

  reached_start : Reached [] start
  reached_start = record {
    same = λ ps v. (λ h. h, λ h. h);
    valid = record { half = tt; tidy = λ e. refl; frames = tt };
    unit = λ ps. refl;
    name = None;
    openers = [];
    open_is = λ ps. refl;
    named = refl;
    opens = tt;
    shallow = shallow_none;
    few = zero-le;
  }

  open_now : {before : List Piece} {s : ExprState} (r : Reached before s) → open_in before ≡ r.openers
  open_now {before = before} r = ap open_in (sym (append-nil before)) ∙ r.open_is []

  -- the state's mark and place in front
  abbrev In : ExprState → Mark → ℕ → Ahead
  In s m at ps v = in_mode font s.mode s.pending (ends_in font s.frames v) (piece m at ∷ ps)

  one_more : (before : List Piece) (p : Piece) (ps : List Piece) → (before ++ p ∷ []) ++ ps ≡ before ++ p ∷ ps
  one_more before p ps = append_assoc before (p ∷ []) ps

  -- texts that go on behind one more piece
  same_next : {before : List Piece} {s : ExprState} (r : Reached before s) (p : Piece) (t : ExprState) → Same font (In s p.mark p.at) (Completes font t)
      → (ps : List Piece) (v : Found) → Completes font start ((before ++ p ∷ []) ++ ps) v ↔ Completes font t ps v
  same_next {before = before} r p t h ps v =
      let a = r.same (p ∷ ps) v in
      let b = h ps v in
      subst (λ (l : List Piece). Completes font start l v ↔ Completes font t ps v) (sym (one_more before p ps)) (λ x. b.0 (a.0 x), λ x. a.1 (b.1 x))

  open_next : {before : List Piece} {s : ExprState} (r : Reached before s) (p : Piece) → open_in (before ++ p ∷ []) ≡ open_behind r.name r.openers p.mark
  open_next r p = r.open_is (p ∷ [])

  length_next : {before : List Piece} {s : ExprState} (r : Reached before s) (p : Piece) (t : ExprState)
      → Kept font (NamedAt s.mode) s.frames s.unit p.mark p.at t → length (open_in (before ++ p ∷ [])) ≡ length t.frames
  length_next r p t k =
      ap length (open_next r p) ∙ same_length t.frames (open_behind r.name r.openers p.mark) (k.opens r.name r.openers r.named r.opens).0

  reached_next : {before : List Piece} {s : ExprState} (r : Reached before s) (p : Piece) (t : ExprState) → Same font (In s p.mark p.at) (Completes font t)
      → Kept font (NamedAt s.mode) s.frames s.unit p.mark p.at t → length t.frames ≤ 64 → Reached (before ++ p ∷ []) t
  reached_next {before = before} {s = s} r p t h k le =
      let o = k.opens r.name r.openers r.named r.opens in
      record {
        same = same_next r p t h;
        valid = k.valid;
        unit = λ ps. ap has_unit (one_more before p ps) ∙ r.unit (p ∷ ps) ∙ or_more s.unit (is_unit p.mark) t.unit (has_unit ps) k.unit_is;
        name = name_behind r.name p.mark p.at;
        openers = open_behind r.name r.openers p.mark;
        open_is = λ ps. ap open_in (one_more before p ps) ∙ r.open_is (p ∷ ps);
        named = o.1;
        opens = o.0;
        shallow = shallow_more before p r.shallow (subst (λ (n : ℕ). n ≤ 64) (sym (length_next r p t k)) le);
        few = le;
      }

  -- ---- beginnings

  beginning_at : (before ps : List Piece) (v : Found) → Completes font start (before ++ ps) v → IsBeginning before
  beginning_at before ps v h = let t = text_out (before ++ ps) v h in record { rest = ps; tree = t.tree; reads = t.text }

  beginning_now : {before : List Piece} {s : ExprState} → Reached before s → IsBeginning before
  beginning_now {before = before} {s = s} r =
      let e = completes font s r.valid.half r.valid.tidy in beginning_at before e.0 e.1 ((r.same e.0 e.1).1 e.2)

  -- a beginning with one more piece goes on from the state
  goes_on : {before : List Piece} {s : ExprState} (r : Reached before s) (p : Piece) → IsBeginning (before ++ p ∷ [])
      → (ps : List Piece) × (v : Found) × Completes font s (p ∷ ps) v
  goes_on {before = before} r p b =
      let v = value font b.tree in (
        b.rest,
        v,
        (r.same (p ∷ b.rest) v).0 (subst (λ (l : List Piece). Completes font start l v) (one_more before p b.rest)
            (text_in ((before ++ p ∷ []) ++ b.rest) b.tree b.reads)),
      )

  beginning_next : {before : List Piece} {s : ExprState} (r : Reached before s) (p : Piece) (ps : List Piece) (v : Found) → Completes font s (p ∷ ps) v
      → IsBeginning (before ++ p ∷ [])
  beginning_next {before = before} r p ps v h =
      beginning_at (before ++ p ∷ []) ps v (subst (λ (l : List Piece). Completes font start l v) (sym (one_more before p ps))
      ((r.same (p ∷ ps) v).1 h))

  -- ---- counts of arguments

  -- none is there where the other mark doesn't fit, or what is open is no call
  no_other : {before : List Piece} {s : ExprState} (r : Reached before s) (n : Mark) (at name : ℕ) (os : List Opener)
      → ((k : ℕ) (ps : List Piece) (v : Found) → In s n k ps v → ⊥) ⊎ NoCall s.frames → unanswered (open_in before) ≡ Call name ∷ os
      → IsBeginning (before ++ piece n at ∷ []) → ⊥
  no_other r n at name os (inl h) e b = let g = goes_on r (piece n at) b in h at g.0 g.1 g.2
  no_other {s = s} r n at name os (inr h) e b = no_call s.frames r.openers os name h r.opens (ap unanswered (sym (open_now r)) ∙ e)

  not_miscount : {before : List Piece} {s : ExprState} {m : Mark} {name : ℕ} (r : Reached before s) → IsMiscount before name m
      → NoMiscount (In s Right) (In s Comma) s.frames m → ⊥
  not_miscount {name = name} r (too_many at {openers = os} e b) h = no_other r Right at name os h e b
  not_miscount {name = name} r (too_few at {openers = os} e b) h = no_other r Comma at name os h e b

  is_miscount : {before : List Piece} {s : ExprState} (r : Reached before s) (m : Mark) (name : ℕ) → Miscounts (In s Right) (In s Comma) s.frames name m
      → IsMiscount before name m
  is_miscount {before = before} {s = s} r Comma name (c, h) =
      let i = in_call s.frames r.openers name c r.opens in let g = h 0 in too_many 0 (ap unanswered (open_now r) ∙ i.1)
      (beginning_next r (piece Right 0) g.0 g.1 g.2)
  is_miscount {before = before} {s = s} r Right name (c, h) =
      let i = in_call s.frames r.openers name c r.opens in let g = h 0 in too_few 0 (ap unanswered (open_now r) ∙ i.1)
      (beginning_next r (piece Comma 0) g.0 g.1 g.2)
  is_miscount r _ name h = elim h [ ]

  -- ---- the whole run

  misfit_at : {before : List Piece} {s : ExprState} (r : Reached before s) (p : Piece) (ps : List Piece)
      → ((ps : List Piece) (v : Found) → In s p.mark p.at ps v → ⊥) → IsMisfit (before ++ p ∷ ps) before p
  misfit_at r p ps h = record {
    rest = ps;
    split = refl;
    beginning = beginning_now r;
    shallow = r.shallow;
    fits_not = λ b. let g = goes_on r p b in h g.0 g.1 g.2;
  }

  too_deep_at : {before : List Piece} {s : ExprState} (r : Reached before s) (p : Piece) (ps : List Piece) (t : ExprState)
      → Same font (In s p.mark p.at) (Completes font t) → Kept font (NamedAt s.mode) s.frames s.unit p.mark p.at t → 64 ≤ length s.frames
      → length t.frames ≡ suc (length s.frames) → IsTooDeep (before ++ p ∷ ps) before p
  too_deep_at {before = before} {s = s} r p ps t h k many more =
      let e = completes font t k.valid.half k.valid.tidy in
      let few = r.few in
      let long : length (open_in (before ++ p ∷ [])) ≡ length t.frames = length_next r p t k in
      record {
        rest = ps;
        split = refl;
        beginning = beginning_next r p e.0 e.1 ((h e.0 e.1).1 e.2);
        shallow = r.shallow;
        deep = omega (arith, few, many, more, long);
      }

  from_sure : (end : ℕ) {before : List Piece} {s : ExprState} (r : Reached before s) (p : Piece) (ps : List Piece) (m : Answer ExprState)
      → SureIs font (In s p.mark p.at) (In s Right) (In s Comma) (NamedAt s.mode) s.frames s.unit p.mark p.at m
      → ((t : ExprState) → Reached (before ++ p ∷ []) t → IsAnswer font end ((before ++ p ∷ []) ++ ps) (run font t ps >>= finish font end))
      → IsAnswer font end (before ++ p ∷ ps) ((m >>= λ t. run font t ps) >>= finish font end)
  from_sure end {before = before} r p ps m (steps t h k le) on =
      subst (λ (l : List Piece). IsAnswer font end l (run font t ps >>= finish font end)) (one_more before p ps)
      (on t (reached_next r p t h k (le r.few)))
  from_sure end {before = before} r p ps m (refuses h k) on = misfit (misfit_at r p ps h) (λ name i. not_miscount r i k)
  from_sure end {before = before} r p ps m (miscounts name h k) on = miscount (misfit_at r p ps h) (is_miscount r p.mark name k)

  from_step : (end : ℕ) {before : List Piece} {s : ExprState} (r : Reached before s) (p : Piece) (ps : List Piece) (m : Answer ExprState)
      → StepIs font (In s p.mark p.at) (In s Right) (In s Comma) (NamedAt s.mode) s.frames s.unit p.mark p.at m
      → ((t : ExprState) → Reached (before ++ p ∷ []) t → IsAnswer font end ((before ++ p ∷ []) ++ ps) (run font t ps >>= finish font end))
      → IsAnswer font end (before ++ p ∷ ps) ((m >>= λ t. run font t ps) >>= finish font end)
  from_step end r p ps m (sure h) on = from_sure end r p ps m h on
  from_step end r p ps m (deep t h k many more) on = too_deep (too_deep_at r p ps t h k many more)

  or_false : (b : Bool) → b || false ≡ b
  or_false true = refl
  or_false false = refl

  from_finish : (end : ℕ) {before : List Piece} {s : ExprState} (r : Reached before s) (m : Answer Value)
      → FinishIs font (λ v. Completes font s [] v) s.unit end m → IsAnswer font end before m
  from_finish end {before = before} {s = s} r m (finds v h) =
      let t = text_out before v (subst (λ (l : List Piece). Completes font start l v) (append-nil before) ((r.same [] v).1 h)) in
      let u : has_unit before ≡ s.unit = ap has_unit (sym (append-nil before)) ∙ r.unit [] ∙ or_false s.unit in
      subst (λ (m : Answer Value). IsAnswer font end before m) (ap₂ valued u t.is) (evaluates t.text r.shallow)
  from_finish end {before = before} r m (lacks h) =
      ends (beginning_now r) r.shallow
      (λ t i. h (value font t) ((r.same [] (value font t)).0 (subst (λ (l : List Piece). Completes font start l (value font t))
      (sym (append-nil before)) (text_in before t i))))

  answered : (end : ℕ) (before ps : List Piece) (s : ExprState) → Reached before s → AllProper ps
      → IsAnswer font end (before ++ ps) (run font s ps >>= finish font end)
  answered end before [] s r h = subst (λ (l : List Piece). IsAnswer font end l (finish font end s)) (sym (append-nil before))
      (from_finish end r (finish font end s) (finish_is font s end))
  answered end before (p ∷ ps) s r h =
      from_step end r p ps (step font s p) (step_is font s p h.0 r.valid) (λ t next. answered end (before ++ p ∷ []) ps t next h.1)

  -- ---- one value

  one_step : (s : ExprState) (p : Piece) (ps : List Piece) (v w : Found) (m : Answer ExprState)
      → StepIs font (In s p.mark p.at) (In s Right) (In s Comma) (NamedAt s.mode) s.frames s.unit p.mark p.at m
      → ((t : ExprState) → Valid font t → Completes font t ps v → Completes font t ps w → v ≡ w) → Completes font s (p ∷ ps) v
      → Completes font s (p ∷ ps) w → v ≡ w
  one_step s p ps v w m (sure (steps t h k le)) on a b = on t k.valid ((h ps v).0 a) ((h ps w).0 b)
  one_step s p ps v w m (sure (refuses h k)) on a b = absurd (h ps v a)
  one_step s p ps v w m (sure (miscounts name h k)) on a b = absurd (h ps v a)
  one_step s p ps v w m (deep t h k many more) on a b = on t k.valid ((h ps v).0 a) ((h ps w).0 b)

  one_completion : (s : ExprState) (ps : List Piece) (v w : Found) → AllProper ps → Valid font s → Completes font s ps v → Completes font s ps w → v ≡ w
  one_completion s [] v w h valid a b = one_value font s v w a b
  one_completion s (p ∷ ps) v w h valid a b =
      one_step s p ps v w (step font s p) (step_is font s p h.0 valid) (λ t kept a b. one_completion t ps v w h.1 kept a b) a b

  -- two trees of a text have one value
  pub one_text : (ps : List Piece) (t u : Tree) → AllProper ps → IsText ps t → IsText ps u → value font t ≡ value font u
  one_text ps t u h a b = one_completion start ps (value font t) (value font u) h reached_start.valid (text_in ps t a) (text_in ps u b)

-- the machine's answer is one
pub evaluated_is_the_answer : (font : FontUnits) (at : ℕ) (toks : List Tok) → Evaluates font at toks (evaluated font at toks)
unfolding evaluated
evaluated_is_the_answer font at toks = answered font (end_of at toks) [] (pieces_of toks) start (reached_start font) (pieces_are_proper toks)

-- the same for an answer that is known to be the machine's
pub answer_means : (font : FontUnits) (at : ℕ) (toks : List Tok) (r : Answer Value) → r ≡ evaluated font at toks → Evaluates font at toks r
answer_means font at toks r is = subst (λ (r : Answer Value). Evaluates font at toks r) (sym is) (evaluated_is_the_answer font at toks)
