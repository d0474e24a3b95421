-- Where tokens and faults of an expansion stand: at places of the list and of the bodies.
use Rattle.std.specs.Prelude.{◌≡◌, ℕ, zero, suc, ◌+◌, ◌-◌, ◌<◌, Bool, true, false, nat_lt, if◌then◌else◌, List, [], ◌∷◌, ◌++◌, length, drop}
use Rattle.std.specs.Prelude.{slice_get, unwrap_or, Option, Some, None, Ok, Err, IfSome, IfOk, MatchResult}
use Rattle.std.specs.FinMap as map
use Rattle.std.specs.List.{AllByRecursion, prefix_len}
use Rattle.std.proofs.Common.{refl, sym, ap, subst, arith}
use Rattle.tk_token.specs.declared.Kind.{Kind}
use Rattle.tk_token.specs.declared.Kind.TheVariants.{Char, Word, Symbol, Open, Close, Param, Arg, Space}
use Rattle.tk_token.specs.declared.Tok.{Tok}
use Rattle.tk_token.specs.declared.Code.TheVariants.{MacroArg, Budget}
use Rattle.tk_token.specs.Answers.{Answer, ◌>>=◌, fault, or_fault}
use Rattle.tk_token.specs.Groups.{Cut}
use Rattle.tk_token.specs.Spaces.{is_space_token, after_spaces}
use Rattle.tk_token.proofs.Outside.{group_keeps}
use Rattle.tk_store.specs.declared.Macro.{Macro}
use Rattle.tk_store.specs.Levels.{Macros}
use Rattle.tk_expand.specs.Arguments.{argument_from, argument_in, argument_of, Arguments, arguments_of, put_in, with_arguments, call_text}
use Rattle.tk_expand.specs.Expand.{pay, cost_of, Stream, with_rest, called_by, replaced, front_token, front_list, work, front, full_list, full}
use Rattle.tk_expand.proofs.Falling.{Falls, Spends, call_less, replaced_spends, front_falls, front_is, full_is}

module _ (P : ℕ → Type 0) where
  -- each token stands at such a place
  abbrev pub StandAt : List Tok → Type 0
  StandAt ts = AllByRecursion (λ (t : Tok). P t.at) ts

  -- a value of that kind, or a fault at such a place
  abbrev pub Stands : {A : Type 0} → (A → Type 0) → Answer A → Type 0
  Stands Q answer = MatchResult answer Q (λ f. P f.at)

  pub then_stands : {A B : Type 0} (Q : A → Type 0) (R : B → Type 0) (m : Answer A) (f : A → Answer B) → Stands Q m → ((x : A) → Q x → Stands R (f x))
      → Stands R (m >>= f)
  then_stands Q R (Ok x) f h k = k x h
  then_stands Q R (Err e) f h k = h

  pub also : {A : Type 0} (Q R : A → Type 0) (m : Answer A) → Stands Q m → IfOk m R → Stands (λ x. Q x × R x) m
  also Q R (Ok x) h k = (h, k)
  also Q R (Err e) h k = h

  pub joined_at : (ts us : List Tok) → StandAt ts → StandAt us → StandAt (ts ++ us)
  joined_at [] us h k = k
  joined_at (t ∷ ts) us h k = (h.0, joined_at ts us h.1 k)

  pub dropped_at : (n : ℕ) (ts : List Tok) → StandAt ts → StandAt (drop n ts)
  dropped_at zero ts h = h
  dropped_at (suc n) [] h = h
  dropped_at (suc n) (t ∷ ts) h = dropped_at n ts h.1

  -- front and rest
  abbrev pub CutAt : Cut → Type 0
  CutAt c = StandAt c.front × StandAt c.rest

  argument_from_at : (k : Kind) (t : Tok) (ts : List Tok) → P t.at → StandAt ts → IfSome (argument_from k t ts) CutAt
  argument_from_at Open t ts h k = group_keeps (λ (t : Tok). P t.at) ts k
  argument_from_at Close t ts h k = tt
  argument_from_at (Char c) t ts h k = ((h, tt), k)
  argument_from_at (Word w) t ts h k = ((h, tt), k)
  argument_from_at (Symbol c) t ts h k = ((h, tt), k)
  argument_from_at Param t ts h k = ((h, tt), k)
  argument_from_at (Arg n) t ts h k = ((h, tt), k)
  argument_from_at Space t ts h k = ((h, tt), k)

  argument_in_at : (ts : List Tok) → StandAt ts → IfSome (argument_in ts) CutAt
  argument_in_at [] h = tt
  argument_in_at (t ∷ ts) h = argument_from_at t.kind t ts h.0 h.1

  -- an argument, or its want at such a place
  pub argument_at : (at : ℕ) (ts : List Tok) → P at → StandAt ts → Stands CutAt (or_fault (argument_of ts) MacroArg at)
  argument_at at ts p h = go (argument_of ts) (argument_in_at (after_spaces ts) (dropped_at (prefix_len is_space_token ts) ts h))
    where
      go : (c : Option Cut) → IfSome c CutAt → Stands CutAt (or_fault c MacroArg at)
      go None k = p
      go (Some c) k = k

  abbrev pub ArgumentsAt : Arguments → Type 0
  ArgumentsAt a = AllByRecursion StandAt a.texts × StandAt a.rest

  pub arguments_at : (at n : ℕ) (ts : List Tok) → P at → StandAt ts → Stands ArgumentsAt (arguments_of at n ts)
  unfolding arguments_of
  arguments_at at zero ts p h = (tt, h)
  arguments_at at (suc n) ts p h =
      then_stands CutAt ArgumentsAt (or_fault (argument_of ts) MacroArg at) _ (argument_at at ts p h) (λ first k.
      then_stands ArgumentsAt ArgumentsAt (arguments_of at n first.rest) _ (arguments_at at n first.rest p k.1) (λ more m. ((k.0, m.0), m.1)))

  read_at : (texts : List (List Tok)) (n : ℕ) (t : Tok) → AllByRecursion StandAt texts → P t.at → StandAt (unwrap_or (slice_get texts n) (t ∷ []))
  read_at [] n t h p = (p, tt)
  read_at (a ∷ texts) zero t h p = h.0
  read_at (a ∷ texts) (suc n) t h p = read_at texts n t h.1 p

  put_at : (texts : List (List Tok)) (k : Kind) (t : Tok) → AllByRecursion StandAt texts → P t.at → StandAt (put_in texts k t)
  put_at texts (Arg n) t h p = read_at texts (n - 1) t h p
  put_at texts (Char c) t h p = (p, tt)
  put_at texts (Word w) t h p = (p, tt)
  put_at texts (Symbol c) t h p = (p, tt)
  put_at texts Open t h p = (p, tt)
  put_at texts Close t h p = (p, tt)
  put_at texts Param t h p = (p, tt)
  put_at texts Space t h p = (p, tt)

  pub with_arguments_at : (texts : List (List Tok)) (body : List Tok) → AllByRecursion StandAt texts → StandAt body
      → StandAt (with_arguments texts body)
  with_arguments_at texts [] h k = tt
  with_arguments_at texts (t ∷ ts) h k =
      joined_at (put_in texts t.kind t) (with_arguments texts ts) (put_at texts t.kind t h k.0) (with_arguments_at texts ts h k.1)

  pub text_at : (called : Macro) (at : ℕ) (ts : List Tok) → P at → StandAt called.body → StandAt ts → Stands CutAt (call_text called at ts)
  unfolding call_text
  text_at called at ts p b h =
      then_stands ArgumentsAt CutAt (arguments_of at called.args ts) _ (arguments_at at called.args ts p h)
      (λ a k. (with_arguments_at a.texts called.body k.0 b, k.1))

  paid_at : (budget units cost at : ℕ) → P at → Stands (λ _. Unit {0}) (pay budget units cost at)
  paid_at budget units cost at p = go (nat_lt budget (units + cost))
    where
      go : (b : Bool) → Stands (λ _. Unit {0}) (let r : Answer ℕ = if b then fault Budget at else Ok (units + cost) in r)
      go true = p
      go false = tt

  abbrev pub StreamAt : Stream → Type 0
  StreamAt s = StandAt s.list.rest

  pub replaced_at : (budget : ℕ) (called : Macro) (at : ℕ) (s : Stream) → P at → StandAt called.body → StreamAt s
      → Stands StreamAt (replaced budget called at s)
  unfolding replaced
  replaced_at budget called at s p b h =
      then_stands CutAt StreamAt (call_text called at s.list.rest) _ (text_at called at s.list.rest p b h) (λ c k.
      then_stands (λ _. Unit {0}) StreamAt (pay budget s.units (cost_of c.front) at) _ (paid_at budget s.units (cost_of c.front) at p)
      (λ now m. joined_at c.front c.rest k.0 k.1))

  -- each body has its tokens at such places
  abbrev pub BodiesAt : Macros → Type 0
  BodiesAt macros = (w : ℕ) (m : Macro) → map.get macros w ≡ Some m → StandAt m.body

  module _ (budget : ℕ) (macros : Macros) (bodies : BodiesAt macros) where
    body_at : (k : Kind) (called : Macro) → called_by macros k ≡ Some called → StandAt called.body
    body_at (Word w) called is = bodies w called is
    body_at (Char c) called is = absurd cc
    body_at (Symbol c) called is = absurd cc
    body_at Open called is = absurd cc
    body_at Close called is = absurd cc
    body_at Param called is = absurd cc
    body_at (Arg n) called is = absurd cc
    body_at Space called is = absurd cc

    -- what holds where it holds of all that has less work left
    pub by_work : (Q : Stream → Type 0) → ((s : Stream) → ((r : Stream) → work budget r < work budget s → Q r) → Q s) → (n : ℕ) (s : Stream)
        → work budget s < n → Q s
    by_work Q step zero s lt = absurd (omega arith)
    by_work Q step (suc n) s lt = step s (λ r less. by_work Q step n r (omega arith))

    token_at : (rec : Stream → Answer Stream) (s : Stream) (t : Tok) (ts : List Tok) → s.list.rest ≡ t ∷ ts → (called : Option Macro)
        → called_by macros t.kind ≡ called → ((r : Stream) → work budget r < work budget s → StreamAt r → Stands StreamAt (rec r)) → StreamAt s
        → StandAt (t ∷ ts) → Stands StreamAt (front_token budget macros rec s t ts called)
    token_at rec s t ts e None is h all both = all
    token_at rec s t ts e (Some called) is h all both =
        then_stands (λ (r : Stream). StreamAt r × Spends budget (with_rest s ts) r) StreamAt (replaced budget called t.at (with_rest s ts)) _
        (also StreamAt (Spends budget (with_rest s ts)) (replaced budget called t.at (with_rest s ts)) (replaced_at budget called t.at
        (with_rest s ts) both.0 (body_at t.kind called is) both.1) (replaced_spends budget called t.at (with_rest s ts)))
        (λ r k. h r (call_less budget s r t ts e k.1).less k.0)

    list_at : (rec : Stream → Answer Stream) (s : Stream) (ts : List Tok) → s.list.rest ≡ ts
        → ((r : Stream) → work budget r < work budget s → StreamAt r → Stands StreamAt (rec r)) → StreamAt s → StandAt ts
        → Stands StreamAt (front_list budget macros rec s ts)
    list_at rec s [] e h all same = all
    list_at rec s (t ∷ ts) e h all same = token_at rec s t ts e (called_by macros t.kind) refl h all same

    pub front_at : (s : Stream) → StreamAt s → Stands StreamAt (front budget macros s)
    front_at s = by_work (λ s. StreamAt s → Stands StreamAt (front budget macros s)) (λ s h all. subst (Stands StreamAt)
        (sym (front_is budget macros s)) (list_at (front budget macros) s s.list.rest refl h all all)) (suc (work budget s)) s (omega arith)

    rest_at : (s m : Stream) → Falls budget s m → (ts : List Tok) → m.list.rest ≡ ts
        → ((r : Stream) → work budget r < work budget s → StreamAt r → Stands StreamAt (full budget macros r)) → StreamAt m → StandAt ts
        → Stands StreamAt (full_list budget macros (full budget macros) m ts)
    rest_at s m fell [] e h all same = all
    rest_at s m fell (t ∷ ts) e h all same =
        then_stands StreamAt StreamAt (full budget macros (with_rest m ts)) _
        (h (with_rest m ts) (let a = fell.work_falls in omega (arith, ap length e)) same.1) (λ more k. (same.0, k))

    pub full_at : (s : Stream) → StreamAt s → Stands StreamAt (full budget macros s)
    full_at s =
        by_work (λ s. StreamAt s → Stands StreamAt (full budget macros s)) (λ s h all. subst (Stands StreamAt) (sym (full_is budget macros s)) (
        then_stands (λ (m : Stream). StreamAt m × Falls budget s m) StreamAt (front budget macros s) _ (also StreamAt (Falls budget s)
        (front budget macros s) (front_at s all) (front_falls budget macros s)) (λ m k.
        rest_at s m k.1 m.list.rest refl h k.0 k.0))) (suc (work budget s)) s (omega arith)
