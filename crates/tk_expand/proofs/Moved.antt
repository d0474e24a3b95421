-- Where a list runs out doesn't matter to its expansion.
use Rattle.std.specs.Prelude.{◌≡◌, ℕ, zero, suc, ◌<◌, List, [], ◌∷◌, ◌++◌, length, Option, Some, None, Result, Ok, Err, IfOk, Vec}
use Rattle.std.specs.declared.alloc.Global.{Global}
use Rattle.std.proofs.Common.{refl, ◌∙◌, ap, sym, arith}
use Rattle.tk_token.specs.declared.Tok.{Tok}
use Rattle.tk_token.specs.declared.Refusal.{Refusal}
use Rattle.tk_token.specs.Answers.{Answer, ◌>>=◌}
use Rattle.tk_token.specs.Groups.{Cut}
use Rattle.tk_token.specs.Refusals.{Fails, Gives}
use Rattle.tk_token.proofs.Answering.{fails_as, fails_then}
use Rattle.tk_store.specs.declared.Macro.{Macro}
use Rattle.tk_store.specs.Levels.{Macros}
use Rattle.tk_expand.specs.Arguments.{call_text}
use Rattle.tk_expand.specs.Unread.{unread}
use Rattle.tk_expand.specs.Expand.{pay, cost_of, Stream, stream, with_rest, work, called_by, replaced, front_token, front_list, front, full_list}
use Rattle.tk_expand.specs.Expand.{full}
use Rattle.tk_expand.proofs.Falling.{Falls, Spends, call_less, replaced_spends, front_falls, front_is, full_is}

-- the same stream, whose list runs out there
abbrev pub moved : ℕ → Stream → Stream
moved end s = stream s.units (unread s.list.rest end)

abbrev pub moved_answer : ℕ → Answer Stream → Answer Stream
moved_answer end answer = answer >>= λ r. Ok (moved end r)

-- what follows alike follows alike from moved answers
moved_then : (P : Stream → Type 0) (end : ℕ) (m : Answer Stream) (f : Stream → Answer Stream) → IfOk m P
    → ((r : Stream) → P r → f (moved end r) ≡ moved_answer end (f r)) → (moved_answer end m >>= f) ≡ moved_answer end (m >>= f)
moved_then P end (Ok r) f h k = k r h
moved_then P end (Err e) f h k = refl

module _ (budget : ℕ) (macros : Macros) (end : ℕ) where
  replaced_moved : (called : Macro) (at : ℕ) (s : Stream) → replaced budget called at (moved end s) ≡ moved_answer end (replaced budget called at s)
  unfolding replaced
  replaced_moved called at s = of_text (call_text called at s.list.rest)
    where
      of_paid : (front rest : List Tok) (paid : Answer ℕ)
          → ◌≡◌ {A = Answer Stream} (paid >>= λ paid. Ok (stream paid (unread (front ++ rest) end))) (moved_answer end (paid
          >>= λ paid. Ok (stream paid (unread (front ++ rest) s.list.end))))
      of_paid front rest (Ok n) = refl
      of_paid front rest (Err e) = refl

      of_text : (text : Answer Cut)
          → ◌≡◌ {A = Answer Stream} (text >>= λ text. pay budget s.units (cost_of text.front) at
          >>= λ paid. Ok (stream paid (unread (text.front ++ text.rest) end))) (moved_answer end (text
          >>= λ text. pay budget s.units (cost_of text.front) at >>= λ paid. Ok (stream paid (unread (text.front ++ text.rest) s.list.end))))
      of_text (Ok c) = of_paid c.front c.rest (pay budget s.units (cost_of c.front) at)
      of_text (Err e) = refl

  -- what holds where it holds of all that has less work left
  by_work : (Q : Stream → Type 0) → ((s : Stream) → ((r : Stream) → work budget r < work budget s → Q r) → Q s) → (n : ℕ) (s : Stream)
      → work budget s < n → Q s
  by_work Q step zero s lt = absurd (omega arith)
  by_work Q step (suc n) s lt = step s (λ r less. by_work Q step n r (omega arith))

  token_moved : (f : Stream → Answer Stream) (s : Stream) (t : Tok) (ts : List Tok) → s.list.rest ≡ t ∷ ts
      → ((r : Stream) → work budget r < work budget s → f (moved end r) ≡ moved_answer end (f r)) → (called : Option Macro)
      → front_token budget macros f (moved end s) t ts called ≡ moved_answer end (front_token budget macros f s t ts called)
  token_moved f s t ts e h None = refl
  token_moved f s t ts e h (Some called) =
      ap (λ (m : Answer Stream). m >>= f) (replaced_moved called t.at (with_rest s ts))
      ∙ moved_then (Spends budget (with_rest s ts)) end (replaced budget called t.at (with_rest s ts)) f (replaced_spends budget called t.at
      (with_rest s ts)) (λ r p. h r (call_less budget s r t ts e p).less)

  list_moved : (f : Stream → Answer Stream) (s : Stream) (ts : List Tok) → s.list.rest ≡ ts
      → ((r : Stream) → work budget r < work budget s → f (moved end r) ≡ moved_answer end (f r))
      → front_list budget macros f (moved end s) ts ≡ moved_answer end (front_list budget macros f s ts)
  list_moved f s [] e h = refl
  list_moved f s (t ∷ ts) e h = token_moved f s t ts e h (called_by macros t.kind)

  front_moved : (s : Stream) → front budget macros (moved end s) ≡ moved_answer end (front budget macros s)
  front_moved s = by_work (λ s. front budget macros (moved end s) ≡ moved_answer end (front budget macros s)) (λ s h.
      front_is budget macros (moved end s) ∙ list_moved (front budget macros) s s.list.rest refl h
      ∙ ap (moved_answer end) (sym (front_is budget macros s))) (suc (work budget s)) s (omega arith)

  kept_moved : (t : Tok) (m : Answer Stream)
      → ◌≡◌ {A = Answer Stream} (moved_answer end m >>= λ more. Ok (with_rest more (t ∷ more.list.rest))) (moved_answer end (m
      >>= λ more. Ok (with_rest more (t ∷ more.list.rest))))
  kept_moved t (Ok r) = refl
  kept_moved t (Err e) = refl

  rest_moved : (f : Stream → Answer Stream) (s m : Stream) → Falls budget s m → (ts : List Tok) → m.list.rest ≡ ts
      → ((r : Stream) → work budget r < work budget s → f (moved end r) ≡ moved_answer end (f r))
      → full_list budget macros f (moved end m) ts ≡ moved_answer end (full_list budget macros f m ts)
  rest_moved f s m fell [] e h = refl
  rest_moved f s m fell (t ∷ ts) e h =
      ap (λ (a : Answer Stream). a >>= λ more. Ok (with_rest more (t ∷ more.list.rest)))
      (h (with_rest m ts) (let a = fell.work_falls in omega (arith, ap length e)))
      ∙ kept_moved t (f (with_rest m ts))

  -- the expansion is the same, moved
  pub full_moved : (s : Stream) → full budget macros (moved end s) ≡ moved_answer end (full budget macros s)
  full_moved s = by_work (λ s. full budget macros (moved end s) ≡ moved_answer end (full budget macros s)) (λ s h.
      full_is budget macros (moved end s)
      ∙ ap (λ (m : Answer Stream). m >>= λ a. full_list budget macros (full budget macros) a a.list.rest) (front_moved s)
      ∙ moved_then (Falls budget s) end (front budget macros s) (λ a. full_list budget macros (full budget macros) a a.list.rest)
      (front_falls budget macros s) (λ m fell. rest_moved (full budget macros) s m fell m.list.rest refl h)
      ∙ ap (moved_answer end) (sym (full_is budget macros s))) (suc (work budget s)) s (omega arith)

  pub full_moved_known : (units paid : ℕ) (list text : List Tok)
      → full budget macros (stream units (unread list 0)) ≡ Ok (stream paid (unread text 0))
      → full budget macros (stream units (unread list end)) ≡ Ok (stream paid (unread text end))
  full_moved_known units paid list text known = full_moved (stream units (unread list 0)) ∙ ap (moved_answer end) known

  pub full_moved_fails : (units : ℕ) (list : List Tok) (e : Refusal) → Fails e (full budget macros (stream units (unread list 0)))
      → Fails e (full budget macros (stream units (unread list end)))
  full_moved_fails units list e h =
      fails_as e _ _ (full_moved (stream units (unread list 0))) (fails_then e (full budget macros (stream units (unread list 0))) _ h)

-- what a call gave of a list that runs out at 0 it gave of the list that runs out anywhere
pub moved_gives : (budget : ℕ) (macros : Macros) (units paid : ℕ) (list list' : List Tok) (result : Result (Vec Tok Global) Refusal) → list' ≡ list
    → Gives (λ text. stream paid (unread text.items 0)) result (full budget macros (stream units (unread list' 0))) → (end : ℕ)
    → Gives (λ text. stream paid (unread text.items end)) result (full budget macros (stream units (unread list end)))
moved_gives budget macros units paid list list' (Ok text) same h end =
    full_moved_known budget macros end units paid list text.items (ap (λ (ts : List Tok). full budget macros (stream units (unread ts 0))) (sym same)
    ∙ h)
moved_gives budget macros units paid list list' (Err e) same h end =
    full_moved_fails budget macros end units list e (fails_as e _ _ (ap (λ (ts : List Tok). full budget macros (stream units (unread ts 0)))
    (sym same)) h)
