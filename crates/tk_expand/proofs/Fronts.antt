-- One turn of an expansion.
use Rattle.std.proofs.Common.{◌≡◌, ℕ, ◌<◌, List, [], ◌∷◌, ◌++◌, length, Option, Some, None, Ok, Err, refl, sym, ap, ◌∙◌, append_assoc, arith}
use Rattle.std.proofs.lemmas.List.{append-nil}
use Rattle.tk_token.specs.declared.Kind.{Kind}
use Rattle.tk_token.specs.declared.Kind.TheVariants.{Char, Word, Symbol, Open, Close, Param, Arg, Space}
use Rattle.tk_token.specs.declared.Tok.{Tok}
use Rattle.tk_token.specs.declared.Refusal.{Refusal}
use Rattle.tk_token.specs.Answers.{Answer, ◌>>=◌}
use Rattle.tk_token.specs.Refusals.{Fails}
use Rattle.tk_token.proofs.Answering.{fails_then, fails_as, then_is, known_of}
use Rattle.tk_store.specs.declared.Macro.{Macro}
use Rattle.tk_store.specs.Levels.{Macros}
use Rattle.tk_expand.specs.Unread.{Unread, unread}
use Rattle.tk_expand.specs.Expand.{Stream, stream, with_rest, work, called_by, replaced, front_token, front_list, front, full_list, full}
use Rattle.tk_expand.specs.Reading.{Next, taken, first_taken, next}
use Rattle.tk_expand.proofs.Falling.{Spends, replaced_spends, front_is, full_is}
use Rattle.tk_expand.proofs.Finished.{front_ends, front_stops}

-- what is no control word calls nothing
pub no_word : (macros : Macros) (k : Kind) → ((w : ℕ) → k ≡ Word w → ⊥) → called_by macros k ≡ None
no_word macros (Word w) h = absurd (h w refl)
no_word macros (Char c) h = refl
no_word macros (Symbol c) h = refl
no_word macros Open h = refl
no_word macros Close h = refl
no_word macros Param h = refl
no_word macros (Arg n) h = refl
no_word macros Space h = refl

-- ---- the next token

module _ (budget : ℕ) (macros : Macros) (s : Stream) where
  -- nothing is left
  pub next_ends : s.list.rest ≡ [] → next budget macros s ≡ Ok (taken None s)
  unfolding next
  next_ends none = then_is (front budget macros s) (λ a. Ok (first_taken a a.list.rest)) s (front_ends budget macros s none)
      ∙ ap (λ (ts : List Tok). (let r : Answer Next = Ok (first_taken s ts) in r)) none

  -- a token is in front; the list behind it ends at the same place
  module _ (t : Tok) (list : Unread) (is : s.list.rest ≡ t ∷ list.rest) (end : list.end ≡ s.list.end) where
    behind : with_rest s list.rest ≡ stream s.units list
    behind = ap (λ (e : ℕ). stream s.units (unread list.rest e)) (sym end)

    -- it calls nothing
    pub next_stops : called_by macros t.kind ≡ None → next budget macros s ≡ Ok (taken (Some t) (stream s.units list))
    unfolding next
    next_stops calls =
        then_is (front budget macros s) (λ a. Ok (first_taken a a.list.rest)) s (front_stops budget macros s t list.rest is calls)
        ∙ ap (λ (ts : List Tok). (let r : Answer Next = Ok (first_taken s ts) in r)) is
        ∙ ap (λ (r : Stream). (let a : Answer Next = Ok (taken (Some t) r) in a)) behind

    -- it is a call
    module _ (called : Macro) (calls : called_by macros t.kind ≡ Some called) where
      front_calls : front budget macros s ≡ (replaced budget called t.at (stream s.units list) >>= front budget macros)
      front_calls =
          front_is budget macros s ∙ ap (front_list budget macros (front budget macros) s) is
          ∙ ap (front_token budget macros (front budget macros) s t list.rest) calls
          ∙ ap (λ (r : Stream). replaced budget called t.at r >>= front budget macros) behind

      pub next_fails : (e : Refusal) → Fails e (replaced budget called t.at (stream s.units list)) → Fails e (next budget macros s)
      unfolding next
      next_fails e h =
          fails_then e (front budget macros s) _ (fails_as e _ _ front_calls (fails_then e (replaced budget called t.at (stream s.units list))
          (front budget macros) h))

      module _ (r : Stream) (known : replaced budget called t.at (stream s.units list) ≡ Ok r) where
        pub next_goes : next budget macros s ≡ next budget macros r
        unfolding next
        next_goes = ap (λ (m : Answer Stream). m >>= λ a. Ok (first_taken a a.list.rest)) (front_calls
            ∙ then_is (replaced budget called t.at (stream s.units list)) (front budget macros) r known)

        pub call_spends : (s.units < r.units) × (work budget r < work budget s)
        call_spends =
            let p = known_of (Spends budget (stream s.units list)) (replaced budget called t.at (stream s.units list)) r known
            (replaced_spends budget called t.at (stream s.units list)) in
            (p.units, (let a = p.work_falls in omega (arith, ap length is)))

-- ---- a full expansion

-- tokens that were taken stand before those of the answer
abbrev pub with_kept : List Tok → Answer Stream → Answer Stream
with_kept ts answer = answer >>= λ r. Ok (with_rest r (ts ++ r.list.rest))

-- none was taken yet
pub none_kept : (answer : Answer Stream) → answer ≡ with_kept [] answer
none_kept (Ok r) = refl
none_kept (Err e) = refl

module _ (budget : ℕ) (macros : Macros) where
  -- what follows the next token of a full expansion
  abbrev full_from : Option Tok → Stream → Answer Stream
  full_from None s = Ok s
  full_from (Some t) s = full budget macros s >>= λ more. Ok (with_rest more (t ∷ more.list.rest))

  list_by_next : (s : Stream) (ts : List Tok)
      → full_list budget macros (full budget macros) s ts ≡ full_from (first_taken s ts).token (first_taken s ts).stream
  list_by_next s [] = refl
  list_by_next s (t ∷ ts) = refl

  by_next : (m : Answer Stream)
      → (m >>= λ a. full_list budget macros (full budget macros) a a.list.rest)
      ≡ ((m >>= λ a. let n : Answer Next = Ok (first_taken a a.list.rest) in n) >>= λ n. full_from n.token n.stream)
  by_next (Ok a) = list_by_next a a.list.rest
  by_next (Err e) = refl

  full_by_next : (s : Stream) → full budget macros s ≡ (next budget macros s >>= λ n. full_from n.token n.stream)
  unfolding next
  full_by_next s = full_is budget macros s ∙ by_next (front budget macros s)

  -- A full expansion so far: the answer is that of what is left, with the tokens before it that were taken.
  module _ (now : Stream) (out : List Tok) (answer : Answer Stream) (told : answer ≡ with_kept out (full budget macros now)) where
    -- one token is taken
    pub full_takes : (t : Tok) (r : Stream) (new : List Tok) → next budget macros now ≡ Ok (taken (Some t) r) → new ≡ out ++ t ∷ []
        → answer ≡ with_kept new (full budget macros r)
    full_takes t r new is pushed =
        told ∙ ap (with_kept out) (full_by_next now ∙ then_is (next budget macros now) (λ n. full_from n.token n.stream) (taken (Some t) r) is)
        ∙ joined (full budget macros r) ∙ ap (λ (o : List Tok). with_kept o (full budget macros r)) (sym pushed)
      where
        joined : (m : Answer Stream) → with_kept out (m >>= λ more. Ok (with_rest more (t ∷ more.list.rest))) ≡ with_kept (out ++ t ∷ []) m
        joined (Ok q) = ap (λ (f : List Tok). (let x : Answer Stream = Ok (with_rest q f) in x)) (sym (append_assoc out (t ∷ []) q.list.rest))
        joined (Err e) = refl

    -- no token is left
    pub full_ends : (r : Stream) → next budget macros now ≡ Ok (taken None r) → r.list.rest ≡ [] → answer ≡ Ok (with_rest r out)
    full_ends r is none =
        told ∙ ap (with_kept out) (full_by_next now ∙ then_is (next budget macros now) (λ n. full_from n.token n.stream) (taken None r) is)
        ∙ ap (λ (ts : List Tok). (let x : Answer Stream = Ok (with_rest r (out ++ ts)) in x)) none
        ∙ ap (λ (ts : List Tok). (let x : Answer Stream = Ok (with_rest r ts) in x)) (append-nil out)

    pub full_fails : (e : Refusal) → Fails e (next budget macros now) → Fails e answer
    full_fails e h =
        fails_as e answer _ told (fails_then e (full budget macros now) _ (fails_as e _ _ (full_by_next now)
        (fails_then e (next budget macros now) _ h)))
