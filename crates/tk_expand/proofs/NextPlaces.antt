-- Where the tokens and the faults stand of what is read through expansion.
use Rattle.std.specs.Prelude.{◌≡◌, ℕ, suc, Bool, true, false, if◌then◌else◌, List, [], ◌∷◌, Option, Some, None, Ok}
use Rattle.std.proofs.Common.{refl, sym, subst, arith}
use Rattle.tk_token.specs.declared.Tok.{Tok}
use Rattle.tk_token.specs.Answers.{Answer}
use Rattle.tk_token.specs.Kinds.{is_space}
use Rattle.tk_store.specs.Levels.{Macros}
use Rattle.tk_expand.specs.Expand.{Stream, work, front}
use Rattle.tk_expand.specs.Reading.{Next, first_taken, is_there, place_of, next, next_solid}
use Rattle.tk_expand.proofs.Falling.{Takes, one_there, next_takes, solid_is}
use Rattle.tk_expand.proofs.Places.{StandAt, Stands, then_stands, also, StreamAt, BodiesAt, by_work, front_at}

module _ (P : ℕ → Type 0) where
  -- a token that was taken, if there was one, stands at such a place
  abbrev pub TokenAt : Option Tok → Type 0
  TokenAt None = Unit {0}
  TokenAt (Some t) = P t.at

  -- and so do those behind it
  abbrev pub NextAt : Next → Type 0
  NextAt n = TokenAt n.token × StreamAt P n.stream

  first_at : (s : Stream) (ts : List Tok) → StreamAt P s → StandAt P ts → NextAt (first_taken s ts)
  first_at s [] h k = (tt, h)
  first_at s (t ∷ ts) h k = k

  pub place_at : (end : ℕ) (token : Option Tok) → P end → TokenAt token → P (place_of end token)
  place_at end None p h = p
  place_at end (Some t) p h = h

  module _ (budget : ℕ) (macros : Macros) (bodies : BodiesAt P macros) where
    pub next_at : (s : Stream) → StreamAt P s → Stands P NextAt (next budget macros s)
    unfolding next
    next_at s h =
        then_stands P (StreamAt P) NextAt (front budget macros s) _ (front_at P budget macros bodies s h) (λ m k. first_at m m.list.rest k k)

    solid_at : (n : Next) → NextAt n → (b : Bool) → (b ≡ true → Stands P NextAt (next_solid budget macros n.stream))
        → Stands P NextAt (let r : Answer Next = if b then next_solid budget macros n.stream else Ok n in r)
    solid_at n h true k = k refl
    solid_at n h false k = h

    pub next_solid_at : (s : Stream) → StreamAt P s → Stands P NextAt (next_solid budget macros s)
    next_solid_at s = by_work P budget macros bodies (λ s. StreamAt P s → Stands P NextAt (next_solid budget macros s))
        (λ s h all. subst (Stands P NextAt) (sym (solid_is budget macros s)) (
        then_stands P (λ (n : Next). NextAt n × Takes budget s n) NextAt (next budget macros s) _ (also P NextAt (Takes budget s)
        (next budget macros s) (next_at s all) (next_takes budget macros s)) (λ n k.
        solid_at n k.0 (is_there is_space n.token) (λ b. h n.stream (let a = k.1.work_falls in omega (arith, one_there is_space n.token b)) k.0.1))))
        (suc (work budget s)) s (omega arith)
