-- One token of a body as it is written.
use Rattle.std.proofs.Common.{◌≡◌, ℕ, Bool, true, false, List, [], ◌∷◌, ◌++◌, Ok, Err, refl, sym, ap, ◌∙◌, append_assoc}
use Rattle.std.proofs.lemmas.List.{append-nil}
use Rattle.std.specs.Prelude.{if◌then◌else◌}
use Rattle.tk_token.specs.declared.Kind.{Kind}
use Rattle.tk_token.specs.declared.Kind.TheVariants.{Char, Word, Symbol, Open, Close, Param, Arg, Space}
use Rattle.tk_token.specs.declared.Tok.{Tok}
use Rattle.tk_token.specs.Answers.{Answer, ◌>>=◌}
use Rattle.tk_token.specs.declared.Refusal.{Refusal}
use Rattle.tk_token.specs.Refusals.{Fails}
use Rattle.tk_token.proofs.Answering.{fails_then, fails_as, then_is}
use Rattle.tk_token.specs.Kinds.{is_param}
use Rattle.tk_store.specs.Bodies.{itself, hash_before, misfit, body_of}
use Rattle.tk_store.specs.Kept.{Kept, kept, first_kept}

-- tokens stand before a body
abbrev pub onto : List Tok → Answer (List Tok) → Answer (List Tok)
onto done answer = answer >>= λ more. Ok (done ++ more)

-- one more token stands before it
pub onto_more : (done : List Tok) (t : Tok) (answer : Answer (List Tok)) → onto done (answer >>= λ more. Ok (t ∷ more)) ≡ onto (done ++ t ∷ []) answer
onto_more done t (Ok more) = ap (λ (ts : List Tok). (let a : Answer (List Tok) = Ok ts in a)) (sym (append_assoc done (t ∷ []) more))
onto_more done t (Err e) = refl

-- the body from a token that is kept on
abbrev from_kept : ℕ → Kept → Answer (List Tok)
from_kept args f = body_of args f.rest >>= λ more. Ok (f.tok ∷ more)

bind_kept : (m : Answer Tok) (ts : List Tok) (f : Kept → Answer (List Tok)) → ((m >>= λ x. Ok (kept x ts)) >>= f) ≡ (m >>= λ x. f (kept x ts))
bind_kept (Ok x) ts f = refl
bind_kept (Err e) ts f = refl

-- a token with nothing behind it
token_alone_is_written : (args : ℕ) (k : Kind) (t : Tok)
    → (itself k t >>= λ first. Ok (first ∷ []))
    ≡ ((if is_param k then misfit t.at else (itself k t >>= λ first. Ok (kept first []))) >>= from_kept args)
unfolding body_of
token_alone_is_written args Param t = refl
token_alone_is_written args (Arg n) t = refl
token_alone_is_written args (Char c) t = refl
token_alone_is_written args (Word w) t = refl
token_alone_is_written args (Symbol c) t = refl
token_alone_is_written args Open t = refl
token_alone_is_written args Close t = refl
token_alone_is_written args Space t = refl

-- a token with another behind it, which may belong to it
marks_paired : (args : ℕ) (b : Bool) (m n : Answer Tok) (us ts : List Tok) →
    (if b then (m >>= λ first. body_of args us >>= λ more. Ok (first ∷ more))
    else (n >>= λ first. body_of args ts >>= λ more. Ok (first ∷ more)))
    ≡ ((if b then (m >>= λ first. Ok (kept first us)) else (n >>= λ first. Ok (kept first ts))) >>= from_kept args)
marks_paired args true m n us ts = sym (bind_kept m us (from_kept args))
marks_paired args false m n us ts = sym (bind_kept n ts (from_kept args))

-- a body is the token that is kept first, and the body behind that
body_is : (args : ℕ) (t : Tok) (ts : List Tok) → body_of args (t ∷ ts) ≡ (first_kept args t ts >>= from_kept args)
unfolding body_of
body_is args t [] = token_alone_is_written args t.kind t
body_is args t (u ∷ us) = marks_paired args (is_param t.kind) (hash_before args u.kind t.at) (itself t.kind t) us (u ∷ us)

-- A body so far: the answer is that of the tokens that are left, with some before it.
module _ (args : ℕ) (done rest : List Tok) (answer : Answer (List Tok)) (told : answer ≡ onto done (body_of args rest)) where
  -- no token is left
  pub ends : rest ≡ [] → answer ≡ Ok done
  unfolding body_of
  ends none =
      told ∙ ap (λ (ts : List Tok). onto done (body_of args ts)) none
      ∙ ap (λ (ts : List Tok). (let a : Answer (List Tok) = Ok ts in a)) (append-nil done)

  module _ (t : Tok) (ts : List Tok) (is : rest ≡ t ∷ ts) where
    -- the first stands for a token, and the rest is left
    pub goes : (first : Tok) (behind new : List Tok) → first_kept args t ts ≡ Ok (kept first behind) → new ≡ done ++ first ∷ []
        → answer ≡ onto new (body_of args behind)
    goes first behind new known pushed =
        told ∙ ap (λ (ts : List Tok). onto done (body_of args ts)) is
        ∙ ap (onto done) (body_is args t ts ∙ then_is (first_kept args t ts) (from_kept args) (kept first behind) known)
        ∙ onto_more done first (body_of args behind) ∙ ap (λ (fs : List Tok). onto fs (body_of args behind)) (sym pushed)

    -- it has a fault
    pub fails : (e : Refusal) → Fails e (first_kept args t ts) → Fails e answer
    fails e h =
        fails_as e answer _ (told ∙ ap (λ (ts : List Tok). onto done (body_of args ts)) is)
        (fails_then e (body_of args (t ∷ ts)) _ (fails_as e _ _ (body_is args t ts) (fails_then e (first_kept args t ts) (from_kept args) h)))
