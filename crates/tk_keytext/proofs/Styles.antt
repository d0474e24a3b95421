-- The body of a style as code: its list is kept between `\pgfkeysalso{` and `}`.
use Rattle.std.proofs.Common.{◌≡◌, ℕ, Bool, true, false, List, [], ◌∷◌, ◌++◌, Ok, Err, refl, ap, ◌∙◌}
use Rattle.std.proofs.lemmas.List.{append-nil}
use Rattle.std.specs.Prelude.{if◌then◌else◌}
use Rattle.tk_token.specs.declared.Kind.{Kind}
use Rattle.tk_token.specs.declared.Kind.TheVariants.{Char, Word, Symbol, Open, Close, Param, Arg, Space}
use Rattle.tk_token.specs.declared.Tok.{Tok}
use Rattle.tk_token.specs.declared.Refusal.{Refusal}
use Rattle.tk_token.specs.Answers.{Answer, ◌>>=◌}
use Rattle.tk_token.specs.Kinds.{is_param}
use Rattle.tk_token.specs.Refusals.{Fails}
use Rattle.tk_token.proofs.Answering.{fails_then, fails_as}
use Rattle.tk_store.specs.declared.Run.{Run}
use Rattle.tk_store.specs.declared.Run.TheVariants as runs
use Rattle.tk_store.specs.Bodies.{itself, hash_before, misfit, body_of}
use Rattle.tk_keytext.specs.Entries.{also_keys, coded, styled}

-- a token before a body, or behind it
abbrev onto : Answer Tok → Answer (List Tok) → Answer (List Tok)
onto m more = m >>= λ first. more >>= λ ts. Ok (first ∷ ts)

abbrev ended : Tok → Answer (List Tok) → Answer (List Tok)
ended last body = body >>= λ ts. Ok (ts ++ last ∷ [])

onto_ended : (m : Answer Tok) (last : Tok) (body : Answer (List Tok)) → onto m (ended last body) ≡ ended last (onto m body)
onto_ended (Err e) last body = refl
onto_ended (Ok t) last (Ok ts) = refl
onto_ended (Ok t) last (Err e) = refl

chosen_ended : (b : Bool) (m n : Answer Tok) (last : Tok) (us ts : Answer (List Tok))
    → (if b then onto m (ended last us) else onto n (ended last ts)) ≡ ended last (if b then onto m us else onto n ts)
chosen_ended true m n last us ts = onto_ended m last us
chosen_ended false m n last us ts = onto_ended n last ts

module _ (args at : ℕ) where
  abbrev closer : Tok
  closer = record { kind = Close; at = at }

  -- a token alone doesn't reach over the `}` behind it
  one_ended : (k : Kind) (t : Tok)
      → (if is_param k then onto (misfit t.at) (Ok []) else onto (itself k t) (Ok (closer ∷ [])))
      ≡ ended closer (itself k t >>= λ first. Ok (first ∷ []))
  one_ended Param t = refl
  one_ended (Arg n) t = refl
  one_ended (Char c) t = refl
  one_ended (Word w) t = refl
  one_ended (Symbol c) t = refl
  one_ended Open t = refl
  one_ended Close t = refl
  one_ended Space t = refl

  close_kept : (ts : List Tok) → body_of args (ts ++ closer ∷ []) ≡ ended closer (body_of args ts)
  unfolding body_of
  close_kept [] = refl
  close_kept (t ∷ []) = one_ended t.kind t
  close_kept (t ∷ u ∷ ts) =
      ap (λ (b : Answer (List Tok)). if is_param t.kind then onto (hash_before args u.kind t.at) b else onto (itself t.kind t)
      (body_of args (u ∷ ts ++ closer ∷ []))) (close_kept ts)
      ∙ ap (λ (b : Answer (List Tok)). if is_param t.kind then onto (hash_before args u.kind t.at) (ended closer (body_of args ts))
      else onto (itself t.kind t) b) (close_kept (u ∷ ts))
      ∙ chosen_ended (is_param t.kind) (hash_before args u.kind t.at) (itself t.kind t) closer (body_of args ts) (body_of args (u ∷ ts))

  word_kept : (w : ℕ) (ts : List Tok)
      → body_of args (record { kind = Word w; at = at } ∷ ts) ≡ onto (Ok (record { kind = Word w; at = at })) (body_of args ts)
  unfolding body_of
  word_kept w [] = refl
  word_kept w (u ∷ ts) = refl

  open_kept : (ts : List Tok) → body_of args (record { kind = Open; at = at } ∷ ts) ≡ onto (Ok (record { kind = Open; at = at })) (body_of args ts)
  unfolding body_of
  open_kept [] = refl
  open_kept (u ∷ ts) = refl

  module _ (also : ℕ) where
    -- the list of a style is kept as a body is
    pub style_kept : (list : List Tok) → body_of args (also_keys also at list) ≡ (body_of args list >>= λ ts. Ok (also_keys also at ts))
    style_kept list =
        word_kept also _ ∙ ap (onto (Ok (record { kind = Word also; at = at }))) (open_kept _ ∙ ap (onto (Ok (record { kind = Open; at = at })))
        (close_kept list))
        ∙ go (body_of args list)
      where
        go : (body : Answer (List Tok))
            → onto (Ok (record { kind = Word also; at = at })) (onto (Ok (record { kind = Open; at = at })) (ended closer body))
            ≡ (body >>= λ ts. Ok (also_keys also at ts))
        go (Ok ts) = refl
        go (Err e) = refl

    module _ (before list behind : List Tok) where
      pub styled_is : (ts : List Tok) → body_of args list ≡ Ok ts
          → styled also at args before list behind ≡ Ok (runs.Code args (before ++ also_keys also at ts ++ behind))
      styled_is ts known =
          let f : List Tok → Answer Run = λ style. Ok (runs.Code args (before ++ style ++ behind)) in
          ap (λ (m : Answer (List Tok)). m >>= f) (style_kept list ∙ ap (λ (m : Answer (List Tok)). m >>= λ ts. Ok (also_keys also at ts)) known)

      pub styled_fails : (e : Refusal) → Fails e (body_of args list) → Fails e (styled also at args before list behind)
      styled_fails e h =
          fails_then e (body_of args (also_keys also at list)) _ (fails_as e _ _ (style_kept list) (fails_then e (body_of args list) _ h))

    pub style_alone : (list : List Tok) → styled also at args [] list [] ≡ coded args (also_keys also at list)
    style_alone list = go (body_of args (also_keys also at list))
      where
        go : (m : Answer (List Tok))
            → ◌≡◌ {A = Answer Run} (m >>= λ style. Ok (runs.Code args ([] ++ style ++ []))) (m >>= λ style. Ok (runs.Code args style))
        go (Ok ts) = ap (λ (ts : List Tok). (let a : Answer Run = Ok (runs.Code args ts) in a)) (append-nil ts)
        go (Err e) = refl
