-- Private: only private contracts use this. One token of a body, as the code takes it.
use Rattle.std.specs.Prelude.{ℕ, if◌then◌else◌, List, [], ◌∷◌, Ok}
use Rattle.tk_token.specs.declared.Tok.{Tok}
use Rattle.tk_token.specs.Answers.{Answer, ◌>>=◌}
use Rattle.tk_token.specs.Kinds.{is_param}
use Rattle.tk_store.specs.Bodies.{itself, hash_before, misfit}

-- a token of the body, and what is written behind it
pub record Kept : Type 0 where
  pub tok : Tok
  pub rest : List Tok

abbrev pub kept : Tok → List Tok → Kept
kept tok rest = record { tok = tok; rest = rest }

-- what a `#` stands for, and what is behind the token that belongs to it
abbrev pub hash_of : ℕ → Tok → List Tok → Answer Kept
hash_of args t [] = misfit t.at
hash_of args t (u ∷ ts) = do
  first ← hash_before args u.kind t.at
  Ok (kept first ts)

-- what the first token that is written stands for, and what is behind it
abbrev pub first_kept : ℕ → Tok → List Tok → Answer Kept
first_kept args t ts = if is_param t.kind then hash_of args t ts else (itself t.kind t >>= λ first. Ok (kept first ts))
