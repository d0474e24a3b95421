-- What stands next in a list: as it is written, or once no macro call is in front. Each of these takes the code of its
-- fault.
use Rattle.std.specs.Prelude.{ℕ, Bool, false, if◌then◌else◌, List, [], ◌∷◌, Option, Some, None, Ok}
use Rattle.tk_token.specs.declared.Code.{Code}
use Rattle.tk_token.specs.declared.Code.TheVariants.{Budget}
use Rattle.tk_token.specs.declared.Kind.{Kind}
use Rattle.tk_token.specs.declared.Tok.{Tok}
use Rattle.tk_token.specs.Answers.{Answer, ◌>>=◌, fault, or_fault}
use Rattle.tk_token.specs.Kinds.{is_char, is_space, is_open, is_close}
use Rattle.tk_token.specs.Recursion.{by_size}
use Rattle.tk_store.specs.Levels.{Macros}
use Rattle.tk_expand.specs.Unread.{Unread, unread, past_spaces}
use Rattle.tk_expand.specs.Expand.{Stream, with_rest, work, front}

-- ---- as it is written

-- what was read, and the list behind it
pub record Read (A : Type 0) : Type 0 where
  pub value : A
  pub list : Unread

-- that value, and that list
abbrev pub read : {A : Type 0} → A → Unread → Read A
read value list = record { value = value; list = list }

-- the first of those tokens; the fault stands where they run out
abbrev pub token_in : Code → ℕ → List Tok → Answer (Read Tok)
token_in code end [] = fault code end
token_in code end (t ∷ ts) = Ok (read t (unread ts end))

-- the next token, which has to be there
unfoldable pub next_token : Code → Unread → Answer (Read Tok)
next_token code list = token_in code list.end list.rest

-- the list behind the next token, which has to be such a one
unfoldable pub after_token : Code → (Kind → Bool) → Unread → Answer Unread
after_token code wanted list = do
  first ← next_token code list
  if wanted first.value.kind then Ok first.list else fault code first.value.at

-- the list behind the characters of a text, with nothing between them
unfoldable pub after_text : Code → List ℕ → Unread → Answer Unread
after_text code [] list = Ok list
after_text code (c ∷ cs) list = after_token code (is_char c) list >>= after_text code cs

-- the list behind a name in braces, before which Spaces may stand
unfoldable pub after_name : Code → List ℕ → Unread → Answer Unread
after_name code name list = do
  inside ← after_token code is_open (past_spaces list)
  behind ← after_text code name inside
  after_token code is_close behind

-- what the next token says, which has to say something
unfoldable pub token_value : {A : Type 0} → Code → (Kind → Option A) → Unread → Answer (Read A)
token_value code meaning list = do
  first ← next_token code list
  value ← or_fault (meaning first.value.kind) code first.value.at
  Ok (read value first.list)

-- ---- through expansion

-- the next token, if there is one, and the stream behind it
pub record Next : Type 0 where
  pub token : Option Tok
  pub stream : Stream

-- that token was taken, and that stream is left
abbrev pub taken : Option Tok → Stream → Next
taken token stream = record { token = token; stream = stream }

-- the first of the tokens of a stream is taken
abbrev pub first_taken : Stream → List Tok → Next
first_taken s [] = taken None s
first_taken s (t ∷ ts) = taken (Some t) (with_rest s ts)

-- such a token is there
abbrev pub is_there : (Kind → Bool) → Option Tok → Bool
is_there wanted None = false
is_there wanted (Some t) = wanted t.kind

-- where a token stands, or where the list runs out
abbrev pub place_of : ℕ → Option Tok → ℕ
place_of end None = end
place_of end (Some t) = t.at

module _ (budget : ℕ) (macros : Macros) where
  -- the next token
  unfoldable pub next : Stream → Answer Next
  next s = do
    ahead ← front budget macros s
    Ok (first_taken ahead ahead.list.rest)

  -- a Space is passed over; this is one step, over the meaning of what has less work left
  abbrev pub next_solid_step : (Stream → Answer Next) → Stream → Answer Next
  next_solid_step next_solid s = do
    n ← next s
    if is_there is_space n.token then next_solid n.stream else Ok n

  -- the next token that is no Space
  unfoldable pub next_solid : Stream → Answer Next
  next_solid = by_size (work budget) (fault Budget 0) next_solid_step
