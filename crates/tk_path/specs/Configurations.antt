-- How far a run has come in a picture.
use Rattle.std.specs.Prelude.{ℕ, Bool, if◌then◌else◌, List, Option, Ok}
use Rattle.tk_token.specs.declared.Kind.{Kind}
use Rattle.tk_token.specs.declared.Tok.{Tok}
use Rattle.tk_token.specs.declared.Code.TheVariants.{PathSyntax}
use Rattle.tk_token.specs.Answers.{Answer, ◌>>=◌, fault}
use Rattle.tk_expand.specs.Unread.{Unread}
use Rattle.tk_expand.specs.Expand.{Stream, stream, work}
use Rattle.tk_expand.specs.Reading.{is_there, place_of, next, next_solid}
use Rattle.tk_keys.specs.Environment.{Env, Situation}
use Rattle.tk_keys.specs.Given.{Given}
use Rattle.tk_path.specs.Pictures.{Picture}

-- what words and keys mean, the picture so far, the list that is left, and the units paid so far
pub record Configuration : Type 0 where
  pub env : Env
  pub picture : Picture
  pub list : Unread
  pub units : ℕ

-- ---- the list

-- the units paid so far, and the list that is left
abbrev pub stream_at : Configuration → Stream
stream_at c = stream c.units c.list

-- what words and keys mean, and the units paid so far
abbrev pub situation_at : Configuration → Situation
situation_at c = record { env = c.env; units = c.units }

-- the run goes on with that stream
abbrev pub with_stream : Configuration → Stream → Configuration
with_stream c s = record c { list = s.list; units = s.units }

-- a token that was taken, if there was one, and how far the run has come behind it
pub record Lookahead : Type 0 where
  pub token : Option Tok
  pub behind : Configuration

-- that token, and that configuration
abbrev pub lookahead : Option Tok → Configuration → Lookahead
lookahead token behind = record { token = token; behind = behind }

-- where the token stands, or where the list runs out
abbrev pub place_ahead : Lookahead → ℕ
place_ahead ahead = place_of ahead.behind.list.end ahead.token

-- what was read, and how far the run has come behind it
pub record Reached (A : Type 0) : Type 0 where
  pub value : A
  pub behind : Configuration

-- that value, and that configuration
abbrev pub reached : {A : Type 0} → A → Configuration → Reached A
reached value behind = record { value = value; behind = behind }

-- what is behind the token, which has to be such a one
unfoldable pub must_be : (Kind → Bool) → Lookahead → Answer Configuration
must_be wanted ahead = if is_there wanted ahead.token then Ok ahead.behind else fault PathSyntax (place_ahead ahead)

module _ (given : Given) where
  -- the work that is left
  abbrev pub work_at : Configuration → ℕ
  work_at c = work given.budget (stream_at c)

  -- the next token
  unfoldable pub token_ahead : Configuration → Answer Lookahead
  token_ahead c = do
    first ← next given.budget c.env.macros (stream_at c)
    Ok (lookahead first.token (with_stream c first.stream))

  -- the next token that is no Space
  unfoldable pub ahead_of : Configuration → Answer Lookahead
  ahead_of c = do
    first ← next_solid given.budget c.env.macros (stream_at c)
    Ok (lookahead first.token (with_stream c first.stream))
