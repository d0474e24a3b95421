-- Key lists in pictures, and styles that run by themselves.
use Rattle.std.specs.Prelude.{ℕ, is_some, if◌then◌else◌, List, ◌∷◌, Option, Some, None, Ok, codes}
use Rattle.tk_token.specs.declared.Code.TheVariants.{PathSyntax}
use Rattle.tk_token.specs.declared.Tok.{Tok}
use Rattle.tk_token.specs.Answers.{Answer, ◌>>=◌, or_fault}
use Rattle.tk_token.specs.Groups.{before_char}
use Rattle.tk_token.specs.Kinds.{is_char}
use Rattle.tk_token.specs.Texts.{tokens_of}
use Rattle.tk_characters.specs.Characters.{left_bracket, right_bracket}
use Rattle.tk_expand.specs.Reading.{is_there}
use Rattle.tk_expand.specs.Unread.{Unread, unread}
use Rattle.tk_keys.specs.Environment.{Env, tikz_path}
use Rattle.tk_keys.specs.Given.{Given}
use Rattle.tk_keys.specs.Keys.{run_at}
use Rattle.tk_keys.specs.Settings.{A_key_list, runs}
use Rattle.tk_path.specs.Configurations.{Configuration, situation_at, Reached, reached, Lookahead}
use Rattle.tk_path.specs.Configurations.{place_ahead, ahead_of}

-- the run goes on with another list
abbrev pub with_list : Configuration → Unread → Configuration
with_list c list = record c { list = list }

-- the run goes on with what words and keys mean
abbrev pub with_env : Env → Configuration → Configuration
with_env env c = record c { env = env }

-- a token that was taken stands in front again
abbrev pub put_back : Option Tok → Configuration → Configuration
put_back None c = c
put_back (Some t) c = with_list c (unread (t ∷ c.list.rest) c.list.end)

-- the key list of options whose `[` was taken at that place: it ends at the first `]` outside braces
unfoldable pub option_list : ℕ → Configuration → Answer (Reached (List Tok))
option_list at c = do
  list ← or_fault (before_char right_bracket c.list.rest) PathSyntax at
  Ok (reached list.front (with_list c (unread list.rest c.list.end)))

module _ (given : Given) where
  -- a key list, whose command stands at a place; it begins at /tikz
  unfoldable pub with_keys : ℕ → List Tok → Configuration → Answer Configuration
  with_keys at list c = do
    after ← runs given (A_key_list (situation_at c) (codes "/tikz") list at)
    Ok (record c { env = after.now.env; units = after.now.units })

  -- a style that runs by itself at a place, where it has a run
  unfoldable pub with_style : ℕ → List ℕ → Configuration → Answer Configuration
  with_style at name c =
      if is_some (run_at c.env (tikz_path name)) then with_keys at (tokens_of at name) c else Ok c

  -- options, whose `[` was taken at that place
  unfoldable pub options : ℕ → Configuration → Answer Configuration
  options at c = do
    list ← option_list at c
    with_keys at list.value list.behind

  -- options that begin with a token which was taken, or none
  unfoldable pub options_from : Lookahead → Answer Configuration
  options_from first =
      if is_there (is_char left_bracket) first.token
      then options (place_ahead first) first.behind
      else Ok (put_back first.token first.behind)

  -- options that may stand next; Spaces before them are passed over
  unfoldable pub options_ahead : Configuration → Answer Configuration
  options_ahead c = do
    first ← ahead_of given c
    options_from first

  -- what a picture or a scope begins with, whose command stands at a place: a style, and options
  unfoldable pub with_style_and_options : ℕ → List ℕ → Configuration → Answer Configuration
  with_style_and_options at name c = do
    begun ← with_style at name c
    options_ahead begun
