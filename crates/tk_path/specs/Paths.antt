-- Paths.
use Rattle.std.specs.Prelude.{ℕ, Bool, false, if◌then◌else◌, List, Ok}
use Rattle.tk_characters.specs.Characters.{semicolon, left_bracket}
use Rattle.tk_token.specs.declared.Kind.{Kind}
use Rattle.tk_token.specs.declared.Code.TheVariants.{Budget}
use Rattle.tk_token.specs.Answers.{Answer, ◌>>=◌, fault}
use Rattle.tk_token.specs.Kinds.{is_char, is_open, is_close}
use Rattle.tk_token.specs.Recursion.{by_size}
use Rattle.tk_expand.specs.Reading.{is_there}
use Rattle.tk_keys.specs.Environment.{level}
use Rattle.tk_keys.specs.Given.{Given}
use Rattle.tk_path.specs.declared.path.PathOpener.{PathOpener}
use Rattle.tk_path.specs.declared.path.PathOpener.TheVariants as openers
use Rattle.tk_path.specs.declared.words.Words.TheVariants.{Operations}
use Rattle.tk_path.specs.Configurations.{Configuration, Lookahead, place_ahead, work_at, ahead_of}
use Rattle.tk_path.specs.Coordinates.{coordinate_from}
use Rattle.tk_outline.specs.CurrentPaths.{moved_to}
use Rattle.tk_path.specs.Flow.{Flow, Goes_on, Finishes, go_on}
use Rattle.tk_path.specs.Keys.{options, with_env}
use Rattle.tk_path.specs.Operations.{operation}
use Rattle.tk_path.specs.Pictures.{drawn}
use Rattle.tk_path.specs.Targets.{with_current, origin_of, goal_of}
use Rattle.tk_path.specs.Words.{begins_coordinate, word_from}

-- operations, up to the end of what they stand in: a path, to its `;`, or a path group, to its `}`
pub record Stretch : Type 0 where
  pub opener : PathOpener
  pub start : Configuration

-- those operations
abbrev pub stretch : PathOpener → Configuration → Stretch
stretch opener start = record { opener = opener; start = start }

-- what ends them
abbrev pub ends : PathOpener → Kind → Bool
ends openers.Path kind = is_char semicolon kind
ends openers.Group kind = is_close kind

-- what a part of a path leaves: more operations follow, or their end was met
abbrev pub PathFlow : Type 0
PathFlow = Flow Configuration Configuration

-- more operations follow
abbrev pub goes_on : Answer Configuration → Answer PathFlow
goes_on found = found >>= λ c. Ok (Goes_on c)

module _ (given : Given) where
  -- a coordinate moves the current point
  unfoldable pub movement : Lookahead → Answer Configuration
  movement first = do
    written ← coordinate_from given first
    to ← goal_of given written.value written.behind
    Ok (with_current (moved_to (origin_of to.behind.env) to.value to.behind.picture.path) to.behind)

  -- an operation that begins with a token which was taken
  unfoldable pub operation_from : Lookahead → Answer Configuration
  operation_from first = do
    word ← word_from given Operations first
    operation given word.value (place_ahead first) word.behind

  -- a part of a path but groups and ends, that begins with a token which was taken: options for the whole path and what
  -- follows on it, a coordinate, or an operation
  unfoldable pub plain_part : Lookahead → Answer Configuration
  plain_part first =
      if is_there (is_char left_bracket) first.token then options given (place_ahead first) first.behind
      else (if is_there begins_coordinate first.token then movement first
      else operation_from first)

  module _ (operations : Stretch → Answer Configuration) where
    -- a path group, whose `{` was taken at that place, in a level of its own
    unfoldable pub path_group : ℕ → Configuration → Answer Configuration
    path_group at c = do
      inside ← level at c.env
      end ← operations (stretch openers.Group (with_env inside c))
      Ok (with_env c.env end)

    -- a part of a path that begins with a token which was taken
    unfoldable pub part_from : PathOpener → Lookahead → Answer PathFlow
    part_from opener first =
        if is_there (ends opener) first.token then Ok (Finishes first.behind)
        else (if is_there is_open first.token then goes_on (path_group (place_ahead first) first.behind)
        else goes_on (plain_part first))

    -- one part, and the operations that follow it
    abbrev pub operations_step : Stretch → Answer Configuration
    operations_step s = do
      first ← ahead_of given s.start
      part ← part_from s.opener first
      go_on (λ next. operations (stretch s.opener next)) part

  -- the work that is left for operations
  abbrev pub stretch_work : Stretch → ℕ
  stretch_work s = work_at given s.start

  -- how far the run has come behind operations
  unfoldable pub operations : Stretch → Answer Configuration
  operations = by_size stretch_work (fault Budget 0) operations_step

  -- a path from behind what it begins with: its operations, and at its `;` it is there, with the look behind them
  unfoldable pub path : Configuration → Answer Configuration
  path c = do
    end ← operations (stretch openers.Path c)
    Ok (record end { picture = drawn end.env.graphics.look end.picture })
