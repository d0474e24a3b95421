-- The measures of operations with options of their own.
use Rattle.std.specs.Prelude.{ℕ, if◌then◌else◌, Ok}
use Rattle.tk_characters.specs.Characters.{left_bracket}
use Rattle.tk_token.specs.Answers.{Answer, ◌>>=◌}
use Rattle.tk_token.specs.Kinds.{is_char}
use Rattle.tk_expand.specs.Reading.{is_there}
use Rattle.tk_keys.specs.Environment.{level}
use Rattle.tk_keys.specs.Given.{Given}
use Rattle.tk_outline.specs.declared.measures.Measures.{Measures}
use Rattle.tk_outline.specs.Measures.{measures_of}
use Rattle.tk_path.specs.Configurations.{Configuration, Reached, reached, Lookahead, place_ahead}
use Rattle.tk_path.specs.Keys.{with_env, put_back, option_list, with_keys}

module _ (given : Given) where
  -- the measures at the end of options in a level of their own, whose `[` was taken at that place
  unfoldable pub inner_measures : ℕ → Configuration → Answer (Reached Measures)
  inner_measures at c = do
    list ← option_list at c
    inside ← level at c.env
    end ← with_keys given at list.value (with_env inside list.behind)
    Ok (reached (measures_of end.env.graphics) (with_env c.env end))

  -- the measures of an operation that may have options of its own, where the first token behind its word was taken:
  -- those at the end of its options, or else those of the path
  unfoldable pub measures_from : Lookahead → Answer (Reached Measures)
  measures_from first =
      if is_there (is_char left_bracket) first.token
      then inner_measures (place_ahead first) first.behind
      else Ok (reached (measures_of first.behind.env.graphics) (put_back first.token first.behind))
