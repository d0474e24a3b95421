-- Options that may stand next, and options in a level of their own, as the code runs them.
use Rattle.std.specs.Prelude.{◌≡◌, ℕ, List, Ok}
use Rattle.std.proofs.Common.{subst, sym, ap, ◌∙◌}
use Rattle.tk_token.specs.declared.Refusal.{Refusal}
use Rattle.tk_token.specs.declared.Tok.{Tok}
use Rattle.tk_token.specs.declared.Code.TheVariants.{PathSyntax}
use Rattle.tk_token.specs.Answers.{Answer, ◌>>=◌, or_fault}
use Rattle.tk_token.specs.Groups.{cut, before_char}
use Rattle.tk_characters.specs.Characters.{right_bracket}
use Rattle.tk_expand.specs.Unread.{unread}
use Rattle.tk_token.specs.Refusals.{Fails}
use Rattle.tk_token.proofs.Answering.{then_is, fails_then, fails_as}
use Rattle.tk_keys.specs.Environment.{Env, level}
use Rattle.tk_keys.specs.Given.{Given}
use Rattle.tk_outline.specs.declared.measures.Measures.{Measures}
use Rattle.tk_path.specs.Configurations.{Configuration, Reached, reached, Lookahead, ahead_of}
use Rattle.tk_path.specs.Keys.{with_env, with_list, option_list, with_keys, options_from, options_ahead}
use Rattle.tk_path.specs.Measures.{inner_measures}
use Rattle.tk_outline.specs.Measures.{measures_of}

-- options that may stand next, once the token in front was taken
pub ahead_goes : (given : Given) (c : Configuration) (first : Lookahead) → ahead_of given c ≡ Ok first
    → options_ahead given c ≡ options_from given first
unfolding options_ahead
ahead_goes given c first e = then_is (ahead_of given c) (options_from given) first e

-- a key list that was read
pub list_read : (at : ℕ) (c : Configuration) (front rest : List Tok)
    → or_fault (before_char right_bracket c.list.rest) PathSyntax at ≡ Ok (cut front rest)
    → option_list at c ≡ Ok (reached front (with_list c (unread rest c.list.end)))
unfolding option_list
list_read at c front rest e = then_is (or_fault (before_char right_bracket c.list.rest) PathSyntax at) _ (cut front rest) e

module _ (given now : Given) (at : ℕ) (c d : Configuration) (list : Reached (List Tok)) (inside : Env) (same : now ≡ given) (read : option_list at c
    ≡ Ok list) (within : level at c.env ≡ Ok inside) (is : d ≡ with_env inside list.behind) where
  -- the measures at the end of options
  abbrev end_of : Configuration → Answer (Reached Measures)
  end_of e = Ok (reached (measures_of e.env.graphics) (with_env c.env e))

  inner_goes : inner_measures given at c ≡ (with_keys given at list.value (with_env inside list.behind) >>= end_of)
  unfolding inner_measures
  inner_goes =
      then_is (option_list at c) (λ (l : Reached (List Tok)). level at c.env >>= λ i. with_keys given at l.value (with_env i l.behind)
      >>= end_of) list read
      ∙ then_is (level at c.env) (λ (i : Env). with_keys given at list.value (with_env i list.behind) >>= end_of) inside within

  pub inner_fails : (e : Refusal) → Fails e (with_keys now at list.value d) → Fails e (inner_measures given at c)
  inner_fails e h =
      fails_as e _ _ inner_goes (fails_then e (with_keys given at list.value (with_env inside list.behind)) end_of
      (subst (λ (d : Configuration). Fails e (with_keys given at list.value d)) is (subst (λ (g : Given). Fails e (with_keys g at list.value d)) same
      h)))

  pub inner_ends : (e : Configuration) → with_keys now at list.value d ≡ Ok e
      → inner_measures given at c ≡ Ok (reached (measures_of e.env.graphics) (with_env c.env e))
  inner_ends e h =
      inner_goes ∙ then_is (with_keys given at list.value (with_env inside list.behind)) end_of e
      (ap (with_keys given at list.value) (sym is) ∙ ap (λ (g : Given). with_keys g at list.value d) (sym same) ∙ h)
