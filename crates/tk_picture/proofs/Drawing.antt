-- Paths and documents from their parts, as the code reads them.
use Rattle.std.proofs.Common.{◌≡◌, ℕ, Bool, true, if◌then◌else◌, List, Ok, subst, ap, sym, ◌∙◌, codes}
use Rattle.tk_token.specs.declared.Code.TheVariants.{Unbuilt}
use Rattle.tk_token.specs.Answers.{Answer, ◌>>=◌, fault}
use Rattle.tk_token.specs.Spaces.{after_spaces}
use Rattle.tk_token.proofs.Answering.{then_is, fails_then, fails_as}
use Rattle.tk_expand.specs.Reading.{after_name}
use Rattle.tk_expand.specs.Unread.{Unread}
use Rattle.tk_keys.specs.Environment.{Env, first_env, level}
use Rattle.tk_keys.specs.Given.{Given}
use Rattle.tk_picture.specs.declared.Compiled.{Compiled}
use Rattle.tk_picture.specs.Commands.{A_picture, styled_commands, commands}
use Rattle.tk_path.specs.Keys.{with_keys, with_style}
use Rattle.tk_path.specs.Configurations.{Configuration}
use Rattle.tk_picture.specs.Progress.{Progress}
use Rattle.tk_picture.specs.Documents.{compiled, first_configuration, nothing_after, picture_behind}
use Rattle.tk_token.specs.declared.Refusal.{Refusal}
use Rattle.tk_token.specs.Refusals.{Fails}
use Rattle.tk_token.specs.Texts.{tokens_of}
use Rattle.tk_picture.specs.Beginnings.{plain, path_begun}
use Rattle.tk_path.specs.Pictures.{Picture, first_picture}

-- where the run stands with that picture, and with those units paid
abbrev run_at : Env → Unread → Picture → ℕ → Configuration
run_at env list pic units = record { env = env; picture = pic; list = list; units = units }

-- it is at its beginning where nothing is drawn or paid
pub first_is : (env : Env) (list : Unread) (pic : Picture) (units : ℕ) → pic ≡ first_picture → units ≡ 0
    → run_at env list pic units ≡ first_configuration env list
first_is env list pic units p u = ap (λ (pic : Picture). run_at env list pic units) p ∙ ap (run_at env list first_picture) u

module _ (given now : Given) (at : ℕ) (list inside : Unread) (new env : Env) (start : Configuration) (same : now ≡ given) (first : new ≡ first_env given)
    (none : start ≡ first_configuration env inside) (name : after_name Unbuilt (codes "tikzpicture") list ≡ Ok inside) (within : level at new ≡ Ok env) where
  -- the commands of a picture
  abbrev inner : Given → Configuration → Answer Progress
  inner g c = styled_commands g (commands g) (codes "every picture") (A_picture at) c

  -- what stands behind them
  abbrev last : Progress → Answer Compiled
  last q = nothing_after (compiled q.picture q.units) (after_spaces q.list.rest)

  picture_starts : picture_behind given at list ≡ (inner given (first_configuration env inside) >>= last)
  unfolding picture_behind
  picture_starts =
      then_is (after_name Unbuilt (codes "tikzpicture") list) (λ u. level at (first_env given) >>= λ e. inner given (first_configuration e u)
      >>= last) inside name
      ∙ then_is (level at (first_env given)) (λ e. inner given (first_configuration e inside) >>= last) env
      (ap (level at) (sym first) ∙ within)

  same_start : (r : Answer Progress) → inner now start ≡ r → inner given (first_configuration env inside) ≡ r
  same_start r h = ap (inner given) (sym none)
      ∙ ap (λ (g : Given). inner g start) (sym same) ∙ h

  -- a picture whose commands fail
  pub picture_fails : (e : Refusal) → Fails e (inner now start) → Fails e (picture_behind given at list)
  picture_fails e h = fails_as e _ _ picture_starts (fails_then e (inner given (first_configuration env inside)) last
      (subst (Fails e) (sym (same_start (inner now start) (λ _. inner now start))) h))

  -- a picture with what stands behind it
  pub picture_ends : (p : Progress) → inner now start ≡ Ok p
      → picture_behind given at list ≡ nothing_after (compiled p.picture p.units) (after_spaces p.list.rest)
  picture_ends p done = picture_starts ∙ then_is (inner given (first_configuration env inside)) last p (same_start (Ok p) done)

module _ (given now : Given) (keys : List ℕ) (at : ℕ) (c d : Configuration) (same : now ≡ given) (is : d ≡ plain c) where
  -- a path whose style fails
  pub style_fails : (e : Refusal) → Fails e (with_style now at (codes "every path") d) → Fails e (path_begun given keys at c)
  unfolding path_begun
  style_fails e h =
      fails_then e (with_style given at (codes "every path") (plain c)) _
      (subst (λ (d : Configuration). Fails e (with_style given at (codes "every path") d)) is
      (subst (λ (g : Given). Fails e (with_style g at (codes "every path") d)) same h))

  -- a path behind its style
  pub style_goes : (later : Given) (begun : Configuration) → later ≡ given → with_style now at (codes "every path") d ≡ Ok begun
      → path_begun given keys at c ≡ with_keys later at (tokens_of at keys) begun
  unfolding path_begun
  style_goes later begun so done =
      then_is (with_style given at (codes "every path") (plain c)) (λ s. with_keys given at (tokens_of at keys) s) begun
      (ap (λ (d : Configuration). with_style given at (codes "every path") d) (sym is)
      ∙ ap (λ (g : Given). with_style g at (codes "every path") d) (sym same)
      ∙ done)
      ∙ ap (λ (g : Given). with_keys g at (tokens_of at keys) begun) (sym so)
