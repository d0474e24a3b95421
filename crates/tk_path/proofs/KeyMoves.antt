-- How a run goes on along key lists, styles and options.
use Rattle.std.specs.Prelude.{ℕ, ◌+◌, is_some, List, length, Option, Some, None, Ok, IfSome, ◌<◌, codes}
use Rattle.std.proofs.Common.{arith}
use Rattle.tk_token.specs.declared.Code.TheVariants.{PathSyntax}
use Rattle.tk_token.specs.declared.Tok.{Tok}
use Rattle.tk_token.specs.Answers.{◌>>=◌, or_fault}
use Rattle.tk_token.specs.Groups.{Cut, before_char}
use Rattle.tk_token.specs.Kinds.{is_char}
use Rattle.tk_token.specs.Texts.{tokens_of}
use Rattle.tk_token.proofs.Outside.{before_char_keeps, before_char_shorter}
use Rattle.tk_characters.specs.Characters.{left_bracket, right_bracket}
use Rattle.tk_expand.specs.Reading.{is_there}
use Rattle.tk_expand.specs.Unread.{unread}
use Rattle.tk_expand.proofs.Going.{Going, then_going, if_going, gives}
use Rattle.tk_expand.proofs.Places.{StandAt, CutAt}
use Rattle.tk_keys.specs.Environment.{tikz_path}
use Rattle.tk_keys.specs.Given.{Given}
use Rattle.tk_keys.specs.Keys.{run_at}
use Rattle.tk_keys.specs.Settings.{A_key_list, runs}
use Rattle.tk_keys.proofs.DeedPlaces.{EvaluatesAt}
use Rattle.tk_keys.proofs.Entries.{text_stands}
use Rattle.tk_keys.proofs.Ran.{runs_at}
use Rattle.tk_path.specs.Configurations.{Configuration, situation_at, reached, Lookahead, lookahead, place_ahead}
use Rattle.tk_path.specs.Keys.{with_list, put_back, option_list, with_keys, with_style, options, options_from, options_ahead, with_style_and_options}
use Rattle.tk_path.proofs.Places.{Here, HereWith, Taken, passed, place_taken, solid_here}

module _ (P : ℕ → Type 0) (given : Given) (begin : P 0) (values : EvaluatesAt P given) (from : Configuration) where
  pub keys_here : (gone at : ℕ) (list : List Tok) (c : Configuration) → P at → StandAt P list → Here P given from gone c
      → Going P (Here P given from gone) (with_keys given at list c)
  unfolding with_keys
  keys_here gone at list c p k h =
      let job = A_key_list (situation_at c) (codes "/tikz") list at in
      then_going P {m = runs given job} (record { stands = runs_at P given values begin job (h.good.env, (k, p)) }) (λ after l.
      gives P _ (record {
        end = h.end;
        units = (let a = l.units in let b = h.units in omega arith);
        work = (let a = l.units in let b = h.work in omega arith);
        good = record { env = l.env; drawn = h.good.drawn; rest = h.good.rest; end = h.good.end };
      }))

  pub style_here : (gone at : ℕ) (name : List ℕ) (c : Configuration) → P at → Here P given from gone c
      → Going P (Here P given from gone) (with_style given at name c)
  unfolding with_style
  style_here gone at name c p h =
      if_going P (is_some (run_at c.env (tikz_path name))) (keys_here gone at (tokens_of at name) c p (text_stands P at name p) h) (gives P c h)

  -- a key list in brackets, and what is behind it
  pub list_here : (gone at : ℕ) (c : Configuration) → P at → Here P given from gone c
      → Going P (HereWith P given from (StandAt P) gone) (option_list at c)
  unfolding option_list
  list_here gone at c p h = by (before_char right_bracket c.list.rest) (before_char_keeps (λ (t : Tok). P t.at) right_bracket c.list.rest h.good.rest)
      (before_char_shorter right_bracket c.list.rest)
    where
      by : (o : Option Cut) → IfSome o (CutAt P) → IfSome o (λ w. length w.front + length w.rest < length c.list.rest)
          → Going P (HereWith P given from (StandAt P) gone) (or_fault o PathSyntax at
          >>= λ list. Ok (reached list.front (with_list c (unread list.rest c.list.end))))
      by None k s = record { stands = p }
      by (Some list) k s = gives P _ (
        k.0,
        record {
          end = h.end;
          units = h.units;
          work = (let a = h.work in omega arith);
          good = record { env = h.good.env; drawn = h.good.drawn; rest = k.1; end = h.good.end };
        },
      )

  pub options_here : (gone at : ℕ) (c : Configuration) → P at → Here P given from gone c → Going P (Here P given from gone) (options given at c)
  unfolding options
  options_here gone at c p h =
      then_going P (list_here gone at c p h) (λ list k. keys_here gone at list.value list.behind p k.0 k.1)

  pub put_back_here : (gone : ℕ) (token : Option Tok) (d : Configuration) → Taken P given from gone (lookahead token d)
      → Here P given from gone (put_back token d)
  put_back_here gone None d k = passed P given from gone (lookahead None d) k
  put_back_here gone (Some t) d k = record {
    end = k.here.end;
    units = k.here.units;
    work = (let a = k.here.work in omega arith);
    good = record { env = k.here.good.env; drawn = k.here.good.drawn; rest = (k.token, k.here.good.rest); end = k.here.good.end };
  }

  from_here : (gone : ℕ) (first : Lookahead) → Taken P given from gone first → Going P (Here P given from gone) (options_from given first)
  unfolding options_from
  from_here gone first k =
      if_going P (is_there (is_char left_bracket) first.token)
      (options_here gone (place_ahead first) first.behind (place_taken P given from gone first k) (passed P given from gone first k))
      (gives P _ (put_back_here gone first.token first.behind k))

  pub options_ahead_here : (gone : ℕ) (c : Configuration) → Here P given from gone c → Going P (Here P given from gone) (options_ahead given c)
  unfolding options_ahead
  options_ahead_here gone c h = then_going P (solid_here P given from gone c h) (λ first k. from_here gone first k)

  pub styled_here : (gone at : ℕ) (name : List ℕ) (c : Configuration) → P at → Here P given from gone c
      → Going P (Here P given from gone) (with_style_and_options given at name c)
  unfolding with_style_and_options
  styled_here gone at name c p h = then_going P (style_here gone at name c p h) (λ d k. options_ahead_here gone d k)
