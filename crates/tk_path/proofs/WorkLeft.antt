-- Parts of a path leave no more work than was there.
use Rattle.std.specs.Prelude.{◌≡◌, ℕ, ◌+◌, ◌-◌, ◌≤◌, length, List, Option, Some, None, Result, Ok, Err, IfOk, OnOk}
use Rattle.std.specs.Option.{option_to_list}
use Rattle.std.proofs.Common.{refl, ap, arith}
use Rattle.tk_coord.specs.declared.CornerSign.{CornerSign}
use Rattle.tk_token.specs.declared.Refusal.{Refusal}
use Rattle.tk_token.specs.declared.Tok.{Tok}
use Rattle.tk_token.specs.Answers.{Answer}
use Rattle.tk_token.specs.Refusals.{Gives}
use Rattle.tk_token.proofs.Answering.{known_of}
use Rattle.tk_expand.specs.Reading.{taken, next_solid}
use Rattle.tk_expand.specs.Unread.{Unread}
use Rattle.tk_expand.proofs.Falling.{Takes, next_solid_takes}
use Rattle.tk_expand.proofs.Going.{Going}
use Rattle.tk_expand.proofs.Places.{StandAt}
use Rattle.tk_keys.specs.Given.{Given}
use Rattle.tk_keys.specs.State.{State, env_of, stream_of, Pays}
use Rattle.tk_keys.proofs.Ran.{Any, any_evaluates}
use Rattle.tk_keys.proofs.Standing.{ok_at}
use Rattle.tk_path.specs.declared.drawer.Drawer.{Drawer}
use Rattle.tk_path.specs.declared.words.PathWord.{PathWord}
use Rattle.tk_path.specs.declared.words.Words.{Words}
use Rattle.tk_outline.specs.declared.measures.Measures.{Measures}
use Rattle.tk_path.specs.Configurations.{Configuration, Reached, lookahead, work_at}
use Rattle.tk_outline.specs.CurrentPaths.{CurrentPath}
use Rattle.tk_path.specs.Keys.{put_back}
use Rattle.tk_path.specs.Operations.{Straight, Cornered, goes, curve, rectangle, grid_by, text_behind}
use Rattle.tk_path.specs.Paths.{movement}
use Rattle.tk_path.specs.Undoing.{work_left}
use Rattle.tk_path.specs.Views.{given_to, configuration_of, OnlyPays}
use Rattle.tk_path.specs.Words.{word_from}
use Rattle.tk_path.proofs.Kept.{settings_paid}
use Rattle.tk_path.proofs.Places.{Here, HereWith, Taken, AnyValue}
use Rattle.tk_path.proofs.Unbounded.{any_at, any_here}
use Rattle.tk_path.proofs.OperationMoves.{goes_here, curve_here, rectangle_here, text_here, grid_by_here}
use Rattle.tk_path.proofs.PathMoves.{movement_here}
use Rattle.tk_path.proofs.WordMoves.{word_from_here}

module _ (given : Given) where
  known_left : (c : Configuration) (gone : ℕ) (m : Answer Configuration) (d : Configuration) → m ≡ Ok d
      → Going Any (Here Any given c gone) m → work_at given d ≤ work_at given c
  known_left c gone m d e h =
      let k = known_of (Here Any given c gone) m d e (ok_at Any (Here Any given c gone) m h.stands) in
      let w = k.work in omega arith

  read_left : {A : Type 0} (c : Configuration) (gone : ℕ) (m : Answer (Reached A)) (r : Reached A) → m ≡ Ok r
      → Going Any (HereWith Any given c AnyValue gone) m → work_at given r.behind ≤ work_at given c
  read_left c gone m r e h =
      let k = known_of (HereWith Any given c AnyValue gone) m r e (ok_at Any (HereWith Any given c AnyValue gone) m h.stands) in
      let w = k.1.work in omega arith

  pub line_left : (c d : Configuration) → goes given Straight c ≡ Ok d → work_at given d ≤ work_at given c
  line_left c d e =
      known_left c 0 (goes given Straight c) d e (goes_here Any given tt (any_evaluates given) c 0 Straight c tt (any_here given c))

  pub corner_left : (sign : CornerSign) (at : ℕ) (c d : Configuration) → goes given (Cornered sign at) c ≡ Ok d → work_at given d ≤ work_at given c
  corner_left sign at c d e =
      known_left c 0 (goes given (Cornered sign at) c) d e (goes_here Any given tt (any_evaluates given) c 0 (Cornered sign at) c tt (any_here given c))

  pub curve_left : (c d : Configuration) → curve given c ≡ Ok d → work_at given d ≤ work_at given c
  curve_left c d e = known_left c 0 (curve given c) d e (curve_here Any given tt (any_evaluates given) c 0 c (any_here given c))

  pub rectangle_left : (at : ℕ) (c d : Configuration) → rectangle given at c ≡ Ok d → work_at given d ≤ work_at given c
  rectangle_left at c d e =
      known_left c 0 (rectangle given at c) d e (rectangle_here Any given tt (any_evaluates given) c 0 at c tt (any_here given c))

  pub grid_left : (at : ℕ) (m : Measures) (c d : Configuration) → grid_by given at m c ≡ Ok d → work_at given d ≤ work_at given c
  grid_left at m c d e =
      known_left c 0 (grid_by given at m c) d e (grid_by_here Any given tt (any_evaluates given) c 0 at m c tt (any_here given c))

  pub text_left : (at : ℕ) (c : Configuration) (r : Reached (List Tok)) → text_behind given at c ≡ Ok r → work_at given r.behind ≤ work_at given c
  text_left at c r e =
      let m = text_behind given at c in
      let h = text_here Any given tt (any_evaluates given) c 0 at c tt (any_here given c) in
      let k = known_of (HereWith Any given c (StandAt Any) 0) m r e (ok_at Any (HereWith Any given c (StandAt Any) 0) m h.stands) in
      let w = k.1.work in omega arith

  -- ---- behind a token that was taken

  taken_again : (token : Option Tok) (d : Configuration) → Taken Any given (put_back token d) 0 (lookahead token d)
  taken_again None d = record { token = tt; here = any_here given d }
  taken_again (Some t) d = record {
    token = tt;
    here = record { end = refl; units = omega arith; work = omega arith; good = any_at given d };
  }

  -- the work with that token
  work_again : (token : Option Tok) (d : Configuration)
      → work_at given (put_back token d) ≤ work_at given d + length (option_to_list token)
  work_again None d = omega arith
  work_again (Some t) d = omega arith

  pub movement_left : (token : Option Tok) (c d : Configuration) → movement given (lookahead token c) ≡ Ok d
      → work_at given d ≤ work_at given c + length (option_to_list token)
  movement_left token c d e =
      let w = known_left (put_back token c) 1 (movement given (lookahead token c)) d e (movement_here Any given tt (any_evaluates given)
      (put_back token c) 0 (lookahead token c) (taken_again token c)) in
      omega (arith, w, work_again token c)

  pub word_left : (words : Words) (token : Option Tok) (c : Configuration) (r : Reached PathWord)
      → word_from given words (lookahead token c) ≡ Ok r → work_at given r.behind ≤ work_at given c + length (option_to_list token)
  word_left words token c r e =
      let w = read_left (put_back token c) 1 (word_from given words (lookahead token c)) r e (word_from_here Any given
      (put_back token c) 0 words (lookahead token c) (taken_again token c)) in
      omega (arith, w, work_again token c)

-- the next token is gone from the work
pub solid_falls : (old new : State) (list left : Unread) (result : Result (Option Tok) Refusal)
    → Gives (λ tok. taken tok (stream_of new left)) result (next_solid old.budget (env_of old).macros (stream_of old list)) → Pays old new
    → IfOk result (λ tok. (new.budget - new.units) + (length (option_to_list tok) + length left.rest) ≤ (old.budget - old.units) + length list.rest)
solid_falls old new list left (Ok tok) h pays =
    let k = known_of (Takes old.budget (stream_of old list)) (next_solid old.budget (env_of old).macros (stream_of old list))
    (taken tok (stream_of new left)) h (next_solid_takes old.budget (env_of old).macros (stream_of old list)) in
    let w = k.work_falls in
    omega (arith, w, ap (λ (s : State). s.budget) pays)
solid_falls old new list left (Err e) h pays = tt

-- a part of a path that only pays leaves so much work, and no setting more
pub only_falls : {A : Type 0} (old new : Drawer) (path : CurrentPath) (left : Unread) (result : Result A Refusal) (m : Answer Configuration) (most : ℕ)
    → ((d : Configuration) → m ≡ Ok d → work_at (given_to old) d ≤ most) → Gives (λ _. configuration_of new path left) result m
    → OnOk result (OnlyPays old new)
    → OnOk result ((work_left new (length left.rest) ≤ most) × (new.state.levels.top.settings ≡ old.state.levels.top.settings))
only_falls old new path left (Ok a) m most falls h pays =
    let w = falls (configuration_of new path left) h in
    (omega (arith, w, ap (λ (d : Drawer). d.state.budget) pays), settings_paid old new pays)
only_falls old new path left (Err e) m most falls h pays = tt
