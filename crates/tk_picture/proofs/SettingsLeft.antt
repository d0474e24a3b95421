-- A setting leaves no more than was there, and the key lists of commands are short.
use Rattle.std.specs.Prelude.{◌≡◌, ℕ, ◌≤◌, Bool, true, false, List, length, Some, Ok, IfSome, codes}
use Rattle.std.proofs.Common.{refl, arith}
use Rattle.tk_token.specs.declared.Tok.{Tok}
use Rattle.std.specs.Str.{chars}
use Rattle.tk_token.specs.Groups.{first_outside_in}
use Rattle.tk_token.specs.Spaces.{before_spaces}
use Rattle.tk_token.specs.Recursion.{by_size, within}
use Rattle.tk_token.specs.Texts.{tokens_of}
use Rattle.tk_token.proofs.Answering.{known_of}
use Rattle.tk_expand.specs.Unread.{Unread}
use Rattle.tk_keytext.specs.Parts.{parts_of}
use Rattle.tk_keys.specs.Environment.{Situation}
use Rattle.tk_keys.specs.Given.{Given}
use Rattle.tk_expr.specs.Evaluated.{evaluated}
use Rattle.tk_keys.specs.Settings.{Set, one_setting}
use Rattle.tk_keys.specs.State.{State, given_of, situation_of, set_of, behind_set}
use Rattle.tk_keys.proofs.Ran.{Any, any_list, any_env, any_evaluates, one_setting_at}
use Rattle.tk_keys.proofs.Sets.{SetAt}
use Rattle.tk_keys.proofs.Standing.{ok_at}
use Rattle.tk_picture.specs.Views.{RunsFew}

pub set_left : (given : Given) (t : Tok) (s : Situation) (list : Unread) (set : Set) → one_setting given t s list ≡ Ok (Some set)
    → (s.units ≤ set.now.units) × (length set.list.rest ≤ length list.rest)
set_left given t s list set e =
    let k = known_of (λ made. IfSome made (SetAt Any s list)) (one_setting given t s list) (Some set) e (ok_at Any
    (λ made. IfSome made (SetAt Any s list)) (one_setting given t s list) (one_setting_at Any given (any_evaluates given) tt t s list tt
    (any_env s.env) (record { rest = any_list list.rest; end = tt }))) in
    (k.now.units, k.list.short)

pub none_few : RunsFew (codes "")
unfolding chars parts_of by_size within first_outside_in before_spaces
none_few at = (let n : length (parts_of (tokens_of at (codes ""))) ≡ 0 = refl in omega (arith, n))

pub draw_few : RunsFew (codes "draw")
unfolding chars parts_of by_size within first_outside_in before_spaces
draw_few at = (let n : length (parts_of (tokens_of at (codes "draw"))) ≡ 1 = refl in omega (arith, n))

pub fill_few : RunsFew (codes "fill")
unfolding chars parts_of by_size within first_outside_in before_spaces
fill_few at = (let n : length (parts_of (tokens_of at (codes "fill"))) ≡ 1 = refl in omega (arith, n))

pub both_few : RunsFew (codes "draw,fill")
unfolding chars parts_of by_size within first_outside_in before_spaces
both_few at = (let n : length (parts_of (tokens_of at (codes "draw,fill"))) ≡ 2 = refl in omega (arith, n))

-- the same as the code runs it, also where no setting begins
pub set_falls : (old new : State) (t : Tok) (list left : Unread) (is_set : Bool)
    → one_setting (given_of evaluated old) t (situation_of old) list ≡ Ok (set_of is_set new left)
    → (is_set ≡ true) → (old.units ≤ new.units) × (length left.rest ≤ length list.rest)
set_falls old new t list left true e is = set_left (given_of evaluated old) t (situation_of old) list (behind_set new left) e
set_falls old new t list left false e is = absurd cc
