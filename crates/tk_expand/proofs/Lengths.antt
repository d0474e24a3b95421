-- How long arguments are, and what stands behind them.
use Rattle.std.specs.Prelude.{ℕ, zero, suc, ◌+◌, ◌≤◌, ◌<◌, List, [], ◌∷◌, length, Option, Some, None, IfSome, IfOk}
use Rattle.std.specs.List.{prefix_len}
use Rattle.std.proofs.Common.{arith, length-drop}
use Rattle.tk_token.specs.declared.Kind.{Kind}
use Rattle.tk_token.specs.declared.Kind.TheVariants.{Char, Word, Symbol, Open, Close, Param, Arg, Space}
use Rattle.tk_token.specs.declared.Tok.{Tok}
use Rattle.tk_token.specs.declared.Code.TheVariants.{MacroArg}
use Rattle.tk_token.specs.Answers.{or_fault}
use Rattle.tk_token.specs.Groups.{Cut, group_of}
use Rattle.tk_token.specs.Spaces.{is_space_token, after_spaces}
use Rattle.tk_token.proofs.Answering.{then_holds, or_fault_holds}
use Rattle.tk_token.proofs.Outside.{group_shorter}
use Rattle.tk_store.specs.declared.Macro.{Macro}
use Rattle.tk_expand.specs.Arguments.{argument_from, argument_in, argument_of, Arguments, arguments_of, call_text}

-- the front and the rest are no more tokens than were there
abbrev pub IsNoLonger : List Tok → Cut → Type 0
IsNoLonger ts c = length c.front + length c.rest ≤ length ts

no_longer_than_longer : (ts us : List Tok) (c : Option Cut) → length ts ≤ length us → IfSome c (IsNoLonger ts) → IfSome c (IsNoLonger us)
no_longer_than_longer ts us None le h = tt
no_longer_than_longer ts us (Some c) le h = omega arith

argument_from_no_longer : (k : Kind) (t : Tok) (ts : List Tok) → IfSome (argument_from k t ts) (IsNoLonger (t ∷ ts))
argument_from_no_longer (Char c) t ts = omega arith
argument_from_no_longer (Word w) t ts = omega arith
argument_from_no_longer (Symbol c) t ts = omega arith
argument_from_no_longer Param t ts = omega arith
argument_from_no_longer (Arg n) t ts = omega arith
argument_from_no_longer Space t ts = omega arith
argument_from_no_longer Close t ts = tt
argument_from_no_longer Open t ts = less (group_of ts) (group_shorter ts)
  where
    less : (c : Option Cut) → IfSome c (λ c. length c.front + length c.rest < length ts) → IfSome c (IsNoLonger (t ∷ ts))
    less None h = tt
    less (Some c) h = omega arith

argument_in_no_longer : (ts : List Tok) → IfSome (argument_in ts) (IsNoLonger ts)
argument_in_no_longer [] = tt
argument_in_no_longer (t ∷ ts) = argument_from_no_longer t.kind t ts

-- an argument and what stands behind it
pub argument_no_longer : (ts : List Tok) → IfSome (argument_of ts) (IsNoLonger ts)
argument_no_longer ts =
    no_longer_than_longer (after_spaces ts) ts (argument_in (after_spaces ts)) (omega (arith, length-drop (prefix_len is_space_token ts) ts))
    (argument_in_no_longer (after_spaces ts))

-- what stands behind so many arguments
pub arguments_no_longer : (at n : ℕ) (ts : List Tok) → IfOk (arguments_of at n ts) (λ a. length a.rest ≤ length ts)
unfolding arguments_of
arguments_no_longer at zero ts = omega arith
arguments_no_longer at (suc n) ts =
    then_holds (IsNoLonger ts) (λ (a : Arguments). length a.rest ≤ length ts) (or_fault (argument_of ts) MacroArg at) _
    (or_fault_holds (IsNoLonger ts) (argument_of ts) MacroArg at (argument_no_longer ts)) (λ first h.
    then_holds (λ (a : Arguments). length a.rest ≤ length first.rest) (λ (a : Arguments). length a.rest ≤ length ts) (arguments_of at n first.rest) _
    (arguments_no_longer at n first.rest) (λ more k. omega arith))

-- what stands behind a call
pub text_rest : (called : Macro) (at : ℕ) (ts : List Tok) → IfOk (call_text called at ts) (λ c. length c.rest ≤ length ts)
unfolding call_text
text_rest called at ts =
    then_holds (λ (a : Arguments). length a.rest ≤ length ts) (λ (c : Cut). length c.rest ≤ length ts) (arguments_of at called.args ts) _
    (arguments_no_longer at called.args ts) (λ a h. h)
