-- Arguments of macro calls (Knuth, TeX: The Program, sections 391 to 399, for parameters that nothing delimits).
use Rattle.std.specs.Prelude.{ℕ, zero, suc, ◌-◌, List, [], ◌∷◌, slice_get, unwrap_or, Option, Some, None, Ok}
use Rattle.std.specs.List.{flat_map}
use Rattle.tk_token.specs.declared.Kind.{Kind}
use Rattle.tk_token.specs.declared.Kind.TheVariants.{Open, Close, Arg}
use Rattle.tk_token.specs.declared.Tok.{Tok}
use Rattle.tk_token.specs.declared.Code.TheVariants.{MacroArg}
use Rattle.tk_token.specs.Answers.{Answer, ◌>>=◌, or_fault}
use Rattle.tk_token.specs.Groups.{Cut, cut, group_of}
use Rattle.tk_token.specs.Spaces.{after_spaces}
use Rattle.tk_store.specs.declared.Macro.{Macro}

-- an argument that begins with a token of that kind: the contents of a group, or the token itself
abbrev pub argument_from : Kind → Tok → List Tok → Option Cut
argument_from Open t ts = group_of ts
argument_from Close t ts = None
argument_from _ t ts = Some (cut (t ∷ []) ts)

-- the argument in front, if there is one
abbrev pub argument_in : List Tok → Option Cut
argument_in [] = None
argument_in (t ∷ ts) = argument_from t.kind t ts

-- the next token that isn't a Space, or the contents of the next group; and what stands behind it
abbrev pub argument_of : List Tok → Option Cut
argument_of ts = argument_in (after_spaces ts)

-- arguments, and what stands behind them
pub record Arguments : Type 0 where
  pub texts : List (List Tok)
  pub rest : List Tok

-- those arguments, and that rest
abbrev pub given : List (List Tok) → List Tok → Arguments
given texts rest = record { texts = texts; rest = rest }

-- so many arguments; where one is missing, that is the fault MacroArg at the call
unfoldable pub arguments_of : ℕ → ℕ → List Tok → Answer Arguments
arguments_of at zero ts = Ok (given [] ts)
arguments_of at (suc n) ts = do
  first ← or_fault (argument_of ts) MacroArg at
  more ← arguments_of at n first.rest
  Ok (given (first.front ∷ more.texts) more.rest)

-- what a call has for a token of the body: the argument whose place it is, and all else as it stands
abbrev pub put_in : List (List Tok) → Kind → Tok → List Tok
put_in arguments (Arg n) t = unwrap_or (slice_get arguments (n - 1)) (t ∷ [])
put_in arguments _ t = t ∷ []

-- the body with its arguments put in
abbrev pub with_arguments : List (List Tok) → List Tok → List Tok
with_arguments arguments body = flat_map (λ (t : Tok). put_in arguments t.kind t) body

-- the text of a call whose word was read, and what stands behind the call
unfoldable pub call_text : Macro → ℕ → List Tok → Answer Cut
call_text called at ts = do
  arguments ← arguments_of at called.args ts
  Ok (cut (with_arguments arguments.texts called.body) arguments.rest)
