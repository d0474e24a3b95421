-- The bodies of macros (Knuth, TeX: The Program, sections 477 and 479).
use Rattle.std.specs.Prelude.{ℕ, ◌≤◌, nat_le, ◌&&◌, if◌then◌else◌, List, [], ◌∷◌, Option, Some, None, Ok}
use Rattle.std.specs.Char.{is_ascii_digit, digit_value}
use Rattle.tk_token.specs.declared.Kind.{Kind}
use Rattle.tk_token.specs.declared.Kind.TheVariants.{Char, Param, Arg}
use Rattle.tk_token.specs.declared.Tok.{Tok}
use Rattle.tk_token.specs.declared.Code.TheVariants.{MacroSyntax}
use Rattle.tk_token.specs.Answers.{Answer, ◌>>=◌, fault}
use Rattle.tk_token.specs.Kinds.{is_param}

-- ---- what is written

-- the token at that place doesn't fit
abbrev pub misfit : {A : Type 0} → ℕ → Answer A
misfit at = fault MacroSyntax at

-- the value of a digit
abbrev pub digit_of : Kind → Option ℕ
digit_of (Char c) = if is_ascii_digit c then Some (digit_value c) else None
digit_of _ = None

-- a token that stands for itself, as all do but a `#` and the place of an argument, which no source has
abbrev pub itself : Kind → Tok → Answer Tok
itself Param t = misfit t.at
itself (Arg n) t = misfit t.at
itself _ t = Ok t

-- the place of the argument with that number, where there are so many
abbrev pub argument_at : ℕ → Option ℕ → ℕ → Answer Tok
argument_at args (Some n) at = if nat_le 1 n && nat_le n args then Ok (record { kind = Arg n; at = at }) else misfit at
argument_at args None at = misfit at

-- what a `#` at a place stands for before a token of that kind, where there are so many arguments
abbrev pub hash_before : ℕ → Kind → ℕ → Answer Tok
hash_before args Param at = Ok (record { kind = Param; at = at })
hash_before args (Char c) at = argument_at args (digit_of (Char c)) at
hash_before args _ at = misfit at

-- With one argument `(#1)` is `(`, the place of the argument and `)`, and `##1` is `#` and `1`; `#2`, `#x` and a `#` at
-- the end don't fit.
-- the body of a macro with so many arguments, as it is written: `#1` is an argument's place, and `##` is `#`
unfoldable pub body_of : ℕ → List Tok → Answer (List Tok)
body_of args [] = Ok []
body_of args (t ∷ []) = do
  first ← itself t.kind t
  Ok (first ∷ [])
body_of args (t ∷ u ∷ ts) =
    if is_param t.kind
    then (do
      first ← hash_before args u.kind t.at
      more ← body_of args ts
      Ok (first ∷ more))
    else (do
      first ← itself t.kind t
      more ← body_of args (u ∷ ts)
      Ok (first ∷ more))

-- ---- what is kept

-- the place of an argument is that of one of so many
abbrev pub IsArgOf : ℕ → Kind → Type 0
IsArgOf args (Arg n) = (1 ≤ n) × (n ≤ args)
IsArgOf args _ = Unit {0}
