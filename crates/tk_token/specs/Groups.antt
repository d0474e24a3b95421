-- Braces in lists of tokens, and what stands outside them.
use Rattle.std.specs.Prelude.{ℕ, suc, ◌-◌, Bool, ◌&&◌, ◌==◌, if◌then◌else◌, List, [], ◌∷◌, drop, unwrap_or, Option}
use Rattle.std.specs.Prelude.{Some, None, option_map}
use Rattle.std.specs.List.{list_all}
use Rattle.tk_token.specs.declared.Kind.{Kind}
use Rattle.tk_token.specs.declared.Kind.TheVariants.{Open, Close}
use Rattle.tk_token.specs.declared.Tok.{Tok}
use Rattle.tk_token.specs.Kinds.{is_char, is_open, is_close, begins}
use Rattle.tk_token.specs.Spaces.{is_space_token, after_spaces}

-- the front of a list, and what is left of the list behind it
pub record Cut : Type 0 where
  pub front : List Tok
  pub rest : List Tok

-- that front, and that rest
abbrev pub cut : List Tok → List Tok → Cut
cut front rest = record { front = front; rest = rest }

-- a token stands before the front
abbrev pub with_first : Tok → Option Cut → Option Cut
with_first t found = option_map (λ (c : Cut). cut (t ∷ c.front) c.rest) found

-- how many braces are open after a token, where so many were open before it
abbrev pub depth_after : ℕ → Kind → ℕ
depth_after depth Open = suc depth
depth_after depth Close = depth - 1
depth_after depth _ = depth

-- The search outside braces, where so many braces are open: the tokens before the first place outside them at which the
-- test holds of the tokens from there on, and those from there on. There is no such place where the list ends before
-- it, or a `}` stands before it that closes none of these tokens.
unfoldable pub first_outside_in : (List Tok → Bool) → ℕ → List Tok → Option Cut
first_outside_in sought depth [] = None
first_outside_in sought depth (t ∷ ts) =
    if depth == 0 && sought (t ∷ ts) then Some (cut [] (t ∷ ts))
    else (if depth == 0 && is_close t.kind then None
    else with_first t (first_outside_in sought (depth_after depth t.kind) ts))

-- the same from the first token on
abbrev pub first_outside : (List Tok → Bool) → List Tok → Option Cut
first_outside sought ts = first_outside_in sought 0 ts

-- the same front, and the rest without its first token
abbrev pub past_first : Option Cut → Option Cut
past_first found = option_map (λ (c : Cut). cut c.front (drop 1 c.rest)) found

-- the tokens before that character, at its first place outside braces, and those behind it
abbrev pub before_char : ℕ → List Tok → Option Cut
before_char c ts = past_first (first_outside (begins (is_char c)) ts)

-- the contents of a group whose `{` was read, and the tokens behind its `}`
abbrev pub group_of : List Tok → Option Cut
group_of ts = past_first (first_outside (begins is_close) ts)

-- ---- outer braces

-- the contents of a group, where only Spaces stand behind it
abbrev pub alone : Option Cut → Option (List Tok)
alone None = None
alone (Some c) = if list_all is_space_token c.rest then Some c.front else None

-- the contents of tokens that are one group and Spaces behind it
abbrev pub contents : List Tok → Option (List Tok)
contents [] = None
contents (t ∷ ts) = if is_open t.kind then alone (group_of ts) else None

-- Tokens without one outer pair of braces: where they are one group, Spaces apart, what stands in it. So `{a,b}` is
-- `a,b`, and `{a},{b}` stays.
unfoldable pub unbraced : List Tok → List Tok
unbraced ts = unwrap_or (contents (after_spaces ts)) ts
