-- Private: only private contracts use this. What ends a search outside braces.
use Rattle.std.specs.Prelude.{Bool, List, Option}
use Rattle.tk_token.specs.declared.Kind.{Kind}
use Rattle.tk_token.specs.declared.Sought.{Sought}
use Rattle.tk_token.specs.declared.Sought.TheVariants as sought
use Rattle.tk_token.specs.declared.Tok.{Tok}
use Rattle.tk_token.specs.Groups.{Cut, first_outside, past_first}
use Rattle.tk_token.specs.Kinds.{is_char, is_close, begins}
use Rattle.tk_expand.specs.declared.rest.Stop.{Stop}
use Rattle.tk_expand.specs.declared.rest.Stop.TheVariants.{Char, Close}

-- that character, or `}`
abbrev pub is_stop : Stop → Kind → Bool
is_stop (Char c) = is_char c
is_stop Close = is_close

-- the same as tk_token's search calls it
abbrev pub sought_of : Stop → Sought
sought_of (Char c) = sought.Char c
sought_of Close = sought.Close

-- the tokens before the first stop outside braces, and those behind it
abbrev pub before_stop : Stop → List Tok → Option Cut
before_stop stop ts = past_first (first_outside (begins (is_stop stop)) ts)
