-- The parts of a key list (the PGF manual, section "Key Management", "Setting Keys").
use Rattle.std.specs.Prelude.{ℕ, List, [], ◌∷◌, ◌++◌, length, unwrap_or, Option, Some, None}
use Rattle.tk_token.specs.declared.Tok.{Tok}
use Rattle.tk_characters.specs.Characters.{comma, equals}
use Rattle.tk_token.specs.Groups.{Cut, cut, before_char, unbraced}
use Rattle.tk_token.specs.Recursion.{by_size}
use Rattle.tk_token.specs.Spaces.{after_spaces, trimmed}

-- a part: the name of a key, its value if it has one, and the place of the first token that is no Space
pub record KeyPart : Type 0 where
  pub name : List Tok
  pub value : Option (List Tok)
  pub at : ℕ

-- a name at a place, with what stands behind the `=` if there is one: Spaces round both are nothing, and then one outer
-- pair of braces of the value
abbrev pub part_by : ℕ → List Tok → Option Cut → KeyPart
part_by at ts None = record { name = trimmed ts; value = None; at = at }
part_by at ts (Some c) = record { name = trimmed c.front; value = Some (unbraced (trimmed c.rest)); at = at }

-- the part that stands between two commas, unless there are only Spaces: it is cut at the first `=` outside braces
abbrev pub part_of : List Tok → List KeyPart
part_of [] = []
part_of (t ∷ ts) = part_by t.at (t ∷ ts) (before_char equals (t ∷ ts)) ∷ []

-- the tokens before the first comma outside braces, and those behind it; without one all are before it
abbrev pub first_piece : List Tok → Cut
first_piece ts = unwrap_or (before_char comma ts) (cut ts [])

-- the first piece, and the parts behind it; this is one step, over the parts of shorter lists
abbrev pub parts_step : (List Tok → List KeyPart) → List Tok → List KeyPart
parts_step parts [] = []
parts_step parts (t ∷ ts) =
    let piece = first_piece (t ∷ ts) in
    part_of (after_spaces piece.front) ++ parts piece.rest

-- The parts of a key list, in order: `a, b = {c,d}, ,e` has `a`, `b` with the value `c,d`, and `e`.
unfoldable pub parts_of : List Tok → List KeyPart
parts_of = by_size length [] parts_step
