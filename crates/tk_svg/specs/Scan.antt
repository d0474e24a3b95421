-- Blanks, numbers and attributes of an SVG text. A definition named `.._at` reads at the front and gives what stands
-- behind.
use Rattle.std.specs.Prelude.{◌≡◌, ℕ, zero, suc, ◌+◌, ◌*◌, ◌<◌, ◌⊎◌, Bool, true, false, IsTrue, ◌&&◌, ◌||◌, not, ◌==◌}
use Rattle.std.specs.Prelude.{nat_lt, nat_le, if◌then◌else◌, List, [], ◌∷◌, ◌++◌, length, Option, Some, None, is_some}
use Rattle.std.specs.Prelude.{ℤ, pos, neg_ℤ, bytes_eq}
use Rattle.std.specs.List.{list_all, list_any}
use Rattle.std.specs.Char.{is_ascii_digit}
use Rattle.std.specs.Str.Parse.{digits_value}
use Rattle.tk_num.specs.Number.{is_point, is_scaled, fraction_of}
use Rattle.tk_characters.specs.Options.{◌and_then◌}
use Rattle.tk_characters.specs.Characters.{tab, line_feed, carriage_return, space, quote, ampersand, plus, comma, dash}
use Rattle.tk_characters.specs.Characters.{slash, colon, less, equals, greater}

-- ---- characters

-- a character that a document may have, of those that UTF-8 spells (XML 1.0, section 2.2, Char)
abbrev pub is_xml_char : ℕ → Bool
is_xml_char c =
    (nat_le space c && not (c == 65534 || c == 65535))
    || (c == tab || (c == line_feed || c == carriage_return))

-- white space (XML 1.0, section 2.3, S)
abbrev pub is_xml_blank : ℕ → Bool
is_xml_blank c = c == space || (c == tab || (c == line_feed || c == carriage_return))

-- what stands behind blanks
abbrev pub after_blanks : List ℕ → List ℕ
after_blanks [] = []
after_blanks (c ∷ cs) = if is_xml_blank c then after_blanks cs else c ∷ cs

-- what stands behind a comma, where there is one, and blanks
abbrev pub after_comma : List ℕ → List ℕ
after_comma [] = []
after_comma (c ∷ cs) = if c == comma then after_blanks cs else c ∷ cs

-- what stands behind blanks, of which one place may be a comma (SVG 1.1, section 8.3.9, The grammar for path data,
-- comma-wsp?)
abbrev pub after_separator : List ℕ → List ℕ
after_separator bytes = after_comma (after_blanks bytes)

-- ---- numbers, each read as long as it can be (SVG 1.1, section 8.3.9, The grammar for path data, number, without
-- exponents)

-- the digits at the front: `28` of `28.45274 0`
abbrev pub digits_of : List ℕ → List ℕ
digits_of [] = []
digits_of (c ∷ cs) = if is_ascii_digit c then c ∷ digits_of cs else []

-- what stands behind them: `.45274 0`
abbrev pub after_digits : List ℕ → List ℕ
after_digits [] = []
after_digits (c ∷ cs) = if is_ascii_digit c then after_digits cs else c ∷ cs

-- the digits behind a point at the front: `45274` of `.45274 0`
abbrev pub digits_behind_point : List ℕ → List ℕ
digits_behind_point [] = []
digits_behind_point (c ∷ cs) = if is_point c then digits_of cs else []

-- what stands behind the point and its digits: ` 0`
abbrev pub after_part : List ℕ → List ℕ
after_part [] = []
after_part (c ∷ cs) = if is_point c then after_digits cs else c ∷ cs

-- what digits, and digits behind a point, stand for in 65536ths
abbrev pub value_of : List ℕ → List ℕ → ℕ
value_of whole part = 65536 * digits_value 10 whole + fraction_of part

-- the number of these digits, where there is a digit and the number is not too large
unfoldable pub unsigned_from : List ℕ → List ℕ → List ℕ → Option (ℕ × List ℕ)
unsigned_from whole part rest =
    if nat_lt 0 (length whole + length part) && nat_le (value_of whole part) 4294967295
    then Some (value_of whole part, rest)
    else None

-- digits with at most one point among them
unfoldable pub unsigned_at : List ℕ → Option (ℕ × List ℕ)
unsigned_at bytes =
    let behind = after_digits bytes in
    unsigned_from (digits_of bytes) (digits_behind_point behind) (after_part behind)

-- the same behind a sign, or without one: `-.5` is -32768 in 65536ths
unfoldable pub number_at : List ℕ → Option (ℤ × List ℕ)
number_at [] = None
number_at (c ∷ cs) =
    if c == dash then (unsigned_at cs and_then λ u. Some (neg_ℤ (pos u.0), u.1)) else
    (if c == plus then (unsigned_at cs and_then λ u. Some (pos u.0, u.1)) else
    (unsigned_at (c ∷ cs) and_then λ u. Some (pos u.0, u.1)))

-- n numbers of path data, each behind a separator or behind nothing: `1-2`, `1,-2` and `1 -2` are 1 and -2
abbrev pub numbers_at : ℕ → List ℕ → Option (List ℤ × List ℕ)
numbers_at zero bytes = Some ([], bytes)
numbers_at (suc n) bytes =
    number_at (after_separator bytes) and_then λ x.
    numbers_at n x.1 and_then λ xs.
    Some (x.0 ∷ xs.0, xs.1)

-- the same behind a letter, where no comma stands before the first
abbrev pub first_numbers_at : ℕ → List ℕ → Option (List ℤ × List ℕ)
first_numbers_at zero bytes = Some ([], bytes)
first_numbers_at (suc n) bytes =
    number_at (after_blanks bytes) and_then λ x.
    numbers_at n x.1 and_then λ xs.
    Some (x.0 ∷ xs.0, xs.1)

-- ---- attributes

-- a name and a value
abbrev pub Attribute : Type 0
Attribute = List ℕ × List ℕ

-- a letter, `-` or `:`
abbrev pub is_name_byte : ℕ → Bool
is_name_byte c = (nat_le 97 c && nat_le c 122) || ((nat_le 65 c && nat_le c 90) || (c == dash || c == colon))

-- neither `"` nor `<` nor `&`
abbrev pub is_value_byte : ℕ → Bool
is_value_byte c = not (c == quote || (c == less || c == ampersand))

-- one or more bytes of a name
pub record IsName (name : List ℕ) : Type 0 where
  pub some : 0 < length name
  pub each : IsTrue (list_all is_name_byte name)

-- a blank stands in front
abbrev pub BeginsBlank : List ℕ → Type 0
BeginsBlank [] = ⊥
BeginsBlank (c ∷ cs) = IsTrue (is_xml_blank c)

-- `>` or `/` stands in front
abbrev pub EndsTag : List ℕ → Type 0
EndsTag rest = (after : List ℕ) × ((rest ≡ greater ∷ after) ⊎ (rest ≡ slash ∷ after))

-- the attributes up to the end of a tag: each is one or more blanks, a name, `="`, a value and `"` (XML 1.0, section
-- 3.1, STag)
pub data Attributes : List ℕ → List Attribute → List ℕ → Type 0 where
  none : {bytes rest : List ℕ}
      → after_blanks bytes ≡ rest
      → EndsTag rest
      → Attributes bytes [] rest
  one : {bytes name value more rest : List ℕ} {others : List Attribute}
      → BeginsBlank bytes
      → after_blanks bytes ≡ name ++ equals ∷ quote ∷ (value ++ quote ∷ more)
      → IsName name
      → IsTrue (list_all is_value_byte value)
      → Attributes more others rest
      → Attributes bytes ((name, value) ∷ others) rest

-- the value of the first attribute of that name
abbrev pub attribute : List ℕ → List Attribute → Option (List ℕ)
attribute name [] = None
attribute name (a ∷ others) = if bytes_eq name a.0 then Some a.1 else attribute name others

-- no name stands twice
abbrev pub are_distinct : List Attribute → Bool
are_distinct [] = true
are_distinct (a ∷ others) = not (is_some (attribute a.0 others)) && are_distinct others

-- each name is one of these
abbrev pub are_among : List (List ℕ) → List Attribute → Bool
are_among names attributes = list_all (λ a. list_any (bytes_eq a.0) names) attributes

-- ---- values of attributes

-- nothing is left
abbrev pub is_empty : List ℕ → Bool
is_empty [] = true
is_empty (c ∷ cs) = false

-- a value that is one number
abbrev pub lone_number : List ℕ → Option ℤ
lone_number value = number_at value and_then λ x. if is_empty x.1 then Some x.0 else None

-- a value that is one scaled number
abbrev pub scaled_of : List ℕ → Option ℤ
scaled_of value = lone_number value and_then λ x. if is_scaled x then Some x else None

-- what stands behind a separator that is there: blanks, or one comma with blanks around it (SVG 1.1, section 8.3.9, The
-- grammar for path data, comma-wsp)
abbrev pub behind_separator : List ℕ → Option (List ℕ)
behind_separator [] = None
behind_separator (c ∷ cs) = if is_xml_blank c || c == comma then Some (after_separator (c ∷ cs)) else None

-- a value that is one to n numbers with a separator between any two: `3 2.5` and `3, 2.5`, but not `3-2.5`
unfoldable pub numbers_of : ℕ → List ℕ → Option (List ℤ)
numbers_of zero value = None
numbers_of (suc n) value =
    number_at value and_then λ x.
    if is_empty x.1 then Some (x.0 ∷ []) else
    (behind_separator x.1 and_then λ next.
    numbers_of n next and_then λ xs.
    Some (x.0 ∷ xs))
