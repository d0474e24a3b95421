-- How the attributes of a path say that it is filled and drawn (SVG 1.1, sections 11.2, Specifying paint, to 11.4,
-- Stroke Properties). Each is read where it is given, and else has its initial value.
use Rattle.std.specs.Prelude.{ℕ, ◌+◌, ◌-◌, ◌*◌, Bool, ◌&&◌, ◌==◌, nat_le, if◌then◌else◌, List, [], ◌∷◌, Option, Some}
use Rattle.std.specs.Prelude.{None, unwrap_or, option_map, codes, ℤ, pos, int_le, bytes_eq}
use Rattle.std.specs.List.{list_all}
use Rattle.tk_num.specs.Number.{is_scaled}
use Rattle.tk_item.specs.declared.Rgb.{Rgb}
use Rattle.tk_item.specs.declared.Rule.{Rule}
use Rattle.tk_item.specs.declared.Rule.TheVariants as rule
use Rattle.tk_item.specs.declared.Cap.{Cap}
use Rattle.tk_item.specs.declared.Cap.TheVariants as cap
use Rattle.tk_item.specs.declared.Join.{Join}
use Rattle.tk_item.specs.declared.Join.TheVariants as join
use Rattle.tk_item.specs.declared.Fill.{Fill}
use Rattle.tk_item.specs.declared.Stroke.{Stroke}
use Rattle.tk_characters.specs.Characters.{hash}
use Rattle.tk_characters.specs.Options.{◌and_then◌}
use Rattle.tk_characters.specs.Words.{word_meaning}
use Rattle.tk_svg.specs.Scan.{Attribute, attribute, lone_number, scaled_of, numbers_of}

-- the names of these attributes
abbrev pub paint_names : List (List ℕ)
paint_names = codes "fill" ∷ codes "fill-rule" ∷ codes "stroke" ∷ codes "stroke-width" ∷ codes "stroke-linecap"
    ∷ codes "stroke-linejoin" ∷ codes "stroke-miterlimit" ∷ codes "stroke-dasharray" ∷ codes "stroke-dashoffset" ∷ []

-- the value of that name, or the initial one where it isn't given
abbrev pub value_or_initial : List Attribute → List ℕ → List ℕ → List ℕ
value_or_initial attributes name initial = unwrap_or (attribute name attributes) initial

-- ---- values

-- a hexadecimal digit (SVG 1.1, section 4.2, Basic data types, color)
abbrev pub hex_digit : ℕ → Option ℕ
hex_digit c =
    if nat_le 48 c && nat_le c 57 then Some (c - 48) else
    (if nat_le 65 c && nat_le c 70 then Some (c - 55) else
    (if nat_le 97 c && nat_le c 102 then Some (c - 87) else None))

-- two of them: `fF` is 255
abbrev pub hex_byte : ℕ → ℕ → Option ℕ
hex_byte a b =
    hex_digit a and_then λ high.
    hex_digit b and_then λ low.
    Some (16 * high + low)

-- `#` and six hexadecimal digits: `#FF8000` is orange
abbrev pub rgb_of : List ℕ → Option Rgb
rgb_of (h ∷ a ∷ b ∷ c ∷ d ∷ e ∷ f ∷ []) =
    hex_byte a b and_then λ r.
    hex_byte c d and_then λ g.
    hex_byte e f and_then λ b.
    if h == hash then Some (record { r = r; g = g; b = b }) else None
rgb_of _ = None

-- `none`, or a colour
unfoldable pub paint_of : List ℕ → Option (Option Rgb)
paint_of value =
    if bytes_eq value (codes "none") then Some None else
    (rgb_of value and_then λ c. Some (Some c))

-- which points are inside
unfoldable pub rule_of : List ℕ → Option Rule
rule_of = word_meaning ((codes "nonzero", rule.NonZero) ∷ (codes "evenodd", rule.EvenOdd) ∷ [])

-- how an open line ends
unfoldable pub cap_of : List ℕ → Option Cap
cap_of = word_meaning ((codes "butt", cap.Butt) ∷ (codes "round", cap.Round) ∷ (codes "square", cap.Square) ∷ [])

-- how two lines meet
unfoldable pub join_of : List ℕ → Option Join
join_of = word_meaning ((codes "miter", join.Miter) ∷ (codes "round", join.Round) ∷ (codes "bevel", join.Bevel) ∷ [])

-- a scaled number that is not negative
abbrev pub is_length : ℤ → Bool
is_length x = is_scaled x && int_le (pos 0) x

-- such a number from its text
unfoldable pub length_value : List ℕ → Option ℤ
length_value value = lone_number value and_then λ x. if is_length x then Some x else None

-- a ratio that is at least one
unfoldable pub miter_of : List ℕ → Option ℤ
miter_of value = scaled_of value and_then λ x. if int_le (pos 65536) x then Some x else None

-- `none`, or one to sixteen lengths
unfoldable pub dashes_of : List ℕ → Option (List ℤ)
dashes_of value =
    if bytes_eq value (codes "none") then Some [] else
    (numbers_of 16 value and_then λ xs. if list_all is_length xs then Some xs else None)

-- ---- a path

-- how it is filled (SVG 1.1, section 11.3, Fill Properties)
unfoldable pub fill_of : List Attribute → Option (Option Fill)
fill_of attributes =
    paint_of (value_or_initial attributes (codes "fill") (codes "#000000")) and_then λ paint.
    rule_of (value_or_initial attributes (codes "fill-rule") (codes "nonzero")) and_then λ rule.
    Some (option_map (λ rgb. record { rgb = rgb; rule = rule }) paint)

-- how it is drawn (SVG 1.1, section 11.4, Stroke Properties)
unfoldable pub stroke_of : List Attribute → Option (Option Stroke)
stroke_of attributes =
    paint_of (value_or_initial attributes (codes "stroke") (codes "none")) and_then λ paint.
    length_value (value_or_initial attributes (codes "stroke-width") (codes "1")) and_then λ width.
    cap_of (value_or_initial attributes (codes "stroke-linecap") (codes "butt")) and_then λ cap.
    join_of (value_or_initial attributes (codes "stroke-linejoin") (codes "miter")) and_then λ join.
    miter_of (value_or_initial attributes (codes "stroke-miterlimit") (codes "4")) and_then λ miter.
    dashes_of (value_or_initial attributes (codes "stroke-dasharray") (codes "none")) and_then λ dash.
    scaled_of (value_or_initial attributes (codes "stroke-dashoffset") (codes "0")) and_then λ phase.
    Some (option_map (λ rgb. record {
      rgb = rgb;
      width = width;
      cap = cap;
      join = join;
      miter = miter;
      dash = dash;
      phase = phase;
    }) paint)
