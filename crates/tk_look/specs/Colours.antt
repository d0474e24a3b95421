-- Colours by their texts (the xcolor manual, section "Colors by name" and "Color expressions").
use Rattle.std.specs.Prelude.{ℕ, ◌+◌, ◌-◌, ◌*◌, ◌/◌, ◌&&◌, ◌==◌, nat_le, if◌then◌else◌, List, [], ◌∷◌, Option, Some}
use Rattle.std.specs.Prelude.{None, codes}
use Rattle.std.specs.List.{slice_split}
use Rattle.tk_characters.specs.Characters.{exclamation_mark}
use Rattle.tk_characters.specs.Options.{◌and_then◌}
use Rattle.tk_characters.specs.Words.{word_meaning}
use Rattle.tk_num.specs.Number.{is_decimal, decimal_value}
use Rattle.tk_item.specs.declared.Rgb.{Rgb}

-- red, green and blue, each up to 255
abbrev pub rgb : ℕ → ℕ → ℕ → Rgb
rgb r g b = record { r = r; g = g; b = b }

abbrev pub black : Rgb
black = rgb 0 0 0

abbrev pub white : Rgb
white = rgb 255 255 255

-- each name with its colour
abbrev pub colours : List (List ℕ × Rgb)
colours =
    (codes "red", rgb 255 0 0)
    ∷ (codes "green", rgb 0 255 0)
    ∷ (codes "blue", rgb 0 0 255)
    ∷ (codes "cyan", rgb 0 255 255)
    ∷ (codes "magenta", rgb 255 0 255)
    ∷ (codes "yellow", rgb 255 255 0)
    ∷ (codes "black", black)
    ∷ (codes "white", white)
    ∷ (codes "gray", rgb 128 128 128)
    ∷ (codes "darkgray", rgb 64 64 64)
    ∷ (codes "lightgray", rgb 191 191 191)
    ∷ (codes "brown", rgb 191 128 64)
    ∷ (codes "lime", rgb 191 255 0)
    ∷ (codes "olive", rgb 128 128 0)
    ∷ (codes "orange", rgb 255 128 0)
    ∷ (codes "pink", rgb 255 191 191)
    ∷ (codes "purple", rgb 191 0 64)
    ∷ (codes "teal", rgb 0 128 128)
    ∷ (codes "violet", rgb 128 0 128)
    ∷ []

-- the colour of that name
abbrev pub colour_named : List ℕ → Option Rgb
colour_named = word_meaning colours

-- ---- mixing

-- how much of a colour is taken, in 65536ths of a percent: a decimal from 0 to 100
abbrev pub percentage : List ℕ → Option ℕ
percentage text = if is_decimal text && nat_le (decimal_value text) 6553600 then Some (decimal_value text) else None

-- so many 65536ths of a percent of one part and the rest of another, to the nearest whole: half of 255 and 0 is 128
abbrev pub mixed_part : ℕ → ℕ → ℕ → ℕ
mixed_part percent a b = (a * percent + b * (6553600 - percent) + 3276800) / 6553600

-- so much of one colour and the rest of another
abbrev pub mixed : ℕ → Rgb → Rgb → Rgb
mixed percent c d = rgb (mixed_part percent c.r d.r) (mixed_part percent c.g d.g) (mixed_part percent c.b d.b)

-- ---- texts

-- the pieces between the `!` of a text: `red`, `50` and `blue` of `red!50!blue`
abbrev pub pieces_between : List ℕ → List (List ℕ)
pieces_between text = slice_split (λ c. c == exclamation_mark) text

-- a colour mixed with those that follow: each percentage says how much of the colour so far is taken, and a last one
-- stands before white
abbrev pub mixed_with : Rgb → List (List ℕ) → Option Rgb
mixed_with c [] = Some c
mixed_with c (share ∷ []) = percentage share and_then λ percent. Some (mixed percent c white)
mixed_with c (share ∷ (name ∷ pieces)) =
    percentage share and_then λ percent. colour_named name and_then λ other. mixed_with (mixed percent c other) pieces

-- the colour of the first piece, mixed with the others
abbrev pub colour_by : List (List ℕ) → Option Rgb
colour_by [] = None
colour_by (name ∷ pieces) = colour_named name and_then λ c. mixed_with c pieces

-- The colour of a text: `red`, `red!50` (half red, half white), `red!20!blue!50!black`.
unfoldable pub colour_of : List ℕ → Option Rgb
colour_of text = colour_by (pieces_between text)
