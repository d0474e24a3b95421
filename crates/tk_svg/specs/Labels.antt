-- What a `text` element says: the characters of a label, and where they stand (SVG 1.1, section 10.4, The `text`
-- element). `<text x="1" y="2" xml:space="preserve">a&lt;b</text>` is the label `a<b` at (1,-2), since y points upward in
-- a drawing.
use Rattle.std.specs.Prelude.{◌≡◌, ℕ, ◌<◌, Bool, IsTrue, not, ◌&&◌, ◌||◌, ◌==◌, List, [], ◌∷◌, ◌++◌, length, Option, Some, None}
use Rattle.std.specs.Prelude.{codes, ℤ, pos, neg_ℤ}
use Rattle.std.specs.List.{list_all}
use Rattle.tk_num.specs.Number.{is_scaled}
use Rattle.tk_item.specs.declared.Rgb.{Rgb}
use Rattle.tk_item.specs.declared.Item.{Item}
use Rattle.tk_item.specs.declared.Item.TheVariants.{Label}
use Rattle.tk_characters.specs.Characters.{tab, line_feed, carriage_return, quote, ampersand, semicolon, less, greater}
use Rattle.tk_characters.specs.Words.{word_meaning}
use Rattle.tk_svg.specs.Scan.{is_xml_char, Attribute, attribute, scaled_of, numbers_of}

-- ---- characters

-- a character of a label: one that XML allows, but tab, line feed and carriage return
abbrev pub is_label_char : ℕ → Bool
is_label_char c = is_xml_char c && not (c == tab || (c == line_feed || c == carriage_return))

-- a label's text is not empty
pub record FitsText (text : List ℕ) : Type 0 where
  pub some : 0 < length text
  pub each : IsTrue (list_all is_label_char text)

-- `'`
abbrev pub apostrophe : ℕ
apostrophe = 39

-- the characters that have names (XML 1.0, section 4.6, Predefined Entities)
abbrev pub entities : List (List ℕ × ℕ)
entities =
    (codes "amp", ampersand) ∷ (codes "lt", less) ∷ (codes "gt", greater)
    ∷ (codes "quot", quote) ∷ (codes "apos", apostrophe) ∷ []

-- a character that stands for itself: each but `&`, `<` and `>`
abbrev pub is_itself : ℕ → Bool
is_itself c = not (c == ampersand || (c == less || c == greater))

-- the characters of a document spell those of a label: one stands for itself, or `&`, a name and `;` for the character
-- that has the name (XML 1.0, section 2.4, Character Data and Markup)
pub data Spells : List ℕ → List ℕ → Type 0 where
  nothing : Spells [] []
  itself : {c : ℕ} {more text : List ℕ}
      → IsTrue (is_itself c)
      → Spells more text
      → Spells (c ∷ more) (c ∷ text)
  by_name : {c : ℕ} {more behind text : List ℕ} (name : List ℕ)
      → behind ≡ name ++ semicolon ∷ more
      → word_meaning entities name ≡ Some c
      → Spells more text
      → Spells (ampersand ∷ behind) (c ∷ text)

-- ---- where they stand

-- the six numbers of a text's matrix, in 65536ths: by `x` and `y` the text is only shifted, by `transform` it has the
-- matrix that is given, and no text has both (SVG 1.1, section 7.6, The `transform` attribute)
pub data IsPlaced (own : List Attribute) : List ℤ → Type 0 where
  by_point : {x_text y_text : List ℕ} {x y : ℤ}
      → attribute (codes "transform") own ≡ None
      → attribute (codes "x") own ≡ Some x_text
      → attribute (codes "y") own ≡ Some y_text
      → scaled_of x_text ≡ Some x
      → scaled_of y_text ≡ Some y
      → IsPlaced own (pos 65536 ∷ pos 0 ∷ pos 0 ∷ pos 65536 ∷ x ∷ y ∷ [])
  by_matrix : {numbers : List ℤ} (inside : List ℕ)
      → attribute (codes "x") own ≡ None
      → attribute (codes "y") own ≡ None
      → attribute (codes "transform") own ≡ Some (codes "matrix(" ++ (inside ++ codes ")"))
      → numbers_of 6 inside ≡ Some numbers
      → IsTrue (list_all is_scaled numbers)
      → IsPlaced own numbers

-- the label of a matrix of six numbers, with y turned upward both in the text and in the drawing: the text's own (x, y)
-- stands at (a*x + c*y + e, b*x + d*y + f) in the document
abbrev pub label_of : List ℤ → Rgb → List ℕ → Option Item
label_of (a ∷ b ∷ c ∷ d ∷ e ∷ f ∷ []) rgb text = Some (Label (record {
  at = record { x = e; y = neg_ℤ f };
  a = a;
  b = neg_ℤ b;
  c = neg_ℤ c;
  d = d;
  rgb = rgb;
  text = text;
}))
label_of _ rgb text = None
