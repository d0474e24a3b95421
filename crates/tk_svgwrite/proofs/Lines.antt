-- Attributes read back, and what lines are made of.
use Rattle.std.proofs.Common.{◌≡◌, ℕ, ◌<◌, Bool, ◌||◌, true, false, eqb, List, [], ◌∷◌, ◌++◌, length, refl, ap, ◌∙◌, arith, append_assoc}
use Rattle.std.specs.Prelude.{codes, nat_le, ◌&&◌, chars, IsUtf8, IsAscii}
use Rattle.std.specs.List.{list_all, AllByRecursion}
use Rattle.std.proofs.lemmas.Bool.Decides.{nat_tests}
use Rattle.std.proofs.lemmas.List.Sums.{AllPass-from_list_all}
use Rattle.std.proofs.lemmas.Str.{IsUtf8-from_ascii, IsUtf8-append, chars-IsAscii, chars-append}
use Rattle.std.proofs.lemmas.Str.Ascii.{IsAscii-from_all}
use Rattle.tk_svg.specs.Scan.{is_xml_char, is_xml_blank, is_name_byte, is_value_byte, after_blanks, Attribute, Attributes, none, one, EndsTag, IsName}
use Rattle.tk_svg.proofs.Unique.{and_true}
use Rattle.tk_svgwrite.specs.Values.{attribute_text, attributes_text}
use Rattle.tk_svgwrite.proofs.Numbers.{is_plain, all_both}
use Rattle.tk_svgwrite.proofs.Optionals.{IsWritten}

-- ---- attributes

pub weaker_test : (p q : ℕ → Bool) → ((c : ℕ) → p c ≡ true → q c ≡ true) → (cs : List ℕ) → list_all p cs ≡ true → list_all q cs ≡ true
weaker_test p q f [] h = refl
weaker_test p q f (c ∷ cs) h =
    let both = and_true (p c) (list_all p cs) h in
    rw (f c both.0, weaker_test p q f cs both.1) refl

plain_is_value : (c : ℕ) → is_plain c ≡ true → is_value_byte c ≡ true
plain_is_value c h = grind (arith, nat_tests)

name_no_blank : (c : ℕ) → is_name_byte c ≡ true → is_xml_blank c ≡ false
name_no_blank c h = grind (arith, nat_tests)

name_starts : (name rest : List ℕ) → IsName name → after_blanks (name ++ rest) ≡ name ++ rest
name_starts [] rest is = absurd (omega (arith, is.some))
name_starts (c ∷ cs) rest is = rw (name_no_blank c (and_true _ _ is.each).0) refl

parts_of : (name value more rest : List ℕ)
    → ((((name ++ codes "=\"") ++ value) ++ codes "\"") ++ more) ++ rest ≡ name ++ 61 ∷ 34 ∷ (value ++ 34 ∷ (more ++ rest))
parts_of name value more rest = simp append_assoc

pub attributes_back : (attributes : List Attribute) (rest : List ℕ) → AllByRecursion IsWritten attributes → after_blanks rest ≡ rest → EndsTag rest
    → Attributes (attributes_text attributes ++ rest) attributes rest
attributes_back [] rest h b e = none b e
attributes_back (a ∷ others) rest h b e =
    let parts = parts_of a.0 a.1 (attributes_text others) rest in
    one {name = a.0} {value = a.1} {more = attributes_text others ++ rest} refl (ap after_blanks parts ∙ name_starts a.0 _ h.0.name) h.0.name
    (weaker_test is_plain is_value_byte plain_is_value a.1 h.0.value) (attributes_back others rest h.1 b e)

-- a line feed, or a printable ASCII character
abbrev pub is_line : ℕ → Bool
is_line c = eqb c 10 || (nat_le 32 c && nat_le c 126)

plain_is_line : (c : ℕ) → is_plain c ≡ true → is_line c ≡ true
plain_is_line c h = grind (arith, nat_tests)

name_is_line : (c : ℕ) → is_name_byte c ≡ true → is_line c ≡ true
name_is_line c h = grind (arith, nat_tests)

pub attributes_line : (attributes : List Attribute) → AllByRecursion IsWritten attributes → list_all is_line (attributes_text attributes) ≡ true
attributes_line [] h = refl
attributes_line (a ∷ others) h =
    let name = weaker_test is_name_byte is_line name_is_line a.0 h.0.name.each in
    let value = weaker_test is_plain is_line plain_is_line a.1 h.0.value in
    all_both is_line (attribute_text a) (attributes_text others)
    (all_both is_line (codes " " ++ a.0 ++ codes "=\"" ++ a.1) (codes "\"") (all_both is_line (codes " " ++ a.0 ++ codes "=\"") a.1
    (all_both is_line (codes " " ++ a.0) (codes "=\"") name refl) value) refl)
    (attributes_line others h.1)

pub attribute_is_written : (name value : List ℕ) → 0 < length name → list_all is_name_byte name ≡ true → list_all is_plain value ≡ true
    → IsWritten (name, value)
attribute_is_written name value some each plain = record { name = record { some = some; each = each }; value = plain }

-- ---- what a document may be made of

line_is_ascii : (c : ℕ) → is_line c ≡ true → c < 128
line_is_ascii c h = grind (arith, nat_tests)

line_is_xml : (c : ℕ) → is_line c ≡ true → is_xml_char c ≡ true
line_is_xml c h = grind (arith, nat_tests)

-- such bytes are UTF-8, and each is a character
pub line_utf8 : (bytes : List ℕ) → list_all is_line bytes ≡ true → IsUtf8 bytes × (chars bytes ≡ bytes)
line_utf8 bytes h =
    let ascii : IsAscii bytes = IsAscii-from_all bytes (λ k e lt. line_is_ascii _ (AllPass-from_list_all is_line bytes h k e lt)) in
    (IsUtf8-from_ascii bytes ascii, chars-IsAscii bytes ascii)

-- they are UTF-8 of characters that XML allows
pub record IsClean (bytes : List ℕ) : Type 0 where
  pub utf8 : IsUtf8 bytes
  pub allowed : list_all is_xml_char (chars bytes) ≡ true

pub clean_both : (xs ys : List ℕ) → IsClean xs → IsClean ys → IsClean (xs ++ ys)
clean_both xs ys a b = record {
  utf8 = IsUtf8-append xs ys a.utf8 b.utf8;
  allowed = ap (list_all is_xml_char) (chars-append xs ys a.utf8) ∙ all_both is_xml_char (chars xs) (chars ys) a.allowed b.allowed;
}

pub clean_line : (bytes : List ℕ) → list_all is_line bytes ≡ true → IsClean bytes
clean_line bytes h =
    let back = line_utf8 bytes h in
    record {
      utf8 = back.0;
      allowed = ap (list_all is_xml_char) back.1 ∙ weaker_test is_line is_xml_char line_is_xml bytes h;
    }
