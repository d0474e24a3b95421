-- Bytes that stand in no character that is refused.
use Rattle.std.proofs.Common.{◌≡◌, ◌≤◌, ◌<◌, ℕ, Bool, true, false, ◌&&◌, eqb, ltb, List, [], ◌∷◌, ◌++◌, refl, sym, ap, subst, ◌∙◌, arith}
use Rattle.std.specs.List.{list_all}
use Rattle.std.specs.Char.{encode_utf8}
use Rattle.std.specs.Str.{chars, IsUtf8, NonePass, encode_utf8_all}
use Rattle.std.specs.Prelude.{None}
use Rattle.std.proofs.lemmas.Bool.{false≢true, eqb-true, ltb-false}
use Rattle.std.proofs.lemmas.Bool.Decides.{nat_tests}
use Rattle.std.proofs.lemmas.List.{append-nil}
use Rattle.std.proofs.lemmas.List.Folds.{list_all-append}
use Rattle.std.proofs.lemmas.Str.{encodes-chars}
use Rattle.tk_token.specs.Faults.{is_refused, first_place}
use Rattle.tk_token.specs.Pieces.{is_plain_byte}
use Rattle.tk_token.proofs.Ascii.{front_and, back_and}
use Rattle.tk_token.proofs.Refused.{none_found}

-- a plain byte that is a character is none that is refused
plain_ascii : (c : ℕ) → c < 128 → is_plain_byte c ≡ true → is_refused c ≡ false
plain_ascii c small h = grind (arith, nat_tests)

-- the refused characters past ASCII are two
past_ascii : (c : ℕ) → 128 ≤ c → eqb c 0xFFFE ≡ false → eqb c 0xFFFF ≡ false → is_refused c ≡ false
past_ascii c large e f = grind (arith, nat_tests)

-- a character of ASCII is its byte
ascii_byte : (c : ℕ) → ltb c 128 ≡ true → encode_utf8 c ≡ c ∷ []
unfolding encode_utf8
ascii_byte c h = rw h refl

-- the bytes of those two aren't all plain
two_refused : list_all is_plain_byte (encode_utf8 0xFFFE) ≡ false × list_all is_plain_byte (encode_utf8 0xFFFF) ≡ false
unfolding encode_utf8
two_refused = (refl, refl)

-- a character whose bytes are plain is none that is refused
plain_character : (c : ℕ) → list_all is_plain_byte (encode_utf8 c) ≡ true → is_refused c ≡ false
plain_character c h = by_test (ltb c 128) (eqb c 0xFFFE) (eqb c 0xFFFF) refl refl refl
  where
    no : (d : ℕ) → eqb c d ≡ true → list_all is_plain_byte (encode_utf8 d) ≡ false → is_refused c ≡ false
    no d e f =
        absurd (false≢true (sym f ∙ ap (λ (n : ℕ). list_all is_plain_byte (encode_utf8 n)) (sym (eqb-true c d e)) ∙ h))

    by_test : (small x y : Bool) → ltb c 128 ≡ small → eqb c 0xFFFE ≡ x → eqb c 0xFFFF ≡ y → is_refused c ≡ false
    by_test true x y g e f =
        plain_ascii c (grind (arith, nat_tests)) (front_and (is_plain_byte c) true (sym (ap (list_all is_plain_byte) (ascii_byte c g)) ∙ h))
    by_test false true y g e f = no 0xFFFE e two_refused.0
    by_test false false true g e f = no 0xFFFF f two_refused.1
    by_test false false false g e f = past_ascii c (grind (arith, nat_tests)) e f

plain_characters : (cs : List ℕ) → list_all is_plain_byte (encode_utf8_all cs) ≡ true → NonePass is_refused cs
plain_characters [] h = tt
plain_characters (c ∷ cs) h =
    let both : (list_all is_plain_byte (encode_utf8 c) && list_all is_plain_byte (encode_utf8_all cs)) ≡ true =
    sym (list_all-append is_plain_byte (encode_utf8 c) (encode_utf8_all cs)) ∙ h in (
      plain_character c (front_and (list_all is_plain_byte (encode_utf8 c)) (list_all is_plain_byte (encode_utf8_all cs)) both),
      plain_characters cs (back_and (list_all is_plain_byte (encode_utf8 c)) (list_all is_plain_byte (encode_utf8_all cs)) both),
    )

-- a text of plain bytes has no character that is refused
pub plain_text : (text : List ℕ) → IsUtf8 text → list_all is_plain_byte text ≡ true → None ≡ first_place is_refused (chars text)
plain_text text utf8 h =
    none_found is_refused text (chars text) (sym (append-nil (chars text)))
    (plain_characters (chars text) (ap (list_all is_plain_byte) (encodes-chars text utf8) ∙ h))
