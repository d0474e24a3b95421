-- Texts by their characters.
use Rattle.std.proofs.Common.{◌≡◌, ℕ, ◌+◌, List, [], ◌∷◌, ◌++◌, length, take, drop, ◌-◌, refl, sym, ap, subst, ◌∙◌, arith}
use Rattle.std.proofs.Math.Seq.{drop-append_seam, take-append_seam}
use Rattle.std.proofs.lemmas.List.{take-append-drop, length-append}
use Rattle.std.specs.Char.{len_utf8, encode_utf8}
use Rattle.std.specs.List.{after_first}
use Rattle.std.specs.Str.{chars, IsUtf8, IsCharBoundary, encode_utf8_all}
use Rattle.std.specs.Str.Pattern.{FindsChar, SplitsAroundMatch}
use Rattle.std.specs.Prelude.{Some, None}
use Rattle.std.proofs.lemmas.Str.{encodes_same, encodes-chars, encodes-append, encodes-IsAscii, IsUtf8-drop, IsCharBoundary-at_seam}
use Rattle.std.specs.List.{prefix_len}
use Rattle.tk_token.specs.Places.{is_line_end}
use Rattle.tk_token.specs.Cutting.{is_letter, letters_of, after_word, byte_count}
use Rattle.tk_token.proofs.Ascii.{letters_are_ascii}
use Rattle.tk_token.proofs.Runs.{first_after, first_nowhere}

-- what stands after the first line end of a text
line_found : (text : List ℕ) (i j : ℕ) → IsUtf8 text → FindsChar 10 text (Some (i, j)) → chars (drop j text) ≡ after_first is_line_end (chars text)
line_found text i j utf8 ((front, is, none), at) =
    let tail_utf8 : IsUtf8 (drop j text) = subst (λ (n : ℕ). IsUtf8 (drop n text)) (sym at.ends) (IsUtf8-drop text (i + len_utf8 10) utf8 at.after) in
    let whole : encode_utf8_all (front ++ 10 ∷ chars (drop j text)) ≡ text =
    encodes-append front (10 ∷ chars (drop j text))
    ∙ ap (λ (r : List ℕ). r ++ (encode_utf8 10 ++ encode_utf8_all (chars (drop j text)))) is
    ∙ ap (λ (r : List ℕ). take i text ++ (encode_utf8 10 ++ r)) (encodes-chars (drop j text) tail_utf8)
    ∙ ap (λ (r : List ℕ). take i text ++ r) (sym at.split)
    ∙ take-append-drop i text in
    let same : chars text ≡ front ++ 10 ∷ chars (drop j text) = encodes_same (chars text) (front ++ 10 ∷ chars (drop j text)) (encodes-chars text utf8
    ∙ sym whole) in
    sym (ap (after_first is_line_end) same ∙ first_after is_line_end front (chars (drop j text)) 10 none refl)

pub line_after : (text before after : List ℕ) → IsUtf8 text → SplitsAroundMatch (FindsChar 10) text before after
    → chars after ≡ after_first is_line_end (chars text)
line_after text before after utf8 (i, j, found, front, back, le, front_len, back_len) = ap chars back ∙ line_found text i j utf8 found

pub line_missing : (text : List ℕ) → IsUtf8 text → FindsChar 10 text None → [] ≡ after_first is_line_end (chars text)
line_missing text utf8 (front, is, none) =
    let same : chars text ≡ front = encodes_same (chars text) front (encodes-chars text utf8 ∙ sym is) in
    sym (ap (after_first is_line_end) same ∙ first_nowhere is_line_end front none)

-- how many bytes the characters of a text have
pub byte_count_is : (text : List ℕ) → IsUtf8 text → byte_count (chars text) ≡ length text
byte_count_is text utf8 = ap length (encodes-chars text utf8)

-- the letters in front of a text are its first bytes
module _ (text after : List ℕ) (utf8 : IsUtf8 text) (after_utf8 : IsUtf8 after) (is : chars after ≡ after_word (chars text)) where
  letters_first : text ≡ letters_of (chars text) ++ after
  letters_first =
      sym (encodes-chars text utf8)
      ∙ ap encode_utf8_all (sym (take-append-drop (prefix_len is_letter (chars text)) (chars text)))
      ∙ encodes-append (letters_of (chars text)) (after_word (chars text))
      ∙ ap (λ (r : List ℕ). r ++ encode_utf8_all (after_word (chars text))) (encodes-IsAscii (letters_of (chars text))
      (letters_are_ascii (chars text)))
      ∙ ap (λ (r : List ℕ). letters_of (chars text) ++ encode_utf8_all r) (sym is)
      ∙ ap (λ (r : List ℕ). letters_of (chars text) ++ r) (encodes-chars after after_utf8)

  letters_count : length text - length after ≡ length (letters_of (chars text))
  letters_count = omega (arith, ap length letters_first ∙ length-append (letters_of (chars text)) after)

  pub letters_boundary : IsCharBoundary text (length text - length after)
  letters_boundary = subst (λ (n : ℕ). IsCharBoundary text n) (sym letters_count) (IsCharBoundary-at_seam text (letters_of (chars text)) after
      letters_first after_utf8)

  pub letters_taken : take (length text - length after) text ≡ letters_of (chars text)
  letters_taken =
      ap (λ (n : ℕ). take n text) letters_count ∙ ap (take (length (letters_of (chars text)))) letters_first
      ∙ take-append_seam (letters_of (chars text)) after

  pub letters_dropped : drop (length text - length after) text ≡ after
  letters_dropped =
      ap (λ (n : ℕ). drop n text) letters_count ∙ ap (drop (length (letters_of (chars text)))) letters_first
      ∙ drop-append_seam (letters_of (chars text)) after
