-- The text of a number.
use Rattle.std.specs.Prelude.{◌≡◌, ℕ, zero, suc, ◌+◌, ◌-◌, ◌*◌, ◌/◌, ◌%◌, ◌^◌, ◌<◌, ◌≤◌, Bool, true, false, ◌==◌}
use Rattle.std.specs.Prelude.{if◌then◌else◌, List, [], ◌∷◌, ◌++◌, length, ℤ, pos, negsuc, unsigned_abs, codes, decimal}
use Rattle.std.specs.Str.Parse.{digits_value}
use Rattle.tk_characters.specs.Characters.{point}
use Rattle.tk_num.specs.Number.{one, nearest_65536th, whole_digits, part_digits, is_decimal, decimal_value}

-- ---- the choice among all texts

-- one or more digits with no needless zero in front, a point, and one to five digits: `28.45274` and `0.0`, but not
-- `.5` or `00.5`
pub record IsPointed (text : List ℕ) : Type 0 where
  pub digits : is_decimal text ≡ true
  pub point : text ≡ whole_digits text ++ point ∷ part_digits text
  pub whole : 1 ≤ length (whole_digits text)
  pub needed : (rest : List ℕ) → whole_digits text ≡ codes "0" ++ rest → rest ≡ []
  pub some : 1 ≤ length (part_digits text)
  pub most : length (part_digits text) ≤ 5

-- such a text that reads back as n 65536ths: `0.4` as 26214, and `0.40` too
pub record ReadsBack (n : ℕ) (text : List ℕ) : Type 0 where
  pub pointed : IsPointed text
  pub value : decimal_value text ≡ n

-- how far m / 10 ^ k is from f / 65536, in parts of 65536 * 10 ^ k
abbrev pub distance : ℕ → ℕ → ℕ → ℕ
distance k m f = (one * m - 10 ^ k * f) + (10 ^ k * f - one * m)

-- the digits after the point are so many
abbrev pub places : List ℕ → ℕ
places text = length (part_digits text)

-- the number that all its digits write, as if they had no point: 2845274 for `28.45274`
abbrev pub number_without_point : List ℕ → ℕ
number_without_point text = digits_value 10 (whole_digits text ++ part_digits text)

-- how far a text is from n 65536ths, in parts of its last place
abbrev pub distance_from : ℕ → List ℕ → ℕ
distance_from n text = distance (places text) (number_without_point text) n

-- of all texts that read back as n 65536ths this has the fewest places, then is the nearest, then the greatest
pub record IsChosen (n : ℕ) (text : List ℕ) : Type 0 where
  pub reads : ReadsBack n text
  pub fewest : (other : List ℕ) → ReadsBack n other → places text ≤ places other
  pub nearest : (other : List ℕ)
      → ReadsBack n other
      → places other ≡ places text
      → distance_from n text ≤ distance_from n other
  pub greatest : (other : List ℕ)
      → ReadsBack n other
      → places other ≡ places text
      → distance_from n text ≡ distance_from n other
      → number_without_point other ≤ number_without_point text

-- a minus before a negative number
abbrev pub sign_text : ℤ → List ℕ
sign_text (pos n) = []
sign_text (negsuc n) = codes "-"

-- the digit 0 alone
abbrev pub is_lone_zero : List ℕ → Bool
is_lone_zero [] = false
is_lone_zero (d ∷ []) = d == 48
is_lone_zero (d ∷ (e ∷ ds)) = false

-- a text without `.0` at its end: `28` for `28.0`
abbrev pub without_zero : List ℕ → List ℕ
without_zero text = if is_lone_zero (part_digits text) then whole_digits text else text

-- TeX's text of z 65536ths: the sign and the chosen text of the absolute value (Knuth, TeX: The Program, section 103)
pub record IsPointedTextOf (z : ℤ) (text : List ℕ) : Type 0 where
  pub size : List ℕ
  pub chosen : IsChosen (unsigned_abs z) size
  pub written : text ≡ sign_text z ++ size

-- the text of z 65536ths: the same without `.0` at its end
pub record IsTextOf (z : ℤ) (text : List ℕ) : Type 0 where
  pub size : List ℕ
  pub chosen : IsChosen (unsigned_abs z) size
  pub written : text ≡ sign_text z ++ without_zero size

-- ---- the text, found

-- n digits, which write m: `007` for 3 and 7
abbrev pub fixed_digits : ℕ → ℕ → List ℕ
fixed_digits zero m = []
fixed_digits (suc n) m = fixed_digits n (m / 10) ++ (48 + m % 10) ∷ []

-- the n digits nearest to a fraction of 65536ths, ties upward
abbrev pub nearest_digits : ℕ → ℕ → ℕ
nearest_digits n f = (2 * 10 ^ n * f + one) / 131072

-- these digits read back as that fraction
abbrev pub reads_back : ℕ → ℕ → Bool
reads_back n f = nearest_65536th n (nearest_digits n f) == f

-- the least count of digits, from one to five, that reads back
abbrev pub fewest_digits : ℕ → ℕ
fewest_digits f =
    if reads_back 1 f then 1 else
    (if reads_back 2 f then 2 else
    (if reads_back 3 f then 3 else
    (if reads_back 4 f then 4 else 5)))

-- the digits after the point of a fraction
abbrev pub part_text : ℕ → List ℕ
part_text f = fixed_digits (fewest_digits f) (nearest_digits (fewest_digits f) f)

-- the text with a point: `-0.4` for -26214, `1.0` for 65536
abbrev pub pointed_text : ℤ → List ℕ
pointed_text z = sign_text z ++ decimal (unsigned_abs z / one) ++ point ∷ part_text (unsigned_abs z % one)

-- the same without a point where none is needed: `-0.4` for -26214, `1` for 65536
unfoldable pub text_of : ℤ → List ℕ
text_of z =
    sign_text z
    ++ decimal (unsigned_abs z / one)
    ++ (if unsigned_abs z % one == 0 then [] else point ∷ part_text (unsigned_abs z % one))

-- the text without its sign
abbrev pub unsigned_text : ℤ → List ℕ
unsigned_text z = text_of (pos (unsigned_abs z))

-- m, written with n digits, reads as the fraction
pub record ReadsAs (f n m : ℕ) : Type 0 where
  pub some : 1 ≤ n
  pub most : n ≤ 5
  pub digits : m < 10 ^ n
  pub reads : nearest_65536th n m ≡ f

-- of all digits that read as the fraction these are the fewest, then the nearest, then the greatest
pub record IsBest (f n m : ℕ) : Type 0 where
  pub reads : ReadsAs f n m
  pub fewest : (k d : ℕ) → ReadsAs f k d → n ≤ k
  pub nearest : (d : ℕ) → ReadsAs f n d → distance n m f ≤ distance n d f
  pub greatest : (d : ℕ) → ReadsAs f n d → distance n m f ≡ distance n d f → d ≤ m
