-- Letters are text.
use Rattle.std.proofs.Common.{◌≡◌, ℕ, zero, suc, ◌<◌, Bool, true, false, ◌&&◌, List, [], ◌∷◌, arith}
use Rattle.std.specs.List.{list_all}
use Rattle.std.specs.Str.{IsAscii, IsUtf8}
use Rattle.std.proofs.lemmas.Bool.{false≢true}
use Rattle.std.proofs.lemmas.Bool.Decides.{nat_tests}
use Rattle.std.proofs.lemmas.Str.{IsUtf8-from_ascii}
use Rattle.tk_token.specs.Cutting.{is_letter, letters_of}
use Rattle.tk_token.proofs.Fronts.{front_passes}

pub front_and : (a b : Bool) → (a && b) ≡ true → a ≡ true
front_and true b e = cc
front_and false b e = absurd (false≢true e)

pub back_and : (a b : Bool) → (a && b) ≡ true → b ≡ true
back_and true b e = e
back_and false b e = absurd (false≢true e)

letter_is_small : (c : ℕ) → is_letter c ≡ true → c < 128
letter_is_small c h = grind (arith, nat_tests)

all_letters : (cs : List ℕ) → list_all is_letter cs ≡ true → IsAscii cs
all_letters [] h i = omega arith
all_letters (c ∷ cs) h zero = letter_is_small c (front_and (is_letter c) (list_all is_letter cs) h)
all_letters (c ∷ cs) h (suc i) = all_letters cs (back_and (is_letter c) (list_all is_letter cs) h) i

-- the letters in front are below 128
pub letters_are_ascii : (cs : List ℕ) → IsAscii (letters_of cs)
letters_are_ascii cs = all_letters (letters_of cs) (front_passes is_letter cs)

-- and are text
pub letters_are_text : (cs : List ℕ) → IsUtf8 (letters_of cs)
letters_are_text cs = IsUtf8-from_ascii (letters_of cs) (letters_are_ascii cs)
