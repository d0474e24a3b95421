-- What the printing calls put together.
use Rattle.std.proofs.Common.{◌≡◌, ◌≢◌, ℕ, ◌/◌, ◌%◌, ◌^◌, ◌<◌, ◌≤◌, Bool, true, false, eqb, List, [], ◌∷◌, ◌++◌, length, ℤ, unsigned_abs, refl}
use Rattle.std.proofs.Common.{sym, ap, subst, lit<, eq-eqb, ◌∙◌, arith, append_assoc, append-nil, SFits}
use Rattle.std.specs.Prelude.{negsuc, pos, IsAscii, IsUtf8}
use Rattle.std.proofs.lemmas.Bool.{eqb-true}
use Rattle.std.proofs.lemmas.Bool.Decides.{nat_tests}
use Rattle.std.proofs.lemmas.Str.{IsAscii-append, IsUtf8-from_ascii}
use Rattle.std.proofs.lemmas.Str.Ascii.{IsAscii-nil, IsAscii-cons}
use Rattle.std.proofs.lemmas.Fmt.{length-decimal-le, IsAscii-decimal, IsAscii-from_digits}
use Rattle.std.specs.Fmt.{decimal}
use Rattle.std.specs.Int.{w64}
use Rattle.std.proofs.Math.Facts.{Fits-nat_abs}
use Rattle.tk_num.proofs.Fixed.{fixed_all}
use Rattle.tk_num.specs.Text.{sign_text, part_text, fewest_digits, nearest_digits, pointed_text, text_of}

pub length-whole : (w : ℕ) → w ≤ 140737488355328 → length (decimal w) ≤ 15
length-whole w le = length-decimal-le 15 w (omega arith) (omega arith) (omega arith)

not_zero : (n : ℕ) → n ≢ 0 → eqb n 0 ≡ false
not_zero n ne = grind (arith, nat_tests)

-- behind the sign and the whole part a point, and the digits after it
pub put_pointed : (z : ℤ) (f : ℕ) (before front pointed all : List ℕ)
    → front ≡ before ++ (sign_text z ++ decimal (unsigned_abs z / 65536))
    → f ≡ unsigned_abs z % 65536
    → pointed ≡ front ++ 46 ∷ []
    → all ≡ pointed ++ part_text f
    → all ≡ before ++ pointed_text z
put_pointed z f before front pointed all e part p a =
    a
    ∙ ap (λ ds. ds ++ part_text f) p
    ∙ append_assoc front (46 ∷ []) (part_text f)
    ∙ ap (λ ds. ds ++ 46 ∷ part_text f) e
    ∙ append_assoc before (sign_text z ++ decimal (unsigned_abs z / 65536)) (46 ∷ part_text f)
    ∙ ap (λ n. before ++ (sign_text z ++ decimal (unsigned_abs z / 65536) ++ 46 ∷ part_text n)) part

pub text-pointed : (z : ℤ) → unsigned_abs z % 65536 ≢ 0 → pointed_text z ≡ text_of z
unfolding text_of
text-pointed z ne = rw (not_zero (unsigned_abs z % 65536) ne) refl

pub text-whole : (z : ℤ) → unsigned_abs z % 65536 ≡ 0 → sign_text z ++ decimal (unsigned_abs z / 65536) ≡ text_of z
unfolding text_of
text-whole z e = rw e (sym (append-nil (sign_text z ++ decimal (unsigned_abs z / 65536))))

-- the sign and the whole part alone
pub put_whole : (z : ℤ) (f : ℕ) (before front : List ℕ)
    → front ≡ before ++ (sign_text z ++ decimal (unsigned_abs z / 65536))
    → f ≡ unsigned_abs z % 65536
    → f ≡ 0
    → front ≡ before ++ text_of z
put_whole z f before front e part none = e ∙ ap (λ ds. before ++ ds) (text-whole z (sym part ∙ none))

-- what is put behind nothing is all
pub text_behind_nothing : (before text all : List ℕ) → all ≡ before ++ text → before ≡ [] → all ≡ text
text_behind_nothing before text all e none = e ∙ ap (λ ds. ds ++ text) none

-- ---- all is ASCII

part_ascii : (f : ℕ) → IsAscii (part_text f)
part_ascii f = IsAscii-from_digits (part_text f) (fixed_all (fewest_digits f) (nearest_digits (fewest_digits f) f))

sign_ascii : (z : ℤ) → IsAscii (sign_text z)
sign_ascii (pos n) = IsAscii-nil
sign_ascii (negsuc n) = IsAscii-cons 45 [] (lit< tt) IsAscii-nil

front_ascii : (z : ℤ) → unsigned_abs z < 2 ^ 64 → IsAscii (sign_text z ++ decimal (unsigned_abs z / 65536))
front_ascii z lt = IsAscii-append (sign_text z) _ (sign_ascii z) (IsAscii-decimal (unsigned_abs z / 65536) (omega arith))

pointed_ascii : (z : ℤ) → unsigned_abs z < 2 ^ 64 → IsAscii (pointed_text z)
pointed_ascii z lt =
    let part = part_ascii (unsigned_abs z % 65536) in
    IsAscii-append (sign_text z ++ decimal (unsigned_abs z / 65536)) (46 ∷ part_text (unsigned_abs z % 65536)) (front_ascii z lt)
    (IsAscii-cons 46 _ (lit< tt) part)

text_ascii : (z : ℤ) → unsigned_abs z < 2 ^ 64 → IsAscii (text_of z)
text_ascii z lt = by_test (eqb (unsigned_abs z % 65536) 0) refl
  where
    by_test : (b : Bool) → eqb (unsigned_abs z % 65536) 0 ≡ b → IsAscii (text_of z)
    by_test true e = subst IsAscii (text-whole z (eqb-true _ _ e)) (front_ascii z lt)
    by_test false e =
        subst IsAscii (text-pointed z (λ h. let t : eqb (unsigned_abs z % 65536) 0 ≡ true = eq-eqb _ _ h in absurd cc)) (pointed_ascii z lt)

-- so the texts are UTF-8
pub text_utf8 : (z : ℤ) (characters : List ℕ) → unsigned_abs z < 2 ^ 64 → characters ≡ text_of z → IsUtf8 characters
text_utf8 z characters lt e = IsUtf8-from_ascii characters (subst IsAscii (sym e) (text_ascii z lt))

pub pointed_utf8 : (z : ℤ) (characters : List ℕ) → unsigned_abs z < 2 ^ 64 → characters ≡ pointed_text z → IsUtf8 characters
pointed_utf8 z characters lt e = IsUtf8-from_ascii characters (subst IsAscii (sym e) (pointed_ascii z lt))

pub size_fits : (z : ℤ) → SFits w64 z → unsigned_abs z < 2 ^ 64
size_fits z r = let f = Fits-nat_abs {w = w64} {w' = w64} tt r in omega (arith, f)
