-- Runs of letters in front of tokens.
use Rattle.std.proofs.Common.{◌≡◌, ℕ, ◌<◌, ◌≤◌, Bool, true, false, ◌&&◌, leb, List, [], ◌∷◌, length, map, take, drop, refl, ap, arith, one-add}
use Rattle.std.specs.List.{prefix_len}
use Rattle.std.specs.Str.{bytes_eq}
use Rattle.std.proofs.lemmas.Bool.{leb-true}
use Rattle.std.proofs.lemmas.Bool.Decides.{nat_tests}
use Rattle.std.proofs.lemmas.Slice.Eq.{bytes_eq-Decides}
use Rattle.tk_token.proofs.Ascii.{front_and, back_and}
use Rattle.tk_token.specs.Cutting.{is_letter}
use Rattle.tk_token.specs.declared.Kind.{Kind}
use Rattle.tk_token.specs.declared.Kind.TheVariants.{Char, Word, Symbol, Open, Close, Param, Arg, Space}
use Rattle.tk_token.specs.declared.Tok.{Tok}
use Rattle.tk_expr.specs.declared.pieces.Mark.{Mark}
use Rattle.tk_expr.specs.declared.pieces.Mark.TheVariants.{Word as Word_mark}
use Rattle.tk_expr.specs.Pieces.{Letters, with_letter, lumps_of, piece_of, pieces_of, word_mark, rows, mark_in}
use Rattle.tk_expr.specs.Letters.{is_letter_kind, is_letter_tok, letter_of, letter_of_kind}

-- a letter before tokens joins the letters in front of them
abbrev Joins : List Tok → Type 0
Joins ts = (c at : ℕ) → with_letter c at (lumps_of ts) ≡ Letters (c ∷ map letter_of (take (prefix_len is_letter_tok ts) ts)) at
    ∷ lumps_of (drop (prefix_len is_letter_tok ts) ts)

join_char : (d place : ℕ) (us : List Tok) (b : Bool) → is_letter d ≡ b → Joins us → Joins (record { kind = Char d; at = place } ∷ us)
join_char d place us true e ih c at = rw (e, one-add) (ap (with_letter c at) (ih d place))
join_char d place us false e ih c at = rw (e, e) refl

join_kind : (kind : Kind) (place : ℕ) (us : List Tok) → Joins us → Joins (record { kind = kind; at = place } ∷ us)
join_kind (Char d) place us ih c at = join_char d place us (is_letter d) refl ih c at
join_kind (Word n) place us ih c at = refl
join_kind (Symbol d) place us ih c at = refl
join_kind Open place us ih c at = refl
join_kind Close place us ih c at = refl
join_kind Param place us ih c at = refl
join_kind (Arg n) place us ih c at = refl
join_kind Space place us ih c at = refl

letters_join : (ts : List Tok) → Joins ts
letters_join [] c at = refl
letters_join (t ∷ ts) c at = join_kind t.kind t.at ts (letters_join ts) c at

run_of : (kind : Kind) (at : ℕ) (ts : List Tok) → is_letter_kind kind ≡ true
    → lumps_of (record { kind = kind; at = at } ∷ ts)
    ≡ Letters (map letter_of (take (prefix_len is_letter_tok (record { kind = kind; at = at } ∷ ts)) (record { kind = kind; at = at } ∷ ts))) at
    ∷ lumps_of (drop (prefix_len is_letter_tok (record { kind = kind; at = at } ∷ ts)) (record { kind = kind; at = at } ∷ ts))
run_of (Char c) at ts e = rw (e, one-add) (letters_join ts c at)
run_of (Word n) at ts e = absurd (cc)
run_of (Symbol d) at ts e = absurd (cc)
run_of Open at ts e = absurd (cc)
run_of Close at ts e = absurd (cc)
run_of Param at ts e = absurd (cc)
run_of (Arg n) at ts e = absurd (cc)
run_of Space at ts e = absurd (cc)

-- a letter in front makes a piece with the letters behind it
pub letters_in_front : (list : List Tok) (t : Tok) (ts : List Tok) (n : ℕ) → list ≡ t ∷ ts → is_letter_kind t.kind ≡ true
    → n ≡ prefix_len is_letter_tok list
    → pieces_of list ≡ record { mark = word_mark (map letter_of (take n list)); at = t.at } ∷ pieces_of (drop n list)
letters_in_front list t ts n is letter count = rw (count, is) (ap (map piece_of) (run_of t.kind t.at ts letter))

small_letter : (c : ℕ) → is_letter c ≡ true → c < 128
small_letter c h = grind (arith, nat_tests)

-- letters are ASCII
pub letter_is_small : (kind : Kind) → is_letter_kind kind ≡ true → letter_of_kind kind < 128
letter_is_small (Char c) e = small_letter c e
letter_is_small (Word n) e = omega arith
letter_is_small (Symbol d) e = omega arith
letter_is_small Open e = omega arith
letter_is_small Close e = omega arith
letter_is_small Param e = omega arith
letter_is_small (Arg n) e = omega arith
letter_is_small Space e = omega arith

-- ---- words that are longer than each name

-- texts of different lengths differ
other_length : (xs ys : List ℕ) (b : Bool) → bytes_eq xs ys ≡ b → length ys < length xs → b ≡ false
other_length xs ys true e more = absurd (let same = (bytes_eq-Decides xs ys).0 e in omega (arith, ap length same))
other_length xs ys false e more = refl

short_rows : List (List ℕ × Mark) → Bool
short_rows [] = true
short_rows (row ∷ rows) = leb (length row.0) 6 && short_rows rows

no_row : (rows : List (List ℕ × Mark)) (text : List ℕ) → short_rows rows ≡ true → 6 < length text → mark_in rows text ≡ Word_mark
unfolding short_rows
no_row [] text h long = refl
no_row (row ∷ rows) text h long =
    let short : length row.0 ≤ 6 = leb-true _ _ (front_and _ _ h) in
    let other : bytes_eq text row.0 ≡ false = other_length text row.0 (bytes_eq text row.0) refl (omega arith) in
    rw other (no_row rows text (back_and _ _ h) long)

-- a long word is no name
pub long_word : (text : List ℕ) → 6 < length text → word_mark text ≡ Word_mark
unfolding word_mark short_rows
long_word text long = no_row rows text refl long
