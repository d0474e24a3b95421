-- The digits of tokens' pieces are below ten.
use Rattle.std.proofs.Common.{◌≡◌, ℕ, ◌-◌, ◌==◌, Bool, true, false, cond, List, [], ◌∷◌, map, refl, arith, lt-ltb}
use Rattle.std.specs.Prelude.{Option, Some, unwrap_or}
use Rattle.std.specs.Char.{is_ascii_digit}
use Rattle.std.specs.List.{AllByRecursion}
use Rattle.std.specs.Str.{bytes_eq}
use Rattle.tk_characters.specs.Words.{word_meaning}
use Rattle.tk_num.proofs.Digits.{digit_bounds}
use Rattle.tk_token.specs.declared.Kind.{Kind}
use Rattle.tk_token.specs.declared.Kind.TheVariants.{Char, Open, Close, Space}
use Rattle.tk_token.specs.declared.Tok.{Tok}
use Rattle.tk_expr.specs.declared.pieces.Mark.{Mark}
use Rattle.tk_expr.specs.declared.pieces.Mark.TheVariants.{Digit, Word}
use Rattle.tk_expr.specs.declared.pieces.Piece.{Piece}
use Rattle.tk_expr.specs.Pieces.{rows, digit_zero, mark_in, word_mark, mark_at, signs, char_mark, mark_of, Lump, Letters, Alone, lumps_of}
use Rattle.tk_expr.specs.Pieces.{piece_of, pieces_of}
use Rattle.tk_expr.proofs.Outcomes.{Proper}

abbrev pub AllProper : List Piece → Type 0
AllProper ps = AllByRecursion (λ (p : Piece). Proper p.mark) ps

proper_if : (b : Bool) (m n : Mark) → Proper m → Proper n → Proper (cond b m n)
proper_if true m n h k = h
proper_if false m n h k = k

proper_or_word : (b : Bool) (m : Mark) (o : Option Mark) → Proper m → Proper (unwrap_or o Word) → Proper (unwrap_or (cond b (Some m) o) Word)
proper_or_word true m o h k = h
proper_or_word false m o h k = k

proper_row : (table : List (List ℕ × Mark)) (text : List ℕ) → AllByRecursion (λ (r : List ℕ × Mark). Proper r.1) table → Proper (mark_in table text)
proper_row [] text h = tt
proper_row (r ∷ table) text h = proper_or_word (bytes_eq text r.0) r.1 (word_meaning table text) h.0 (proper_row table text h.1)

proper_word : (text : List ℕ) → Proper (word_mark text)
unfolding word_mark
proper_word text = proper_row rows text (
  tt,
  (
    tt,
    (
      tt,
      (
        tt,
        (
          tt,
          (
            tt,
            (tt, (tt, (tt, (tt, (tt, (tt, (tt, (tt, (tt, (tt, (tt, (tt, (tt, (tt, (tt, (tt, (tt, (tt, (tt, (tt, (tt, (tt, tt)))))))))))))))))))))),
          ),
        ),
      ),
    ),
  ),
)

proper_sign : (table : List (ℕ × Mark)) (c : ℕ) → AllByRecursion (λ (r : ℕ × Mark). Proper r.1) table → Proper (mark_at table c)
proper_sign [] c h = tt
proper_sign (r ∷ table) c h = proper_if (c == r.0) r.1 (mark_at table c) h.0 (proper_sign table c h.1)

proper_char : (c : ℕ) → Proper (char_mark c)
unfolding char_mark
proper_char c = by (is_ascii_digit c) refl
  where
    by : (b : Bool) → is_ascii_digit c ≡ b → Proper (cond b (Digit (c - digit_zero)) (mark_at signs c))
    by true e = let d = digit_bounds c e in lt-ltb (c - digit_zero) 10 (omega (arith, d))
    by false e = proper_sign signs c (tt, (tt, (tt, (tt, (tt, (tt, (tt, (tt, (tt, (tt, (tt, (tt, (tt, (tt, (tt, (tt, (tt, tt)))))))))))))))))

proper_mark : (kind : Kind) → Proper (mark_of kind)
proper_mark (Char c) = proper_char c
proper_mark Open = tt
proper_mark Close = tt
proper_mark Space = tt
proper_mark _ = tt

proper_lump : (lump : Lump) → Proper (piece_of lump).mark
proper_lump (Letters text at) = proper_word text
proper_lump (Alone kind at) = proper_mark kind

proper_lumps : (lumps : List Lump) → AllProper (map piece_of lumps)
proper_lumps [] = tt
proper_lumps (lump ∷ lumps) = (proper_lump lump, proper_lumps lumps)

pub pieces_are_proper : (toks : List Tok) → AllProper (pieces_of toks)
pieces_are_proper toks = proper_lumps (lumps_of toks)
