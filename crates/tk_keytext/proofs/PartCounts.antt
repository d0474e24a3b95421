-- A key list has no more parts than tokens.
use Rattle.std.specs.Prelude.{◌≡◌, ℕ, zero, suc, ◌+◌, ◌<◌, ◌≤◌, List, [], ◌∷◌, length, unwrap_or, Option, Some, None, IfSome}
use Rattle.std.proofs.Common.{ap, ◌∙◌, arith, length-append}
use Rattle.tk_characters.specs.Characters.{comma}
use Rattle.tk_token.specs.declared.Tok.{Tok}
use Rattle.tk_token.specs.Groups.{Cut, cut, before_char}
use Rattle.tk_token.specs.Spaces.{after_spaces}
use Rattle.tk_token.proofs.Outside.{before_char_shorter}
use Rattle.tk_keytext.specs.Parts.{KeyPart, part_of, first_piece, parts_of}
use Rattle.tk_keytext.proofs.Pieces.{parts_is}

one_at_most : (ts : List Tok) → length (part_of ts) ≤ 1
one_at_most [] = omega arith
one_at_most (t ∷ ts) = omega arith

shorter : (t : Tok) (ts : List Tok) (o : Option Cut) → IfSome o (λ c. length c.front + length c.rest < length (t ∷ ts))
    → length (unwrap_or o (cut (t ∷ ts) [])).rest < length (t ∷ ts)
shorter t ts None h = omega arith
shorter t ts (Some c) h = omega arith

by_length : (n : ℕ) (ts : List Tok) → length ts < n → length (parts_of ts) ≤ length ts
by_length zero ts lt = absurd (omega arith)
by_length (suc n) [] lt = (let none = ap (λ (ps : List KeyPart). length ps) (parts_is []) in omega (arith, none))
by_length (suc n) (t ∷ ts) lt =
    let piece = first_piece (t ∷ ts) in
    let first = part_of (after_spaces piece.front) in
    let less = shorter t ts (before_char comma (t ∷ ts)) (before_char_shorter comma (t ∷ ts)) in
    let few = by_length n piece.rest (omega arith) in
    let one = one_at_most (after_spaces piece.front) in
    let all : length (parts_of (t ∷ ts)) ≡ length first + length (parts_of piece.rest) =
    ap (λ (ps : List KeyPart). length ps) (parts_is (t ∷ ts)) ∙ length-append first (parts_of piece.rest) in
    omega (arith, less, few, one, all)

pub parts_within : (ts : List Tok) → length (parts_of ts) ≤ length ts
parts_within ts = by_length (suc (length ts)) ts (omega arith)
