-- The parts of a key list stand at places of the list.
use Rattle.std.specs.Prelude.{ℕ, zero, suc, ◌+◌, ◌-◌, ◌<◌, Bool, true, false, if◌then◌else◌, List, [], ◌∷◌, ◌++◌, length, take, unwrap_or, Option}
use Rattle.std.specs.Prelude.{Some, None, IfSome}
use Rattle.std.proofs.Common.{sym, subst, arith}
use Rattle.std.specs.List.{AllByRecursion, prefix_len, suffix_len, list_all}
use Rattle.tk_characters.specs.Characters.{comma, equals}
use Rattle.tk_token.specs.declared.Tok.{Tok}
use Rattle.tk_token.specs.Groups.{Cut, cut, group_of, before_char, alone, contents, unbraced}
use Rattle.tk_token.specs.Kinds.{is_open}
use Rattle.tk_token.specs.Spaces.{is_space_token, after_spaces, before_spaces, trimmed}
use Rattle.tk_token.proofs.Outside.{before_char_keeps, before_char_shorter, group_keeps}
use Rattle.tk_expand.proofs.Places.{StandAt, CutAt, dropped_at}
use Rattle.tk_keytext.specs.Parts.{KeyPart, part_by, part_of, first_piece, parts_of}
use Rattle.tk_keytext.proofs.Pieces.{parts_is}

module _ (P : ℕ → Type 0) where
  -- the tokens of a part stand at such places
  pub record PartAt (p : KeyPart) : Type 0 where
    pub name : StandAt P p.name
    pub value : IfSome p.value (StandAt P)
    pub at : P p.at

  abbrev pub AllParts : List KeyPart → Type 0
  AllParts ps = AllByRecursion PartAt ps

  front_at : (n : ℕ) (ts : List Tok) → StandAt P ts → StandAt P (take n ts)
  front_at zero ts h = tt
  front_at (suc n) [] h = tt
  front_at (suc n) (t ∷ ts) h = (h.0, front_at n ts h.1)

  spaces_at : (ts : List Tok) → StandAt P ts → StandAt P (after_spaces ts)
  spaces_at ts h = dropped_at P (prefix_len is_space_token ts) ts h

  before_at : (ts : List Tok) → StandAt P ts → StandAt P (before_spaces ts)
  unfolding before_spaces
  before_at ts h = front_at (length ts - suffix_len is_space_token ts) ts h

  pub trimmed_at : (ts : List Tok) → StandAt P ts → StandAt P (trimmed ts)
  trimmed_at ts h = before_at (after_spaces ts) (spaces_at ts h)

  alone_at : (o : Option Cut) → IfSome o (CutAt P) → IfSome (alone o) (StandAt P)
  alone_at None h = tt
  alone_at (Some c) h = by (list_all is_space_token c.rest)
    where
      by : (b : Bool) → IfSome (let r : Option (List Tok) = if b then Some c.front else None in r) (StandAt P)
      by true = h.0
      by false = tt

  contents_at : (ts : List Tok) → StandAt P ts → IfSome (contents ts) (StandAt P)
  contents_at [] h = tt
  contents_at (t ∷ ts) h = by (is_open t.kind)
    where
      by : (b : Bool) → IfSome (let r : Option (List Tok) = if b then alone (group_of ts) else None in r) (StandAt P)
      by true = alone_at (group_of ts) (group_keeps (λ (t : Tok). P t.at) ts h.1)
      by false = tt

  unbraced_at : (ts : List Tok) → StandAt P ts → StandAt P (unbraced ts)
  unfolding unbraced
  unbraced_at ts h = by (contents (after_spaces ts)) (contents_at (after_spaces ts) (spaces_at ts h))
    where
      by : (o : Option (List Tok)) → IfSome o (StandAt P) → StandAt P (unwrap_or o ts)
      by None k = h
      by (Some us) k = k

  part_by_at : (at : ℕ) (ts : List Tok) (o : Option Cut) → P at → StandAt P ts → IfSome o (CutAt P) → PartAt (part_by at ts o)
  part_by_at at ts None p h k = record { name = trimmed_at ts h; value = tt; at = p }
  part_by_at at ts (Some c) p h k = record { name = trimmed_at c.front k.0; value = unbraced_at (trimmed c.rest) (trimmed_at c.rest k.1); at = p }

  part_of_at : (ts : List Tok) → StandAt P ts → AllParts (part_of ts)
  part_of_at [] h = tt
  part_of_at (t ∷ ts) h =
      (part_by_at t.at (t ∷ ts) (before_char equals (t ∷ ts)) h.0 h (before_char_keeps (λ (t : Tok). P t.at) equals (t ∷ ts) h), tt)

  joined : (ps qs : List KeyPart) → AllParts ps → AllParts qs → AllParts (ps ++ qs)
  joined [] qs h k = k
  joined (p ∷ ps) qs h k = (h.0, joined ps qs h.1 k)

  piece_at : (ts : List Tok) → StandAt P ts → (o : Option Cut) → IfSome o (CutAt P) → CutAt P (unwrap_or o (cut ts []))
  piece_at ts h None k = (h, tt)
  piece_at ts h (Some c) k = k

  shorter : (t : Tok) (ts : List Tok) (o : Option Cut) → IfSome o (λ c. length c.front + length c.rest < length (t ∷ ts))
      → length (unwrap_or o (cut (t ∷ ts) [])).rest < length (t ∷ ts)
  shorter t ts None h = omega arith
  shorter t ts (Some c) h = omega arith

  by_length : (n : ℕ) (ts : List Tok) → length ts < n → StandAt P ts → AllParts (parts_of ts)
  by_length zero ts lt h = absurd (omega arith)
  by_length (suc n) [] lt h = subst AllParts (sym (parts_is [])) tt
  by_length (suc n) (t ∷ ts) lt h =
      let piece = first_piece (t ∷ ts) in
      let k = piece_at (t ∷ ts) h (before_char comma (t ∷ ts)) (before_char_keeps (λ (t : Tok). P t.at) comma (t ∷ ts) h) in
      let less = shorter t ts (before_char comma (t ∷ ts)) (before_char_shorter comma (t ∷ ts)) in
      subst AllParts (sym (parts_is (t ∷ ts))) (joined (part_of (after_spaces piece.front)) (parts_of piece.rest)
      (part_of_at (after_spaces piece.front) (spaces_at piece.front k.0)) (by_length n piece.rest (omega arith) k.1))

  pub parts_at : (ts : List Tok) → StandAt P ts → AllParts (parts_of ts)
  parts_at ts h = by_length (suc (length ts)) ts (omega arith) h
