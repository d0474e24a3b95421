-- Key lists are the parts of their first pieces, and the parts behind those.
use Rattle.std.proofs.Common.{◌≡◌, ℕ, ◌+◌, ◌<◌, List, [], ◌∷◌, ◌++◌, length, Option, Some, None, IfSome, refl, sym, ap, subst, ◌∙◌, arith}
use Rattle.std.specs.Prelude.{unwrap_or}
use Rattle.tk_token.specs.declared.Tok.{Tok}
use Rattle.tk_characters.specs.Characters.{comma}
use Rattle.tk_token.specs.Groups.{Cut, cut, before_char}
use Rattle.tk_token.specs.Recursion.{by_size, AsksSmaller}
use Rattle.tk_token.specs.Spaces.{after_spaces}
use Rattle.tk_token.proofs.Fixpoint.{independent, unbounded}
use Rattle.tk_token.proofs.Outside.{before_char_shorter}
use Rattle.tk_keytext.specs.Parts.{KeyPart, part_of, first_piece, parts_step, parts_of}

-- ---- what a search finds

-- what is left behind it is shorter
pub found_shorter : (c : ℕ) (ts front rest : List Tok) → before_char c ts ≡ Some (cut front rest) → length rest < length ts
found_shorter c ts front rest found =
    let h : length front + length rest < length ts = subst (λ (o : Option Cut). IfSome o (λ c. length c.front + length c.rest < length ts)) found
    (before_char_shorter c ts) in omega arith

-- ---- the first piece

first_shorter : (t : Tok) (ts : List Tok) (o : Option Cut) → IfSome o (λ c. length c.front + length c.rest < length (t ∷ ts))
    → length (unwrap_or o (cut (t ∷ ts) [])).rest < length (t ∷ ts)
first_shorter t ts None h = omega arith
first_shorter t ts (Some c) h = omega arith

parts_ask : AsksSmaller length parts_step
parts_ask f g [] alike = refl
parts_ask f g (t ∷ ts) alike =
    ap (λ (parts : List KeyPart). part_of (after_spaces (first_piece (t ∷ ts)).front) ++ parts)
    (alike (first_piece (t ∷ ts)).rest (first_shorter t ts (before_char comma (t ∷ ts)) (before_char_shorter comma (t ∷ ts))))

pub parts_is : (ts : List Tok) → parts_of ts ≡ parts_step parts_of ts
unfolding parts_of
parts_is ts = unbounded length [] parts_step parts_ask ts

pub parts_stuck : (stuck : List KeyPart) (ts : List Tok) → parts_of ts ≡ by_size length stuck parts_step ts
unfolding parts_of
parts_stuck stuck ts = independent length parts_step parts_ask [] stuck ts

-- ---- one piece after the other

-- no part is left where no token is
pub no_parts : (ts : List Tok) → length ts ≡ 0 → parts_of ts ≡ []
no_parts [] e = parts_is []
no_parts (t ∷ ts) e = absurd (omega arith)

module _ (ts front rest : List Tok) (some : 0 < length ts) (piece : cut front rest ≡ first_piece ts) where
  step_at : (ts : List Tok) → 0 < length ts → parts_of ts ≡ part_of (after_spaces (first_piece ts).front) ++ parts_of (first_piece ts).rest
  step_at [] some = absurd (omega arith)
  step_at (t ∷ ts) some = parts_is (t ∷ ts)

  with_piece : parts_of ts ≡ part_of (after_spaces front) ++ parts_of rest
  with_piece = step_at ts some ∙ ap (λ (c : Cut). part_of (after_spaces c.front) ++ parts_of c.rest) (sym piece)

  -- a piece without a part
  pub goes_on : [] ≡ part_of (after_spaces front) → parts_of ts ≡ parts_of rest
  goes_on none = with_piece ∙ ap (λ (parts : List KeyPart). parts ++ parts_of rest) (sym none)

  -- a piece with a part
  pub gives_part : (part : KeyPart) → part ∷ [] ≡ part_of (after_spaces front) → parts_of ts ≡ part ∷ parts_of rest
  gives_part part is = with_piece ∙ ap (λ (parts : List KeyPart). parts ++ parts_of rest) (sym is)
