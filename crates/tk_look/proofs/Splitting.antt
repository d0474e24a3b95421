-- The first piece of a text, and those behind it.
use Rattle.std.specs.Prelude.{◌≡◌, ℕ, ◌<◌, ◌==◌, Bool, List, [], ◌∷◌, length, Option, Some, None, ◌+◌, false}
use Rattle.std.specs.List.{before_first, after_first, position_or_len}
use Rattle.std.proofs.Common.{ap, sym, arith, ◌∙◌}
use Rattle.std.proofs.lemmas.List.Elements.{All-from_get_or}
use Rattle.std.proofs.lemmas.List.Splits.{slice_split_none, slice_split_first}
use Rattle.std.proofs.lemmas.List.Sums.{fails_before_first}
use Rattle.tk_characters.specs.Characters.{exclamation_mark}
use Rattle.tk_characters.specs.Options.{◌and_then◌}
use Rattle.tk_item.specs.declared.Rgb.{Rgb}
use Rattle.tk_look.specs.Colours.{pieces_between, percentage, colour_named, mixed, mixed_with}

-- a `!`
abbrev is_mark : ℕ → Bool
is_mark c = c == exclamation_mark

-- a text without one is the one piece
pub one_piece : (text : List ℕ) → position_or_len is_mark text ≡ length text → pieces_between text ≡ text ∷ []
one_piece text none =
    slice_split_none is_mark text (All-from_get_or (λ (c : ℕ). is_mark c ≡ false) text 0 (λ i l. fails_before_first is_mark text i 0
    (omega (arith, none))))

-- another has what stands before it as its first piece
pub more_pieces : (text front rest : List ℕ) → position_or_len is_mark text < length text → front ≡ before_first is_mark text
    → rest ≡ after_first is_mark text → pieces_between text ≡ front ∷ pieces_between rest
more_pieces text front rest l f r =
    slice_split_first is_mark text 0 l
    ∙ ap (λ (front : List ℕ). front ∷ pieces_between (after_first is_mark text)) (sym f)
    ∙ ap (λ (rest : List ℕ). front ∷ pieces_between rest) (sym r)

-- a name behind a share is mixed with the colour so far, and the others follow
pub share_mixes : (so_far other : Rgb) (pieces share rest name : List ℕ) (more : List (List ℕ)) (percent : ℕ)
    → pieces_between pieces ≡ share ∷ pieces_between rest
    → pieces_between rest ≡ name ∷ more
    → Some percent ≡ percentage share
    → Some other ≡ colour_named name
    → mixed_with so_far (pieces_between pieces) ≡ mixed_with (mixed percent so_far other) more
share_mixes so_far other pieces share rest name more percent first second share_is name_is =
    ap (mixed_with so_far) (first ∙ ap (λ (ps : List (List ℕ)). share ∷ ps) second)
    ∙ ap (λ (o : Option ℕ). o and_then λ percent. colour_named name and_then λ other. mixed_with (mixed percent so_far other) more) (sym share_is)
    ∙ ap (λ (o : Option Rgb). o and_then λ other. mixed_with (mixed percent so_far other) more) (sym name_is)

-- how much text is left
abbrev pub left_of : Option (List ℕ) → ℕ
left_of None = 0
left_of (Some text) = 1 + length text
