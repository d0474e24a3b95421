use Rattle.std.specs.Prelude.{option_copied, List, ℕ, Option, ◌∷◌}
use Rattle.std.proofs.Common.{Bor, ap, sym, ◌∙◌}
use Rattle.tk_look.specs.Colours.{mixed_with}
use Rattle.tk_look.specs.Pieces.{pieces_behind}
use Rattle.tk_look.proofs.Splitting.{share_mixes}
use Rattle.tk_look.proofs.colours.mix_first.Goals as goal

pub returns-in_ok-colour_named-in-Some-clause-mixes : goal.returns-in_ok-colour_named-in-Some-clause-mixes
returns-in_ok-colour_named-in-Some-clause-mixes c =
    let more = pieces_behind (option_copied c.first_piece-in-Some.result.1) in
    let first = c.first_piece.ensures.pieces ∙ ap (λ (o : Option (Bor (List ℕ))). c.first_piece.result.0.now ∷ pieces_behind (option_copied o))
    c.in-Some.is in
    share_mixes c.args.so_far c.in_ok-colour_named-in-Some.field-0 c.args.pieces.now c.first_piece.result.0.now c.in-Some.rest.now
    c.first_piece-in-Some.result.0.now more c.in_ok-percent.percent
    first c.first_piece-in-Some.ensures.pieces c.in_ok-percent.ensures.value c.in_ok-colour_named-in-Some.ensures
    ∙ ap (λ so_far. mixed_with so_far more) (sym c.mixed.ensures)
