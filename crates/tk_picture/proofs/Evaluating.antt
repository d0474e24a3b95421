-- Where the faults of expressions stand: at places of the text, or where an empty one is. And their values are in range.
use Rattle.std.specs.Prelude.{ℕ, List}
use Rattle.tk_expr.specs.Evaluated.{evaluated}
use Rattle.tk_expr.proofs.Places.{evaluated_at}
use Rattle.tk_expr.proofs.Ranges.{evaluates_within}
use Rattle.tk_expr.proofs.Runs.{evaluated_is_the_answer}
use Rattle.tk_keys.proofs.DeedPlaces.{EvaluatesAt}
use Rattle.tk_picture.specs.Outcome.{font_units}

module _ (P : ℕ → Type 0) where
  pub evaluates_at : (names : List (List ℕ)) (budget : ℕ)
      → EvaluatesAt P (record { names = names; evaluate = evaluated; font = font_units; budget = budget })
  evaluates_at names budget = record {
    faults = (λ at list p h. evaluated_at font_units at list P p h);
    values = (λ out beyond at list. evaluates_within font_units at list (evaluated font_units at list)
        (evaluated_is_the_answer font_units at list));
  }
