-- How a text goes on behind an operand, with what waits for it and what is open.
use Rattle.std.proofs.Common.{◌≡◌, ◌⊎◌, ℕ, nat_lt, true, List, [], ◌∷◌, Option, Some, None}
use Rattle.tk_expr.specs.declared.FontUnits.{FontUnits}
use Rattle.tk_expr.specs.declared.pieces.Mark.{Mark}
use Rattle.tk_expr.specs.declared.pieces.Mark.TheVariants.{Digit, Equals, Colon, Comma, Left, Right}
use Rattle.tk_expr.specs.declared.pieces.Piece.{Piece}
use Rattle.tk_expr.specs.declared.machine.Waiting.{Waiting}
use Rattle.tk_expr.specs.declared.machine.Pending.{Pending}
use Rattle.tk_expr.specs.declared.machine.Bracket.{Bracket}
use Rattle.tk_expr.specs.declared.machine.Bracket.TheVariants.{Plain, Only, First, Second, Each}
use Rattle.tk_expr.specs.declared.machine.OpenFrame.{OpenFrame}
use Rattle.tk_expr.specs.declared.machine.OpenFrame.TheVariants.{Inside, Then, Else}
use Rattle.tk_expr.specs.declared.machine.Mode.{Mode}
use Rattle.tk_expr.specs.declared.machine.Mode.TheVariants.{Wanted, Ordered, Half, Named, Dot, Number, Measured, After}
use Rattle.tk_expr.specs.Number.{Decimal, no_digits, with_digit}
use Rattle.tk_expr.specs.Grammar.{piece, skip, after_decimal, next_unit, after_unit, Postfixes, Powers, Products, Sums, Comparisons, Conjunctions}
use Rattle.tk_expr.specs.Grammar.{Disjunctions, Begins}
use Rattle.tk_expr.specs.Machine.{Found, ExprState, signed_found, applied, powered, waiting_or_same, choice_found, one_found, two_found, most_found}
use Rattle.tk_expr.proofs.Readings.{decimal_from, decimal_found, Whole, Asks, Part, Goes, Exponential, Further}

-- what is behind a value: a statement about it and the pieces that are left
abbrev pub Behind : Type 1
Behind = Found → List Piece → Type 0

-- a value is read, and behind it the text goes on
pub record Via (reads k : Behind) : Type 0 where
  pub value : Found
  pub rest : List Piece
  pub read : reads value rest
  pub goes : k value rest

module _ (font : FontUnits) where
  -- ---- what waits

  abbrev pub after_disjunction : Behind → Behind
  after_disjunction k x ps = Via (Asks font x ps) k

  abbrev pub after_conjunction : Pending → Behind → Behind
  after_conjunction p k x ps = Via (Goes font Disjunctions (applied p.disjunction x) ps) (after_disjunction k)

  abbrev pub after_comparison : Pending → Behind → Behind
  after_comparison p k x ps = Via (Goes font Conjunctions (applied p.conjunction x) ps) (after_conjunction p k)

  -- a second comparison does not fit
  abbrev pub comparing : Option Waiting → Behind → Behind
  comparing None k x ps = Via (Goes font Comparisons x ps) k
  comparing (Some w) k x ps = k (applied (Some w) x) ps

  abbrev pub after_sum : Pending → Behind → Behind
  after_sum p k x ps = comparing p.comparison (after_comparison p k) x ps

  abbrev pub after_product : Pending → Behind → Behind
  after_product p k x ps = Via (Goes font Sums (applied p.sum x) ps) (after_sum p k)

  abbrev pub after_unsigned : Pending → Behind → Behind
  after_unsigned p k x ps = Via (Goes font Products (applied p.product x) ps) (after_product p k)

  abbrev pub after_signed : Pending → Behind → Behind
  after_signed p k x ps = after_unsigned p k (signed_found p.signs x) ps

  abbrev pub after_postfix : Pending → Behind → Behind
  after_postfix p k x ps = Via (Goes font Powers (powered p x) ps) (after_signed p k)

  abbrev pub after_primary : Pending → Behind → Behind
  after_primary p k x ps = Via (Goes font Postfixes x ps) (after_postfix p k)

  -- an operand, where an operator `^` waits or none does
  abbrev pub wants : Option Waiting → Pending → Behind → List Piece → Type 0
  wants None p k ps = Via (Part font Products ps) (after_signed p k)
  wants (Some w) p k ps = Via (Exponential font ps) (after_postfix p k)

  -- ---- what is open

  abbrev pub closes : Behind → Behind
  closes k x ps = (at : ℕ) × (qs : List Piece) × Begins Right at ps qs × k x qs

  abbrev pub in_bracket : Bracket → Behind → Behind
  in_bracket Plain k x ps = closes k x ps
  in_bracket (Only f at) k x ps = closes k (one_found f at x) ps
  in_bracket (First f at) k x ps = (n : ℕ) × (qs : List Piece) × Begins Comma n ps qs × Via (Whole font qs) (λ y rs. closes k (two_found f at x y) rs)
  in_bracket (Second f at y) k x ps = closes k (two_found f at y x) ps
  in_bracket (Each f y) k x ps = Via (Further font f (most_found f y x) ps) k

  -- behind an expression that ended, with v as the value in the end
  abbrev pub ends_in : List OpenFrame → Found → Behind
  ends_in [] v x ps = (v ≡ x) × (skip ps ≡ [])
  ends_in (Inside b p ∷ fs) v x ps = in_bracket b (after_primary p (ends_in fs v)) x ps
  ends_in (Then c ∷ fs) v x ps =
      (n : ℕ) × (qs : List Piece) × Begins Colon n ps qs × Via (Whole font qs) (λ y rs. ends_in fs v (choice_found c x y) rs)
  ends_in (Else c y ∷ fs) v x ps = ends_in fs v (choice_found c y x) ps

  -- ---- the modes

  abbrev pub in_number : Decimal → Behind → List Piece → Type 0
  in_number n k ps =
      (m : Decimal) × (decimal_from ps n ≡ Some m) × k (decimal_found font (next_unit (after_decimal ps)) m) (after_unit (after_decimal ps))

  abbrev pub in_dot : ℕ → Behind → List Piece → Type 0
  in_dot place k ps = (d : ℕ) × (at : ℕ) × (qs : List Piece) × (ps ≡ piece (Digit d) at ∷ qs) × (nat_lt d 10 ≡ true)
      × in_number (with_digit d (no_digits true place)) k qs

  abbrev pub in_name : Bracket → Behind → List Piece → Type 0
  in_name b k ps = (at : ℕ) × (qs : List Piece) × Begins Left at ps qs × Via (Whole font qs) (in_bracket b k)

  -- a mark directly in front, and then so
  abbrev pub directly : Mark → (List Piece → Type 0) → List Piece → Type 0
  directly m k ps = (at : ℕ) × (qs : List Piece) × (ps ≡ piece m at ∷ qs) × k qs

  -- `<=` or `>=` for the comparison that waits
  abbrev pub or_same_waits : Pending → Pending
  or_same_waits p = record p { comparison = waiting_or_same p.comparison }

  abbrev pub in_mode : Mode → Pending → Behind → List Piece → Type 0
  in_mode Wanted p k ps = wants p.power p k ps
  in_mode Ordered p k ps = wants p.power p k ps ⊎ directly Equals (wants p.power (or_same_waits p) k) ps
  in_mode (Half m) p k ps = directly m (wants p.power p k) ps
  in_mode (Named b) p k ps = in_name b (after_primary p k) ps
  in_mode (Dot place) p k ps = in_dot place (after_primary p k) ps
  in_mode (Number n) p k ps = in_number n (after_primary p k) ps
  in_mode (Measured n) p k ps = after_primary p k (decimal_found font (next_unit ps) n) (after_unit ps)
  in_mode (After x) p k ps = after_primary p k x ps

  -- from the state on, the pieces are read to their end, and come to v
  abbrev pub Completes : ExprState → List Piece → Found → Type 0
  Completes s ps v = in_mode s.mode s.pending (ends_in s.frames v) ps
