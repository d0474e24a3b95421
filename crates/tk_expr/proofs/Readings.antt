-- The grammar over values in place of trees: what stands in a text, with what it comes to.
use Rattle.std.proofs.Common.{◌≡◌, ℕ, true, false, cond, nat_lt, List, [], ◌∷◌, Option, Some, None, Ok}
use Rattle.tk_num.specs.declared.unit.Unit.{Unit as AUnit}
use Rattle.tk_token.specs.Answers.{◌>>=◌}
use Rattle.tk_expr.specs.declared.FontUnits.{FontUnits}
use Rattle.tk_expr.specs.declared.operators.Operator.{Operator}
use Rattle.tk_expr.specs.declared.operators.Operator.TheVariants.{Raise}
use Rattle.tk_expr.specs.declared.operators.Prefix.{Prefix}
use Rattle.tk_expr.specs.declared.pieces.One.{One}
use Rattle.tk_expr.specs.declared.pieces.Two.{Two}
use Rattle.tk_expr.specs.declared.pieces.Most.{Most}
use Rattle.tk_expr.specs.declared.pieces.Mark.{Mark}
use Rattle.tk_expr.specs.declared.pieces.Mark.TheVariants.{Digit, Point, Measure, Radian, Pi, Single, Double, Several, Question, Colon, Comma, Left}
use Rattle.tk_expr.specs.declared.pieces.Mark.TheVariants.{Right}
use Rattle.tk_expr.specs.declared.pieces.Piece.{Piece}
use Rattle.tk_expr.specs.Number.{Decimal, no_digits, with_digit, with_point, total}
use Rattle.tk_expr.specs.Values.{placed, prefixed, decimal_in, in_unit, in_degrees, pi_value}
use Rattle.tk_expr.specs.Grammar.{piece, skip, after_decimal, next_unit, after_unit, prefix_of, exponent_sign, Precedence, Postfixes, Powers}
use Rattle.tk_expr.specs.Grammar.{Products, Sums, Comparisons, Conjunctions, Disjunctions, precedence_of, is_chain, Begins, Stands}
use Rattle.tk_expr.specs.Machine.{Found, applied, waiting, choice_found, one_found, two_found, most_found}

-- ---- values

-- a value with a sign before it
abbrev pub prefixed_found : Prefix → Found → Found
prefixed_found sign x = x >>= λ v. Ok (prefixed sign v)

-- a value with a unit behind it
abbrev pub unit_found : FontUnits → AUnit → ℕ → Found → Found
unit_found font unit at x = x >>= λ v. placed at (in_unit font unit v)

-- a value with `r` behind it
abbrev pub radians_found : ℕ → Found → Found
radians_found at x = x >>= λ v. placed at (in_degrees v)

-- a decimal with the unit behind it, or with none
abbrev pub decimal_found : FontUnits → Option AUnit → Decimal → Found
decimal_found font unit n = placed n.at (decimal_in font unit (total n))

-- a decimal that goes on with a mark, or ends before it
abbrev pub decimal_on : Mark → Decimal → (Decimal → Option Decimal) → Option Decimal
decimal_on (Digit d) n more = cond (nat_lt d 10) (more (with_digit d n)) None
decimal_on Point n more = cond n.pointed None (more (with_point n))
decimal_on _ n more = Some n

-- a decimal with all digits and points in front, if they fit
abbrev pub decimal_from : List Piece → Decimal → Option Decimal
decimal_from [] n = Some n
decimal_from (p ∷ ps) n = decimal_on p.mark n (decimal_from ps)

-- ---- the rules

mutual
  -- an expression
  pub data Whole (font : FontUnits) : List Piece → Found → List Piece → Type 0 where
    whole : {ps qs rs : List Piece} {x y : Found} → Group font Disjunctions ps x qs → Asks font x qs y rs → Whole font ps y rs

  -- what may stand behind a disjunction: nothing, or a choice by it
  pub data Asks (font : FontUnits) : Found → List Piece → Found → List Piece → Type 0 where
    unasked : {ps : List Piece} {x : Found} → Asks font x ps x ps
    asked : {ps qs rs ss us : List Piece} {c x y : Found} {m n : ℕ} → Begins Question m ps qs → Whole font qs x rs → Begins Colon n rs ss
        → Whole font ss y us → Asks font c ps (choice_found c x y) us

  -- an operand of a level, and then operators of the level
  pub data Group (font : FontUnits) : Precedence → List Piece → Found → List Piece → Type 0 where
    group : {l : Precedence} {ps qs rs : List Piece} {x y : Found} → Part font l ps x qs → Goes font l x qs y rs → Group font l ps y rs

  -- an operand of a level
  pub data Part (font : FontUnits) : Precedence → List Piece → Found → List Piece → Type 0 where
    primary_part : {ps qs : List Piece} {x : Found} → Primary font ps x qs → Part font Postfixes ps x qs
    postfix_part : {ps qs : List Piece} {x : Found} → Group font Postfixes ps x qs → Part font Powers ps x qs
    prefixed_part : {ps qs : List Piece} {x : Found} → Prefixed font ps x qs → Part font Products ps x qs
    product_part : {ps qs : List Piece} {x : Found} → Group font Products ps x qs → Part font Sums ps x qs
    sum_part : {ps qs : List Piece} {x : Found} → Group font Sums ps x qs → Part font Comparisons ps x qs
    comparison_part : {ps qs : List Piece} {x : Found} → Group font Comparisons ps x qs → Part font Conjunctions ps x qs
    conjunction_part : {ps qs : List Piece} {x : Found} → Group font Conjunctions ps x qs → Part font Disjunctions ps x qs

  -- operators of a level behind an operand
  pub data Goes (font : FontUnits) : Precedence → Found → List Piece → Found → List Piece → Type 0 where
    stays : {l : Precedence} {ps : List Piece} {x : Found} → Goes font l x ps x ps
    on_unit : {ps qs rs : List Piece} {x y : Found} {u : AUnit} {at : ℕ} → Begins (Measure u) at ps qs
        → Goes font Postfixes (unit_found font u at x) qs y rs → Goes font Postfixes x ps y rs
    on_radians : {ps qs rs : List Piece} {x y : Found} {at : ℕ} → Begins Radian at ps qs → Goes font Postfixes (radians_found at x) qs y rs
        → Goes font Postfixes x ps y rs
    on_power : {ps qs rs ss : List Piece} {x y w : Found} {at : ℕ} → Stands Raise at ps qs → Exponential font qs w rs
        → Goes font Powers (applied (waiting Raise at x) w) rs y ss → Goes font Powers x ps y ss
    on_operator : {l : Precedence} {ps qs rs ss : List Piece} {x y w : Found} (o : Operator) (at : ℕ) → precedence_of o ≡ l → is_chain l ≡ true
        → Stands o at ps qs → Part font l qs w rs → Goes font l (applied (waiting o at x) w) rs y ss → Goes font l x ps y ss
    on_comparison : {ps qs rs : List Piece} {x w : Found} (o : Operator) (at : ℕ) → precedence_of o ≡ Comparisons → Stands o at ps qs
        → Part font Comparisons qs w rs → Goes font Comparisons x ps (applied (waiting o at x) w) rs

  -- a power with any number of signs before it
  pub data Prefixed (font : FontUnits) : List Piece → Found → List Piece → Type 0 where
    sign_before : {ps qs rs : List Piece} {p : Piece} {s : Prefix} {x : Found} → skip ps ≡ p ∷ qs → prefix_of p.mark ≡ Some s → Prefixed font qs x rs
        → Prefixed font ps (prefixed_found s x) rs
    no_sign_before : {ps qs : List Piece} {x : Found} → Group font Powers ps x qs → Prefixed font ps x qs

  -- an exponent with any number of `-` and `+` before it
  pub data Exponential (font : FontUnits) : List Piece → Found → List Piece → Type 0 where
    exponent_sign_before : {ps qs rs : List Piece} {p : Piece} {s : Prefix} {x : Found} → skip ps ≡ p ∷ qs → exponent_sign p.mark ≡ Some s
        → Exponential font qs x rs → Exponential font ps (prefixed_found s x) rs
    bare_exponent : {ps qs : List Piece} {x : Found} → Group font Postfixes ps x qs → Exponential font ps x qs

  -- a decimal, a parenthesis, `pi` or a call
  pub data Primary (font : FontUnits) : List Piece → Found → List Piece → Type 0 where
    of_digits : {ps qs : List Piece} {d at : ℕ} {n : Decimal} → Begins (Digit d) at ps qs → nat_lt d 10 ≡ true
        → decimal_from qs (with_digit d (no_digits false at)) ≡ Some n
        → Primary font ps (decimal_found font (next_unit (after_decimal qs)) n) (after_unit (after_decimal qs))
    of_point : {ps qs : List Piece} {d at k : ℕ} {n : Decimal} → skip ps ≡ piece Point at ∷ piece (Digit d) k ∷ qs → nat_lt d 10 ≡ true
        → decimal_from qs (with_digit d (no_digits true at)) ≡ Some n
        → Primary font ps (decimal_found font (next_unit (after_decimal qs)) n) (after_unit (after_decimal qs))
    of_parenthesis : {ps qs rs ss : List Piece} {x : Found} {m n : ℕ} → Begins Left m ps qs → Whole font qs x rs → Begins Right n rs ss
        → Primary font ps x ss
    of_pi : {ps qs : List Piece} {at : ℕ} → Begins Pi at ps qs → Primary font ps (Ok pi_value) qs
    of_one : {ps qs rs ss us : List Piece} {f : One} {x : Found} {at m n : ℕ} → Begins (Single f) at ps qs → Begins Left m qs rs → Whole font rs x ss
        → Begins Right n ss us → Primary font ps (one_found f at x) us
    of_two : {ps qs rs ss us vs ws : List Piece} {f : Two} {x y : Found} {at k m n : ℕ} → Begins (Double f) at ps qs → Begins Left k qs rs
        → Whole font rs x ss → Begins Comma m ss us → Whole font us y vs → Begins Right n vs ws → Primary font ps (two_found f at x y) ws
    of_most : {ps qs rs ss us : List Piece} {f : Most} {x y : Found} {at k : ℕ} → Begins (Several f) at ps qs → Begins Left k qs rs
        → Whole font rs x ss → Further font f x ss y us → Primary font ps y us

  -- what may stand behind an argument of a function of one or more: further ones, and the `)`
  pub data Further (font : FontUnits) : Most → Found → List Piece → Found → List Piece → Type 0 where
    no_further : {f : Most} {ps qs : List Piece} {x : Found} {at : ℕ} → Begins Right at ps qs → Further font f x ps x qs
    one_further : {f : Most} {ps qs rs ss : List Piece} {x y z : Found} {at : ℕ} → Begins Comma at ps qs → Whole font qs y rs
        → Further font f (most_found f (Some x) y) rs z ss → Further font f x ps z ss
