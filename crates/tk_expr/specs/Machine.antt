-- Private: only the code's own contracts use this; the law `evaluated_is_the_answer` says that what the machine makes
-- of a text is its answer by Evaluates. The machine reads an expression piece by piece, without a tree. In `1+2*3` the
-- sum waits with 1, then the product with 2; where the pieces run out the product settles first, then the sum. An open
-- parenthesis keeps what waits outside it.
use Rattle.std.specs.Prelude.{ℕ, Bool, true, false, not, nat_lt, if◌then◌else◌, List, [], ◌∷◌, length, Option, Some}
use Rattle.std.specs.Prelude.{None, is_some, Ok, ℤ}
use Rattle.tk_num.specs.declared.unit.Unit.{Unit}
use Rattle.tk_token.specs.declared.Code.TheVariants.{TooDeep, Expression}
use Rattle.tk_token.specs.Answers.{Answer, ◌>>=◌, fault}
use Rattle.tk_expr.specs.declared.FontUnits.{FontUnits}
use Rattle.tk_expr.specs.declared.operators.Operator.{Operator}
use Rattle.tk_expr.specs.declared.operators.Operator.TheVariants.{Raise, Multiply, Divide, Add, Subtract, Same, Differs}
use Rattle.tk_expr.specs.declared.operators.Operator.TheVariants.{AtMost, AtLeast, Below, Above, Both, Either}
use Rattle.tk_expr.specs.declared.operators.Prefix.{Prefix}
use Rattle.tk_expr.specs.declared.operators.Prefix.TheVariants.{Negate, Keep, Not}
use Rattle.tk_expr.specs.declared.operators.Truth.{Truth}
use Rattle.tk_expr.specs.declared.operators.Truth.TheVariants.{Itself, Affirmed, Denied}
use Rattle.tk_expr.specs.declared.operators.Signs.{Signs}
use Rattle.tk_expr.specs.declared.pieces.One.{One}
use Rattle.tk_expr.specs.declared.pieces.Two.{Two}
use Rattle.tk_expr.specs.declared.pieces.Most.{Most}
use Rattle.tk_expr.specs.declared.pieces.Mark.{Mark}
use Rattle.tk_expr.specs.declared.pieces.Mark.TheVariants.{Digit, Point, Measure, Radian, Pi, Single, Double, Several}
use Rattle.tk_expr.specs.declared.pieces.Mark.TheVariants.{Plus, Minus, Star, Slash, Caret, Bar, Ampersand, Equals}
use Rattle.tk_expr.specs.declared.pieces.Mark.TheVariants.{Bang, Less, Greater, Question, Colon, Comma, Left, Right}
use Rattle.tk_expr.specs.declared.pieces.Mark.TheVariants.{Gap}
use Rattle.tk_expr.specs.declared.pieces.Piece.{Piece}
use Rattle.tk_expr.specs.declared.machine.Waiting.{Waiting}
use Rattle.tk_expr.specs.declared.machine.Pending.{Pending}
use Rattle.tk_expr.specs.declared.machine.Bracket.{Bracket}
use Rattle.tk_expr.specs.declared.machine.Bracket.TheVariants.{Plain, Only, First, Second, Each}
use Rattle.tk_expr.specs.declared.machine.OpenFrame.{OpenFrame}
use Rattle.tk_expr.specs.declared.machine.OpenFrame.TheVariants.{Inside, Then, Else}
use Rattle.tk_expr.specs.declared.machine.Mode.{Mode}
use Rattle.tk_expr.specs.declared.machine.Mode.TheVariants.{Wanted, Ordered, Half, Named, Dot, Number, Measured, After}
pub use Rattle.tk_expr.specs.declared.machine.ExprState.{ExprState}
use Rattle.tk_expr.specs.declared.Value.{Value}
use Rattle.tk_expr.specs.Number.{Decimal, no_digits, with_digit, with_point, plain_value, unit_value}
use Rattle.tk_expr.specs.Values.{placed, truth, is_true, prefixed, operated, chosen, in_unit, in_degrees, pi_value}
use Rattle.tk_expr.specs.Values.{called_one, called_two, called_most}

-- a number, or the first fault on the way to it
abbrev pub Found : Type 0
Found = Answer ℤ

-- ---- signs

-- no signs
abbrev pub no_signs : Signs
no_signs = record { negative = false; truth = Itself }

-- signs with a `!` further in
abbrev pub with_not : Truth → Truth
with_not Itself = Denied
with_not Denied = Affirmed
with_not Affirmed = Denied

-- signs with a `-` further in, which no `!` can tell from none
abbrev pub with_minus : Truth → Signs → Signs
with_minus Itself s = record s { negative = not s.negative }
with_minus _ s = s

-- signs with one more sign further in
abbrev pub with_prefix : Prefix → Signs → Signs
with_prefix Negate s = with_minus s.truth s
with_prefix Keep s = s
with_prefix Not s = record s { truth = with_not s.truth }

-- what a count of `!` makes of a number
abbrev pub as_truth : Truth → ℤ → ℤ
as_truth Itself x = x
as_truth Affirmed x = truth (is_true x)
as_truth Denied x = truth (not (is_true x))

-- what signs make of a number
abbrev pub number_behind_signs : Signs → ℤ → ℤ
number_behind_signs s x = if s.negative then prefixed Negate (as_truth s.truth x) else as_truth s.truth x

-- what signs make of a number that may be a fault
abbrev pub signed_found : Signs → Found → Found
signed_found s x = x >>= λ v. Ok (number_behind_signs s v)

-- ---- operators

-- nothing waits
abbrev pub nothing : Pending
nothing = record {
  exponent = no_signs;
  power = None;
  signs = no_signs;
  product = None;
  sum = None;
  comparison = None;
  conjunction = None;
  disjunction = None;
}

-- an operator that waits, with its right operand
abbrev pub applied : Option Waiting → Found → Found
applied None x = x
applied (Some w) x = do
  a ← w.left
  b ← x
  placed w.at (operated w.operator a b)

-- an operand with what waits for it on the level of `^`
unfoldable pub powered : Pending → Found → Found
powered p x = applied p.power (signed_found p.exponent x)

-- an operand with what waits for it up to the level of `*`
unfoldable pub multiplied : Pending → Found → Found
multiplied p x = applied p.product (signed_found p.signs (powered p x))

-- an operand with what waits for it up to the level of `+`
unfoldable pub added : Pending → Found → Found
added p x = applied p.sum (multiplied p x)

-- an operand with what waits for it up to the level of `<`
unfoldable pub compared : Pending → Found → Found
compared p x = applied p.comparison (added p x)

-- an operand with what waits for it up to the level of `&&`
unfoldable pub conjoined : Pending → Found → Found
conjoined p x = applied p.conjunction (compared p x)

-- an operand with what waits for it on all levels: the value of an expression that ends behind it
unfoldable pub disjoined : Pending → Found → Found
disjoined p x = applied p.disjunction (conjoined p x)

-- an operator that waits behind its left operand
abbrev pub waiting : Operator → ℕ → Found → Option Waiting
waiting o at x = Some (record { left = x; operator = o; at = at })

-- what waits once `*` or `/` is read behind an operand: all that binds as tightly or tighter is settled
abbrev pub product_waits : Operator → ℕ → Found → Pending → Pending
product_waits o at x p = record p {
  exponent = no_signs;
  power = None;
  signs = no_signs;
  product = waiting o at (multiplied p x);
}

-- what waits once `+` or `-` is read behind an operand
abbrev pub sum_waits : Operator → ℕ → Found → Pending → Pending
sum_waits o at x p = record p {
  exponent = no_signs;
  power = None;
  signs = no_signs;
  product = None;
  sum = waiting o at (added p x);
}

-- what waits once a comparison is read behind an operand
abbrev pub comparison_waits : Operator → ℕ → Found → Pending → Pending
comparison_waits o at x p = record p {
  exponent = no_signs;
  power = None;
  signs = no_signs;
  product = None;
  sum = None;
  comparison = waiting o at (compared p x);
}

-- what waits once an operator is read behind an operand
abbrev pub waits : Operator → ℕ → Found → Pending → Pending
waits Raise at x p = record p { exponent = no_signs; power = waiting Raise at (powered p x) }
waits Multiply at x p = product_waits Multiply at x p
waits Divide at x p = product_waits Divide at x p
waits Add at x p = sum_waits Add at x p
waits Subtract at x p = sum_waits Subtract at x p
waits Both at x p = record nothing { conjunction = waiting Both at (conjoined p x); disjunction = p.disjunction }
waits Either at x p = record nothing { disjunction = waiting Either at (disjoined p x) }
waits o at x p = comparison_waits o at x p

-- `<` and `>` with a `=` directly behind them
abbrev pub or_same : Operator → Operator
or_same Below = AtMost
or_same Above = AtLeast
or_same o = o

-- the same for one that waits
abbrev pub waiting_or_same : Option Waiting → Option Waiting
waiting_or_same None = None
waiting_or_same (Some w) = Some (record w { operator = or_same w.operator })

-- ---- what is open

-- a value, and what is open round it
pub record Closed : Type 0 where
  pub value : Found
  pub frames : List OpenFrame

-- what a `?`, its `:` and the value behind that come to
abbrev pub choice_found : Found → Found → Found → Found
choice_found c x y = do
  b ← c
  v ← x
  w ← y
  Ok (chosen b v w)

-- the end of an expression: each `?` that has its `:` ends with it
abbrev pub closed : Found → List OpenFrame → Closed
closed v [] = record { value = v; frames = [] }
closed v (Else c x ∷ frames) = closed (choice_found c x v) frames
closed v (frame ∷ frames) = record { value = v; frames = frame ∷ frames }

-- whether the innermost is a `?` that has its `:`
abbrev pub is_choice : List OpenFrame → Bool
is_choice (Else c x ∷ frames) = true
is_choice _ = false

-- the end of the innermost expression, behind its last operand
abbrev pub closed_behind : Found → ExprState → Closed
closed_behind x s = closed (disjoined s.pending x) s.frames

-- an operand is wanted, with nothing that waits
abbrev pub wanted_in : List OpenFrame → ExprState → ExprState
wanted_in frames s = record { mode = Wanted; pending = nothing; frames = frames; unit = s.unit }

-- an opener at that place: at most 64 are open
abbrev pub with_frame : ℕ → OpenFrame → ExprState → Answer ExprState
with_frame at frame s = if nat_lt (length s.frames) 64 then Ok (wanted_in (frame ∷ s.frames) s) else fault TooDeep at

-- an operand was read, with what waits outside its parenthesis
abbrev pub outside : Found → Pending → List OpenFrame → ExprState → ExprState
outside v saved frames s = record { mode = After v; pending = saved; frames = frames; unit = s.unit }

-- the value of a call with one argument
abbrev pub one_found : One → ℕ → Found → Found
one_found f at x = x >>= λ v. placed at (called_one f v)

-- the value of a call with two arguments
abbrev pub two_found : Two → ℕ → Found → Found → Found
two_found f at x y = do
  v ← x
  w ← y
  placed at (called_two f v w)

-- the least or greatest of the arguments so far
abbrev pub most_found : Most → Option Found → Found → Found
most_found f None y = y
most_found f (Some x) y = do
  v ← x
  w ← y
  Ok (called_most f v w)

-- the end of a parenthesis behind a value; a call with too few arguments is refused at its name
abbrev pub bracket_ends : ℕ → Bracket → Found → Pending → List OpenFrame → ExprState → Answer ExprState
bracket_ends at Plain v saved frames s = Ok (outside v saved frames s)
bracket_ends at (Only f name) v saved frames s = Ok (outside (one_found f name v) saved frames s)
bracket_ends at (First f name) v saved frames s = fault Expression name
bracket_ends at (Second f name x) v saved frames s = Ok (outside (two_found f name x v) saved frames s)
bracket_ends at (Each f x) v saved frames s = Ok (outside (most_found f x v) saved frames s)

-- a `)` at that place, behind a value
abbrev pub at_right : ℕ → Found → List OpenFrame → ExprState → Answer ExprState
at_right at v (Inside bracket saved ∷ frames) s = bracket_ends at bracket v saved frames s
at_right at v _ s = fault Expression at

-- the next argument in a parenthesis behind a value; a call with too many arguments is refused at its name
abbrev pub bracket_goes_on : ℕ → Bracket → Found → Pending → List OpenFrame → ExprState → Answer ExprState
bracket_goes_on at Plain v saved frames s = fault Expression at
bracket_goes_on at (Only f name) v saved frames s = fault Expression name
bracket_goes_on at (First f name) v saved frames s = Ok (wanted_in (Inside (Second f name v) saved ∷ frames) s)
bracket_goes_on at (Second f name x) v saved frames s = fault Expression name
bracket_goes_on at (Each f x) v saved frames s =
    Ok (wanted_in (Inside (Each f (Some (most_found f x v))) saved ∷ frames) s)

-- a `,` at that place, behind a value
abbrev pub at_comma : ℕ → Found → List OpenFrame → ExprState → Answer ExprState
at_comma at v (Inside bracket saved ∷ frames) s = bracket_goes_on at bracket v saved frames s
at_comma at v _ s = fault Expression at

-- a `:` at that place, behind a value
abbrev pub at_colon : ℕ → Found → List OpenFrame → ExprState → Answer ExprState
at_colon at v (Then c ∷ frames) s = Ok (wanted_in (Else c v ∷ frames) s)
at_colon at v _ s = fault Expression at

-- ---- one piece

-- the state in another mode
abbrev pub to_mode : Mode → ExprState → Answer ExprState
to_mode mode s = Ok (record s { mode = mode })

-- a sign before an exponent
abbrev pub sign_exponent : Prefix → ℕ → ExprState → Answer ExprState
sign_exponent Not at s = fault Expression at
sign_exponent sign at s =
    Ok (record s { mode = Wanted; pending = record s.pending { exponent = with_prefix sign s.pending.exponent } })

-- a sign before an operand
abbrev pub sign_operand : Option Waiting → Prefix → ℕ → ExprState → Answer ExprState
sign_operand None sign at s =
    Ok (record s { mode = Wanted; pending = record s.pending { signs = with_prefix sign s.pending.signs } })
sign_operand (Some w) sign at s = sign_exponent sign at s

-- one more piece where an operand is wanted
abbrev pub begin : Mark → ℕ → ExprState → Answer ExprState
begin (Digit d) at s = to_mode (Number (with_digit d (no_digits false at))) s
begin Point at s = to_mode (Dot at) s
begin Pi at s = to_mode (After (Ok pi_value)) s
begin (Single f) at s = to_mode (Named (Only f at)) s
begin (Double f) at s = to_mode (Named (First f at)) s
begin (Several f) at s = to_mode (Named (Each f None)) s
begin Minus at s = sign_operand s.pending.power Negate at s
begin Plus at s = sign_operand s.pending.power Keep at s
begin Bang at s = sign_operand s.pending.power Not at s
begin Left at s = with_frame at (Inside Plain s.pending) s
begin Gap at s = to_mode Wanted s
begin _ at s = fault Expression at

-- one more piece directly behind `<` or `>`
abbrev pub ordered : Mark → ℕ → ExprState → Answer ExprState
ordered Equals at s =
    Ok (record s { mode = Wanted; pending = record s.pending { comparison = waiting_or_same s.pending.comparison } })
ordered mark at s = begin mark at s

-- whether a mark is the second half of an operator that is written with a mark twice, or of `!=`
abbrev pub is_half : Mark → Mark → Bool
is_half Equals Equals = true
is_half Ampersand Ampersand = true
is_half Bar Bar = true
is_half _ _ = false

-- one more piece directly behind the first half of an operator
abbrev pub half : Mark → Mark → ℕ → ExprState → Answer ExprState
half wanted mark at s = if is_half wanted mark then to_mode Wanted s else fault Expression at

-- one more piece behind the name of a function
abbrev pub named : Bracket → Mark → ℕ → ExprState → Answer ExprState
named bracket Left at s = with_frame at (Inside bracket s.pending) s
named bracket Gap at s = to_mode (Named bracket) s
named bracket _ at s = fault Expression at

-- an operator behind an operand
abbrev pub operator : Operator → Mode → ℕ → Found → ExprState → Answer ExprState
operator o mode at x s = Ok (record s { mode = mode; pending = waits o at x s.pending })

-- a comparison behind an operand: there may be one
abbrev pub comparison : Operator → Mode → ℕ → Found → ExprState → Answer ExprState
comparison o mode at x s = if is_some s.pending.comparison then fault Expression at else operator o mode at x s

-- a number in a unit
abbrev pub unit_found : FontUnits → Unit → ℕ → Found → Found
unit_found font unit at x = x >>= λ v. placed at (in_unit font unit v)

-- radians in degrees
abbrev pub degrees_found : ℕ → Found → Found
degrees_found at x = x >>= λ v. placed at (in_degrees v)

-- one more piece behind an operand
abbrev pub after : FontUnits → Found → Mark → ℕ → ExprState → Answer ExprState
after font x (Measure unit) at s = Ok (record s { mode = After (unit_found font unit at x); unit = true })
after font x Radian at s = to_mode (After (degrees_found at x)) s
after font x Caret at s = operator Raise Wanted at x s
after font x Star at s = operator Multiply Wanted at x s
after font x Slash at s = operator Divide Wanted at x s
after font x Plus at s = operator Add Wanted at x s
after font x Minus at s = operator Subtract Wanted at x s
after font x Less at s = comparison Below Ordered at x s
after font x Greater at s = comparison Above Ordered at x s
after font x Equals at s = comparison Same (Half Equals) at x s
after font x Bang at s = comparison Differs (Half Equals) at x s
after font x Ampersand at s = operator Both (Half Ampersand) at x s
after font x Bar at s = operator Either (Half Bar) at x s
after font x Question at s = with_frame at (Then (disjoined s.pending x)) s
after font x Colon at s = at_colon at (closed_behind x s).value (closed_behind x s).frames s
after font x Comma at s = at_comma at (closed_behind x s).value (closed_behind x s).frames s
after font x Right at s = at_right at (closed_behind x s).value (closed_behind x s).frames s
after font x Gap at s = to_mode (After x) s
after font x _ at s = fault Expression at

-- one more piece behind the point of a decimal that has no digit yet
abbrev pub dot : ℕ → Mark → ℕ → ExprState → Answer ExprState
dot place (Digit d) at s = to_mode (Number (with_digit d (no_digits true place))) s
dot place _ at s = fault Expression at

-- one more piece behind a decimal and perhaps gaps
abbrev pub measured : FontUnits → Decimal → Mark → ℕ → ExprState → Answer ExprState
measured font n (Measure unit) at s = Ok (record s { mode = After (unit_value font unit n); unit = true })
measured font n Gap at s = to_mode (Measured n) s
measured font n mark at s = after font (plain_value font n) mark at s

-- one more piece directly behind a decimal
abbrev pub number : FontUnits → Decimal → Mark → ℕ → ExprState → Answer ExprState
number font n (Digit d) at s = to_mode (Number (with_digit d n)) s
number font n Point at s = if n.pointed then fault Expression at else to_mode (Number (with_point n)) s
number font n mark at s = measured font n mark at s

-- one more piece in a mode
abbrev pub step_in : FontUnits → Mode → Mark → ℕ → ExprState → Answer ExprState
step_in font Wanted mark at s = begin mark at s
step_in font Ordered mark at s = ordered mark at s
step_in font (Half wanted) mark at s = half wanted mark at s
step_in font (Named bracket) mark at s = named bracket mark at s
step_in font (Dot place) mark at s = dot place mark at s
step_in font (Number n) mark at s = number font n mark at s
step_in font (Measured n) mark at s = measured font n mark at s
step_in font (After x) mark at s = after font x mark at s

-- the state behind one more piece, or the fault of a piece that doesn't fit
unfoldable pub step : FontUnits → ExprState → Piece → Answer ExprState
step font s p = step_in font s.mode p.mark p.at s

-- ---- all pieces

-- before the first piece
abbrev pub start : ExprState
start = record { mode = Wanted; pending = nothing; frames = []; unit = false }

-- the state behind pieces
abbrev pub run : FontUnits → ExprState → List Piece → Answer ExprState
run font s [] = Ok s
run font s (p ∷ ps) = step font s p >>= λ t. run font t ps

-- the operand that was read last
abbrev pub operand : FontUnits → Mode → Option Found
operand font (Number n) = Some (plain_value font n)
operand font (Measured n) = Some (plain_value font n)
operand font (After x) = Some x
operand font _ = None

-- the value, where nothing is open any more
abbrev pub value_in : ℕ → List OpenFrame → Found → Bool → Answer Value
value_in end [] v unit = v >>= λ n. Ok (record { number = n; unit = unit })
value_in end _ v unit = fault Expression end

-- the value behind the last operand
abbrev pub finish_behind : ℕ → Option Found → ExprState → Answer Value
finish_behind end None s = fault Expression end
finish_behind end (Some x) s = value_in end (closed_behind x s).frames (closed_behind x s).value s.unit

-- what the state comes to where the pieces run out, at that place
unfoldable pub finish : FontUnits → ℕ → ExprState → Answer Value
finish font end s = finish_behind end (operand font s.mode) s
