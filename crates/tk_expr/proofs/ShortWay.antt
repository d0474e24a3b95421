-- The short way of a decimal goes as the machine does.
use Rattle.std.proofs.Common.{◌≡◌, ℕ, Bool, true, false, List, [], ◌∷◌, Option, Some, None, IfSome, Ok, Err, refl, sym, ap, ◌∙◌}
use Rattle.tk_num.specs.declared.unit.Unit.{Unit as AUnit}
use Rattle.tk_token.specs.Answers.{Answer, ◌>>=◌}
use Rattle.tk_token.specs.declared.Tok.{Tok}
use Rattle.tk_expr.specs.declared.FontUnits.{FontUnits}
use Rattle.tk_expr.specs.declared.Value.{Value}
use Rattle.tk_expr.specs.declared.machine.Mode.TheVariants.{After}
use Rattle.tk_expr.specs.declared.pieces.Mark.{Mark}
use Rattle.tk_expr.specs.declared.pieces.Mark.TheVariants.{Digit, Point, Minus, Measure}
use Rattle.tk_expr.specs.declared.pieces.Piece.{Piece}
use Rattle.tk_expr.specs.Number.{Decimal, no_digits, with_digit, with_point, plain_value, unit_value}
use Rattle.tk_expr.specs.Pieces.{pieces_of}
use Rattle.tk_expr.specs.Evaluated.{evaluated}
use Rattle.tk_token.specs.Places.{end_of}
use Rattle.tk_expr.specs.Machine.{Found, ExprState, start, step_in, step, run, finish, powered, multiplied, added, compared, conjoined, disjoined}
use Rattle.tk_expr.specs.Plain.{sign_waits, wanting, counting, pointed, Reaches, signed_value, EndsAs, IsEvaluated}

-- one step of the machine
one_step_goes_on : (font : FontUnits) (s t : ExprState) (p : Piece) (ps all : List Piece) (m : Mark) → all ≡ p ∷ ps → p.mark ≡ m
    → step_in font s.mode m p.at s ≡ Ok t → run font s all ≡ run font t ps
unfolding step
one_step_goes_on font s t p ps all m front is one =
    ap (run font s) front
    ∙ ap (λ (m : Mark). step_in font s.mode m p.at s >>= λ t. run font t ps) is
    ∙ ap (λ (a : Answer ExprState). a >>= λ t. run font t ps) one

module _ (p : Piece) (ps all : List Piece) (front : all ≡ p ∷ ps) where
  pub minus_goes : p.mark ≡ Minus → (font : FontUnits) → run font (wanting false) all ≡ run font (wanting true) ps
  minus_goes is font = one_step_goes_on font (wanting false) (wanting true) p ps all Minus front is refl

  pub digit_goes : (d : ℕ) → p.mark ≡ Digit d → (negative : Bool) (font : FontUnits)
      → run font (wanting negative) all ≡ run font (counting (with_digit d (no_digits false p.at)) negative) ps
  digit_goes d is negative font =
      one_step_goes_on font (wanting negative) (counting (with_digit d (no_digits false p.at)) negative) p ps all (Digit d) front is refl

  pub point_goes : p.mark ≡ Point → (negative : Bool) (font : FontUnits) → run font (wanting negative) all ≡ run font (pointed p.at negative) ps
  point_goes is negative font = one_step_goes_on font (wanting negative) (pointed p.at negative) p ps all Point front is refl

  pub part_goes : (place d : ℕ) → p.mark ≡ Digit d → (negative : Bool) (font : FontUnits)
      → run font (pointed place negative) all ≡ run font (counting (with_digit d (no_digits true place)) negative) ps
  part_goes place d is negative font =
      one_step_goes_on font (pointed place negative) (counting (with_digit d (no_digits true place)) negative) p ps all (Digit d) front is refl

  module _ (n : Decimal) where
    pub digit_more : (d : ℕ) → p.mark ≡ Digit d → (negative : Bool) (font : FontUnits)
        → run font (counting n negative) all ≡ run font (counting (with_digit d n) negative) ps
    digit_more d is negative font = one_step_goes_on font (counting n negative) (counting (with_digit d n) negative) p ps all (Digit d) front is refl

    pub point_more : p.mark ≡ Point → n.pointed ≡ false → (negative : Bool) (font : FontUnits)
        → run font (counting n negative) all ≡ run font (counting (with_point n) negative) ps
    point_more is none negative font =
        one_step_goes_on font (counting n negative) (counting (with_point n) negative) p ps all Point front is (rw none refl)

    unit_goes : (font : FontUnits) (u : AUnit) → p.mark ≡ Measure u → (negative : Bool)
        → run font (counting n negative) all ≡ run font (record start {
          pending = sign_waits negative;
          mode = After (unit_value font u n);
          unit = true;
        }) ps
    unit_goes font u is negative = one_step_goes_on font (counting n negative) (record start {
      pending = sign_waits negative;
      mode = After (unit_value font u n);
      unit = true;
    }) p ps all (Measure u) front is refl

-- an operand behind a sign, where the pieces run out
short_way_ends : (font : FontUnits) (end : ℕ) (negative : Bool) (x : Found) (unit : Bool)
    → finish font end (record start { pending = sign_waits negative; mode = After x; unit = unit }) ≡ signed_value negative x unit
unfolding finish disjoined conjoined compared added multiplied powered
short_way_ends font end true (Ok v) unit = refl
short_way_ends font end true (Err e) unit = refl
short_way_ends font end false (Ok v) unit = refl
short_way_ends font end false (Err e) unit = refl

ends_plain : (font : FontUnits) (end : ℕ) (negative : Bool) (n : Decimal)
    → finish font end (counting n negative) ≡ finish font end (record start { pending = sign_waits negative; mode = After (plain_value font n) })
unfolding finish
ends_plain font end negative n = refl

-- nothing stands behind a decimal
pub plain_ends : (font : FontUnits) (n : Decimal) (ts : List Tok) (x : Found) → pieces_of ts ≡ [] → x ≡ plain_value font n
    → EndsAs font (counting n) ts (x, false)
plain_ends font n ts x none is negative end =
    ap (λ (ps : List Piece). run font (counting n negative) ps >>= λ s. finish font end s) none
    ∙ ends_plain font end negative n
    ∙ short_way_ends font end negative (plain_value font n) false
    ∙ ap (λ (x : Found). signed_value negative x false) (sym is)

-- a unit stands behind it, and nothing else
pub unit_ends : (font : FontUnits) (n : Decimal) (ts us : List Tok) (p : Piece) (u : AUnit) (x : Found) → pieces_of ts ≡ p ∷ pieces_of us → us ≡ []
    → p.mark ≡ Measure u → x ≡ unit_value font u n → EndsAs font (counting n) ts (x, true)
unit_ends font n ts us p u x front none mark is negative end =
    ap (λ (a : Answer ExprState). a >>= λ s. finish font end s) (unit_goes p (pieces_of us) (pieces_of ts) front n font u mark negative
    ∙ ap (λ (us : List Tok). run font (record start { pending = sign_waits negative; mode = After (unit_value font u n); unit = true })
    (pieces_of us)) none)
    ∙ short_way_ends font end negative (unit_value font u n) true
    ∙ ap (λ (x : Found). signed_value negative x true) (sym is)

-- what a text comes to from one state, it comes to from each that goes there
module _ (font : FontUnits) (s t : Bool → ExprState) (ts us : List Tok) (same : (negative : Bool) → run font (s negative) (pieces_of ts)
    ≡ run font (t negative) (pieces_of us)) where
  from_there : (found : Found × Bool) → EndsAs font t us found → EndsAs font s ts found
  from_there found h negative end = ap (λ (a : Answer ExprState). a >>= λ s. finish font end s) (same negative) ∙ h negative end

  pub ends_from : (o : Option (Found × Bool)) → IfSome o (EndsAs font t us) → IfSome o (EndsAs font s ts)
  ends_from None h = tt
  ends_from (Some found) h = from_there found h

-- all parts together are the machine's answer
pub plain_is : (font : FontUnits) (list rest : List Tok) (negative : Bool) (found : Found × Bool) (r : Answer Value)
    → Reaches (wanting false) list (wanting negative) rest
    → EndsAs font wanting rest found
    → r ≡ signed_value negative found.0 found.1
    → IsEvaluated font list r
unfolding evaluated
plain_is font list rest negative found r a b e at =
    e ∙ sym (ap (λ (a : Answer ExprState). a >>= λ s. finish font (end_of at list) s) (a font) ∙ b negative (end_of at list))
