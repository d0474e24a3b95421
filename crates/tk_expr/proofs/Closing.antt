-- Each state has a text that completes it: operands where they are wanted, and the ends of all that is open.
use Rattle.std.proofs.Common.{◌≡◌, inl, ℕ, true, List, [], ◌∷◌, Some, Ok, refl}
use Rattle.tk_num.specs.declared.unit.Unit.TheVariants as units
use Rattle.tk_expr.specs.declared.FontUnits.{FontUnits}
use Rattle.tk_expr.specs.declared.pieces.Mark.{Mark}
use Rattle.tk_expr.specs.declared.pieces.Mark.TheVariants.{Digit, Measure, Pi, Ampersand, Bar, Equals, Colon, Comma, Left, Right}
use Rattle.tk_expr.specs.declared.pieces.Piece.{Piece}
use Rattle.tk_expr.specs.declared.machine.Pending.{Pending}
use Rattle.tk_expr.specs.declared.machine.Bracket.{Bracket}
use Rattle.tk_expr.specs.declared.machine.Bracket.TheVariants.{Plain, Only, First, Second, Each}
use Rattle.tk_expr.specs.declared.machine.OpenFrame.{OpenFrame}
use Rattle.tk_expr.specs.declared.machine.OpenFrame.TheVariants.{Inside, Then, Else}
use Rattle.tk_expr.specs.declared.machine.Mode.{Mode}
use Rattle.tk_expr.specs.declared.machine.Mode.TheVariants.{Wanted, Ordered, Half, Named, Dot, Number, Measured, After}
use Rattle.tk_expr.specs.Number.{Decimal, no_digits, with_digit}
use Rattle.tk_expr.specs.Values.{pi_value}
use Rattle.tk_expr.specs.Grammar.{piece}
use Rattle.tk_expr.specs.Machine.{Found, ExprState, disjoined, choice_found, one_found, two_found, most_found}
use Rattle.tk_expr.proofs.Readings.{decimal_found, Whole, whole, unasked, group, primary_part, postfix_part, prefixed_part, product_part, sum_part}
use Rattle.tk_expr.proofs.Readings.{comparison_part, conjunction_part, stays, no_sign_before, of_pi, no_further}
use Rattle.tk_expr.proofs.Continuations.{Behind, Via, after_primary, wants, closes, in_bracket, ends_in, in_number, in_mode, Completes}
use Rattle.tk_expr.proofs.Levels.{to_end, Tidy, wants_primary}

module _ (font : FontUnits) where
  -- a text and a value with that property
  abbrev pub Some_end : (List Piece → Found → Type 0) → Type 0
  Some_end c = (ps : List Piece) × (v : Found) × c ps v

  pub pi_whole : (at : ℕ) (ps : List Piece) → Whole font (piece Pi at ∷ ps) (Ok pi_value) ps
  pi_whole at ps = whole
      (group (conjunction_part
      (group (comparison_part
      (group (sum_part
      (group (product_part (group (prefixed_part (no_sign_before (group (postfix_part (group (primary_part (of_pi refl)) stays)) stays))) stays))
      stays)) stays)) stays)) stays) unasked

  pub pi_via : (k : Behind) (ps : List Piece) → k (Ok pi_value) ps → Via (Whole font (piece Pi 0 ∷ ps)) k
  pi_via k ps h = record { value = Ok pi_value; rest = ps; read = pi_whole 0 ps; goes = h }

  -- the end of a bracket, where what is open round it ends
  close_right : (p : Pending) (fs : List OpenFrame) (at : ℕ) (x : Found) → ((y : Found) → Some_end (λ ps v. ends_in font fs v y ps))
      → Some_end (λ ps v. closes font (after_primary font p (ends_in font fs v)) x (piece Right at ∷ ps))
  close_right p fs at x rest = let e = rest (disjoined p x) in (e.0, e.1, (at, e.0, refl, to_end font p (ends_in font fs e.1) x e.0 e.2))

  -- a further argument, and then the end of the bracket
  close_comma : (p : Pending) (fs : List OpenFrame) (at : ℕ) (f : Found → Found) → ((y : Found) → Some_end (λ ps v. ends_in font fs v y ps))
      → Some_end (λ ps v. (n : ℕ) × (qs : List Piece) × (piece Comma at ∷ ps ≡ piece Comma n ∷ qs)
      × Via (Whole font qs) (λ y rs. closes font (after_primary font p (ends_in font fs v)) (f y) rs))
  close_comma p fs at f rest = let e = close_right p fs 0 (f (Ok pi_value)) rest in (
    piece Pi 0 ∷ piece Right 0 ∷ e.0,
    e.1,
    (at, piece Pi 0 ∷ piece Right 0 ∷ e.0, refl, pi_via _ (piece Right 0 ∷ e.0) e.2),
  )

  close_bracket : (b : Bracket) (p : Pending) (fs : List OpenFrame) (x : Found) → ((y : Found) → Some_end (λ ps v. ends_in font fs v y ps))
      → Some_end (λ ps v. in_bracket font b (after_primary font p (ends_in font fs v)) x ps)
  close_bracket Plain p fs x rest = let e = close_right p fs 0 x rest in (piece Right 0 ∷ e.0, e.1, e.2)
  close_bracket (Only f n) p fs x rest = let e = close_right p fs 0 (one_found f n x) rest in (piece Right 0 ∷ e.0, e.1, e.2)
  close_bracket (First f n) p fs x rest = let e = close_comma p fs 0 (two_found f n x) rest in (piece Comma 0 ∷ e.0, e.1, e.2)
  close_bracket (Second f n y) p fs x rest = let e = close_right p fs 0 (two_found f n y x) rest in (piece Right 0 ∷ e.0, e.1, e.2)
  close_bracket (Each f y) p fs x rest =
      let e = rest (disjoined p (most_found f y x)) in (
        piece Right 0 ∷ e.0,
        e.1,
        record {
          value = most_found f y x;
          rest = e.0;
          read = no_further refl;
          goes = to_end font p (ends_in font fs e.1) (most_found f y x) e.0 e.2;
        },
      )

  pub close : (fs : List OpenFrame) (x : Found) → Some_end (λ ps v. ends_in font fs v x ps)
  close [] x = ([], x, (refl, refl))
  close (Inside b p ∷ fs) x = close_bracket b p fs x (λ y. close fs y)
  close (Then c ∷ fs) x =
      let e = close fs (choice_found c x (Ok pi_value)) in (piece Colon 0 ∷ piece Pi 0 ∷ e.0, e.1, (0, piece Pi 0 ∷ e.0, refl, pi_via _ e.0 e.2))
  close (Else c y ∷ fs) x = close fs (choice_found c y x)

  -- what is open ends behind an operand
  pub close_operand : (p : Pending) (fs : List OpenFrame) (x : Found) → Some_end (λ ps v. after_primary font p (ends_in font fs v) x ps)
  close_operand p fs x = let e = close fs (disjoined p x) in (e.0, e.1, to_end font p (ends_in font fs e.1) x e.0 e.2)

  -- a `)` or a `,` fits behind an argument
  pub right_fits : (p : Pending) (fs : List OpenFrame) (at : ℕ) (x : Found)
      → Some_end (λ ps v. closes font (after_primary font p (ends_in font fs v)) x (piece Right at ∷ ps))
  right_fits p fs at x = close_right p fs at x (λ y. close fs y)

  pub comma_fits : (p : Pending) (fs : List OpenFrame) (at : ℕ) (f : Found → Found)
      → Some_end (λ ps v. (n : ℕ) × (qs : List Piece) × (piece Comma at ∷ ps ≡ piece Comma n ∷ qs)
      × Via (Whole font qs) (λ y rs. closes font (after_primary font p (ends_in font fs v)) (f y) rs))
  comma_fits p fs at f = close_comma p fs at f (λ y. close fs y)

  -- the marks of which two make an operator, or that a `!` stands before
  abbrev pub HalfMark : Mark → Type 0
  HalfMark Equals = Unit {0}
  HalfMark Ampersand = Unit {0}
  HalfMark Bar = Unit {0}
  HalfMark _ = ⊥

  abbrev pub HalfMode : Mode → Type 0
  HalfMode (Half m) = HalfMark m
  HalfMode _ = Unit {0}

  close_wanted : (p : Pending) (fs : List OpenFrame) → Tidy font p → Some_end (λ ps v. wants font p.power p (ends_in font fs v) ps)
  close_wanted p fs t = let e = close_operand p fs (Ok pi_value) in (
    piece Pi 0 ∷ e.0,
    e.1,
    wants_primary font p.power p (ends_in font fs e.1)
        (piece Pi 0 ∷ e.0) refl t (record { value = Ok pi_value; rest = e.0; read = of_pi refl; goes = e.2 }),
  )

  close_number : (n : Decimal) (p : Pending) (fs : List OpenFrame) → Some_end (λ ps v. in_number font n (after_primary font p (ends_in font fs v)) ps)
  close_number n p fs = let e = close_operand p fs (decimal_found font (Some units.Pt) n) in (piece (Measure units.Pt) 0 ∷ e.0, e.1, (n, refl, e.2))

  close_mode : (m : Mode) (p : Pending) (fs : List OpenFrame) → HalfMode m → Tidy font p → Some_end (λ ps v. in_mode font m p (ends_in font fs v) ps)
  close_mode Wanted p fs h t = close_wanted p fs t
  close_mode Ordered p fs h t = let e = close_wanted p fs t in (e.0, e.1, inl e.2)
  close_mode (Half m) p fs h t = let e = close_wanted p fs t in (piece m 0 ∷ e.0, e.1, (0, e.0, refl, e.2))
  close_mode (Named b) p fs h t =
      let e = close (Inside b p ∷ fs) (Ok pi_value) in (piece Left 0 ∷ piece Pi 0 ∷ e.0, e.1, (0, piece Pi 0 ∷ e.0, refl, pi_via _ e.0 e.2))
  close_mode (Dot place) p fs h t =
      let e = close_number (with_digit 0 (no_digits true place)) p fs in (piece (Digit 0) 0 ∷ e.0, e.1, (0, 0, e.0, refl, refl, e.2))
  close_mode (Number n) p fs h t = close_number n p fs
  close_mode (Measured n) p fs h t = let e = close_operand p fs (decimal_found font (Some units.Pt) n) in (piece (Measure units.Pt) 0 ∷ e.0, e.1, e.2)
  close_mode (After x) p fs h t = close_operand p fs x

  pub completes : (s : ExprState) → HalfMode s.mode → Tidy font s.pending → Some_end (Completes font s)
  completes s h t = close_mode s.mode s.pending s.frames h t
