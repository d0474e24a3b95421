-- A gap in front changes nothing.
use Rattle.std.proofs.Common.{◌≡◌, ℕ, List, [], ◌∷◌, Option, Some, None, sym, ◌∙◌}
use Rattle.tk_expr.specs.declared.FontUnits.{FontUnits}
use Rattle.tk_expr.specs.declared.operators.Operator.{Operator}
use Rattle.tk_expr.specs.declared.operators.Operator.TheVariants.{Raise, Same, Differs, AtMost, AtLeast, Both, Either}
use Rattle.tk_expr.specs.declared.pieces.Most.{Most}
use Rattle.tk_expr.specs.declared.pieces.Piece.{Piece}
use Rattle.tk_expr.specs.declared.machine.Waiting.{Waiting}
use Rattle.tk_expr.specs.declared.machine.Pending.{Pending}
use Rattle.tk_expr.specs.declared.machine.Bracket.{Bracket}
use Rattle.tk_expr.specs.declared.machine.Bracket.TheVariants.{Plain, Only, First, Second, Each}
use Rattle.tk_expr.specs.declared.machine.OpenFrame.{OpenFrame}
use Rattle.tk_expr.specs.declared.machine.OpenFrame.TheVariants.{Inside, Then, Else}
use Rattle.tk_expr.specs.Grammar.{skip, Precedence, Products, Stands}
use Rattle.tk_expr.specs.Machine.{Found, applied, choice_found}
use Rattle.tk_expr.proofs.Readings.{Asks, unasked, asked, group, Part, primary_part, postfix_part, prefixed_part, Goes, stays, on_unit, on_radians}
use Rattle.tk_expr.proofs.Readings.{on_power, on_operator, on_comparison, Prefixed, sign_before, no_sign_before, Exponential, exponent_sign_before}
use Rattle.tk_expr.proofs.Readings.{bare_exponent, Primary, of_digits, of_point, of_parenthesis, of_pi, of_one, of_two, of_most, Further, no_further}
use Rattle.tk_expr.proofs.Readings.{one_further}
use Rattle.tk_expr.proofs.Continuations.{Behind, Via, after_disjunction, after_conjunction, after_comparison, comparing, after_sum, after_product}
use Rattle.tk_expr.proofs.Continuations.{after_signed, after_postfix, after_primary, wants, in_bracket, ends_in}

-- the two texts are one behind the gaps in front
abbrev pub Alike : List Piece → List Piece → Type 0
Alike ps qs = skip ps ≡ skip qs

stands_alike : (o : Operator) (at : ℕ) (ps qs rs : List Piece) → Alike ps qs → Stands o at ps rs → Stands o at qs rs
stands_alike Raise at ps qs rs e h = sym e ∙ h
stands_alike Same at ps qs rs e h = (h.0, sym e ∙ h.1)
stands_alike Differs at ps qs rs e h = (h.0, sym e ∙ h.1)
stands_alike AtMost at ps qs rs e h = (h.0, sym e ∙ h.1)
stands_alike AtLeast at ps qs rs e h = (h.0, sym e ∙ h.1)
stands_alike Both at ps qs rs e h = (h.0, sym e ∙ h.1)
stands_alike Either at ps qs rs e h = (h.0, sym e ∙ h.1)
stands_alike _ at ps qs rs e h = sym e ∙ h

module _ (font : FontUnits) where
  primary_alike : {x : Found} {ps qs rs : List Piece} → Alike ps qs → Primary font ps x rs → Primary font qs x rs
  primary_alike e (of_digits b s f) = of_digits (sym e ∙ b) s f
  primary_alike e (of_point b s f) = of_point (sym e ∙ b) s f
  primary_alike e (of_parenthesis l t r) = of_parenthesis (sym e ∙ l) t r
  primary_alike e (of_pi b) = of_pi (sym e ∙ b)
  primary_alike e (of_one b l t r) = of_one (sym e ∙ b) l t r
  primary_alike e (of_two b l t c u r) = of_two (sym e ∙ b) l t c u r
  primary_alike e (of_most b l t a) = of_most (sym e ∙ b) l t a

  prefixed_alike : {x : Found} {ps qs rs : List Piece} → Alike ps qs → Prefixed font ps x rs → Prefixed font qs x rs
  prefixed_alike e (sign_before b f u) = sign_before (sym e ∙ b) f u
  prefixed_alike e (no_sign_before (group (postfix_part (group (primary_part a) r)) s)) =
      no_sign_before (group (postfix_part (group (primary_part (primary_alike e a)) r)) s)

  product_alike : {x : Found} {ps qs rs : List Piece} → Alike ps qs → Part font Products ps x rs → Part font Products qs x rs
  product_alike e (prefixed_part u) = prefixed_part (prefixed_alike e u)

  exponent_alike : {x : Found} {ps qs rs : List Piece} → Alike ps qs → Exponential font ps x rs → Exponential font qs x rs
  exponent_alike e (exponent_sign_before b f u) = exponent_sign_before (sym e ∙ b) f u
  exponent_alike e (bare_exponent (group (primary_part a) r)) = bare_exponent (group (primary_part (primary_alike e a)) r)

  pub wants_alike : (w : Option Waiting) (p : Pending) (k : Behind) (ps qs : List Piece) → Alike ps qs → wants font w p k ps → wants font w p k qs
  wants_alike None p k ps qs e v = record { value = v.value; rest = v.rest; read = product_alike e v.read; goes = v.goes }
  wants_alike (Some w) p k ps qs e v = record { value = v.value; rest = v.rest; read = exponent_alike e v.read; goes = v.goes }

  -- what stands behind a value sees no gap in front
  abbrev pub Passes : Behind → Type 0
  Passes k = (x : Found) (ps qs : List Piece) → Alike ps qs → k x ps → k x qs

  goes_alike : {l : Precedence} {x y : Found} {ps qs rs : List Piece} (k : Behind) → Passes k → Alike ps qs → Goes font l x ps y rs → k y rs
      → Via (Goes font l x qs) k
  goes_alike {x = x} {ps = ps} {qs = qs} k pass e stays h = record { value = _; rest = _; read = stays; goes = pass x ps qs e h }
  goes_alike k pass e (on_unit b r) h = record { value = _; rest = _; read = on_unit (sym e ∙ b) r; goes = h }
  goes_alike k pass e (on_radians b r) h = record { value = _; rest = _; read = on_radians (sym e ∙ b) r; goes = h }
  goes_alike k pass e (on_power b w r) h = record { value = _; rest = _; read = on_power (sym e ∙ b) w r; goes = h }
  goes_alike {ps = ps} {qs = qs} k pass e (on_operator {qs = us} o at l c b w r) h = record {
    value = _;
    rest = _;
    read = on_operator o at l c
        (stands_alike o at ps qs us e b) w r;
    goes = h;
  }
  goes_alike {ps = ps} {qs = qs} k pass e (on_comparison {qs = us} o at l b w) h = record {
    value = _;
    rest = _;
    read = on_comparison o at l
        (stands_alike o at ps qs us e b) w;
    goes = h;
  }

  asks_alike : {x y : Found} {ps qs rs : List Piece} (k : Behind) → Passes k → Alike ps qs → Asks font x ps y rs → k y rs → Via (Asks font x qs) k
  asks_alike {x = x} {ps = ps} {qs = qs} k pass e unasked h = record { value = _; rest = _; read = unasked; goes = pass x ps qs e h }
  asks_alike k pass e (asked q t n u) h = record { value = _; rest = _; read = asked (sym e ∙ q) t n u; goes = h }

  further_alike : {f : Most} {x y : Found} {ps qs rs : List Piece} → Alike ps qs → Further font f x ps y rs → Further font f x qs y rs
  further_alike e (no_further b) = no_further (sym e ∙ b)
  further_alike e (one_further b w r) = one_further (sym e ∙ b) w r

  pass_disjunction : (k : Behind) → Passes k → Passes (after_disjunction font k)
  pass_disjunction k pass x ps qs e v = asks_alike k pass e v.read v.goes

  pass_conjunction : (p : Pending) (k : Behind) → Passes k → Passes (after_conjunction font p k)
  pass_conjunction p k pass x ps qs e v = goes_alike (after_disjunction font k) (pass_disjunction k pass) e v.read v.goes

  pass_comparison : (p : Pending) (k : Behind) → Passes k → Passes (after_comparison font p k)
  pass_comparison p k pass x ps qs e v = goes_alike (after_conjunction font p k) (pass_conjunction p k pass) e v.read v.goes

  pass_comparing : (w : Option Waiting) (k : Behind) → Passes k → Passes (comparing font w k)
  pass_comparing None k pass x ps qs e v = goes_alike k pass e v.read v.goes
  pass_comparing (Some w) k pass x ps qs e h = pass (applied (Some w) x) ps qs e h

  pass_sum : (p : Pending) (k : Behind) → Passes k → Passes (after_sum font p k)
  pass_sum p k pass x ps qs e h = pass_comparing p.comparison (after_comparison font p k) (pass_comparison p k pass) x ps qs e h

  pass_product : (p : Pending) (k : Behind) → Passes k → Passes (after_product font p k)
  pass_product p k pass x ps qs e v = goes_alike (after_sum font p k) (pass_sum p k pass) e v.read v.goes

  pass_signed : (p : Pending) (k : Behind) → Passes k → Passes (after_signed font p k)
  pass_signed p k pass x ps qs e v = goes_alike (after_product font p k) (pass_product p k pass) e v.read v.goes

  pass_postfix : (p : Pending) (k : Behind) → Passes k → Passes (after_postfix font p k)
  pass_postfix p k pass x ps qs e v = goes_alike (after_signed font p k) (pass_signed p k pass) e v.read v.goes

  pub pass_primary : (p : Pending) (k : Behind) → Passes k → Passes (after_primary font p k)
  pass_primary p k pass x ps qs e v = goes_alike (after_postfix font p k) (pass_postfix p k pass) e v.read v.goes

  pass_bracket : (b : Bracket) (k : Behind) → Passes (in_bracket font b k)
  pass_bracket Plain k x ps qs e (n, rs, b, h) = (n, rs, sym e ∙ b, h)
  pass_bracket (Only f i) k x ps qs e (n, rs, b, h) = (n, rs, sym e ∙ b, h)
  pass_bracket (First f i) k x ps qs e (n, rs, b, h) = (n, rs, sym e ∙ b, h)
  pass_bracket (Second f i y) k x ps qs e (n, rs, b, h) = (n, rs, sym e ∙ b, h)
  pass_bracket (Each f y) k x ps qs e v = record { value = v.value; rest = v.rest; read = further_alike e v.read; goes = v.goes }

  pub pass_ends : (fs : List OpenFrame) (v : Found) → Passes (ends_in font fs v)
  pass_ends [] v x ps qs e h = (h.0, sym e ∙ h.1)
  pass_ends (Inside b p ∷ fs) v x ps qs e h = pass_bracket b (after_primary font p (ends_in font fs v)) x ps qs e h
  pass_ends (Then c ∷ fs) v x ps qs e (n, rs, b, h) = (n, rs, sym e ∙ b, h)
  pass_ends (Else c y ∷ fs) v x ps qs e h = pass_ends fs v (choice_found c y x) ps qs e h
