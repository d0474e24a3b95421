-- Each tree of a text is a value of it, and each value is that of some tree.
use Rattle.std.proofs.Common.{◌≡◌, List, ◌∷◌, Some, refl, ap, ap₂, ◌∙◌}
use Rattle.tk_expr.specs.declared.FontUnits.{FontUnits}
use Rattle.tk_expr.specs.declared.pieces.Mark.TheVariants.{Digit, Point}
use Rattle.tk_expr.specs.declared.pieces.Most.{Most}
use Rattle.tk_expr.specs.declared.operators.Operator.TheVariants.{Raise}
use Rattle.tk_expr.specs.declared.pieces.Piece.{Piece}
use Rattle.tk_expr.specs.Tree.{Tree, A_number, A_pi, In_unit, In_degrees, Signed, Binary, Choice, Call_one, Call_two, Call_most, value}
use Rattle.tk_expr.specs.Number.{Decimal}
use Rattle.tk_expr.specs.Grammar.{piece, skip, decimal_text, after_decimal, next_unit, after_unit, Precedence, Disjunctions, Expression, plain}
use Rattle.tk_expr.specs.Grammar.{choice, Grouped, grouped, Operand, of_atom, of_postfix, of_unary, of_product, of_sum, of_comparison, of_conjunction}
use Rattle.tk_expr.specs.Grammar.{Rest, stop, with_unit, with_radians, with_power, with_operator, with_comparison, Unary, signed, unsigned, Exponent}
use Rattle.tk_expr.specs.Grammar.{signed_exponent, unsigned_exponent, Atom, decimal, parenthesis, pi, call_one, call_two, call_most, MoreArguments}
use Rattle.tk_expr.specs.Grammar.{last, next}
use Rattle.tk_expr.specs.Machine.{Found, applied, waiting, choice_found, one_found, two_found, most_found}
use Rattle.tk_expr.proofs.Decimals.{decimal_reads, IsNumber, digits_read, point_read}
use Rattle.tk_expr.proofs.Readings.{decimal_found, prefixed_found, unit_found, radians_found, Whole, whole, Asks, unasked, asked, Group, group, Part}
use Rattle.tk_expr.proofs.Readings.{primary_part, postfix_part, prefixed_part, product_part, sum_part, comparison_part, conjunction_part, Goes, stays}
use Rattle.tk_expr.proofs.Readings.{on_unit, on_radians, on_power, on_operator, on_comparison, Prefixed, sign_before, no_sign_before, Exponential}
use Rattle.tk_expr.proofs.Readings.{exponent_sign_before, bare_exponent, Primary, of_digits, of_point, of_parenthesis, of_pi, of_one, of_two, of_most}
use Rattle.tk_expr.proofs.Readings.{Further, no_further, one_further}

-- ---- from trees to values

module _ (font : FontUnits) where
  mutual
    pub read_expression : {ps qs : List Piece} {t : Tree} → Expression ps t qs → Whole font ps (value font t) qs
    read_expression (plain g) = whole (read_grouped g) unasked
    read_expression (choice g q t c u) = whole (read_grouped g) (asked q (read_expression t) c (read_expression u))

    read_grouped : {l : Precedence} {ps qs : List Piece} {t : Tree} → Grouped l ps t qs → Group font l ps (value font t) qs
    read_grouped (grouped o r) = group (read_operand o) (read_rest r)

    read_operand : {l : Precedence} {ps qs : List Piece} {t : Tree} → Operand l ps t qs → Part font l ps (value font t) qs
    read_operand (of_atom a) = primary_part (read_atom a)
    read_operand (of_postfix g) = postfix_part (read_grouped g)
    read_operand (of_unary u) = prefixed_part (read_unary u)
    read_operand (of_product g) = product_part (read_grouped g)
    read_operand (of_sum g) = sum_part (read_grouped g)
    read_operand (of_comparison g) = comparison_part (read_grouped g)
    read_operand (of_conjunction g) = conjunction_part (read_grouped g)

    read_rest : {l : Precedence} {ps qs : List Piece} {t u : Tree} → Rest l t ps u qs → Goes font l (value font t) ps (value font u) qs
    read_rest stop = stays
    read_rest (with_unit e r) = on_unit e (read_rest r)
    read_rest (with_radians e r) = on_radians e (read_rest r)
    read_rest (with_power e x r) = on_power e (read_exponent x) (read_rest r)
    read_rest (with_operator {o = o} {at = at} l c e p r) = on_operator o at l c e (read_operand p) (read_rest r)
    read_rest (with_comparison {o = o} {at = at} l e p) = on_comparison o at l e (read_operand p)

    read_unary : {ps qs : List Piece} {t : Tree} → Unary ps t qs → Prefixed font ps (value font t) qs
    read_unary (signed e s u) = sign_before e s (read_unary u)
    read_unary (unsigned g) = no_sign_before (read_grouped g)

    read_exponent : {ps qs : List Piece} {t : Tree} → Exponent ps t qs → Exponential font ps (value font t) qs
    read_exponent (signed_exponent e s u) = exponent_sign_before e s (read_exponent u)
    read_exponent (unsigned_exponent g) = bare_exponent (read_grouped g)

    read_atom : {ps qs : List Piece} {t : Tree} → Atom ps t qs → Primary font ps (value font t) qs
    read_atom (decimal {ps = ps} {qs = qs} {p = p} e is) = decimal_reads font ps qs p e is
    read_atom (parenthesis l t r) = of_parenthesis l (read_expression t) r
    read_atom (pi e) = of_pi e
    read_atom (call_one e l t r) = of_one e l (read_expression t) r
    read_atom (call_two e l t c u r) = of_two e l (read_expression t) c (read_expression u) r
    read_atom (call_most e l t a) = of_most e l (read_expression t) (read_arguments a)

    read_arguments : {f : Most} {ps qs : List Piece} {t u : Tree} → MoreArguments f t ps u qs → Further font f (value font t) ps (value font u) qs
    read_arguments (last e) = no_further e
    read_arguments (next e t a) = one_further e (read_expression t) (read_arguments a)

-- ---- from values to trees

-- a tree that is read, with that value
pub record Told (font : FontUnits) (reads : Tree → Type 0) (x : Found) : Type 0 where
  pub tree : Tree
  pub is : value font tree ≡ x
  pub read : reads tree

module _ (font : FontUnits) where
  choice_is : {c x y : Found} (a b d : Tree) → value font a ≡ c → value font b ≡ x → value font d ≡ y → value font (Choice a b d) ≡ choice_found c x y
  choice_is {c = c} {x = x} a b d e f g = ap₂ (λ a b. choice_found a b (value font d)) e f ∙ ap (λ b. choice_found c x b) g

  digits_told : (ps qs : List Piece) (p : Piece) (n : Decimal) → skip ps ≡ p ∷ qs → IsNumber font p qs (next_unit (after_decimal (p ∷ qs))) n
      → Told font (λ t. Atom ps t (after_unit (after_decimal (p ∷ qs)))) (decimal_found font (next_unit (after_decimal (p ∷ qs))) n)
  digits_told ps qs p n e h = record {
    tree = A_number (decimal_text (p ∷ qs)) (next_unit (after_decimal (p ∷ qs))) p.at;
    is = h.value;
    read = decimal e h.text;
  }

  mutual
    pub tell_whole : {ps qs : List Piece} {x : Found} → Whole font ps x qs → Told font (λ t. Expression ps t qs) x
    tell_whole (whole g a) = let c = tell_group g in let r = tell_asks a c.tree c.is in record { tree = r.tree; is = r.is; read = r.read _ c.read }

    tell_asks : {ps rs : List Piece} {x y : Found} → Asks font x ps y rs → (c : Tree) → value font c ≡ x
        → Told font (λ t. (qs : List Piece) → Grouped Disjunctions qs c ps → Expression qs t rs) y
    tell_asks unasked c is = record { tree = c; is = is; read = λ qs g. plain g }
    tell_asks (asked q t n u) c is = let v = tell_whole t in let w = tell_whole u in record {
      tree = Choice c v.tree w.tree;
      is = choice_is c v.tree w.tree is v.is w.is;
      read = λ qs g. choice g q v.read n w.read;
    }

    tell_group : {l : Precedence} {ps qs : List Piece} {x : Found} → Group font l ps x qs → Told font (λ t. Grouped l ps t qs) x
    tell_group (group p g) =
        let t = tell_part p in let r = tell_goes g t.tree t.is in record { tree = r.tree; is = r.is; read = grouped t.read r.read }

    tell_part : {l : Precedence} {ps qs : List Piece} {x : Found} → Part font l ps x qs → Told font (λ t. Operand l ps t qs) x
    tell_part (primary_part a) = let t = tell_primary a in record { tree = t.tree; is = t.is; read = of_atom t.read }
    tell_part (postfix_part g) = let t = tell_group g in record { tree = t.tree; is = t.is; read = of_postfix t.read }
    tell_part (prefixed_part u) = let t = tell_prefixed u in record { tree = t.tree; is = t.is; read = of_unary t.read }
    tell_part (product_part g) = let t = tell_group g in record { tree = t.tree; is = t.is; read = of_product t.read }
    tell_part (sum_part g) = let t = tell_group g in record { tree = t.tree; is = t.is; read = of_sum t.read }
    tell_part (comparison_part g) = let t = tell_group g in record { tree = t.tree; is = t.is; read = of_comparison t.read }
    tell_part (conjunction_part g) = let t = tell_group g in record { tree = t.tree; is = t.is; read = of_conjunction t.read }

    tell_goes : {l : Precedence} {ps qs : List Piece} {x y : Found} → Goes font l x ps y qs → (t : Tree) → value font t ≡ x
        → Told font (λ u. Rest l t ps u qs) y
    tell_goes stays t is = record { tree = t; is = is; read = stop }
    tell_goes (on_unit {u = u} {at = at} e g) t is =
        let r = tell_goes g (In_unit u at t) (ap (unit_found font u at) is) in record { tree = r.tree; is = r.is; read = with_unit e r.read }
    tell_goes (on_radians {at = at} e g) t is =
        let r = tell_goes g (In_degrees at t) (ap (radians_found at) is) in record { tree = r.tree; is = r.is; read = with_radians e r.read }
    tell_goes (on_power {at = at} e x g) t is =
        let w = tell_exponential x in let r = tell_goes g (Binary Raise at t w.tree) (ap₂ (λ a b. applied (waiting Raise at a) b) is w.is)
        in record { tree = r.tree; is = r.is; read = with_power e w.read r.read }
    tell_goes (on_operator o at l c e p g) t is =
        let w = tell_part p in let r = tell_goes g (Binary o at t w.tree) (ap₂ (λ a b. applied (waiting o at a) b) is w.is)
        in record { tree = r.tree; is = r.is; read = with_operator l c e w.read r.read }
    tell_goes (on_comparison o at l e p) t is =
        let w = tell_part p in record {
          tree = Binary o at t w.tree;
          is = ap₂ (λ a b. applied (waiting o at a) b) is w.is;
          read = with_comparison l e w.read;
        }

    tell_prefixed : {ps qs : List Piece} {x : Found} → Prefixed font ps x qs → Told font (λ t. Unary ps t qs) x
    tell_prefixed (sign_before {s = s} e f u) =
        let t = tell_prefixed u in record { tree = Signed s t.tree; is = ap (prefixed_found s) t.is; read = signed e f t.read }
    tell_prefixed (no_sign_before g) = let t = tell_group g in record { tree = t.tree; is = t.is; read = unsigned t.read }

    tell_exponential : {ps qs : List Piece} {x : Found} → Exponential font ps x qs → Told font (λ t. Exponent ps t qs) x
    tell_exponential (exponent_sign_before {s = s} e f u) =
        let t = tell_exponential u in record { tree = Signed s t.tree; is = ap (prefixed_found s) t.is; read = signed_exponent e f t.read }
    tell_exponential (bare_exponent g) = let t = tell_group g in record { tree = t.tree; is = t.is; read = unsigned_exponent t.read }

    tell_primary : {ps qs : List Piece} {x : Found} → Primary font ps x qs → Told font (λ t. Atom ps t qs) x
    tell_primary (of_digits {ps = ps} {qs = qs} {d = d} {at = at} {n = n} e small f) =
        digits_told ps qs (piece (Digit d) at) n e (digits_read font qs d at (next_unit (after_decimal qs)) n small f)
    tell_primary (of_point {ps = ps} {qs = qs} {d = d} {at = at} {k = k} {n = n} e small f) =
        digits_told ps (piece (Digit d) k ∷ qs) (piece Point at) n e (point_read font qs d at k (next_unit (after_decimal qs)) n small f)
    tell_primary (of_parenthesis l t r) = let x = tell_whole t in record { tree = x.tree; is = x.is; read = parenthesis l x.read r }
    tell_primary (of_pi e) = record { tree = A_pi; is = refl; read = pi e }
    tell_primary (of_one {f = f} {at = at} e l t r) =
        let x = tell_whole t in record { tree = Call_one f at x.tree; is = ap (one_found f at) x.is; read = call_one e l x.read r }
    tell_primary (of_two {f = f} {at = at} e l t c u r) =
        let x = tell_whole t in let y = tell_whole u in record {
          tree = Call_two f at x.tree y.tree;
          is = ap₂ (two_found f at) x.is y.is;
          read = call_two e l x.read c y.read r;
        }
    tell_primary (of_most e l t a) =
        let x = tell_whole t in let r = tell_further a x.tree x.is in record { tree = r.tree; is = r.is; read = call_most e l x.read r.read }

    tell_further : {f : Most} {ps qs : List Piece} {x y : Found} → Further font f x ps y qs → (t : Tree) → value font t ≡ x
        → Told font (λ u. MoreArguments f t ps u qs) y
    tell_further (no_further e) t is = record { tree = t; is = is; read = last e }
    tell_further (one_further {f = f} e w a) t is =
        let u = tell_whole w in let r = tell_further a (Call_most f t u.tree) (ap₂ (λ a b. most_found f (Some a) b) is u.is)
        in record { tree = r.tree; is = r.is; read = next e u.read r.read }
