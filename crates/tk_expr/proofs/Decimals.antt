-- Decimals digit by digit, and as texts.
use Rattle.std.proofs.Common.{◌≡◌, ℕ, zero, suc, ◌+◌, ◌-◌, ◌*◌, ◌/◌, ◌<◌, ◌≤◌, ◌&&◌, min, nat_lt, nat_le, Bool, true, false, cond, true≢false, List}
use Rattle.std.proofs.Common.{[], ◌∷◌, length, take, drop, Option, Some, None, is_some, Err, refl, sym, ap, ap₂, subst, ◌∙◌, arith, one-add, lt-ltb}
use Rattle.std.proofs.Common.{le-ltb, leb-false, leb-true, not}
use Rattle.std.specs.Char.{is_ascii_digit, digit_value}
use Rattle.std.specs.List.{list_all, prefix_len}
use Rattle.std.specs.Str.Parse.{digits_value, digits_value_after}
use Rattle.std.proofs.lemmas.Bool.Decides.{nat_tests}
use Rattle.std.proofs.lemmas.Bool.{lt-leb}
use Rattle.tk_num.specs.Number.{is_point, whole_digits, part_digits, is_decimal, fraction_of, nearest_65536th, decimal_value}
use Rattle.tk_num.specs.declared.NumFault.TheVariants as faults
use Rattle.tk_num.specs.declared.unit.Unit.{Unit as AUnit}
use Rattle.tk_num.proofs.Digits.{digit_value_of}
use Rattle.tk_num.proofs.Fixed.{and_is_both}
use Rattle.tk_expr.specs.declared.FontUnits.{FontUnits}
use Rattle.tk_expr.specs.declared.pieces.Mark.{Mark}
use Rattle.tk_expr.specs.declared.pieces.Mark.TheVariants.{Digit, Point}
use Rattle.tk_expr.specs.declared.pieces.Piece.{Piece}
use Rattle.tk_expr.specs.Number.{Decimal, no_digits, with_digit, with_whole_digit, with_part_digit, with_point, total}
use Rattle.tk_expr.specs.Values.{placed, decimal_in}
use Rattle.tk_expr.specs.Grammar.{piece, skip, byte_of, with_byte, decimal_text, after_decimal, next_unit, after_unit}
use Rattle.tk_expr.proofs.Readings.{decimal_on, decimal_from, decimal_found, Primary, of_digits, of_point}

-- ---- bytes

-- a decimal that goes on with bytes
abbrev feed : List ℕ → Decimal → Option Decimal
feed [] n = Some n
feed (c ∷ cs) n = cond (is_point c) (cond n.pointed None (feed cs (with_point n))) (cond (is_ascii_digit c) (feed cs (with_digit (c - 48) n)) None)

digit_no_point : (d : ℕ) → is_point (48 + d) ≡ false
digit_no_point d = grind (arith, nat_tests)

digit_test : (d : ℕ) → is_ascii_digit (48 + d) ≡ nat_lt d 10
digit_test d = grind (arith, nat_tests)

digit_back : (d : ℕ) → 48 + d - 48 ≡ d
digit_back d = omega arith

is_no_point : (c : ℕ) → is_ascii_digit c ≡ true → is_point c ≡ false
is_no_point c e = grind (arith, nat_tests)

feed_digit : (d : ℕ) (cs : List ℕ) (n : Decimal) → feed ((48 + d) ∷ cs) n ≡ cond (nat_lt d 10) (feed cs (with_digit d n)) None
feed_digit d cs n = rw (digit_no_point d, digit_test d, digit_back d) refl

fed_on : (m : Mark) (ps : List Piece) (n : Decimal) → ((n : Decimal) → decimal_from ps n ≡ feed (decimal_text ps) n)
    → decimal_on m n (decimal_from ps) ≡ feed (with_byte (byte_of m) (decimal_text ps)) n
fed_on (Digit d) ps n h = ap (λ (o : Option Decimal). cond (nat_lt d 10) o None) (h (with_digit d n)) ∙ sym (feed_digit d (decimal_text ps) n)
fed_on Point ps n h = ap (λ (o : Option Decimal). cond n.pointed None o) (h (with_point n))
fed_on _ ps n h = refl

decimal_text_fed : (ps : List Piece) (n : Decimal) → decimal_from ps n ≡ feed (decimal_text ps) n
decimal_text_fed [] n = refl
decimal_text_fed (p ∷ ps) n = fed_on p.mark ps n (λ n. decimal_text_fed ps n)

-- ---- the two parts of a text

whole_cons : (c : ℕ) (cs : List ℕ) → is_point c ≡ false → whole_digits (c ∷ cs) ≡ c ∷ whole_digits cs
whole_cons c cs e = rw e (rw one-add refl)

part_cons : (c : ℕ) (cs : List ℕ) → is_point c ≡ false → part_digits (c ∷ cs) ≡ part_digits cs
part_cons c cs e = rw e (drop_more (prefix_len (λ x. not (is_point x)) cs) c cs)
  where
    drop_more : (k c : ℕ) (cs : List ℕ) → drop (1 + k + 1) (c ∷ cs) ≡ drop (k + 1) cs
    drop_more k c cs = let e : 1 + k + 1 ≡ suc (k + 1) = omega arith in rw e refl

whole_point : (c : ℕ) (cs : List ℕ) → is_point c ≡ true → whole_digits (c ∷ cs) ≡ []
whole_point c cs e = rw e refl

part_point : (c : ℕ) (cs : List ℕ) → is_point c ≡ true → part_digits (c ∷ cs) ≡ cs
part_point c cs e = rw e refl

abbrev AreDigits : List ℕ → Type 0
AreDigits ds = list_all is_ascii_digit ds ≡ true

digits_cons : (c : ℕ) (cs : List ℕ) → is_ascii_digit c ≡ true → AreDigits cs → AreDigits (c ∷ cs)
digits_cons c cs e h = ap₂ (λ a b. a && b) e h

-- ---- behind the point

abbrev part_after : List ℕ → Decimal → Decimal
part_after [] n = n
part_after (c ∷ cs) n = part_after cs (with_part_digit (c - 48) n)

still_pointed : (d : ℕ) (n : Decimal) → n.pointed ≡ true → (with_part_digit d n).pointed ≡ true
still_pointed d n e = by (nat_lt n.count 17)
  where
    by : (b : Bool) → (let m : Decimal = cond b (record n { count = n.count + 1; part = 10 * n.part + d }) n in m).pointed ≡ true
    by true = e
    by false = e

feed_part : (cs : List ℕ) (n : Decimal) → n.pointed ≡ true → AreDigits cs → feed cs n ≡ Some (part_after cs n)
feed_part [] n p h = refl
feed_part (c ∷ cs) n p h =
    let two = and_is_both (is_ascii_digit c) (list_all is_ascii_digit cs) h in
    let a : feed (c ∷ cs) n ≡ feed cs (with_digit (c - 48) n) = rw (is_no_point c two.0, two.0) refl in
    let b : with_digit (c - 48) n
    ≡ with_part_digit (c - 48) n = ap (λ (b : Bool). let m : Decimal = cond b (with_part_digit (c - 48) n) (with_whole_digit (c - 48) n) in m)
    p in
    a ∙ ap (feed cs) b ∙ feed_part cs (with_part_digit (c - 48) n) (still_pointed (c - 48) n p) two.1

none_some : {A : Type 0} {a : A} → None ≡ Some a → ⊥
none_some e = true≢false (sym (ap is_some e))

feed_digits : (cs : List ℕ) (n m : Decimal) → n.pointed ≡ true → feed cs n ≡ Some m → AreDigits cs
feed_digits [] n m p h = refl
feed_digits (c ∷ cs) n m p h = by (λ n p h. feed_digits cs n m p h) (is_point c) (is_ascii_digit c) refl refl
  where
    by : ((n : Decimal) → n.pointed ≡ true → feed cs n ≡ Some m → AreDigits cs) → (a b : Bool) → is_point c ≡ a → is_ascii_digit c ≡ b
        → AreDigits (c ∷ cs)
    by again true b e f = absurd (none_some (sym (let g : feed (c ∷ cs) n ≡ None = rw (e, p) refl in g) ∙ h))
    by again false false e f = absurd (none_some (sym (let g : feed (c ∷ cs) n ≡ None = rw (e, f) refl in g) ∙ h))
    by again false true e f =
        let a : feed (c ∷ cs) n ≡ feed cs (with_digit (c - 48) n) = rw (e, f) refl in
        let b : with_digit (c - 48) n
        ≡ with_part_digit (c - 48) n
        = ap (λ (b : Bool). let m : Decimal = cond b (with_part_digit (c - 48) n) (with_whole_digit (c - 48) n) in m) p in
        digits_cons c cs f (again (with_part_digit (c - 48) n) (still_pointed (c - 48) n p) (sym (a ∙ ap (feed cs) b) ∙ h))

-- a decimal with further digits behind its point
record PartIs (n m : Decimal) (ds : List ℕ) : Type 0 where
  count : m.count ≡ n.count + length ds
  part : m.part ≡ digits_value_after 10 n.part ds
  whole : m.whole ≡ n.whole
  at : m.at ≡ n.at

no_part : (n : Decimal) → PartIs n n []
no_part n = record { count = omega arith; part = refl; whole = refl; at = refl }

part_more : (n m : Decimal) (c : ℕ) (ds : List ℕ) → is_ascii_digit c ≡ true
    → PartIs (record n { count = n.count + 1; part = 10 * n.part + (c - 48) }) m ds → PartIs n m (c ∷ ds)
part_more n m c ds e h = record {
  count = let a = h.count in omega (arith, a);
  part = h.part ∙ ap (λ k. digits_value_after 10 k ds) (let v = digit_value_of c e in omega (arith, v));
  whole = h.whole;
  at = h.at;
}

part_is : (cs : List ℕ) (k : ℕ) (n : Decimal) → n.count + k ≡ 17 → AreDigits cs → PartIs n (part_after cs n) (take k cs)
part_is [] zero n e h = no_part n
part_is [] (suc k) n e h = no_part n
part_is (c ∷ cs) zero n e h =
    let two = and_is_both (is_ascii_digit c) (list_all is_ascii_digit cs) h in
    let full : nat_lt n.count 17 ≡ false = le-ltb n.count 17 (omega arith) in
    let same : with_part_digit (c - 48) n
    ≡ n = ap (λ (b : Bool). let m : Decimal = cond b (record n { count = n.count + 1; part = 10 * n.part + (c - 48) }) n in m) full in
    subst (λ (m : Decimal). PartIs n (part_after cs m) []) (sym same) (part_is cs zero n e two.1)
part_is (c ∷ cs) (suc k) n e h =
    let two = and_is_both (is_ascii_digit c) (list_all is_ascii_digit cs) h in
    let room : nat_lt n.count 17 ≡ true = lt-ltb n.count 17 (omega arith) in
    let next : Decimal = record n { count = n.count + 1; part = 10 * n.part + (c - 48) } in
    let same : with_part_digit (c - 48) n
    ≡ next = ap (λ (b : Bool). let m : Decimal = cond b (record n { count = n.count + 1; part = 10 * n.part + (c - 48) }) n in m) room in
    subst (λ (m : Decimal). PartIs n (part_after cs m) (c ∷ take k cs)) (sym same) (part_more n (part_after cs next) c (take k cs) two.0
    (part_is cs k next (omega arith) two.1))

-- ---- the whole text

abbrev read_of : List ℕ → Decimal → Decimal
read_of [] n = n
read_of (c ∷ cs) n = cond (is_point c) (part_after cs (with_point n)) (read_of cs (with_whole_digit (c - 48) n))

whole_digit : (d : ℕ) (n : Decimal) → n.pointed ≡ false → with_digit d n ≡ with_whole_digit d n
whole_digit d n p = ap (λ (b : Bool). let m : Decimal = cond b (with_part_digit d n) (with_whole_digit d n) in m) p

feed_whole : (cs : List ℕ) (n : Decimal) → n.pointed ≡ false → AreDigits (whole_digits cs) → AreDigits (part_digits cs)
    → feed cs n ≡ Some (read_of cs n)
feed_whole [] n p w f = refl
feed_whole (c ∷ cs) n p w f = by (λ n p w f. feed_whole cs n p w f) (is_point c) refl
  where
    by : ((n : Decimal) → n.pointed ≡ false → AreDigits (whole_digits cs) → AreDigits (part_digits cs) → feed cs n ≡ Some (read_of cs n)) → (b : Bool)
        → is_point c ≡ b → feed (c ∷ cs) n ≡ Some (read_of (c ∷ cs) n)
    by again true e =
        let a : feed (c ∷ cs) n ≡ feed cs (with_point n) = rw (e, p) refl in
        let b : read_of (c ∷ cs) n ≡ part_after cs (with_point n) = rw e refl in
        a ∙ feed_part cs (with_point n) refl (subst AreDigits (part_point c cs e) f) ∙ ap Some (sym b)
    by again false e =
        let all = and_is_both (is_ascii_digit c) (list_all is_ascii_digit (whole_digits cs)) (subst AreDigits (whole_cons c cs e) w) in
        let a : feed (c ∷ cs) n ≡ feed cs (with_digit (c - 48) n) = rw (e, all.0) refl in
        let b : read_of (c ∷ cs) n ≡ read_of cs (with_whole_digit (c - 48) n) = rw e refl in
        a ∙ ap (feed cs) (whole_digit (c - 48) n p) ∙ again (with_whole_digit (c - 48) n) p all.1 (subst AreDigits (part_cons c cs e) f)
        ∙ ap Some (sym b)

feed_all : (cs : List ℕ) (n m : Decimal) → n.pointed ≡ false → feed cs n ≡ Some m → AreDigits (whole_digits cs) × AreDigits (part_digits cs)
feed_all [] n m p h = (refl, refl)
feed_all (c ∷ cs) n m p h = by (λ n p h. feed_all cs n m p h) (is_point c) (is_ascii_digit c) refl refl
  where
    by : ((n : Decimal) → n.pointed ≡ false → feed cs n ≡ Some m → AreDigits (whole_digits cs) × AreDigits (part_digits cs)) → (a b : Bool)
        → is_point c ≡ a → is_ascii_digit c ≡ b → AreDigits (whole_digits (c ∷ cs)) × AreDigits (part_digits (c ∷ cs))
    by again true b e f =
        let a : feed (c ∷ cs) n ≡ feed cs (with_point n) = rw (e, p) refl in (
          subst AreDigits (sym (whole_point c cs e)) refl,
          subst AreDigits (sym (part_point c cs e)) (feed_digits cs (with_point n) m
              refl (sym a ∙ h)),
        )
    by again false false e f = absurd (none_some (sym (let g : feed (c ∷ cs) n ≡ None = rw (e, f) refl in g) ∙ h))
    by again false true e f =
        let a : feed (c ∷ cs) n ≡ feed cs (with_digit (c - 48) n) = rw (e, f) refl in
        let rest = again (with_whole_digit (c - 48) n) p (sym (a ∙ ap (feed cs) (whole_digit (c - 48) n p)) ∙ h) in
        (subst AreDigits (sym (whole_cons c cs e)) (digits_cons c (whole_digits cs) f rest.0), subst AreDigits (sym (part_cons c cs e)) rest.1)

-- what was read of a text, behind a whole part that is v as far as it is kept
record ReadIs (v at : ℕ) (cs : List ℕ) (m : Decimal) : Type 0 where
  whole : m.whole ≡ min (digits_value_after 10 v (whole_digits cs)) 1073741824
  count : m.count ≡ length (take 17 (part_digits cs))
  part : m.part ≡ digits_value 10 (take 17 (part_digits cs))
  place : m.at ≡ at

kept_whole : (w v c : ℕ) → w ≡ min v 1073741824 → is_ascii_digit c ≡ true
    → min (10 * w + (c - 48)) 1073741824 ≡ min (v * 10 + digit_value c) 1073741824
kept_whole w v c e f = let d = digit_value_of c f in omega (arith, d)

read_is : (cs : List ℕ) (n : Decimal) (v at : ℕ) → n.whole ≡ min v 1073741824 → n.count ≡ 0 → n.part ≡ 0 → n.at ≡ at → AreDigits (whole_digits cs)
    → AreDigits (part_digits cs) → ReadIs v at cs (read_of cs n)
read_is [] n v at e none nought place w f = record { whole = e; count = none; part = nought; place = place }
read_is (c ∷ cs) n v at e none nought place w f = by (λ n v e none nought place w f. read_is cs n v at e none nought place w f) (is_point c) refl
  where
    by : ((n : Decimal) (v : ℕ) → n.whole ≡ min v 1073741824 → n.count ≡ 0 → n.part ≡ 0 → n.at ≡ at → AreDigits (whole_digits cs)
        → AreDigits (part_digits cs) → ReadIs v at cs (read_of cs n))
        → (b : Bool) → is_point c ≡ b → ReadIs v at (c ∷ cs) (read_of (c ∷ cs) n)
    by again true p =
        let h = part_is cs 17 (with_point n) (omega arith) (subst AreDigits (part_point c cs p) f) in
        let b : read_of (c ∷ cs) n ≡ part_after cs (with_point n) = rw p refl in
        subst (λ (m : Decimal). ReadIs v at (c ∷ cs) m) (sym b) (record {
          whole = h.whole ∙ e ∙ ap (λ ds. min (digits_value_after 10 v ds) 1073741824) (sym (whole_point c cs p));
          count = (let i = h.count in let j : (part_after cs (with_point n)).count ≡ length (take 17 cs) = omega (arith, i, none) in j)
              ∙ ap (λ ds. length (take 17 ds)) (sym (part_point c cs p));
          part = h.part ∙ ap (λ k. digits_value_after 10 k (take 17 cs)) nought ∙ ap (λ ds. digits_value 10 (take 17 ds)) (sym (part_point c cs p));
          place = h.at ∙ place;
        })
    by again false p =
        let all = and_is_both (is_ascii_digit c) (list_all is_ascii_digit (whole_digits cs)) (subst AreDigits (whole_cons c cs p) w) in
        let h = again (with_whole_digit (c - 48) n) (v * 10 + digit_value c) (kept_whole n.whole v c e all.0) none nought place all.1
        (subst AreDigits (part_cons c cs p) f) in
        let b : read_of (c ∷ cs) n ≡ read_of cs (with_whole_digit (c - 48) n) = rw p refl in
        subst (λ (m : Decimal). ReadIs v at (c ∷ cs) m) (sym b) (record {
          whole = h.whole ∙ ap (λ ds. min (digits_value_after 10 v ds) 1073741824) (sym (whole_cons c cs p));
          count = h.count ∙ ap (λ ds. length (take 17 ds)) (sym (part_cons c cs p));
          part = h.part ∙ ap (λ ds. digits_value 10 (take 17 ds)) (sym (part_cons c cs p));
          place = h.place;
        })

-- ---- the value

too_much : (font : FontUnits) (unit : Option AUnit) (n : ℕ) → 70368744177664 ≤ n → decimal_in font unit n ≡ Err faults.TooLarge
too_much font None n le = let e : nat_le n 1073741823 ≡ false = lt-leb n 1073741823 (omega arith) in rw e refl
too_much font (Some u) n le = let e : nat_le (n / 65536) 1073741823 ≡ false = lt-leb (n / 65536) 1073741823 (omega arith) in rw e refl

same_value : (font : FontUnits) (unit : Option AUnit) (v w f : ℕ) → w ≡ min v 1073741824
    → decimal_in font unit (65536 * w + f) ≡ decimal_in font unit (65536 * v + f)
same_value font unit v w f e = by (nat_le v 1073741824) refl
  where
    by : (b : Bool) → nat_le v 1073741824 ≡ b → decimal_in font unit (65536 * w + f) ≡ decimal_in font unit (65536 * v + f)
    by true t = let le = leb-true v 1073741824 t in ap (λ (k : ℕ). decimal_in font unit (65536 * k + f)) (omega (arith, le))
    by false t = let lt = leb-false v 1073741824 t in too_much font unit (65536 * w + f) (omega (arith, lt))
        ∙ sym (too_much font unit (65536 * v + f) (omega (arith, lt)))

-- a text that was read, and its decimal
record OfText (font : FontUnits) (text : List ℕ) (at : ℕ) (n : Decimal) : Type 0 where
  whole : AreDigits (whole_digits text)
  part : AreDigits (part_digits text)
  value : (unit : Option AUnit) → placed at (decimal_in font unit (decimal_value text)) ≡ decimal_found font unit n

value_of : (font : FontUnits) (text : List ℕ) (at : ℕ) (n : Decimal) → ReadIs 0 at text n → (unit : Option AUnit)
    → placed at (decimal_in font unit (decimal_value text)) ≡ decimal_found font unit n
unfolding total
value_of font text at n h unit =
    let f = fraction_of (part_digits text) in
    let same = same_value font unit (digits_value 10 (whole_digits text)) n.whole f h.whole in
    let part : nearest_65536th n.count n.part ≡ f = ap₂ nearest_65536th h.count h.part in
    ap (placed at) (sym same) ∙ ap₂ (λ (i k : ℕ). placed i (decimal_in font unit (65536 * n.whole + k))) (sym h.place) (sym part)

text_read : (font : FontUnits) (ps : List Piece) (at : ℕ) (n : Decimal) → decimal_from ps (no_digits false at) ≡ Some n
    → OfText font (decimal_text ps) at n
text_read font ps at n e =
    let text = decimal_text ps in
    let f : feed text (no_digits false at) ≡ Some n = sym (decimal_text_fed ps (no_digits false at)) ∙ e in
    let all = feed_all text (no_digits false at) n refl f in
    let is : Some (read_of text (no_digits false at)) ≡ Some n = sym (feed_whole text (no_digits false at) refl all.0 all.1) ∙ f in
    let same : read_of text (no_digits false at) ≡ n = ap (λ (o : Option Decimal). elim o as (λ _. Decimal) [ None ↦ n | Some m ↦ m ]) is in
    record {
      whole = all.0;
      part = all.1;
      value = value_of font text at n (subst (ReadIs 0 at text) same (read_is text (no_digits false at) 0 at refl
          refl refl refl all.0 all.1));
    }

all_of : (text : List ℕ) → is_decimal text ≡ true
    → AreDigits (whole_digits text) × AreDigits (part_digits text) × (nat_lt 0 (length (whole_digits text) + length (part_digits text)) ≡ true)
all_of text e =
    let a = and_is_both (list_all is_ascii_digit (whole_digits text)) _ e in
    let b = and_is_both (list_all is_ascii_digit (part_digits text)) _ a.1 in
    (a.0, b.0, b.1)

text_fed : (ps : List Piece) (at : ℕ) → AreDigits (whole_digits (decimal_text ps)) → AreDigits (part_digits (decimal_text ps))
    → decimal_from ps (no_digits false at) ≡ Some (read_of (decimal_text ps) (no_digits false at))
text_fed ps at w f = decimal_text_fed ps (no_digits false at) ∙ feed_whole (decimal_text ps) (no_digits false at) refl w f

-- ---- from values to texts

-- what is read digit by digit is a decimal's text
pub record IsNumber (font : FontUnits) (p : Piece) (qs : List Piece) (unit : Option AUnit) (n : Decimal) : Type 0 where
  pub text : is_decimal (decimal_text (p ∷ qs)) ≡ true
  pub value : placed p.at (decimal_in font unit (decimal_value (decimal_text (p ∷ qs)))) ≡ decimal_found font unit n

some_digits : (text : List ℕ) → AreDigits (whole_digits text) → AreDigits (part_digits text)
    → 0 < length (whole_digits text) + length (part_digits text) → is_decimal text ≡ true
some_digits text w f lt = ap₂ (λ a b. a && b) w (ap₂ (λ a b. a && b) f (lt-ltb 0 (length (whole_digits text) + length (part_digits text)) lt))

pub digits_read : (font : FontUnits) (qs : List Piece) (d at : ℕ) (unit : Option AUnit) (n : Decimal) → nat_lt d 10 ≡ true
    → decimal_from qs (with_digit d (no_digits false at)) ≡ Some n → IsNumber font (piece (Digit d) at) qs unit n
digits_read font qs d at unit n small e =
    let ps = piece (Digit d) at ∷ qs in
    let f : decimal_from ps (no_digits false at) ≡ Some n = ap (λ (b : Bool). cond b (decimal_from qs (with_digit d (no_digits false at))) None) small
    ∙ e in
    let t = text_read font ps at n f in
    let long : length (whole_digits (decimal_text ps)) ≡ suc (length (whole_digits (decimal_text qs))) = ap length
    (whole_cons (48 + d) (decimal_text qs) (digit_no_point d)) in
    record { text = some_digits (decimal_text ps) t.whole t.part (omega (arith, long)); value = t.value unit }

pub point_read : (font : FontUnits) (qs : List Piece) (d at k : ℕ) (unit : Option AUnit) (n : Decimal) → nat_lt d 10 ≡ true
    → decimal_from qs (with_digit d (no_digits true at)) ≡ Some n → IsNumber font (piece Point at) (piece (Digit d) k ∷ qs) unit n
point_read font qs d at k unit n small e =
    let ps = piece Point at ∷ piece (Digit d) k ∷ qs in
    let f : decimal_from ps (no_digits false at) ≡ Some n = ap (λ (b : Bool). cond b (decimal_from qs (with_digit d (no_digits true at))) None) small
    ∙ e in
    let t = text_read font ps at n f in
    let long : length (part_digits (decimal_text ps)) ≡ suc (length (decimal_text qs)) = ap length (part_point 46 ((48 + d) ∷ decimal_text qs) refl)
    in
    record { text = some_digits (decimal_text ps) t.whole t.part (omega (arith, long)); value = t.value unit }

-- ---- from texts to values

module _ (font : FontUnits) (ps : List Piece) where
  -- what a decimal's text is to come to
  abbrev Comes : Piece → List Piece → Type 0
  Comes p qs = Primary font ps (placed p.at (decimal_in font (next_unit (after_decimal (p ∷ qs))) (decimal_value (decimal_text (p ∷ qs)))))
      (after_unit (after_decimal (p ∷ qs)))

  small_digit : (d : ℕ) (cs : List ℕ) → AreDigits ((48 + d) ∷ cs) → nat_lt d 10 ≡ true
  small_digit d cs h = sym (digit_test d) ∙ (and_is_both (is_ascii_digit (48 + d)) (list_all is_ascii_digit cs) h).0

  digit_comes : (d at : ℕ) (qs : List Piece) → skip ps ≡ piece (Digit d) at ∷ qs → is_decimal (decimal_text (piece (Digit d) at ∷ qs)) ≡ true
      → Comes (piece (Digit d) at) qs
  digit_comes d at qs e is =
      let rs = piece (Digit d) at ∷ qs in
      let all = all_of (decimal_text rs) is in
      let n = read_of (decimal_text rs) (no_digits false at) in
      let f : decimal_from rs (no_digits false at) ≡ Some n = text_fed rs at all.0 all.1 in
      let small = small_digit d (whole_digits (decimal_text qs)) (subst AreDigits (whole_cons (48 + d) (decimal_text qs) (digit_no_point d)) all.0) in
      let g : decimal_from qs (with_digit d (no_digits false at))
      ≡ Some n = sym (ap (λ (b : Bool). cond b (decimal_from qs (with_digit d (no_digits false at))) None) small) ∙ f in
      subst (λ x. Primary font ps x (after_unit (after_decimal qs))) (sym ((text_read font rs at n f).value (next_unit (after_decimal qs))))
      (of_digits e small g)

  point_digit : (d at k : ℕ) (qs : List Piece) → skip ps ≡ piece Point at ∷ piece (Digit d) k ∷ qs
      → is_decimal (decimal_text (piece Point at ∷ piece (Digit d) k ∷ qs)) ≡ true → Comes (piece Point at) (piece (Digit d) k ∷ qs)
  point_digit d at k qs e is =
      let rs = piece Point at ∷ piece (Digit d) k ∷ qs in
      let all = all_of (decimal_text rs) is in
      let n = read_of (decimal_text rs) (no_digits false at) in
      let f : decimal_from rs (no_digits false at) ≡ Some n = text_fed rs at all.0 all.1 in
      let small = small_digit d (decimal_text qs) (subst AreDigits (part_point 46 ((48 + d) ∷ decimal_text qs) refl) all.1) in
      let g : decimal_from qs (with_digit d (no_digits true at))
      ≡ Some n = sym (ap (λ (b : Bool). cond b (decimal_from qs (with_digit d (no_digits true at))) None) small) ∙ f in
      subst (λ x. Primary font ps x (after_unit (after_decimal qs))) (sym ((text_read font rs at n f).value (next_unit (after_decimal qs))))
      (of_point e small g)

  two_points : (cs : List ℕ) → is_decimal (46 ∷ 46 ∷ cs) ≡ true → ⊥
  two_points cs e = let all = all_of (46 ∷ 46 ∷ cs) e in true≢false
      (sym ((and_is_both (is_ascii_digit 46) (list_all is_ascii_digit cs) (subst AreDigits (part_point 46 (46 ∷ cs) refl) all.1)).0))

  point_comes : (m : Mark) (at k : ℕ) (qs : List Piece) → skip ps ≡ piece Point at ∷ piece m k ∷ qs
      → is_decimal (decimal_text (piece Point at ∷ piece m k ∷ qs)) ≡ true → Comes (piece Point at) (piece m k ∷ qs)
  point_comes (Digit d) at k qs e is = point_digit d at k qs e is
  point_comes Point at k qs e is = absurd (two_points (decimal_text qs) is)
  point_comes _ at k qs e is = absurd (true≢false (sym is))

  comes : (m : Mark) (at : ℕ) (qs : List Piece) → skip ps ≡ piece m at ∷ qs → is_decimal (decimal_text (piece m at ∷ qs)) ≡ true
      → Comes (piece m at) qs
  comes (Digit d) at qs e is = digit_comes d at qs e is
  comes Point at [] e is = absurd (true≢false (sym is))
  comes Point at (q ∷ qs) e is = point_comes q.mark at q.at qs e is
  comes _ at qs e is = absurd (true≢false (sym is))

-- a decimal's text is read
pub decimal_reads : (font : FontUnits) (ps qs : List Piece) (p : Piece) → skip ps ≡ p ∷ qs → is_decimal (decimal_text (p ∷ qs)) ≡ true
    → Primary font ps (placed p.at (decimal_in font (next_unit (after_decimal (p ∷ qs))) (decimal_value (decimal_text (p ∷ qs)))))
    (after_unit (after_decimal (p ∷ qs)))
decimal_reads font ps qs p e is = comes font ps p.mark p.at qs e is
