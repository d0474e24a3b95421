-- Where the faults of native keys stand: what holds of the place of the key's part, and of the places of the value's tokens,
-- holds of theirs.
use Rattle.std.specs.Prelude.{ℕ, zero, suc, ◌-◌, ◌==◌, Bool, true, false, if◌then◌else◌, int_le, nat_le, unsigned_abs, List, [], ◌∷◌, length, take}
use Rattle.std.specs.Prelude.{drop, unwrap_or, Option, Some, None, option_map, Ok, Err, IfErr, IfSome, Result, ℤ, pos, codes}
use Rattle.std.specs.List.{AllByRecursion, prefix_len, suffix_len}
use Rattle.std.specs.Str.{bytes_eq}
use Rattle.tk_characters.specs.Characters.{comma, colon, left_parenthesis, right_parenthesis}
use Rattle.tk_characters.specs.Options.{◌and_then◌}
use Rattle.tk_characters.specs.Words.{word_meaning}
use Rattle.tk_item.specs.declared.Rgb.{Rgb}
use Rattle.tk_token.specs.declared.Code.{Code}
use Rattle.tk_token.specs.declared.Code.TheVariants as codes_of
use Rattle.tk_token.specs.declared.Fault.{Fault}
use Rattle.tk_token.specs.declared.Tok.{Tok}
use Rattle.tk_token.specs.Answers.{Answer, ◌>>=◌, or_fault}
use Rattle.tk_token.specs.Groups.{Cut, cut, first_outside, before_char}
use Rattle.tk_token.specs.Kinds.{is_char, begins_text, begins_dash}
use Rattle.tk_token.specs.Spaces.{is_space_token, after_spaces, before_spaces, trimmed}
use Rattle.tk_token.specs.Texts.{text_in}
use Rattle.tk_token.proofs.Outside.{first_outside_keeps, before_char_keeps}
use Rattle.tk_native.specs.declared.Native.{Native}
use Rattle.tk_native.specs.declared.Native.TheVariants as natives
use Rattle.tk_native.specs.declared.LookKey.{LookKey}
use Rattle.tk_native.specs.declared.LookKey.TheVariants.{Colour, Paint, Length, Angle, Measure, Flag, LineWidth, LineCap, LineJoin, MiterLimit}
use Rattle.tk_native.specs.declared.LookKey.TheVariants.{DashPattern, Shape, Anchor, Pos, Name, Unknown}
use Rattle.tk_native.specs.declared.PaintKey.{PaintKey}
use Rattle.tk_native.specs.declared.TransformKey.{TransformKey}
use Rattle.tk_native.specs.declared.TransformKey.TheVariants.{Step, Beside, Shift, RotateAround, Cm}
use Rattle.tk_affine.specs.declared.AffFault.{AffFault}
use Rattle.tk_affine.specs.declared.Anchor.{Anchor as NodeAnchor}
use Rattle.tk_affine.specs.declared.Matrix.{Matrix}
use Rattle.tk_affine.specs.declared.Shape.{Shape as NodeShape}
use Rattle.tk_affine.specs.Faults.{answer_at}
use Rattle.tk_affine.specs.Steps.{with_steps}
use Rattle.tk_expr.specs.declared.FontUnits.{FontUnits}
use Rattle.tk_expr.specs.declared.Value.{Value}
use Rattle.tk_expr.specs.Evaluates.{Evaluation}
use Rattle.tk_expr.specs.Pairs.{paired}
use Rattle.tk_expr.proofs.Places.{paired_by_at, vector_at}
use Rattle.tk_look.specs.declared.GraphicsState.{GraphicsState}
use Rattle.tk_look.specs.declared.Look.{Look}
use Rattle.tk_look.specs.Applied.{paint_by, paint, with_name, shaped_or_unknown, coloured_or_shaped, by_own_name, shift_by, turn_around, matrix_step}
use Rattle.tk_look.specs.Applied.{side_length, position_value, set_look, transformed, native_applied}
use Rattle.tk_look.specs.Colours.{colour_of}
use Rattle.tk_look.specs.Dashes.{Dash, up_to_word, behind_word, dash_of, all_dashes, dash_length, dash_lengths, pattern_value}
use Rattle.tk_look.specs.Graphics.{graphics_by}
use Rattle.tk_look.specs.Values.{found_in, colour_in, before_closing, between_parentheses, value_there, word_value, colour_value, at_least, is_misfit}
use Rattle.tk_look.specs.Values.{as_anchor, measure_value, number_value, number_from, anchor_by, anchor_value, vector_value}
use Rattle.tk_look.specs.Words.{caps, joins, shapes, anchors}

module _ (P : ℕ → Type 0) where
  -- a fault stands at such a place
  abbrev pub Fine : {A : Type 0} → Answer A → Type 0
  Fine m = IfErr m (λ (f : Fault). P f.at)

  -- all tokens do
  abbrev pub Within : List Tok → Type 0
  Within ts = AllByRecursion (λ (t : Tok). P t.at) ts

  abbrev CutWithin : Cut → Type 0
  CutWithin c = Within c.front × Within c.rest

  fine_then : {A B : Type 0} (m : Answer A) (f : A → Answer B) → Fine m → ((x : A) → Fine (f x)) → Fine (m >>= f)
  fine_then (Ok x) f h k = k x
  fine_then (Err e) f h k = h

  fine_if : {A : Type 0} (b : Bool) (m n : Answer A) → Fine m → Fine n → Fine (if b then m else n)
  fine_if true m n h k = h
  fine_if false m n h k = k

  -- ---- texts

  dropped : (n : ℕ) (ts : List Tok) → Within ts → Within (drop n ts)
  dropped zero ts h = h
  dropped (suc n) [] h = h
  dropped (suc n) (t ∷ ts) h = dropped n ts h.1

  taken : (n : ℕ) (ts : List Tok) → Within ts → Within (take n ts)
  taken zero ts h = tt
  taken (suc n) [] h = tt
  taken (suc n) (t ∷ ts) h = (h.0, taken n ts h.1)

  behind_spaces : (ts : List Tok) → Within ts → Within (after_spaces ts)
  behind_spaces ts h = dropped (prefix_len is_space_token ts) ts h

  in_front : (ts : List Tok) → Within ts → Within (before_spaces ts)
  unfolding before_spaces
  in_front ts h = taken (length ts - suffix_len is_space_token ts) ts h

  trimmed_within : (ts : List Tok) → Within ts → Within (trimmed ts)
  trimmed_within ts h = in_front (after_spaces ts) (behind_spaces ts h)

  one_more : (t : Tok) (o : Option (List Tok)) → P t.at → IfSome o Within → IfSome (option_map (λ (ts : List Tok). t ∷ ts) o) Within
  one_more t None h k = tt
  one_more t (Some ts) h k = (h, k)

  some_if : {A : Type 0} (Q : A → Type 0) (b : Bool) (x : A) → Q x → IfSome (if b then Some x else None) Q
  some_if Q true x h = h
  some_if Q false x h = tt

  closing_within : (ts : List Tok) → Within ts → IfSome (before_closing ts) Within
  unfolding before_closing
  closing_within [] h = tt
  closing_within (t ∷ []) h = some_if Within (is_char right_parenthesis t.kind) [] tt
  closing_within (t ∷ (u ∷ ts)) h = one_more t (before_closing (u ∷ ts)) h.0 (closing_within (u ∷ ts) h.1)

  option_if : {A : Type 0} (Q : A → Type 0) (b : Bool) (o : Option A) → IfSome o Q → IfSome (if b then o else None) Q
  option_if Q true o h = h
  option_if Q false o h = tt

  between_within : (ts : List Tok) → Within ts → IfSome (between_parentheses ts) Within
  between_within [] h = tt
  between_within (t ∷ ts) h = option_if Within (is_char left_parenthesis t.kind) (before_closing ts) (closing_within ts h.1)

  cut_at : (c : ℕ) (ts : List Tok) → Within ts → IfSome (before_char c ts) CutWithin
  cut_at c ts h = before_char_keeps (λ (t : Tok). P t.at) c ts h

  -- ---- dashes

  record DashWithin (d : Dash) : Type 0 where
    on : Within d.on
    off : Within d.off
    rest : Within d.rest

  cut_or_all : (o : Option Cut) (ts : List Tok) → IfSome o CutWithin → Within ts → CutWithin (unwrap_or o (cut ts []))
  cut_or_all None ts h k = (k, tt)
  cut_or_all (Some c) ts h k = h

  word_within : (word : List ℕ) (ts : List Tok) → Within ts → IfSome (behind_word word ts) CutWithin
  word_within word ts h =
      let rest = drop (length word) ts in
      let inside = dropped (length word) ts h in
      some_if CutWithin (begins_text word ts) (up_to_word rest) (cut_or_all (first_outside begins_dash rest) rest
      (first_outside_keeps (λ (t : Tok). P t.at) begins_dash rest inside) inside)

  then_some : {A B : Type 0} (Q : A → Type 0) (R : B → Type 0) (o : Option A) (f : A → Option B) → IfSome o Q → ((x : A) → Q x → IfSome (f x) R)
      → IfSome (o and_then f) R
  then_some Q R None f h k = tt
  then_some Q R (Some x) f h k = k x h

  dash_within : (ts : List Tok) → Within ts → IfSome (dash_of ts) DashWithin
  unfolding dash_of
  dash_within ts h =
      then_some CutWithin DashWithin (behind_word (codes "on") ts) _ (word_within (codes "on") ts h) (λ on k.
      then_some CutWithin DashWithin (behind_word (codes "off") on.rest) _ (word_within (codes "off") on.rest k.1) (λ off m.
      record { on = k.0; off = m.0; rest = m.1 }))

  dashes_within : (n : ℕ) (ts : List Tok) → Within ts → IfSome (all_dashes n ts) (AllByRecursion DashWithin)
  unfolding all_dashes
  dashes_within zero ts h = tt
  dashes_within (suc n) ts h =
      then_some DashWithin (AllByRecursion DashWithin) (dash_of ts) _ (dash_within ts h) (λ d k. by d k (dashes_within n d.rest k.rest)
      (length d.rest == 0))
    where
      by : (d : Dash) → DashWithin d → IfSome (all_dashes n d.rest) (AllByRecursion DashWithin) → (b : Bool)
          → IfSome (if b then Some (d ∷ []) else (all_dashes n d.rest and_then λ ds. Some (d ∷ ds))) (AllByRecursion DashWithin)
      by d k more true = (k, tt)
      by d k more false = then_some (AllByRecursion DashWithin) (AllByRecursion DashWithin) (all_dashes n d.rest) _ more (λ ds m. (k, m))

  -- ---- by the place of a key

  module _ (at : ℕ) (here : P at) where
    or_then : {A B : Type 0} (Q : A → Type 0) (o : Option A) (code : Code) (f : A → Answer B) → IfSome o Q → ((x : A) → Q x → Fine (f x))
        → Fine (or_fault o code at >>= f)
    or_then Q None code f h k = here
    or_then Q (Some x) code f h k = k x h

    or_fine : {A : Type 0} (o : Option A) (code : Code) → Fine (or_fault o code at)
    or_fine None code = here
    or_fine (Some x) code = tt

    there : {B : Type 0} (value : Option (List Tok)) (f : List Tok → Answer B) → IfSome value Within
        → ((list : List Tok) → Within list → Fine (f list)) → Fine (value_there at value >>= f)
    there value f h k = or_then Within value codes_of.ValueRequired f h k

    word_fine : {A : Type 0} (table : List (List ℕ × A)) (value : Option (List Tok)) → IfSome value Within → Fine (word_value at table value)
    word_fine table value h = there value _ h (λ list k. or_fine (found_in table list) codes_of.UnknownChoice)

    colour_fine : (value : Option (List Tok)) → IfSome value Within → Fine (colour_value at value)
    colour_fine value h = there value _ h (λ list k. or_fine (colour_in list) codes_of.Colour)

    paint_by_fine : (key : PaintKey) (text : Option (List ℕ)) (look : Look) → Fine (paint_by at key text look)
    paint_by_fine key None look = here
    paint_by_fine key (Some text) look =
        fine_if (bytes_eq text (codes "none")) _ _ tt (fine_then (or_fault (colour_of text) codes_of.Colour at) _
        (or_fine (colour_of text) codes_of.Colour) (λ c. tt))

    paint_fine : (key : PaintKey) (value : Option (List Tok)) (look : Look) → Fine (paint at key value look)
    paint_fine key None look = tt
    paint_fine key (Some list) look = paint_by_fine key (text_in list) look

    name_fine : (value : Option (List Tok)) (look : Look) → IfSome value Within → Fine (with_name at value look)
    name_fine value look h = there value _ h (λ list k. fine_then (or_fault (text_in (trimmed list)) codes_of.Coordinate at) _
        (or_fine (text_in (trimmed list)) codes_of.Coordinate) (λ name. tt))

    shaped_fine : (o : Option NodeShape) (look : Look) → Fine (shaped_or_unknown at o look)
    shaped_fine None look = here
    shaped_fine (Some shape) look = tt

    coloured_fine : (o : Option Rgb) (name : List ℕ) (look : Look) → Fine (coloured_or_shaped at o name look)
    coloured_fine None name look = shaped_fine (word_meaning shapes name) look
    coloured_fine (Some c) name look = tt

    own_name_fine : (name : List ℕ) (value : Option (List Tok)) (look : Look) → Fine (by_own_name at name value look)
    own_name_fine name None look = coloured_fine (colour_of name) name look
    own_name_fine name (Some list) look = here

    matrix_fine : (r : Result Matrix AffFault) → Fine (answer_at at r)
    matrix_fine (Ok m) = tt
    matrix_fine (Err e) = here

    -- by an evaluation whose faults stand so
    module _ (ev : Evaluation) (font : FontUnits) (ev_fine : (ts : List Tok) → Within ts → Fine (ev font at ts)) where
      measure_fine : (value : Option (List Tok)) → IfSome value Within → Fine (measure_value at ev font value)
      measure_fine value h = there value _ h ev_fine

      number_fine : (value : Option (List Tok)) → IfSome value Within → Fine (number_value at ev font value)
      number_fine value h = fine_then (measure_value at ev font value) _ (measure_fine value h) (λ found. tt)

      least_fine : (least x : ℤ) → Fine (at_least at least x)
      least_fine least x = fine_if (int_le least x) _ _ tt here

      from_fine : (least : ℤ) (value : Option (List Tok)) → IfSome value Within → Fine (number_from at ev font least value)
      from_fine least value h = fine_then (number_value at ev font value) _ (number_fine value h) (λ x. least_fine least x)

      as_anchor_fine : (found : Answer Value) → Fine found → Fine (as_anchor at found)
      as_anchor_fine (Ok found) h = tt
      as_anchor_fine (Err f) h = fine_if (is_misfit f.code) _ _ here h

      anchor_by_fine : (o : Option NodeAnchor) (list : List Tok) → Within list → Fine (anchor_by at ev font o list)
      anchor_by_fine (Some a) list h = tt
      anchor_by_fine None list h = as_anchor_fine (ev font at list) (ev_fine list h)

      anchor_fine : (value : Option (List Tok)) → IfSome value Within → Fine (anchor_value at ev font value)
      anchor_fine value h = there value _ h (λ list k. anchor_by_fine (found_in anchors list) list k)

      vector_fine : (look : Look) (list : List Tok) → Within list → Fine (vector_value at ev font look list)
      unfolding vector_value
      vector_fine look list h =
          or_then Within (between_parentheses (trimmed list)) codes_of.Coordinate _ (between_within (trimmed list) (trimmed_within list h)) (λ text k.
          fine_then (paired ev font at text) _ (paired_by_at ev font at text P here ev_fine k) (λ found.
          or_then (λ _. Unit {0}) found codes_of.Coordinate _ (any found) (λ pair _. vector_at look.x look.y at pair P here)))
        where
          any : {A : Type 0} (o : Option A) → IfSome o (λ _. Unit {0})
          any None = tt
          any (Some x) = tt

      length_fine : (list : List Tok) → Within list → Fine (dash_length at ev font list)
      length_fine list h = fine_then (ev font at list) _ (ev_fine list h) (λ found. least_fine (pos 0) found.number)

      lengths_fine : (ds : List Dash) → AllByRecursion DashWithin ds → Fine (dash_lengths at ev font ds)
      unfolding dash_lengths
      lengths_fine [] h = tt
      lengths_fine (d ∷ ds) h =
          fine_then (dash_length at ev font d.on) _ (length_fine d.on h.0.on) (λ on.
          fine_then (dash_length at ev font d.off) _ (length_fine d.off h.0.off) (λ off.
          fine_then (dash_lengths at ev font ds) _ (lengths_fine ds h.1) (λ others. tt)))

      pattern_fine : (value : Option (List Tok)) → IfSome value Within → Fine (pattern_value at ev font value)
      pattern_fine value h = there value _ h (λ list k.
          or_then (AllByRecursion DashWithin) (all_dashes 8 (after_spaces list)) codes_of.Domain _ (dashes_within 8 (after_spaces list)
          (behind_spaces list k)) (λ ds m. lengths_fine ds m))

      position_fine : (value : Option (List Tok)) → IfSome value Within → Fine (position_value at ev font value)
      position_fine value h =
          fine_then (number_value at ev font value) _ (number_fine value h) (λ t. fine_if (nat_le (unsigned_abs t) 524288) _ _ tt here)

      side_fine : (value : Option (List Tok)) → IfSome value Within → Fine (side_length at ev font value)
      side_fine None h = tt
      side_fine (Some list) h = number_fine (Some list) h

      turn_fine : (list : List Tok) (look : Look) → Within list → Fine (turn_around at ev font list look)
      unfolding turn_around
      turn_fine list look h =
          or_then CutWithin (before_char colon list) codes_of.Domain _ (cut_at colon list h) (λ c k.
          fine_then (ev font at c.front) _ (ev_fine c.front k.0) (λ angle.
          fine_then (vector_value at ev font look c.rest) _ (vector_fine look c.rest k.1) (λ v. tt)))

      step_fine : (list : List Tok) (look : Look) → Within list → Fine (matrix_step at ev font list look)
      unfolding matrix_step
      step_fine list look h =
          or_then CutWithin (before_char comma list) codes_of.Domain _ (cut_at comma list h) (λ first k.
          or_then CutWithin (before_char comma first.rest) codes_of.Domain _ (cut_at comma first.rest k.1) (λ second l.
          or_then CutWithin (before_char comma second.rest) codes_of.Domain _ (cut_at comma second.rest l.1) (λ third m.
          or_then CutWithin (before_char comma third.rest) codes_of.Domain _ (cut_at comma third.rest m.1) (λ fourth n.
          fine_then (ev font at first.front) _ (ev_fine first.front k.0) (λ a.
          fine_then (ev font at second.front) _ (ev_fine second.front l.0) (λ b.
          fine_then (ev font at third.front) _ (ev_fine third.front m.0) (λ c.
          fine_then (ev font at fourth.front) _ (ev_fine fourth.front n.0) (λ d.
          fine_then (vector_value at ev font look fourth.rest) _ (vector_fine look fourth.rest n.1) (λ v. tt)))))))))

      set_fine : (key : LookKey) (name : List ℕ) (value : Option (List Tok)) (look : Look) → IfSome value Within
          → Fine (set_look at ev font key name value look)
      unfolding set_look
      set_fine (Colour key) name value look h = fine_then (colour_value at value) _ (colour_fine value h) (λ c. tt)
      set_fine (Paint key) name value look h = paint_fine key value look
      set_fine (Length key) name value look h = fine_then (number_value at ev font value) _ (number_fine value h) (λ l. tt)
      set_fine (Angle key) name value look h = fine_then (number_value at ev font value) _ (number_fine value h) (λ l. tt)
      set_fine (Measure key) name value look h = fine_then (measure_value at ev font value) _ (measure_fine value h) (λ l. tt)
      set_fine (Flag key) name value look h = tt
      set_fine LineWidth name value look h = fine_then (number_from at ev font (pos 0) value) _ (from_fine (pos 0) value h) (λ l. tt)
      set_fine LineCap name value look h = fine_then (word_value at caps value) _ (word_fine caps value h) (λ l. tt)
      set_fine LineJoin name value look h = fine_then (word_value at joins value) _ (word_fine joins value h) (λ l. tt)
      set_fine MiterLimit name value look h = fine_then (number_from at ev font (pos 65536) value) _ (from_fine (pos 65536) value h) (λ l. tt)
      set_fine DashPattern name value look h = fine_then (pattern_value at ev font value) _ (pattern_fine value h) (λ l. tt)
      set_fine Shape name value look h = fine_then (word_value at shapes value) _ (word_fine shapes value h) (λ l. tt)
      set_fine Anchor name value look h = fine_then (anchor_value at ev font value) _ (anchor_fine value h) (λ l. tt)
      set_fine Pos name value look h = fine_then (position_value at ev font value) _ (position_fine value h) (λ l. tt)
      set_fine Name name value look h = name_fine value look h
      set_fine Unknown name value look h = own_name_fine name value look

      transformed_fine : (key : TransformKey) (value : Option (List Tok)) (look : Look) → IfSome value Within
          → Fine (transformed at ev font key value look)
      unfolding transformed
      transformed_fine (Step key) value look h = fine_then (number_value at ev font value) _ (number_fine value h) (λ l. tt)
      transformed_fine (Beside side) value look h = fine_then (side_length at ev font value) _ (side_fine value h) (λ l. tt)
      transformed_fine Shift value look h =
          there value _ h (λ list k. fine_then (shift_by at ev font list look) _ (fine_then (vector_value at ev font look list) _
          (vector_fine look list k) (λ v. tt)) (λ step. tt))
      transformed_fine RotateAround value look h =
          there value _ h (λ list k. fine_then (turn_around at ev font list look) _ (turn_fine list look k) (λ turn. tt))
      transformed_fine Cm value look h =
          there value _ h (λ list k. fine_then (matrix_step at ev font list look) _ (step_fine list look k) (λ step. tt))

      applied_fine : (key : Native) (name : List ℕ) (value : Option (List Tok)) (look : Look) → IfSome value Within
          → Fine (native_applied at ev font key name value look)
      applied_fine (natives.Look key) name value look h =
          fine_then (set_look at ev font key name value look) _ (set_fine key name value look h) (λ new. tt)
      applied_fine (natives.Transform key) name value look h = transformed_fine key value look h

      pub graphics_fine : (key : Native) (name : List ℕ) (value : Option (List Tok)) (g : GraphicsState) → IfSome value Within
          → Fine (graphics_by at ev font key name value g)
      unfolding graphics_by
      graphics_fine key name value g h =
          fine_then (native_applied at ev font key name value g.look) _ (applied_fine key name value g.look h) (λ new.
          fine_then (answer_at at (with_steps g.matrix new.steps)) _ (matrix_fine (with_steps g.matrix new.steps)) (λ matrix. tt))
