-- The frame is the least box round what it is made of, and stays within its range.
use Rattle.std.proofs.Common.{◌≡◌, refl, ap, List, [], ◌∷◌, ◌++◌, map, Option, Some, None, arith, ℕ, ◌≤◌, length, take, take_all, ℤ, pos, true}
use Rattle.std.specs.Prelude.{◌≤ℤ◌, IfSome, IsNone, is_some, ◌↔◌}
use Rattle.std.specs.Option.{option_to_list}
use Rattle.std.proofs.lemmas.Int.{ints, clamps}
use Rattle.std.proofs.lemmas.Option.{IfSome_then}
use Rattle.std.proofs.lemmas.List.Elements.{All-nil, All-cons, All-head, All-tail}
use Rattle.tk_num.specs.Number.{IsScaled}
use Rattle.tk_item.specs.declared.Frame.{Frame}
use Rattle.tk_item.specs.declared.Point.{Point}
use Rattle.tk_item.specs.declared.Seg.{Seg}
use Rattle.tk_item.specs.Frame.{points_of_path, box_round, joined, with_box, round_boxes, round_points, IsWithin, AreWithin}
use Rattle.tk_item.specs.Frame.{IsLeastRound, IsProperFrame}

-- ---- one box within another

frame_within_itself : (f : Frame) → IsWithin f f
frame_within_itself f = record { left = omega (arith, ints); bottom = omega (arith, ints); right = omega (arith, ints); top = omega (arith, ints) }

in_turn : (f g h : Frame) → IsWithin f g → IsWithin g h → IsWithin f h
in_turn f g h a b = record { left = omega (arith, ints); bottom = omega (arith, ints); right = omega (arith, ints); top = omega (arith, ints) }

first_within : (f g : Frame) → IsWithin f (joined f g)
first_within f g = record {
  left = omega (arith, ints, clamps);
  bottom = omega (arith, ints, clamps);
  right = omega (arith, ints, clamps);
  top = omega (arith, ints, clamps);
}

second_within : (f g : Frame) → IsWithin g (joined f g)
second_within f g = record {
  left = omega (arith, ints, clamps);
  bottom = omega (arith, ints, clamps);
  right = omega (arith, ints, clamps);
  top = omega (arith, ints, clamps);
}

both_within : (f g h : Frame) → IsWithin f h → IsWithin g h → IsWithin (joined f g) h
both_within f g h a b = record {
  left = omega (arith, ints, clamps);
  bottom = omega (arith, ints, clamps);
  right = omega (arith, ints, clamps);
  top = omega (arith, ints, clamps);
}

-- ---- the least box

abbrev inside : Frame → Frame → Type 0
inside frame box = IsWithin box frame

-- the least box round the join of two and others is the least round the two and the others
least_round_parted : (f g : Frame) (boxes : List Frame) (h : Frame) → IsLeastRound (joined f g ∷ boxes) h → IsLeastRound (f ∷ g ∷ boxes) h
least_round_parted f g boxes h is = record {
  round =
      let both : IsWithin (joined f g) h = All-head (inside h) (joined f g) boxes is.round in
      let rest : AreWithin boxes h = All-tail (inside h) (joined f g) boxes is.round in
      All-cons (inside h) f (g ∷ boxes) (in_turn f (joined f g) h (first_within f g) both)
      (All-cons (inside h) g boxes (in_turn g (joined f g) h (second_within f g) both) rest);
  least = λ other all.
      let rest : AreWithin (g ∷ boxes) other = All-tail (inside other) f (g ∷ boxes) all in
      let both : IsWithin (joined f g) other = both_within f g other (All-head (inside other) f (g ∷ boxes) all)
      (All-head (inside other) g boxes rest) in
      is.least other (All-cons (inside other) (joined f g) boxes both (All-tail (inside other) g boxes rest));
}

least_of_all : (boxes : List Frame) (f : Frame) → IfSome (round_boxes (Some f) boxes) (IsLeastRound (f ∷ boxes))
least_of_all [] f = record {
  round = All-cons (inside f) f [] (frame_within_itself f) (All-nil (inside f));
  least = λ other all.
      All-head (inside other) f [] all;
}
least_of_all (g ∷ boxes) f = IfSome_then (round_boxes (Some (joined f g)) boxes) (least_of_all boxes (joined f g)) (least_round_parted f g boxes)

-- what is folded from boxes is the least box round them
pub least_round : (frame : Option Frame) (boxes : List Frame) → IfSome (round_boxes frame boxes) (IsLeastRound (option_to_list frame ++ boxes))
least_round None [] = tt
least_round None (g ∷ boxes) = least_of_all boxes g
least_round (Some f) boxes = least_of_all boxes f

pub same_sides : (a b c d x y z w : ℤ) → a ≡ x → b ≡ y → c ≡ z → d ≡ w
    → ◌≡◌ {A = Frame} record { left = a; bottom = b; right = c; top = d } record { left = x; bottom = y; right = z; top = w }
same_sides a b c d x y z w p q r s = rw (p, q, r, s)

-- there is only one
pub one_least : (boxes : List Frame) (f g : Frame) → IsLeastRound boxes f → IsLeastRound boxes g → f ≡ g
one_least boxes f g a b =
    let there : IsWithin f g = a.least g b.round in
    let back : IsWithin g f = b.least f a.round in
    same_sides f.left f.bottom f.right f.top g.left g.bottom g.right g.top (omega (arith, ints)) (omega (arith, ints)) (omega (arith, ints))
    (omega (arith, ints))

-- ---- none

some_stays : (boxes : List Frame) (f : Frame) → is_some (round_boxes (Some f) boxes) ≡ true
some_stays [] f = refl
some_stays (g ∷ boxes) f = some_stays boxes (joined f g)

-- none exactly where there is nothing to go round
pub none_round : (frame : Option Frame) (boxes : List Frame) → IsNone (round_boxes frame boxes) ↔ ((frame ≡ None) × (boxes ≡ []))
none_round None [] = (λ none. (refl, refl), λ both. refl)
none_round None (g ∷ boxes) = let some = some_stays boxes g in (λ none. cc, λ both. cc)
none_round (Some f) boxes = let some = some_stays boxes f in (λ none. cc, λ both. cc)

no_points : (half : ℤ) (points : List Point) → map (box_round half) points ≡ [] → points ≡ []
no_points half [] e = refl
no_points half (p ∷ points) e = cc

pub none_round_points : (half : ℤ) (frame : Option Frame) (points : List Point)
    → IsNone (round_points half frame points) ↔ ((frame ≡ None) × (points ≡ []))
none_round_points half frame points =
    let (there, back) = none_round frame (map (box_round half) points) in
    (λ none. let (f, p) = there none in (f, no_points half points p), λ both. let (f, p) = both in back (f, ap (map (box_round half)) p))

-- ---- the code's steps

-- three points one by one
pub curve_widens : (half : ℤ) (frame : Option Frame) (p q r : Point) (f g h : Frame) → with_box frame (box_round half p) ≡ Some f
    → with_box (Some f) (box_round half q) ≡ Some g → with_box (Some g) (box_round half r) ≡ Some h
    → Some h ≡ round_points half frame (p ∷ q ∷ r ∷ [])
curve_widens half frame p q r f g h first second third = rw first cc

-- all pieces, once the loop has passed them
pub all_pieces : (half : ℤ) (frame r : Option Frame) (segs : List Seg) (i : ℕ) → length segs ≤ i
    → r ≡ round_points half frame (points_of_path (take i segs)) → r ≡ round_points half frame (points_of_path segs)
all_pieces half frame r segs i passed so_far = rw (take_all i segs passed) at so_far

-- ---- the range

pub joined_proper : (f g : Frame) → IsProperFrame f → IsProperFrame g → IsProperFrame (joined f g)
joined_proper f g a b = record {
  across = omega (arith, ints, clamps);
  upward = omega (arith, ints, clamps);
  left = omega (arith, ints, clamps);
  bottom = omega (arith, ints, clamps);
  right = omega (arith, ints, clamps);
  top = omega (arith, ints, clamps);
}

pub box_proper : (half : ℤ) (p : Point) → pos 0 ≤ℤ half → half ≤ℤ pos 536870912 → IsScaled p.x → IsScaled p.y → IsProperFrame (box_round half p)
box_proper half p low high x_in y_in = record {
  across = omega (arith, ints);
  upward = omega (arith, ints);
  left = omega (arith, ints);
  bottom = omega (arith, ints);
  right = omega (arith, ints);
  top = omega (arith, ints);
}
