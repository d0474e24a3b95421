-- Files in memory, of which one is read at a time.
use Rattle.std.proofs.Common.{◌≡◌, ℕ, ◌+◌, ◌-◌, ◌<◌, ◌≤◌, Bool, true, false, cond, List, [], length, Some, None, refl, sym, ap, subst, ◌∙◌, arith}
use Rattle.std.specs.Prelude.{map, nat_lt, position, if◌then◌else◌}
use Rattle.std.specs.Bool.{Decides}
use Rattle.std.specs.Str.{bytes_eq}
use Rattle.std.specs.List.{position_or_len}
use Rattle.std.proofs.lemmas.List.{length-map}
use Rattle.std.proofs.lemmas.List.Quantifiers.{position-Some}
use Rattle.std.proofs.lemmas.List.Recursion.{is_position_or_len}
use Rattle.std.proofs.lemmas.Slice.Eq.{bytes_eq-Decides}
use Rattle.std.proofs.lemmas.Bool.{false≢true}
use Rattle.tk_io.specs.Shelf.{standard_input}
use Rattle.tk_io.specs.Desk.{OnDesk, IsDesk, file_at, find_file}

-- the first place that passes, in a list and in what is shown of it
pub position-map : {X Y : Type 0} (p : Y → Bool) (f : X → Y) (xs : List X) → position p (map f xs) ≡ position (λ x. p (f x)) xs
position-map {X} {Y} p f xs =
    ap (λ (n : ℕ). cond (nat_lt n (length (map f xs))) (Some n) None) (is_position_or_len (λ (xs : List X). position_or_len p (map f xs))
    (λ x. p (f x)) refl (λ x xs. by_test (p (f x)) (position_or_len p (map f xs))) xs)
    ∙ ap (λ (n : ℕ). cond (nat_lt (position_or_len (λ x. p (f x)) xs) n) (Some (position_or_len (λ x. p (f x)) xs)) None) (length-map xs f)
  where
    by_test : (b : Bool) (n : ℕ) → cond (mathlib.Core.Bool.not b) (1 + n) 0 ≡ cond b 0 (1 + n)
    by_test true n = refl
    by_test false n = refl

-- the first file of its name is there
pub in_place : (desk : OnDesk) (place : ℕ) (name : List ℕ) → find_file desk name ≡ Some place → place < length desk.files
in_place desk place name h = (position-Some (λ file. bytes_eq file.0 name) desk.files place ([], []) h).0

-- and it has that name
pub found_file_has_its_name : (desk : OnDesk) (place : ℕ) (name : List ℕ) → find_file desk name ≡ Some place → (file_at desk place).0 ≡ name
found_file_has_its_name desk place name h =
    (bytes_eq-Decides (file_at desk place).0 name).0 (position-Some (λ file. bytes_eq file.0 name) desk.files place ([], []) h).1

-- a test of a name that came out
is_standard_input_decides : (name : List ℕ) (b : Bool) → bytes_eq name standard_input ≡ b → Decides b (name ≡ standard_input)
is_standard_input_decides name b e = subst (λ (b : Bool). Decides b (name ≡ standard_input)) e (bytes_eq-Decides name standard_input)

-- a desk keeps its rule where a file is opened
pub IsDesk-opened : (desk : OnDesk) (place taken : ℕ) (b : Bool) → IsDesk desk → find_file desk (file_at desk place).0 ≡ Some place
    → bytes_eq (file_at desk place).0 standard_input ≡ b
    → IsDesk (record desk { current = Some place; at = if b then desk.input else 0; taken = taken })
IsDesk-opened desk place taken b is here e = record {
  first = λ p same. let at_p : place ≡ p = cc in subst (λ (p : ℕ). find_file desk (file_at desk p).0 ≡ Some p) at_p here;
  within = λ p same. let at_p : place ≡ p = cc in subst (λ (p : ℕ). (if b then desk.input else 0) ≤ length (file_at desk p).1) at_p
      (within b (is_standard_input_decides (file_at desk place).0 b e));
  input = λ p same name. let at_p : place ≡ p = cc in input b (is_standard_input_decides (file_at desk place).0 b e)
      (ap (λ (p : ℕ). (file_at desk p).0) at_p ∙ name);
  input_within = is.input_within;
}
  where
    within : (b : Bool) → Decides b ((file_at desk place).0 ≡ standard_input) → (if b then desk.input else 0) ≤ length (file_at desk place).1
    within true d = is.input_within place (ap (find_file desk) (sym (d.0 refl)) ∙ here)
    within false d = omega arith

    input : (b : Bool) → Decides b ((file_at desk place).0 ≡ standard_input) → (file_at desk place).0 ≡ standard_input
        → (if b then desk.input else 0) ≡ desk.input
    input true d name = refl
    input false d name = absurd (false≢true (d.1 name))

-- a desk keeps its rule where bytes are handed out
pub IsDesk-moved : (desk : OnDesk) (place n taken : ℕ) (b : Bool) → IsDesk desk → desk.current ≡ Some place
    → bytes_eq (file_at desk place).0 standard_input ≡ b → n ≤ length (file_at desk place).1 - desk.at
    → IsDesk (record desk { at = desk.at + n; input = if b then desk.at + n else desk.input; taken = taken })
IsDesk-moved desk place n taken b is here e fits = record {
  first = is.first;
  within = λ p same. let at_p : place ≡ p = cc in subst (λ (p : ℕ). desk.at + n ≤ length (file_at desk p).1) at_p
      (omega (arith, fits, is.within place here));
  input = λ p same name. let at_p : place ≡ p = cc in input b (is_standard_input_decides (file_at desk place).0 b e)
      (ap (λ (p : ℕ). (file_at desk p).0) at_p ∙ name);
  input_within = input_within b (is_standard_input_decides (file_at desk place).0 b e);
}
  where
    input : (b : Bool) → Decides b ((file_at desk place).0 ≡ standard_input) → (file_at desk place).0 ≡ standard_input
        → desk.at + n ≡ (if b then desk.at + n else desk.input)
    input true d name = refl
    input false d name = absurd (false≢true (d.1 name))

    input_within : (b : Bool) → Decides b ((file_at desk place).0 ≡ standard_input) → (p : ℕ) → find_file desk standard_input ≡ Some p
        → (if b then desk.at + n else desk.input) ≤ length (file_at desk p).1
    input_within true d p first =
        let both : Some place ≡ Some p = sym (is.first place here) ∙ ap (find_file desk) (d.0 refl) ∙ first in
        let at_p : place ≡ p = cc in
        subst (λ (p : ℕ). desk.at + n ≤ length (file_at desk p).1) at_p (omega (arith, fits, is.within place here))
    input_within false d p first = is.input_within p first
