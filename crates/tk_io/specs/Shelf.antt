-- What a shelf of files means, and what its calls do.
use Rattle.std.specs.Prelude.{◌≡◌, ◌≢◌, ℕ, ◌<◌, ◌≤◌, Bool, true, false, if◌then◌else◌, List, [], length, take, drop}
use Rattle.std.specs.Prelude.{codes, Option, Some, None, IfSome, Result, IfOk, OnOk, OnErr, IsOk, IsErr, unwrap_or}
use Rattle.std.specs.Str.{bytes_eq}
use Rattle.tk_io.specs.declared.Failed.{Failed}
use Rattle.tk_io.specs.Causes.{Rose, count_on}

-- all that a shelf means
pub record Shelved : Type 0 where
  -- the bytes that it has under each name, where it tells them
  pub holds : Option (List ℕ → Option (List ℕ))
  -- the bytes left of the open name, where it tells them
  pub left : Option (List ℕ)
  -- how many bytes it handed out since the last open
  pub taken : ℕ
  -- whether a name is open
  pub is_open : List ℕ → Bool
  -- a count for each name, which never falls
  pub faults : List ℕ → ℕ
  -- whether none of its calls fails
  pub sure : Bool

-- the name of standard input
abbrev pub standard_input : List ℕ
standard_input = codes "-"

-- what a shelf holds once this is left of standard input
abbrev pub with_input : Option (List ℕ) → (List ℕ → Option (List ℕ)) → List ℕ → Option (List ℕ)
with_input left holds name = if bytes_eq name standard_input then left else holds name

-- of standard input the shelf has what `rest` makes of its bytes, and all else as before
abbrev pub LeavesOfInput : (List ℕ → List ℕ) → Shelved → Shelved → Type 0
LeavesOfInput rest old new =
    IfSome old.holds (λ holds.
    new.holds ≡ Some (with_input (Some (rest (unwrap_or (holds standard_input) []))) holds))

-- reading a file leaves on the shelf what it held, and nothing was taken if it is standard input;
-- or of standard input exactly what is behind the bytes that were taken is left
pub data Leaves (name : List ℕ) (old new : Shelved) : Type 0 where
  all_kept :
      new.holds ≡ old.holds → (name ≡ standard_input → new.taken ≡ 0) → Leaves name old new
  input_read :
      name ≡ standard_input → LeavesOfInput (drop new.taken) old new → Leaves name old new

-- what a call on a name does to the counts
pub record Counts (name : List ℕ) (old new : Shelved) : Type 0 where
  pub no_fall : (n : List ℕ) → old.faults n ≤ new.faults n
  -- another name under which it has bytes, be they none, keeps its count
  pub others :
      IfSome old.holds (λ holds.
      (n : List ℕ) → holds n ≢ None → n ≢ name → new.faults n ≡ old.faults n)
  pub sure : new.sure ≡ old.sure

-- what opening a name does
pub record Opens
    (name : List ℕ) (old new : Shelved) (result : Result (Unit {0}) Failed) : Type 0 where
  pub counts : Counts name old new
  pub cause : OnErr result (Rose (old.faults name) (new.faults name))
  pub sure : old.sure ≡ true → IsOk result
  pub missing :
      IfSome old.holds (λ holds. holds name ≡ None → old.sure ≡ false → IsErr result)
  pub opened : OnOk result (new.is_open name ≡ true)
  -- no other name is open; only of the names that a sure shelf doesn't have it may say alike that
  -- they are
  pub only :
      OnOk result (IfSome old.holds (λ holds.
      (n : List ℕ)
      → new.is_open n ≡ true
      → (holds name ≡ None → holds n ≡ None → old.sure ≡ false)
      → n ≡ name))
  pub closed : OnErr result ((n : List ℕ) → new.is_open n ≡ false)
  pub left :
      OnOk result (IfSome old.holds (λ holds. new.left ≡ Some (unwrap_or (holds name) [])))
  pub taken : new.taken ≡ 0
  pub holds : new.holds ≡ old.holds

-- the first n bytes of what is left are in front in the buffer, and the rest is left
pub record HandsOut (n : ℕ) (buffer : List ℕ) (left : List ℕ) (new : Option (List ℕ)) : Type 0 where
  pub within : n ≤ length left
  pub front : take n buffer ≡ take n left
  pub rest : new ≡ Some (drop n left)

-- what reading the open name does
pub record Reads
    (name : List ℕ) (old new : Shelved) (result : Result ℕ Failed) (buffer : List ℕ)
    : Type 0 where
  pub counts : Counts name old new
  pub cause : OnErr result (Rose (old.faults name) (new.faults name))
  pub sure : old.sure ≡ true → IsOk result
  pub is_open : new.is_open ≡ old.is_open
  pub bound : IfOk result (λ n. n ≤ length buffer)
  pub bytes :
      IfOk result (λ n. IfSome old.left (λ left. HandsOut n buffer left new.left))
  -- none into a buffer that has room is the end
  pub ends :
      IfOk result (λ n. n ≡ 0 → 0 < length buffer → IfSome old.left (λ left. left ≡ []))
  pub taken : IfOk result (λ n. new.taken ≡ count_on old.taken n)
  -- a read that fails takes nothing
  pub none_taken : OnErr result (new.taken ≡ old.taken)
  pub all_left : OnErr result (new.left ≡ old.left)
  pub holds : name ≢ standard_input → new.holds ≡ old.holds
  -- under the name of standard input the shelf then has what is left
  pub input :
      name ≡ standard_input → IfSome old.holds (λ holds. new.holds ≡ Some (with_input new.left holds))
