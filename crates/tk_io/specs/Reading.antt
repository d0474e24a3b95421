-- What reading all of a file does.
use Rattle.std.specs.Prelude.{◌≡◌, ◌≢◌, ℕ, ◌<◌, ◌≤◌, true, false, List, [], length, drop, Some, None, IfSome, Result}
use Rattle.std.specs.Prelude.{IfOk, OnOk, IsErr, IsErrOf, unwrap_or}
use Rattle.tk_io.specs.declared.reading.ReadRefusal.{ReadRefusal}
use Rattle.tk_io.specs.declared.reading.ReadRefusal.TheVariants.{Failed, TooLong}
use Rattle.tk_io.specs.Causes.{Rose}
use Rattle.tk_io.specs.Shelf.{Shelved, Counts, Leaves, LeavesOfInput, standard_input}

-- what reading all of a file does, whose bytes are the value of the result
pub record ReadsAll
    (name : List ℕ) (old new : Shelved) (result : Result (List ℕ) ReadRefusal) : Type 0 where
  pub counts : Counts name old new
  -- all the bytes that the shelf has under the name
  pub bytes :
      IfOk result (λ bytes. IfSome old.holds (λ holds. bytes ≡ unwrap_or (holds name) []))
  pub short : IfOk result (λ bytes. length bytes ≤ 16777216)
  pub taken : IfOk result (λ bytes. new.taken ≡ length bytes)
  pub end : OnOk result (IfSome old.holds (λ _. new.left ≡ Some []))
  pub is_open : OnOk result (new.is_open name ≡ true)
  -- the fault of a shelf
  pub failed : IsErrOf result Failed → Rose (old.faults name) (new.faults name)
  pub sure : old.sure ≡ true → result ≢ Result.Err Failed
  pub missing :
      IfSome old.holds (λ holds. holds name ≡ None → old.sure ≡ false → IsErrOf result Failed)
  -- a file is too long exactly where it has more than 16,777,216 bytes
  pub too_many : IsErrOf result TooLong → new.taken ≡ 16777217
  pub too_long :
      IsErrOf result TooLong
      → IfSome old.holds (λ holds. 16777216 < length (unwrap_or (holds name) []))
  pub long :
      IfSome old.holds (λ holds. 16777216 < length (unwrap_or (holds name) []) → IsErr result)
  -- what the shelf holds afterwards: of standard input nothing once it was read whole
  pub leaves : Leaves name old new
  pub emptied : name ≡ standard_input → OnOk result (LeavesOfInput (λ _. []) old new)
  pub long_input :
      name ≡ standard_input → IsErrOf result TooLong → LeavesOfInput (drop 16777217) old new
