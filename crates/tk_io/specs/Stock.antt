-- The shelf in memory that fails where it is asked to.
use Rattle.std.specs.Prelude.{◌≡◌, ◌↔◌, ◌⊎◌, ℕ, ◌-◌, min, false, IsTrue, List, length, take, drop, slice_index}
use Rattle.std.specs.Prelude.{slice_set, Option, Some, None, IfSome, Result, IfOk, OnOk, OnErr, IsErr}
use Rattle.std.specs.Option.{option_map_or}
use Rattle.tk_io.specs.declared.Failed.{Failed}
use Rattle.tk_io.specs.Causes.{count_on, is_listed}
use Rattle.tk_io.specs.Shelf.{Shelved}
use Rattle.tk_io.specs.Desk.{OnDesk, file_at, find_file, bytes_under, open_rest, is_current, opened_at, moved_on}

-- a shelf in memory as its callers see it
pub record Stock : Type 0 where
  -- its files, and how far they are read
  pub desk : OnDesk
  -- the most bytes that a read hands out
  pub most : ℕ
  -- the numbers of the calls that are to fail
  pub failing : List ℕ
  -- how many calls were made
  pub calls : ℕ
  -- the count of each file
  pub faults : List ℕ
  -- the count of all other names
  pub other_faults : ℕ

-- the count of the file at a place, or where there is none that of all other names
abbrev pub count_at : Stock → Option ℕ → ℕ
count_at stock place =
    option_map_or (λ place. slice_index stock.faults place) place stock.other_faults

-- the count of a name
abbrev pub faults_of : Stock → List ℕ → ℕ
faults_of stock name = count_at stock (find_file stock.desk name)

-- what a shelf in memory means as a shelf
abbrev pub stock_means : Stock → Shelved
stock_means stock = record {
  holds = Some (bytes_under stock.desk);
  left = open_rest stock.desk;
  taken = stock.desk.taken;
  is_open = is_current stock.desk;
  faults = faults_of stock;
  sure = false;
}

-- a shelf on which this is the next call, with its files as they then are
abbrev pub called : Stock → OnDesk → Stock
called stock desk = record stock { desk = desk; calls = count_on stock.calls 1 }

-- the count of the file at a place goes up, or where there is none that of all other names
abbrev pub blamed : Option ℕ → Stock → Stock
blamed None stock = record stock { other_faults = count_on stock.other_faults 1 }
blamed (Some place) stock = record stock {
  faults = slice_set stock.faults place (count_on (slice_index stock.faults place) 1);
}

-- what opening a name does
pub record OpensStock
    (name : List ℕ) (old new : Stock) (result : Result (Unit {0}) Failed) : Type 0 where
  -- it fails exactly on the listed calls and on a missing name
  pub fails :
      IsErr result
      ↔ (IsTrue (is_listed old.failing (count_on old.calls 1)) ⊎ (find_file old.desk name ≡ None))
  pub opened :
      OnOk result
      (IfSome (find_file old.desk name) (λ place. new ≡ called old (opened_at old.desk place)))
  pub failed :
      OnErr result
      (let closed = called old (record old.desk { current = None; taken = 0 }) in
      new ≡ blamed (find_file old.desk name) closed)

-- what reading the open file, the one at a place, does
pub record ReadsStock
    (place : ℕ) (old new : Stock) (result : Result ℕ Failed) (before after : List ℕ)
    : Type 0 where
  -- it fails exactly on the listed calls
  pub fails : IsErr result ↔ IsTrue (is_listed old.failing (count_on old.calls 1))
  -- it hands out as much as it may
  pub count :
      IfOk result (λ n.
      n ≡ min (min (length before) old.most) (length (file_at old.desk place).1 - old.desk.at))
  pub front :
      IfOk result (λ n. take n after ≡ take n (drop old.desk.at (file_at old.desk place).1))
  pub rest : IfOk result (λ n. drop n after ≡ drop n before)
  pub moved : IfOk result (λ n. new ≡ called old (moved_on old.desk place n))
  pub kept : OnErr result (after ≡ before)
  pub failed : OnErr result (new ≡ blamed (Some place) (called old old.desk))
