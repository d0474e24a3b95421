-- The shelf in memory of which no call fails.
use Rattle.std.specs.Prelude.{◌≡◌, ◌≢◌, ℕ, ◌-◌, min, Bool, true, ◌&&◌, not, if◌then◌else◌, List, [], length, take, drop}
use Rattle.std.specs.Prelude.{Option, Some, None, IfSome, is_none}
use Rattle.std.specs.Option.{option_or}
use Rattle.std.specs.Str.{bytes_eq}
use Rattle.tk_io.specs.declared.sure.Absent.{Absent}
use Rattle.tk_io.specs.declared.sure.Absent.TheVariants.{Nothing, Input, Other}
use Rattle.tk_io.specs.Shelf.{Shelved, standard_input}
use Rattle.tk_io.specs.Desk.{OnDesk, file_at, find_file, bytes_under, open_rest, is_current, opened_at, moved_on}

-- a sure shelf as its callers see it
pub record Sure : Type 0 where
  -- its files, and how far they are read
  pub desk : OnDesk
  -- which of the names that it doesn't have is open
  pub absent : Absent

-- the bytes that a sure shelf has under a name; standard input is there, be it empty
abbrev pub sure_holds : OnDesk → List ℕ → Option (List ℕ)
sure_holds desk name =
    option_or (bytes_under desk name) (if bytes_eq name standard_input then Some [] else None)

-- the bytes left of the open name: none of one that it doesn't have
abbrev pub sure_left : OnDesk → Absent → Option (List ℕ)
sure_left desk Nothing = open_rest desk
sure_left desk Input = Some []
sure_left desk Other = Some []

-- whether a name is open; of the names that aren't there but standard input all are alike
abbrev pub sure_open : OnDesk → Absent → List ℕ → Bool
sure_open desk Nothing name = is_current desk name
sure_open desk Input name = bytes_eq name standard_input
sure_open desk Other name = is_none (find_file desk name) && not (bytes_eq name standard_input)

-- what a sure shelf means as a shelf
abbrev pub sure_means : Sure → Shelved
sure_means shelf = record {
  holds = Some (sure_holds shelf.desk);
  left = sure_left shelf.desk shelf.absent;
  taken = shelf.desk.taken;
  is_open = sure_open shelf.desk shelf.absent;
  faults = λ _. 0;
  sure = true;
}

-- what is known of every sure shelf: where a name that it doesn't have is open, no file is, and
-- nothing was read of it
pub record IsSure (shelf : Sure) : Type 0 where
  pub shut : shelf.absent ≢ Nothing → shelf.desk.current ≡ None
  pub unread : shelf.absent ≢ Nothing → shelf.desk.taken ≡ 0
  pub input : shelf.absent ≡ Input → find_file shelf.desk standard_input ≡ None

-- what opening a name does: it opens its file, or nothing but the name
pub record OpensSure (name : List ℕ) (old new : Sure) : Type 0 where
  pub there :
      IfSome (find_file old.desk name) (λ place.
      new ≡ record { desk = opened_at old.desk place; absent = Nothing })
  pub missing :
      find_file old.desk name ≡ None
      → new ≡ record {
        desk = record old.desk { current = None; taken = 0 };
        absent = if bytes_eq name standard_input then Input else Other;
      }

-- what reading n bytes of the open file, the one at a place, does
pub record ReadsSure (place n : ℕ) (old new : Sure) (before after : List ℕ) : Type 0 where
  -- it hands out as much as there is and fits
  pub count : n ≡ min (length before) (length (file_at old.desk place).1 - old.desk.at)
  pub front : take n after ≡ take n (drop old.desk.at (file_at old.desk place).1)
  pub rest : drop n after ≡ drop n before
  pub moved : new ≡ record old { desk = moved_on old.desk place n }
