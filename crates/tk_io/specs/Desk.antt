-- Files in memory, of which one is read at a time.
use Rattle.std.specs.Prelude.{◌≡◌, ◌≢◌, ℕ, ◌+◌, ◌<◌, ◌≤◌, Bool, false, if◌then◌else◌, List, [], map, length, drop}
use Rattle.std.specs.Prelude.{position, slice_index_or, string_bytes, AllPairs, Option, Some, None}
use Rattle.std.specs.Option.{option_map, option_map_or}
use Rattle.std.specs.Str.{bytes_eq}
use Rattle.tk_io.specs.declared.desk.MemFile.{MemFile}
use Rattle.tk_io.specs.Causes.{count_on}
use Rattle.tk_io.specs.Shelf.{standard_input}

-- files in memory as a caller sees them
pub record OnDesk : Type 0 where
  -- each file's name and bytes
  pub files : List (List ℕ × List ℕ)
  -- the place of the open one
  pub current : Option ℕ
  -- how many of its bytes were handed out
  pub at : ℕ
  -- how many bytes of standard input were handed out
  pub input : ℕ
  -- how many bytes were handed out since the last open
  pub taken : ℕ

-- no two files have one name
abbrev pub NamesDiffer : List MemFile → Type 0
NamesDiffer files = AllPairs (λ file later. string_bytes file.name ≢ string_bytes later.name) files

-- a file's name and bytes
abbrev pub shown : MemFile → List ℕ × List ℕ
shown file = (string_bytes file.name, file.bytes.items)

-- files of which none is open and none was read
abbrev pub new_desk : List MemFile → OnDesk
new_desk files = record { files = map shown files; current = None; at = 0; input = 0; taken = 0 }

-- the file at a place
abbrev pub file_at : OnDesk → ℕ → List ℕ × List ℕ
file_at desk place = slice_index_or desk.files place ([], [])

-- the place of the file of that name
abbrev pub find_file : OnDesk → List ℕ → Option ℕ
find_file desk name = position (λ file. bytes_eq file.0 name) desk.files

-- how many bytes of the file at a place are behind where it is opened now
abbrev pub start_at : OnDesk → ℕ → ℕ
start_at desk place = if bytes_eq (file_at desk place).0 standard_input then desk.input else 0

-- the bytes that are there under a name: of standard input those that are left
abbrev pub bytes_under : OnDesk → List ℕ → Option (List ℕ)
bytes_under desk name =
    option_map (λ place. drop (start_at desk place) (file_at desk place).1) (find_file desk name)

-- each file's bytes are there under its name
abbrev pub HoldsEach : OnDesk → List MemFile → Type 0
HoldsEach desk files =
    (place : ℕ) (d : MemFile)
    → place < length files
    → let file = slice_index_or files place d in
    bytes_under desk (string_bytes file.name) ≡ Some file.bytes.items

-- the bytes left of the open file
abbrev pub open_rest : OnDesk → Option (List ℕ)
open_rest desk = option_map (λ place. drop desk.at (file_at desk place).1) desk.current

-- whether the file of that name is open
abbrev pub is_current : OnDesk → List ℕ → Bool
is_current desk name =
    option_map_or (λ place. bytes_eq (file_at desk place).0 name) desk.current false

-- the file at a place is opened
abbrev pub opened_at : OnDesk → ℕ → OnDesk
opened_at desk place = record desk { current = Some place; at = start_at desk place; taken = 0 }

-- n bytes of the file at a place, the open one, are handed out
abbrev pub moved_on : OnDesk → ℕ → ℕ → OnDesk
moved_on desk place n = record desk {
  at = desk.at + n;
  input = if bytes_eq (file_at desk place).0 standard_input then desk.at + n else desk.input;
  taken = count_on desk.taken n;
}

-- what is known of every desk: the open file is the first of its name, what was handed out of it
-- was there, and so was what was handed out of standard input
pub record IsDesk (desk : OnDesk) : Type 0 where
  pub first :
      (place : ℕ)
      → desk.current ≡ Some place
      → find_file desk (file_at desk place).0 ≡ Some place
  pub within : (place : ℕ) → desk.current ≡ Some place → desk.at ≤ length (file_at desk place).1
  pub input :
      (place : ℕ)
      → desk.current ≡ Some place
      → (file_at desk place).0 ≡ standard_input
      → desk.at ≡ desk.input
  pub input_within :
      (place : ℕ)
      → find_file desk standard_input ≡ Some place
      → desk.input ≤ length (file_at desk place).1
