-- What the words of the command line ask for.
use Rattle.std.specs.Prelude.{ℕ, Bool, true, false, ◌&&◌, not, ◌==◌, if◌then◌else◌, List, [], ◌∷◌, Option, Some, None}
use Rattle.std.specs.Prelude.{codes}
use Rattle.std.specs.Str.{bytes_eq}
use Rattle.tk_characters.specs.Characters.{dash}
use Rattle.tk_picture.specs.declared.Asked.{Asked}

-- a file by its name, and what is asked of the source in it
pub record Order : Type 0 where
  pub file : List ℕ
  pub asked : Asked

-- what the words ask for
pub data Command : Type 0 where
  -- the SVG document of a file
  Render : (order : Order) → Command

-- a name of a file: not empty, and with a `-` in front only where it is `-` alone, which is
-- standard input
abbrev pub is_file_name : List ℕ → Bool
is_file_name [] = false
is_file_name (c ∷ []) = true
is_file_name (c ∷ d ∷ cs) = not (c == dash)

-- `render FILE` asks for a document, with a budget of 10,000,000 units; all other words are faulty
unfoldable pub command_of : List (List ℕ) → Option Command
command_of (word ∷ file ∷ []) =
    if bytes_eq word (codes "render") && is_file_name file
    then Some (Render (record { file = file; asked = record { budget = 10000000 } }))
    else None
command_of _ = None
