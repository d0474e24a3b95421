-- Words by tables.
use Rattle.std.specs.Prelude.{ℕ, List, Option}
use Rattle.std.specs.Map.{lookup}
use Rattle.std.specs.Str.{bytes_eq}

-- what a word stands for by a table
abbrev pub word_meaning : {A : Type 0} → List (List ℕ × A) → List ℕ → Option A
word_meaning table word = lookup (bytes_eq word) table
