-- Full paths of keys, as their bytes (the PGF manual, section "Key Management", "The Key Tree").
use Rattle.std.specs.Prelude.{ℕ, ◌-◌, ◌==◌, Bool, false, not, if◌then◌else◌, List, [], ◌∷◌, ◌++◌, length, take, drop}
use Rattle.std.specs.List.{suffix_len}
use Rattle.tk_characters.specs.Characters.{slash}

-- whether a name is a full path: it begins with a `/`
abbrev pub is_full : List ℕ → Bool
is_full [] = false
is_full (c ∷ cs) = c == slash

-- the full path of a name where that path is the default: `b` is `/a/b` where it is `/a`, and `/b` stays
abbrev pub full_path : List ℕ → List ℕ → List ℕ
full_path dir name = if is_full name then name else dir ++ slash ∷ name

-- the place behind the last `/` of a path, which is its beginning where there is none
unfoldable pub last_part : List ℕ → ℕ
last_part path = length path - suffix_len (λ c. not (c == slash)) path

-- the last part of a path: `c` of `/a/b/c`
abbrev pub name_in : List ℕ → List ℕ
name_in path = drop (last_part path) path

-- the path without its last part and the `/` before it: `/a/b` of `/a/b/c`
abbrev pub parent_of : List ℕ → List ℕ
parent_of path = take (last_part path - 1) path
