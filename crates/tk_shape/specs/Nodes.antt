-- Nodes by their names.
use Rattle.std.specs.Prelude.{ℕ, List, [], ◌∷◌, String, map}
use Rattle.std.specs.Ordering.{nat_cmp}
use Rattle.std.specs.Cmp.Lexicographic.{slice_cmp}
use Rattle.std.specs.String.{string_bytes}
use Rattle.std.specs.FinMap.{FinMap, insert}
use Rattle.tk_shape.specs.declared.NodeRecord.{NodeRecord}

-- nodes by the bytes of their names
abbrev pub NamedNodes : Type 0
NamedNodes = FinMap (slice_cmp nat_cmp) NodeRecord

-- the same entries, where each text is told by its bytes
abbrev pub by_bytes : {A : Type 0} → List (String A × NodeRecord) → List (List ℕ × NodeRecord)
by_bytes entries = map (λ e. (string_bytes e.0, e.1)) entries

-- names that are given one after another, the first of the list first
abbrev pub names_given : NamedNodes → List (List ℕ × NodeRecord) → NamedNodes
names_given nodes [] = nodes
names_given nodes (e ∷ given) = names_given (insert nodes e.0 e.1) given
