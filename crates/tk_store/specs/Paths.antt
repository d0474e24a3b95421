-- Private: only private contracts use this. Paths of keys by their bytes.
use Rattle.std.specs.Prelude.{ℕ, List, String, map}
use Rattle.std.specs.String.{string_bytes}
use Rattle.tk_store.specs.declared.Entry.{Entry}

-- the same entries, where each text is told by its bytes
abbrev pub by_bytes : {A : Type 0} → List (String A × Entry) → List (List ℕ × Entry)
by_bytes entries = map (λ e. (string_bytes e.0, e.1)) entries
