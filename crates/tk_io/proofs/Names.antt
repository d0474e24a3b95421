-- Files of which no two have one name.
use Rattle.std.proofs.Common.{◌≡◌, ℕ, ◌<◌, Bool, true, false, cond, List, [], length, drop, get_or, Option, Some, None, refl, sym, ap, ◌∙◌, arith}
use Rattle.std.specs.Prelude.{position, string_bytes, nat_lt, if◌then◌else◌}
use Rattle.std.specs.Option.{option_map}
use Rattle.std.specs.Str.{bytes_eq}
use Rattle.std.specs.Bool.{Decides}
use Rattle.std.proofs.lemmas.Bool.{false≢true}
use Rattle.std.proofs.lemmas.Bool.Decides.{Decides-ltb}
use Rattle.std.proofs.lemmas.List.{get_or-map}
use Rattle.std.proofs.lemmas.List.Sums.{position_or_len_is}
use Rattle.std.proofs.lemmas.List.Quantifiers.{position-Some}
use Rattle.std.proofs.lemmas.Slice.Eq.{bytes_eq-Decides}
use Rattle.tk_io.specs.declared.desk.MemFile.{MemFile}
use Rattle.tk_io.specs.Shelf.{standard_input}
use Rattle.tk_io.specs.Desk.{NamesDiffer, HoldsEach, shown, new_desk, find_file, file_at, start_at}
use Rattle.tk_io.proofs.DeskFiles.{position-map}

-- the file at a place is the first of its name
abbrev pub IsFirst : List MemFile → ℕ → Type 0
IsFirst files place =
    (d : MemFile) → position (λ file. bytes_eq (string_bytes file.name) (string_bytes (get_or files place d).name)) files ≡ Some place

-- where each is the first of its name, the names differ
pub NamesDiffer-from_first : (files : List MemFile) → ((k : ℕ) → k < length files → IsFirst files k) → NamesDiffer files
NamesDiffer-from_first files first i j d before within same =
    let at_i : bytes_eq (string_bytes (get_or files i d).name) (string_bytes (get_or files j d).name)
    ≡ false = (position-Some (λ file. bytes_eq (string_bytes file.name) (string_bytes (get_or files j d).name)) files j d
    (first j within d)).2 i before in
    false≢true (sym at_i ∙ (bytes_eq-Decides (string_bytes (get_or files i d).name) (string_bytes (get_or files j d).name)).1 same)

-- where the names differ, each is the first of its name
pub NamesDiffer-first : (files : List MemFile) (place : ℕ) (d : MemFile) → place < length files → NamesDiffer files
    → position (λ file. bytes_eq (string_bytes file.name) (string_bytes (get_or files place d).name)) files ≡ Some place
NamesDiffer-first files place d within differ =
    ap (λ (n : ℕ). cond (nat_lt n (length files)) (Some n) None) (position_or_len_is passes files place d (omega arith)
    (λ k before. not_true (passes (get_or files k d)) (λ e. differ k place d before within ((decides k).0 e))) (λ _. (decides place).1 refl))
    ∙ ap (λ (b : Bool). cond b (Some place) None) ((Decides-ltb place (length files)).1 within)
  where
    passes : MemFile → Bool
    passes file = bytes_eq (string_bytes file.name) (string_bytes (get_or files place d).name)

    decides : (k : ℕ) → Decides (passes (get_or files k d)) (string_bytes (get_or files k d).name ≡ string_bytes (get_or files place d).name)
    decides k = bytes_eq-Decides (string_bytes (get_or files k d).name) (string_bytes (get_or files place d).name)

    not_true : (b : Bool) → (b ≡ true → ⊥) → b ≡ false
    not_true true h = absurd (h refl)
    not_true false h = refl

-- a new desk has the bytes of each file under its name
pub HoldsEach-new : (files : List MemFile) → NamesDiffer files → HoldsEach (new_desk files) files
HoldsEach-new files differ place d within =
    let file = get_or files place d in
    let there : find_file (new_desk files) (string_bytes file.name)
    ≡ Some place = position-map (λ (f : List ℕ × List ℕ). bytes_eq f.0 (string_bytes file.name)) shown files
    ∙ NamesDiffer-first files place d within differ in
    ap (λ (o : Option ℕ). option_map (λ p. drop (start_at (new_desk files) p) (file_at (new_desk files) p).1) o) there
    ∙ ap (λ (k : ℕ). Some (drop k (file_at (new_desk files) place).1)) (same (bytes_eq (file_at (new_desk files) place).0 standard_input))
    ∙ ap (λ (f : List ℕ × List ℕ). Some f.1) (get_or-map shown files place d ([], []) within)
  where
    same : (b : Bool) → ◌≡◌ {A = ℕ} (if b then 0 else 0) 0
    same true = refl
    same false = refl
