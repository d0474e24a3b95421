-- Lines of grids, one after another.
use Rattle.std.proofs.Common.{◌≡◌, ℕ, suc, ◌+◌, ◌-◌, ◌<◌, ◌≤◌, List, [], ◌∷◌, ◌++◌, Ok, Err, ℤ, pos, ◌+ℤ◌, ◌*ℤ◌, refl, sym, ap, ◌∙◌, append_assoc}
use Rattle.std.proofs.Common.{arith}
use Rattle.std.proofs.lemmas.Int.{ints}
use Rattle.std.proofs.lemmas.List.{append-nil}
use Rattle.tk_token.specs.declared.Refusal.{Refusal}
use Rattle.tk_token.specs.declared.Refusal.TheVariants.{OutOfMemory, Fault as Refused}
use Rattle.tk_token.specs.Answers.{Answer, ◌>>=◌}
use Rattle.tk_token.specs.Refusals.{Fails}
use Rattle.tk_token.proofs.Answering.{fails_as}
use Rattle.tk_item.specs.declared.Seg.{Seg}
use Rattle.tk_affine.specs.declared.Matrix.{Matrix}
use Rattle.tk_geom.specs.GridLines.{GridLine, lines_at, rising}
use Rattle.tk_geom.specs.Grids.{Grid, grid_of, grid_behind, grid_appended, line_drawn, lines_drawn}

-- ---- two grids, one after the other

-- a grid whose pieces follow those of another, drawn with the units that the other left
abbrev pub then_grid : Answer Grid → (ℕ → Answer Grid) → Answer Grid
then_grid first rest = first >>= λ g. rest g.units >>= λ h. Ok (grid_behind g.pieces h)

grids_joined : (old pieces : List Seg) (answer : Answer Grid)
    → grid_appended old (answer >>= λ h. Ok (grid_behind pieces h)) ≡ grid_appended (old ++ pieces) answer
grids_joined old pieces (Ok h) = ap (λ (all : List Seg). let r : Answer Grid = Ok (grid_of all h.units) in r) (sym (append_assoc old pieces h.pieces))
grids_joined old pieces (Err fault) = refl

-- where the first was drawn, the second is left
pub then_known : (old new : List Seg) (used : ℕ) (first : Answer Grid) (rest : ℕ → Answer Grid) → grid_appended old first ≡ Ok (grid_of new used)
    → grid_appended old (then_grid first rest) ≡ grid_appended new (rest used)
then_known old new used (Ok g) rest e =
    let whole : grid_behind old g ≡ grid_of new used = cc e in
    let pieces : old ++ g.pieces ≡ new = ap (λ (grid : Grid). grid.pieces) whole in
    let units : g.units ≡ used = ap (λ (grid : Grid). grid.units) whole in
    ap (λ n. grid_appended old (rest n >>= λ h. Ok (grid_behind g.pieces h))) units
    ∙ grids_joined old g.pieces (rest used)
    ∙ ap (λ (all : List Seg). grid_appended all (rest used)) pieces
then_known old new used (Err fault) rest e = absurd (let bad : ⊥ = cc e in bad)

-- where the first is a fault, so are the two
pub then_fails : (e : Refusal) (old : List Seg) (first : Answer Grid) (rest : ℕ → Answer Grid) → Fails e (grid_appended old first)
    → Fails e (grid_appended old (then_grid first rest))
then_fails OutOfMemory old first rest h = tt
then_fails (Refused x) old (Ok g) rest h = absurd (let bad : ⊥ = cc h in bad)
then_fails (Refused x) old (Err fault) rest h = h

-- lines appended others
nothing_first : (answer : Answer Grid) → (answer >>= λ h. Ok (grid_behind [] h)) ≡ answer
nothing_first (Ok h) = refl
nothing_first (Err fault) = refl

then_then : (g : Grid) (first : Answer Grid) (rest : ℕ → Answer Grid)
    → (then_grid first rest >>= λ h. Ok (grid_behind g.pieces h)) ≡ then_grid (first >>= λ h. Ok (grid_behind g.pieces h)) rest
then_then g (Ok a) rest = deeper g a (rest a.units)
  where
    deeper : (g a : Grid) (answer : Answer Grid)
        → ((answer >>= λ h. Ok (grid_behind a.pieces h)) >>= λ h. Ok (grid_behind g.pieces h))
        ≡ (answer >>= λ h. Ok (grid_behind (g.pieces ++ a.pieces) h))
    deeper g a (Ok h) = ap (λ (all : List Seg). let r : Answer Grid = Ok (grid_of all h.units) in r) (sym (append_assoc g.pieces a.pieces h.pieces))
    deeper g a (Err fault) = refl
then_then g (Err fault) rest = refl

-- the number of a line that is left
pub index_within : (i n most : ℕ) → i < n → n ≤ most → i ≤ most
index_within i n most lt le = omega arith

module _ (m : Matrix) (budget at : ℕ) where
  one_then : (drawn : Answer Grid) (xs ys : List GridLine)
      → ((units : ℕ) → lines_drawn m budget at units (xs ++ ys) ≡ then_grid (lines_drawn m budget at units xs) (λ n. lines_drawn m budget at n ys))
      → then_grid drawn (λ n. lines_drawn m budget at n (xs ++ ys)) ≡ then_grid (then_grid drawn (λ n. lines_drawn m budget at n xs))
      (λ n. lines_drawn m budget at n ys)
  one_then (Ok g) xs ys h = ap (λ (answer : Answer Grid). answer >>= λ h. Ok (grid_behind g.pieces h)) (h g.units) ∙ then_then g
      (lines_drawn m budget at g.units xs) (λ n. lines_drawn m budget at n ys)
  one_then (Err fault) xs ys h = refl

  pub lines_drawn-append : (units : ℕ) (xs ys : List GridLine)
      → lines_drawn m budget at units (xs ++ ys) ≡ then_grid (lines_drawn m budget at units xs) (λ n. lines_drawn m budget at n ys)
  lines_drawn-append units [] ys = sym (nothing_first (lines_drawn m budget at units ys))
  lines_drawn-append units (x ∷ xs) ys = one_then (line_drawn m budget at units x) xs ys (λ n. lines_drawn-append n xs ys)

  -- ---- the lines of one way, one by one

  rising_next : (first : ℤ) (i n : ℕ) → i < n → rising (first +ℤ pos i) (n - i) ≡ (first +ℤ pos i) ∷ rising (first +ℤ pos (i + 1)) (n - (i + 1))
  rising_next first i n lt =
      let e : n - i ≡ suc (n - (i + 1)) = omega arith in
      let k : first +ℤ pos i +ℤ pos 1 ≡ first +ℤ pos (i + 1) = omega (arith, ints) in
      ap (rising (first +ℤ pos i)) e ∙ ap (λ z. (first +ℤ pos i) ∷ rising z (n - (i + 1))) k

  rising_end : (first : ℤ) (i n : ℕ) → n ≤ i → rising first (n - i) ≡ []
  rising_end first i n le = let e : n - i ≡ 0 = omega arith in rw e refl

  -- what is left from the i-th line on
  abbrev pub left_of : (ℤ → GridLine) → ℤ → ℤ → ℕ → ℕ → ℕ → Answer Grid
  left_of f s first n i units = lines_drawn m budget at units (lines_at f s (rising (first +ℤ pos i) (n - i)))

  left_next : (f : ℤ → GridLine) (s first : ℤ) (n i units : ℕ) (line : GridLine) → i < n → line ≡ f ((first +ℤ pos i) *ℤ s)
      → left_of f s first n i units ≡ then_grid (line_drawn m budget at units line) (left_of f s first n (i + 1))
  left_next f s first n i units line lt is =
      ap (λ ks. lines_drawn m budget at units (lines_at f s ks)) (rising_next first i n lt)
      ∙ ap (λ l. then_grid (line_drawn m budget at units l) (left_of f s first n (i + 1))) (sym is)

  -- before the first line all are left
  pub all_left : (f : ℤ → GridLine) (s first : ℤ) (n units : ℕ) → lines_drawn m budget at units (lines_at f s (rising first n)) ≡ left_of f s first n 0 units
  all_left f s first n units =
      let start : first ≡ first +ℤ pos 0 = omega (arith, ints) in
      let count : n ≡ n - 0 = omega arith in
      ap (λ k. lines_drawn m budget at units (lines_at f s (rising k n))) start
      ∙ ap (λ k. lines_drawn m budget at units (lines_at f s (rising (first +ℤ pos 0) k))) count

  -- the i-th line was drawn: those from the next on are left
  pub line_more : (f : ℤ → GridLine) (s first : ℤ) (n i units used : ℕ) (line : GridLine) (old new : List Seg) → i < n
      → line ≡ f ((first +ℤ pos i) *ℤ s)
      → grid_appended old (line_drawn m budget at units line) ≡ Ok (grid_of new used)
      → grid_appended old (left_of f s first n i units) ≡ grid_appended new (left_of f s first n (i + 1) used)
  line_more f s first n i units used line old new lt is drawn =
      ap (grid_appended old) (left_next f s first n i units line lt is)
      ∙ then_known old new used (line_drawn m budget at units line) (left_of f s first n (i + 1)) drawn

  -- the i-th line is a fault: so is all
  pub line_fails : (e : Refusal) (f : ℤ → GridLine) (s first : ℤ) (n i units : ℕ) (line : GridLine) (old : List Seg) (whole : Answer Grid) → i < n
      → line ≡ f ((first +ℤ pos i) *ℤ s) → whole ≡ grid_appended old (left_of f s first n i units)
      → Fails e (grid_appended old (line_drawn m budget at units line)) → Fails e whole
  line_fails e f s first n i units line old whole lt is told h =
      fails_as e whole _ (told ∙ ap (grid_appended old) (left_next f s first n i units line lt is))
      (then_fails e old (line_drawn m budget at units line) (left_of f s first n (i + 1)) h)

  -- no line is left
  pub lines_end : (f : ℤ → GridLine) (s first : ℤ) (n i units : ℕ) (old : List Seg) → n ≤ i
      → grid_appended old (left_of f s first n i units) ≡ Ok (grid_of old units)
  lines_end f s first n i units old le =
      ap (λ ks. grid_appended old (lines_drawn m budget at units (lines_at f s ks))) (rising_end (first +ℤ pos i) i n le)
      ∙ ap (λ (all : List Seg). let r : Answer Grid = Ok (grid_of all units) in r) (append-nil old)

  -- ---- both ways

  joined_known : (units used : ℕ) (xs ys : List GridLine) (old mid : List Seg)
      → grid_appended old (lines_drawn m budget at units xs) ≡ Ok (grid_of mid used)
      → grid_appended old (lines_drawn m budget at units (xs ++ ys)) ≡ grid_appended mid (lines_drawn m budget at used ys)
  joined_known units used xs ys old mid drawn =
      ap (grid_appended old) (lines_drawn-append units xs ys)
      ∙ then_known old mid used (lines_drawn m budget at units xs) (λ n. lines_drawn m budget at n ys) drawn

  -- the lines xs, which are also us, fail
  pub first_fails : (e : Refusal) (units : ℕ) (us xs ys : List GridLine) (old : List Seg) → us ≡ xs
      → Fails e (grid_appended old (lines_drawn m budget at units us)) → Fails e (grid_appended old (lines_drawn m budget at units (xs ++ ys)))
  first_fails e units us xs ys old is h =
      fails_as e _ _ (ap (grid_appended old) (lines_drawn-append units xs ys))
      (then_fails e old (lines_drawn m budget at units xs) (λ n. lines_drawn m budget at n ys) (rw is at h))

  -- the lines xs were drawn, and what the lines ys come to, which are also vs, is what both come to
  pub both_drawn : (units used : ℕ) (us xs vs ys : List GridLine) (old mid : List Seg) → us ≡ xs → vs ≡ ys
      → grid_appended old (lines_drawn m budget at units us) ≡ Ok (grid_of mid used)
      → grid_appended old (lines_drawn m budget at units (xs ++ ys)) ≡ grid_appended mid (lines_drawn m budget at used vs)
  both_drawn units used us xs vs ys old mid is these drawn =
      joined_known units used xs ys old mid (rw is at drawn) ∙ ap (λ ls. grid_appended mid (lines_drawn m budget at used ls)) (sym these)
