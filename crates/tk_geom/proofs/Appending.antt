-- Pieces that follow others, one by one.
use Rattle.std.proofs.Common.{◌≡◌, ℕ, suc, ◌+◌, ◌-◌, ◌<◌, ◌≤◌, List, [], ◌∷◌, ◌++◌, Result, Ok, Err, refl, sym, ap, ◌∙◌, append_assoc, arith}
use Rattle.std.specs.List.{range_with_len}
use Rattle.std.proofs.lemmas.List.{append-nil}
use Rattle.tk_token.specs.Answers.{◌>>=◌}
use Rattle.tk_item.specs.declared.Seg.{Seg}
use Rattle.tk_affine.specs.declared.AffFault.{AffFault}
use Rattle.tk_geom.specs.Pieces.{try_map, appended, Continues}

-- ---- what is left of a range

range_next : (i n : ℕ) → i < n → range_with_len i (n - i) ≡ i ∷ range_with_len (i + 1) (n - (i + 1))
range_next i n lt = let e : n - i ≡ suc (n - (i + 1)) = omega arith in rw e refl

range_end : (i n : ℕ) → n ≤ i → range_with_len i (n - i) ≡ []
range_end i n le = let e : n - i ≡ 0 = omega arith in rw e refl

-- ---- pieces that are made one by one

one_more : (old : List Seg) (piece : Seg) (rest : Result (List Seg) AffFault)
    → appended old (rest >>= λ pieces. Ok (piece ∷ pieces)) ≡ appended (old ++ piece ∷ []) rest
one_more old piece (Ok pieces) =
    ap (λ (all : List Seg). let r : Result (List Seg) AffFault = Ok all in r) (sym (append_assoc old (piece ∷ []) pieces))
one_more old piece (Err fault) = refl

more_of : (f : ℕ → Result Seg AffFault) (i : ℕ) (is : List ℕ) (old new : List Seg) (piece : Seg) → f i ≡ Ok piece → new ≡ old ++ piece ∷ []
    → appended old (try_map f (i ∷ is)) ≡ appended new (try_map f is)
more_of f i is old new piece found pushed = rw (found, pushed) (one_more old piece (try_map f is))

-- the piece at i was found and put appended the others: what is left begins one further
pub goes_on : (f : ℕ → Result Seg AffFault) (i n : ℕ) (old new : List Seg) (piece : Seg) → i < n → f i ≡ Ok piece → new ≡ old ++ piece ∷ []
    → appended old (try_map f (range_with_len i (n - i))) ≡ appended new (try_map f (range_with_len (i + 1) (n - (i + 1))))
goes_on f i n old new piece lt found pushed = ap (λ is. appended old (try_map f is)) (range_next i n lt) ∙ more_of f i
    (range_with_len (i + 1) (n - (i + 1))) old new piece found pushed

fails_of : (f : ℕ → Result Seg AffFault) (i : ℕ) (is : List ℕ) (fault : AffFault) → f i ≡ Err fault → try_map f (i ∷ is) ≡ Err fault
fails_of f i is fault e = rw e refl

-- the piece at i is a fault: so is what is left
pub faulty_piece_ends_all : (f : ℕ → Result Seg AffFault) (i n : ℕ) (fault : AffFault) → i < n → f i ≡ Err fault
    → try_map f (range_with_len i (n - i)) ≡ Err fault
faulty_piece_ends_all f i n fault lt e = ap (try_map f) (range_next i n lt) ∙ fails_of f i (range_with_len (i + 1) (n - (i + 1))) fault e

-- nothing is left
pub no_more_pieces : (f : ℕ → Result Seg AffFault) (i n : ℕ) (old : List Seg) → n ≤ i → appended old (try_map f (range_with_len i (n - i))) ≡ Ok old
no_more_pieces f i n old le =
    ap (λ is. appended old (try_map f is)) (range_end i n le) ∙ ap (λ (all : List Seg). let r : Result (List Seg) AffFault = Ok all in r)
    (append-nil old)

-- a fault of pieces that were to follow others is their own
pub fault_of : (old : List Seg) (pieces : Result (List Seg) AffFault) (fault : AffFault) → appended old pieces ≡ Err fault → pieces ≡ Err fault
fault_of old (Ok pieces) fault e = cc
fault_of old (Err other) fault e = cc

-- the same, told of what was left
pub fault_told : (first now : List Seg) (whole rest : Result (List Seg) AffFault) (fault : AffFault) → appended first whole ≡ appended now rest
    → rest ≡ Err fault → whole ≡ Err fault
fault_told first now whole rest fault told e = fault_of first whole fault (told ∙ ap (appended now) e)

-- ---- what stays in front

pub nothing_more : (old : List Seg) → Continues old old
nothing_more old = ([], sym (append-nil old))

pub and_more : (old now new : List Seg) (piece : Seg) → Continues old now → new ≡ now ++ piece ∷ [] → Continues old new
and_more old now new piece before pushed = (
  before.0 ++ piece ∷ [],
  pushed ∙ ap (λ (all : List Seg). all ++ piece ∷ []) before.1 ∙ append_assoc old
      before.0 (piece ∷ []),
)

-- two lists further on
pub goes_further : (old now new : List Seg) → Continues old now → Continues now new → Continues old new
goes_further old now new before after =
    (before.0 ++ after.0, after.1 ∙ ap (λ (all : List Seg). all ++ after.0) before.1 ∙ append_assoc old before.0 after.0)
