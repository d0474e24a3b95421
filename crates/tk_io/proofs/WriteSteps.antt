-- One write after another.
use Rattle.std.proofs.Common.{◌≡◌, ℕ, ◌+◌, List, ◌++◌, take, drop, Some, ap, ◌∙◌, sym, append_assoc}
use Rattle.std.proofs.Math.Seq.{take-add}
use Rattle.tk_io.specs.Sink.{Sunk, Takes}
use Rattle.tk_io.proofs.Told.{told_by, told_at}

-- a sink that took the front of a piece and then the next bytes of it took a longer front
pub Takes-more : (old mid new : Sunk) (piece : List ℕ) (k n : ℕ) → Takes old mid (take k piece) → Takes mid new (take n (drop k piece))
    → Takes old new (take (k + n) piece)
Takes-more old mid new piece k n before then =
    told_by old.bytes (λ bytes. new.bytes ≡ Some (bytes ++ take (k + n) piece)) (λ bytes e.
    let here : mid.bytes ≡ Some (bytes ++ take k piece) = told_at old.bytes (λ b. mid.bytes ≡ Some (b ++ take k piece)) bytes e before in
    told_at mid.bytes (λ b. new.bytes ≡ Some (b ++ take n (drop k piece))) (bytes ++ take k piece) here then
    ∙ ap (λ (w : List ℕ). Some w) (append_assoc bytes (take k piece) (take n (drop k piece))
    ∙ ap (λ (w : List ℕ). bytes ++ w) (sym (take-add k n piece))))
