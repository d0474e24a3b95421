-- The pieces of an arc, by how many there are and where its centre is.
use Rattle.std.proofs.Common.{◌≡◌, ◌≢◌, ℕ, false, eqb, [], Ok, Err, ℤ, refl, arith}
use Rattle.std.proofs.lemmas.Bool.Decides.{nat_tests}
use Rattle.tk_item.specs.declared.Point.{Point}
use Rattle.tk_affine.specs.declared.AffFault.{AffFault}
use Rattle.tk_affine.specs.declared.Matrix.{Matrix}
use Rattle.tk_geom.specs.Arcs.{piece_count, spoke, arc_piece, arc_round, arc_pieces}
use Rattle.tk_geom.specs.Pieces.{difference_of}

not_zero : (n : ℕ) → n ≢ 0 → eqb n 0 ≡ false
not_zero n ne = grind (arith, nat_tests)

pub no_pieces_no_arc : (m : Matrix) (c : Point) (a b rx ry : ℤ) → piece_count a b ≡ 0 → arc_pieces m c a b rx ry ≡ Ok []
unfolding arc_pieces
no_pieces_no_arc m c a b rx ry e = rw e refl

pub pieces_of_an_arc : (m : Matrix) (c centre first : Point) (a b rx ry : ℤ) (n : ℕ) → n ≡ piece_count a b → n ≢ 0 → spoke m rx ry a ≡ Ok first
    → centre ≡ difference_of c first → arc_pieces m c a b rx ry ≡ arc_round m centre a b rx ry n
unfolding arc_pieces
pieces_of_an_arc m c centre first a b rx ry n count ne found at = rw (← count, not_zero n ne, found, at) refl

pub faulty_spoke : (m : Matrix) (c : Point) (a b rx ry : ℤ) (n : ℕ) (fault : AffFault) → n ≡ piece_count a b → n ≢ 0 → spoke m rx ry a ≡ Err fault
    → arc_pieces m c a b rx ry ≡ Err fault
unfolding arc_pieces
faulty_spoke m c a b rx ry n fault count ne found = rw (← count, not_zero n ne, found) refl

-- a piece by its control ratio k and its angles a and b, which are known by others
pub same_piece : (m : Matrix) (centre : Point) (rx ry k a b k' a' b' : ℤ) → k ≡ k' → a ≡ a' → b ≡ b'
    → arc_piece m centre rx ry k a b ≡ arc_piece m centre rx ry k' a' b'
same_piece m centre rx ry k a b k' a' b' ek ea eb = rw (ek, ea, eb) refl
