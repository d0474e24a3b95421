use Rattle.std.proofs.Common.{◌≡◌, ◌∙◌, ap, Ok, Result, ℤ, ◌-ℤ◌, to_z, of_z, SFits}
use Rattle.std.specs.Int.{w64}
use Rattle.std.proofs.lemmas.Int.{to_z-of_z}
use Rattle.tk_affine.specs.declared.AffFault.{AffFault}
use Rattle.tk_affine.specs.Inverses.{determinant, along_first, along_second, signed_by, ray_of, ray_to}
use Rattle.tk_affine.proofs.Regular.{found_by_inverse}
use Rattle.tk_affine.proofs.inverses.ray.Goals as goal

-- a number that is passed on is what it was
passed_on : (n z : ℤ) → SFits w64 n → n ≡ z → to_z w64 (of_z w64 n) ≡ z
passed_on n z fits e = to_z-of_z w64 n fits ∙ e

same_vector : (f : ℤ → ℤ → ℤ) (x y a b : ℤ) → x ≡ a → y ≡ b → f x y ≡ f a b
same_vector f x y a b e h = ap (λ z. f z y) e ∙ ap (λ z. f a z) h

ray_at : ℤ → ℤ → Result (ℤ × ℤ) AffFault
ray_at u v = Ok (u, v)

same_ray : (x y a b : ℤ) → x ≡ a → y ≡ b → ray_at x y ≡ ray_at a b
same_ray x y a b e h = ap (λ z. ray_at z y) e ∙ ap (λ z. ray_at a z) h

pub returns-clause-gives : goal.returns-clause-gives
unfolding ray_to ray_at
returns-clause-gives c =
    let m = c.args.m in
    let x : ℤ = c.args.p.x -ℤ m.tx in
    let y : ℤ = c.args.p.y -ℤ m.ty in
    let dx : to_z w64 (of_z w64 c.difference-dx.result) ≡ x = passed_on c.difference-dx.result x (record { sfits = c.difference-dx.type_inv })
    c.difference-dx.ensures.value in
    let dy : to_z w64 (of_z w64 c.difference-dy.result) ≡ y = passed_on c.difference-dy.result y (record { sfits = c.difference-dy.type_inv })
    c.difference-dy.ensures.value in
    let whole : to_z w64 (of_z w64 c.determinant-whole.result) ≡ determinant m = passed_on c.determinant-whole.result (determinant m)
    (record { sfits = c.determinant-whole.type_inv }) c.determinant-whole.ensures.value in
    let first : to_z w64 (of_z w64 c.along_first.result) ≡ along_first m x y = passed_on c.along_first.result (along_first m x y)
    (record { sfits = c.along_first.type_inv }) (c.along_first.ensures.value ∙ same_vector (along_first m) _ _ x y dx dy) in
    let second : to_z w64 (of_z w64 c.along_second.result) ≡ along_second m x y = passed_on c.along_second.result (along_second m x y)
    (record { sfits = c.along_second.type_inv }) (c.along_second.ensures.value ∙ same_vector (along_second m) _ _ x y dx dy) in
    let u : to_z w64 (of_z w64 c.signed_by-u.result) ≡ signed_by (determinant m) (along_first m x y) = passed_on c.signed_by-u.result _
    (record { sfits = c.signed_by-u.type_inv }) (c.signed_by-u.ensures.value ∙ same_vector signed_by _ _ (determinant m) (along_first m x y) whole first) in
    let v : to_z w64 (of_z w64 c.signed_by-v.result) ≡ signed_by (determinant m) (along_second m x y) = passed_on c.signed_by-v.result _
    (record { sfits = c.signed_by-v.type_inv }) (c.signed_by-v.ensures.value ∙ same_vector signed_by _ _ (determinant m) (along_second m x y) whole second) in
    same_ray _ _ _ _ u v ∙ found_by_inverse m (ray_at (ray_of m x y).0 (ray_of m x y).1) c.determinant-whole.result c.determinant-whole.ensures.value
    c.if-whole-eq0.false
