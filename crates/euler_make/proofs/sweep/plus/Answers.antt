use Rattle.std.proofs.Common.{◌^◌, refl, lit<}
use Rattle.pk_plane.specs.Vectors.{vector}
use Rattle.pk_plane.proofs.Exact.{plus-is}
use Rattle.euler_make.proofs.sweep.plus.Goals as goal

pub returns : goal.returns
returns c =
    let x = plus-is (2 ^ 70) refl refl c.requires.first.x c.requires.second.x (lit< tt) in
    let y = plus-is (2 ^ 70) refl refl c.requires.first.y c.requires.second.y (lit< tt) in
    let z = plus-is (2 ^ 70) refl refl c.requires.first.z c.requires.second.z (lit< tt) in
    λ i. vector (x i) (y i) (z i)
