-- Sums and products of whole numbers, and of vectors.
use Rattle.std.proofs.Common.{◌≡◌, zero, suc, sym, ap, ◌∙◌, arith}
use Rattle.std.specs.Prelude.{ℤ, pos, negsuc, ◌+ℤ◌, ◌-ℤ◌, ◌*ℤ◌, neg_ℤ}
use Rattle.std.proofs.Math.IntN.{suc_ℤ, pred_ℤ, *ℤ_comm, zero-*ℤ, suc_ℤ-*ℤ, pred_ℤ-*ℤ, +ℤ_assoc, +ℤ_idr, +ℤ-suc_ℤ, +ℤ-pred_ℤ, -ℤ-+ℤ_cancel, +ℤ-neg_ℤ_cancel}
use Rattle.std.proofs.lemmas.Int.{ints}
use Rattle.pk_base.specs.declared.entity.Triple.{Triple}
use Rattle.pk_plane.specs.Vectors.{plus, dot}

-- ---- a product with a sum

sum_up : (a b k : ℤ) → (a +ℤ b) *ℤ k ≡ (a *ℤ k) +ℤ (b *ℤ k) → (a +ℤ suc_ℤ b) *ℤ k ≡ (a *ℤ k) +ℤ (suc_ℤ b *ℤ k)
sum_up a b k h =
    ap (λ x. x *ℤ k) (+ℤ-suc_ℤ a b) ∙ suc_ℤ-*ℤ (a +ℤ b) k ∙ ap (λ x. x +ℤ k) h ∙ +ℤ_assoc (a *ℤ k) (b *ℤ k) k
    ∙ ap (λ x. (a *ℤ k) +ℤ x) (sym (suc_ℤ-*ℤ b k))

sum_down : (a b k : ℤ) → (a +ℤ b) *ℤ k ≡ (a *ℤ k) +ℤ (b *ℤ k) → (a +ℤ pred_ℤ b) *ℤ k ≡ (a *ℤ k) +ℤ (pred_ℤ b *ℤ k)
sum_down a b k h =
    ap (λ x. x *ℤ k) (+ℤ-pred_ℤ a b) ∙ pred_ℤ-*ℤ (a +ℤ b) k ∙ ap (λ x. x -ℤ k) h ∙ +ℤ_assoc (a *ℤ k) (b *ℤ k) (neg_ℤ k)
    ∙ ap (λ x. (a *ℤ k) +ℤ x) (sym (pred_ℤ-*ℤ b k))

sum_none : (a k : ℤ) → (a +ℤ pos zero) *ℤ k ≡ (a *ℤ k) +ℤ (pos zero *ℤ k)
sum_none a k = ap (λ x. x *ℤ k) (+ℤ_idr a) ∙ sym (+ℤ_idr (a *ℤ k)) ∙ ap (λ x. (a *ℤ k) +ℤ x) (sym (zero-*ℤ k))

pub sum-times : (a b k : ℤ) → (a +ℤ b) *ℤ k ≡ (a *ℤ k) +ℤ (b *ℤ k)
sum-times a (pos zero) k = sum_none a k
sum-times a (pos (suc n)) k = sum_up a (pos n) k (sum-times a (pos n) k)
sum-times a (negsuc zero) k = sum_down a (pos zero) k (sum_none a k)
sum-times a (negsuc (suc n)) k = sum_down a (negsuc n) k (sum-times a (negsuc n) k)

pub gap-times : (a b k : ℤ) → (a -ℤ b) *ℤ k ≡ (a *ℤ k) -ℤ (b *ℤ k)
gap-times a b k =
    sym (+ℤ-neg_ℤ_cancel ((a -ℤ b) *ℤ k) (b *ℤ k))
    ∙ ap (λ x. x -ℤ (b *ℤ k)) (sym (sum-times (a -ℤ b) b k) ∙ ap (λ x. x *ℤ k) (-ℤ-+ℤ_cancel a b))

pub times-sum : (k a b : ℤ) → k *ℤ (a +ℤ b) ≡ (k *ℤ a) +ℤ (k *ℤ b)
times-sum k a b = *ℤ_comm k (a +ℤ b) ∙ sum-times a b k ∙ (λ i. *ℤ_comm a k i +ℤ *ℤ_comm b k i)

pub times-gap : (k a b : ℤ) → k *ℤ (a -ℤ b) ≡ (k *ℤ a) -ℤ (k *ℤ b)
times-gap k a b = *ℤ_comm k (a -ℤ b) ∙ gap-times a b k ∙ (λ i. *ℤ_comm a k i -ℤ *ℤ_comm b k i)

-- ---- a product of three

product_up : (a b c : ℤ) → (a *ℤ b) *ℤ c ≡ a *ℤ (b *ℤ c) → (suc_ℤ a *ℤ b) *ℤ c ≡ suc_ℤ a *ℤ (b *ℤ c)
product_up a b c h = ap (λ x. x *ℤ c) (suc_ℤ-*ℤ a b) ∙ sum-times (a *ℤ b) b c ∙ ap (λ x. x +ℤ (b *ℤ c)) h ∙ sym (suc_ℤ-*ℤ a (b *ℤ c))

product_down : (a b c : ℤ) → (a *ℤ b) *ℤ c ≡ a *ℤ (b *ℤ c) → (pred_ℤ a *ℤ b) *ℤ c ≡ pred_ℤ a *ℤ (b *ℤ c)
product_down a b c h = ap (λ x. x *ℤ c) (pred_ℤ-*ℤ a b) ∙ gap-times (a *ℤ b) b c ∙ ap (λ x. x -ℤ (b *ℤ c)) h ∙ sym (pred_ℤ-*ℤ a (b *ℤ c))

product_none : (b c : ℤ) → (pos zero *ℤ b) *ℤ c ≡ pos zero *ℤ (b *ℤ c)
product_none b c = ap (λ x. x *ℤ c) (zero-*ℤ b) ∙ zero-*ℤ c ∙ sym (zero-*ℤ (b *ℤ c))

pub times-times : (a b c : ℤ) → (a *ℤ b) *ℤ c ≡ a *ℤ (b *ℤ c)
times-times (pos zero) b c = product_none b c
times-times (pos (suc n)) b c = product_up (pos n) b c (times-times (pos n) b c)
times-times (negsuc zero) b c = product_down (pos zero) b c (product_none b c)
times-times (negsuc (suc n)) b c = product_down (negsuc n) b c (times-times (negsuc n) b c)

-- the first and the last change places, or the first two
pub ends-change : (a b c : ℤ) → a *ℤ (b *ℤ c) ≡ c *ℤ (b *ℤ a)
ends-change a b c = sym (times-times a b c) ∙ *ℤ_comm (a *ℤ b) c ∙ ap (λ x. c *ℤ x) (*ℤ_comm a b)

pub firsts-change : (a b c : ℤ) → a *ℤ (b *ℤ c) ≡ b *ℤ (a *ℤ c)
firsts-change a b c = sym (times-times a b c) ∙ ap (λ x. x *ℤ c) (*ℤ_comm a b) ∙ times-times b a c

-- ---- a vector stands on its product with another one

in_pairs : (a b c d e f : ℤ) → a ≡ f → b ≡ c → d ≡ e → ((a -ℤ b) +ℤ (c -ℤ d)) +ℤ (e -ℤ f) ≡ pos 0
in_pairs a b c d e f p q r = omega (arith, ints)

in_other_pairs : (a b c d e f : ℤ) → a ≡ d → b ≡ e → c ≡ f → ((a -ℤ b) +ℤ (c -ℤ d)) +ℤ (e -ℤ f) ≡ pos 0
in_other_pairs a b c d e f p q r = omega (arith, ints)

-- the product d x v
abbrev pub across : Triple → Triple → Triple
across d v = record {
  x = (d.y *ℤ v.z) -ℤ (d.z *ℤ v.y);
  y = (d.z *ℤ v.x) -ℤ (d.x *ℤ v.z);
  z = (d.x *ℤ v.y) -ℤ (d.y *ℤ v.x);
}

pub on-second : (d v : Triple) → dot v (across d v) ≡ pos 0
on-second d v =
    (λ i. (times-gap v.x (d.y *ℤ v.z) (d.z *ℤ v.y) i +ℤ times-gap v.y (d.z *ℤ v.x) (d.x *ℤ v.z) i) +ℤ times-gap v.z (d.x *ℤ v.y) (d.y *ℤ v.x) i)
    ∙ in_pairs (v.x *ℤ (d.y *ℤ v.z)) (v.x *ℤ (d.z *ℤ v.y)) (v.y *ℤ (d.z *ℤ v.x)) (v.y *ℤ (d.x *ℤ v.z)) (v.z *ℤ (d.x *ℤ v.y)) (v.z *ℤ (d.y *ℤ v.x))
    (ends-change v.x d.y v.z) (ends-change v.x d.z v.y) (ends-change v.y d.x v.z)

pub on-first : (d v : Triple) → dot d (across d v) ≡ pos 0
on-first d v =
    (λ i. (times-gap d.x (d.y *ℤ v.z) (d.z *ℤ v.y) i +ℤ times-gap d.y (d.z *ℤ v.x) (d.x *ℤ v.z) i) +ℤ times-gap d.z (d.x *ℤ v.y) (d.y *ℤ v.x) i)
    ∙ in_other_pairs (d.x *ℤ (d.y *ℤ v.z)) (d.x *ℤ (d.z *ℤ v.y)) (d.y *ℤ (d.z *ℤ v.x)) (d.y *ℤ (d.x *ℤ v.z)) (d.z *ℤ (d.x *ℤ v.y)) (d.z *ℤ (d.y *ℤ v.x))
    (firsts-change d.x d.y v.z) (firsts-change d.x d.z v.y) (firsts-change d.y d.z v.x)

-- ---- a product of vectors with a sum

three_pairs : (a b c d e f : ℤ) → ((a +ℤ b) +ℤ (c +ℤ d)) +ℤ (e +ℤ f) ≡ ((a +ℤ c) +ℤ e) +ℤ ((b +ℤ d) +ℤ f)
three_pairs a b c d e f = omega (arith, ints)

pub dot-sum : (a b n : Triple) → dot (plus a b) n ≡ dot a n +ℤ dot b n
dot-sum a b n =
    (λ i. (sum-times a.x b.x n.x i +ℤ sum-times a.y b.y n.y i) +ℤ sum-times a.z b.z n.z i)
    ∙ three_pairs (a.x *ℤ n.x) (b.x *ℤ n.x) (a.y *ℤ n.y) (b.y *ℤ n.y) (a.z *ℤ n.z) (b.z *ℤ n.z)

pub sum-dot : (n a b : Triple) → dot n (plus a b) ≡ dot n a +ℤ dot n b
sum-dot n a b =
    (λ i. (times-sum n.x a.x b.x i +ℤ times-sum n.y a.y b.y i) +ℤ times-sum n.z a.z b.z i)
    ∙ three_pairs (n.x *ℤ a.x) (n.x *ℤ b.x) (n.y *ℤ a.y) (n.y *ℤ b.y) (n.z *ℤ a.z) (n.z *ℤ b.z)
