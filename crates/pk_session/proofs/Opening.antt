-- The partitions with which a session begins.
use Rattle.std.proofs.Common.{◌≡◌, ℕ, zero, suc, ◌+◌, ◌-◌, ◌≤◌, List, [], ◌∷◌, ◌++◌, map, ap, ap₂, sym, ◌∙◌, arith}
use Rattle.std.proofs.lemmas.List.{map-append}
use Rattle.partition.specs.Partition.{PartitionView, Begins}
use Rattle.session_table.specs.Named.{Named, opening, openings}
use Rattle.pk_session.specs.Inside.{named_of}

openings-snoc : (k n : ℕ) → openings k (suc n) ≡ openings k n ++ opening (k + n) ∷ []
openings-snoc k zero = ap (λ (z : ℕ). opening z ∷ []) (omega arith)
openings-snoc k (suc n) = ap (λ (l : List Named). opening k ∷ l) (openings-snoc (k + 1) n ∙ ap (λ (z : ℕ). openings (k + 1) n ++ opening z ∷ []) (let e : k + 1 + n ≡ k + suc n = omega arith in e))

begins_named : (p : ℕ) (v : PartitionView) → Begins p v → named_of v ≡ opening p
begins_named p v b = λ i. record { number = b.number i; holder = (b.state i).holder; blocks = (b.state i).blocks; journal = b.journal i }

-- one more partition at its beginning
pub one_more : (p : ℕ) (xs : List PartitionView) (v : PartitionView) → 1 ≤ p → Begins p v → map named_of xs ≡ openings 1 (p - 1) → map named_of (xs ++ v ∷ []) ≡ openings 1 (p + 1 - 1)
one_more p xs v low b is =
    map-append named_of xs (v ∷ [])
    ∙ ap₂ (λ (l : List Named) (x : Named). l ++ x ∷ []) is (begins_named p v b ∙ ap opening (let e : p ≡ 1 + (p - 1) = omega arith in e))
    ∙ sym (openings-snoc 1 (p - 1))
    ∙ ap (openings 1) (let e : suc (p - 1) ≡ p + 1 - 1 = omega arith in e)
