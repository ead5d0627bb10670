-- Partitions that are made one after another.
use Rattle.std.proofs.Common.{◌≡◌, ℕ, ◌+◌, ◌-◌, ◌≤◌, List, [], ◌∷◌, ◌++◌, length, map, sym, ap, ◌∙◌, arith}
use Rattle.std.specs.List.{range_with_len}
use Rattle.std.proofs.lemmas.List.{length-map, map-append}
use Rattle.std.proofs.lemmas.List.FromFn.{length-range_with_len, map-range_with_len_more}
use Rattle.partition.specs.Partition.{PartitionView, Begins}
use Rattle.world_core.specs.World.{WorldPartition, opened}
use Rattle.world_core.specs.Inside.{seen_as}
use Rattle.world_core.proofs.Places.{range_more}

module _ (views : List PartitionView) (v : PartitionView) (p : ℕ) (first : 1 ≤ p) (begins : Begins p v) where
  one_more : (p - 1) + 1 ≡ p + 1 - 1
  one_more = omega arith

  itself : 1 + (p - 1) ≡ p
  itself = omega arith

  pub numbers_push : map (λ (v : PartitionView). v.number) views ≡ range_with_len 1 (p - 1) → map (λ (v : PartitionView). v.number) (views ++ v ∷ []) ≡ range_with_len 1 (p + 1 - 1)
  numbers_push h =
      map-append (λ (v : PartitionView). v.number) views (v ∷ [])
      ∙ ap (λ l. l ++ v.number ∷ []) h
      ∙ ap (λ n. range_with_len 1 (p - 1) ++ n ∷ []) (begins.number ∙ sym itself)
      ∙ range_more 1 (p - 1)
      ∙ ap (range_with_len 1) one_more

  opened_is : seen_as v ≡ opened p
  opened_is = λ i. record { state = begins.state i; journal = begins.journal i }

  pub opened_push : map seen_as views ≡ map opened (range_with_len 1 (p - 1)) → map seen_as (views ++ v ∷ []) ≡ map opened (range_with_len 1 (p + 1 - 1))
  opened_push h =
      map-append seen_as views (v ∷ [])
      ∙ ap (λ l. l ++ seen_as v ∷ []) h
      ∙ ap (λ (q : WorldPartition). map opened (range_with_len 1 (p - 1)) ++ q ∷ []) opened_is
      ∙ sym (map-range_with_len_more opened 1 (p - 1) p itself)
      ∙ ap (λ n. map opened (range_with_len 1 n)) one_more

-- so many partitions were made
pub count_made : (views : List PartitionView) (n : ℕ) → map (λ (v : PartitionView). v.number) views ≡ range_with_len 1 n → length views ≡ n
count_made views n h = sym (length-map views (λ (v : PartitionView). v.number)) ∙ ap length h ∙ length-range_with_len 1 n
