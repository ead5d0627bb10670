-- Blocks that are drawn from one counter are above the partitions, and each is drawn once.
use Rattle.std.proofs.Common.{◌≡◌, ℕ, zero, suc, ◌+◌, ◌<◌, false, List, [], ◌∷◌, length, arith}
use Rattle.std.specs.Prelude.{◌==◌, IsPermutation}
use Rattle.std.specs.List.{range_with_len, AllByRecursion, IsDistinct}
use Rattle.std.specs.Cmp.{nat_eq_equiv}
use Rattle.std.proofs.lemmas.Bool.{eqb-false, ne_eqb}
use Rattle.std.proofs.lemmas.List.Sorted.{All-permutation, IsPermutation-sym}
use Rattle.std.proofs.lemmas.List.Elements.{All-from_recursion, recursion_from_All}
use Rattle.std.proofs.lemmas.Map.Keys.{IsDistinct-IsPermutation}
use Rattle.pk_base.specs.declared.act.Entry.{Entry}
use Rattle.pk_model.specs.Modelling.{Modelling, IsModeller}
use Rattle.pk_model.specs.Apart.{Apart}
use Rattle.pk_model.specs.Sessions.{drawn_in, BlocksApart, EachReplays, AreOneSession}
use Rattle.list_facts.proofs.Each.{ByRecursion-weaker}
use Rattle.pk_model.proofs.Apartness.{session_apart}

later_differ : (x a k : ℕ) → x < a → AllByRecursion (λ y. (x == y) ≡ false) (range_with_len a k)
later_differ x a zero h = tt
later_differ x a (suc k) h = (ne_eqb x a (λ (e : x ≡ a). omega arith), later_differ x (a + 1) k (omega arith))

range_distinct : (a k : ℕ) → IsDistinct ◌==◌ (range_with_len a k)
unfolding IsDistinct
range_distinct a zero = tt
range_distinct a (suc k) = (later_differ a (a + 1) k (omega arith), range_distinct (a + 1) k)

range_above : (n a k : ℕ) → n < a → AllByRecursion (λ b. n < b) (range_with_len a k)
range_above n a zero h = tt
range_above n a (suc k) h = (h, range_above n (a + 1) k (omega arith))

apart_if_distinct : (bs : List ℕ) → IsDistinct ◌==◌ bs → BlocksApart bs
unfolding IsDistinct
apart_if_distinct [] h = tt
apart_if_distinct (b ∷ bs) h = (ByRecursion-weaker _ _ (λ c e. eqb-false b c e) bs h.0, apart_if_distinct bs h.1)

pub session_from_counter : (K : Modelling) (k : ℕ) (journals : List (List Entry)) → EachReplays K 1 journals → IsPermutation (drawn_in journals) (range_with_len (length journals + 1) k) → AreOneSession K journals
session_from_counter K k journals replays drawn =
    let n = length journals in
    let back = IsPermutation-sym (drawn_in journals) (range_with_len (n + 1) k) drawn in
    record {
      replays = replays;
      above = recursion_from_All (λ b. n < b) (drawn_in journals)
          (All-permutation (λ b. n < b) (range_with_len (n + 1) k) (drawn_in journals) back (All-from_recursion (λ b. n < b) (range_with_len (n + 1) k) (range_above n (n + 1) k (omega arith))));
      once = apart_if_distinct (drawn_in journals) (IsDistinct-IsPermutation ◌==◌ (nat_eq_equiv.symm) (range_with_len (n + 1) k) (drawn_in journals) back (range_distinct (n + 1) k));
    }

pub counted_apart : (K : Modelling) → IsModeller K → (k : ℕ) (journals : List (List Entry)) → EachReplays K 1 journals → IsPermutation (drawn_in journals) (range_with_len (length journals + 1) k) → Apart K journals
counted_apart K good k journals replays drawn = session_apart K good journals (session_from_counter K k journals replays drawn)
