-- What reads and writes leave.
use Rattle.std.proofs.Common.{◌≡◌, ℕ, ◌+◌, ◌≤◌, List, ◌++◌, length, take, drop, Option, None, Some, refl, sym, ◌∙◌, ap, arith, append_assoc, take-append-drop}
use Rattle.std.proofs.lemmas.List.{take_at, drop-drop, length-take-le}
use Rattle.std.proofs.Math.Seq.{take-add}
use Rattle.pk_outside.specs.Outside.{Takes, Grows}

-- one write more
pub grows_more : (old mid new : Option (List ℕ)) (bytes : List ℕ) (n k : ℕ) → Grows old mid (take n bytes) → Grows mid new (take k (drop n bytes)) → Grows old new (take (n + k) bytes)
grows_more None None new bytes n k first next = next
grows_more None (Some held) new bytes n k first next = cc
grows_more (Some held) None new bytes n k first next = cc
grows_more (Some held) (Some more) new bytes n k first next = grind (arith, take-add n k bytes, append_assoc held (take n bytes) (take k (drop n bytes)))

-- the next n bytes, copied to the front of a buffer
pub takes_next : (left bytes given behind : List ℕ) (at n : ℕ) → left ≡ drop at bytes → n ≤ length (drop at bytes) → given ≡ take n (drop at bytes) → Takes (Some left) (Some (drop (at + n) bytes)) (take n (given ++ behind))
takes_next left bytes given behind at n shown le is =
    let rest = drop at bytes in
    let front : take n (given ++ behind) ≡ take n rest = take_at given behind n (ap length is ∙ length-take-le n rest le) ∙ is in
    let whole : left ≡ take n (given ++ behind) ++ drop (at + n) bytes =
    shown ∙ sym (take-append-drop n rest) ∙ ap (λ (l : List ℕ). l ++ drop n rest) (sym front) ∙ ap (λ (l : List ℕ). take n (given ++ behind) ++ l) (drop-drop n at bytes) in
    (drop (at + n) bytes, whole, refl)

-- one read more
pub takes_more : (old mid new : Option (List ℕ)) (given more : List ℕ) → Takes old mid given → Takes mid new more → Takes old new (given ++ more)
takes_more None None new given more first next = next
takes_more None (Some left) new given more first next = cc
takes_more (Some bytes) None new given more first next = let none = first.2 in cc
takes_more (Some bytes) (Some left) new given more first next =
    let same : left ≡ first.0 = cc in
    (next.0, first.1 ∙ ap (λ ls. given ++ ls) (sym same ∙ next.1) ∙ sym (append_assoc given more next.0), next.2)
