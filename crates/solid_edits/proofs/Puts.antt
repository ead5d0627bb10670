-- Tags that are among those which are put.
use Rattle.std.proofs.Common.{List, ◌++◌, ⊎_elim}
use Rattle.std.specs.Prelude.{Contains}
use Rattle.std.specs.List.{AllByRecursion}
use Rattle.std.proofs.lemmas.List.Elements.{Contains-append_left, Contains-append_right, Contains-append_cases}
use Rattle.pk_base.specs.declared.tag.Tag.{Tag}
use Rattle.list_facts.proofs.Each.{ByRecursion-at}
use Rattle.solid_model.specs.Rings.{ends_of}
use Rattle.solid_edits.proofs.EditedMaps.{ends-among}

-- each of these is among those
pub each-among : (us ts : List Tag) → AllByRecursion (Contains ts) us → (t : Tag) → Contains us t → Contains ts t
each-among us ts h t k = ByRecursion-at (Contains ts) us t h k

-- the ends of two runs are among them
pub both-ends_among : (xs ys ts : List Tag) → ((t : Tag) → Contains (xs ++ ys) t → Contains ts t) → (t : Tag) → Contains (ends_of xs ++ ends_of ys) t → Contains ts t
both-ends_among xs ys ts h t k = h t (⊎_elim {C = Contains (xs ++ ys) t}
    (λ (l : Contains (ends_of xs) t). Contains-append_left xs ys t (ends-among xs t l))
    (λ (r : Contains (ends_of ys) t). Contains-append_right xs ys t (ends-among ys t r))
    (Contains-append_cases (ends_of xs) (ends_of ys) t k))
