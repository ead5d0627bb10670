-- The next tags of a partition are owned.
use Rattle.std.proofs.Common.{ℕ, List, take}
use Rattle.std.specs.Prelude.{IsTrue}
use Rattle.std.specs.List.{AllByRecursion}
use Rattle.pk_base.specs.declared.tag.Tag.{Tag}
use Rattle.pk_model.specs.Tags.{owns, next_tags, tags_of}
use Rattle.pk_model.proofs.TagLists.{Contains-owns}
use Rattle.list_facts.proofs.Each.{ByRecursion-contains, ByRecursion-take, ByRecursion-drop}

pub owns_next : (blocks : List ℕ) (used n : ℕ) → AllByRecursion (λ t. IsTrue (owns blocks t)) (take n (next_tags blocks used))
owns_next blocks used n =
    let Owned = λ (t : Tag). IsTrue (owns blocks t) in
    let all : AllByRecursion Owned (tags_of blocks) = ByRecursion-contains Owned (tags_of blocks) (Contains-owns blocks) in
    ByRecursion-take Owned n (next_tags blocks used) (ByRecursion-drop Owned used (tags_of blocks) all)
