use Rattle.std.proofs.Common.{List, Some, subst, arith}
use Rattle.std.proofs.lemmas.List.Sorted.{IsPermutation-refl}
use Rattle.pk_base.specs.declared.tag.Tag.{Tag}
use Rattle.pk_base.specs.declared.entity.Entity.{Entity}
use Rattle.entity_store.specs.Kids.{kids_of}
use Rattle.solid_places.proofs.Kids.{Walk}
use Rattle.queries.proofs.BodyCounts.{counted-few, counted-parts}
use Rattle.queries.proofs.Owned.{few-walked}
use Rattle.queries.proofs.counts.count_parts.Goals as goal

pub overflow_add-count : goal.overflow_add-count
overflow_add-count g c =
    let s = c.args.store.now.state in
    let kids = kids_of s.map (Some c.args.owner) in
    let all = few-walked s c.blocks-blocks.ensures.ascending c.blocks-blocks.ensures.range c.blocks-blocks.ensures.hosted (Some c.args.owner) kids (IsPermutation-refl kids) in
    omega (arith, counted-few c.args.class kids _ c.loop-kid.count 16777152 c.loop-kid.invariant all)

pub returns-clause-parts : goal.returns-clause-parts
returns-clause-parts g c =
    let m = c.args.store.now.state.map in
    counted-parts m c.requires c.args.class c.args.owner c.loop-kid.count
    (subst (λ (ks : List (Tag × Entity)). Walk c.args.class (kids_of m (Some c.args.owner)) c.loop-kid.count ks) c.in_default.ensures.none c.loop-kid.invariant)

pub returns-clause-few : goal.returns-clause-few
returns-clause-few g c =
    let s = c.args.store.now.state in
    let kids = kids_of s.map (Some c.args.owner) in
    let all = few-walked s c.blocks-blocks.ensures.ascending c.blocks-blocks.ensures.range c.blocks-blocks.ensures.hosted (Some c.args.owner) kids (IsPermutation-refl kids) in
    counted-few c.args.class kids _ c.loop-kid.count 16777152 c.loop-kid.invariant all
