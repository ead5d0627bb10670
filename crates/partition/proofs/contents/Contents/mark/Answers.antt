use Rattle.std.proofs.Common.{◌≡◌, ℕ, ◌+◌, ◌*◌, ◌<◌, List, [], ◌∷◌, ◌++◌, length, true, Some, Result, Ok, ap, sym, subst, ◌∙◌, arith}
use Rattle.std.specs.List.{AllByRecursion}
use Rattle.pk_base.specs.declared.tag.Tag.{Tag}
use Rattle.pk_base.specs.declared.act.Act.TheVariants as act
use Rattle.pk_base.specs.declared.act.Reply.TheVariants as reply
use Rattle.pk_base.specs.declared.refusal.Refusal.{Refusal}
use Rattle.pk_model.specs.Tags.{spare_of, next_tags, tag_at, tags_of}
use Rattle.pk_model.specs.State.{PartitionState}
use Rattle.pk_model.specs.Step.{Reach, reach_of}
use Rattle.pk_model.proofs.TagLists.{tag_at-next_tags}
use Rattle.entity_store.specs.NextTags.{TagsView}
use Rattle.delta.specs.Deltas.{StartsAt, after}
use Rattle.pmark_tree.specs.declared.mark.TreeMark.{TreeMark}
use Rattle.pmark_tree.specs.Marks.{child_mark}
use Rattle.pmark_tree.specs.Maps.{map_of, whole_marks}
use Rattle.partition.specs.Contents.{ContentsView, state_of}
use Rattle.partition.proofs.Keeping.{leads, marked, newest, starts}
use Rattle.partition.proofs.ActReach.{mark_reached}
use Rattle.partition.proofs.contents.Contents.mark.Goals as goal

pub to_delta-requires : goal.to_delta-requires
to_delta-requires g c =
    let p = c.self.inside in
    record { base = map_of p.tree.marks p.at; now = p.store.state.map; net = c.self.invariant.net }

pub add-requires-clause-newest : goal.add-requires-clause-newest
add-requires-clause-newest g c =
    let p = c.self.inside in
    let fits : p.used < 64 * length p.store.state.blocks = omega (arith, c.requires, ap (λ (v : ContentsView). spare_of v.state.blocks v.state.used) c.self.view_is) in
    let place : c.take-tag.result ≡ tag_at (tags_of p.store.state.blocks) p.used =
    c.take-tag.ensures.tag ∙ ap (λ (v : TagsView). tag_at (next_tags v.blocks v.used) 0) c.of.ensures ∙ tag_at-next_tags _ p.used 0 ∙ ap (λ (bs : List ℕ). tag_at (tags_of bs) (p.used + 0)) (c.deref.ensures.value ∙ c.self.invariant.listed) ∙ ap (tag_at (tags_of p.store.state.blocks)) (omega arith)
    in
    subst (λ (ks : List TreeMark). AllByRecursion (λ (k : TreeMark). k.tag.0 < c.take-tag.result.0) ks) (sym c.in_ok-reserve.ensures.marks)
    (newest p.store.state.blocks p.blocks.items p.store.state.map p.tree.marks p.unsaved.changes.entries p.at p.used c.self.invariant c.take-tag.result c.blocks-blocks.ensures.ascending fits place)

pub add-requires-clause-starts : goal.add-requires-clause-starts
add-requires-clause-starts g c =
    let p = c.self.inside in
    subst (λ (ks : List TreeMark). StartsAt (map_of ks p.at) c.in_ok-changes.changes) (sym c.in_ok-reserve.ensures.marks)
    (starts p.store.state.blocks p.blocks.items p.store.state.map p.tree.marks p.unsaved.changes.entries p.at p.used c.self.invariant c.in_ok-changes.changes (c.in_ok-changes.ensures (map_of p.tree.marks p.at) p.store.state.map c.self.invariant.net))

pub invariant_of-self-2 : goal.invariant_of-self-2
invariant_of-self-2 g c =
    let p = c.self.inside in
    let t = c.take-tag.result in
    let marks : c.reserve.new.self.marks ≡ p.tree.marks = c.in_ok-reserve.ensures.marks in
    let d = c.in_ok-changes.changes in
    let fits : p.used < 64 * length p.store.state.blocks = omega (arith, c.requires, ap (λ (v : ContentsView). spare_of v.state.blocks v.state.used) c.self.view_is) in
    let place : t ≡ tag_at (tags_of p.store.state.blocks) p.used =
    c.take-tag.ensures.tag ∙ ap (λ (v : TagsView). tag_at (next_tags v.blocks v.used) 0) c.of.ensures ∙ tag_at-next_tags _ p.used 0 ∙ ap (λ (bs : List ℕ). tag_at (tags_of bs) (p.used + 0)) (c.deref.ensures.value ∙ c.self.invariant.listed) ∙ ap (tag_at (tags_of p.store.state.blocks)) (omega arith)
    in
    let whole : whole_marks c.add.new.self.marks ≡ whole_marks p.tree.marks ++ record { tag = t; parent = Some p.at; map = after (map_of p.tree.marks p.at) d; live = true } ∷ [] =
    c.add.ensures.whole ∙ (λ i. whole_marks (marks i) ++ record { tag = t; parent = Some p.at; map = after (map_of (marks i) p.at) d; live = true } ∷ [])
    in
    marked p.store.state.blocks p.blocks.items p.store.state.map p.tree.marks p.unsaved.changes.entries p.at p.used c.self.invariant t d c.add.new.self.marks c.new-nothing.result.changes.entries (c.in_ok-changes.ensures (map_of p.tree.marks p.at) p.store.state.map c.self.invariant.net) c.blocks-blocks.ensures.hosted c.blocks-blocks.ensures.ascending fits place
    (c.add.ensures.marks ∙ (λ i. marks i ++ child_mark t p.at d ∷ [])) whole c.new-nothing.ensures

pub returns : goal.returns
returns g c =
    let K = g.K.Meaning.modelling in
    let p = c.self.inside in
    let t = c.take-tag.result in
    let marks : c.reserve.new.self.marks ≡ p.tree.marks = c.in_ok-reserve.ensures.marks in
    let d = c.in_ok-changes.changes in
    let place : t ≡ tag_at (tags_of p.store.state.blocks) p.used =
    c.take-tag.ensures.tag ∙ ap (λ (v : TagsView). tag_at (next_tags v.blocks v.used) 0) c.of.ensures ∙ tag_at-next_tags _ p.used 0 ∙ ap (λ (bs : List ℕ). tag_at (tags_of bs) (p.used + 0)) (c.deref.ensures.value ∙ c.self.invariant.listed) ∙ ap (tag_at (tags_of p.store.state.blocks)) (omega arith)
    in
    let whole : whole_marks c.add.new.self.marks ≡ whole_marks p.tree.marks ++ record { tag = t; parent = Some p.at; map = after (map_of p.tree.marks p.at) d; live = true } ∷ [] =
    c.add.ensures.whole ∙ (λ i. whole_marks (marks i) ++ record { tag = t; parent = Some p.at; map = after (map_of (marks i) p.at) d; live = true } ∷ [])
    in
    let stands = leads p.store.state.blocks p.blocks.items p.store.state.map p.tree.marks p.unsaved.changes.entries p.at p.used c.self.invariant d (c.in_ok-changes.ensures (map_of p.tree.marks p.at) p.store.state.map c.self.invariant.net) in
    let made : c.finish.result ≡ t ∷ [] = c.finish.ensures ∙ c.push.ensures.items ∙ ap (λ (ts : List Tag). ts ++ t ∷ []) c.in_ok-made.ensures.empty in
    let answer : List Tag → Result Reach Refusal = λ ts. Ok (record { state = state_of p.store c.add.new.self.marks t (p.used + 1) p.holder; reply = reply.Made ts }) in
    subst (λ (s : PartitionState). reach_of K s act.Mark ≡ answer c.finish.result) (ap (λ (v : ContentsView). v.state) c.self.view_is)
    (mark_reached K p.store p.store p.tree.marks p.at p.used p.holder t (after (map_of p.tree.marks p.at) d) c.add.new.self.marks place stands whole ∙ ap answer (sym made))
