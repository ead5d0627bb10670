-- A goto, step by step: what is unsaved is undone, then the way is walked up and down.
use Rattle.std.proofs.Common.{◌≡◌, ℕ, ◌+◌, ◌≤◌, true, false, List, [], length, sym, ap, subst, ◌∙◌, arith}
use Rattle.std.specs.List.{AllByRecursion}
use Rattle.std.proofs.lemmas.List.{length-map}
use Rattle.pk_base.specs.declared.tag.Tag.{Tag}
use Rattle.pk_base.specs.declared.list.Lists.{Lists}
use Rattle.pk_model.specs.Maps.{EntityMap, diff}
use Rattle.pk_model.specs.State.{Mark}
use Rattle.entity_store.specs.declared.changes.Change.{Change}
use Rattle.entity_store.specs.declared.changes.ListsBuilder.{ListsBuilder}
use Rattle.entity_store.specs.Changes.{AreChanges, net_changes}
use Rattle.entity_store.specs.Lists.{HasRoomForAll}
use Rattle.entity_store.specs.Recorder.{Records, began}
use Rattle.entity_store.specs.Recording.{Recording}
use Rattle.entity_store.specs.Room.{HasRoomForThese, PutsAmong}
use Rattle.entity_store.specs.Store.{Stored, StoreView}
use Rattle.entity_store.proofs.NetChanges.{AreChanges-net_changes}
use Rattle.entity_store.proofs.Room.{records-of, room-of_length}
use Rattle.delta.specs.Deltas.{StartsAt, after, inverse, tags_in}
use Rattle.delta.proofs.Leads.{StartsAt-net_changes, after-inverse, after-net_changes}
use Rattle.pmark_tree.specs.declared.mark.TreeMark.{TreeMark}
use Rattle.pmark_tree.specs.Marks.{is_live, parent_in}
use Rattle.pmark_tree.specs.Maps.{map_of, whole_marks}
use Rattle.pmark_tree.specs.Paths.{Leads}
use Rattle.pmark_tree.specs.Trees.{IsTree}
use Rattle.partition.specs.Contents.{AreHosted}
use Rattle.partition.specs.Goes.{MayApply, MayWalk, entries_in, walked}
use Rattle.partition.proofs.Ours.{hosted_live, may_undo}
use Rattle.partition.proofs.Joining.{lent_began}
use Rattle.partition.proofs.Walks.{climbs_to, descends_to}

pub room_for_fewer : (n k : ℕ) (out : ListsBuilder) → n ≤ k → HasRoomForAll k out → HasRoomForAll n out
room_for_fewer n k out less h = record {
  fresh = h.fresh;
  gone = h.gone;
  changed = h.changed;
  fresh_room = omega (arith, less, h.fresh_room);
  gone_room = omega (arith, less, h.gone_room);
  changed_room = omega (arith, less, h.changed_room);
}

-- how many tags were put, at most, while the room stays the same
record Puts (most n : ℕ) (old : EntityMap) (s : StoreView) : Type 0 where
  began : began s ≡ old
  room : s.recording.room ≡ most
  puts : length s.recording.first ≤ n

more_puts : (most n k : ℕ) (old : EntityMap) (a b : StoreView) → Puts most n old a → Records k a b → Puts most (n + k) old b
more_puts most n k old a b p r = record { began = r.began ∙ p.began; room = r.room ∙ p.room; puts = omega (arith, p.puts, r.puts) }

module _ (ks : List TreeMark) (tree : IsTree ks) (old : Stored) (hosted : AllByRecursion (λ (k : Mark). AreHosted old.blocks k.map) (whole_marks ks)) (hosted_now : AreHosted old.blocks old.map) (at m : Tag) (unsaved : List Change) (lives : is_live ks at ≡ true) (net : unsaved ≡ net_changes (map_of ks at) old.map) (up down : List Tag) (way : Leads (parent_in ks) at m up down) (most : ℕ) (counted : most ≡ length unsaved + entries_in ks up + entries_in ks down) (lent : StoreView) (same : lent.state ≡ old) (room : lent.recording ≡ record { first = []; room = most }) where
  are : AreChanges unsaved
  are = subst AreChanges (sym net) (AreChanges-net_changes (map_of ks at) old.map)

  starts : StartsAt (map_of ks at) unsaved
  starts = subst (StartsAt (map_of ks at)) (sym net) (StartsAt-net_changes (map_of ks at) old.map)

  leads : after (map_of ks at) unsaved ≡ old.map
  leads = ap (after (map_of ks at)) net ∙ after-net_changes (map_of ks at) old.map

  pub undo : MayApply lent.state.blocks false lent.state.map unsaved
  undo = subst (λ (s : Stored). MayApply s.blocks false s.map unsaved) (sym same) (may_undo old.blocks (map_of ks at) old.map (hosted_live old.blocks ks at hosted lives) hosted_now unsaved are starts leads)

  pub undo_room : HasRoomForThese lent.recording (tags_in unsaved)
  undo_room = room-of_length lent.recording (tags_in unsaved) (omega (arith, counted, length-map unsaved (λ (c : Change). c.tag), ap (λ (r : Recording). r.room) room, ap (λ (r : Recording). length r.first) room))

  module _ (a : StoreView) (a_is : a.state ≡ record lent.state { map = after lent.state.map (inverse unsaved) }) (a_puts : PutsAmong (tags_in unsaved) lent a) where
    a_at : a.state.map ≡ map_of ks at
    a_at = ap (λ (s : Stored). s.map) a_is ∙ ap (λ (s : Stored). after s.map (inverse unsaved)) same ∙ ap (λ n. after n (inverse unsaved)) (sym leads) ∙ after-inverse (map_of ks at) unsaved are.ascend starts

    a_blocks : a.state.blocks ≡ old.blocks
    a_blocks = ap (λ (s : Stored). s.blocks) a_is ∙ ap (λ (s : Stored). s.blocks) same

    puts_a : Puts most (length unsaved) old.map a
    puts_a =
        let r : Records (length unsaved) lent a = records-of (tags_in unsaved) (length unsaved) lent a a_puts (omega (arith, length-map unsaved (λ (c : Change). c.tag))) in
        record {
          began = r.began ∙ lent_began old lent same (ap (λ (r : Recording). r.first) room);
          room = r.room ∙ ap (λ (r : Recording). r.room) room;
          puts = omega (arith, r.puts, ap (λ (r : Recording). length r.first) room);
        }

    climbed : MayWalk old.blocks ks false a.state.map up × (walked ks false a.state.map up ≡ map_of ks way.top)
    climbed = climbs_to old.blocks ks tree hosted at up way.top a.state.map a_at way.climbs

    pub up_walks : MayWalk a.state.blocks ks false a.state.map up
    up_walks = subst (λ bs. MayWalk bs ks false a.state.map up) (sym a_blocks) climbed.0

    pub up_room : length a.recording.first + entries_in ks up ≤ a.recording.room
    up_room = omega (arith, puts_a.puts, puts_a.room, counted)

    module _ (b : StoreView) (b_is : b.state ≡ record a.state { map = walked ks false a.state.map up }) (b_records : Records (entries_in ks up) a b) where
      b_at : b.state.map ≡ map_of ks way.top
      b_at = ap (λ (s : Stored). s.map) b_is ∙ climbed.1

      b_blocks : b.state.blocks ≡ old.blocks
      b_blocks = ap (λ (s : Stored). s.blocks) b_is ∙ a_blocks

      puts_b : Puts most (length unsaved + entries_in ks up) old.map b
      puts_b = more_puts most (length unsaved) (entries_in ks up) old.map a b puts_a b_records

      descended : MayWalk old.blocks ks true b.state.map down × (walked ks true b.state.map down ≡ map_of ks m)
      descended = descends_to old.blocks ks tree hosted way.top down m b.state.map b_at way.descends

      pub down_walks : MayWalk b.state.blocks ks true b.state.map down
      down_walks = subst (λ bs. MayWalk bs ks true b.state.map down) (sym b_blocks) descended.0

      pub down_room : length b.recording.first + entries_in ks down ≤ b.recording.room
      down_room = omega (arith, puts_b.puts, puts_b.room, counted)

      module _ (e : StoreView) (e_is : e.state ≡ record b.state { map = walked ks true b.state.map down }) (e_records : Records (entries_in ks down) b e) where
        puts_e : Puts most (length unsaved + entries_in ks up + entries_in ks down) old.map e
        puts_e = more_puts most (length unsaved + entries_in ks up) (entries_in ks down) old.map b e puts_b e_records

        pub end_puts : length e.recording.first ≤ most
        end_puts = omega (arith, puts_e.puts, counted)

        e_at : e.state.map ≡ map_of ks m
        e_at = ap (λ (s : Stored). s.map) e_is ∙ descended.1

        e_blocks : e.state.blocks ≡ old.blocks
        e_blocks = ap (λ (s : Stored). s.blocks) e_is ∙ b_blocks

        pub went : (lists : Lists) → lists ≡ diff (began e) e.state.map → (lists ≡ diff old.map (map_of ks m)) × (e.state ≡ record old { map = map_of ks m })
        went lists is = (is ∙ (λ i. diff (puts_e.began i) (e_at i)), λ i. record { blocks = e_blocks i; map = e_at i })
