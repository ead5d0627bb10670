use Rattle.std.proofs.Common.{◌≡◌, ℕ, ◌+◌, ◌≤◌, false, true, List, Option, length, sym, ap, subst, ◌∙◌, arith, rules}
use Rattle.std.specs.Prelude.{IfSome}
use Rattle.pk_base.specs.declared.tag.Tag.{Tag}
use Rattle.pk_model.specs.Maps.{diff}
use Rattle.entity_store.specs.Recorder.{Records}
use Rattle.entity_store.specs.Store.{Stored}
use Rattle.pmark_tree.specs.Maps.{map_of}
use Rattle.partition.specs.Goes.{MayWalk, entries_in, walked}
use Rattle.partition.proofs.Going.{down_room, down_walks, end_puts, room_for_fewer, undo, undo_room, up_room, up_walks, went}
use Rattle.partition.proofs.Walks.{climbs-parents, descends-parents}
use Rattle.partition.proofs.goes.go.Goals as goal

pub entries_on-requires : goal.entries_on-requires
entries_on-requires g c =
    let way = c.in_ok-path.ensures.leads in
    record {
      up = climbs-parents c.args.tree.now.marks c.args.at c.in_ok-path.path.up way.top way.climbs;
      down = descends-parents c.args.tree.now.marks way.top c.in_ok-path.path.down c.args.m way.descends;
    }

pub apply-requires : goal.apply-requires
apply-requires g c =
    let ks = c.args.tree.now.marks in
    let old = c.args.store.now.state in
    let path = c.in_ok-path.path in
    let way = c.in_ok-path.ensures.leads in
    let most = c.in_ok-most.most in
    let counted : most ≡ length c.args.unsaved.now + entries_in ks path.up + entries_in ks path.down = subst (λ (o : Option ℕ). IfSome o (λ n. n ≡ length c.args.unsaved.now + entries_in ks path.up + entries_in ks path.down)) c.in_ok-most.ensures.ok_part c.entries_on.ensures in
    let lent = c.recorder_with-rec.result.store.now in
    let room = c.recorder_with-rec.ensures.record ∙ c.in_ok-room.ensures in
    let may = undo ks c.requires.tree old c.requires.hosted c.blocks-blocks.ensures.hosted c.args.at c.args.m c.args.unsaved.now c.requires.at c.requires.net path.up path.down way most counted lent c.recorder_with-rec.ensures.state room in
    record { starts = may.starts; owned = may.owned; hosted = may.hosted; room = undo_room ks c.requires.tree old c.requires.hosted c.blocks-blocks.ensures.hosted c.args.at c.args.m c.args.unsaved.now c.requires.at c.requires.net path.up path.down way most counted lent c.recorder_with-rec.ensures.state room }

pub walk-requires : goal.walk-requires
walk-requires g c =
    let ks = c.args.tree.now.marks in
    let old = c.args.store.now.state in
    let path = c.in_ok-path.path in
    let way = c.in_ok-path.ensures.leads in
    let most = c.in_ok-most.most in
    let counted : most ≡ length c.args.unsaved.now + entries_in ks path.up + entries_in ks path.down = subst (λ (o : Option ℕ). IfSome o (λ n. n ≡ length c.args.unsaved.now + entries_in ks path.up + entries_in ks path.down)) c.in_ok-most.ensures.ok_part c.entries_on.ensures in
    let lent = c.recorder_with-rec.result.store.now in
    let room = c.recorder_with-rec.ensures.record ∙ c.in_ok-room.ensures in
    let a = c.apply.new.rec.store.now in
    record {
      walks = subst (λ (ts : List Tag). MayWalk a.state.blocks ks false a.state.map ts) (sym c.up.ensures) (up_walks ks c.requires.tree old c.requires.hosted c.blocks-blocks.ensures.hosted c.args.at c.args.m c.args.unsaved.now c.requires.at c.requires.net path.up path.down way most counted lent c.recorder_with-rec.ensures.state room a c.apply.ensures.state c.apply.ensures.puts);
      room = subst (λ (ts : List Tag). length a.recording.first + entries_in ks ts ≤ a.recording.room) (sym c.up.ensures) (up_room ks c.requires.tree old c.requires.hosted c.blocks-blocks.ensures.hosted c.args.at c.args.m c.args.unsaved.now c.requires.at c.requires.net path.up path.down way most counted lent c.recorder_with-rec.ensures.state room a c.apply.ensures.state c.apply.ensures.puts);
    }

pub walk-requires-2 : goal.walk-requires-2
walk-requires-2 g c =
    let ks = c.args.tree.now.marks in
    let old = c.args.store.now.state in
    let path = c.in_ok-path.path in
    let way = c.in_ok-path.ensures.leads in
    let most = c.in_ok-most.most in
    let counted : most ≡ length c.args.unsaved.now + entries_in ks path.up + entries_in ks path.down = subst (λ (o : Option ℕ). IfSome o (λ n. n ≡ length c.args.unsaved.now + entries_in ks path.up + entries_in ks path.down)) c.in_ok-most.ensures.ok_part c.entries_on.ensures in
    let lent = c.recorder_with-rec.result.store.now in
    let room = c.recorder_with-rec.ensures.record ∙ c.in_ok-room.ensures in
    let a = c.apply.new.rec.store.now in
    let b = c.walk.new.rec.store.now in
    let b_is : b.state ≡ record a.state { map = walked ks false a.state.map path.up } = c.walk.ensures.state ∙ ap (λ (ts : List Tag). record a.state { map = walked ks false a.state.map ts }) c.up.ensures in
    let b_records : Records (entries_in ks path.up) a b = subst (λ (ts : List Tag). Records (entries_in ks ts) a b) c.up.ensures c.walk.ensures.records in
    record {
      walks = subst (λ (ts : List Tag). MayWalk b.state.blocks ks true b.state.map ts) (sym c.down.ensures) (down_walks ks c.requires.tree old c.requires.hosted c.blocks-blocks.ensures.hosted c.args.at c.args.m c.args.unsaved.now c.requires.at c.requires.net path.up path.down way most counted lent c.recorder_with-rec.ensures.state room a c.apply.ensures.state c.apply.ensures.puts b b_is b_records);
      room = subst (λ (ts : List Tag). length b.recording.first + entries_in ks ts ≤ b.recording.room) (sym c.down.ensures) (down_room ks c.requires.tree old c.requires.hosted c.blocks-blocks.ensures.hosted c.args.at c.args.m c.args.unsaved.now c.requires.at c.requires.net path.up path.down way most counted lent c.recorder_with-rec.ensures.state room a c.apply.ensures.state c.apply.ensures.puts b b_is b_records);
    }

pub finish_lists-requires : goal.finish_lists-requires
finish_lists-requires g c =
    let ks = c.args.tree.now.marks in
    let old = c.args.store.now.state in
    let path = c.in_ok-path.path in
    let way = c.in_ok-path.ensures.leads in
    let most = c.in_ok-most.most in
    let counted : most ≡ length c.args.unsaved.now + entries_in ks path.up + entries_in ks path.down = subst (λ (o : Option ℕ). IfSome o (λ n. n ≡ length c.args.unsaved.now + entries_in ks path.up + entries_in ks path.down)) c.in_ok-most.ensures.ok_part c.entries_on.ensures in
    let lent = c.recorder_with-rec.result.store.now in
    let room = c.recorder_with-rec.ensures.record ∙ c.in_ok-room.ensures in
    let a = c.apply.new.rec.store.now in
    let b = c.walk.new.rec.store.now in
    let b_is : b.state ≡ record a.state { map = walked ks false a.state.map path.up } = c.walk.ensures.state ∙ ap (λ (ts : List Tag). record a.state { map = walked ks false a.state.map ts }) c.up.ensures in
    let b_records : Records (entries_in ks path.up) a b = subst (λ (ts : List Tag). Records (entries_in ks ts) a b) c.up.ensures c.walk.ensures.records in
    let e = c.walk-2.new.rec.store.now in
    let e_is : e.state ≡ record b.state { map = walked ks true b.state.map path.down } = c.walk-2.ensures.state ∙ ap (λ (ts : List Tag). record b.state { map = walked ks true b.state.map ts }) c.down.ensures in
    let e_records : Records (entries_in ks path.down) b e = subst (λ (ts : List Tag). Records (entries_in ks ts) b e) c.down.ensures c.walk-2.ensures.records in
    room_for_fewer (length e.recording.first) most c.in_ok-lists.lists (end_puts ks c.requires.tree old c.requires.hosted c.blocks-blocks.ensures.hosted c.args.at c.args.m c.args.unsaved.now c.requires.at c.requires.net path.up path.down way most counted lent c.recorder_with-rec.ensures.state room a c.apply.ensures.state c.apply.ensures.puts b b_is b_records e e_is e_records) c.in_ok-lists.ensures

pub returns-clause-goes : goal.returns-clause-goes
returns-clause-goes g c =
    let ks = c.args.tree.now.marks in
    let old = c.args.store.now.state in
    let path = c.in_ok-path.path in
    let way = c.in_ok-path.ensures.leads in
    let most = c.in_ok-most.most in
    let counted : most ≡ length c.args.unsaved.now + entries_in ks path.up + entries_in ks path.down = subst (λ (o : Option ℕ). IfSome o (λ n. n ≡ length c.args.unsaved.now + entries_in ks path.up + entries_in ks path.down)) c.in_ok-most.ensures.ok_part c.entries_on.ensures in
    let lent = c.recorder_with-rec.result.store.now in
    let room = c.recorder_with-rec.ensures.record ∙ c.in_ok-room.ensures in
    let a = c.apply.new.rec.store.now in
    let b = c.walk.new.rec.store.now in
    let b_is : b.state ≡ record a.state { map = walked ks false a.state.map path.up } = c.walk.ensures.state ∙ ap (λ (ts : List Tag). record a.state { map = walked ks false a.state.map ts }) c.up.ensures in
    let b_records : Records (entries_in ks path.up) a b = subst (λ (ts : List Tag). Records (entries_in ks ts) a b) c.up.ensures c.walk.ensures.records in
    let e = c.walk-2.new.rec.store.now in
    let e_is : e.state ≡ record b.state { map = walked ks true b.state.map path.down } = c.walk-2.ensures.state ∙ ap (λ (ts : List Tag). record b.state { map = walked ks true b.state.map ts }) c.down.ensures in
    let e_records : Records (entries_in ks path.down) b e = subst (λ (ts : List Tag). Records (entries_in ks ts) b e) c.down.ensures c.walk-2.ensures.records in
    let done = went ks c.requires.tree old c.requires.hosted c.blocks-blocks.ensures.hosted c.args.at c.args.m c.args.unsaved.now c.requires.at c.requires.net path.up path.down way most counted lent c.recorder_with-rec.ensures.state room a c.apply.ensures.state c.apply.ensures.puts b b_is b_records e e_is e_records c.finish_lists.result c.finish_lists.ensures.lists in
    subst (λ (s : Stored). (c.finish_lists.result ≡ diff old.map (map_of ks c.args.m)) × (s ≡ record old { map = map_of ks c.args.m })) (search rules) done

pub returns-clause-cost : goal.returns-clause-cost
returns-clause-cost g c =
    let ks = c.args.tree.now.marks in
    let old = c.args.store.now.state in
    let path = c.in_ok-path.path in
    let way = c.in_ok-path.ensures.leads in
    let most = c.in_ok-most.most in
    let counted : most ≡ length c.args.unsaved.now + entries_in ks path.up + entries_in ks path.down = subst (λ (o : Option ℕ). IfSome o (λ n. n ≡ length c.args.unsaved.now + entries_in ks path.up + entries_in ks path.down)) c.in_ok-most.ensures.ok_part c.entries_on.ensures in
    let lent = c.recorder_with-rec.result.store.now in
    let room = c.recorder_with-rec.ensures.record ∙ c.in_ok-room.ensures in
    let a = c.apply.new.rec.store.now in
    let b = c.walk.new.rec.store.now in
    let b_is : b.state ≡ record a.state { map = walked ks false a.state.map path.up } = c.walk.ensures.state ∙ ap (λ (ts : List Tag). record a.state { map = walked ks false a.state.map ts }) c.up.ensures in
    let b_records : Records (entries_in ks path.up) a b = subst (λ (ts : List Tag). Records (entries_in ks ts) a b) c.up.ensures c.walk.ensures.records in
    let e = c.walk-2.new.rec.store.now in
    let e_is : e.state ≡ record b.state { map = walked ks true b.state.map path.down } = c.walk-2.ensures.state ∙ ap (λ (ts : List Tag). record b.state { map = walked ks true b.state.map ts }) c.down.ensures in
    let e_records : Records (entries_in ks path.down) b e = subst (λ (ts : List Tag). Records (entries_in ks ts) b e) c.down.ensures c.walk-2.ensures.records in
    let puts : length e.recording.first ≤ most = end_puts ks c.requires.tree old c.requires.hosted c.blocks-blocks.ensures.hosted c.args.at c.args.m c.args.unsaved.now c.requires.at c.requires.net path.up path.down way most counted lent c.recorder_with-rec.ensures.state room a c.apply.ensures.state c.apply.ensures.puts b b_is b_records e e_is e_records in
    let up = ap (entries_in ks) c.up.ensures in
    let down = ap (entries_in ks) c.down.ensures in
    let up_is = ap (entries_in ks) c.in_ok-path.ensures.up in
    let down_is = ap (entries_in ks) c.in_ok-path.ensures.down in
    omega (arith, c.apply.ensures.cost, c.walk.ensures.cost, c.walk-2.ensures.cost, c.finish_lists.ensures.cost, puts, counted, up, down, up_is, down_is)
