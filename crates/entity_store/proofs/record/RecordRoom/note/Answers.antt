use Rattle.std.proofs.Common.{◌≡◌, ◌==◌, true, false, cond, ◌∷◌, [], ◌++◌, sym, ap, subst, ◌∙◌, arith}
use Rattle.indexmap.proofs.CallerLemmas.{insert_entry-new}
use Rattle.entity_store.specs.Recording.{Recording, first_values, has_put, recorded_put, HasRoomFor}
use Rattle.entity_store.proofs.FirstValues.{Firsts}
use Rattle.entity_store.proofs.NetChanges.{none_from_not}
use Rattle.entity_store.proofs.Recorded.{Entries, has_put-found, length-first_values, first_values-push, room_for_more, IsRecording-more}
use Rattle.entity_store.proofs.record.RecordRoom.note.Goals as goal

pub unwrap-requires : goal.unwrap-requires
unwrap-requires c =
    let es = c.self.inside.first.entries in
    let absent = sym (has_put-found es c.args.tag) ∙ sym c.contains_key.ensures ∙ c.if-not-contains_key.true in
    let room = subst (λ (r : Recording). HasRoomFor r c.args.tag) (sym c.self.view_is) c.requires in
    let more = room_for_more _ c.args.tag room absent in
    c.insert.ensures.succeeds (omega (arith, more, length-first_values es, c.self.invariant.enough))

pub invariant_of-self : goal.invariant_of-self
invariant_of-self c =
    let es = c.self.inside.first.entries in
    let unfound = sym c.contains_key.ensures ∙ c.if-not-contains_key.true in
    let room = subst (λ (r : Recording). HasRoomFor r c.args.tag) (sym c.self.view_is) c.requires in
    let more = room_for_more _ c.args.tag room (sym (has_put-found es c.args.tag) ∙ unfound) in
    let entries = rw c.unwrap.ensures at c.insert.ensures.entries in
    IsRecording-more c.self.inside.room es c.insert.new.self.entries _ _ c.args.tag c.args.before _ _ c.self.invariant (omega (arith, more, length-first_values es))
    (entries ∙ insert_entry-new ◌==◌ c.self.inside.first c.args.tag.0 c.args.before (none_from_not _ unfound)) c.insert.ensures.spare c.insert.ensures.unique

pub returns-then-not-contains_key : goal.returns-then-not-contains_key
returns-then-not-contains_key c =
    let es = c.self.inside.first.entries in
    let unfound = sym c.contains_key.ensures ∙ c.if-not-contains_key.true in
    let absent : has_put (first_values es) c.args.tag ≡ false = sym (has_put-found es c.args.tag) ∙ unfound in
    let entries = rw c.unwrap.ensures at c.insert.ensures.entries in
    let pushed = entries ∙ insert_entry-new ◌==◌ c.self.inside.first c.args.tag.0 c.args.before (none_from_not _ unfound) in
    let recorded : Firsts → Recording = λ ps. record { first = ps; room = c.self.inside.room } in
    let longer : Firsts = first_values es ++ (c.args.tag, c.args.before) ∷ [] in
    ap recorded (ap {A = Entries} first_values pushed ∙ first_values-push es c.args.tag c.args.before ∙ ap {B = Firsts} (λ b. cond b (first_values es) longer) (sym absent))
    ∙ ap (λ (r : Recording). record { first = recorded_put r.first c.args.tag c.args.before; room = r.room }) c.self.view_is

pub returns-else-not-contains_key : goal.returns-else-not-contains_key
returns-else-not-contains_key c =
    let es = c.self.inside.first.entries in
    let put : has_put (first_values es) c.args.tag ≡ true = sym (has_put-found es c.args.tag) ∙ sym c.contains_key.ensures ∙ c.if-not-contains_key.false in
    let recorded : Firsts → Recording = λ ps. record { first = ps; room = c.self.inside.room } in
    let longer : Firsts = first_values es ++ (c.args.tag, c.args.before) ∷ [] in
    subst (λ (r : Recording). r ≡ record { first = recorded_put r.first c.args.tag c.args.before; room = r.room }) c.self.view_is
    (ap recorded (ap {B = Firsts} (λ b. cond b (first_values es) longer) (sym put)))
