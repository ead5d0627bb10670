-- What a draw makes of a held partition and of its seat.
use Rattle.std.proofs.Common.{◌≡◌, ℕ, ◌<◌, ◌&&◌, nat_lt, true, Bool, List, [], ◌∷◌, ◌++◌, unwrap_or, ap, ap₂, sym, subst, refl, ◌∙◌}
use Rattle.std.specs.Prelude.{Option, Some, None, IsSome, Result, Ok, Err}
use Rattle.std.specs.List.{list_all, AllByRecursion}
use Rattle.std.proofs.lemmas.Bool.{lt-ltb}
use Rattle.std.proofs.lemmas.Option.{same_Some}
use Rattle.pk_base.specs.declared.act.Entry.{Entry}
use Rattle.pk_base.specs.declared.act.Entry.TheVariants.{Claimed, Drew}
use Rattle.pk_base.specs.declared.act.Reply.{Reply}
use Rattle.pk_base.specs.declared.refusal.Refusal.{Refusal}
use Rattle.pk_model.specs.Modelling.{Modelling}
use Rattle.pk_model.specs.State.{PartitionState}
use Rattle.pk_model.specs.Step.{step}
use Rattle.partition.specs.Partition.{PartitionView, Appends, Stays, holder_of}
use Rattle.session_table.specs.declared.view.Line.{Line}
use Rattle.session_table.specs.declared.view.Note.{Note}
use Rattle.session_table.specs.declared.view.View.{View}
use Rattle.session_table.specs.declared.seat.Seat.{Seat}
use Rattle.session_table.specs.declared.table.SessionTable.{SessionTable}
use Rattle.session_table.specs.Entries.{Continues, thread_of}
use Rattle.session_table.specs.Seats.{line_in, seen_of, mine_of, note_of, line_here}
use Rattle.session_table.specs.Faces.{view_of}
use Rattle.session_table.specs.Steps.{passed, drew}
use Rattle.pk_session.specs.Views.{SeatView, HeldView}
use Rattle.pk_session.specs.declared.draws.DrawNo.{DrawNo}
use Rattle.pk_session.specs.declared.draws.DrawNo.TheVariants as draw
use Rattle.pk_session.specs.Slots.{IsAtRest, HasBlock, HasNone, IsNotedWith, DrawsInto}
use Rattle.pk_session.specs.Holding.{IsHeldBy}
use Rattle.pk_session.specs.Draws.{HasDrawn, HasPassed, IsStill, TriesDraw}
use Rattle.pk_session.proofs.Entries.{drew_is}
use Rattle.pk_session.proofs.Locking.{seen_as, same_but_view, continues_and}

-- all are below, as the partition's own call asks it
all_below : (xs : List ℕ) (b : ℕ) → AllByRecursion (λ o. o < b) xs → list_all (λ o. nat_lt o b) xs ≡ true
all_below [] b h = refl
all_below (x ∷ xs) b h = ap₂ (λ (c d : Bool). c && d) (lt-ltb x b h.0) (all_below xs b h.1)

-- what stands with an entry that leaves the note, the blocks and the holder
pub entry_held : (s : SeatView) (h : HeldView) (x : PartitionView) (e : Entry) → IsHeldBy s h → x.number ≡ h.partition.number → x.state.blocks ≡ h.partition.state.blocks → x.state.holder ≡ h.partition.state.holder
    → x.journal ≡ h.partition.journal ++ e ∷ [] → thread_of e ≡ s.view.number → IsHeldBy s (record { session = h.session; partition = x })
entry_held s h x e held number blocks holder journal by =
    let n : ℕ = s.view.number in let note : Note = held.note in record {
      session = held.session;
      holder = holder ∙ held.holder;
      note = note;
      noted = ap (note_of s.view) number ∙ held.noted;
      journal = subst (λ (j : List Entry). Continues n (note.journal ++ Claimed n ∷ []) j) (sym journal) (continues_and n (note.journal ++ Claimed n ∷ []) h.partition.journal e held.journal by);
      blocks = blocks ∙ held.blocks;
    }

-- what stands where nothing has changed
pub still_held : (s : SeatView) (h : HeldView) (x : PartitionView) → IsHeldBy s h → Stays h.partition x → IsHeldBy s (record { session = h.session; partition = x })
still_held s h x held stays =
    let n : ℕ = s.view.number in let note : Note = held.note in record {
      session = held.session;
      holder = ap (λ (t : PartitionState). t.holder) stays.state ∙ held.holder;
      note = note;
      noted = ap (note_of s.view) stays.number ∙ held.noted;
      journal = subst (λ (j : List Entry). Continues n (note.journal ++ Claimed n ∷ []) j) (sym stays.journal) held.journal;
      blocks = ap (λ (t : PartitionState). t.blocks) stays.state ∙ held.blocks;
    }

-- an entry behind a partition of which nothing has changed is one behind it
pub appends_after : (K : Modelling) (old mid new : PartitionView) (e : Entry) (answer : Option (Result Reply Refusal)) → Stays old mid → Appends K mid e answer new → Appends K old e answer new
appends_after K old mid new e answer stays a = record {
  number = a.number ∙ stays.number;
  steps = subst (λ (s : PartitionState). step K s e ≡ Some (record { state = new.state; answer = answer })) stays.state a.steps;
  journal = a.journal ∙ ap (λ (j : List Entry). j ++ e ∷ []) stays.journal;
}

-- the seat that holds the partition, where it knows something else but its lines and its number
pub kept_held : (s t : SeatView) (h : HeldView) → t.session ≡ s.session → t.view.lines ≡ s.view.lines → t.view.number ≡ s.view.number → IsHeldBy s h → IsHeldBy t h
kept_held s t h session lines number held = record {
  session = held.session ∙ sym session;
  holder = held.holder ∙ ap Some (sym number);
  note = held.note;
  noted = ap (λ (ls : List Line). (line_in ls h.partition.number).note) lines ∙ held.noted;
  journal = subst (λ (n : ℕ). Continues n (held.note.journal ++ Claimed n ∷ []) h.partition.journal) (sym number) held.journal;
  blocks = held.blocks;
}

module _ (table : SessionTable PartitionView) (old new : Seat PartitionView) (before : IsAtRest table old) (after : IsAtRest table new) where
  passed_on : (next : ℕ) → HasNone (view_of old) next (view_of new) → HasPassed (seen_as old) next (seen_as new)
  passed_on next n = record {
    above = n.above;
    near = n.near;
    greatest = n.greatest;
    counted = ap (λ (v : View). v.passes) n.view;
    keeps = ap (λ (v : View). v.past) n.view;
    seat = same_but_view table old new (passed (view_of old) next) before after n.view;
  }

  still : (had : HeldView) (x : PartitionView) (next : ℕ) → HasNone (view_of old) next (view_of new) → IsHeldBy (seen_as old) had → Stays had.partition x → IsStill had (seen_as new) (record { session = had.session; partition = x })
  still had x next n held stays = record {
    session = refl;
    stays = stays;
    holds = kept_held (seen_as old) (seen_as new) (record { session = had.session; partition = x }) (after.session ∙ sym before.session)
        (ap (λ (v : View). v.lines) n.view) (ap (λ (v : View). v.number) n.view) (still_held (seen_as old) had x held stays);
  }

  no_memory : (had : HeldView) (x : PartitionView) → view_of new ≡ view_of old → IsHeldBy (seen_as old) had → Stays had.partition x → (seen_as new ≡ seen_as old) × IsStill had (seen_as new) (record { session = had.session; partition = x })
  no_memory had x view held stays =
      let same : seen_as new ≡ seen_as old = same_but_view table old new (view_of old) before after view in (
        same,
        record {
          session = refl;
          stays = stays;
          holds = subst (λ (s : SeatView). IsHeldBy s (record { session = had.session; partition = x })) (sym same) (still_held (seen_as old) had x held stays);
        },
      )

  drawn : (K : Modelling) (had : HeldView) (x : PartitionView) (b : ℕ) → IsHeldBy (seen_as old) had → HasBlock (view_of old) had.partition.number b (view_of new) → Appends K had.partition (Drew (holder_of had.partition) b) None x
      → HasDrawn K (seen_as old) had b (seen_as new) (record { session = had.session; partition = x })
  drawn K had x b held has appends =
      let v : View = view_of old in let n : ℕ = v.number in let p : ℕ = had.partition.number in
      let holder : holder_of had.partition ≡ n = ap (λ (o : Option ℕ). unwrap_or o 0) held.holder in
      let drew_it : Appends K had.partition (Drew n b) None x = subst (λ (t : ℕ). Appends K had.partition (Drew t b) None x) holder appends in
      let state : x.state ≡ record had.partition.state { blocks = had.partition.state.blocks ++ b ∷ [] } = drew_is K had.partition.state n b (record { state = x.state; answer = None }) drew_it.steps in
      let note : Note = held.note in let more : Note = record { journal = note.journal; blocks = note.blocks ++ b ∷ [] } in
      let one : has.note ≡ note = same_Some has.note note (sym has.noted ∙ held.noted) in
      let view : view_of new ≡ drew v p note b = has.view ∙ (λ i. drew v p (one i) b) in
      let line : Line = record { partition = p; seen = seen_of v p; mine = mine_of v p; note = Some more } in
      let same : (view_of new).number ≡ n = ap (λ (w : View). w.number) view in record {
        fresh = has.fresh;
        within = has.within;
        next = has.next;
        session = refl;
        entry = drew_it;
        state = state;
        before = held;
        after = record {
          session = held.session ∙ before.session ∙ sym after.session;
          holder = ap (λ (s : PartitionState). s.holder) state ∙ held.holder ∙ ap Some (sym same);
          note = more;
          noted = ap (note_of (view_of new)) drew_it.number ∙ ap (λ (w : View). note_of w p) view ∙ ap (λ (l : Line). l.note) (line_here line v.lines p refl);
          journal = subst (λ (k : ℕ). Continues k (note.journal ++ Claimed k ∷ []) x.journal) (sym same)
              (subst (λ (j : List Entry). Continues n (note.journal ++ Claimed n ∷ []) j) (sym drew_it.journal) (continues_and n (note.journal ++ Claimed n ∷ []) had.partition.journal (Drew n b) held.journal refl));
          blocks = ap (λ (s : PartitionState). s.blocks) state ∙ ap (λ (bs : List ℕ). bs ++ b ∷ []) held.blocks;
        };
        seat = same_but_view table old new (drew v p note b) before after view;
      }

  pub tries : (K : Modelling) (had : HeldView) (x : PartitionView) (result : Result ℕ DrawNo) → IsHeldBy (seen_as old) had → DrawsInto K (view_of old) had.partition result (view_of new) x
      → TriesDraw K (seen_as old) had result (seen_as new) (record { session = had.session; partition = x })
  tries K had x (Ok b) held d = drawn K had x b held d.0 d.1
  tries K had x (Err (draw.Spent next)) held d = (passed_on next d.0, still had x next d.0 held d.1)
  tries K had x (Err draw.NoMemory) held d = no_memory had x d.0 held d.1

  -- the partition has a holder still
  pub tries_some : (K : Modelling) (had x : PartitionView) (result : Result ℕ DrawNo) → IsSome had.state.holder → DrawsInto K (view_of old) had result (view_of new) x → IsSome x.state.holder
  tries_some K had x (Ok b) some d = subst (λ (s : PartitionState). IsSome s.holder) (sym (drew_is K had.state (holder_of had) b (record { state = x.state; answer = None }) d.1.steps)) some
  tries_some K had x (Err (draw.Spent next)) some d = subst (λ (s : PartitionState). IsSome s.holder) (sym d.1.state) some
  tries_some K had x (Err draw.NoMemory) some d = subst (λ (s : PartitionState). IsSome s.holder) (sym d.1.state) some

-- the block is above those of the partition, as its own call asks it
pub above : (v : View) (x y : PartitionView) (p b : ℕ) (w : View) → IsNotedWith v x → Stays x y → p ≡ y.number → HasBlock v p b w → list_all (λ o. nat_lt o b) y.state.blocks ≡ true
above v x y p b w noted stays number has =
    let one : has.note ≡ noted.note = same_Some has.note noted.note (sym has.noted ∙ ap (note_of v) (number ∙ stays.number) ∙ noted.noted) in
    let blocks : y.state.blocks ≡ has.note.blocks = ap (λ (s : PartitionState). s.blocks) stays.state ∙ noted.blocks ∙ ap (λ (n : Note). n.blocks) (sym one) in
    subst (λ (bs : List ℕ). list_all (λ o. nat_lt o b) bs ≡ true) (sym blocks) (all_below has.note.blocks b has.highest)
