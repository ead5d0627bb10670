-- What a split and a join make of root.
use Rattle.std.proofs.Common.{◌≡◌, ap, sym, subst, refl, ◌∙◌}
use Rattle.partition.specs.Partition.{PartitionView}
use Rattle.session_table.specs.declared.view.View.{View}
use Rattle.session_table.specs.declared.seat.Seat.{Seat}
use Rattle.session_table.specs.declared.table.SessionTable.{SessionTable}
use Rattle.session_table.specs.Faces.{Face, face, view_of, session_of, name_of, IsSeatOf}
use Rattle.session_table.specs.Calls.{Makes as MakesFace, Joins as JoinsFace}
use Rattle.session_table.specs.Steps.{made_one, joined_by}
use Rattle.pk_session.specs.Inside.{named_of, AreEmpty, IsBetweenCalls}
use Rattle.pk_session.specs.Seats.{Joins}
use Rattle.pk_session.proofs.Resting.{named_session}
use Rattle.pk_session.proofs.Locking.{seen_as}

module _ (table : SessionTable PartitionView) where
  -- root knows more, and has its slots as empty as they were
  knows_more : (old new : Seat PartitionView) (w : View) → w.pending ≡ (view_of old).pending → IsBetweenCalls old.place.me.0 old.place.me.1 → face named_of new ≡ record (face named_of old) { view = w } → IsSeatOf named_of table new
      → IsBetweenCalls new.place.me.0 new.place.me.1
  knows_more old new w same b is seat = record {
    calm = ap (λ (f : Face). f.view.pending) is ∙ same ∙ b.calm;
    carries = seat.carries;
    empty = subst (λ (f : Face). AreEmpty f.slots) (sym is) b.empty;
  }

  pub made_between : (old new : Seat PartitionView) → IsBetweenCalls old.place.me.0 old.place.me.1 → MakesFace (face named_of old) (face named_of new) → IsSeatOf named_of table new → IsBetweenCalls new.place.me.0 new.place.me.1
  made_between old new b is seat = knows_more old new (made_one (view_of old)) refl b is seat

  pub joined_between : (old new : Seat PartitionView) (child : View) → IsBetweenCalls old.place.me.0 old.place.me.1 → JoinsFace (face named_of old) child (face named_of new) → IsSeatOf named_of table new → IsBetweenCalls new.place.me.0 new.place.me.1
  joined_between old new child b told seat = knows_more old new (joined_by (view_of old) child) refl b told.root seat

  pub joined : (old new child : Seat PartitionView) → session_of old ≡ name_of table → IsSeatOf named_of table new → JoinsFace (face named_of old) (view_of child) (face named_of new) → Joins (seen_as old) (seen_as child) (seen_as new)
  joined old new child session seat told = record {
    seen = told.seen;
    both = told.both;
    mine = told.mine;
    notes = told.notes;
    past = ap (λ (f : Face). f.view.past) told.root;
    root = λ i. record { session = (named_session table new seat ∙ sym session) i; view = (told.root i).view };
  }
