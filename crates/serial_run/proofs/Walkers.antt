-- The journals of a world after one more entry, and the walkers of threads over them.
use Rattle.std.proofs.Common.{◌≡◌, ℕ, ◌-◌, ◌≤◌, [], ◌∷◌, ◌++◌, length, get_or, Some, sym, ap, ◌∙◌}
use Rattle.std.specs.Prelude.{◌≢◌, slice_set}
use Rattle.std.proofs.lemmas.List.{map-set}
use Rattle.std.proofs.Math.ListN.{get_or-map}
use Rattle.pk_base.specs.declared.act.Entry.{Entry}
use Rattle.pk_model.specs.State.{PartitionState}
use Rattle.pk_model.specs.Modelling.{Modelling, IsModeller}
use Rattle.pk_model.specs.Replay.{replay, thread_of}
use Rattle.world_core.specs.World.{WorldPartition, WorldState, opened, partition_at, with_entry}
use Rattle.world_core.specs.Session.{IsSession, journals_of}
use Rattle.world_core.proofs.Sessions.{replays_at}
use Rattle.script_text.specs.Walk.{walker_of}
use Rattle.script_thread.specs.Journals.{with_entries}
use Rattle.script_thread.proofs.Journals.{walker_stays_by}

-- the journal of partition p is found in its place
found : (w : WorldState) (p : ℕ) → get_or (journals_of w) (p - 1) [] ≡ (partition_at w p).journal
found w p = get_or-map (λ (q : WorldPartition). q.journal) w.partitions (p - 1) (opened p)

-- and the state of the partition is its replay
pub replayed : (K : Modelling) → IsModeller K → (w : WorldState) (p : ℕ) → IsSession K w → 1 ≤ p → p ≤ length w.partitions → replay K p (get_or (journals_of w) (p - 1) []) ≡ Some (partition_at w p).state
replayed K good w p session first last = ap (replay K p) (found w p) ∙ replays_at K good w p session first last

-- One journal has the entry more.
pub journals_grow : (w : WorldState) (p : ℕ) (e : Entry) (s : PartitionState) → journals_of (with_entry w p e s) ≡ with_entries (journals_of w) p (e ∷ [])
journals_grow w p e s =
    map-set (λ (q : WorldPartition). q.journal) w.partitions (p - 1) (record { state = s; journal = (partition_at w p).journal ++ e ∷ [] })
    ∙ ap (λ j. slice_set (journals_of w) (p - 1) (j ++ e ∷ [])) (sym (found w p))

-- An entry of another thread changes nothing for thread t.
pub walker_stays : (K : Modelling) (t : ℕ) (w : WorldState) (p : ℕ) (e : Entry) (s : PartitionState) → thread_of e ≢ t → walker_of K t (journals_of (with_entry w p e s)) ≡ walker_of K t (journals_of w)
walker_stays K t w p e s other = ap (walker_of K t) (journals_grow w p e s) ∙ walker_stays_by K t p (journals_of w) (e ∷ []) (other, tt)
