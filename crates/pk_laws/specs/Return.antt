-- A mark, what was done since it was made, and the way back to it.
use Rattle.std.specs.Prelude.{◌≡◌, ℕ, List, [], ◌∷◌, ◌++◌, Some, Ok, Err, Contains}
use Rattle.pk_base.specs.declared.tag.Tag.{Tag}
use Rattle.pk_base.specs.declared.act.Act.TheVariants.{Mark, Goto, Unmark}
use Rattle.pk_base.specs.declared.act.Entry.{Entry}
use Rattle.pk_base.specs.declared.act.Entry.TheVariants.{Did}
use Rattle.pk_base.specs.declared.act.Reply.{Reply}
use Rattle.pk_base.specs.declared.act.Reply.TheVariants.{Made}
use Rattle.pk_base.specs.declared.refusal.Refusal.{Refusal}
use Rattle.pk_model.specs.State.{PartitionState}
use Rattle.pk_model.specs.Modelling.{Modelling}
use Rattle.pk_model.specs.Step.{step}
use Rattle.pk_model.specs.Replay.{replay}

-- In partition p the entries `before` lead to the state `stood`, in which a thread makes the mark
-- m. This and the entries `between` lead on to the state `left`.
pub record WasMade (K : Modelling) (p : ℕ) (before between : List Entry) (m : Tag) : Type 0 where
  pub maker : ℕ
  pub stood : PartitionState
  pub marked : PartitionState
  pub left : PartitionState
  pub reaches : replay K p before ≡ Some stood
  pub made : step K stood (Did maker Mark)
      ≡ Some (record { state = marked; answer = Some (Ok (Made (m ∷ []))) })
  pub goes_on : replay K p (before ++ Did maker Mark ∷ between) ≡ Some left

-- an entry asks that the mark m be deleted
abbrev pub IsUnmarked : Tag → List Entry → Type 0
IsUnmarked m entries = (t : ℕ) × Contains entries (Did t (Unmark m))

-- in the state `left` thread t goes to the mark m and is not refused: it reaches this state and
-- gets this answer
abbrev pub GoesTo : Modelling → PartitionState → ℕ → Tag → PartitionState → Reply → Type 0
GoesTo K left t m reached answer =
    step K left (Did t (Goto m)) ≡ Some (record { state = reached; answer = Some (Ok answer) })

-- in the state `left` thread t goes to the mark m and is refused: nothing changes
abbrev pub IsRefused : Modelling → PartitionState → ℕ → Tag → Refusal → Type 0
IsRefused K left t m refusal =
    step K left (Did t (Goto m)) ≡ Some (record { state = left; answer = Some (Err refusal) })
