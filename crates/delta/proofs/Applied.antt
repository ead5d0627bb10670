-- Changes put into a store one after another: what each put requires, and where the rest leads.
use Rattle.std.proofs.Common.{◌≡◌, ℕ, ◌+◌, Bool, cond, List, drop, Option, sym, ap, subst, ◌∙◌}
use Rattle.std.specs.Prelude.{IsTrue, Some, slice_get}
use Rattle.std.specs.List.{AllByRecursion}
use Rattle.pk_base.specs.declared.entity.Entity.{Entity}
use Rattle.pk_model.specs.Tags.{owns}
use Rattle.pk_model.specs.Maps.{EntityMap, with_entity}
use Rattle.list_facts.proofs.Each.{ByRecursion-at}
use Rattle.entity_store.specs.declared.changes.Change.{Change}
use Rattle.entity_store.specs.Store.{Stored, IfHosted}
use Rattle.delta.specs.Deltas.{after, in_direction, tags_in}
use Rattle.delta.proofs.Places.{drop-next, each-at, tag-among, turned, get-in_direction, turned-tag, turned-after}

pub owned-at : (old now : List ℕ) → now ≡ old → (cs : List Change) (i : ℕ) (c : Change) → slice_get cs i ≡ Some c → AllByRecursion (λ t. IsTrue (owns old t)) (tags_in cs) → IsTrue (owns now c.tag)
owned-at old now same cs i c at each = subst (λ bs. IsTrue (owns bs c.tag)) (sym same) (ByRecursion-at (λ t. IsTrue (owns old t)) (tags_in cs) c.tag each (tag-among cs i c at))

pub hosted-at : (old now : List ℕ) → now ≡ old → (forward : Bool) (cs : List Change) (i : ℕ) (c : Change) (to : Option Entity) → slice_get cs i ≡ Some c → to ≡ cond forward c.after c.before
    → AllByRecursion (λ (d : Change). IfHosted old d.tag d.after) (in_direction forward cs) → IfHosted now c.tag to
hosted-at old now same forward cs i c to at is each =
    let there = each-at (λ (d : Change). IfHosted old d.tag d.after) (in_direction forward cs) i (turned forward c) (get-in_direction forward cs i c at) each in
    let here = subst (λ t. IfHosted old t (turned forward c).after) (turned-tag forward c) there in
    subst (λ bs. IfHosted bs c.tag to) (sym same) (subst (IfHosted old c.tag) (turned-after forward c ∙ sym is) here)

-- the blocks are as they were
pub state-put : (old now new : Stored) (m : EntityMap) → now.blocks ≡ old.blocks → new ≡ record now { map = m } → new ≡ record old { map = new.map }
state-put old now new m same put = put ∙ (λ i. record { blocks = same i; map = ap (λ (s : Stored). s.map) (sym put) i })

-- after the put the rest leads where it did with the change
pub leads-next : (m n : EntityMap) (forward : Bool) (cs : List Change) (i : ℕ) (c : Change) (to : Option Entity) → slice_get cs i ≡ Some c → to ≡ cond forward c.after c.before → n ≡ with_entity m c.tag to
    → after n (drop (i + 1) (in_direction forward cs)) ≡ after m (drop i (in_direction forward cs))
leads-next m n forward cs i c to at is put =
    let rest = drop (i + 1) (in_direction forward cs) in
    let same : n ≡ with_entity m (turned forward c).tag (turned forward c).after = put ∙ (λ k. with_entity m (sym (turned-tag forward c) k) ((is ∙ sym (turned-after forward c)) k)) in
    ap (λ l. after l rest) same ∙ ap (after m) (sym (drop-next (in_direction forward cs) i (turned forward c) (get-in_direction forward cs i c at)))
