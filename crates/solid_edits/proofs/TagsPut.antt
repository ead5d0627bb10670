-- The tags that a call may put, as its row names them.
use Rattle.std.proofs.Common.{◌≡◌, ◌≢◌, List, [], ◌∷◌, ◌++◌, length, take, Some, sym, ap, subst, ◌∙◌, length-append, arith}
use Rattle.std.specs.Prelude.{Contains}
use Rattle.std.specs.List.{AllByRecursion, flat_map}
use Rattle.std.proofs.lemmas.List.Elements.{Contains-append_right}
use Rattle.pk_base.specs.declared.tag.Tag.{Tag}
use Rattle.pk_base.specs.declared.call.Call.{Call}
use Rattle.pk_base.specs.declared.entity.Class.{Class}
use Rattle.pk_base.specs.declared.entity.Class.TheVariants as class
use Rattle.pk_model.specs.Apart.{NoRepeats}
use Rattle.pk_model.specs.Maps.{EntityMap}
use Rattle.solid_model.specs.Items.{Shape}
use Rattle.list_facts.proofs.Elements.{not_in_nil}
use Rattle.solid_model.proofs.lists.Neighbours.{head_or}
use Rattle.solid_model.specs.Rings.{ends_of, last_of}
use Rattle.solid_model.specs.Room.{dying, puts_of, tags_changed, tags_put}
use Rattle.solid_model.specs.Rows.{cost_of}
use Rattle.solid_model.specs.Calls.{row_of}
use Rattle.solid_model.specs.Shapes.{shape_of}
use Rattle.solid_model.specs.Sound.{IsSound, class_at}
use Rattle.solid_calls.specs.Attributes.{attributes_on}
use Rattle.solid_calls.proofs.Deaths.{length-dying}
use Rattle.solid_calls.proofs.RowKinds.{IsChanging, cost-changing}
use Rattle.solid_edits.specs.Deaths.{with_attributes}
use Rattle.solid_edits.proofs.Stages.{Within}

-- what the call changes is put
pub within-changed : (S : Shape) (c : Call) (tags us : List Tag) → tags_changed S c ≡ us → Within us (tags_put S c tags)
within-changed S c tags us is t k = Contains-append_right (take (cost_of (row_of S c)) tags) (tags_changed S c) t (subst (λ (ts : List Tag). Contains ts t) (sym is) k)

-- and is all, where it takes no tags
pub puts-changed : (S : Shape) (c : Call) (us : List Tag) → IsChanging (row_of S c) → tags_changed S c ≡ us → puts_of S c ≡ length us
puts-changed S c us changes is =
    let cost = cost-changing (row_of S c) changes in
    let same : length (tags_changed S c) ≡ length us = ap length is in
    omega (arith, cost, same)

-- ---- fins beside an edge

-- the ends of a run are what comes after the one before it, and before the one after it
pub ends-beside : (m : Tag) (A more : List Tag) (next prev : Tag) → next ≡ head_or m (A ++ more) → prev ≡ last_of m A → (t : Tag) → Contains (ends_of A) t → Contains (next ∷ prev ∷ []) t
ends-beside m [] more next prev after ahead t k = absurd (not_in_nil t k)
ends-beside m (g ∷ gs) more next prev after ahead t k = subst (λ ts. Contains ts t) (λ i. sym after i ∷ sym ahead i ∷ []) k

-- ---- what dies

-- each of these is live and may have attributes
abbrev pub AreOwners : Shape → List Tag → Type 0
AreOwners S ts = AllByRecursion (λ t. (c : Class) × (class_at S t ≡ Some c) × (c ≢ class.Attr)) ts

pub length-with_attributes : (m : EntityMap) (ts : List Tag) → IsSound m → NoRepeats ts → AreOwners (shape_of m) ts → length (with_attributes m ts) ≡ length (dying (shape_of m) ts)
length-with_attributes m ts sound once owners = length-append ts (flat_map (attributes_on m) ts) ∙ sym (length-dying m ts sound once owners)
