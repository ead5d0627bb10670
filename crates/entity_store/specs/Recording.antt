-- What is recorded of a store since a recorder was lent: what each tag that was put named first,
-- and of how many tags there is room to record it.
use Rattle.std.specs.Prelude.{◌≡◌, ℕ, ◌+◌, ◌-◌, ◌≤◌, Bool, ◌||◌, IsTrue, nat_lt, if◌then◌else◌, List, [], ◌∷◌, ◌++◌, length, map, Option, None, Some, refl}
use Rattle.std.specs.List.{list_any}
use Rattle.std.specs.FinMap.{get}
use Rattle.std.specs.Coded.{Coded, code_by, coded×, coded_list, coded_ℕ, coded_option}
use Rattle.pk_base.specs.contracts.entity.Entity as entity
use Rattle.pk_base.specs.Blocks.{tag}
use Rattle.pk_base.specs.Entity.{same_tag}
use Rattle.pk_base.specs.declared.tag.Tag.{Tag}
use Rattle.pk_base.specs.declared.entity.Entity.{Entity}
use Rattle.pk_model.specs.Maps.{EntityMap, with_entity}
use Rattle.pk_model.specs.Codes.{tag_code}
use Rattle.pk_model.specs.Apart.{NoRepeats}
use Rattle.entity_store.specs.Changes.{same_value}
use Rattle.entity_store.specs.declared.changes.Change.{Change}

pub record Recording : Type 0 where
  -- in the order of the first puts
  pub first : List (Tag × Option Entity)
  pub room : ℕ

abbrev pub recording_code : Coded Recording
recording_code =
    code_by (List (Tag × Option Entity) × ℕ)
    (coded× (coded_list (coded× tag_code (coded_option entity.the_row.coded))) coded_ℕ)
    (λ r. (r.first, r.room)) (λ p. record { first = p.0; room = p.1 }) (λ _. refl)

-- nothing, and no room for more
abbrev pub nothing_recorded : Recording
nothing_recorded = record { first = []; room = 0 }

-- the tag was put
abbrev pub has_put : List (Tag × Option Entity) → Tag → Bool
has_put first t = list_any (λ p. same_tag p.0 t) first

-- with what this tag named, where it was not put before
abbrev pub recorded_put : List (Tag × Option Entity) → Tag → Option Entity
    → List (Tag × Option Entity)
recorded_put first t before = if has_put first t then first else first ++ (t, before) ∷ []

-- the map as it was, with these values put back at their tags
abbrev pub put_back : EntityMap → List (Tag × Option Entity) → EntityMap
put_back m [] = m
put_back m (p ∷ ps) = with_entity (put_back m ps) p.0 p.1

-- of how many tags more the first value may be recorded
abbrev pub room_left : Recording → ℕ
room_left r = r.room - length r.first

-- the tag may be put: it was put before, or there is room to record it
abbrev pub HasRoomFor : Recording → Tag → Type 0
HasRoomFor r t = IsTrue (has_put r.first t || nat_lt (length r.first) r.room)

-- how a tag has changed from this first value to what the map has, where it did
abbrev pub change_of : EntityMap → Tag × Option Entity → Option Change
change_of m p =
    if same_value p.1 (get m p.0) then None
    else Some (record { tag = p.0; before = p.1; after = get m p.0 })

-- ---- how it is kept: by the numbers of the tags

abbrev pub first_values : List (ℕ × Option Entity) → List (Tag × Option Entity)
first_values entries = map (λ e. (tag e.0, e.1)) entries

-- no tag stands twice, and there is room for the first values of the tags that may still be put,
-- and for the changes of all
pub record IsRecording (room : ℕ) (entries : List (ℕ × Option Entity)) (more : ℕ)
    (changes : List Change) (capacity : ℕ) : Type 0 where
  pub once : NoRepeats (map (λ p. p.0) (first_values entries))
  pub within : length entries ≤ room
  pub enough : room ≤ length entries + more
  pub none_yet : changes ≡ []
  pub ready : room ≤ capacity
