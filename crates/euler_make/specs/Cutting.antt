-- Fins of one loop behind each of which a face is cut off: from each to the next one, and from the
-- last one to the fin that the first cut leaves.
use Rattle.std.specs.Prelude.{◌≡◌, ℕ, ◌+◌, ◌*◌, ◌≤◌, List, [], ◌∷◌, ◌++◌, length, map, take, nat_lt, if◌then◌else◌, None, Some, slice_index_or}
use Rattle.std.specs.List.{range_with_len}
use Rattle.pk_base.specs.Blocks.{tag}
use Rattle.pk_base.specs.declared.tag.Tag.{Tag}
use Rattle.pk_model.specs.Apart.{NoRepeats}
use Rattle.pk_model.specs.Tags.{tag_at}
use Rattle.entity_store.specs.Store.{StoreView}
use Rattle.entity_store.specs.Room.{HasRoomForThese, PutsAmong}
use Rattle.solid_model.specs.Items.{Shape, item_at}
use Rattle.solid_model.specs.Items.Item.{Loop}
use Rattle.solid_model.specs.Rings.{written_from}
use Rattle.solid_model.specs.Places.{fins_at, start_at}
use Rattle.solid_model.specs.Folds.{after_cuts}
use Rattle.solid_model.specs.Links.{links}
use Rattle.solid_model.specs.Shapes.{shape_of}
use Rattle.solid_model.specs.Sound.{IsSound}

-- these tags stand in this order among those, maybe with others between them
abbrev pub Stand : List Tag → List Tag → Type 0
Stand [] ts = Unit {0}
Stand (c ∷ cs) ts =
    (ahead : List Tag) × (behind : List Tag) × (ts ≡ ahead ++ c ∷ behind) × Stand cs behind

-- In the loop l stands the fin c, and behind it come these fins, in this order, before c comes
-- again.
pub record StandFrom (S : Shape) (l c : Tag) (cs : List Tag) : Type 0 where
  pub face : Tag
  pub list : List Tag
  pub loop_is : item_at S l ≡ Some (Loop face list None)
  pub rest : List Tag
  pub round : written_from c list ≡ c ∷ rest
  pub stand : Stand cs rest

abbrev pub StandInLoop : Shape → Tag → List Tag → Type 0
StandInLoop S l [] = ⊥
StandInLoop S l (c ∷ cs) = StandFrom S l c cs

-- the tags that are put for n fins of the loop l, with these next
abbrev pub tags_cut : Shape → Tag → ℕ → List Tag → List Tag
tags_cut S l n tags = take (5 * n) tags ++ l ∷ fins_at S l

-- The map is sound. The fins, two or more, stand in this order in one loop, and start at different
-- vertices. There is room for what is put.
pub record MayCut (s : StoreView) (fins tags : List Tag) : Type 0 where
  pub sound : IsSound s.state.map
  pub loop_ : Tag
  pub stand : StandInLoop (shape_of s.state.map) loop_ fins
  pub two : 2 ≤ length fins
  pub apart : NoRepeats (map (start_at (shape_of s.state.map)) fins)
  pub room : HasRoomForThese s.recording
      (tags_cut (shape_of s.state.map) loop_ (length fins) tags)

-- the shape with a face cut off behind each of the fins
abbrev pub sides_cut : Shape → List Tag → List Tag → Shape
sides_cut S fins tags =
    (after_cuts (fins ++ tag_at tags 4 ∷ []) (record { shape = S; tags = tags })).shape

-- The map is that of the shape with the faces cut off, which is sound, and nothing else of the
-- state has changed; no other tags were put than those that are taken, the loop's, and its fins.
pub record HasCut (old : StoreView) (fins tags : List Tag) (new : StoreView) : Type 0 where
  pub state : new.state ≡ record old.state {
    map = links (sides_cut (shape_of old.state.map) fins tags);
  }
  pub sound : IsSound new.state.map
  pub puts : (l : Tag) → StandInLoop (shape_of old.state.map) l fins
      → PutsAmong (tags_cut (shape_of old.state.map) l (length fins) tags) old new

-- of what is listed from a place on, in fours, the last one of each of n fours
abbrev pub backs_listed : List Tag → ℕ → ℕ → List Tag
backs_listed listed place n =
    map (λ i. slice_index_or listed (place + 4 * i + 3) (tag 0)) (range_with_len 0 n)

-- where the fin is listed to which a cut leads: the last one of the next four, or, for the last
-- cut, the last one of the five that the first cut takes
abbrev pub place_of_next : ℕ → ℕ → ℕ → ℕ
place_of_next place n i = if nat_lt (i + 1) n then place + 4 * i + 7 else (place + 4 * i + 8)
