-- Cyclic lists of fins. A cyclic list may be written from any of its fins.
use Rattle.std.specs.Prelude.{Bool, nat_lt, if◌then◌else◌, Option, Some, None, unwrap_or, List, [], ◌∷◌, ◌++◌, drop}
use Rattle.std.specs.List.{list_any}
use Rattle.pk_base.specs.Entity.{same_tag}
use Rattle.pk_base.specs.declared.tag.Tag.{Tag}
use Rattle.solid_model.specs.Items.{Item}
use Rattle.solid_model.specs.Items.Item.{Loop}

abbrev pub is_among : Tag → List Tag → Bool
is_among t ts = list_any (λ u. same_tag u t) ts

-- the tags that stand before t: all of them where t is not among them
abbrev pub before : Tag → List Tag → List Tag
before t [] = []
before t (u ∷ us) = if same_tag u t then [] else (u ∷ before t us)

-- t and the tags that stand after it
abbrev pub from : Tag → List Tag → List Tag
from t [] = []
from t (u ∷ us) = if same_tag u t then (u ∷ us) else from t us

-- the cyclic list, written from t
abbrev pub written_from : Tag → List Tag → List Tag
written_from t ring = from t ring ++ before t ring

abbrev pub lesser : Tag → Tag → Tag
lesser t u = if nat_lt u.0 t.0 then u else t

-- the least of t and these
abbrev pub least_of : Tag → List Tag → Tag
least_of t [] = t
least_of t (u ∷ us) = least_of (lesser t u) us

-- the cyclic list, written from its least tag
abbrev pub from_least : List Tag → List Tag
from_least [] = []
from_least (t ∷ ts) = written_from (least_of t ts) (t ∷ ts)

abbrev pub first_tag : List Tag → Option Tag
first_tag [] = None
first_tag (t ∷ ts) = Some t

-- the last tag, or t where there is none
abbrev pub last_of : Tag → List Tag → Tag
last_of t [] = t
last_of t (u ∷ us) = last_of u us

-- the first and the last tag of a run; none where it is empty
abbrev pub ends_of : List Tag → List Tag
ends_of [] = []
ends_of (t ∷ ts) = t ∷ last_of t ts ∷ []

-- the neighbours of f in the cyclic list: of a list of one tag, itself
abbrev pub next_in : List Tag → Tag → Tag
next_in ring f = unwrap_or (first_tag (drop 1 (written_from f ring))) f

abbrev pub previous_in : List Tag → Tag → Tag
previous_in ring f = last_of f (written_from f ring)

-- ---- each with the next

abbrev pub neighbours_from : {A : Type 0} → A → A → List A → List (A × A)
neighbours_from first x [] = (x, first) ∷ []
neighbours_from first x (y ∷ ys) = (x, y) ∷ neighbours_from first y ys

-- each of a cyclic list with the one that comes next, the last one with the first
abbrev pub neighbours : {A : Type 0} → List A → List (A × A)
neighbours [] = []
neighbours (x ∷ xs) = neighbours_from x x xs

-- ---- the loops that have them

-- a loop of these fins, one or more, written from any of them
abbrev pub ring_of : Tag → List Tag → Item
ring_of face fins = Loop face (from_least fins) None

-- a loop of these fins, or with this lone vertex where there are none
abbrev pub ring_or_lone : Tag → List Tag → Tag → Item
ring_or_lone face [] vertex = Loop face [] (Some vertex)
ring_or_lone face (f ∷ fins) vertex = ring_of face (f ∷ fins)
