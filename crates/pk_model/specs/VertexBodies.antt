-- The modeller whose one call is `mvfs`, which makes a vertex body (Mäntylä, An Introduction to
-- Solid Modeling, 1988).
use Rattle.std.specs.Prelude.{ℕ, ℤ, pos, negsuc, int_le, Bool, not, ◌&&◌, List, [], ◌∷◌, take, find, Option, Some, None, Result, Ok, Err}
use Rattle.std.specs.FinMap.{insert}
use Rattle.pk_base.specs.Blocks.{tag}
use Rattle.pk_base.specs.declared.tag.Tag.{Tag}
use Rattle.pk_base.specs.declared.entity.Point.{Point}
use Rattle.pk_base.specs.declared.entity.Triple.{Triple}
use Rattle.pk_base.specs.declared.entity.Entity.TheVariants.{Body, Shell, Face, Loop, Vertex}
use Rattle.pk_base.specs.declared.call.Call.{Call}
use Rattle.pk_base.specs.declared.call.Call.TheVariants.{Mvfs, Mev, Mef, Mekr, Mfkrh, Kvfs, Kev, Kef, Kemr, Kfmrh, RingMove, Lamina, Block, Prism, Sweep, Move, Turn, Delete, SetAttr, DropAttr, Ask, Kids, Ring, Counts, Bodies}
use Rattle.pk_base.specs.declared.act.Reply.TheVariants.{Made}
use Rattle.pk_base.specs.declared.refusal.Refusal.{Refusal}
use Rattle.pk_base.specs.declared.refusal.Refusal.TheVariants.{NoSuchTag, OutOfRange}
use Rattle.pk_model.specs.Tags.{tag_at}
use Rattle.pk_model.specs.Maps.{EntityMap}
use Rattle.pk_model.specs.Modelling.{Modelling, NamesLiveTags, NoneOwnsItself, Outcome}

-- a coordinate is from -1,048,576 to 1,048,576
abbrev pub is_coordinate : ℤ → Bool
is_coordinate v = int_le (negsuc 1048575) v && int_le v (pos 1048576)

-- the first of x, y and z that is no coordinate
abbrev pub first_outside : Triple → Option ℤ
first_outside at = find (λ v. not (is_coordinate v)) (at.x ∷ at.y ∷ at.z ∷ [])

-- A body with q 1 and one face, whose one loop has a lone vertex at the point. The tags are the
-- body's, the shell's, the face's, the loop's and the vertex's.
abbrev pub with_vertex_body : EntityMap → Point → Tag → Tag → Tag → Tag → Tag → EntityMap
with_vertex_body m point body shell face loop_ vertex =
    let m1 = insert m body (Body shell) in
    let m2 = insert m1 shell (Shell body (pos 1)) in
    let m3 = insert m2 face (Face shell loop_) in
    let m4 = insert m3 loop_ (Loop face None (Some vertex)) in
    insert m4 vertex (Vertex body point)

abbrev pub point_of : Triple → Point
point_of at = record { x = at.x; y = at.y; z = at.z }

abbrev pub mvfs : EntityMap → Triple → List Tag → Outcome
mvfs m at tags = record {
  map = with_vertex_body m (point_of at) (tag_at tags 0) (tag_at tags 1) (tag_at tags 2)
      (tag_at tags 3) (tag_at tags 4);
  reply = Made (take 5 tags);
}

abbrev pub mvfs_step : EntityMap → Triple → List Tag → Option ℤ → Result Outcome Refusal
mvfs_step m at tags None = Ok (mvfs m at tags)
mvfs_step m at tags (Some v) = Err (OutOfRange v)

abbrev pub mvfs_cost : Option ℤ → ℕ
mvfs_cost None = 5
mvfs_cost (Some v) = 0

-- where the call makes a vertex body; nothing for the calls that are not done yet
abbrev pub place_of : Call → Option Triple
place_of (Mvfs at) = Some at
place_of (Mev end at) = None
place_of (Mef from to) = None
place_of (Mekr keep ring) = None
place_of (Mfkrh ring) = None
place_of (Kvfs body) = None
place_of (Kev fin) = None
place_of (Kef fin) = None
place_of (Kemr fin) = None
place_of (Kfmrh keep kill) = None
place_of (RingMove ring to) = None
place_of (Lamina z corners) = None
place_of (Block at size) = None
place_of (Prism z h corners) = None
place_of (Sweep face by) = None
place_of (Move body by) = None
place_of (Turn body axis turns) = None
place_of (Delete body) = None
place_of (SetAttr owner name value) = None
place_of (DropAttr owner name) = None
place_of (Ask tag) = None
place_of (Kids tag) = None
place_of (Ring ring) = None
place_of (Counts body) = None
place_of Bodies = None

-- a call that is not done yet is refused: no script can ask for one
abbrev pub step_at : EntityMap → List Tag → Option Triple → Result Outcome Refusal
step_at m tags (Some at) = mvfs_step m at tags (first_outside at)
step_at m tags None = Err (NoSuchTag (tag 0))

abbrev pub cost_at : Option Triple → ℕ
cost_at (Some at) = mvfs_cost (first_outside at)
cost_at None = 0

abbrev pub vertex_step : EntityMap → Call → List Tag → Result Outcome Refusal
vertex_step m c tags = step_at m tags (place_of c)

abbrev pub vertex_cost : EntityMap → Call → ℕ
vertex_cost m c = cost_at (place_of c)

-- a map is sound where it names live tags alone and none of its entities is its own owner
pub record IsClosed (m : EntityMap) : Type 0 where
  pub names : NamesLiveTags m
  pub owners : NoneOwnsItself m

abbrev pub vertex_bodies : Modelling
vertex_bodies = record {
  sound = IsClosed;
  cost = vertex_cost;
  changes = vertex_cost;
  list = vertex_cost;
  step = vertex_step;
}
