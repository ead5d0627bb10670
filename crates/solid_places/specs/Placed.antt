-- What is read of an operand: what solid_model says of it (its Places), without the list of fins.
use Rattle.std.specs.Prelude.{Option, Result, Ok, Err}
use Rattle.pk_base.specs.declared.tag.Tag.{Tag}
use Rattle.pk_base.specs.declared.refusal.Refusal.{Refusal}
use Rattle.solid_model.specs.Items.{Shape}
use Rattle.solid_model.specs.Rings.{first_tag}
use Rattle.solid_model.specs.Owners.{owner_in, body_of}
use Rattle.solid_model.specs.Places as place
use Rattle.solid_model.specs.Places.{outer_at}
use Rattle.solid_places.specs.declared.faces.PlacedFace.{PlacedFace}
use Rattle.solid_places.specs.declared.loops.PlacedLoop.{PlacedLoop}
use Rattle.solid_places.specs.declared.fins.PlacedFin.{PlacedFin}
use Rattle.solid_places.specs.declared.ends.End.{End}

-- what is read by f, or the same refusal
abbrev pub placed_by : {A B : Type 0} → (A → B) → Result A Refusal → Result B Refusal
placed_by f (Ok a) = Ok (f a)
placed_by f (Err e) = Err e

abbrev pub as_placed_face : place.PlacedFace → PlacedFace
as_placed_face p = record { shell = p.shell; body = p.body; outer = p.outer }

abbrev pub as_placed_loop : place.PlacedLoop → PlacedLoop
as_placed_loop p = record { face = p.face; outer = p.outer; shell = p.shell; body = p.body }

abbrev pub as_placed_fin : place.PlacedFin → PlacedFin
as_placed_fin p = record {
  mate = p.mate;
  edge = p.edge;
  vertex = p.vertex;
  loop_ = p.loop_;
  face = p.face;
  shell = p.shell;
  body = p.body;
}

-- with the outer loop of the face, and the first of the fins
abbrev pub as_placed_end : Shape → place.End → End
as_placed_end S p = record {
  vertex = p.vertex;
  loop_ = p.loop_;
  face = p.face;
  outer = outer_at S p.face;
  body = p.body;
  first = first_tag p.fins;
}

-- where a loop stands, told from its tag
abbrev pub place_of_loop : Shape → Tag → PlacedLoop
place_of_loop S l = record {
  face = owner_in S l;
  outer = outer_at S (owner_in S l);
  shell = owner_in S (owner_in S l);
  body = body_of S l;
}

-- an end at this vertex of a loop
abbrev pub place_of_end : Shape → Tag → Tag → Option Tag → End
place_of_end S l vertex first = record {
  vertex = vertex;
  loop_ = l;
  face = owner_in S l;
  outer = outer_at S (owner_in S l);
  body = body_of S l;
  first = first;
}
