-- The worked examples, computed over shapes.
use Rattle.std.proofs.Common.{◌≡◌, true, ◌∷◌, [], None, refl, ◌∙◌}
use Rattle.pk_model.specs.Tags.{tags_of, tags_of_block}
use Rattle.solid_model.specs.Calls.{row_of}
use Rattle.solid_laws.specs.WorkedCalls.{answers}
use Rattle.solid_laws.specs.WorkedTriangle.{triangle, triangle_answers}
use Rattle.solid_laws.specs.WorkedRings.{rings, rings_answers}
use Rattle.solid_laws.specs.WorkedBlocks.{queries, queries_answers, hole, hole_answers}
use Rattle.solid_laws.specs.WorkedPolygons.{limits, limits_answers, largest, largest_answers, plate, plate_answers}
use Rattle.solid_laws.proofs.OnShapes.{are_read, answers_on, answers-on_shapes}

-- ---- triangle

triangle_read : are_read row_of [] (1 ∷ []) 1 triangle ≡ true
unfolding tags_of tags_of_block
triangle_read = refl

triangle_on_shapes : None ∷ answers_on row_of [] (1 ∷ []) 1 triangle ≡ triangle_answers
unfolding tags_of tags_of_block
triangle_on_shapes = refl

pub triangle_answered : answers triangle ≡ triangle_answers
triangle_answered = answers-on_shapes triangle triangle_read ∙ triangle_on_shapes

-- ---- rings

rings_read : are_read row_of [] (1 ∷ []) 1 rings ≡ true
unfolding tags_of tags_of_block
rings_read = refl

rings_on_shapes : None ∷ answers_on row_of [] (1 ∷ []) 1 rings ≡ rings_answers
unfolding tags_of tags_of_block
rings_on_shapes = refl

pub rings_answered : answers rings ≡ rings_answers
rings_answered = answers-on_shapes rings rings_read ∙ rings_on_shapes

-- ---- queries

queries_read : are_read row_of [] (1 ∷ []) 1 queries ≡ true
unfolding tags_of tags_of_block
queries_read = refl

queries_on_shapes : None ∷ answers_on row_of [] (1 ∷ []) 1 queries ≡ queries_answers
unfolding tags_of tags_of_block
queries_on_shapes = refl

pub queries_answered : answers queries ≡ queries_answers
queries_answered = answers-on_shapes queries queries_read ∙ queries_on_shapes

-- ---- hole

hole_read : are_read row_of [] (1 ∷ []) 1 hole ≡ true
unfolding tags_of tags_of_block
hole_read = refl

hole_on_shapes : None ∷ answers_on row_of [] (1 ∷ []) 1 hole ≡ hole_answers
unfolding tags_of tags_of_block
hole_on_shapes = refl

pub hole_answered : answers hole ≡ hole_answers
hole_answered = answers-on_shapes hole hole_read ∙ hole_on_shapes

-- ---- limits

limits_read : are_read row_of [] (1 ∷ []) 1 limits ≡ true
unfolding tags_of tags_of_block
limits_read = refl

limits_on_shapes : None ∷ answers_on row_of [] (1 ∷ []) 1 limits ≡ limits_answers
unfolding tags_of tags_of_block
limits_on_shapes = refl

pub limits_answered : answers limits ≡ limits_answers
limits_answered = answers-on_shapes limits limits_read ∙ limits_on_shapes

-- ---- largest

largest_read : are_read row_of [] (1 ∷ []) 1 largest ≡ true
unfolding tags_of tags_of_block
largest_read = refl

largest_on_shapes : None ∷ answers_on row_of [] (1 ∷ []) 1 largest ≡ largest_answers
unfolding tags_of tags_of_block
largest_on_shapes = refl

pub largest_answered : answers largest ≡ largest_answers
largest_answered = answers-on_shapes largest largest_read ∙ largest_on_shapes

-- ---- plate

plate_read : are_read row_of [] (1 ∷ []) 1 plate ≡ true
unfolding tags_of tags_of_block
plate_read = refl

plate_on_shapes : None ∷ answers_on row_of [] (1 ∷ []) 1 plate ≡ plate_answers
unfolding tags_of tags_of_block
plate_on_shapes = refl

pub plate_answered : answers plate ≡ plate_answers
plate_answered = answers-on_shapes plate plate_read ∙ plate_on_shapes
