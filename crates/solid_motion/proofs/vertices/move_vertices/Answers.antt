use Rattle.std.proofs.Common.{◌∙◌, Some, sym, arith, rules}
use Rattle.pk_base.specs.declared.tag.Tag.{Tag}
use Rattle.pk_base.specs.declared.entity.Point.{Point}
use Rattle.entity_store.proofs.Room.{puts-wider, room-part}
use Rattle.solid_model.specs.Room.{vertices_in_body}
use Rattle.solid_model.specs.Shapes.{shape_of}
use Rattle.solid_motion.specs.declared.vertices.Wanted.TheVariants.{From}
use Rattle.solid_motion.specs.Points.{point_by}
use Rattle.solid_motion.specs.Vertices.{vertices_on}
use Rattle.solid_motion.proofs.Counted.{all-among}
use Rattle.solid_motion.proofs.Moving.{first-number, least-viewed, none-before, run-past, run-room, run-then}
use Rattle.solid_motion.proofs.vertices.move_vertices.Goals as goal

pub move_run-requires-clause-within : goal.move_run-requires-clause-within
move_run-requires-clause-within g c =
    let old = c.args.rec.now.store.now in
    let now = c.loop-tag.rec.store.now in
    let least = least-viewed _ now c.args.body (From c.loop-tag.from) (Some (c.in-Some.tag, c.in-Some.field-0-1)) c.view-in-loop-tag.ensures c.in-Some.ensures in
    λ t p le live. c.requires.within t p (sym (run-past (point_by c.args.motion) c.args.body 0 c.loop-tag.from old now t c.loop-tag.invariant.0
    (let reached = first-number now.state.map c.args.body c.loop-tag.from (c.in-Some.tag, c.in-Some.field-0-1) least in
    let first = c.from-first.ensures in
    omega (arith, reached, first, le))) ∙ live)

pub move_run-requires-clause-room : goal.move_run-requires-clause-room
move_run-requires-clause-room g c =
    let old = c.args.rec.now.store.now in
    run-room (point_by c.args.motion) c.args.body 0 c.loop-tag.from old c.loop-tag.rec.store.now c.loop-tag.invariant.0
    (room-part old.recording (vertices_in_body (shape_of old.state.map) c.args.body) (vertices_on old.state.map c.args.body) c.requires.room (all-among old.state.map c.requires.sound c.args.body))

pub loop-tag-preserved : goal.loop-tag-preserved
loop-tag-preserved g c =
    let old = c.args.rec.now.store.now in
    let now = c.loop-tag.rec.store.now in
    let x : Tag × Point = (c.in-Some.tag, c.in-Some.field-0-1) in
    let least = least-viewed _ now c.args.body (From c.loop-tag.from) (Some x) c.view-in-loop-tag.ensures c.in-Some.ensures in
    let reached = first-number now.state.map c.args.body c.loop-tag.from x least in
    let first = c.from-first.ensures in (
      run-then (point_by c.args.motion) c.args.body 0 c.loop-tag.from c.from-first.result c.min-end.result old now c.move_run.new.rec.store.now (omega arith) (omega (arith, reached, first)) (search rules) c.loop-tag.invariant.0 c.move_run.ensures.moves
          (λ t from_on below. none-before c.args.body now.state.map c.loop-tag.from x least t from_on (omega (arith, below, first))),
      c.move_run.ensures.same_store ∙ c.loop-tag.invariant.1,
      search rules,
    )

pub returns-clause-puts : goal.returns-clause-puts
returns-clause-puts g c =
    let old = c.args.rec.now.store.now in
    puts-wider (vertices_on old.state.map c.args.body) (vertices_in_body (shape_of old.state.map) c.args.body) old c.loop-tag.rec.store.now c.loop-tag.invariant.0.puts (all-among old.state.map c.requires.sound c.args.body)
