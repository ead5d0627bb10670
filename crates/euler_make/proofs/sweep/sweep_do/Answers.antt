use Rattle.std.proofs.Common.{◌≡◌, sym, ap, subst, ◌∙◌}
use Rattle.pk_base.specs.declared.call.Call.TheVariants.{Sweep}
use Rattle.entity_store.specs.NextTags.{left}
use Rattle.entity_store.specs.Room.{HasRoomForThese, PutsAmong}
use Rattle.solid_model.specs.Links.{links}
use Rattle.solid_model.specs.Shapes.{shape_of}
use Rattle.solid_calls.specs.Pairs.{HasTags, Takes, reached}
use Rattle.euler_make.proofs.SweepFound.{sweep-goes, sweep-cost, sweep-puts}
use Rattle.euler_make.proofs.sweep.sweep_do.Goals as goal

pub raise_face-requires-clause-may : goal.raise_face-requires-clause-may
raise_face-requires-clause-may g c =
    let s = c.args.rec.now.store.now in
    let S = shape_of s.state.map in
    let x = sweep-goes S c.args.face c.args.by c.requires.may.goes in
    record {
      sound = c.requires.may.sound;
      face = x.face;
      found = x.found;
      fins = x.two;
      vector = x.vector;
      within = x.within;
      room = subst (HasRoomForThese s.recording) (sweep-puts S c.args.face c.args.by (left c.args.tags.now) x) c.requires.may.room;
    }

pub raise_face-requires-clause-tags : goal.raise_face-requires-clause-tags
raise_face-requires-clause-tags g c =
    let s = c.args.rec.now.store.now in
    let S = shape_of s.state.map in
    let x = sweep-goes S c.args.face c.args.by c.requires.may.goes in
    subst (λ n. HasTags s n c.args.tags.now c.args.out.now) (sweep-cost S c.args.face c.args.by x) c.requires.tags

pub returns-clause-done : goal.returns-clause-done
returns-clause-done g c =
    let s = c.args.rec.now.store.now in
    let S = shape_of s.state.map in
    let x = sweep-goes S c.args.face c.args.by c.requires.may.goes in
    record {
      state = c.raise_face.ensures.done.state ∙ ap (λ r. record s.state { map = links (reached S (left c.args.tags.now) r) }) (sym x.row_is);
      sound = c.raise_face.ensures.done.sound;
      puts = subst (λ us. PutsAmong us s c.raise_face.new.rec.store.now) (sym (sweep-puts S c.args.face c.args.by (left c.args.tags.now) x)) c.raise_face.ensures.done.puts;
    }

pub returns-clause-takes : goal.returns-clause-takes
returns-clause-takes g c =
    let s = c.args.rec.now.store.now in
    let S = shape_of s.state.map in
    let x = sweep-goes S c.args.face c.args.by c.requires.may.goes in
    subst (λ n. Takes n c.args.tags.now c.args.out.now c.raise_face.new.tags c.raise_face.new.out) (sym (sweep-cost S c.args.face c.args.by x)) c.raise_face.ensures.takes
