use Rattle.std.proofs.Common.{◌≡◌, ⊎_elim, List, Some, sym, ap, subst}
use Rattle.std.specs.Prelude.{Contains}
use Rattle.pk_base.specs.declared.tag.Tag.{Tag}
use Rattle.pk_base.specs.declared.entity.Entity.{Entity}
use Rattle.pk_base.specs.declared.entity.Entity.TheVariants as entity
use Rattle.pk_base.proofs.Same.{same_itself}
use Rattle.list_facts.proofs.Elements.{Contains-first, Contains-later, Contains-cases}
use Rattle.euler_kill.proofs.KidsFound.{IsKid, face-of_kid, walked-are, are-walked}
use Rattle.euler_kill.proofs.kvfs.face_of.Goals as goal

pub loop-tag-init : goal.loop-tag-init
loop-tag-init g c =
    let m = c.args.store.now.state.map in
    let shell = c.args.shell in
    let face = c.requires in
    record {
      kids = walked-are m (Some shell) c.kids-walk.result c.kids-walk.ensures;
      face = (face.0, face.1, are-walked m (Some shell) c.kids-walk.result c.kids-walk.ensures face.0 (entity.Face shell face.1) (face.2, same_itself shell));
    }

pub returns-in-Face : goal.returns-in-Face
returns-in-Face g c =
    let m = c.args.store.now.state.map in
    let tag = c.in-Some.tag in
    let kid = c.loop-tag.invariant.kids tag c.in-Some.kid.now (subst (λ (ps : List (Tag × Entity)). Contains ps (tag, c.in-Some.kid.now)) (sym c.in-Some.ensures.some) (Contains-first _ c.next.new.self)) in
    let found = face-of_kid m c.args.shell tag c.in-Face.shell c.in-Face.outer (subst (IsKid m (Some c.args.shell) tag) c.in-Face.is kid) in
    (c.in-Face.outer, found)

pub loop-tag-preserved : goal.loop-tag-preserved
loop-tag-preserved g c =
    let shell = c.args.shell in
    let tag = c.in-Some.tag in
    let rest = c.next.new.self in
    let was = c.loop-tag.invariant.face in
    record {
      kids = λ t e k. c.loop-tag.invariant.kids t e (subst (λ (ps : List (Tag × Entity)). Contains ps (t, e)) (sym c.in-Some.ensures.some) (Contains-later (tag, c.in-Some.kid.now) rest (t, e) k));
      face = (
        was.0,
        was.1,
        ⊎_elim {C = Contains rest (was.0, entity.Face shell was.1)}
            (λ (h : (tag, c.in-Some.kid.now) ≡ (was.0, entity.Face shell was.1)). absurd (c.in_default-kid.not-Face shell was.1 (ap (λ (p : Tag × Entity). p.1) h)))
            (λ r. r)
            (Contains-cases (tag, c.in-Some.kid.now) rest (was.0, entity.Face shell was.1) (subst (λ (ps : List (Tag × Entity)). Contains ps (was.0, entity.Face shell was.1)) c.in-Some.ensures.some was.2)),
      );
    }
