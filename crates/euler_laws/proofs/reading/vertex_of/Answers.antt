use Rattle.std.proofs.Common.{◌≡◌, ⊎_elim, List, Some, sym, ap, subst}
use Rattle.std.specs.Prelude.{Contains}
use Rattle.pk_base.specs.declared.tag.Tag.{Tag}
use Rattle.pk_base.specs.declared.entity.Entity.{Entity}
use Rattle.pk_base.specs.declared.entity.Entity.TheVariants as entity
use Rattle.pk_base.proofs.Same.{same_itself}
use Rattle.list_facts.proofs.Elements.{Contains-first, Contains-later, Contains-cases}
use Rattle.euler_kill.proofs.KidsFound.{IsKid, walked-are, are-walked}
use Rattle.euler_laws.proofs.KvfsRead.{vertex-of_kid}
use Rattle.euler_laws.proofs.reading.vertex_of.Goals as goal

pub loop-tag-init : goal.loop-tag-init
loop-tag-init g c =
    let m = c.args.store.now.state.map in
    let body = c.args.body in
    let vertex = c.requires in
    record {
      kids = walked-are m (Some body) c.kids-walk.result c.kids-walk.ensures;
      vertex = (vertex.0, vertex.1, are-walked m (Some body) c.kids-walk.result c.kids-walk.ensures vertex.0 (entity.Vertex body vertex.1) (vertex.2, same_itself body));
    }

pub returns-in-Vertex : goal.returns-in-Vertex
returns-in-Vertex g c =
    let m = c.args.store.now.state.map in
    let tag = c.in-Some.tag in
    let kid = c.loop-tag.invariant.kids tag c.in-Some.kid.now (subst (λ (ps : List (Tag × Entity)). Contains ps (tag, c.in-Some.kid.now)) (sym c.in-Some.ensures.some) (Contains-first _ c.next.new.self)) in
    let found = vertex-of_kid m c.args.body tag c.in-Vertex.body c.in-Vertex.point (subst (IsKid m (Some c.args.body) tag) c.in-Vertex.is kid) in
    (c.in-Vertex.point, found)

pub loop-tag-preserved : goal.loop-tag-preserved
loop-tag-preserved g c =
    let body = c.args.body in
    let tag = c.in-Some.tag in
    let rest = c.next.new.self in
    let was = c.loop-tag.invariant.vertex in
    record {
      kids = λ t e k. c.loop-tag.invariant.kids t e (subst (λ (ps : List (Tag × Entity)). Contains ps (t, e)) (sym c.in-Some.ensures.some) (Contains-later (tag, c.in-Some.kid.now) rest (t, e) k));
      vertex = (
        was.0,
        was.1,
        ⊎_elim {C = Contains rest (was.0, entity.Vertex body was.1)}
            (λ (h : (tag, c.in-Some.kid.now) ≡ (was.0, entity.Vertex body was.1)). absurd (c.in_default-kid.not-Vertex body was.1 (ap (λ (p : Tag × Entity). p.1) h)))
            (λ r. r)
            (Contains-cases (tag, c.in-Some.kid.now) rest (was.0, entity.Vertex body was.1) (subst (λ (ps : List (Tag × Entity)). Contains ps (was.0, entity.Vertex body was.1)) c.in-Some.ensures.some was.2)),
      );
    }
