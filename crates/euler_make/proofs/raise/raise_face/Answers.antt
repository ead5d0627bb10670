use Rattle.std.proofs.Common.{◌≡◌, ◌*◌, length, sym, ap, subst, ◌∙◌, arith}
use Rattle.entity_store.specs.NextTags.{left}
use Rattle.solid_model.specs.Shapes.{shape_of}
use Rattle.solid_model.specs.Sound.{class_at}
use Rattle.solid_calls.specs.Pairs.{HasTags, Takes}
use Rattle.euler_make.specs.Cutting.{HasCut, MayCut, backs_listed}
use Rattle.euler_make.specs.Raising.{outer_fins}
use Rattle.euler_make.proofs.RaiseDone.{face-class, has-fewer, cut-may, cut-has, cut-listed, raise-done, raise-takes}
use Rattle.euler_make.proofs.raise.raise_face.Goals as goal

pub count_fins-fins-requires-clause-face : goal.count_fins-fins-requires-clause-face
count_fins-fins-requires-clause-face g c =
    ap (λ s. class_at (shape_of s.state.map) c.args.face) c.view.ensures ∙ face-class (shape_of c.args.rec.now.store.now.state.map) c.args.face c.requires.may.face c.requires.may.found

pub raise_edges-requires-clause-fins : goal.raise_edges-requires-clause-fins
raise_edges-requires-clause-fins g c =
    c.count_fins-fins.ensures ∙ ap (λ s. length (outer_fins (shape_of s.state.map) c.args.face)) c.view.ensures

pub raise_edges-requires-clause-tags : goal.raise_edges-requires-clause-tags
raise_edges-requires-clause-tags g c =
    let old = c.args.rec.now.store.now in
    let n_is : c.count_fins-fins.result ≡ length (outer_fins (shape_of old.state.map) c.args.face) = c.count_fins-fins.ensures ∙ ap (λ s. length (outer_fins (shape_of s.state.map) c.args.face)) c.view.ensures in
    has-fewer old (4 * c.count_fins-fins.result) (9 * length (outer_fins (shape_of old.state.map) c.args.face)) c.args.tags.now c.args.out.now (omega (arith, n_is)) c.requires.tags

pub cut_sides-requires-clause-may : goal.cut_sides-requires-clause-may
cut_sides-requires-clause-may g c =
    let old = c.args.rec.now.store.now in
    let n_is : c.count_fins-fins.result ≡ length (outer_fins (shape_of old.state.map) c.args.face) = c.count_fins-fins.ensures ∙ ap (λ s. length (outer_fins (shape_of s.state.map) c.args.face)) c.view.ensures in
    let takes = subst (λ n. Takes (4 * n) c.args.tags.now c.args.out.now c.raise_edges.new.tags c.raise_edges.new.out) n_is c.raise_edges.ensures.takes in
    let listed_is = ap length c.as_slice-listed.ensures in
    let may = cut-may old c.args.face c.args.by c.args.tags.now c.args.out.now c.requires.may c.requires.tags c.raise_edges.new.rec.store.now c.raise_edges.new.tags c.raise_edges.new.out c.raise_edges.ensures.done takes in
    subst (λ us. MayCut c.raise_edges.new.rec.store.now us (left c.raise_edges.new.tags)) (λ i. backs_listed c.raise_edges.new.out.items (sym listed_is i) (sym n_is i)) may

pub cut_sides-requires-clause-listed : goal.cut_sides-requires-clause-listed
cut_sides-requires-clause-listed g c =
    let old = c.args.rec.now.store.now in
    let n_is : c.count_fins-fins.result ≡ length (outer_fins (shape_of old.state.map) c.args.face) = c.count_fins-fins.ensures ∙ ap (λ s. length (outer_fins (shape_of s.state.map) c.args.face)) c.view.ensures in
    let takes = subst (λ n. Takes (4 * n) c.args.tags.now c.args.out.now c.raise_edges.new.tags c.raise_edges.new.out) n_is c.raise_edges.ensures.takes in
    let listed_is = ap length c.as_slice-listed.ensures in
    let long = cut-listed old c.args.face c.args.by c.args.tags.now c.args.out.now c.requires.may c.requires.tags c.raise_edges.new.rec.store.now c.raise_edges.new.tags c.raise_edges.new.out c.raise_edges.ensures.done takes in
    omega (arith, long, listed_is, n_is)

pub cut_sides-requires-clause-tags : goal.cut_sides-requires-clause-tags
cut_sides-requires-clause-tags g c =
    let old = c.args.rec.now.store.now in
    let n_is : c.count_fins-fins.result ≡ length (outer_fins (shape_of old.state.map) c.args.face) = c.count_fins-fins.ensures ∙ ap (λ s. length (outer_fins (shape_of s.state.map) c.args.face)) c.view.ensures in
    let takes = subst (λ n. Takes (4 * n) c.args.tags.now c.args.out.now c.raise_edges.new.tags c.raise_edges.new.out) n_is c.raise_edges.ensures.takes in
    subst (λ n. HasTags c.raise_edges.new.rec.store.now (5 * n) c.raise_edges.new.tags c.raise_edges.new.out) (sym n_is) (cut-has old c.args.face c.args.by c.args.tags.now c.args.out.now c.requires.may c.requires.tags c.raise_edges.new.rec.store.now c.raise_edges.new.tags c.raise_edges.new.out c.raise_edges.ensures.done takes)

pub returns-clause-done : goal.returns-clause-done
returns-clause-done g c =
    let old = c.args.rec.now.store.now in
    let n_is : c.count_fins-fins.result ≡ length (outer_fins (shape_of old.state.map) c.args.face) = c.count_fins-fins.ensures ∙ ap (λ s. length (outer_fins (shape_of s.state.map) c.args.face)) c.view.ensures in
    let takes = subst (λ n. Takes (4 * n) c.args.tags.now c.args.out.now c.raise_edges.new.tags c.raise_edges.new.out) n_is c.raise_edges.ensures.takes in
    let listed_is = ap length c.as_slice-listed.ensures in
    let more = subst (λ n. Takes (5 * n) c.raise_edges.new.tags c.raise_edges.new.out c.cut_sides.new.tags c.cut_sides.new.out) n_is c.cut_sides.ensures.takes in
    raise-done old c.args.face c.args.by c.args.tags.now c.args.out.now c.requires.may c.requires.tags c.raise_edges.new.rec.store.now c.raise_edges.new.tags c.raise_edges.new.out c.raise_edges.ensures.done takes c.cut_sides.new.rec.store.now c.cut_sides.new.tags c.cut_sides.new.out
    (subst (λ us. HasCut c.raise_edges.new.rec.store.now us (left c.raise_edges.new.tags) c.cut_sides.new.rec.store.now) (λ i. backs_listed c.raise_edges.new.out.items (listed_is i) (n_is i)) c.cut_sides.ensures.done) more

pub returns-clause-takes : goal.returns-clause-takes
returns-clause-takes g c =
    let old = c.args.rec.now.store.now in
    let n_is : c.count_fins-fins.result ≡ length (outer_fins (shape_of old.state.map) c.args.face) = c.count_fins-fins.ensures ∙ ap (λ s. length (outer_fins (shape_of s.state.map) c.args.face)) c.view.ensures in
    let takes = subst (λ n. Takes (4 * n) c.args.tags.now c.args.out.now c.raise_edges.new.tags c.raise_edges.new.out) n_is c.raise_edges.ensures.takes in
    let listed_is = ap length c.as_slice-listed.ensures in
    let more = subst (λ n. Takes (5 * n) c.raise_edges.new.tags c.raise_edges.new.out c.cut_sides.new.tags c.cut_sides.new.out) n_is c.cut_sides.ensures.takes in
    raise-takes old c.args.face c.args.by c.args.tags.now c.args.out.now c.requires.may c.requires.tags c.raise_edges.new.rec.store.now c.raise_edges.new.tags c.raise_edges.new.out c.raise_edges.ensures.done takes c.cut_sides.new.rec.store.now c.cut_sides.new.tags c.cut_sides.new.out
    (subst (λ us. HasCut c.raise_edges.new.rec.store.now us (left c.raise_edges.new.tags) c.cut_sides.new.rec.store.now) (λ i. backs_listed c.raise_edges.new.out.items (listed_is i) (n_is i)) c.cut_sides.ensures.done) more
