use Rattle.std.proofs.Common.{◌∙◌, sym, subst, Some, List, length, arith, rules}
use Rattle.std.specs.Prelude.{◌≡◌, nat_lt, true}
use Rattle.pk_base.specs.contracts.entity.Class.{the_type}
use Rattle.pk_base.specs.declared.tag.Tag.{Tag}
use Rattle.pk_base.specs.declared.entity.Entity.{Entity}
use Rattle.solid_model.specs.Owners.{parts_of_class}
use Rattle.solid_model.specs.Shapes.{shape_of}
use Rattle.entity_store.specs.Kids.{kids_of}
use denote.Enum.Bare.{same_true, same_false}
use Rattle.solid_places.proofs.Kids.{Walk, walk-begins, walk-ends, walk-more, walk-passes}
use Rattle.solid_places.proofs.parts.has_more_parts.Goals as goal

pub loop-kid-init : goal.loop-kid-init
loop-kid-init g c = (walk-begins _ _ _ c.kids-kids.ensures, omega arith)

pub loop-kid-preserved : goal.loop-kid-preserved
loop-kid-preserved g c =
    let m = c.args.store.now.state.map in
    let w = subst (λ (ks : List (Tag × Entity)). Walk c.args.class (kids_of m (Some c.args.owner)) c.loop-kid.count ks) c.in-Some.ensures.some c.loop-kid.invariant.0 in
    (walk-passes _ _ _ _ _ w (λ e. same_false the_type _ _ (sym c.if-eq.ensures) (c.class.ensures ∙ e)), c.loop-kid.invariant.1)

pub returns-then-count-than : goal.returns-then-count-than
returns-then-count-than g c =
    let m = c.args.store.now.state.map in
    let w = subst (λ (ks : List (Tag × Entity)). Walk c.args.class (kids_of m (Some c.args.owner)) c.loop-kid.count ks) c.in-Some.ensures.some c.loop-kid.invariant.0 in
    let is = sym c.class.ensures ∙ same_true the_type (search rules) _ _ (sym c.if-eq.ensures) in
    sym (subst (λ n. nat_lt n (length (parts_of_class c.args.class (shape_of m) c.args.owner)) ≡ true) c.if-count-than.true
    (walk-more m c.requires c.args.class c.args.owner _ _ _ w is))

pub returns : goal.returns
returns g c =
    let m = c.args.store.now.state.map in
    let w = subst (λ (ks : List (Tag × Entity)). Walk c.args.class (kids_of m (Some c.args.owner)) c.loop-kid.count ks) c.in_default.ensures.none c.loop-kid.invariant.0 in
    sym (walk-ends m c.requires c.args.class c.args.owner _ _ w c.loop-kid.invariant.1)
