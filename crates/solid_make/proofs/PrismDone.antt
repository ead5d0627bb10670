-- prism and block: what making them asks for, and that what was made is what the row says.
use Rattle.std.proofs.Common.{◌≡◌, ◌≤◌, List, [], ◌∷◌, length, Some, Err, refl, ap, arith}
use Rattle.std.specs.Prelude.{ℤ, ◌+ℤ◌, None}
use Rattle.pk_base.specs.declared.tag.Tag.{Tag}
use Rattle.pk_base.specs.declared.entity.Pair.{Pair}
use Rattle.pk_base.specs.declared.entity.Triple.{Triple}
use Rattle.pk_base.specs.declared.call.Call.TheVariants.{Block, Prism}
use Rattle.pk_base.specs.declared.refusal.Refusal.{Refusal}
use Rattle.entity_store.specs.Store.{StoreView}
use Rattle.solid_model.specs.Items.{Shape}
use Rattle.solid_model.specs.Lamina.{refuse_corners, refuse_count, refuse_polygon}
use Rattle.solid_model.specs.Prism.{after_prism, block, makes_prism, prism, rectangle}
use Rattle.solid_model.specs.Ranges.{is_coordinate, is_size, numbers_of, refuse_outside}
use Rattle.solid_model.specs.Rows.{cost_of, ◌>>◌}
use Rattle.solid_model.specs.Shapes.{shape_of}
use Rattle.solid_sound.proofs.rows.KeptMotions.{outside-none}
use Rattle.solid_calls.specs.Pairs.{HasDone, MayDo, row_on}
use Rattle.solid_edits.proofs.Going.{goes-past}
use Rattle.solid_make.specs.Making.{AreInReach, HasMade, MayMake, MayRise, begun, cost_of_prism}
use Rattle.solid_make.proofs.Refusals.{corners-reach, count-within, rectangle-reach}
use Rattle.solid_make.proofs.LaminaDone.{done-as_made, room-as_made}

-- ---- the rows

pub prism-is : (S : Shape) (z h : ℤ) (corners : List Pair) → refuse_count corners ≡ None → refuse_outside is_coordinate (z ∷ []) ≡ None → refuse_outside is_size (h ∷ []) ≡ None
    → refuse_outside is_coordinate ((z +ℤ h) ∷ []) ≡ None → refuse_corners corners ≡ None → refuse_polygon corners ≡ None → prism S z h corners ≡ makes_prism S z h corners
prism-is S z h corners a b c d e f = λ i. a i >> (b i >> (c i >> (d i >> (e i >> (f i >> makes_prism S z h corners)))))

pub block-is : (S : Shape) (at size : Triple) → refuse_outside is_coordinate (numbers_of at) ≡ None → refuse_outside is_size (numbers_of size) ≡ None
    → refuse_outside is_coordinate ((at.x +ℤ size.x) ∷ (at.y +ℤ size.y) ∷ (at.z +ℤ size.z) ∷ []) ≡ None → block S at size ≡ makes_prism S at.z size.z (rectangle at.x at.y size.x size.y)
block-is S at size a b c = λ i. a i >> (b i >> (c i >> makes_prism S at.z size.z (rectangle at.x at.y size.x size.y)))

-- why a prism is refused, after its count, its height and its size
pub prism-top : (S : Shape) (z h : ℤ) (corners : List Pair) (e : Refusal) → refuse_count corners ≡ None → refuse_outside is_coordinate (z ∷ []) ≡ None → refuse_outside is_size (h ∷ []) ≡ None
    → refuse_outside is_coordinate ((z +ℤ h) ∷ []) ≡ Some e → prism S z h corners ≡ Err e
prism-top S z h corners e a b c d = λ i. a i >> (b i >> (c i >> (d i >> (refuse_corners corners >> (refuse_polygon corners >> makes_prism S z h corners)))))

pub prism-corners : (S : Shape) (z h : ℤ) (corners : List Pair) (e : Refusal) → refuse_count corners ≡ None → refuse_outside is_coordinate (z ∷ []) ≡ None → refuse_outside is_size (h ∷ []) ≡ None
    → refuse_outside is_coordinate ((z +ℤ h) ∷ []) ≡ None → refuse_corners corners ≡ Some e → prism S z h corners ≡ Err e
prism-corners S z h corners e a b c d f = λ i. a i >> (b i >> (c i >> (d i >> (f i >> (refuse_polygon corners >> makes_prism S z h corners)))))

pub prism-polygon : (S : Shape) (z h : ℤ) (corners : List Pair) (e : Refusal) → refuse_count corners ≡ None → refuse_outside is_coordinate (z ∷ []) ≡ None → refuse_outside is_size (h ∷ []) ≡ None
    → refuse_outside is_coordinate ((z +ℤ h) ∷ []) ≡ None → refuse_corners corners ≡ None → refuse_polygon corners ≡ Some e → prism S z h corners ≡ Err e
prism-polygon S z h corners e a b c d f p = λ i. a i >> (b i >> (c i >> (d i >> (f i >> (p i >> makes_prism S z h corners)))))

-- what is known where it is not refused
pub record PrismGoes (z h : ℤ) (corners : List Pair) : Type 0 where
  pub three : 3 ≤ length corners
  pub reach : AreInReach z corners
  pub rise : MayRise z h

module _ (old : StoreView) (z h : ℤ) (corners : List Pair) (tags : List Tag) (may : MayDo old (Prism z h corners) tags) where
  abbrev S : Shape
  S = shape_of old.state.map

  pub prism-goes : PrismGoes z h corners × (prism S z h corners ≡ makes_prism S z h corners)
  prism-goes =
      let a = goes-past (refuse_count corners) _ may.goes in
      let b = goes-past (refuse_outside is_coordinate (z ∷ [])) _ a.goes in
      let c = goes-past (refuse_outside is_size (h ∷ [])) _ b.goes in
      let d = goes-past (refuse_outside is_coordinate ((z +ℤ h) ∷ [])) _ c.goes in
      let e = goes-past (refuse_corners corners) _ d.goes in
      let f = goes-past (refuse_polygon corners) _ e.goes in (
        record {
          three = (count-within corners a.is).0;
          reach = corners-reach z corners b.is e.is;
          rise = record { size = (outside-none is_size (h ∷ []) c.is).0; top = (outside-none is_coordinate ((z +ℤ h) ∷ []) d.is).0 };
        },
        prism-is S z h corners a.is b.is c.is d.is e.is f.is,
      )

  pub prism-may : MayMake old z corners (cost_of_prism corners) tags
  prism-may = record {
    sound = may.sound;
    three = prism-goes.0.three;
    reach = prism-goes.0.reach;
    room = room-as_made old (Prism z h corners) (cost_of_prism corners) _ tags prism-goes.1 refl may;
  }

  pub prism-cost : cost_of (row_on old.state.map (Prism z h corners)) ≡ cost_of_prism corners
  prism-cost = ap cost_of prism-goes.1

  pub prism-done : (new : StoreView) → HasMade old (cost_of_prism corners) tags (after_prism z h corners (begun old tags)) new → HasDone old (Prism z h corners) tags new
  prism-done new made = done-as_made old new (Prism z h corners) (cost_of_prism corners) _ tags (after_prism z h corners (begun old tags)) prism-goes.1 refl refl made

module _ (old : StoreView) (at size : Triple) (tags : List Tag) (may : MayDo old (Block at size) tags) where
  abbrev corners : List Pair
  corners = rectangle at.x at.y size.x size.y

  pub record BlockGoes : Type 0 where
    pub at_none : refuse_outside is_coordinate (numbers_of at) ≡ None
    pub size_none : refuse_outside is_size (numbers_of size) ≡ None
    pub reach : AreInReach at.z (rectangle at.x at.y size.x size.y)
    pub rise : MayRise at.z size.z
    pub is : block (shape_of old.state.map) at size ≡ makes_prism (shape_of old.state.map) at.z size.z (rectangle at.x at.y size.x size.y)

  pub block-goes : BlockGoes
  block-goes =
      let a = goes-past (refuse_outside is_coordinate (numbers_of at)) _ may.goes in
      let b = goes-past (refuse_outside is_size (numbers_of size)) _ a.goes in
      let c = goes-past (refuse_outside is_coordinate ((at.x +ℤ size.x) ∷ (at.y +ℤ size.y) ∷ (at.z +ℤ size.z) ∷ [])) _ b.goes in
      record {
        at_none = a.is;
        size_none = b.is;
        reach = rectangle-reach at size a.is c.is;
        rise = record {
          size = (outside-none is_size (numbers_of size) b.is).1.1.0;
          top = (outside-none is_coordinate ((at.x +ℤ size.x) ∷ (at.y +ℤ size.y) ∷ (at.z +ℤ size.z) ∷ []) c.is).1.1.0;
        };
        is = block-is (shape_of old.state.map) at size a.is b.is c.is;
      }

  pub block-may : MayMake old at.z corners (cost_of_prism corners) tags
  block-may = record {
    sound = may.sound;
    three = omega arith;
    reach = block-goes.reach;
    room = room-as_made old (Block at size) (cost_of_prism corners) _ tags block-goes.is refl may;
  }

  pub block-cost : cost_of (row_on old.state.map (Block at size)) ≡ cost_of_prism corners
  block-cost = ap cost_of block-goes.is

  pub block-done : (new : StoreView) → HasMade old (cost_of_prism corners) tags (after_prism at.z size.z corners (begun old tags)) new → HasDone old (Block at size) tags new
  block-done new made = done-as_made old new (Block at size) (cost_of_prism corners) _ tags (after_prism at.z size.z corners (begun old tags)) block-goes.is refl refl made
