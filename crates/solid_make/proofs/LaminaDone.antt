-- lamina: what making it asks for, and that what was made is what its row says.
use Rattle.std.proofs.Common.{◌≡◌, ℕ, List, [], ◌++◌, take, Ok, refl, sym, ap, subst, ◌∙◌, append-nil}
use Rattle.std.specs.Prelude.{ℤ}
use Rattle.pk_base.specs.Building.{Building}
use Rattle.pk_base.specs.declared.tag.Tag.{Tag}
use Rattle.pk_base.specs.declared.entity.Pair.{Pair}
use Rattle.pk_base.specs.declared.call.Call.{Call}
use Rattle.pk_base.specs.declared.call.Call.TheVariants.{Lamina}
use Rattle.entity_store.specs.NextTags.{TagsView, left}
use Rattle.entity_store.specs.Room.{HasRoomForThese, PutsAmong}
use Rattle.entity_store.specs.Store.{StoreView}
use Rattle.solid_model.specs.Items.{Shape}
use Rattle.solid_model.specs.Folds.{Progress}
use Rattle.solid_model.specs.Lamina.{after_lamina}
use Rattle.solid_model.specs.Links.{links}
use Rattle.solid_model.specs.Calls.{row_of}
use Rattle.solid_model.specs.Room.{tags_changed, tags_put}
use Rattle.solid_model.specs.Rows.{cost_of}
use Rattle.solid_model.specs.Rows.Effect.{Makes}
use Rattle.solid_model.specs.Shapes.{shape_of}
use Rattle.solid_calls.specs.Pairs.{HasDone, HasTags, MayDo, Takes, reached, row_on}
use Rattle.solid_make.specs.Making.{HasMade, MayMake, begun, cost_of_lamina}
use Rattle.solid_make.proofs.Refusals.{LaminaGoes, lamina-goes}

-- ---- calls that make a solid of n tags, and change nothing else

pub puts-all : (S : Shape) (c : Call) (n : ℕ) (made : List Tag → Shape) (tags : List Tag) → row_of S c ≡ Ok (Makes n made) → tags_changed S c ≡ [] → tags_put S c tags ≡ take n tags
puts-all S c n made tags is nothing = (λ i. take (cost_of (is i)) tags ++ nothing i) ∙ append-nil (take n tags)

pub done-as_made : (old new : StoreView) (c : Call) (n : ℕ) (made : List Tag → Shape) (tags : List Tag) (p : Progress) → row_on old.state.map c ≡ Ok (Makes n made) → tags_changed (shape_of old.state.map) c ≡ []
    → p.shape ≡ made tags → HasMade old n tags p new → HasDone old c tags new
done-as_made old new c n made tags p is nothing same h = record {
  state = h.state ∙ ap (λ (R : Shape). record old.state { map = links R }) (same ∙ ap (reached (shape_of old.state.map) tags) (sym is));
  sound = h.sound;
  puts = subst (λ ts. PutsAmong ts old new) (sym (puts-all (shape_of old.state.map) c n made tags is nothing)) h.puts;
}

pub room-as_made : (old : StoreView) (c : Call) (n : ℕ) (made : List Tag → Shape) (tags : List Tag) → row_on old.state.map c ≡ Ok (Makes n made) → tags_changed (shape_of old.state.map) c ≡ [] → MayDo old c tags
    → HasRoomForThese old.recording (take n tags)
room-as_made old c n made tags is nothing may = subst (HasRoomForThese old.recording) (puts-all (shape_of old.state.map) c n made tags is nothing) may.room

-- ---- lamina

module _ (old : StoreView) (z : ℤ) (corners : List Pair) where
  goes : (tags : List Tag) → MayDo old (Lamina z corners) tags → LaminaGoes (shape_of old.state.map) z corners
  goes tags may = lamina-goes (shape_of old.state.map) z corners may.goes

  pub lamina-may : (tags : List Tag) → MayDo old (Lamina z corners) tags → MayMake old z corners (cost_of_lamina corners) tags
  lamina-may tags may = record {
    sound = may.sound;
    three = (goes tags may).three;
    reach = (goes tags may).reach;
    room = room-as_made old (Lamina z corners) (cost_of_lamina corners) _ tags (goes tags may).is refl may;
  }

  pub lamina-tags : (tags : TagsView) (out : Building Tag) → MayDo old (Lamina z corners) (left tags) → HasTags old (cost_of (row_on old.state.map (Lamina z corners))) tags out → HasTags old (cost_of_lamina corners) tags out
  lamina-tags tags out may has = subst (λ n. HasTags old n tags out) (ap cost_of (goes (left tags) may).is) has

  pub lamina-done : (tags : List Tag) → MayDo old (Lamina z corners) tags → (new : StoreView) (v : ℤ) → v ≡ z → HasMade old (cost_of_lamina corners) tags (after_lamina v corners (begun old tags)) new → HasDone old (Lamina z corners) tags new
  lamina-done tags may new v same made =
      done-as_made old new (Lamina z corners) (cost_of_lamina corners) _ tags (after_lamina z corners (begun old tags)) (goes tags may).is refl refl (subst (λ w. HasMade old (cost_of_lamina corners) tags (after_lamina w corners (begun old tags)) new) same made)

  pub lamina-takes : (tags tags' : TagsView) (out out' : Building Tag) → MayDo old (Lamina z corners) (left tags) → Takes (cost_of_lamina corners) tags out tags' out' → Takes (cost_of (row_on old.state.map (Lamina z corners))) tags out tags' out'
  lamina-takes tags tags' out out' may takes = subst (λ n. Takes n tags out tags' out') (sym (ap cost_of (goes (left tags) may).is)) takes
