-- The two laws, from what two rows do to shapes.
use Rattle.std.proofs.Common.{◌≡◌, ◌≢◌, ◌<◌, List, [], ◌∷◌, drop, Option, None, Ok, refl, sym, ap, subst, ◌∙◌}
use Rattle.std.specs.Prelude.{IsOk}
use Rattle.std.specs.List.{AllByRecursion}
use Rattle.std.specs.FinMap.{get}
use Rattle.pk_base.specs.declared.tag.Tag.{Tag}
use Rattle.pk_base.specs.declared.call.Call.{Call}
use Rattle.pk_model.specs.Apart.{NoRepeats}
use Rattle.pk_model.specs.Maps.{EntityMap}
use Rattle.pk_model.specs.Tags.{TagsAscend}
use Rattle.list_facts.proofs.Each.{ByRecursion-weaker}
use Rattle.solid_model.specs.Items.{Item, Shape, item_at}
use Rattle.solid_model.specs.Rows.{Row, cost_of}
use Rattle.solid_model.specs.Links.{links}
use Rattle.solid_model.specs.Shapes.{shape_of}
use Rattle.solid_model.specs.Sound.{IsSound}
use Rattle.solid_model.specs.Calls.{row_of}
use Rattle.solid_model.proofs.lists.Neighbours.{below}
use Rattle.solid_calls.specs.Pairs.{reached, row_on}
use Rattle.solid_sound.proofs.shapes.OnlyShape.{shape-read}
use Rattle.solid_sound.proofs.shapes.Reading.{shape_read}
use Rattle.solid_sound.proofs.rows.RowKeeps.{IsWell}
use Rattle.solid_sound.proofs.rows.Asked.{free_item}
use Rattle.euler_laws.specs.Both.{GivesBack, GivesBackButNames, MayFollow, cost_on, map_after}
use Rattle.solid_model.specs.SameButNames.{SameButNames}

pub ascend-once : (ts : List Tag) → TagsAscend ts → NoRepeats ts
ascend-once [] h = tt
ascend-once (t ∷ ts) h = (ByRecursion-weaker (λ (u : Tag). t.0 < u.0) (λ u. t ≢ u) (λ u less. below t u less) ts h.0, ascend-once ts h.1)

pub back-again : (m : EntityMap) → IsSound m → links (shape_of m) ≡ m
back-again m s = ap links (shape-read m s) ∙ sym s.map_is

pub free-items : (m : EntityMap) → IsSound m → (ts : List Tag) → AllByRecursion (λ t. get m t ≡ None) ts → AllByRecursion (λ t. item_at (shape_of m) t ≡ None) ts
free-items m s ts free = ByRecursion-weaker (λ t. get m t ≡ None) (λ t. item_at (shape_of m) t ≡ None) (λ t e. free_item m s t e) ts free

pub after-is : (m : EntityMap) (c : Call) (tags : List Tag) (R : Shape) → reached (shape_of m) tags (row_on m c) ≡ R → map_after m c tags ≡ links R
unfolding map_after
after-is m c tags R h = ap links h

pub read-again : (R : Shape) → IsWell R → shape_of (links R) ≡ R
read-again R w = shape_read R w.written w.sound

pub after-links : (R Q : Shape) (d : Call) (tags : List Tag) → IsWell R → reached R tags (row_of R d) ≡ Q → map_after (links R) d tags ≡ links Q
unfolding map_after
after-links R Q d tags w h = ap (λ (S : Shape). links (reached S tags (row_of S d))) (read-again R w) ∙ ap links h

-- The first call reaches R, from which the second one reaches the shape before.
pub gives-back : (m : EntityMap) (c d : Call) (tags : List Tag) (R : Shape) → IsSound m → reached (shape_of m) tags (row_on m c) ≡ R → IsWell R → IsOk (row_of R d)
    → ((rest : List Tag) → reached R rest (row_of R d) ≡ shape_of m) → GivesBack m c d tags
gives-back m c d tags R s first w goes second =
    let here = after-is m c tags R first in
    record {
      goes = subst (λ n. IsOk (row_on n d)) (sym here) (subst (λ S. IsOk (row_of S d)) (sym (read-again R w)) goes);
      same = ap (λ n. map_after n d (drop (cost_on m c) tags)) here ∙ after-links R (shape_of m) d (drop (cost_on m c) tags) w (second (drop (cost_on m c) tags)) ∙ back-again m s;
    }

-- The first call reaches R, from which the second one reaches Q, which is the same but for names.
pub gives-back-names : (m : EntityMap) (c d : Call) (tags killed made : List Tag) (R Q : Shape) → IsSound m → reached (shape_of m) tags (row_on m c) ≡ R → IsWell R → IsOk (row_of R d)
    → reached R (drop (cost_on m c) tags) (row_of R d) ≡ Q → IsWell Q → SameButNames killed made (shape_of m) Q → GivesBackButNames m c d tags killed made
gives-back-names m c d tags killed made R Q s first w goes second wq same =
    let here = after-is m c tags R first in
    let last : map_after (map_after m c tags) d (drop (cost_on m c) tags) ≡ links Q = ap (λ n. map_after n d (drop (cost_on m c) tags)) here ∙ after-links R Q d (drop (cost_on m c) tags) w second in
    record {
      goes = subst (λ n. IsOk (row_on n d)) (sym here) (subst (λ S. IsOk (row_of S d)) (sym (read-again R w)) goes);
      same = subst (SameButNames killed made (shape_of m)) (sym (ap shape_of last ∙ read-again Q wq)) same;
    }
