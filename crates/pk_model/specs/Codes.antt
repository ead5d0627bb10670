-- The codes by which a proof tells maps and states apart.
use Rattle.std.specs.Prelude.{ℕ, Bool, List, Option, refl}
use Rattle.std.specs.Coded.{Coded, code_by, coded×, coded_ℕ, coded_bool, coded_list, coded_option}
use Rattle.std.specs.FinMap.{code}
use Rattle.pk_base.specs.contracts.tag.Tag as tag
use Rattle.pk_base.specs.contracts.entity.Entity as entity
use Rattle.pk_base.specs.declared.tag.Tag.{Tag}
use Rattle.pk_model.specs.Maps.{EntityMap}
use Rattle.pk_model.specs.State.{Mark, PartitionState}

abbrev pub tag_code : Coded Tag
tag_code = tag.the_row.coded

abbrev pub map_code : Coded EntityMap
map_code = code tag_code entity.the_row.coded

abbrev MarkParts : Type 0
MarkParts = Tag × (Option Tag × (EntityMap × Bool))

abbrev pub mark_code : Coded Mark
mark_code =
    code_by MarkParts
    (coded× tag_code (coded× (coded_option tag_code) (coded× map_code coded_bool)))
    (λ k. (k.tag, (k.parent, (k.map, k.live))))
    (λ p. record { tag = p.0; parent = p.1.0; map = p.1.1.0; live = p.1.1.1 }) (λ _. refl)

abbrev StateParts : Type 0
StateParts = EntityMap × (List Mark × (Tag × (List ℕ × (ℕ × Option ℕ))))

abbrev pub state_code : Coded PartitionState
state_code =
    code_by StateParts
    (coded× map_code (coded× (coded_list mark_code) (coded× tag_code
    (coded× (coded_list coded_ℕ) (coded× coded_ℕ (coded_option coded_ℕ))))))
    (λ s. (s.now, (s.marks, (s.at, (s.blocks, (s.used, s.holder))))))
    (λ p. record {
      now = p.0;
      marks = p.1.0;
      at = p.1.1.0;
      blocks = p.1.1.1.0;
      used = p.1.1.1.1.0;
      holder = p.1.1.1.1.1;
    }) (λ _. refl)
