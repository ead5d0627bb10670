-- That a call keeps soundness, and that it changes nothing.
use Rattle.std.specs.Prelude.{◌≡◌, List, Ok}
use Rattle.pk_base.specs.declared.tag.Tag.{Tag}
use Rattle.pk_base.specs.declared.call.Call.{Call}
use Rattle.pk_model.specs.Maps.{EntityMap}
use Rattle.pk_model.specs.Modelling.{Outcome, MayBeAsked}
use Rattle.solid_model.specs.Sound.{IsSound}
use Rattle.solid_model.specs.Euler.{euler}

-- Wherever the call may be asked, the map that it leaves is sound: on a sound map, with enough
-- tags, which ascend and are not live.
abbrev pub KeepsSoundness : Call → Type 0
KeepsSoundness c =
    (m : EntityMap) (tags : List Tag) (o : Outcome) → MayBeAsked euler m c tags
    → euler.step m c tags ≡ Ok o → IsSound o.map

-- The map that the call leaves is the one that it was asked of.
abbrev pub ChangesNothing : Call → Type 0
ChangesNothing c =
    (m : EntityMap) (tags : List Tag) (o : Outcome) → euler.step m c tags ≡ Ok o → o.map ≡ m
