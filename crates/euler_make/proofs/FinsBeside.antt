-- How many fins of a ring stand beside a new edge.
use Rattle.std.proofs.Common.{◌≡◌, ℕ, Option, None, Some, length, sym, ap, ◌∙◌}
use Rattle.std.specs.Prelude.{IfSome, MatchOption}
use Rattle.pk_base.specs.declared.tag.Tag.{Tag}
use Rattle.pk_model.specs.Maps.{EntityMap}
use Rattle.solid_model.specs.Rings.{ends_of}
use Rattle.halfedge.specs.LinkedRings.{IsInRing, ring_of_any}
use Rattle.halfedge.proofs.LinkedRings.{in-ring_starts}

pub beside-ends : (m : EntityMap) (ring : Option Tag) (n : ℕ) → IfSome ring (IsInRing m) → MatchOption ring (n ≡ 0) (λ fin. n ≡ 2) → n ≡ length (ends_of (ring_of_any m ring))
beside-ends m None n h is = is
beside-ends m (Some fin) n h is = is ∙ ap (λ ts. length (ends_of ts)) (sym (in-ring_starts m fin h))
