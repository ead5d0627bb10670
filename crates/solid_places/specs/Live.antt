-- What is live under a tag.
use Rattle.std.specs.Prelude.{Option, Some, None, Result, Ok, Err}
use Rattle.pk_base.specs.declared.tag.Tag.{Tag}
use Rattle.pk_base.specs.declared.entity.Entity.{Entity}
use Rattle.pk_base.specs.declared.refusal.Refusal.{Refusal}
use Rattle.pk_base.specs.declared.refusal.Refusal.TheVariants.{NoSuchTag}

-- the entity under the tag, or the refusal of a tag that is not live
abbrev pub live_or_refused : Tag → Option Entity → Result Entity Refusal
live_or_refused t None = Err (NoSuchTag t)
live_or_refused t (Some e) = Ok e
