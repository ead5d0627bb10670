use Rattle.solid_calls.proofs.NextTags.{left-taken, takes-one, used_within}
use Rattle.solid_calls.proofs.tags.take_tag.Goals as goal

pub take-tag-requires : goal.take-tag-requires
take-tag-requires c = used_within c.args.tags.now c.requires.enough

pub returns-clause-tag : goal.returns-clause-tag
returns-clause-tag c = left-taken c.args.tags.now _ _ c.requires.enough c.take-tag.ensures.tag c.take-tag.ensures.used

pub returns-clause-takes : goal.returns-clause-takes
returns-clause-takes c = takes-one c.args.tags.now _ _ c.args.out.now _ (returns-clause-tag c) c.take-tag.ensures.used c.push.ensures.items c.push.ensures.spare
