use Rattle.std.proofs.Common.{sym}
use Rattle.pk_model.proofs.TagLists.{tag_at-tags_of}
use Rattle.entity_store.proofs.tags.tag_in.Goals as goal

pub returns : goal.returns
returns c = rw c.from-tags.ensures (sym (tag_at-tags_of c.args.blocks.now c.args.place c.requires.place))
