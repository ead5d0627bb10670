-- An act is made of its fields also with other tags in the place of theirs.
use Rattle.std.proofs.Common.{◌≡◌, List, Some, rules}
use Rattle.pk_base.specs.declared.tag.Tag.{Tag}
use Rattle.pk_base.specs.declared.act.Act.{Act}
use Rattle.pk_command.specs.Commands.{act_of, fields_of, verb_of}
use Rattle.pk_command.specs.Operands.{act_on, with_tags}

pub act_of-with_tags : (a : Act) (tags : List Tag) → act_of (verb_of a) (with_tags (fields_of a) tags) ≡ Some (act_on a tags)
act_of-with_tags a tags = search rules
