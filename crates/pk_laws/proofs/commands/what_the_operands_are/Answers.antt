use Rattle.std.proofs.Common.{refl}
use Rattle.pk_laws.proofs.commands.what_the_operands_are.Goals as goal

pub returns-clause-two : goal.returns-clause-two
returns-clause-two c = refl

pub returns-clause-one : goal.returns-clause-one
returns-clause-one c = refl

pub returns-clause-none_of_call : goal.returns-clause-none_of_call
returns-clause-none_of_call c = refl

pub returns-clause-none_of_act : goal.returns-clause-none_of_act
returns-clause-none_of_act c = refl

pub returns-clause-on_two : goal.returns-clause-on_two
returns-clause-on_two c = refl

pub returns-clause-on_one : goal.returns-clause-on_one
returns-clause-on_one c = refl

pub returns-clause-on_no_tags : goal.returns-clause-on_no_tags
returns-clause-on_no_tags c = refl

pub returns-clause-on_no_fields : goal.returns-clause-on_no_fields
returns-clause-on_no_fields c = refl
