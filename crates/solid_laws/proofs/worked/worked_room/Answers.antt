use Rattle.std.proofs.Common.{refl}
use Rattle.solid_laws.proofs.worked.worked_room.Goals as goal

pub returns-clause-lamina_three : goal.returns-clause-lamina_three
returns-clause-lamina_three c = record { reaches = refl; number = refl; whole_number = refl; among = refl }

pub returns-clause-lamina_four : goal.returns-clause-lamina_four
returns-clause-lamina_four c = record { reaches = refl; number = refl; whole_number = refl; among = refl }

pub returns-clause-sweep_three : goal.returns-clause-sweep_three
returns-clause-sweep_three c = record { reaches = refl; number = refl; whole_number = refl; among = refl }

pub returns-clause-sweep_four : goal.returns-clause-sweep_four
returns-clause-sweep_four c = record { reaches = refl; number = refl; whole_number = refl; among = refl }

pub returns-clause-prism_three : goal.returns-clause-prism_three
returns-clause-prism_three c = record { reaches = refl; number = refl; whole_number = refl; among = refl }

pub returns-clause-prism_four : goal.returns-clause-prism_four
returns-clause-prism_four c = record { reaches = refl; number = refl; whole_number = refl; among = refl }

pub returns-clause-block : goal.returns-clause-block
returns-clause-block c = record { reaches = refl; number = refl; whole_number = refl; among = refl }
