use Rattle.session_uses.proofs.tests.crowd.visit_as.Given as goal

-- the ledger is that of the blank
abbrev pub ghosts-visit_many : goal.ghosts-visit_many
ghosts-visit_many g a = record { name = a.blank.name; parts = a.blank.parts }
