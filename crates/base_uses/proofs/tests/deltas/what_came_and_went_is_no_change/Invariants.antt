use Rattle.base_uses.proofs.tests.deltas.what_came_and_went_is_no_change.Given as goal

-- the ledger is that of the blank
abbrev pub ghosts-compose : goal.ghosts-compose
ghosts-compose g a = record { name = a.blank.name; parts = a.blank.parts }
