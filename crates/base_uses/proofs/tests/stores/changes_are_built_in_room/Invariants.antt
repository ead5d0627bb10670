use Rattle.base_uses.proofs.tests.stores.changes_are_built_in_room.Given as goal

-- the ledger is that of the blank
abbrev pub ghosts-build : goal.ghosts-build
ghosts-build g a = record { name = a.blank.name; parts = a.blank.parts }
