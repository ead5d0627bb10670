use Rattle.base_uses.proofs.tests.stores.net_changes_ascend.Given as goal

-- the ledger is that of the blank
abbrev pub ghosts-list_three : goal.ghosts-list_three
ghosts-list_three g a = record { name = a.blank.name; parts = a.blank.parts }
