use Rattle.base_uses.proofs.tests.trees.a_path_and_a_removal_with_two_children.Given as goal

-- the ledger is that of the blank
abbrev pub ghosts-path : goal.ghosts-path
ghosts-path g a = record { name = a.blank.name; parts = a.blank.parts }
