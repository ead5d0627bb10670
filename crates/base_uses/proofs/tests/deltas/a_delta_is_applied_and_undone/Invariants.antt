use Rattle.base_uses.proofs.tests.deltas.a_delta_is_applied_and_undone.Given as goal

-- the ledger is that of the blank
abbrev pub ghosts-apply : goal.ghosts-apply
ghosts-apply g a = record { name = a.blank.name; parts = a.blank.parts }
