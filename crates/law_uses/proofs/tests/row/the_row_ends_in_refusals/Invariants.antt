use Rattle.law_uses.proofs.tests.row.the_row_ends_in_refusals.Given as goal

-- the ledger is that of the blank
abbrev pub ghosts-play : goal.ghosts-play
ghosts-play g a = record { name = a.blank.name; parts = a.blank.parts }
