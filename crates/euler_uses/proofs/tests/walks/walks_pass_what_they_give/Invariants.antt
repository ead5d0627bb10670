use Rattle.euler_uses.proofs.tests.walks.walks_pass_what_they_give.Given as goal

-- the ledger is that of the blank
abbrev pub ghosts-play : goal.ghosts-play
ghosts-play g a = record { name = a.blank.name; parts = a.blank.parts }
