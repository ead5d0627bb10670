use Rattle.law_uses.proofs.tests.back.a_make_and_its_kill_leave_all_as_it_was.Given as goal

-- the ledger is that of the blank
abbrev pub ghosts-play : goal.ghosts-play
ghosts-play g a = record { name = a.blank.name; parts = a.blank.parts }
