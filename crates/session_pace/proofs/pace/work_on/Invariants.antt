use Rattle.session_pace.proofs.pace.work_on.Given as goal

-- the ledger is that of the blank
abbrev pub ghosts-work : goal.ghosts-work
ghosts-work a = record { name = a.blank.name; parts = a.blank.parts }
