use Rattle.euler_uses.proofs.tests.thousand.a_thousand_marks_are_left_at_once.Given as goal

-- the ledger is that of the blank
abbrev pub ghosts-go_there_and_back : goal.ghosts-go_there_and_back
ghosts-go_there_and_back g a = record { name = a.blank.name; parts = a.blank.parts }
