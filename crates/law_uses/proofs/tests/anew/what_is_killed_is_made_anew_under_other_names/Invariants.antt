use Rattle.law_uses.proofs.tests.anew.what_is_killed_is_made_anew_under_other_names.Given as goal

-- the ledger is that of the blank
abbrev pub ghosts-play : goal.ghosts-play
ghosts-play g a = record { name = a.blank.name; parts = a.blank.parts }
