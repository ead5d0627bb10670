use Rattle.base_uses.proofs.tests.stores.a_tag_put_back_is_no_change.Given as goal

-- the ledger is that of the blank
abbrev pub ghosts-put_back : goal.ghosts-put_back
ghosts-put_back g a = record { name = a.blank.name; parts = a.blank.parts }
