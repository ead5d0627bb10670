use Rattle.base_uses.proofs.tests.stores.lists_say_what_came_and_went.Given as goal

-- the ledger is that of the blank
abbrev pub ghosts-list_tags : goal.ghosts-list_tags
ghosts-list_tags g a = record { name = a.blank.name; parts = a.blank.parts }
