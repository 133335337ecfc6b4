use Rattle.rc_tests_heaps.proofs.steps.first_wrong_of_plain.Given as goal

abbrev pub ghosts-walk_plain : goal.ghosts-walk_plain
ghosts-walk_plain a = record { name = a.blank.name; parts = a.blank.parts }
