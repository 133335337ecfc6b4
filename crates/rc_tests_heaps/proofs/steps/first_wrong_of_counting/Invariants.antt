use Rattle.rc_tests_heaps.proofs.steps.first_wrong_of_counting.Given as goal

abbrev pub ghosts-walk_counting : goal.ghosts-walk_counting
ghosts-walk_counting a = record { name = a.blank.name; parts = a.blank.parts }
