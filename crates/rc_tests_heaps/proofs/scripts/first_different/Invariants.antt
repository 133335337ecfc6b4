use Rattle.rc_tests_heaps.proofs.scripts.first_different.Given as goal

abbrev pub ghosts-of_plain : goal.ghosts-of_plain
ghosts-of_plain a = record { name = a.blank.name; parts = a.blank.parts }

abbrev pub ghosts-of_counting : goal.ghosts-of_counting
ghosts-of_counting a = record { name = a.blank.name; parts = a.blank.parts }
