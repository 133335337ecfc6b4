use Rattle.rc_tests_heaps.proofs.writing.what_is_read_is_written_back.Given as goal

abbrev pub ghosts-of_counting : goal.ghosts-of_counting
ghosts-of_counting g a = record { name = a.blank.name; parts = a.blank.parts }
