use Rattle.rc_tests_heaps.proofs.writing.what_is_read_is_written_back_on_the_plain_heap.Given as goal

abbrev pub ghosts-of_plain : goal.ghosts-of_plain
ghosts-of_plain g a = record { name = a.blank.name; parts = a.blank.parts }
