use Rattle.rc_tests_leaves.proofs.pages.a_refused_push_leaves_the_list.Given as goal

abbrev pub ghosts-refused_push_leaves_the_list : goal.ghosts-refused_push_leaves_the_list
ghosts-refused_push_leaves_the_list g a = record { name = a.blank.name; parts = a.blank.parts }
