use Rattle.rc_tests_leaves.proofs.pages.a_full_bank_frees_the_others.Given as goal

abbrev pub ghosts-full_bank_frees_the_others : goal.ghosts-full_bank_frees_the_others
ghosts-full_bank_frees_the_others g a = record { name = a.blank.name; parts = a.blank.parts }
