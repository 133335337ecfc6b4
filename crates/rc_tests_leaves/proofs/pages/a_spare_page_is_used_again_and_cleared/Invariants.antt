use Rattle.rc_tests_leaves.proofs.pages.a_spare_page_is_used_again_and_cleared.Given as goal

abbrev pub ghosts-spare_page_is_cleared : goal.ghosts-spare_page_is_cleared
ghosts-spare_page_is_cleared g a = record { name = a.blank.name; parts = a.blank.parts }
