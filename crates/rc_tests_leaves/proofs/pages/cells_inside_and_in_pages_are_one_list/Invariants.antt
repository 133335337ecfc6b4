use Rattle.rc_tests_leaves.proofs.pages.cells_inside_and_in_pages_are_one_list.Given as goal

abbrev pub ghosts-edge_is_crossed : goal.ghosts-edge_is_crossed
ghosts-edge_is_crossed g a = record { name = a.blank.name; parts = a.blank.parts }
