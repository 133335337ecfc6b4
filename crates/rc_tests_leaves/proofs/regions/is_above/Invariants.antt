use Rattle.rc_tests_leaves.proofs.regions.is_above.Given as goal

abbrev pub ghosts-is_above_from : goal.ghosts-is_above_from
ghosts-is_above_from a = record { name = a.blank.name; parts = a.blank.parts }
