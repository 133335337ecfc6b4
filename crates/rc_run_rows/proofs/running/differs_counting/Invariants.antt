use Rattle.rc_run_rows.proofs.running.differs_counting.Given as goal

abbrev pub ghosts-came_in_count_heap : goal.ghosts-came_in_count_heap
ghosts-came_in_count_heap a = record { name = a.blank.name; parts = a.blank.parts }
