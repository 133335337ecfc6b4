use Rattle.rc_run_rows.proofs.running.differs_looking.Given as goal

abbrev pub ghosts-came_in_scan_heap : goal.ghosts-came_in_scan_heap
ghosts-came_in_scan_heap a = record { name = a.blank.name; parts = a.blank.parts }
