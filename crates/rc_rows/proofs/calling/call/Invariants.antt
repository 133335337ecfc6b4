use Rattle.rc_rows.proofs.calling.call.Given as goal

abbrev pub ghosts-answer_to : goal.ghosts-answer_to
ghosts-answer_to a = record { name = a.blank.name; parts = a.blank.parts }
