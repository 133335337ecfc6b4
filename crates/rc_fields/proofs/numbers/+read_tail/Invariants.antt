use Rattle.rc_fields.proofs.numbers.+read_tail.Given as goal

abbrev pub decreases-read_tail : goal.decreases-read_tail
decreases-read_tail l = l.more
