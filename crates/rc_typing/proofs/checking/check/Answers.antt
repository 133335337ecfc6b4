use Rattle.rc_typing.proofs.checking.check.Goals as goal

pub check_limited-requires : goal.check_limited-requires
check_limited-requires c = let w = c.requires in c.keeps_limits.ensures w.words w.derived w.few w.short
