use Rattle.std.proofs.Common.{map}
use Rattle.rc_prove.specs.Family.{family_of}
use Rattle.rc_seal.specs.Finding.{AreFirstMarks}
use Rattle.rc_seal.specs.Marking.{bits_of}
use Rattle.rc_seal.proofs.finding.all_marks.Given as goal

abbrev pub invariant-loop-number : goal.invariant-loop-number
invariant-loop-number l = AreFirstMarks l.routes (family_of l.claims.entries.items l.claims.exits.items l.claims.frames.items) l.number (map bits_of l.all.items)
