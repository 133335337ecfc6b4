use Rattle.std.proofs.Common.{suc, ◌∙◌, refl, arith}
use Rattle.rc_boundaries.proofs.Handing.{exit_long, exit_below}
use Rattle.rc_prove.proofs.Exits.{given_exit}
use Rattle.rc_prove.proofs.meeting.give_result.Goals as goal

pub read-requires-clause-names : goal.read-requires-clause-names
read-requires-clause-names c = λ k d lt. (let l = exit_below c.as_slice.result.now c.args.place.copies c.args.place.result (suc c.args.place.result) (c.as_slice.ensures.value ∙ c.in_ok-names.ensures) refl c.requires.copies k d lt in let w = c.requires.work in omega (arith, l, w))

pub read-requires-clause-room : goal.read-requires-clause-room
read-requires-clause-room c = let long = exit_long c.as_slice.result.now c.args.place.copies c.args.place.result (c.as_slice.ensures.value ∙ c.in_ok-names.ensures) in omega (arith, long)

pub returns : goal.returns
returns c = given_exit c.args.place c.lose.result c.args.exits.now c.lose.new.sets c.args.work.now c.in_ok-found.found c.as_slice.result.now (c.as_slice.ensures.value ∙ c.in_ok-names.ensures) c.lose.ensures c.in_ok-found.ensures.facts
