use Rattle.std.proofs.Common.{◌<◌, List, [], length, get_or, subst, arith}
use Rattle.std.proofs.lemmas.List.{length-map, get_or-map}
use Rattle.rc_facts.specs.Facts.{Known}
use Rattle.rc_prove_parts.specs.declared.spot.Spot.{Spot}
use Rattle.rc_prove.specs.Visiting.{sets_of}
use Rattle.rc_prove.specs.Lowering.{Lowered}
use Rattle.rc_prove.specs.Family.{items_of}
use Rattle.rc_prove.proofs.Families.{lowered_at}
use Rattle.rc_prove.proofs.rounds.lower_at.Goals as goal

pub returns : goal.returns
returns c =
    let frames = c.args.frames.now in
    let g = c.args.route.now.place.function in
    let v = get_or frames g c.index-frames-place.result in
    let within : g < length frames = (let f = c.requires.frames in let l = length-map frames items_of in omega (arith, f, l)) in
    let l : Lowered c.args.route.now.place c.as_slice.result.now c.args.route.now.first (sets_of c.args.entries.now c.args.exits.now c.as_mut_slice.result.now) (sets_of c.lower.new.entries c.lower.new.exits c.lower.new.frames) c.in_ok-losses.losses.lost = c.in_ok-losses.ensures in
    lowered_at c.args.route.now c.args.entries.now c.args.exits.now c.lower.new.entries c.lower.new.exits frames v c.lower.new.frames c.in_ok-losses.losses.lost within (get_or-map items_of frames g c.index-frames-place.result [] within)
    (subst (λ (spots : List Spot). Lowered c.args.route.now.place spots c.args.route.now.first (sets_of c.args.entries.now c.args.exits.now v.items) (sets_of c.lower.new.entries c.lower.new.exits c.lower.new.frames) c.in_ok-losses.losses.lost) c.as_slice.ensures.value
    (subst (λ (fs : List Known). Lowered c.args.route.now.place c.as_slice.result.now c.args.route.now.first (sets_of c.args.entries.now c.args.exits.now fs) (sets_of c.lower.new.entries c.lower.new.exits c.lower.new.frames) c.in_ok-losses.losses.lost) c.as_mut_slice.ensures.value l))
