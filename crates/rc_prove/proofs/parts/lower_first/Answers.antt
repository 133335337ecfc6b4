use Rattle.std.proofs.Common.{◌<◌, List, [], length, get_or, take, subst, arith}
use Rattle.std.proofs.lemmas.List.{length-map, get_or-map}
use Rattle.rc_facts.specs.Facts.{Known}
use Rattle.rc_code.specs.Running.{Reading}
use Rattle.rc_prove_parts.specs.declared.spot.Spot.{Spot}
use Rattle.rc_prove.specs.Visiting.{sets_of}
use Rattle.rc_prove.specs.Lowering.{Lessens, LooksAhead, Lowered}
use Rattle.rc_prove.specs.Family.{items_of, family_of, LessenedAt}
use Rattle.rc_prove.proofs.Families.{if_ok, lessened_at, looks_in}
use Rattle.rc_prove.proofs.Stretches.{ahead_part}
use Rattle.rc_prove.proofs.parts.lower_first.Goals as goal

pub returns : goal.returns
returns c =
    let frames = c.args.frames.now in
    let route = c.args.route.now in
    let g = route.place.function in
    let v = get_or frames g c.index-frames-place.result in
    let within : g < length frames = (let f = c.requires.frames in let l = length-map frames items_of in omega (arith, f, l)) in
    let is = get_or-map items_of frames g c.index-frames-place.result [] within in
    let to = c.entry_end-end.result in
    let old = sets_of c.args.entries.now c.args.exits.now v.items in
    let new = sets_of c.lower.new.entries c.lower.new.exits c.lower.new.frames in
    if_ok c.lower.result _ (λ losses. LessenedAt route (family_of c.args.entries.now c.args.exits.now frames) (family_of c.lower.new.entries c.lower.new.exits _) losses.lost)
    (λ losses l. lessened_at route c.args.entries.now c.args.exits.now c.lower.new.entries c.lower.new.exits frames v c.lower.new.frames losses.lost within is
    (λ (image : Reading). LooksAhead image route.place (take to route.spots.items) route.first old)
    (λ image looks. ahead_part image route.place route.spots.items route.first old (looks_in image route c.args.entries.now c.args.exits.now frames v is looks) to c.entry_end-end.ensures)
    (subst (λ (xs : List Spot). Lessens route.place (λ (image : Reading). LooksAhead image route.place (take to xs) route.first old) old new losses.lost) c.as_slice-spots.ensures.value
    (subst (λ (fs : List Known). Lowered route.place (take to c.as_slice-spots.result.now) route.first (sets_of c.args.entries.now c.args.exits.now fs) new losses.lost) c.as_mut_slice.ensures.value l).lessens))
    c.lower.ensures
