use Rattle.std.proofs.Common.{◌∙◌, length, get_or, sym, ap, subst}
use Rattle.rc_code.specs.declared.image.Function.{Function}
use Rattle.rc_code.specs.Running.{function_at, reading_of}
use Rattle.rc_claims.specs.Counts.{frame_count}
use Rattle.rc_fact_bits.specs.Framing.{AreFramesOf}
use Rattle.rc_prove.specs.Starting.{AreWithin}
use Rattle.rc_seal.specs.Claiming.{family, AreFramesAt}
use Rattle.rc_seal.proofs.Claiming.{one, as_many, locals_within, wide_enough, no_counts}
use Rattle.rc_seal.proofs.Targets.{cut, few_marked, frames_at}
use Rattle.rc_seal.proofs.claims.frames_in.Goals as goal

pub frames_of-requires-clause-room : goal.frames_of-requires-clause-room
frames_of-requires-clause-room c =
    let sets = c.args.sets.now in
    wide_enough sets.parts.now (family sets) c.args.number (get_or sets.counts.now c.args.number no_counts) (one sets c.requires.sets c.args.number c.requires.there no_counts) c.args.locals c.args.frames.now c.requires.locals c.requires.frames

pub frames_of-requires-clause-enough : goal.frames_of-requires-clause-enough
frames_of-requires-clause-enough c =
    let sets = c.args.sets.now in
    let parts = sets.parts.now in
    let f = function_at (reading_of parts) c.args.number in
    few_marked f c.first-targets.result.now (length c.args.frames.now)
    (cut (reading_of parts) f c.as_slice-count.result.now c.in_ok-shape.shape.targets.items c.as_slice.result.now c.first-targets.result.now
    (c.requires.sets.sound.functions c.args.number c.requires.there)
    (c.as_slice-count.ensures ∙ ap (λ (h : Function). h.code) c.function_of.ensures)
    c.in_ok-shape.ensures.targets c.as_slice.ensures.value c.first-targets.ensures.long c.first-targets.ensures.same)
    (as_many parts (family sets) c.args.number (get_or sets.counts.now c.args.number no_counts) (one sets c.requires.sets c.args.number c.requires.there no_counts) c.args.frames.now c.requires.frames)

pub returns : goal.returns
returns c =
    let sets = c.args.sets.now in
    let parts = sets.parts.now in
    let f = function_at (reading_of parts) c.args.number in
    let counts = get_or sets.counts.now c.args.number no_counts in
    let part = c.first-targets.result.now in
    let frames = c.args.frames.now in
    subst (AreFramesAt parts (family sets) c.args.number) (sym c.new.ensures)
    (frames_at parts (family sets) c.args.number counts.variables counts.targets part c.in_ok-made.made.items frames c.requires.frames
    (cut (reading_of parts) f c.as_slice-count.result.now c.in_ok-shape.shape.targets.items c.as_slice.result.now part
    (c.requires.sets.sound.functions c.args.number c.requires.there)
    (c.as_slice-count.ensures ∙ ap (λ (h : Function). h.code) c.function_of.ensures)
    c.in_ok-shape.ensures.targets c.as_slice.ensures.value c.first-targets.ensures.long c.first-targets.ensures.same)
    (subst (AreWithin (frame_count f) counts.variables counts.targets) (sym c.requires.frames) (locals_within parts (family sets) c.args.number counts (one sets c.requires.sets c.args.number c.requires.there no_counts)))
    (subst (λ n. AreFramesOf n frames part c.in_ok-made.made.items) c.requires.locals c.in_ok-made.ensures))
