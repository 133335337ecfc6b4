use Rattle.std.proofs.Common.{◌≡◌, ◌∙◌, Some, length, sym, ap}
use Rattle.std.proofs.lemmas.Bool.{ltb-true}
use Rattle.std.proofs.lemmas.Option.{slice_get-get_or}
use Rattle.std.specs.Prelude.{slice_get}
use Rattle.rc_claims.specs.declared.proofs.Frame.{Frame}
use Rattle.rc_image_claims.proofs.Searching.{outside, split_none, split_one}
use Rattle.rc_image_claims.proofs.frames.frame_at.Goals as goal

pub returns-then-frame-at : goal.returns-then-frame-at
returns-then-frame-at c =
    let lookup = c.in-Some.ensures.lookup in
    let place = c.first_from-place.result in
    let there : slice_get c.args.frames.now place ≡ Some c.in-Some.frame.now = slice_get-get_or c.args.frames.now place c.in-Some.frame.now (ltb-true place (length c.args.frames.now) (sym lookup.0)) ∙ ap Some (sym lookup.1) in
    split_one c.args.frames.now c.args.at place c.in-Some.frame.now c.first_from-place.ensures there c.if-frame-at.true

pub returns-else-frame-at : goal.returns-else-frame-at
returns-else-frame-at c =
    let lookup = c.in-Some.ensures.lookup in
    let place = c.first_from-place.result in
    let there : slice_get c.args.frames.now place ≡ Some c.in-Some.frame.now = slice_get-get_or c.args.frames.now place c.in-Some.frame.now (ltb-true place (length c.args.frames.now) (sym lookup.0)) ∙ ap Some (sym lookup.1) in
    split_none c.args.frames.now c.args.at place c.requires c.first_from-place.ensures (λ frame e is. c.if-frame-at.false (let q : Some c.in-Some.frame.now ≡ Some frame = sym there ∙ e in let r : c.in-Some.frame.now ≡ frame = cc in ap (λ (g : Frame). g.at) r ∙ is))

pub returns-in-None : goal.returns-in-None
returns-in-None c = split_none c.args.frames.now c.args.at c.first_from-place.result c.requires c.first_from-place.ensures (λ frame e is. outside c.args.frames.now c.first_from-place.result frame c.in-None.ensures.lookup.3 e)
