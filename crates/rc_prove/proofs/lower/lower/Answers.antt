use Rattle.std.proofs.Common.{◌≡◌, ◌∙◌, ◌↔◌, ◌||◌, suc, IsTrue, get_or, refl, sym, subst}
use Rattle.rc_facts.specs.Derivable.{Derivable}
use Rattle.rc_facts.specs.Facts.{Known, holds}
use Rattle.rc_annotations.specs.Annotations.{some_pair}
use Rattle.rc_facts.specs.Flow.{no_set, set_at}
use Rattle.rc_boundaries.proofs.Handing.{set_there}
use Rattle.rc_sealed.specs.Carrying.{entry_pairs}
use Rattle.rc_prove.specs.Visiting.{sets_of}
use Rattle.rc_prove.proofs.Entering.{lowered_by, entered_ready, begun_shut}
use Rattle.rc_prove.proofs.Shapes.{spot_later}
use Rattle.rc_prove.proofs.lower.lower.Goals as goal

pub meet-lost-requires-clause-shut : goal.meet-lost-requires-clause-shut
meet-lost-requires-clause-shut c =
    let there : get_or c.args.entries.now c.args.place.function no_set ≡ get_or c.args.entries.now c.args.place.function c.index-entries-place.result = set_there c.args.entries.now c.args.place.function c.index-entries-place.result c.requires.there c.index-entries-place.is ∙ c.index-entries-place.is in
    begun_shut c.args.place (sets_of c.args.entries.now c.args.exits.now c.args.frames.now) c.in_ok-work.work c.requires.room c.requires.over c.in_ok-work.ensures.variables
    (λ fact. subst (λ (k : Known). IsTrue (holds c.in_ok-work.work fact) ↔ Derivable (suc (suc c.args.place.result)) (λ p. holds k p || some_pair (entry_pairs c.args.place.copies c.args.place.copies) p) fact) (sym there) (c.in_ok-work.ensures.facts fact))

pub pass-requires-clause-spots : goal.pass-requires-clause-spots
pass-requires-clause-spots c = λ k d lt. spot_later c.args.place (sets_of c.args.entries.now c.args.exits.now c.args.frames.now) (sets_of c.args.entries.now c.args.exits.now c.meet-lost.new.frames) (get_or c.args.spots.now k d)
    (record { entries = refl; exits = refl; frames = c.meet-lost.ensures.long; entry = λ p. refl; exit = λ p. refl; frame = c.meet-lost.ensures.variables }) (c.requires.spots k d lt)

pub pass-requires-clause-ready : goal.pass-requires-clause-ready
pass-requires-clause-ready c =
    let there : get_or c.args.entries.now c.args.place.function no_set ≡ get_or c.args.entries.now c.args.place.function c.index-entries-place.result = set_there c.args.entries.now c.args.place.function c.index-entries-place.result c.requires.there c.index-entries-place.is ∙ c.index-entries-place.is in
    entered_ready c.args.place c.args.first (sets_of c.args.entries.now c.args.exits.now c.args.frames.now) c.meet-lost.new.frames c.in_ok-work.work c.resume.new.work c.requires.room c.requires.over c.requires.place.frames
    (λ fact. subst (λ (k : Known). IsTrue (holds c.in_ok-work.work fact) ↔ Derivable (suc (suc c.args.place.result)) (λ p. holds k p || some_pair (entry_pairs c.args.place.copies c.args.place.copies) p) fact) (sym there) (c.in_ok-work.ensures.facts fact))
    c.meet-lost.result c.meet-lost.ensures c.resume.ensures.kept
    (λ r e fact. subst (λ n. IsTrue (holds c.resume.new.work fact) ↔ Derivable n (set_at c.meet-lost.new.frames r) fact) c.in_ok-work.ensures.variables (c.resume.ensures.whole r e fact))

pub returns : goal.returns
returns c =
    let there : get_or c.args.entries.now c.args.place.function no_set ≡ get_or c.args.entries.now c.args.place.function c.index-entries-place.result = set_there c.args.entries.now c.args.place.function c.index-entries-place.result c.requires.there c.index-entries-place.is ∙ c.index-entries-place.is in
    lowered_by c.args.place c.args.spots.now c.args.first (sets_of c.args.entries.now c.args.exits.now c.args.frames.now) (sets_of c.pass.new.entries c.pass.new.exits c.pass.new.frames) c.meet-lost.new.frames c.in_ok-work.work c.resume.new.work c.pass.new.work c.meet-lost.result c.in_ok-more.more.lost
    c.requires.room
    (λ fact. subst (λ (k : Known). IsTrue (holds c.in_ok-work.work fact) ↔ Derivable (suc (suc c.args.place.result)) (λ p. holds k p || some_pair (entry_pairs c.args.place.copies c.args.place.copies) p) fact) (sym there) (c.in_ok-work.ensures.facts fact))
    c.meet-lost.ensures c.resume.ensures.kept
    (λ r e fact. subst (λ n. IsTrue (holds c.resume.new.work fact) ↔ Derivable n (set_at c.meet-lost.new.frames r) fact) c.in_ok-work.ensures.variables (c.resume.ensures.whole r e fact))
    c.in_ok-more.ensures
