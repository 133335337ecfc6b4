use Rattle.std.proofs.Common.{◌+◌, ◌∙◌, inl, inr, take, sym, ap, subst, arith, add-one}
use Rattle.std.proofs.lemmas.Bool.{false≢true}
use Rattle.std.proofs.lemmas.List.{take_all}
use Rattle.std.specs.Prelude.{not}
use Rattle.rc_store.specs.Sets.{is_in}
use Rattle.rc_registry.specs.Registries.{has_child, is_marked}
use Rattle.rc_registry.proofs.Marked.{both_true, not_in, take_in, take_within}
use Rattle.rc_registry.proofs.Thinned.{IsSettled, all_clear, all_gone, goes_apart, goes_older, goes_unnamed, root_unmarked, settled_end, settled_more, thinned_more, thinned_none}
use Rattle.rc_registry.proofs.groups.remove_all.Goals as goal

pub loop-member-init : goal.loop-member-init
loop-member-init c = record {
  thinned = thinned_none c.args.registry.now c.args.set.now c.args.marks.now c.set_marks.ensures.apart c.requires.live c.requires.room c.requires.clear c.set_marks.new.marks c.set_marks.ensures.marks c.set_marks.auto.marks;
  settled = λ n never live. absurd (false≢true never);
}

pub up-init : goal.up-init
up-init c = record {
  thinned = c.loop-member.invariant.thinned;
  settled = λ n turn live other. elim (take_in c.loop-member.member-index c.args.set.now n c.loop-member-test.true (ap (λ k. is_in (take k c.args.set.now) n) (sym (add-one c.loop-member.member-index)) ∙ turn)) [
    | inl old ↦ c.loop-member.invariant.settled n old live
    | inr here ↦ absurd (other here)
  ];
}

pub may_go-requires-clause-root : goal.may_go-requires-clause-root
may_go-requires-clause-root c = root_unmarked c.args.registry.now c.args.set.now c.up.registry c.up.marks c.up.invariant.thinned (not_in c.args.set.now 0 c.requires.not_root)

pub take_out-region-requires-clause-not_root : goal.take_out-region-requires-clause-not_root
take_out-region-requires-clause-not_root c =
    let goes = both_true (is_marked c.up.registry.members c.up.marks c.up.region) (not (has_child c.up.registry.members c.up.region)) (sym c.may_go.ensures ∙ c.up-test.true) in
    goes_apart c.args.registry.now c.args.set.now c.up.registry c.up.marks c.up.invariant.thinned c.up.region goes.0 (not_in c.args.set.now 0 c.requires.not_root)

pub take_out-region-requires-clause-unnamed : goal.take_out-region-requires-clause-unnamed
take_out-region-requires-clause-unnamed c =
    let goes = both_true (is_marked c.up.registry.members c.up.marks c.up.region) (not (has_child c.up.registry.members c.up.region)) (sym c.may_go.ensures ∙ c.up-test.true) in
    goes_unnamed c.args.registry.now c.args.set.now c.up.registry c.up.marks c.up.invariant.thinned c.up.region goes.0 c.requires.unnamed

pub up-smaller : goal.up-smaller
up-smaller c =
    let goes = both_true (is_marked c.up.registry.members c.up.marks c.up.region) (not (has_child c.up.registry.members c.up.region)) (sym c.may_go.ensures ∙ c.up-test.true) in
    let older = goes_older c.args.registry.now c.args.set.now c.up.registry c.up.marks c.up.invariant.thinned c.up.region goes.0 c.set_marks.ensures.older (not_in c.args.set.now 0 c.requires.not_root) in
    omega (arith, older, c.take_out-region.ensures.parent)

pub up-preserved : goal.up-preserved
up-preserved c =
    let out = c.take_out-region in
    let turned = take (c.loop-member.member-index + 1) c.args.set.now in
    let goes = both_true (is_marked c.up.registry.members c.up.marks c.up.region) (not (has_child c.up.registry.members c.up.region)) (sym c.may_go.ensures ∙ c.up-test.true) in
    record {
      thinned = thinned_more c.args.registry.now c.args.set.now c.up.registry c.up.marks c.up.invariant.thinned c.up.region goes.0 out.new.registry out.new.marks out.ensures.members out.ensures.slots out.ensures.counts out.ensures.marks c.set_marks.ensures.apart;
      settled = subst (λ p. IsSettled turned p out.new.registry) (sym out.ensures.parent)
          (settled_more c.args.registry.now c.args.set.now c.up.registry c.up.marks c.up.invariant.thinned c.up.region goes.0 out.new.registry out.new.marks out.ensures.members out.ensures.slots out.ensures.counts out.ensures.marks turned c.up.invariant.settled);
    }

pub loop-member-preserved : goal.loop-member-preserved
loop-member-preserved c = record {
  thinned = c.up.invariant.thinned;
  settled = settled_end c.args.registry.now c.args.set.now c.up.registry c.up.marks c.up.invariant.thinned (take (c.loop-member.member-index + 1) c.args.set.now) c.up.region
      (λ n turn. take_within (c.loop-member.member-index + 1) c.args.set.now n turn) c.up.invariant.settled (sym c.may_go.ensures ∙ c.up-test.false);
}

pub returns-clause-members : goal.returns-clause-members
returns-clause-members c =
    let past = take_all c.loop-member.member-index c.args.set.now c.loop-member-test.false in
    all_gone c.args.registry.now c.args.set.now c.loop-member.registry c.loop-member.marks c.loop-member.invariant.thinned c.set_marks.ensures.older (not_in c.args.set.now 0 c.requires.not_root) c.requires.closed
    (λ n there live. c.loop-member.invariant.settled n (ap (λ xs. is_in xs n) past ∙ there) live)

pub returns-clause-clear : goal.returns-clause-clear
returns-clause-clear c =
    let past = take_all c.loop-member.member-index c.args.set.now c.loop-member-test.false in
    all_clear c.args.registry.now c.args.set.now c.loop-member.registry c.loop-member.marks c.loop-member.invariant.thinned c.set_marks.ensures.older (not_in c.args.set.now 0 c.requires.not_root) c.requires.closed
    (λ n there live. c.loop-member.invariant.settled n (ap (λ xs. is_in xs n) past ∙ there) live)
