use Rattle.std.proofs.Common.{List, ◌∙◌, ap, arith, length, sym, add-one, get_or}
use Rattle.rc_core.specs.Evaluation.{local_at}
use Rattle.rc_code.specs.declared.kind.Storage.{Storage}
use Rattle.rc_code.specs.declared.kind.Storage.TheVariants as storage
use Rattle.rc_core.specs.declared.ty.NumberType.TheVariants.{Int}
use Rattle.rc_code.specs.Running.{kept}
use Rattle.rc_pile.specs.Stacks.{Stack, setting}
use Rattle.rc_calls.specs.Calling.{kept_first}
use Rattle.rc_calls.proofs.Calling.{kept_step, kept_long}
use Rattle.rc_calls.proofs.calls.keep_first.Goals as goal

pub keep-requires : goal.keep-requires
keep-requires c =
    let f = c.args.function.now in
    let few = c.requires.few in
    let there = c.requires.there in
    let test = c.loop-x-test.true in
    let long = kept_long c.loop-x.x f.locals c.args.pile.now.locals (omega (arith, few, test)) (omega (arith, there, test)) in
    let same = ap (λ (p : Stack). length p.locals) c.loop-x.invariant in
    omega (arith, long, same, test, there)

pub loop-x-preserved : goal.loop-x-preserved
loop-x-preserved c =
    let f = c.args.function.now in
    let old = c.args.pile.now in
    let x = c.loop-x.x in
    let few = c.requires.few in
    let there = c.requires.there in
    let test = c.loop-x-test.true in
    c.keep.ensures
    ∙ ap (λ (ss : List Storage). setting x (kept (get_or ss x (storage.Number Int)) (local_at c.loop-x.pile.locals x)) c.loop-x.pile) c.as_slice-storages.ensures
    ∙ ap (λ (p : Stack). setting x (kept (get_or f.locals x (storage.Number Int)) (local_at p.locals x)) p) c.loop-x.invariant
    ∙ ap (λ ls. record old { locals = ls }) (sym (kept_step x (storage.Number Int) f.locals old.locals (omega (arith, few, test)) (omega (arith, there, test))))
    ∙ ap (λ n. record old { locals = kept_first n f.locals old.locals }) (sym (add-one x))
