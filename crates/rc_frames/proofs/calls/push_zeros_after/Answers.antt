use Rattle.std.proofs.Common.{◌≡◌, ◌∙◌, ◌++◌, ap, map, subst, OnOk}
use Rattle.std.proofs.lemmas.List.{take_rest}
use Rattle.rc_core.specs.Heap.{zero_of}
use Rattle.rc_core.specs.Shapes.{ty_of}
use Rattle.rc_values.proofs.Lists.{drop_mapped}
use Rattle.rc_frames.proofs.calls.push_zeros_after.Goals as goal

pub returns-clause-zeros : goal.returns-clause-zeros
returns-clause-zeros c =
    subst (λ l. OnOk c.push_zeros.result (c.push_zeros.new.values ≡ c.args.values.now ++ map zero_of l))
    (ap (map ty_of) (take_rest c.args.types.now c.args.passed) ∙ drop_mapped ty_of c.args.passed c.args.types.now)
    c.push_zeros.ensures.zeros
