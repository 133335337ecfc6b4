use Rattle.std.proofs.Common.{◌++◌, ◌∙◌, sym, ap, map, replicate}
use Rattle.std.specs.Prelude.{flat_map}
use Rattle.rc_core.specs.Layout.{copies}
use Rattle.rc_core.specs.Laid.{held_kind}
use Rattle.rc_core.proofs.Laying.{after_ok, copies_kept}
use Rattle.rc_core.proofs.layouts.push_field.Goals as goal

pub returns-in-Some : goal.returns-in-Some
returns-in-Some c = λ layout is. after_ok c.push_copies.result (λ e. e
    ∙ ap (λ one. c.args.kinds.now.items ++ flat_map (λ kinds. kinds) (replicate c.in-Some.count one)) is
    ∙ ap (λ all. c.args.kinds.now.items ++ all) (sym (copies_kept c.in-Some.count layout))
    ∙ ap (λ length. c.args.kinds.now.items ++ map held_kind (copies length layout)) (sym c.in-Some.is)) c.push_copies.ensures
