use Rattle.std.proofs.Common.{rules, subst, OnOk, w64, SFits, to_z-of_z}
use Rattle.rc_core.specs.Shapes.{ty_of}
use Rattle.rc_rlang.specs.RegionCode.{one, set, constant}
use Rattle.rc_region_steps.specs.Adding.{Adds}
use Rattle.rc_region_steps.proofs.into.constant.Goals as goal

pub returns : goal.returns
returns c structs =
    let fits : SFits w64 c.args.value = search rules in
    subst (λ z. OnOk c.set.result (Adds structs c.args.steps.now.items c.set.new.steps.items (one (set c.args.into.line c.args.into.temporary (ty_of c.args.into.ty) (constant c.args.signedness z))))) (to_z-of_z fits) (c.set.ensures structs)
