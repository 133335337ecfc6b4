use Rattle.std.proofs.Common.{◌≡◌, List, map, take, rules, arith, subst, sym}
use Rattle.rc_core.specs.Layout.{Layout, layouts_of}
use Rattle.rc_core.specs.Shapes.{field_of, struct_of}
use Rattle.rc_core.specs.declared.parts.Field.{Field as CodeField}
use Rattle.rc_core.specs.Laid.{HaveCells, IsLaidOut}
use Rattle.rc_core.proofs.Laying.{struct_step, structs_done}
use Rattle.rc_core.proofs.layouts.Layouts.new.Goals as goal

pub loop-structure-preserved : goal.loop-structure-preserved
loop-structure-preserved c =
    let of : List Layout = layouts_of (take c.loop-structure.structure-index (map struct_of c.args.structs.now)) in
    let same : c.as_slice.result.now ≡ c.loop-structure.layouts.items = c.as_slice.ensures.value in
    let fields : c.as_slice-in-loop-structure.result.now ≡ c.structure-item.result.fields.items = c.as_slice-in-loop-structure.ensures.value in
    let is = c.in_ok-layout.ensures of (subst (HaveCells of) (sym same) c.loop-structure.invariant.so_far) in
    let IsOf : List CodeField → Type 0 = λ items. IsLaidOut of (map field_of items) c.in_ok-layout.layout in
    struct_step c.args.structs.now c.loop-structure.structure-index c.structure-item.result c.loop-structure.layouts.items c.push.new.self.items c.in_ok-layout.layout c.requires c.loop-structure-test.true c.structure-item.is c.loop-structure.invariant (subst IsOf fields is) (search rules)

pub returns : goal.returns
returns c = structs_done c.args.structs.now c.loop-structure.structure-index c.loop-structure.layouts.items (omega arith) c.loop-structure.invariant
