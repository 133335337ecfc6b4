use Rattle.std.proofs.Common.{◌≡◌, ◌∙◌, List, ap, arith}
use Rattle.rc_core.specs.Layout.{Layout}
use Rattle.rc_defined.specs.Sizes.{capped}
use Rattle.rc_defined.proofs.Counted.{counts, cells_in}
use Rattle.rc_defined.proofs.Sized.{layouts_before, sized_more, sized_all}
use Rattle.rc_defined.proofs.sizes.sizes_of.Goals as goal

pub loop-structure-preserved : goal.loop-structure-preserved
loop-structure-preserved c =
    let layouts : List Layout = layouts_before c.args.structs.now c.loop-structure.structure-index in
    let told : c.as_slice.result.now ≡ counts layouts = c.as_slice.ensures.value ∙ c.loop-structure.invariant.so_far in
    record {
      so_far = sized_more c.args.structs.now c.loop-structure.structure-index c.loop-structure.sizes.items c.add.new.items.items c.structure-item.result c.fields_size-size.result
          (omega arith) c.structure-item.is (c.fields_size-size.ensures layouts told ∙ ap (λ fs. capped (cells_in layouts fs)) c.as_slice-in-loop-structure.ensures.value) c.in_ok-add.ensures.ok c.loop-structure.invariant.so_far;
    }

pub returns-clause-ok : goal.returns-clause-ok
returns-clause-ok c = sized_all c.args.structs.now c.loop-structure.structure-index c.loop-structure.sizes.items (omega arith) c.loop-structure.invariant.so_far
