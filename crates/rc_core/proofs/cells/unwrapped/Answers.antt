use Rattle.std.proofs.Common.{◌∙◌, ap}
use Rattle.rc_core.specs.Shapes.{ty_of}
use Rattle.rc_core.proofs.Unwrapping.{unwrapped_smaller, unwrapped_inside, unwrapped_defined, unwrapped_cells}
use Rattle.rc_core.proofs.cells.unwrapped.Goals as goal

pub loop-ty-smaller : goal.loop-ty-smaller
loop-ty-smaller c =
    unwrapped_smaller c.args.structs.now c.requires.fit c.index-structs-number.result c.in-Struct.number (ty_of c.loop-ty.ty.now) (ty_of c.in-Some.only.now) c.loop-ty.invariant.0 (ap ty_of c.in-Struct.is) c.index-structs-number.is c.in-Some.ensures

pub loop-ty-preserved : goal.loop-ty-preserved
loop-ty-preserved c = (
  unwrapped_defined c.args.structs.now c.requires.fit c.index-structs-number.result c.in-Struct.number (ty_of c.loop-ty.ty.now) (ty_of c.in-Some.only.now) c.loop-ty.invariant.0 (ap ty_of c.in-Struct.is) c.index-structs-number.is c.in-Some.ensures,
  unwrapped_cells c.args.structs.now c.requires.fit c.index-structs-number.result c.in-Struct.number (ty_of c.loop-ty.ty.now) (ty_of c.in-Some.only.now) c.loop-ty.invariant.0 (ap ty_of c.in-Struct.is) c.index-structs-number.is c.in-Some.ensures
      ∙ c.loop-ty.invariant.1,
  λ n i. unwrapped_inside c.args.structs.now c.requires.fit c.index-structs-number.result c.in-Struct.number (ty_of c.loop-ty.ty.now) (ty_of c.in-Some.only.now) c.loop-ty.invariant.0 (ap ty_of c.in-Struct.is) c.index-structs-number.is c.in-Some.ensures n (c.loop-ty.invariant.2 n i),
)
