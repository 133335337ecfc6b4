use Rattle.std.proofs.Common.{map, subst}
use Rattle.rc_syntax.specs.Shape.{item_of}
use Rattle.rc_defined.specs.Fields.{struct_in}
use Rattle.rc_defined.specs.Sizes.{HasSizes}
use Rattle.rc_defined.proofs.Gathered.{structs_count}
use Rattle.rc_defined.proofs.building.gather.Goals as goal

pub invariant_of-result-clause-named : goal.invariant_of-result-clause-named
invariant_of-result-clause-named c = structs_count (map item_of c.args.items.now) c.in_ok-types.types c.in_ok-structs.structs.items c.in_ok-types.ensures.ok c.in_ok-structs.ensures.ok

pub invariant_of-result-clause-sized : goal.invariant_of-result-clause-sized
invariant_of-result-clause-sized c = subst (λ ss. HasSizes (map struct_in ss) c.in_ok-sizes.sizes.items) c.as_slice.ensures.value c.in_ok-sizes.ensures.ok
