use Rattle.std.proofs.Common.{◌≡◌, ◌≤◌, ◌+◌, List, drop}
use Rattle.rc_core.specs.Layout.{Layout}
use Rattle.rc_defined.specs.Sizes.{capped}
use Rattle.rc_defined.proofs.Counted.{counts, cells_in}
use Rattle.rc_defined.proofs.sizes.fields_size.Given as goal

abbrev pub invariant-loop-named : goal.invariant-loop-named
invariant-loop-named l = record {
  same : (layouts : List Layout) → l.sizes ≡ counts layouts → capped (cells_in layouts l.fields) ≡ capped (l.total + cells_in layouts (drop l.named-index l.fields));
  bound : l.total ≤ 1048577;
}
