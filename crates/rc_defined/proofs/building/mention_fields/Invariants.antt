use Rattle.std.proofs.Common.{◌≡◌, drop, map}
use Rattle.std.specs.Prelude.{flat_map}
use Rattle.rc_syntax.specs.Shape.{field_of}
use Rattle.rc_deletes.specs.Items.{named_in, with_all}
use Rattle.rc_defined.proofs.building.mention_fields.Given as goal

abbrev pub invariant-loop-field : goal.invariant-loop-field
invariant-loop-field l = record { same : with_all l.initial.names (flat_map (λ f. named_in f.type_name) (map field_of l.fields)) ≡ with_all l.names (flat_map (λ f. named_in f.type_name) (map field_of (drop l.field-index l.fields))) }
