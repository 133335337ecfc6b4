use Rattle.std.proofs.Common.{◌≡◌, [], true, length, map}
use Rattle.rc_syntax.specs.Shape.{field_of}
use Rattle.rc_deletes.specs.Judged.{Holds}
use Rattle.rc_deletes.specs.Items.{fields_rule, before_fields}
use Rattle.rc_defined.specs.Contexts.{context_of}
use Rattle.rc_items.proofs.definitions.fields.Given as goal

abbrev pub invariant-loop-rest : goal.invariant-loop-rest
invariant-loop-rest l = record {
  same : fields_rule (context_of l.context) l.count [] (map field_of l.fs) ≡ fields_rule (context_of l.context) l.count l.earlier (map field_of l.rest);
  known : l.is_known ≡ true → before_fields (context_of l.context) l.count (map field_of l.rest) ≡ Holds tt;
}

abbrev pub decreases-loop-rest : goal.decreases-loop-rest
decreases-loop-rest l = length l.rest
