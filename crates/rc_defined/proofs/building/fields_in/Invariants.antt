use Rattle.std.proofs.Common.{◌≡◌, ◌++◌, drop}
use Rattle.rc_defined.specs.Fields.{fields_of}
use Rattle.rc_defined.proofs.Gathered.{written_fields}
use Rattle.rc_defined.proofs.building.fields_in.Given as goal

abbrev pub invariant-loop-f : goal.invariant-loop-f
invariant-loop-f l = record { same : written_fields l.types l.fields ≡ fields_of l.all ++ written_fields l.types (drop l.f-index l.fields) }
