use Rattle.std.proofs.Common.{◌≡◌, ◌++◌, drop, map}
use Rattle.rc_syntax.specs.Shape.{param_of}
use Rattle.rc_linking.specs.Stubs.{stub_params}
use Rattle.rc_units.proofs.stubs.stub_params.Given as goal

abbrev pub invariant-loop-number : goal.invariant-loop-number
invariant-loop-number l = record { same : stub_params l.line 0 (map param_of l.params) ≡ map param_of l.stubbed.items ++ stub_params l.line l.number (map param_of (drop l.number l.params)) }
