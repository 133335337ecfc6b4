use Rattle.std.proofs.Common.{◌≡◌, ◌≤◌, take, true}
use Rattle.std.specs.List.{list_all}
use Rattle.rc_syntax.specs.Numerals.{value_in}
use Rattle.rc_syntax.specs.reader.Look.{is_digit_in}
use Rattle.rc_lexer.proofs.number.value_at.Given as goal

abbrev pub invariant-loop-b : goal.invariant-loop-b
invariant-loop-b l = record {
  digits : list_all (is_digit_in l.base) (take l.b-index l.digits) ≡ true;
  value : l.value ≡ value_in l.base (take l.b-index l.digits);
  fits : l.value ≤ 4294967295;
}
