use Rattle.std.proofs.Common.{◌<◌, ◌^◌, ℕ, true, List, length, sym, subst}
use Rattle.rc_code.specs.declared.kind.Storage.{Storage}
use Rattle.rc_code.specs.declared.image.Function.{Function}
use Rattle.rc_code.specs.Running.{reading_of}
use Rattle.rc_code.specs.Soundness.{Names, instruction_at}
use Rattle.rc_pinning.specs.Numbers.{AreNumbers}
use Rattle.rc_pinning.specs.Operands.{TellsAboveNumbers}
use Rattle.rc_pinning.proofs.Judging.{function_fits, few, fine_at}
use Rattle.rc_pinning.proofs.tables.tables_of.Goals as goal

pub numbers_of-requires : goal.numbers_of-requires
numbers_of-requires c =
    subst (λ (ls : List Storage). length ls < 2 ^ 32) (sym c.as_slice.ensures) (subst (λ (f : Function). length f.locals < 2 ^ 32) (sym c.function_of-function.ensures) (function_fits c.args.parts.now c.requires.fields c.args.number c.requires.there).count)

pub used_in-requires-clause-few : goal.used_in-requires-clause-few
used_in-requires-clause-few c = few c.args.parts.now c.args.number c.requires.narrow

pub above_numbers-requires-clause-small : goal.above_numbers-requires-clause-small
above_numbers-requires-clause-small c = subst (λ (f : Function). length f.code < 2 ^ 32) (sym c.function_of-function.ensures) (function_fits c.args.parts.now c.requires.fields c.args.number c.requires.there).instructions

pub above_numbers-requires-clause-names : goal.above_numbers-requires-clause-names
above_numbers-requires-clause-names c =
    subst (λ (f : Function). (at : ℕ) → at < length f.code → Names true (reading_of c.args.parts.now) f (instruction_at f at)) (sym c.function_of-function.ensures)
    (λ at inside. (fine_at c.args.parts.now c.requires.sound c.args.number c.requires.there at inside).names)

pub returns : goal.returns
returns c = record {
  numbers = subst (λ (f : Function). AreNumbers f.locals c.in_ok-numbers.numbers.items) c.function_of-function.ensures (subst (λ (ls : List Storage). AreNumbers ls c.in_ok-numbers.numbers.items) c.as_slice.ensures c.in_ok-numbers.ensures);
  rows = c.in_ok-rows.ensures;
  above = subst (λ (f : Function). TellsAboveNumbers (reading_of c.args.parts.now) f c.in_ok-above.above.items) c.function_of-function.ensures c.in_ok-above.ensures;
}
