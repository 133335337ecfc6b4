-- The readers of instructions, lines, functions and the whole.
use Rattle.std.proofs.Common.{ℕ, zero, suc, ◌+◌, ◌-◌, Bool, true, false, cond, eqb, List, [], ◌∷◌, ◌++◌, length, Option, Some, None, Ok, Err, refl}
use Rattle.rc_code.specs.declared.opcode.Opcode.{Opcode}
use Rattle.rc_code.specs.declared.opcode.Opcode.TheVariants as opcode
use Rattle.rc_code.specs.Table.{numbered}
use Rattle.rc_image.specs.declared.version.Version.{Version}
use Rattle.rc_image.specs.declared.version.Version.TheVariants.{One, Two}
use Rattle.rc_fields.specs.Reading.{Read, wrong_magic, wrong_version, number_at, global_at, path_at, storage_at}
use Rattle.rc_image.specs.Reading.{direction_of, direction_at, bit_of, bit_at, pins_at, operands_at, instruction_of, instruction_at, is_same, run_breaks, run_at, runs_at, shared_at, lines_at, head_at, body_at, function_at, proofs_at, fields_at, parts_at, letter_at, version_at, start_at}
use Rattle.rc_refusals.proofs.Steady.{Grows, Longer, Steady, grown, guard, guard_else, ok, steps, then, test, number_steady, within_steady, many_steady, counted_steady, picked}
use Rattle.rc_refusals.proofs.Fields.{global_steady, kind_steady, path_steady, result_steady, storage_steady, types_steady}

module _ (more : List ℕ) where
  direction_steady : Steady more direction_at
  unfolding direction_at
  direction_steady = picked more direction_of pick
    where
      pick : (left n : ℕ) (rest : List ℕ) → Grows more (direction_of left n rest) (direction_of (left + length more) n (rest ++ more))
      pick left zero rest = (record { is = refl })
      pick left (suc zero) rest = (record { is = refl })
      pick left (suc (suc n)) rest = (record { is = refl })

  bit_steady : Steady more bit_at
  unfolding bit_at
  bit_steady = picked more bit_of pick
    where
      pick : (left n : ℕ) (rest : List ℕ) → Grows more (bit_of left n rest) (bit_of (left + length more) n (rest ++ more))
      pick left zero rest = (record { is = refl })
      pick left (suc zero) rest = (record { is = refl })
      pick left (suc (suc n)) rest = (record { is = refl })

  pins_steady : Steady more pins_at
  pins_steady bytes = counted_steady more number_at (number_steady more) bytes

  operands_steady : (o : Opcode) → Steady more (operands_at o)
  operands_steady (opcode.Constant kind) bytes = then more _ _ _ _ (number_steady more bytes) (λ n. (record { is = refl }))
  operands_steady opcode.Global bytes = then more _ _ _ _ (number_steady more bytes) (λ n. (record { is = refl }))
  operands_steady opcode.Get bytes = then more _ _ _ _ (number_steady more bytes) (λ n. (record { is = refl }))
  operands_steady opcode.Set bytes = then more _ _ _ _ (number_steady more bytes) (λ n. (record { is = refl }))
  operands_steady opcode.Load bytes = then more _ _ _ _ (number_steady more bytes) (λ n. (record { is = refl }))
  operands_steady (opcode.Typed typed) bytes = then more _ _ _ _ (number_steady more bytes) (λ n. (record { is = refl }))
  operands_steady (opcode.Arithmetic arithmetic) bytes = then more _ _ _ _ (kind_steady more bytes) (λ n. (record { is = refl }))
  operands_steady opcode.Move bytes = then more _ _ _ _ (number_steady more bytes) (λ type. then more _ _ _ _ (kind_steady more type.1) (λ kind. then more _ _ _ _ (direction_steady kind.1) (λ n. (record { is = refl }))))
  operands_steady opcode.Store bytes = then more _ _ _ _ (number_steady more bytes) (λ path. then more _ _ _ _ (bit_steady path.1) (λ n. (record { is = refl })))
  operands_steady (opcode.Simple simple) bytes = (record { is = refl })
  operands_steady opcode.Delete bytes = then more _ _ _ _ (pins_steady bytes) (λ n. (record { is = refl }))
  operands_steady opcode.Call bytes = then more _ _ _ _ (number_steady more bytes) (λ f. then more _ _ _ _ (pins_steady f.1) (λ n. (record { is = refl })))
  operands_steady (opcode.Jump jump) bytes = then more _ _ _ _ (number_steady more bytes) (λ n. (record { is = refl }))

  instruction_steady : Steady more instruction_at
  unfolding instruction_at
  instruction_steady = picked more (λ left n rest. instruction_of left (numbered n) rest) (λ left n rest. pick left (numbered n) rest)
    where
      pick : (left : ℕ) (o : Option Opcode) (rest : List ℕ) → Grows more (instruction_of left o rest) (instruction_of (left + length more) o (rest ++ more))
      pick left None rest = (record { is = refl })
      pick left (Some o) rest = operands_steady o rest

  run_steady : (k left : ℕ) (before : Option ℕ) → Steady more (run_at k left before)
  unfolding run_at
  run_steady k left before bytes =
      then more _ _ _ _ (number_steady more bytes) (λ count. guard more (run_breaks k left count.0) bytes _ _ (then more _ _ _ _ (number_steady more count.1) (λ line. guard more (is_same before line.0) count.1 _ _ (ok more (record { count = count.0; line = line.0 }, line.1)))))

  runs_steady : (k left : ℕ) (before : Option ℕ) → Steady more (runs_at k left before)
  unfolding runs_at
  runs_steady zero left before bytes = (record { is = refl })
  runs_steady (suc k) left before bytes = then more _ _ _ _ (run_steady k left before bytes) (λ run. then more _ _ _ _ (runs_steady k (left - run.0.count) (Some run.0.line) run.1) (λ lines. (record { is = refl })))

  either : {A : Type 0} (b : Bool) (r s t u : Read A) → Grows more r s → Grows more t u → Grows more (cond b r t) (cond b s u)
  either b r s t u x y = test more b r s t u x y

  shared_steady : (count : ℕ) → Steady more (shared_at count)
  unfolding shared_at
  shared_steady count bytes =
      then more _ _ _ _ (number_steady more bytes) (λ n. either (eqb count 0) _ _ _ _ (guard_else more (eqb n.0 0) bytes _ _ (ok more ([], n.1))) (guard more (eqb n.0 0) bytes _ _ (runs_steady n.0 count None n.1)))

  lines_steady : (v : Version) (count : ℕ) → Steady more (lines_at v count)
  lines_steady One count bytes = many_steady more number_at (number_steady more) count bytes
  lines_steady Two count bytes = shared_steady count bytes

  -- with two values before the rest
  abbrev grown_two : {A B : Type 0} → A × B × List ℕ → A × B × List ℕ
  grown_two x = (x.0, x.1, x.2 ++ more)

  head_steady : (types : ℕ) (bytes : List ℕ) → Longer grown_two (length more) (head_at types bytes) (head_at types (bytes ++ more))
  unfolding head_at
  head_steady types bytes =
      steps (grown more) grown_two (length more) _ _ _ _ (number_steady more bytes) (λ parameters. steps (grown more) grown_two (length more) _ _ _ _ (within_steady more _ _ parameters.1) (λ count. steps (grown more) grown_two (length more) _ _ _ _ (many_steady more (storage_at types) (storage_steady more types) count.0 count.1) (λ locals. (record { is = refl }))))

  body_steady : (v : Version) (bytes : List ℕ) → Longer grown_two (length more) (body_at v bytes) (body_at v (bytes ++ more))
  unfolding body_at
  body_steady v bytes =
      steps (grown more) grown_two (length more) _ _ _ _ (counted_steady more instruction_at instruction_steady bytes) (λ code. steps (grown more) grown_two (length more) _ _ _ _ (lines_steady v (length code.0) code.1) (λ lines. (record { is = refl })))

  function_steady : (v : Version) (types : ℕ) → Steady more (function_at v types)
  unfolding function_at
  function_steady v types bytes =
      steps grown_two (grown more) (length more) _ _ _ _ (head_steady types bytes) (λ head. steps (grown more) (grown more) (length more) _ _ _ _ (result_steady more types head.2) (λ result. steps grown_two (grown more) (length more) _ _ _ _ (body_steady v result.1) (λ body. (record { is = refl }))))

  -- with nothing before the rest
  abbrev behind : List ℕ → List ℕ
  behind rest = rest ++ more

  proofs_steady : (v : Version) (bytes : List ℕ) → Longer behind (length more) (proofs_at v bytes) (proofs_at v (bytes ++ more))
  unfolding proofs_at
  proofs_steady One bytes = (record { is = refl })
  proofs_steady Two bytes = steps (grown more) behind (length more) _ _ _ _ (within_steady more 0 1 bytes) (λ n. (record { is = refl }))

  pub fields_steady : (v : Version) → Steady more (fields_at v)
  unfolding fields_at
  fields_steady v bytes =
      then more _ _ _ _ (types_steady more bytes) (λ types.
      then more _ _ _ _ (counted_steady more (global_at types.0) (global_steady more types.0) types.1) (λ globals.
      then more _ _ _ _ (counted_steady more (path_at types.0) (path_steady more types.0) globals.1) (λ paths.
      then more _ _ _ _ (counted_steady more (function_at v (length types.0)) (function_steady v (length types.0)) paths.1) (λ functions.
      then more _ _ _ _ (within_steady more 0 (length functions.0) functions.1) (λ main. (record { is = refl }))))))

  pub parts_steady : (v : Version) → Steady more (parts_at v)
  unfolding parts_at
  parts_steady v bytes = then more _ _ _ _ (fields_steady v bytes) (λ parts. steps behind (grown more) (length more) _ _ _ _ (proofs_steady v parts.1) (λ rest. (record { is = refl })))

  letter_one : (t : Bool) (rest : List ℕ) → Longer {A = List ℕ} behind (length more) (cond t (Ok rest) (Err wrong_magic)) (cond t (Ok (rest ++ more)) (Err wrong_magic))
  letter_one true rest = record { is = refl }
  letter_one false rest = record { is = refl }

  letter_steady : (letter : ℕ) (bytes : List ℕ) → Longer behind (length more) (letter_at letter bytes) (letter_at letter (bytes ++ more))
  letter_steady letter [] = record { is = tt }
  letter_steady letter (b ∷ rest) = letter_one (eqb b letter) rest

  version_one : (t u : Bool) (rest : List ℕ)
      → Grows more {A = Version} (cond t (Ok (One, rest)) (cond u (Ok (Two, rest)) (Err wrong_version))) (cond t (Ok (One, rest ++ more)) (cond u (Ok (Two, rest ++ more)) (Err wrong_version)))
  version_one true u rest = record { is = refl }
  version_one false true rest = record { is = refl }
  version_one false false rest = record { is = refl }

  version_steady : Steady more version_at
  version_steady [] = record { is = tt }
  version_steady (b ∷ rest) = version_one (eqb b 1) (eqb b 2) rest

  pub start_steady : Steady more start_at
  unfolding start_at
  start_steady bytes =
      steps behind (grown more) (length more) _ _ _ _ (letter_steady 82 bytes) (λ a. steps behind (grown more) (length more) _ _ _ _ (letter_steady 67 a) (λ b. steps behind (grown more) (length more) _ _ _ _ (letter_steady 73 b) (λ c. steps behind (grown more) (length more) _ _ _ _ (letter_steady 77 c) (λ d. version_steady d))))
