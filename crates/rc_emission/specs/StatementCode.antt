-- What statements become, and whole functions. The stack is empty between statements, so a local keeps what has to last. A statement's
-- code is put together from that of its parts, and each jump counts the instructions that it leads past; only a step back names a place.
-- Where a piece of code stands, and how far from its end `break` and `continue` lead, is given (`Place`). An update keeps its place's
-- operands and the new operand in locals, since the place is needed twice; a struct copy keeps both places, and copies cell by cell. What a
-- deletion holds are the live locals whose types are regions or pointers (`pins_at`). Behind a body a function returns zero or null.
use Rattle.std.specs.Prelude.{ℕ, suc, ◌+◌, pos, Bool, true, false, ◌||◌, ◌&&◌, List, [], ◌∷◌, ◌++◌, length, map, Option, Some, None, is_some}
use Rattle.rc_core.specs.declared.ty.Signedness.TheVariants.{Signed, Unsigned as Wrapping}
use Rattle.rc_core.specs.declared.operators.Direction.TheVariants.{Forward}
use Rattle.rc_core.specs.declared.stmt.Change.{Change}
use Rattle.rc_core.specs.declared.stmt.Change.TheVariants.{Compute, Step as Stepping}
use Rattle.rc_core.specs.Types.{Ty, int, unsigned, char, region, pointer, CellKind, int_cell, unsigned_cell, char_cell, region_cell, pointer_cell}
use Rattle.rc_core.specs.Layout.{Layout}
use Rattle.rc_core.specs.Arithmetic.{type_of}
use Rattle.rc_core.specs.Typing.{is_shift}
use Rattle.rc_core.specs.Live.{Ways, then_live, round, at_end}
use Rattle.rc_rlang.specs.RegionCode as From
use Rattle.rc_rlang.specs.RegionCode.{Access, width, Operation, Step, Steps, set, fork, none, more, Act, Test, Code, simple, clear, block, branch, loop, repeat, break, continue, Codes, done, then, Routine, Rlang}
use Rattle.rc_rlang.specs.RegionLive.{before_steps, before_act, before_code, before_codes, loop_head, repeat_tail}
use Rattle.rc_rlang.specs.RegionRuns.{deletes, pins_from}
use Rattle.rc_rlang.specs.RegionKinds.{signed_of}
use Rattle.rc_emission.specs.StackCode.{Instruction, Line, StackFunction}
use Rattle.rc_rlang.specs.RegionFits.{place_types, step_types, steps_types}
use Rattle.rc_emission.specs.OperationCode.{line_of, at, zero_test, test_code, compared, count_code, convert_code, operation_code, wide, spills, reloads, exchange}
use Rattle.rc_emission.specs.StackCode as To

-- where a piece of code stands: its first place, and how many instructions lie between its end and where a break and a continue in
-- it lead
pub record Place : Type 0 where
  pub at : ℕ
  pub out : ℕ
  pub on : ℕ

-- a call of a function that doesn't delete holds nothing
abbrev pub call_pins : (deletes : Bool) → List ℕ → List ℕ
call_pins true pins = pins
call_pins false pins = []

-- zero or null
abbrev pub zero_code : Ty → Instruction
zero_code int = To.number Signed (pos 0)
zero_code unsigned = To.number Wrapping (pos 0)
zero_code char = To.number Signed (pos 0)
zero_code ty = To.null ty

-- 0 where the branch is not taken
abbrev pub exit_test : (wanted : Bool) → Ty → List Instruction
exit_test true ty = test_code ty
exit_test false ty = zero_test ty

-- out of a loop, or past the code of a branch
abbrev pub exit_lines : Option Test → (over : ℕ) → List Line
exit_lines None over = []
exit_lines (Some test) over = at test.line (exit_test test.wanted test.ty) ++ line_of test.line (To.jump_zero over) ∷ []

abbrev pub exit_size : Option Test → ℕ
exit_size None = 0
exit_size (Some test) = length (exit_test test.wanted test.ty) + 1

-- an access that goes a cell further, and what a cell of a kind is read and written as
abbrev pub further : Access → Access
further a = record a { offset = suc a.offset }

abbrev pub cell_type : CellKind → Ty
cell_type int_cell = int
cell_type unsigned_cell = unsigned
cell_type char_cell = char
cell_type region_cell = region
cell_type (pointer_cell note target) = pointer note target

-- the line of a step, and that of the last of steps, 0 where there is none
abbrev pub line_of_step : Step → ℕ
line_of_step (set line h ty op) = line
line_of_step (fork line h test result a b) = line

abbrev pub last_line : Steps → ℕ
last_line none = 0
last_line (more s none) = line_of_step s
last_line (more s (more next rest)) = last_line (more next rest)

-- `deleting` tells which functions delete; `types` are the locals of the source
module _ (slot : ℕ → Ty → ℕ) (deleting : ℕ → Bool) (types : List Ty) where
  abbrev pub pins_at : (live : ℕ → Bool) → List ℕ
  pins_at live = pins_from types 0 live

  -- an operation's instructions, with the pins of a call
  abbrev pub set_code : (h : ℕ) → Ty → Operation → (live : ℕ → Bool) → List Instruction
  set_code h ty (From.step_from n pointed) live = exchange slot h n pointed ++ To.move pointed (signed_of n) Forward ∷ []
  set_code h ty (From.call f tys) live = To.call f tys (call_pins (deleting f) (pins_at live)) ∷ []
  set_code h ty op live = operation_code [] ty op

  -- operands that stand in their locals, the lowest first
  abbrev pub gets : (h : ℕ) → List Ty → List Instruction
  gets h [] = []
  gets h (ty ∷ tys) = To.get (slot h ty) ∷ gets (suc h) tys

  -- `saved` has the types of the operands that are in locals, `tys` of those on the stack
  abbrev mutual
    pub steps_lines : Steps → (saved tys : List Ty) → (live : ℕ → Bool) → List Line
    steps_lines none saved tys live = []
    steps_lines (more s rest) saved tys live = step_lines s saved tys (before_steps rest live) ++ steps_lines rest saved (step_types s tys) live

    pub step_lines : Step → (saved tys : List Ty) → (live : ℕ → Bool) → List Line
    step_lines (set line h ty op) saved tys live = at line (set_code h ty op live)
    step_lines (fork line h test result a b) saved [] live = []
    step_lines (fork line h test result a b) saved (ty ∷ below) live =
        at line (spills slot (length saved) (ty ∷ below))
        ++ (at line (To.get (slot (length saved + length below) ty) ∷ test_code test)
        ++ (line_of line (To.jump_zero (suc (suc (length (steps_lines a (below ++ saved) [] live)))))
        ∷ (steps_lines a (below ++ saved) [] live
        ++ (line_of line (To.set (slot (length saved + length below) result) (wide result))
        ∷ line_of line (To.jump (suc (length (steps_lines b (below ++ saved) [] live))))
        ∷ (steps_lines b (below ++ saved) [] live
        ++ (line_of line (To.set (slot (length saved + length below) result) (wide result))
        ∷ (at line (reloads slot (length saved) below)
        ++ line_of line (To.get (slot (length saved + length below) result)) ∷ [])))))))

  -- the new value, from the old one; `operand` fetches the other
  abbrev pub change_code : Change → (cell operand : Ty) → (fetch : Instruction) → List Instruction
  change_code (Compute from operator s) cell ty fetch = convert_code from (type_of s) ++ (fetch ∷ (count_code (is_shift operator) ty ++ (compared operator s ++ convert_code (type_of s) from)))
  change_code (Stepping direction) cell ty fetch = fetch ∷ To.move cell (signed_of ty) direction ∷ []

  -- cell by cell, from the places in their locals
  abbrev pub cells_code : Layout → (left right : Access) → List Instruction
  cells_code [] left right = []
  cells_code (kind ∷ kinds) left right =
      gets 0 (place_types left) ++ (gets (width left) (place_types right)
      ++ (To.load (record right { cell = cell_type kind }) ∷ To.store (record left { cell = cell_type kind }) ∷ cells_code kinds (further left) (further right)))

  -- what is let go
  abbrev pub pops : (line : ℕ) → List Ty → List Line
  pops line [] = []
  pops line (ty ∷ tys) = line_of line To.pop ∷ pops line tys

  -- what is done with the operands; `tys` are their types, `last` is the line of the last step that made them
  abbrev pub act_lines : (last : ℕ) → Act → (tys : List Ty) → (live : ℕ → Bool) → List Line
  act_lines last From.drop tys live = pops last tys
  act_lines last (From.perform line f parameters) tys live = line_of line (To.perform f parameters (call_pins (deleting f) (pins_at live))) ∷ []
  act_lines last (From.assign line x ty) tys live = line_of line (To.set x ty) ∷ []
  act_lines last (From.store line a) tys live = line_of line (To.store a) ∷ []
  act_lines last (From.update line a change ty) tys live =
      at line (spills slot 0 tys ++ (gets 0 (place_types a) ++ (gets 0 (place_types a) ++ (To.load a ∷ (change_code change a.cell ty (To.get (slot (width a) ty)) ++ To.store a ∷ [])))))
  act_lines last (From.move line cells left right) tys live = at line (spills slot 0 tys ++ cells_code cells left right)
  act_lines last (From.delete line) tys live = line_of line (To.delete (pins_at live)) ∷ []
  act_lines last (From.leave line result) tys live = line_of line (To.leave tys) ∷ []

  -- how many instructions a piece of code has
  abbrev mutual
    pub code_size : Code → Ways → ℕ
    code_size (simple steps act) k = length (steps_lines steps [] [] (before_act act k.next)) + length (act_lines (last_line steps) act (steps_types steps []) k.next)
    code_size (clear line x ty) k = 2
    code_size (block codes) k = codes_size codes k
    code_size (branch steps test a b) k =
        length (steps_lines steps [] [] (λ y. before_code a k y || before_code b k y)) + (exit_size (Some test) + (code_size a k + (1 + code_size b k)))
    code_size (loop line steps test third a) k =
        let k2 = then_live (loop_head steps test third a k) k in
        let k1 = round (before_code third k2) k in
        length (steps_lines steps [] [] (λ y. (is_some test && k.next y) || before_code a k1 y)) + (exit_size test + (code_size a k1 + (code_size third k2 + 1)))
    code_size (repeat line a steps test) k =
        code_size a (round (repeat_tail a steps test k) k) + (length (steps_lines steps [] [] (λ y. k.next y || before_code (repeat 0 a steps test) k y)) + (exit_size (Some test) + 1))
    code_size (break line) k = 1
    code_size (continue line) k = 1

    pub codes_size : Codes → Ways → ℕ
    codes_size done k = 0
    codes_size (then c rest) k = code_size c (then_live (before_codes rest k) k) + codes_size rest k

  abbrev mutual
    pub code_lines : Code → Ways → Place → List Line
    code_lines (simple steps act) k p = steps_lines steps [] [] (before_act act k.next) ++ act_lines (last_line steps) act (steps_types steps []) k.next
    code_lines (clear line x ty) k p = line_of line (zero_code ty) ∷ line_of line (To.set x ty) ∷ []
    code_lines (block codes) k p = codes_lines codes k p
    code_lines (branch steps test a b) k p =
        let head = steps_lines steps [] [] (λ y. before_code a k y || before_code b k y) in
        let at1 = p.at + (length head + exit_size (Some test)) in
        head ++ (exit_lines (Some test) (code_size a k + 1)
        ++ (code_lines a k (record { at = at1; out = suc (code_size b k + p.out); on = suc (code_size b k + p.on) })
        ++ (line_of test.line (To.jump (code_size b k))
        ∷ code_lines b k (record p { at = at1 + (code_size a k + 1) }))))
    code_lines (loop line steps test third a) k p =
        let k2 = then_live (loop_head steps test third a k) k in
        let k1 = round (before_code third k2) k in
        let head = steps_lines steps [] [] (λ y. (is_some test && k.next y) || before_code a k1 y) in
        let at1 = p.at + (length head + exit_size test) in
        head ++ (exit_lines test (code_size a k1 + (code_size third k2 + 1))
        ++ (code_lines a k1 (record { at = at1; out = code_size third k2 + 1; on = 0 })
        ++ (code_lines third k2 (record { at = at1 + code_size a k1; out = suc p.out; on = suc p.on })
        ++ line_of line (To.back p.at) ∷ [])))
    code_lines (repeat line a steps test) k p =
        let k1 = round (repeat_tail a steps test k) k in
        let tail = steps_lines steps [] [] (λ y. k.next y || before_code (repeat 0 a steps test) k y) in
        code_lines a k1 (record { at = p.at; out = length tail + (exit_size (Some test) + 1); on = 0 })
        ++ (tail ++ (exit_lines (Some test) 1 ++ line_of line (To.back p.at) ∷ []))
    code_lines (break line) k p = line_of line (To.jump p.out) ∷ []
    code_lines (continue line) k p = line_of line (To.jump p.on) ∷ []

    pub codes_lines : Codes → Ways → Place → List Line
    codes_lines done k p = []
    codes_lines (then c rest) k p =
        code_lines c (then_live (before_codes rest k) k) (record p { out = codes_size rest k + p.out; on = codes_size rest k + p.on })
        ++ codes_lines rest k (record p { at = p.at + code_size c (then_live (before_codes rest k) k) })

  -- behind a body
  abbrev pub end_lines : Option Ty → (line : ℕ) → List Line
  end_lines None line = line_of line (To.leave []) ∷ []
  end_lines (Some ty) line = line_of line (zero_code ty) ∷ line_of line (To.leave (ty ∷ [])) ∷ []

-- a whole function's code
abbrev pub body_lines : (slot : ℕ → Ty → ℕ) → (deleting : ℕ → Bool) → Routine → List Line
body_lines slot deleting f = code_lines slot deleting f.locals f.body at_end (record { at = 0; out = 0; on = 0 }) ++ end_lines slot deleting f.locals f.result f.line

-- the locals that keep operands, and where each stands
pub record Slots : Type 0 where
  pub types : List Ty
  pub slot : ℕ → Ty → ℕ

abbrev pub stack_function : (Routine → Slots) → (deleting : ℕ → Bool) → Routine → StackFunction
stack_function slots deleting f = record { locals = f.locals ++ (slots f).types; code = body_lines (slots f).slot deleting f }

-- and a program's
abbrev pub stack_code_of : (Routine → Slots) → Rlang → List StackFunction
stack_code_of slots r = map (stack_function slots (deletes r)) r.functions
