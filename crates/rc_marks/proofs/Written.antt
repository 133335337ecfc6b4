-- The stores that are written for region code are those of the code, in order.
use Rattle.std.proofs.Common.{◌≡◌, ℕ, suc, ◌+◌, Bool, true, false, ◌||◌, ◌&&◌, List, [], ◌∷◌, ◌++◌, length, flat_map, Option, Some, None, refl, sym, ap, ◌∙◌, append_assoc}
use Rattle.std.specs.Prelude.{is_some}
use Rattle.rc_core.specs.declared.ty.NumberType.{NumberType}
use Rattle.rc_core.specs.declared.ty.NumberType.TheVariants.{Int, Unsigned, Char}
use Rattle.rc_core.specs.declared.ty.Signedness.{Signedness}
use Rattle.rc_core.specs.declared.operators.Operator.{Operator}
use Rattle.rc_core.specs.declared.operators.Operator.TheVariants.{Multiply, Divide, Remainder, Add, Subtract, ShiftLeft, ShiftRight, Less, Greater, LessEqual, GreaterEqual, Equal, NotEqual, And, Xor, Or}
use Rattle.rc_core.specs.declared.stmt.Change.{Change}
use Rattle.rc_core.specs.declared.stmt.Change.TheVariants.{Compute, Step as Stepping}
use Rattle.rc_core.specs.Types.{Ty, int, unsigned, char, region, struct, pointer, CellKind, int_cell, unsigned_cell, char_cell, region_cell, pointer_cell}
use Rattle.rc_core.specs.Layout.{Layout, note_of}
use Rattle.rc_core.specs.Arithmetic.{type_of}
use Rattle.rc_core.specs.Typing.{is_shift}
use Rattle.rc_core.specs.Live.{Ways, then_live, round, at_end}
use Rattle.rc_rlang.specs.RegionCode as From
use Rattle.rc_rlang.specs.RegionCode.{Access, width, Operation, Step, Steps, Act, Test, Code, Codes, Routine, Rlang}
use Rattle.rc_rlang.specs.RegionFits.{place_types, step_types, steps_types}
use Rattle.rc_rlang.specs.RegionLive.{before_steps, before_act, before_code, before_codes, loop_head, repeat_tail}
use Rattle.rc_rlang.specs.RegionRuns.{deletes}
use Rattle.rc_emission.specs.StackCode.{Instruction, Line}
use Rattle.rc_emission.specs.StackCode as To
use Rattle.rc_emission.specs.OperationCode.{line_of, at, zero_test, test_code, wanted_code, compared, count_code, convert_code, spills, reloads}
use Rattle.rc_emission.specs.StatementCode.{Place, zero_code, cell_type, further, exit_test, exit_lines, set_code, gets, steps_lines, step_lines, change_code, cells_code, pops, last_line, act_lines, code_lines, codes_lines, end_lines}
use Rattle.rc_emission.specs.KeptOperands.{slots_of}
use Rattle.rc_numbering.specs.Names.{stack_of}
use Rattle.rc_marks.specs.Stores.{Store, note_on, annotated, written_one, written, WritesItsStores}
use Rattle.rc_marks.proofs.CodeStores.{cells_stores, act_stores, code_stores, codes_stores}
use Rattle.rc_marks.proofs.Sited.{functions_sited}

written_append : (a b : List Line) → written (a ++ b) ≡ written a ++ written b
written_append [] b = refl
written_append (l ∷ a) b = ap (λ xs. written_one l.line l.instruction ++ xs) (written_append a b) ∙ sym (append_assoc (written_one l.line l.instruction) (written a) (written b))

-- of instructions that store nothing
abbrev None_in : List Instruction → Type 0
None_in [] = Unit {0}
None_in (i ∷ is) = ((line : ℕ) → written_one line i ≡ []) × None_in is

none_append : (a b : List Instruction) → None_in a → None_in b → None_in (a ++ b)
none_append [] b x y = y
none_append (i ∷ a) b x y = (x.0, none_append a b x.1 y)

written_none : (line : ℕ) (is : List Instruction) → None_in is → written (at line is) ≡ []
written_none line [] n = refl
written_none line (i ∷ is) n = ap (λ xs. xs ++ written (at line is)) (n.0 line) ∙ written_none line is n.1

both_none : (a b : List Line) → written a ≡ [] → written b ≡ [] → written (a ++ b) ≡ []
both_none a b x y = written_append a b ∙ ap (λ xs. xs ++ written b) x ∙ y

two : (a b : List Line) (x y : List Store) → written a ≡ x → written b ≡ y → written (a ++ b) ≡ x ++ y
two a b x y p q = written_append a b ∙ ap (λ xs. xs ++ written b) p ∙ ap (λ xs. x ++ xs) q

no_zero_test : (ty : Ty) → None_in (zero_test ty)
no_zero_test int = (λ l. refl, tt)
no_zero_test unsigned = (λ l. refl, (λ l. refl, tt))
no_zero_test char = (λ l. refl, tt)
no_zero_test region = (λ l. refl, tt)
no_zero_test (struct k) = (λ l. refl, tt)
no_zero_test (pointer note target) = (λ l. refl, tt)

no_test : (ty : Ty) → None_in (test_code ty)
no_test int = tt
no_test unsigned = (λ l. refl, tt)
no_test char = tt
no_test region = (λ l. refl, (λ l. refl, tt))
no_test (struct k) = (λ l. refl, (λ l. refl, tt))
no_test (pointer note target) = (λ l. refl, (λ l. refl, tt))

no_wanted : (b : Bool) → None_in (wanted_code b)
no_wanted true = tt
no_wanted false = (λ l. refl, tt)

no_count : (b : Bool) (ty : Ty) → None_in (count_code b ty)
no_count true int = tt
no_count true unsigned = (λ l. refl, tt)
no_count true char = tt
no_count true region = tt
no_count true (struct k) = tt
no_count true (pointer note target) = tt
no_count false ty = tt

no_compared : (operator : Operator) (s : Signedness) → None_in (compared operator s)
no_compared Multiply s = (λ l. refl, tt)
no_compared Divide s = (λ l. refl, tt)
no_compared Remainder s = (λ l. refl, tt)
no_compared Add s = (λ l. refl, tt)
no_compared Subtract s = (λ l. refl, tt)
no_compared ShiftLeft s = (λ l. refl, tt)
no_compared ShiftRight s = (λ l. refl, tt)
no_compared Less s = (λ l. refl, tt)
no_compared Greater s = (λ l. refl, (λ l. refl, tt))
no_compared LessEqual s = (λ l. refl, tt)
no_compared GreaterEqual s = (λ l. refl, (λ l. refl, tt))
no_compared Equal s = (λ l. refl, tt)
no_compared NotEqual s = (λ l. refl, (λ l. refl, tt))
no_compared And s = (λ l. refl, tt)
no_compared Xor s = (λ l. refl, tt)
no_compared Or s = (λ l. refl, tt)

no_convert : (from to : NumberType) → None_in (convert_code from to)
no_convert Int Int = tt
no_convert Int Unsigned = (λ l. refl, tt)
no_convert Int Char = (λ l. refl, tt)
no_convert Unsigned Int = (λ l. refl, tt)
no_convert Unsigned Unsigned = tt
no_convert Unsigned Char = (λ l. refl, (λ l. refl, tt))
no_convert Char Int = tt
no_convert Char Unsigned = (λ l. refl, tt)
no_convert Char Char = tt

no_zero_value : (ty : Ty) (line : ℕ) → written_one line (zero_code ty) ≡ []
no_zero_value int line = refl
no_zero_value unsigned line = refl
no_zero_value char line = refl
no_zero_value region line = refl
no_zero_value (struct k) line = refl
no_zero_value (pointer note target) line = refl

note_again : (kind : CellKind) → note_on (cell_type kind) ≡ note_of kind
note_again int_cell = refl
note_again unsigned_cell = refl
note_again char_cell = refl
note_again region_cell = refl
note_again (pointer_cell note target) = refl

append_none : {A : Type 0} (xs : List A) → xs ++ [] ≡ xs
append_none [] = refl
append_none (x ∷ xs) = ap (λ ys. x ∷ ys) (append_none xs)

module _ (slot : ℕ → Ty → ℕ) (deleting : ℕ → Bool) (types : List Ty) where
  no_set : (h : ℕ) (ty : Ty) (op : Operation) (live : ℕ → Bool) → None_in (set_code slot deleting types h ty op live)
  no_set h ty (From.constant s n) live = (λ l. refl, tt)
  no_set h ty From.null live = (λ l. refl, tt)
  no_set h ty (From.static g) live = (λ l. refl, tt)
  no_set h ty (From.copy x) live = (λ l. refl, tt)
  no_set h ty (From.load a) live = (λ l. refl, tt)
  no_set h ty (From.step direction pointed n) live = (λ l. refl, tt)
  no_set h ty (From.step_from n pointed) live = (λ l. refl, (λ l. refl, (λ l. refl, (λ l. refl, (λ l. refl, tt)))))
  no_set h ty (From.unary operator s) live = (λ l. refl, tt)
  no_set h ty (From.binary operator s right) live = none_append (count_code (is_shift operator) right) (compared operator s) (no_count (is_shift operator) right) (no_compared operator s)
  no_set h ty (From.convert from to) live = no_convert from to
  no_set h ty (From.not_zero of) live = no_zero_test of
  no_set h ty (From.truth of) live = none_append (zero_test of) (To.zero_test ∷ []) (no_zero_test of) (λ l. refl, tt)
  no_set h ty (From.is_null wanted of) live = (λ l. refl, no_wanted wanted)
  no_set h ty (From.same wanted of) live = (λ l. refl, no_wanted wanted)
  no_set h ty (From.call g tys) live = (λ l. refl, tt)
  no_set h ty From.new_region live = (λ l. refl, tt)
  no_set h ty From.new_subregion live = (λ l. refl, tt)
  no_set h ty (From.region_of of) live = (λ l. refl, tt)
  no_set h ty (From.allocate made layout) live = (λ l. refl, tt)
  no_set h ty (From.allocate_array made layout) live = (λ l. refl, tt)
  no_set h ty From.putchar live = (λ l. refl, tt)
  no_set h ty From.getchar live = (λ l. refl, tt)

  no_spills : (base : ℕ) (tys : List Ty) → None_in (spills slot base tys)
  no_spills base [] = tt
  no_spills base (t ∷ tys) = (λ l. refl, no_spills base tys)

  no_reloads : (base : ℕ) (tys : List Ty) → None_in (reloads slot base tys)
  no_reloads base [] = tt
  no_reloads base (t ∷ tys) = none_append (reloads slot base tys) (To.get (slot (base + length tys) t) ∷ []) (no_reloads base tys) (λ l. refl, tt)

  no_gets : (h : ℕ) (tys : List Ty) → None_in (gets slot deleting types h tys)
  no_gets h [] = tt
  no_gets h (t ∷ tys) = (λ l. refl, no_gets (suc h) tys)

  mutual
    no_steps : (s : Steps) (saved tys : List Ty) (live : ℕ → Bool) → written (steps_lines slot deleting types s saved tys live) ≡ []
    no_steps From.none saved tys live = refl
    no_steps (From.more s rest) saved tys live = both_none (step_lines slot deleting types s saved tys (before_steps rest live)) (steps_lines slot deleting types rest saved (step_types s tys) live) (no_step s saved tys (before_steps rest live)) (no_steps rest saved (step_types s tys) live)

    no_step : (s : Step) (saved tys : List Ty) (live : ℕ → Bool) → written (step_lines slot deleting types s saved tys live) ≡ []
    no_step (From.set line h ty op) saved tys live = written_none line (set_code slot deleting types h ty op live) (no_set h ty op live)
    no_step (From.fork line h test result a b) saved [] live = refl
    no_step (From.fork line h test result a b) saved (ty ∷ below) live =
        both_none (at line (spills slot (length saved) (ty ∷ below))) _ (written_none line (spills slot (length saved) (ty ∷ below)) (no_spills (length saved) (ty ∷ below)))
        (both_none (at line (To.get (slot (length saved + length below) ty) ∷ test_code test)) _ (written_none line (To.get (slot (length saved + length below) ty) ∷ test_code test) (λ l. refl, no_test test))
        (both_none (steps_lines slot deleting types a (below ++ saved) [] live) _ (no_steps a (below ++ saved) [] live)
        (both_none (steps_lines slot deleting types b (below ++ saved) [] live) _ (no_steps b (below ++ saved) [] live)
        (both_none (at line (reloads slot (length saved) below)) _ (written_none line (reloads slot (length saved) below) (no_reloads (length saved) below)) refl))))

  no_change : (change : Change) (cell ty : Ty) (h : ℕ) → None_in (change_code slot deleting types change cell ty (To.get (slot h ty)))
  no_change (Compute from operator s) cell ty h =
      none_append (convert_code from (type_of s)) _ (no_convert from (type_of s))
      (λ l. refl, none_append (count_code (is_shift operator) ty) _ (no_count (is_shift operator) ty) (none_append (compared operator s) (convert_code (type_of s) from) (no_compared operator s) (no_convert (type_of s) from)))
  no_change (Stepping direction) cell ty h = (λ l. refl, (λ l. refl, tt))

  skip : (line : ℕ) (a b : List Instruction) → None_in a → written (at line (a ++ b)) ≡ written (at line b)
  skip line [] b n = refl
  skip line (i ∷ a) b n = ap (λ xs. xs ++ written (at line (a ++ b))) (n.0 line) ∙ skip line a b n.1

  cells_written : (line : ℕ) (kinds : Layout) (left right : Access) → written (at line (cells_code slot deleting types kinds left right)) ≡ cells_stores kinds line
  cells_written line [] left right = refl
  cells_written line (kind ∷ kinds) left right =
      skip line (gets slot deleting types 0 (place_types left)) _ (no_gets 0 (place_types left))
      ∙ skip line (gets slot deleting types (width left) (place_types right)) _ (no_gets (width left) (place_types right))
      ∙ ap (λ n. annotated n line ++ written (at line (cells_code slot deleting types kinds (further left) (further right)))) (note_again kind)
      ∙ ap (λ xs. annotated (note_of kind) line ++ xs) (cells_written line kinds (further left) (further right))

  pops_written : (last : ℕ) (tys : List Ty) → written (pops slot deleting types last tys) ≡ []
  pops_written last [] = refl
  pops_written last (t ∷ tys) = pops_written last tys

  act_written : (last : ℕ) (act : Act) (tys : List Ty) (live : ℕ → Bool) → written (act_lines slot deleting types last act tys live) ≡ act_stores act
  act_written last From.drop tys live = pops_written last tys
  act_written last (From.perform line g parameters) tys live = refl
  act_written last (From.assign line x ty) tys live = refl
  act_written last (From.store line a) tys live = append_none (annotated (note_on a.cell) line)
  act_written last (From.update line a change ty) tys live =
      skip line (spills slot 0 tys) _ (no_spills 0 tys)
      ∙ skip line (gets slot deleting types 0 (place_types a)) _ (no_gets 0 (place_types a))
      ∙ skip line (gets slot deleting types 0 (place_types a)) _ (no_gets 0 (place_types a))
      ∙ skip line (change_code slot deleting types change a.cell ty (To.get (slot (width a) ty))) (To.store a ∷ []) (no_change change a.cell ty (width a))
      ∙ append_none (annotated (note_on a.cell) line)
  act_written last (From.move line kinds left right) tys live = skip line (spills slot 0 tys) _ (no_spills 0 tys) ∙ cells_written line kinds left right
  act_written last (From.delete line) tys live = refl
  act_written last (From.leave line result) tys live = refl

  exit_written : (test : Option Test) (over : ℕ) → written (exit_lines test over) ≡ []
  exit_written None over = refl
  exit_written (Some test) over = both_none (at test.line (exit_test test.wanted test.ty)) _ (written_none test.line (exit_test test.wanted test.ty) (by test.wanted)) refl
    where
      by : (wanted : Bool) → None_in (exit_test wanted test.ty)
      by true = no_test test.ty
      by false = no_zero_test test.ty

  -- as a record, so that arguments are found
  pub record Writes (lines : List Line) (ss : List Store) : Type 0 where
    pub is : written lines ≡ ss

  together : (a b : List Line) (x y : List Store) → Writes a x → Writes b y → Writes (a ++ b) (x ++ y)
  together a b x y p q = record { is = written_append a b ∙ ap (λ xs. xs ++ written b) p.is ∙ ap (λ xs. x ++ xs) q.is }

  -- behind code that stores nothing, and behind an instruction
  past : (a b : List Line) (y : List Store) → written a ≡ [] → Writes b y → Writes (a ++ b) y
  past a b y e q = record { is = written_append a b ∙ ap (λ xs. xs ++ written b) e ∙ q.is }

  jumped : (line n : ℕ) (b : List Line) (y : List Store) → Writes b y → Writes (line_of line (To.jump n) ∷ b) y
  jumped line n b y q = record { is = q.is }

  before : (a b : List Line) (x : List Store) → Writes a x → written b ≡ [] → Writes (a ++ b) x
  before a b x p e = record { is = written_append a b ∙ ap (λ xs. xs ++ written b) p.is ∙ ap (λ xs. x ++ xs) e ∙ append_none x }

  mutual
    pub code_written : (c : Code) (k : Ways) (p : Place) → Writes (code_lines slot deleting types c k p) (code_stores c)
    code_written (From.simple steps act) k p = past (steps_lines slot deleting types steps [] [] (before_act act k.next)) (act_lines slot deleting types (last_line steps) act (steps_types steps []) k.next) (act_stores act) (no_steps steps [] [] (before_act act k.next)) (record { is = act_written (last_line steps) act (steps_types steps []) k.next })
    code_written (From.clear line x ty) k p = record { is = ap (λ xs. xs ++ []) (no_zero_value ty line) }
    code_written (From.block codes) k p = codes_written codes k p
    code_written (From.branch steps test a b) k p =
        past (steps_lines slot deleting types steps [] [] (λ y. before_code a k y || before_code b k y)) _ _ (no_steps steps [] [] (λ y. before_code a k y || before_code b k y))
        (past (exit_lines (Some test) _) _ _ (exit_written (Some test) _) (together _ _ _ _ (code_written a k _) (jumped _ _ _ _ (code_written b k _))))
    code_written (From.loop line steps test third a) k p =
        let k2 = then_live (loop_head steps test third a k) k in
        let k1 = round (before_code third k2) k in
        past (steps_lines slot deleting types steps [] [] (λ y. (is_some test && k.next y) || before_code a k1 y)) _ _ (no_steps steps [] [] (λ y. (is_some test && k.next y) || before_code a k1 y))
        (past (exit_lines test _) _ _ (exit_written test _) (together _ _ _ _ (code_written a k1 _) (before _ (line_of line (To.back p.at) ∷ []) _ (code_written third k2 _) refl)))
    code_written (From.repeat line a steps test) k p =
        before _ _ _ (code_written a (round (repeat_tail a steps test k) k) _)
        (both_none (steps_lines slot deleting types steps [] [] (λ y. k.next y || before_code (From.repeat 0 a steps test) k y)) _ (no_steps steps [] [] (λ y. k.next y || before_code (From.repeat 0 a steps test) k y)) (both_none (exit_lines (Some test) 1) _ (exit_written (Some test) 1) refl))
    code_written (From.break line) k p = record { is = refl }
    code_written (From.continue line) k p = record { is = refl }

    codes_written : (cs : Codes) (k : Ways) (p : Place) → Writes (codes_lines slot deleting types cs k p) (codes_stores cs)
    codes_written From.done k p = record { is = refl }
    codes_written (From.then c rest) k p = together _ _ _ _ (code_written c (then_live (before_codes rest k) k) _) (codes_written rest k _)

  pub end_written : (result : Option Ty) (line : ℕ) → written (end_lines slot deleting types result line) ≡ []
  end_written None line = refl
  end_written (Some ty) line = ap (λ xs. xs ++ []) (no_zero_value ty line)

pub function_written : (r : Rlang) (f : Routine) → written (stack_of r f).code ≡ code_stores f.body
function_written r f =
    written_append (code_lines (slots_of f).slot (deletes r) f.locals f.body at_end _) (end_lines (slots_of f).slot (deletes r) f.locals f.result f.line)
    ∙ ap (λ xs. xs ++ written (end_lines (slots_of f).slot (deletes r) f.locals f.result f.line)) (code_written (slots_of f).slot (deletes r) f.locals f.body at_end _).is
    ∙ ap (λ xs. code_stores f.body ++ xs) (end_written (slots_of f).slot (deletes r) f.locals f.result f.line)
    ∙ append_none (code_stores f.body)

pub stores_written : (r : Rlang) → WritesItsStores r
stores_written r = by r.functions ∙ sym (functions_sited r.functions)
  where
    by : (fs : List Routine) → flat_map (λ (f : Routine). written (stack_of r f).code) fs ≡ flat_map (λ (f : Routine). code_stores f.body) fs
    by [] = refl
    by (f ∷ fs) = ap (λ xs. xs ++ flat_map (λ (g : Routine). written (stack_of r g).code) fs) (function_written r f) ∙ ap (λ xs. code_stores f.body ++ xs) (by fs)
