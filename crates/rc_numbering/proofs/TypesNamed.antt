-- Each type in the table is there, and what its cells point to is in the table.
use Rattle.std.proofs.Common.{◌≡◌, ◌<◌, ℕ, zero, suc, ◌+◌, Bool, true, false, List, [], ◌∷◌, ◌++◌, length, map, flat_map, Option, Some, None, refl, arith}
use Rattle.std.specs.Prelude.{nat_lt, slice_get}
use Rattle.std.specs.List.{AllByRecursion as Every}
use Rattle.rc_core.specs.Types.{Ty, int, unsigned, char, region, struct, pointer, CellKind, int_cell, unsigned_cell, char_cell, region_cell, pointer_cell}
use Rattle.rc_core.specs.Layout.{Layout, cells, cells_by, copies, field_cells, fields_cells, layouts_after, layouts_of}
use Rattle.rc_core.specs.Typing.{IsDefined}
use Rattle.rc_core.specs.Programs.{Field, Struct, Global}
use Rattle.rc_safety.proofs.Lists.{every_append, every_get_or}
use Rattle.rc_rlang.specs.RegionCode.{Operation, Act, Step, Steps, Code, Codes, Routine, Rlang}
use Rattle.rc_rlang.specs.RegionCode as From
use Rattle.rc_rlang.specs.RegionFits.{dropped, operands, step_types, steps_types}
use Rattle.rc_rlang.specs.IsRlang.{IsRlang}
use Rattle.rc_rlang.specs.RegionRuns.{deletes}
use Rattle.rc_translation.proofs.Defined.{every_of}
use Rattle.rc_emission.specs.StackCode.{Line}
use Rattle.rc_emission.specs.StackCode as To
use Rattle.rc_emission.specs.OperationCode.{wide}
use Rattle.rc_emission.specs.KeptOperands.{place_in, entered, once, same_type, same_kept, Kept, kept_at, kept_operands, kept_operation, kept_step, kept_steps, kept_act, kept_code, kept_codes, slots_of}
use Rattle.rc_stack_rules.specs.Loadable.{all_locals}
use Rattle.rc_numbering.specs.Tables.{IsIn}
use Rattle.rc_numbering.specs.Names.{pointed_to, with_pointed, result_names, instruction_names, code_names, types_named, structs_from, fields_names, stack_of, routine_names, program_names, types_of}
use Rattle.rc_numbering.specs.Sayable.{Sayable, AllSayable, StepSayable, StepsSayable, CodeSayable, CodesSayable}
use Rattle.rc_numbering.specs.Means.{ResultDefined, IsNumberable}
use Rattle.rc_numbering.proofs.Tabled.{type_self, every_entry, every_before, every_behind}
use Rattle.rc_numbering.proofs.Programs.{names_in, function_said}

-- ---- the cells of structs

module _ (Q : CellKind → Type 0) (ints : Q int_cell) (unsigneds : Q unsigned_cell) (chars : Q char_cell) (regions : Q region_cell) where
  -- a cell of the type itself
  abbrev Own : Ty → Type 0
  Own int = Unit {0}
  Own unsigned = Unit {0}
  Own char = Unit {0}
  Own region = Unit {0}
  Own (struct k) = Unit {0}
  Own (pointer note target) = Q (pointer_cell note target)

  by_layouts : (layouts : List Layout) → Every (λ l. Every Q l) layouts → (t : Ty) → Own t → Every Q (cells_by layouts t)
  by_layouts layouts all int o = (ints, tt)
  by_layouts layouts all unsigned o = (unsigneds, tt)
  by_layouts layouts all char o = (chars, tt)
  by_layouts layouts all region o = (regions, tt)
  by_layouts layouts all (struct k) o = every_get_or (λ l. Every Q l) layouts k [] tt all
  by_layouts layouts all (pointer note target) o = (o, tt)

  copied : (c : Option ℕ) (layout : Layout) → Every Q layout → Every Q (copies c layout)
  copied None layout all = all
  copied (Some zero) layout all = tt
  copied (Some (suc n)) layout all = every_append Q layout (copies (Some n) layout) all (copied (Some n) layout all)

  fields_all : (layouts : List Layout) → Every (λ l. Every Q l) layouts → (fields : List Field) → Every (λ (d : Field). Own d.ty) fields → Every Q (fields_cells layouts fields)
  fields_all layouts all [] own = tt
  fields_all layouts all (d ∷ fields) own = every_append Q (field_cells layouts d) (fields_cells layouts fields) (copied d.count (cells_by layouts d.ty) (by_layouts layouts all d.ty own.0)) (fields_all layouts all fields own.1)

  after_all : (acc : List Layout) (ss : List Struct) → Every (λ l. Every Q l) acc → Every (λ fields. Every (λ (d : Field). Own d.ty) fields) ss → Every (λ l. Every Q l) (layouts_after acc ss)
  after_all acc [] all own = all
  after_all acc (fields ∷ ss) all own = after_all (acc ++ fields_cells acc fields ∷ []) ss (every_append (λ l. Every Q l) acc (fields_cells acc fields ∷ []) all (fields_all acc all fields own.0, tt)) own.1

  pub struct_all : (ss : List Struct) → Every (λ fields. Every (λ (d : Field). Own d.ty) fields) ss → (k : ℕ) → Every Q (cells ss (struct k))
  struct_all ss own k = every_get_or (λ l. Every Q l) (layouts_of ss) k [] tt (after_all [] ss tt own)

-- ---- the types of operands that are kept

every_entered : {A : Type 0} (P : A → Type 0) (b : Bool) (a : A) (table : List A) → P a → Every P table → Every P (entered b a table)
every_entered P true a table p t = t
every_entered P false a table p t = (p, t)

every_once : {A : Type 0} (P : A → Type 0) (equal : A → A → Bool) (xs : List A) → Every P xs → Every P (once equal xs)
every_once P equal [] all = tt
every_once P equal (x ∷ xs) all = every_entered P (nat_lt (place_in equal (once equal xs) x) (length (once equal xs))) x (once equal xs) all.0 (every_once P equal xs all.1)

pub every_mapped : {A B : Type 0} (P : A → Type 0) (Q : B → Type 0) (g : A → B) → ((a : A) → P a → Q (g a)) → (xs : List A) → Every P xs → Every Q (map g xs)
every_mapped P Q g each [] all = tt
every_mapped P Q g each (x ∷ xs) all = (each x all.0, every_mapped P Q g each xs all.1)

module _ (r : Rlang) (f : Routine) where
  abbrev D : Ty → Type 0
  D t = IsDefined r.structs t

  abbrev KD : Kept → Type 0
  KD e = D e.ty

  every_dropped : (n : ℕ) (tys : List Ty) → Every D tys → Every D (dropped n tys)
  every_dropped zero tys all = all
  every_dropped (suc n) [] all = tt
  every_dropped (suc n) (t ∷ tys) all = every_dropped n tys all.1

  operands_kept : (base : ℕ) (tys : List Ty) → Every D tys → Every KD (kept_operands base tys)
  operands_kept base [] all = tt
  operands_kept base (t ∷ tys) all = (all.0, operands_kept base tys all.1)

  operation_kept : (h : ℕ) (ty : Ty) (op : Operation) → StepSayable r f (From.set 0 h ty op) → Every KD (kept_operation h op)
  operation_kept h ty (From.constant s n) said = tt
  operation_kept h ty From.null said = tt
  operation_kept h ty (From.static g) said = tt
  operation_kept h ty (From.copy x) said = tt
  operation_kept h ty (From.load a) said = tt
  operation_kept h ty (From.step direction pointed n) said = tt
  operation_kept h ty (From.step_from n pointed) said = (said.1.0, (said.1.1, tt))
  operation_kept h ty (From.unary operator s) said = tt
  operation_kept h ty (From.binary operator s right) said = tt
  operation_kept h ty (From.convert from to) said = tt
  operation_kept h ty (From.not_zero of) said = tt
  operation_kept h ty (From.truth of) said = tt
  operation_kept h ty (From.is_null wanted of) said = tt
  operation_kept h ty (From.same wanted of) said = tt
  operation_kept h ty (From.call g tys) said = tt
  operation_kept h ty From.new_region said = tt
  operation_kept h ty From.new_subregion said = tt
  operation_kept h ty (From.region_of of) said = tt
  operation_kept h ty (From.allocate made layout) said = tt
  operation_kept h ty (From.allocate_array made layout) said = tt
  operation_kept h ty From.putchar said = tt
  operation_kept h ty From.getchar said = tt

  mutual
    steps_kept : (s : Steps) (base : ℕ) (tys : List Ty) → StepsSayable r f s → Every D tys → Every KD (kept_steps s base tys)
    steps_kept From.none base tys said all = tt
    steps_kept (From.more s rest) base tys said all = every_append KD (kept_step s base tys) (kept_steps rest base (step_types s tys)) (step_kept s base tys said.0 all) (steps_kept rest base (step_types s tys) said.1 (step_left s tys said.0 all))

    step_kept : (s : Step) (base : ℕ) (tys : List Ty) → StepSayable r f s → Every D tys → Every KD (kept_step s base tys)
    step_kept (From.set line h ty op) base tys said all = operation_kept h ty op said
    step_kept (From.fork line h test result a b) base tys said all =
        every_append KD (kept_operands base tys) (kept_at h result ∷ (kept_steps a h [] ++ kept_steps b h [])) (operands_kept base tys all) (said.1, every_append KD (kept_steps a h []) (kept_steps b h []) (steps_kept a h [] said.2 tt) (steps_kept b h [] said.3 tt))

    step_left : (s : Step) (tys : List Ty) → StepSayable r f s → Every D tys → Every D (step_types s tys)
    step_left (From.set line h ty op) tys said all = (said.0, every_dropped (length (operands ty op)) tys all)
    step_left (From.fork line h test result a b) [] said all = tt
    step_left (From.fork line h test result a b) (t ∷ below) said all = (said.1, all.1)

  steps_left : (s : Steps) (tys : List Ty) → StepsSayable r f s → Every D tys → Every D (steps_types s tys)
  steps_left From.none tys said all = all
  steps_left (From.more s rest) tys said all = steps_left rest (step_types s tys) said.1 (step_left s tys said.0 all)

  acts_kept : (act : Act) (tys : List Ty) → Every D tys → Every KD (kept_act act tys)
  acts_kept From.drop tys all = tt
  acts_kept (From.perform line g parameters) tys all = tt
  acts_kept (From.assign line x ty) tys all = tt
  acts_kept (From.store line a) tys all = tt
  acts_kept (From.update line a change ty) tys all = operands_kept 0 tys all
  acts_kept (From.move line kinds left right) tys all = operands_kept 0 tys all
  acts_kept (From.delete line) tys all = tt
  acts_kept (From.leave line result) tys all = tt

  mutual
    code_kept : (c : Code) → CodeSayable r f c → Every KD (kept_code c)
    code_kept (From.simple steps act) said = every_append KD (kept_steps steps 0 []) (kept_act act (steps_types steps [])) (steps_kept steps 0 [] said.0 tt) (acts_kept act (steps_types steps []) (steps_left steps [] said.0 tt))
    code_kept (From.clear line x ty) said = tt
    code_kept (From.block codes) said = codes_kept codes said
    code_kept (From.branch steps test a b) said = every_append KD (kept_steps steps 0 []) (kept_code a ++ kept_code b) (steps_kept steps 0 [] said.0 tt) (every_append KD (kept_code a) (kept_code b) (code_kept a said.2) (code_kept b said.3))
    code_kept (From.loop line steps test third a) said = every_append KD (kept_steps steps 0 []) (kept_code third ++ kept_code a) (steps_kept steps 0 [] said.0 tt) (every_append KD (kept_code third) (kept_code a) (code_kept third said.2) (code_kept a said.3))
    code_kept (From.repeat line a steps test) said = every_append KD (kept_code a) (kept_steps steps 0 []) (code_kept a said.0) (steps_kept steps 0 [] said.1 tt)
    code_kept (From.break line) said = tt
    code_kept (From.continue line) said = tt

    codes_kept : (cs : Codes) → CodesSayable r f cs → Every KD (kept_codes cs)
    codes_kept From.done said = tt
    codes_kept (From.then c rest) said = every_append KD (kept_code c) (kept_codes rest) (code_kept c said.0) (codes_kept rest said.1)

  wide_defined : (t : Ty) → D t → D (wide t)
  wide_defined int d = tt
  wide_defined unsigned d = tt
  wide_defined char d = tt
  wide_defined region d = tt
  wide_defined (struct k) d = d
  wide_defined (pointer note target) d = d

  pub locals_defined : Every D f.locals → CodeSayable r f f.body → Every D (all_locals f)
  locals_defined all said =
      every_append D f.locals (slots_of f).types all
      (every_mapped KD D (λ e. wide e.ty) (λ e d. wide_defined e.ty d) (once same_kept (kept_code f.body)) (every_once KD same_kept (kept_code f.body) (code_kept f.body said)))

-- ---- names

flat_named : {A : Type 0} (P Q : Ty → Type 0) (g : A → List Ty) (xs : List A) → ((k : ℕ) (x : A) → slice_get xs k ≡ Some x → Every P (g x) → Every Q (g x)) → Every P (flat_map g xs) → Every Q (flat_map g xs)
flat_named P Q g [] each all = tt
flat_named P Q g (x ∷ xs) each all = every_append Q (g x) (flat_map g xs) (each 0 x refl (every_before P (g x) (flat_map g xs) all)) (flat_named P Q g xs (λ k y e. each (suc k) y e) (every_behind P (g x) (flat_map g xs) all))

module _ (r : Rlang) (fits : IsRlang r) (numberable : IsNumberable r) where
  abbrev pub In : Ty → Type 0
  In t = IsIn same_type (types_of r) t

  -- it is there, and what it points to is in the table
  pub IsNamed : Ty → Type 0
  IsNamed t = Every In (pointed_to t) × IsDefined r.structs t

  pub named_points : (t : Ty) → IsNamed t → Every In (pointed_to t)
  unfolding IsNamed
  named_points t n = n.0

  pub named_defined : (t : Ty) → IsNamed t → IsDefined r.structs t
  unfolding IsNamed
  named_defined t n = n.1

  pointed_named : (t : Ty) → IsDefined r.structs t → Every In (pointed_to t) → Every IsNamed (pointed_to t)
  unfolding IsNamed
  pointed_named int d all = tt
  pointed_named unsigned d all = tt
  pointed_named char d all = tt
  pointed_named region d all = tt
  pointed_named (struct k) d all = tt
  pointed_named (pointer note target) d all = ((all.1, d), pointed_named target d all.1)

  with_named : (t : Ty) → IsDefined r.structs t → Every In (with_pointed t) → Every IsNamed (with_pointed t)
  unfolding IsNamed
  with_named t d all = ((all.1, d), pointed_named t d all.1)

  structs_named : (k : ℕ) (ss : List Struct) → k + length ss ≡ length r.structs → Every IsNamed (structs_from k ss)
  unfolding IsNamed
  structs_named k [] e = tt
  structs_named k (fields ∷ ss) e = ((tt, (let l : k < length r.structs = omega (arith, e) in l)), structs_named (suc k) ss (omega (arith, e)))

  strings_named : (ss : List (List ℕ)) → Every IsNamed (map (λ (bytes : List ℕ). char) ss)
  unfolding IsNamed
  strings_named [] = tt
  strings_named (s ∷ ss) = ((tt, tt), strings_named ss)

  instruction_named : (f : Routine) (i : To.Instruction) → Sayable r f (deletes r) i → Every In (instruction_names i) → Every IsNamed (instruction_names i)
  instruction_named f (To.number s n) said all = tt
  instruction_named f (To.null ty) said all = pointed_named ty said.0 all
  instruction_named f (To.global g) said all = tt
  instruction_named f (To.get x) said all = tt
  instruction_named f (To.set x ty) said all = tt
  instruction_named f (To.arithmetic o s) said all = tt
  instruction_named f (To.unary o s) said all = tt
  instruction_named f To.zero_test said all = tt
  instruction_named f (To.null_test ty) said all = pointed_named ty said.0 all
  instruction_named f (To.same ty) said all = pointed_named ty said.0 all
  instruction_named f (To.convert to) said all = tt
  instruction_named f (To.move ty s direction) said all = pointed_named ty said.0 all
  instruction_named f (To.load a) said all = with_named a.element said.defined all
  instruction_named f (To.store a) said all = with_named a.element said.defined all
  instruction_named f To.new_region said all = tt
  instruction_named f To.new_subregion said all = tt
  instruction_named f (To.region_of ty) said all = pointed_named ty said.0 all
  instruction_named f (To.allocate ty layout) said all = with_named ty said.0 all
  instruction_named f (To.allocate_array ty layout) said all = with_named ty said.0 all
  instruction_named f (To.delete pins) said all = tt
  instruction_named f (To.call g tys pins) said all = tt
  instruction_named f (To.perform g tys pins) said all = tt
  instruction_named f (To.leave tys) said all = tt
  instruction_named f To.putchar said all = tt
  instruction_named f To.getchar said all = tt
  instruction_named f (To.jump n) said all = tt
  instruction_named f (To.jump_zero n) said all = tt
  instruction_named f (To.back to) said all = tt
  instruction_named f To.pop said all = tt

  code_named : (f : Routine) (code : List Line) → AllSayable r f (deletes r) code → Every In (code_names code) → Every IsNamed (code_names code)
  code_named f [] said all = tt
  code_named f (l ∷ code) said all =
      every_append IsNamed (instruction_names l.instruction) (code_names code) (instruction_named f l.instruction said.0 (every_before In (instruction_names l.instruction) (code_names code) all)) (code_named f code said.1 (every_behind In (instruction_names l.instruction) (code_names code) all))

  locals_named : (tys : List Ty) → Every (IsDefined r.structs) tys → Every In (types_named tys) → Every IsNamed (types_named tys)
  locals_named [] d all = tt
  locals_named (t ∷ tys) d all = every_append IsNamed (pointed_to t) (types_named tys) (pointed_named t d.0 (every_before In (pointed_to t) (types_named tys) all)) (locals_named tys d.1 (every_behind In (pointed_to t) (types_named tys) all))

  result_named : (o : Option Ty) → ResultDefined r o → Every In (result_names o) → Every IsNamed (result_names o)
  result_named None d all = tt
  result_named (Some t) d all = pointed_named t d all

  pub local_types : (k : ℕ) (f : Routine) → slice_get r.functions k ≡ Some f → Every (IsDefined r.structs) (all_locals f)
  local_types k f e = locals_defined r f (every_of (IsDefined r.structs) f.locals (λ x t q. ((fits.functions k f e).locals x t q).0)) (numberable.functions k f e).sayable

  routine_named : (k : ℕ) (f : Routine) → slice_get r.functions k ≡ Some f → Every In (routine_names r f) → Every IsNamed (routine_names r f)
  routine_named k f e all =
      every_append IsNamed (types_named (stack_of r f).locals) (result_names f.result ++ code_names (stack_of r f).code)
      (locals_named (stack_of r f).locals (local_types k f e) (every_before In (types_named (stack_of r f).locals) _ all))
      (let rest = every_behind In (types_named (stack_of r f).locals) (result_names f.result ++ code_names (stack_of r f).code) all in
      every_append IsNamed (result_names f.result) (code_names (stack_of r f).code) (result_named f.result (numberable.functions k f e).result (every_before In (result_names f.result) (code_names (stack_of r f).code) rest))
      (code_named f (stack_of r f).code (function_said r f (numberable.functions k f e)) (every_behind In (result_names f.result) (code_names (stack_of r f).code) rest)))

  fields_named : (k : ℕ) (fields : Struct) → slice_get r.structs k ≡ Some fields → Every In (fields_names fields) → Every IsNamed (fields_names fields)
  fields_named k fields e all = flat_named In IsNamed (λ (d : Field). pointed_to d.ty) fields (λ j d q a. pointed_named d.ty ((fits.structs k fields e).fields_fit j d q).defined a) all

  abbrev rest_1 : List Ty
  rest_1 = flat_map fields_names r.structs ++ (flat_map (λ (g : Global). with_pointed g.ty) r.globals ++ (map (λ (bytes : List ℕ). char) r.strings ++ flat_map (routine_names r) r.functions))

  abbrev rest_2 : List Ty
  rest_2 = flat_map (λ (g : Global). with_pointed g.ty) r.globals ++ (map (λ (bytes : List ℕ). char) r.strings ++ flat_map (routine_names r) r.functions)

  abbrev rest_3 : List Ty
  rest_3 = map (λ (bytes : List ℕ). char) r.strings ++ flat_map (routine_names r) r.functions

  in_1 : Every In rest_1
  in_1 = every_behind In (structs_from 0 r.structs) rest_1 (names_in r)

  in_2 : Every In rest_2
  in_2 = every_behind In (flat_map fields_names r.structs) rest_2 in_1

  in_3 : Every In rest_3
  in_3 = every_behind In (flat_map (λ (g : Global). with_pointed g.ty) r.globals) rest_3 in_2

  -- what structs' fields point to, and the types of globals and strings, are in the table
  pub fields_in : Every In (flat_map fields_names r.structs)
  fields_in = every_before In (flat_map fields_names r.structs) rest_2 in_1

  pub globals_in : Every In (flat_map (λ (g : Global). with_pointed g.ty) r.globals)
  globals_in = every_before In (flat_map (λ (g : Global). with_pointed g.ty) r.globals) rest_3 in_2

  pub strings_in : Every In (map (λ (bytes : List ℕ). char) r.strings)
  strings_in = every_before In (map (λ (bytes : List ℕ). char) r.strings) (flat_map (routine_names r) r.functions) in_3

  program_named : Every IsNamed (program_names r)
  program_named =
      every_append IsNamed (structs_from 0 r.structs) rest_1 (structs_named 0 r.structs (omega arith))
      (every_append IsNamed (flat_map fields_names r.structs) rest_2 (flat_named In IsNamed fields_names r.structs fields_named fields_in)
      (every_append IsNamed (flat_map (λ (g : Global). with_pointed g.ty) r.globals) rest_3 (flat_named In IsNamed (λ (g : Global). with_pointed g.ty) r.globals (λ k g e a. with_named g.ty (fits.globals k g e).defined a) globals_in)
      (every_append IsNamed (map (λ (bytes : List ℕ). char) r.strings) (flat_map (routine_names r) r.functions) (strings_named r.strings)
      (flat_named In IsNamed (routine_names r) r.functions routine_named (every_behind In (map (λ (bytes : List ℕ). char) r.strings) (flat_map (routine_names r) r.functions) in_3)))))

  pub table_named : Every IsNamed (types_of r)
  table_named = every_entry same_type type_self IsNamed [] (program_names r) tt program_named

  -- ---- cells point into the table

  abbrev pub CellIn : CellKind → Type 0
  CellIn int_cell = Unit {0}
  CellIn unsigned_cell = Unit {0}
  CellIn char_cell = Unit {0}
  CellIn region_cell = Unit {0}
  CellIn (pointer_cell note target) = In target

  pub pointer_in : (note : _) (target : Ty) → CellIn (pointer_cell note target) → In target
  pointer_in note target i = i

  own_in : (t : Ty) → Every In (pointed_to t) → Own CellIn tt tt tt tt t
  own_in int all = tt
  own_in unsigned all = tt
  own_in char all = tt
  own_in region all = tt
  own_in (struct k) all = tt
  own_in (pointer note target) all = all.0

  fields_own : (fields : Struct) → Every In (fields_names fields) → Every (λ (d : Field). Own CellIn tt tt tt tt d.ty) fields
  fields_own [] all = tt
  fields_own (d ∷ fields) all = (own_in d.ty (every_before In (pointed_to d.ty) (fields_names fields) all), fields_own fields (every_behind In (pointed_to d.ty) (fields_names fields) all))

  structs_own : (ss : List Struct) → Every In (flat_map fields_names ss) → Every (λ fields. Every (λ (d : Field). Own CellIn tt tt tt tt d.ty) fields) ss
  structs_own [] all = tt
  structs_own (fields ∷ ss) all = (fields_own fields (every_before In (fields_names fields) (flat_map fields_names ss) all), structs_own ss (every_behind In (fields_names fields) (flat_map fields_names ss) all))

  pub cells_in : (t : Ty) → IsNamed t → Every CellIn (cells r.structs t)
  cells_in int n = (tt, tt)
  cells_in unsigned n = (tt, tt)
  cells_in char n = (tt, tt)
  cells_in region n = (tt, tt)
  cells_in (struct k) n = struct_all CellIn tt tt tt tt r.structs (structs_own r.structs fields_in) k
  cells_in (pointer note target) n = ((named_points (pointer note target) n).0, tt)
