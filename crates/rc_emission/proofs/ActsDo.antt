-- Stack code of what is done with operands does it, in any world.
use Rattle.std.proofs.Common.{◌≡◌, ◌≢◌, ◌<◌, ◌≤◌, ℕ, suc, ◌+◌, ℤ, pos, Bool, List, [], ◌∷◌, ◌++◌, length, map, Option, Some, None, refl, sym, ap, ◌∙◌, subst, arith}
use Rattle.rc_core.specs.declared.ty.Note.TheVariants.{Plain}
use Rattle.rc_core.specs.declared.ty.NumberType.{NumberType}
use Rattle.rc_core.specs.declared.ty.NumberType.TheVariants.{Int, Unsigned, Char}
use Rattle.rc_core.specs.declared.ty.Signedness.{Signedness}
use Rattle.rc_core.specs.declared.stmt.Change.{Change}
use Rattle.rc_core.specs.declared.stmt.Change.TheVariants.{Compute, Step as Stepping}
use Rattle.rc_core.specs.Types.{Ty, region, pointer, CellKind, int_cell, unsigned_cell, char_cell, region_cell, pointer_cell}
use Rattle.rc_core.specs.Layout.{Layout}
use Rattle.rc_core.specs.Typing.{value_type, is_shift}
use Rattle.rc_core.specs.Arithmetic.{type_of, calculate}
use Rattle.rc_core.specs.Heap.{Value, Number, Null}
use Rattle.rc_core.specs.Runs.{Run, Go, Stopped, bind, computed, Calls, Ops}
use Rattle.rc_core.specs.Laws.{IfGoes}
use Rattle.rc_core.specs.Evaluation.{number_in, local_at, give_number, toward}
use Rattle.rc_core.specs.Execution.{with_local}
use Rattle.rc_rlang.specs.RegionCode as From
use Rattle.rc_rlang.specs.RegionCode.{Index, Access, width, shift_width, Operation, Act}
use Rattle.rc_rlang.specs.RegionRuns.{Temporaries, set_kind, change_kind, with_cell, temporary, temporaries_from, chosen_from, target_shifted, target_at, at_kind, kept, kept_cell, kept_all, right_number, convert_value, Way, Next, Returned, pins_from, pinned, operation_value, new_value, cells_moved, act_run}
use Rattle.rc_emission.specs.StackCode.{Instruction, Line, Onward, popped, nth_operand, chosen_values, target_of, last_of, given}
use Rattle.rc_rlang.specs.RegionFits.{index_types, shift_types, place_types, pushed, act_types, ActFits}
use Rattle.rc_emission.specs.OperationCode.{line_of, at, compared, count_code, convert_code, spills}
use Rattle.rc_emission.specs.Served.{AllKept, ActKeeps}
use Rattle.rc_emission.specs.StatementCode.{further, cell_type, call_pins, gets, change_code, cells_code, pops, act_lines}
use Rattle.rc_emission.proofs.CharOfInt.{char_again}
use Rattle.rc_translation.proofs.Sames.{bind_bind}
use Rattle.rc_translation.proofs.ValueKinds.{kind_value, kind_arithmetic}
use Rattle.rc_emission.proofs.Singles.{stack_pushed, popped_pushed, on, width_is, length_temporaries, at_two, count_does, count_is, counted_value, compared_does, values_in, length_types}
use Rattle.rc_emission.specs.Pieces.{stack_of, Mirrored}
use Rattle.rc_emission.proofs.Mirrored.{mirrors_assign}
use Rattle.rc_emission.proofs.OperationsDo.{pinned_same, call_held}
use Rattle.rc_emission.proofs.StepsDo.{spilled, spills_do, mirrors_spilled, Saved, saved_spilled}
use Rattle.rc_emission.specs.Turns.{CallsWithin, Within, Turning}
use Rattle.rc_emission.proofs.Turning.{operation_within, new_within}
use Rattle.rc_emission.specs.StackCode as To

append_none : (vs : List Value) → vs ++ [] ≡ vs
append_none [] = refl
append_none (v ∷ vs) = ap (λ us. v ∷ us) (append_none vs)

-- all operands are taken
pub popped_all : {W : Type 0} (tys : List Ty) (t : Temporaries) (cont : List Value → List Value → Run W Value) (w : W) → popped (length tys) (stack_of (pushed tys []) 0 t) [] cont w ≡ cont (temporaries_from tys t 0) []
popped_all tys t cont w =
    ap (λ st. popped (length tys) st [] cont w) (stack_pushed tys [] 0 0 t refl)
    ∙ ap (λ m. popped m (pushed (temporaries_from tys t 0) []) [] cont w) (let e = length_temporaries tys t 0 in let f : length tys ≡ 0 + length (temporaries_from tys t 0) = omega (arith, e) in f)
    ∙ popped_pushed (temporaries_from tys t 0) [] [] 0 cont w
    ∙ ap (λ vs. cont vs []) (append_none (temporaries_from tys t 0))

pub temporaries_append : (xs : List Ty) (ty : Ty) (t : Temporaries) (h k : ℕ) → k ≡ h + length xs → temporaries_from (xs ++ ty ∷ []) t h ≡ temporaries_from xs t h ++ temporary ty t k ∷ []
temporaries_append [] ty t h k e = let f : h ≡ k = omega (arith, e) in ap (λ j. temporary ty t j ∷ []) f
temporaries_append (x ∷ xs) ty t h k e = ap (λ vs. temporary x t h ∷ vs) (temporaries_append xs ty t (suc h) k (omega (arith, e)))

last_append : (vs : List Value) (v : Value) → last_of (vs ++ v ∷ []) ≡ v
last_append [] v = refl
last_append (u ∷ []) v = refl
last_append (u ∷ x ∷ vs) v = last_append (x ∷ vs) v

-- what stands behind a place's operands does not matter
chosen_more : (is : List Index) (t : Temporaries) (h : ℕ) (us : List Value) → chosen_values is (temporaries_from (index_types is) t h ++ us) ≡ chosen_from is t h
chosen_more [] t h [] = refl
chosen_more [] t h (u ∷ us) = refl
chosen_more (i ∷ is) t h us =
    ap (λ k. record { index = number_in (at_kind k t h); count = i.count; stride = i.stride } ∷ chosen_values is (temporaries_from (index_types is) t (suc h) ++ us)) (kind_arithmetic i.kind)
    ∙ ap (λ cs. record { index = number_in (t.numbers h); count = i.count; stride = i.stride } ∷ cs) (chosen_more is t (suc h) us)

pub target_more : (a : Access) (t : Temporaries) (h : ℕ) (us : List Value) → target_of a a.shift (temporaries_from (place_types a) t h ++ us) ≡ target_at a t h
target_more a t h us = by_shift a.shift
  where
    by_shift : (s : Option Signedness) → target_of a s (temporaries_from (pointer Plain a.element ∷ (shift_types s ++ index_types a.indices)) t h ++ us) ≡ target_shifted s a t h
    by_shift None = ap (λ cs. record { pointer = t.regions h; shift = pos 0; offset = a.offset; chosen = cs }) (chosen_more a.indices t (suc h) us)
    by_shift (Some s) =
        ap (λ k. record { pointer = t.regions h; shift = number_in (at_kind k t (suc h)); offset = a.offset; chosen = chosen_values a.indices (temporaries_from (index_types a.indices) t (suc (suc h)) ++ us) }) (kind_arithmetic s)
        ∙ ap (λ cs. record { pointer = t.regions h; shift = number_in (t.numbers (suc h)); offset = a.offset; chosen = cs }) (chosen_more a.indices t (suc (suc h)) us)

pub place_width : (a : Access) → length (place_types a) ≡ width a
place_width a = by_shift a.shift
  where
    indices_are : (is : List Index) → length (index_types is) ≡ length is
    indices_are [] = refl
    indices_are (i ∷ is) = ap suc (indices_are is)

    by_shift : (s : Option Signedness) → length (pointer Plain a.element ∷ (shift_types s ++ index_types a.indices)) ≡ suc (shift_width s + length a.indices)
    by_shift None = let e = indices_are a.indices in omega (arith, e)
    by_shift (Some s) = let e = indices_are a.indices in omega (arith, e)

module _ {W : Type 0} (ops : Ops W) (turning : Turning ops) (deleting : ℕ → Bool) (types : List Ty) (slot : ℕ → Ty → ℕ) (calls : Calls W) (calls_fine : CallsWithin ops calls) (again : Onward W) (env : List Value) (n : ℕ) (Has : ℕ → Ty → Type 0)
    (slot_behind : (h : ℕ) (ty : Ty) → length types ≤ slot h ty) (slot_there : (h : ℕ) (ty : Ty) → Has h ty → slot h ty < n) (slots_apart : (h k : ℕ) (ty uy : Ty) → Has h ty → Has k uy → h < k → slot h ty ≢ slot k uy)
    (room : length types ≤ n) (p q : ℕ) where
  abbrev pub Fine : W → Type 0
  Fine w = (ops.turns_left w ≤ p) × (ops.turns_left w ≤ q)

  pub both_fine : {A : Type 0} (m : Run W A) → Within ops p m → Within ops q m → IfGoes (λ _ w1. Fine w1) m
  both_fine (Go x w) a b = (a.holds, b.holds)
  both_fine (Stopped e w) a b = tt

  pub operation_fine : (line : ℕ) (op : Operation) (live : ℕ → Bool) (t : Temporaries) (h : ℕ) (w : W) → Fine w → IfGoes (λ _ w1. Fine w1) (operation_value ops deleting types line op calls live env t h w)
  operation_fine line op live t h w f = both_fine (operation_value ops deleting types line op calls live env t h w) (operation_within ops turning deleting types calls calls_fine line op live env t h w p f.0) (operation_within ops turning deleting types calls calls_fine line op live env t h w q f.1)

  pub then_fine : {A B : Type 0} (m : Run W A) (f g : A → W → Run W B) → Within ops p m → Within ops q m → ((x : A) (w : W) → Fine w → f x w ≡ g x w) → bind m f ≡ bind m g
  then_fine (Go x w) f g a b h = h x w (a.holds, b.holds)
  then_fine (Stopped e w) f g a b h = refl

  abbrev go_on : List Line → (stack locals : List Value) → W → Run W Value
  go_on code stack locals w = on ops deleting calls again code stack locals w

  abbrev pub Mirrors : List Value → List Value → Type 0
  Mirrors env locals = Mirrored (length types) n env locals

  -- what comes behind an act
  pub record Ends (rest : List Line) (next : Way → W → Run W Value) : Type 0 where
    pub goes : (env : List Value) (t : Temporaries) (locals : List Value) (w : W) → Fine w → Mirrors env locals → go_on rest [] locals w ≡ next (Next env t) w
    pub returns : (v : Value) (w : W) → Fine w → Go v w ≡ next (Returned v) w

  -- operands that stand in their locals
  abbrev Kept : List Ty → ℕ → Temporaries → List Value → Type 0
  Kept [] h t locals = Unit {0}
  Kept (ty ∷ tys) h t locals = (local_at locals (slot h ty) ≡ temporary ty t h) × Kept tys (suc h) t locals

  abbrev Stored : List Ty → Temporaries → List Value → Type 0
  Stored tys t locals = Saved ops deleting types slot calls again env n Has slot_behind slot_there slots_apart Fine operation_fine tys t locals

  kept_stored : (xs below : List Ty) (t : Temporaries) (locals : List Value) → Stored (pushed xs below) t locals → Kept xs (length below) t locals × Stored below t locals
  kept_stored [] below t locals s = (tt, s)
  kept_stored (x ∷ xs) below t locals s = let r = kept_stored xs (x ∷ below) t locals s in ((r.1.0, r.0), r.1.2)

  kept_append : (xs ys : List Ty) (h k : ℕ) (t : Temporaries) (locals : List Value) → k ≡ h + length xs → Kept (xs ++ ys) h t locals → Kept xs h t locals × Kept ys k t locals
  kept_append [] ys h k t locals e s = (tt, subst (λ j. Kept ys j t locals) (let f : h ≡ k = omega (arith, e) in f) s)
  kept_append (x ∷ xs) ys h k t locals e s = let r = kept_append xs ys (suc h) k t locals (omega (arith, e)) s.1 in ((s.0, r.0), r.1)

  gets_do : (line : ℕ) (tys : List Ty) (h : ℕ) (t : Temporaries) (stack locals : List Value) (rest : List Line) (w : W) → Kept tys h t locals → go_on (at line (gets slot deleting types h tys) ++ rest) stack locals w ≡ go_on rest (pushed (temporaries_from tys t h) stack) locals w
  gets_do line [] h t stack locals rest w k = refl
  gets_do line (ty ∷ tys) h t stack locals rest w k =
      ap (λ v. go_on (at line (gets slot deleting types (suc h) tys) ++ rest) (v ∷ stack) locals w) k.0 ∙ gets_do line tys (suc h) t (temporary ty t h ∷ stack) locals rest w k.1

  -- a load takes a place's operands, a store those and the value
  load_does : (line : ℕ) (a : Access) (t : Temporaries) (h : ℕ) (stack locals : List Value) (rest : List Line) (w : W) →
      go_on (line_of line (To.load a) ∷ rest) (pushed (temporaries_from (place_types a) t h) stack) locals w ≡ bind (ops.load line (target_at a t h) w) (λ v w1. go_on rest (v ∷ stack) locals w1)
  load_does line a t h stack locals rest w =
      ap (λ m. popped m (pushed (temporaries_from (place_types a) t h) stack) [] (λ vs st. bind (ops.load line (target_of a a.shift vs) w) (λ v. go_on rest (v ∷ st) locals)) w) (let e = width_is a t h in let f : width a ≡ 0 + length (temporaries_from (place_types a) t h) = omega (arith, e) in f)
      ∙ popped_pushed (temporaries_from (place_types a) t h) stack [] 0 _ w
      ∙ ap (λ tg. bind (ops.load line tg w) (λ v. go_on rest (v ∷ stack) locals)) (target_more a t h [])

  store_does : (line : ℕ) (a : Access) (t : Temporaries) (h : ℕ) (v : Value) (stack locals : List Value) (rest : List Line) (w : W) →
      go_on (line_of line (To.store a) ∷ rest) (v ∷ pushed (temporaries_from (place_types a) t h) stack) locals w ≡ bind (ops.store line (target_at a t h) (kept a.cell v) w) (λ _ w1. go_on rest stack locals w1)
  store_does line a t h v stack locals rest w =
      let vs = temporaries_from (place_types a) t h in
      let cont : List Value → List Value → Run W Value = λ vs st. bind (ops.store line (target_of a a.shift vs) (kept a.cell (last_of vs)) w) (λ _. go_on rest st locals) in
      ap (λ m. popped m (v ∷ pushed vs stack) [] cont w) (let e = width_is a t h in let f : suc (width a) ≡ suc (0 + length vs) = omega (arith, e) in f)
      ∙ popped_pushed vs stack (v ∷ []) 0 cont w
      ∙ ap (λ tg. bind (ops.store line tg (kept a.cell (last_of (vs ++ v ∷ []))) w) (λ _. go_on rest stack locals)) (target_more a t h (v ∷ []))
      ∙ ap (λ u. bind (ops.store line (target_at a t h) (kept a.cell u) w) (λ _. go_on rest stack locals)) (last_append vs v)

  converted_does : (line : ℕ) (from to : NumberType) (v : Value) (stack locals : List Value) (rest : List Line) (w : W) → go_on (at line (convert_code from to) ++ rest) (v ∷ stack) locals w ≡ go_on rest (convert_value from to v ∷ stack) locals w
  converted_does line Int Int v stack locals rest w = refl
  converted_does line Int Unsigned v stack locals rest w = refl
  converted_does line Int Char v stack locals rest w = refl
  converted_does line Unsigned Int v stack locals rest w = refl
  converted_does line Unsigned Unsigned v stack locals rest w = refl
  converted_does line Unsigned Char v stack locals rest w = ap (λ n. go_on rest (Number n ∷ stack) locals w) (char_again (number_in v))
  converted_does line Char Int v stack locals rest w = refl
  converted_does line Char Unsigned v stack locals rest w = refl
  converted_does line Char Char v stack locals rest w = refl

  -- the new value, from the old one on the stack and the operand in its local
  change_does : (line : ℕ) (change : Change) (cell_ty ty : Ty) (fetch : ℕ) (old v : Value) (stack locals : List Value) (rest : List Line) (w : W) → local_at locals fetch ≡ v →
      go_on (at line (change_code slot deleting types change cell_ty ty (To.get fetch)) ++ rest) (old ∷ stack) locals w ≡ bind (new_value ops deleting types line change ty old v w) (λ new w1. go_on rest (new ∷ stack) locals w1)
  change_does line (Stepping direction) cell_ty ty fetch old v stack locals rest w e =
      ap (λ u. bind (ops.step line old (toward direction (number_in u)) w) (λ new. go_on rest (new ∷ stack) locals)) e
  change_does line (Compute from operator s) cell_ty ty fetch old v stack locals rest w e =
      let old1 = convert_value from (type_of s) old in
      let tail = compared operator s ++ convert_code (type_of s) from in
      ap (λ c. go_on c (old ∷ stack) locals w) (at_two ops deleting calls again line (convert_code from (type_of s)) (To.get fetch ∷ (count_code (is_shift operator) ty ++ tail)) rest)
      ∙ converted_does line from (type_of s) old stack locals (line_of line (To.get fetch) ∷ (at line (count_code (is_shift operator) ty ++ tail) ++ rest)) w
      ∙ ap (λ u. go_on (at line (count_code (is_shift operator) ty ++ tail) ++ rest) (u ∷ old1 ∷ stack) locals w) e
      ∙ ap (λ c. go_on c (v ∷ old1 ∷ stack) locals w) (at_two ops deleting calls again line (count_code (is_shift operator) ty) tail rest)
      ∙ count_does ops deleting calls again line (is_shift operator) ty v (old1 ∷ stack) locals (at line tail ++ rest) w
      ∙ ap (λ c. go_on c (counted_value ops deleting calls again (is_shift operator) ty v ∷ old1 ∷ stack) locals w) (at_two ops deleting calls again line (compared operator s) (convert_code (type_of s) from) rest)
      ∙ compared_does ops deleting calls again line operator s old1 (counted_value ops deleting calls again (is_shift operator) ty v) stack locals (at line (convert_code (type_of s) from) ++ rest) w
      ∙ ap (λ x. bind (bind (computed line (calculate operator s (number_in old1) x) w) give_number) (λ new. go_on (at line (convert_code (type_of s) from) ++ rest) (new ∷ stack) locals)) (count_is ops deleting calls again (is_shift operator) ty v)
      ∙ finish (computed line (calculate operator s (number_in old1) (right_number operator ty v)) w)
    where
      finish : (m : Run W ℤ) → bind (bind m give_number) (λ new. go_on (at line (convert_code (type_of s) from) ++ rest) (new ∷ stack) locals) ≡ bind (bind m (λ x w1. Go (convert_value (type_of s) from (Number x)) w1)) (λ new. go_on rest (new ∷ stack) locals)
      finish (Go x w1) = converted_does line (type_of s) from (Number x) stack locals rest w1
      finish (Stopped t w1) = refl

  nil_append : (tys : List Ty) → tys ++ [] ≡ tys
  nil_append [] = refl
  nil_append (ty ∷ tys) = ap (λ x. ty ∷ x) (nil_append tys)

  abbrev spilled_all : List Ty → Temporaries → List Value → List Value
  spilled_all tys t locals = spilled ops deleting types slot calls again env n Has slot_behind slot_there slots_apart Fine operation_fine 0 tys t locals

  -- all operands of an act go into their locals
  stored_all : (xs : List Ty) (t : Temporaries) (locals : List Value) → AllKept Has types 0 (pushed xs []) → Mirrors env locals → Kept xs 0 t (spilled_all (pushed xs []) t locals)
  stored_all xs t locals all m =
      let s : Stored (pushed xs [] ++ []) t (spilled_all (pushed xs []) t locals) = saved_spilled ops deleting types slot calls again env n Has slot_behind slot_there slots_apart Fine operation_fine [] (pushed xs []) t locals all m tt in
      (kept_stored xs [] t (spilled_all (pushed xs []) t locals) (subst (λ z. Stored z t (spilled_all (pushed xs []) t locals)) (nil_append (pushed xs [])) s)).0

  spill_does : (line : ℕ) (tys : List Ty) (code : List Instruction) (t : Temporaries) (locals : List Value) (rest : List Line) (w : W) → go_on (at line (spills slot 0 tys ++ code) ++ rest) (stack_of tys 0 t) locals w ≡ go_on (at line code ++ rest) [] (spilled_all tys t locals) w
  spill_does line tys code t locals rest w =
      ap (λ c. go_on c (stack_of tys 0 t) locals w) (at_two ops deleting calls again line (spills slot 0 tys) code rest)
      ∙ spills_do ops deleting types slot calls again env n Has slot_behind slot_there slots_apart Fine operation_fine line 0 tys t locals (at line code ++ rest) w

  gets_then : (line : ℕ) (tys : List Ty) (h : ℕ) (code : List Instruction) (t : Temporaries) (stack locals : List Value) (rest : List Line) (w : W) → Kept tys h t locals → go_on (at line (gets slot deleting types h tys ++ code) ++ rest) stack locals w ≡ go_on (at line code ++ rest) (pushed (temporaries_from tys t h) stack) locals w
  gets_then line tys h code t stack locals rest w k =
      ap (λ c. go_on c stack locals w) (at_two ops deleting calls again line (gets slot deleting types h tys) code rest) ∙ gets_do line tys h t stack locals (at line code ++ rest) w k

  abbrev pub ActDoes : Act → List Ty → Type 0
  ActDoes act tys = (last : ℕ) (live : ℕ → Bool) (rest : List Line) (next : Way → W → Run W Value) → Ends rest next → (t : Temporaries) (locals : List Value) (w : W) → Fine w → Mirrors env locals →
      go_on (act_lines slot deleting types last act tys live ++ rest) (stack_of tys 0 t) locals w ≡ bind (act_run ops deleting types act calls live env t w) next

  update_does : (line : ℕ) (a : Access) (change : Change) (ty : Ty) → AllKept Has types 0 (pushed (place_types a ++ ty ∷ []) []) → ActDoes (From.update line a change ty) (pushed (place_types a ++ ty ∷ []) [])
  update_does line a change ty all last live rest next ends t locals w f m =
      let xs = place_types a ++ ty ∷ [] in
      let tys = pushed xs [] in
      let locals1 = spilled_all tys t locals in
      let pw = place_width a in
      let kept_both = kept_append (place_types a) (ty ∷ []) 0 (width a) t locals1 (omega (arith, pw)) (stored_all xs t locals all m) in
      let m1 = mirrors_spilled ops deleting types slot calls again env n Has slot_behind slot_there slots_apart Fine operation_fine 0 tys t locals m in
      let change1 = change_code slot deleting types change a.cell ty (To.get (slot (width a) ty)) in
      let code2 = To.load a ∷ (change1 ++ To.store a ∷ []) in
      let code1 = gets slot deleting types 0 (place_types a) ++ code2 in
      let vs = temporaries_from (place_types a) t 0 in
      let v = temporary ty t (width a) in
      let left : Value → Temporaries = λ new. set_kind (change_kind change) t (suc (width a)) new in
      let new_run : Value → W → Run W Value = λ old w1. new_value ops deleting types line change ty old v w1 in
      let put_run : Value → W → Run W (Unit {0}) = λ new w2. ops.store line (target_at a t 0) (kept a.cell new) w2 in
      spill_does line tys (gets slot deleting types 0 (place_types a) ++ code1) t locals rest w
      ∙ gets_then line (place_types a) 0 code1 t [] locals1 rest w kept_both.0
      ∙ gets_then line (place_types a) 0 code2 t (pushed vs []) locals1 rest w kept_both.0
      ∙ load_does line a t 0 (pushed vs []) locals1 (at line (change1 ++ To.store a ∷ []) ++ rest) w
      ∙ then_fine (ops.load line (target_at a t 0) w) _ (λ old w1. bind (bind (new_run old w1) (λ new w2. bind (put_run new w2) (λ _ w3. Go (Next env (left new)) w3))) next) (turning.load line _ w p f.0) (turning.load line _ w q f.1) (λ old w1 f1.
      ap (λ c. go_on c (old ∷ pushed vs []) locals1 w1) (at_two ops deleting calls again line change1 (To.store a ∷ []) rest)
      ∙ change_does line change a.cell ty (slot (width a) ty) old v (pushed vs []) locals1 (line_of line (To.store a) ∷ rest) w1 kept_both.1.0
      ∙ then_fine (new_run old w1) _ (λ new w2. bind (bind (put_run new w2) (λ _ w3. Go (Next env (left new)) w3)) next) (new_within ops turning deleting types calls calls_fine line change ty old v w1 p f1.0) (new_within ops turning deleting types calls calls_fine line change ty old v w1 q f1.1) (λ new w2 f2.
      store_does line a t 0 new [] locals1 rest w2
      ∙ then_fine (put_run new w2) (λ _ w3. go_on rest [] locals1 w3) (λ _ w3. next (Next env (left new)) w3) (turning.store line _ _ w2 p f2.0) (turning.store line _ _ w2 q f2.1) (λ _ w3 f3. ends.goes env (left new) locals1 w3 f3 m1)
      ∙ sym (bind_bind (put_run new w2) (λ _ w3. Go (Next env (left new)) w3) next))
      ∙ sym (bind_bind (new_run old w1) (λ new w2. bind (put_run new w2) (λ _ w3. Go (Next env (left new)) w3)) next))
      ∙ sym (bind_bind (ops.load line (target_at a t 0) w) (λ old w1. bind (new_run old w1) (λ new w2. bind (put_run new w2) (λ _ w3. Go (Next env (left new)) w3))) next)

  same_cell : (a : Access) (ty : Ty) (t : Temporaries) (h : ℕ) → target_at (record a { cell = ty }) t h ≡ target_at a t h
  same_cell a ty t h = by a.shift
    where
      by : (s : Option Signedness) → target_shifted s (record a { cell = ty }) t h ≡ target_shifted s a t h
      by None = refl
      by (Some s) = refl

  next_cell : (a : Access) (t : Temporaries) (h : ℕ) → target_at (further a) t h ≡ record (target_at a t h) { offset = suc (target_at a t h).offset }
  next_cell a t h = by a.shift
    where
      by : (s : Option Signedness) → target_shifted s (further a) t h ≡ record (target_shifted s a t h) { offset = suc (target_shifted s a t h).offset }
      by None = refl
      by (Some s) = refl

  kept_as : (kind : CellKind) (v : Value) → kept (cell_type kind) v ≡ kept_cell kind v
  kept_as int_cell v = refl
  kept_as unsigned_cell v = refl
  kept_as char_cell v = refl
  kept_as region_cell v = refl
  kept_as (pointer_cell note target) v = refl

  cells_do : (line h : ℕ) (kinds : Layout) (left right : Access) (t u : Temporaries) (locals : List Value) (rest : List Line) (next : Way → W → Run W Value) → Ends rest next → Kept (place_types left) 0 t locals → Kept (place_types right) (width left) t locals → (w : W) → Fine w → Mirrors env locals →
      go_on (at line (cells_code slot deleting types kinds left right) ++ rest) [] locals w ≡ bind (cells_moved ops deleting types line h kinds (target_at right t (width left)) (target_at left t 0) u w) (λ u1 w1. next (Next env u1) w1)
  cells_do line h [] left right t u locals rest next ends kl kr w f m = ends.goes env u locals w f m
  cells_do line h (kind ∷ kinds) left right t u locals rest next ends kl kr w f m =
      let ty = cell_type kind in
      let from : Access = record right { cell = ty } in
      let to : Access = record left { cell = ty } in
      let source = target_at right t (width left) in
      let goal = target_at left t 0 in
      let more = cells_code slot deleting types kinds (further left) (further right) in
      let vs = temporaries_from (place_types left) t 0 in
      let put_run : Value → W → Run W (Unit {0}) = λ v w1. ops.store line goal (kept_cell kind v) w1 in
      let go_run : Value → W → Run W Temporaries = λ v w2. cells_moved ops deleting types line h kinds (record source { offset = suc source.offset }) (record goal { offset = suc goal.offset }) (with_cell kind u h v) w2 in
      gets_then line (place_types left) 0 (gets slot deleting types (width left) (place_types right) ++ (To.load from ∷ To.store to ∷ more)) t [] locals rest w kl
      ∙ gets_then line (place_types right) (width left) (To.load from ∷ To.store to ∷ more) t (pushed vs []) locals rest w kr
      ∙ load_does line from t (width left) (pushed vs []) locals (line_of line (To.store to) ∷ (at line more ++ rest)) w
      ∙ ap (λ tg. bind (ops.load line tg w) (λ v w1. go_on (line_of line (To.store to) ∷ (at line more ++ rest)) (v ∷ pushed vs []) locals w1)) (same_cell right ty t (width left))
      ∙ then_fine (ops.load line source w) _ (λ v w1. bind (bind (put_run v w1) (λ _ w2. go_run v w2)) (λ u1 w2. next (Next env u1) w2)) (turning.load line _ w p f.0) (turning.load line _ w q f.1) (λ v w1 f1.
      store_does line to t 0 v [] locals (at line more ++ rest) w1
      ∙ ap (λ tg. bind (ops.store line tg (kept ty v) w1) (λ _ w2. go_on (at line more ++ rest) [] locals w2)) (same_cell left ty t 0)
      ∙ ap (λ u. bind (ops.store line goal u w1) (λ _ w2. go_on (at line more ++ rest) [] locals w2)) (kept_as kind v)
      ∙ then_fine (put_run v w1) (λ _ w2. go_on (at line more ++ rest) [] locals w2) (λ _ w2. bind (go_run v w2) (λ u1 w3. next (Next env u1) w3)) (turning.store line _ _ w1 p f1.0) (turning.store line _ _ w1 q f1.1) (λ _ w2 f2.
      cells_do line h kinds (further left) (further right) t (with_cell kind u h v) locals rest next ends kl kr w2 f2 m
      ∙ ap (λ tg. bind (cells_moved ops deleting types line h kinds tg (target_at (further left) t 0) (with_cell kind u h v) w2) (λ u1 w3. next (Next env u1) w3)) (next_cell right t (width left))
      ∙ ap (λ tg. bind (cells_moved ops deleting types line h kinds (record source { offset = suc source.offset }) tg (with_cell kind u h v) w2) (λ u1 w3. next (Next env u1) w3)) (next_cell left t 0))
      ∙ sym (bind_bind (put_run v w1) (λ _ w2. go_run v w2) (λ u1 w2. next (Next env u1) w2)))
      ∙ sym (bind_bind (ops.load line source w) (λ v w1. bind (put_run v w1) (λ _ w2. go_run v w2)) (λ u1 w2. next (Next env u1) w2))

  move_does : (line : ℕ) (cells : Layout) (left right : Access) → AllKept Has types 0 (pushed (place_types left ++ place_types right) []) → ActDoes (From.move line cells left right) (pushed (place_types left ++ place_types right) [])
  move_does line cells left right all last live rest next ends t locals w f m =
      let xs = place_types left ++ place_types right in
      let locals1 = spilled_all (pushed xs []) t locals in
      let pw = place_width left in
      let kept_both = kept_append (place_types left) (place_types right) 0 (width left) t locals1 (omega (arith, pw)) (stored_all xs t locals all m) in
      let m1 = mirrors_spilled ops deleting types slot calls again env n Has slot_behind slot_there slots_apart Fine operation_fine 0 (pushed xs []) t locals m in
      spill_does line (pushed xs []) (cells_code slot deleting types cells left right) t locals rest w
      ∙ cells_do line (width left + width right) cells left right t t locals1 rest next ends kept_both.0 kept_both.1 w f m1
      ∙ sym (bind_bind (cells_moved ops deleting types line (width left + width right) cells (target_at right t (width left)) (target_at left t 0) t w) (λ t1 w1. Go (Next env t1) w1) next)

  store_acts : (line : ℕ) (a : Access) → ActDoes (From.store line a) (pushed (place_types a ++ value_type a.cell ∷ []) [])
  store_acts line a last live rest next ends t locals w f m =
      let c = value_type a.cell in
      let v = temporary c t (width a) in
      let pw = place_width a in
      ap (λ st. go_on (line_of line (To.store a) ∷ rest) st locals w)
      (stack_pushed (place_types a ++ c ∷ []) [] 0 0 t refl ∙ ap (λ vs. pushed vs []) (temporaries_append (place_types a) c t 0 (width a) (omega (arith, pw))) ∙ pushed_last (temporaries_from (place_types a) t 0) v [])
      ∙ store_does line a t 0 v [] locals rest w
      ∙ ap (λ k. bind (ops.store line (target_at a t 0) (kept a.cell (at_kind k t (width a))) w) (λ _ w1. go_on rest [] locals w1)) (kind_value a.cell)
      ∙ then_fine (ops.store line (target_at a t 0) (kept a.cell (temporary a.cell t (width a))) w) (λ _ w1. go_on rest [] locals w1) (λ _ w1. next (Next env t) w1) (turning.store line _ _ w p f.0) (turning.store line _ _ w q f.1) (λ _ w1 f1. ends.goes env t locals w1 f1 m)
      ∙ sym (bind_bind (ops.store line (target_at a t 0) (kept a.cell (temporary a.cell t (width a))) w) (λ _ w1. Go (Next env t) w1) next)
    where
      pushed_last : (vs : List Value) (v : Value) (stack : List Value) → pushed (vs ++ v ∷ []) stack ≡ v ∷ pushed vs stack
      pushed_last [] v stack = refl
      pushed_last (u ∷ vs) v stack = pushed_last vs v (u ∷ stack)

  perform_does : (line g : ℕ) (parameters : List Ty) → ActDoes (From.perform line g parameters) (pushed (map value_type parameters) [])
  perform_does line g parameters last live rest next ends t locals w f m =
      let pins = call_pins (deleting g) (pins_from types 0 live) in
      let tys = map value_type parameters in
      let cont : List Value → List Value → Run W Value = λ vs st. bind (given ops deleting line (To.call g parameters pins) calls locals vs w) (λ _. go_on rest st locals) in
      ap (λ k. popped k (stack_of (pushed tys []) 0 t) [] cont w) (length_types ops deleting calls again parameters)
      ∙ popped_all tys t cont w
      ∙ ap (λ vs. cont vs []) (values_in ops deleting calls again parameters t 0)
      ∙ call_held ops deleting types slot calls again g live locals env (kept_all parameters (temporaries_from parameters t 0)) (λ _ w1. go_on rest [] locals w1) w m.same
      ∙ then_fine (operation_value ops deleting types line (From.call g parameters) calls live env t 0 w) (λ _ w1. go_on rest [] locals w1) (λ _ w1. next (Next env t) w1) (operation_within ops turning deleting types calls calls_fine line (From.call g parameters) live env t 0 w p f.0) (operation_within ops turning deleting types calls calls_fine line (From.call g parameters) live env t 0 w q f.1) (λ _ w1 f1. ends.goes env t locals w1 f1 m)
      ∙ sym (bind_bind (operation_value ops deleting types line (From.call g parameters) calls live env t 0 w) (λ _ w1. Go (Next env t) w1) next)

  pops_do : (last : ℕ) (tys : List Ty) (t : Temporaries) (locals : List Value) (rest : List Line) (w : W) → go_on (pops slot deleting types last tys ++ rest) (stack_of tys 0 t) locals w ≡ go_on rest [] locals w
  pops_do last [] t locals rest w = refl
  pops_do last (ty ∷ tys) t locals rest w = pops_do last tys t locals rest w

  assign_does : (line x : ℕ) (ty : Ty) → ActDoes (From.assign line x ty) (value_type ty ∷ [])
  assign_does line x ty last live rest next ends t locals w f m =
      ap (λ k. go_on rest [] (with_local locals x (kept ty (at_kind k t 0))) w) (kind_value ty)
      ∙ ends.goes (with_local env x (kept ty (temporary ty t 0))) t (with_local locals x (kept ty (temporary ty t 0))) w f (mirrors_assign (length types) n env locals x (kept ty (temporary ty t 0)) room m)

  delete_does : (line : ℕ) → ActDoes (From.delete line) (region ∷ [])
  delete_does line last live rest next ends t locals w f m =
      ap (λ vs. bind (ops.delete line vs (t.regions 0) w) (λ _ w1. go_on rest [] locals w1)) (pinned_same types live locals env m.same)
      ∙ then_fine (ops.delete line (pinned (pins_from types 0 live) env) (t.regions 0) w) (λ _ w1. go_on rest [] locals w1) (λ _ w1. next (Next env t) w1) (turning.delete line _ _ w p f.0) (turning.delete line _ _ w q f.1) (λ _ w1 f1. ends.goes env t locals w1 f1 m)
      ∙ sym (bind_bind (ops.delete line (pinned (pins_from types 0 live) env) (t.regions 0) w) (λ _ w1. Go (Next env t) w1) next)

  leave_does : (line : ℕ) (result : Option Ty) → ActDoes (From.leave line result) (pushed (act_types (From.leave line result)) [])
  leave_does line None last live rest next ends t locals w f m = ends.returns Null w f
  leave_does line (Some ty) last live rest next ends t locals w f m = ends.returns (temporary ty t 0) w f

  drop_does : (tys : List Ty) → ActDoes From.drop tys
  drop_does tys last live rest next ends t locals w f m = pops_do last tys t locals rest w ∙ ends.goes env t locals w f m

  pub act_does : (act : Act) (tys : List Ty) → ActFits act tys → ActKeeps Has types act tys → ActDoes act tys
  act_does From.drop tys e sp = drop_does tys
  act_does (From.perform line g parameters) tys e sp = subst (λ z. ActDoes (From.perform line g parameters) z) (sym e) (perform_does line g parameters)
  act_does (From.assign line x ty) tys e sp = subst (λ z. ActDoes (From.assign line x ty) z) (sym e) (assign_does line x ty)
  act_does (From.store line a) tys e sp = subst (λ z. ActDoes (From.store line a) z) (sym e) (store_acts line a)
  act_does (From.update line a change ty) tys e sp = subst (λ z. ActDoes (From.update line a change ty) z) (sym e) (update_does line a change ty (subst (λ z. AllKept Has types 0 z) e sp))
  act_does (From.move line cells left right) tys e sp = subst (λ z. ActDoes (From.move line cells left right) z) (sym e) (move_does line cells left right (subst (λ z. AllKept Has types 0 z) e sp))
  act_does (From.delete line) tys e sp = subst (λ z. ActDoes (From.delete line) z) (sym e) (delete_does line)
  act_does (From.leave line result) tys e sp = subst (λ z. ActDoes (From.leave line result) z) (sym e) (leave_does line result)
