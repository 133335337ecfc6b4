-- Where marks stand at annotated stores alone, the stack code of labelled region code tells no mark of a store to a plain cell.
use Rattle.std.proofs.Common.{◌≡◌, ℕ, zero, suc, ◌+◌, ◌-◌, Bool, true, false, List, [], ◌∷◌, ◌++◌, length, get_or, Option, Some, None, refl, sym, ap, ◌∙◌, subst, arith}
use Rattle.std.specs.Prelude.{slice_get}
use Rattle.std.specs.Option.{option_map}
use Rattle.rc_core.specs.declared.ty.Note.{Note}
use Rattle.rc_core.specs.declared.ty.Note.TheVariants.{Plain, SameRegion, ParentPtr, Traditional}
use Rattle.rc_core.specs.declared.ty.NumberType.{NumberType}
use Rattle.rc_core.specs.declared.ty.NumberType.TheVariants.{Int, Unsigned, Char}
use Rattle.rc_core.specs.declared.ty.Signedness.{Signedness}
use Rattle.rc_core.specs.declared.ty.Signedness.TheVariants.{Signed, Unsigned as Wrapping}
use Rattle.rc_core.specs.declared.operators.Operator.{Operator}
use Rattle.rc_core.specs.declared.operators.Operator.TheVariants.{Multiply, Divide, Remainder, Add, Subtract, ShiftLeft, ShiftRight, Less, Greater, LessEqual, GreaterEqual, Equal, NotEqual, And, Xor, Or}
use Rattle.rc_core.specs.declared.stmt.Change.{Change}
use Rattle.rc_core.specs.declared.stmt.Change.TheVariants.{Compute, Step as Stepping}
use Rattle.rc_core.specs.Types.{Ty, int, unsigned, char, region, struct, pointer}
use Rattle.rc_core.specs.Layout.{Layout, note_of}
use Rattle.rc_core.specs.Arithmetic.{type_of}
use Rattle.rc_core.specs.Typing.{is_shift}
use Rattle.rc_core.specs.Live.{Ways}
use Rattle.rc_rlang.specs.RegionCode.{Access, width, Step, set, fork, Steps, none, more, Act, drop, perform, assign, store, update, move, delete, leave, Test, Code, simple, clear, block, branch, loop, repeat, break, continue, Codes, done, then, Routine}
use Rattle.rc_rlang.specs.RegionPoints.{steps_points, branch_points, code_points, codes_points}
use Rattle.rc_rlang.specs.RegionFits.{place_types}
use Rattle.rc_rlang.specs.RegionFlow.{temporary_variable, Effect, stored, Node, going, Ends, first_of, in_line, stored_value, change_effects, cell_effects, act_nodes, steps_nodes, test_nodes, code_nodes, codes_nodes, one_of, looked_at, is_regional_cell}
use Rattle.rc_annotations.specs.Annotations.{asked_of, asked_by}
use Rattle.rc_annotations.proofs.Nodes.{steps_count, test_count, code_count}
use Rattle.rc_emission.specs.StackCode.{Instruction, Line}
use Rattle.rc_emission.specs.StackCode as To
use Rattle.rc_emission.specs.OperationCode.{line_of, at, compared, count_code, convert_code, test_code, spills, reloads}
use Rattle.rc_emission.specs.StatementCode.{Place, exit_test, exit_lines, cell_type, further, set_code, gets, steps_lines, step_lines, change_code, cells_code, pops, last_line, act_lines, code_lines, codes_lines, end_lines}
use Rattle.rc_along.specs.Along.{Stand}
use Rattle.rc_along.specs.MarkedRuns.{before_store}
use Rattle.rc_along.proofs.Standing.{stand_left, stand_right}
use Rattle.rc_labels.specs.Labels.{Label, Numbering, without_marks, mark_at, plain}
use Rattle.rc_labels.specs.Labelled.{copy_marks, step_labelled, steps_labelled, test_labelled, act_labelled, code_labelled, codes_labelled}
use Rattle.rc_marks.specs.Stores.{note_on}
use Rattle.rc_labels.proofs.Marking.{single, note_again}

-- ---- instructions that are no stores

abbrev is_store : Instruction → Bool
is_store (To.store a) = true
is_store i = false

abbrev NoStore : List Instruction → Type 0
NoStore [] = Unit {0}
NoStore (i ∷ is) = (is_store i ≡ false) × NoStore is

both : (a b : List Instruction) → NoStore a → NoStore b → NoStore (a ++ b)
both [] b x y = y
both (i ∷ a) b x y = (x.0, both a b x.1 y)

count_no_store : (b : Bool) (ty : Ty) → NoStore (count_code b ty)
count_no_store true int = tt
count_no_store true unsigned = (refl, tt)
count_no_store true char = tt
count_no_store true region = tt
count_no_store true (struct k) = tt
count_no_store true (pointer note target) = tt
count_no_store false ty = tt

compared_no_store : (operator : Operator) (s : Signedness) → NoStore (compared operator s)
compared_no_store Multiply s = (refl, tt)
compared_no_store Divide s = (refl, tt)
compared_no_store Remainder s = (refl, tt)
compared_no_store Add s = (refl, tt)
compared_no_store Subtract s = (refl, tt)
compared_no_store ShiftLeft s = (refl, tt)
compared_no_store ShiftRight s = (refl, tt)
compared_no_store Less s = (refl, tt)
compared_no_store Greater s = (refl, (refl, tt))
compared_no_store LessEqual s = (refl, tt)
compared_no_store GreaterEqual s = (refl, (refl, tt))
compared_no_store Equal s = (refl, tt)
compared_no_store NotEqual s = (refl, (refl, tt))
compared_no_store And s = (refl, tt)
compared_no_store Xor s = (refl, tt)
compared_no_store Or s = (refl, tt)

convert_no_store : (from to : NumberType) → NoStore (convert_code from to)
convert_no_store Int Int = tt
convert_no_store Int Unsigned = (refl, tt)
convert_no_store Int Char = (refl, tt)
convert_no_store Unsigned Int = (refl, tt)
convert_no_store Unsigned Unsigned = tt
convert_no_store Unsigned Char = (refl, (refl, tt))
convert_no_store Char Int = tt
convert_no_store Char Unsigned = (refl, tt)
convert_no_store Char Char = tt

module _ (slot : ℕ → Ty → ℕ) (deleting : ℕ → Bool) (types : List Ty) where
  spills_no_store : (base : ℕ) (tys : List Ty) → NoStore (spills slot base tys)
  spills_no_store base [] = tt
  spills_no_store base (ty ∷ tys) = (refl, spills_no_store base tys)

  gets_no_store : (h : ℕ) (tys : List Ty) → NoStore (gets slot deleting types h tys)
  gets_no_store h [] = tt
  gets_no_store h (ty ∷ tys) = (refl, gets_no_store (suc h) tys)

  change_no_store : (change : Change) (cell ty : Ty) (h : ℕ) → NoStore (change_code slot deleting types change cell ty (To.get (slot h ty)))
  change_no_store (Compute from operator s) cell ty h =
      both (convert_code from (type_of s)) _ (convert_no_store from (type_of s))
      (refl, both (count_code (is_shift operator) ty) _ (count_no_store (is_shift operator) ty) (both (compared operator s) (convert_code (type_of s) from) (compared_no_store operator s) (convert_no_store (type_of s) from)))
  change_no_store (Stepping direction) cell ty h = (refl, (refl, tt))

module _ (n : Numbering) where
  -- a store to a plain cell has no mark
  abbrev pub IsPlainly : Line → Type 0
  IsPlainly l = (a : Access) → l.instruction ≡ To.store a → note_on a.cell ≡ Plain → mark_at (n.label l.line) a.offset ≡ false

  abbrev pub Plainly : List Line → Type 0
  Plainly [] = Unit {0}
  Plainly (l ∷ lines) = IsPlainly l × Plainly lines

  pub plainly_both : (a b : List Line) → Plainly a → Plainly b → Plainly (a ++ b)
  plainly_both [] b x y = y
  plainly_both (l ∷ a) b x y = (x.0, plainly_both a b x.1 y)

  -- a label without marks
  abbrev Unmarked : ℕ → Type 0
  Unmarked label = (offset : ℕ) → mark_at (n.label label) offset ≡ false

  plain_unmarked : (line : ℕ) → Unmarked (plain n line)
  plain_unmarked line offset = ap (λ (l : Label). mark_at l offset) (n.read (without_marks line))

  unmarked_one : (label : ℕ) → Unmarked label → (i : Instruction) → IsPlainly (line_of label i)
  unmarked_one label u i a e p = u a.offset

  unmarked : (label : ℕ) → Unmarked label → (is : List Instruction) → Plainly (at label is)
  unmarked label u [] = tt
  unmarked label u (i ∷ is) = (unmarked_one label u i, unmarked label u is)

  no_store_one : (label : ℕ) (i : Instruction) → is_store i ≡ false → IsPlainly (line_of label i)
  no_store_one label i s a e p = absurd (apart (sym s ∙ ap is_store e))
    where
      apart : false ≡ true → ⊥
      apart e = cc

  no_store : (label : ℕ) (is : List Instruction) → NoStore is → Plainly (at label is)
  no_store label [] s = tt
  no_store label (i ∷ is) s = (no_store_one label i s.0, no_store label is s.1)

  past : (label : ℕ) (a b : List Instruction) → NoStore a → Plainly (at label b) → Plainly (at label (a ++ b))
  past label [] b s y = y
  past label (i ∷ a) b s y = (no_store_one label i s.0, past label a b s.1 y)

  stores : (label : ℕ) (a : Access) → (note_on a.cell ≡ Plain → mark_at (n.label label) a.offset ≡ false) → IsPlainly (line_of label (To.store a))
  stores label a h b e p = let q : a ≡ b = cc in subst (λ (x : Access). note_on x.cell ≡ Plain → mark_at (n.label label) x.offset ≡ false) q h p

  module _ (slot : ℕ → Ty → ℕ) (deleting : ℕ → Bool) (types : List Ty) where
    mutual
      step_plainly : (s : Step) (saved tys : List Ty) (live : ℕ → Bool) → Plainly (step_lines slot deleting types (step_labelled n s) saved tys live)
      step_plainly (set line h ty op) saved tys live = unmarked (plain n line) (plain_unmarked line) (set_code slot deleting types h ty op live)
      step_plainly (fork line h test result a b) saved [] live = tt
      step_plainly (fork line h test result a b) saved (ty ∷ below) live =
          let label = plain n line in
          let u = plain_unmarked line in
          plainly_both (at label (spills slot (length saved) (ty ∷ below))) _ (unmarked label u (spills slot (length saved) (ty ∷ below)))
          (plainly_both (at label (To.get (slot (length saved + length below) ty) ∷ test_code test)) _ (unmarked label u (To.get (slot (length saved + length below) ty) ∷ test_code test)) (
            unmarked_one label u _,
            plainly_both (steps_lines slot deleting types (steps_labelled n a) (below ++ saved) [] live) _ (steps_plainly a (below ++ saved) [] live) (
              unmarked_one label u _,
              (
                unmarked_one label u _,
                plainly_both (steps_lines slot deleting types (steps_labelled n b) (below ++ saved) [] live) _ (steps_plainly b (below ++ saved) [] live) (
                  unmarked_one label u _,
                  plainly_both (at label (reloads slot (length saved) below)) _ (unmarked label u (reloads slot (length saved) below)) (unmarked_one label u _, tt),
                ),
              ),
            ),
          ))

      steps_plainly : (s : Steps) (saved tys : List Ty) (live : ℕ → Bool) → Plainly (steps_lines slot deleting types (steps_labelled n s) saved tys live)
      steps_plainly none saved tys live = tt
      steps_plainly (more s rest) saved tys live = plainly_both (step_lines slot deleting types (step_labelled n s) saved tys _) _ (step_plainly s saved tys _) (steps_plainly rest saved _ live)

    pops_plainly : (last : ℕ) (tys : List Ty) → Plainly (pops slot deleting types last tys)
    pops_plainly last [] = tt
    pops_plainly last (ty ∷ tys) = (no_store_one last To.pop refl, pops_plainly last tys)

    exit_plainly : (test : Option Test) (over : ℕ) → Plainly (exit_lines (option_map (test_labelled n) test) over)
    exit_plainly None over = tt
    exit_plainly (Some test) over = plainly_both (at (plain n test.line) (exit_test test.wanted test.ty)) _ (unmarked (plain n test.line) (plain_unmarked test.line) (exit_test test.wanted test.ty)) (unmarked_one (plain n test.line) (plain_unmarked test.line) _, tt)

    pub end_plainly : (result : Option Ty) (line : ℕ) → Plainly (end_lines slot deleting types result (plain n line))
    end_plainly None line = (unmarked_one (plain n line) (plain_unmarked line) _, tt)
    end_plainly (Some ty) line = (unmarked_one (plain n line) (plain_unmarked line) _, (unmarked_one (plain n line) (plain_unmarked line) _, tt))

    -- a function's nodes, and a mark at a point whose node asks for nothing
    module _ (f : Routine) (all : List Node) (marked : (point : ℕ) → Bool) (unasked : (p : ℕ) (node : Node) → slice_get all p ≡ Some node → asked_by node ≡ None → marked p ≡ false) where
      plain_store : (cell : Ty) (value holder : ℕ) → note_on cell ≡ Plain → asked_of (stored_value f cell value holder) ≡ None
      plain_store int value holder e = refl
      plain_store unsigned value holder e = refl
      plain_store char value holder e = refl
      plain_store region value holder e = refl
      plain_store (struct k) value holder e = refl
      plain_store (pointer Plain target) value holder e = refl
      plain_store (pointer SameRegion target) value holder e = absurd (cc e)
      plain_store (pointer ParentPtr target) value holder e = absurd (cc e)
      plain_store (pointer Traditional target) value holder e = absurd (cc e)

      -- of effects in line, one by its place
      stands : (es : List Effect) (here next i : ℕ) (e : Effect) → Stand all here (in_line es here next) → slice_get es i ≡ Some e → (to : ℕ) × (slice_get all (here + i) ≡ Some (going e to))
      stands [] here next i e st q = absurd (cc q)
      stands (d ∷ []) here next zero e st q = let s : d ≡ e = cc in (next, (let x : here + 0 ≡ here = omega arith in ap (slice_get all) x) ∙ st.0 ∙ ap (λ y. Some (going y next)) s)
      stands (d ∷ []) here next (suc i) e st q = absurd (cc q)
      stands (d ∷ c ∷ es) here next zero e st q = let s : d ≡ e = cc in (suc here, (let x : here + 0 ≡ here = omega arith in ap (slice_get all) x) ∙ st.0 ∙ ap (λ y. Some (going y (suc here))) s)
      stands (d ∷ c ∷ es) here next (suc i) e st q = let r = stands (c ∷ es) (suc here) next i e st.1 q in (r.0, (let x : here + suc i ≡ suc here + i = omega arith in ap (slice_get all) x) ∙ r.1)

      -- an update's store stands behind what it is made of
      last_effect : (a : Access) (change : Change) → note_on a.cell ≡ Plain → (e : Effect) × ((slice_get (change_effects f a change) (before_store change) ≡ Some e) × (asked_of e ≡ None))
      last_effect a (Compute Int operator Signed) p = (_, (refl, refl))
      last_effect a (Compute Int operator Wrapping) p = (_, (refl, refl))
      last_effect a (Compute Unsigned operator Signed) p = (_, (refl, refl))
      last_effect a (Compute Unsigned operator Wrapping) p = (_, (refl, refl))
      last_effect a (Compute Char operator Signed) p = (_, (refl, refl))
      last_effect a (Compute Char operator Wrapping) p = (_, (refl, refl))
      last_effect a (Stepping direction) p = (stored_value f a.cell (suc (width a)) 0, (refl, plain_store a.cell (suc (width a)) 0 p))

      update_plainly : (a : Access) (change : Change) (here next : ℕ) → Stand all here (in_line (change_effects f a change) here next) → note_on a.cell ≡ Plain → marked (here + before_store change) ≡ false
      update_plainly a change here next st p =
          let l = last_effect a change p in
          let s = stands (change_effects f a change) here next (before_store change) l.0 st l.1.0 in
          unasked (here + before_store change) (going l.0 s.0) s.1 l.1.1

      -- `j` cells of a copy are done
      cells_plainly : (label : ℕ) (kinds : Layout) (left right : Access) (base j here value from : ℕ) → left.offset ≡ base + j → ((k : ℕ) → mark_at (n.label label) (base + (j + k)) ≡ get_or (copy_marks kinds marked here) k false)
          → ((i : ℕ) (e : Effect) → slice_get (cell_effects f value from kinds) i ≡ Some e → (to : ℕ) × (slice_get all (here + i) ≡ Some (going e to))) → Plainly (at label (cells_code slot deleting types kinds left right))
      cells_plainly label [] left right base j here value from el em st = tt
      cells_plainly label (kind ∷ kinds) left right base j here value from el em st =
          let eo : left.offset ≡ base + (j + 0) = omega (arith, el) in
          past label (gets slot deleting types 0 (place_types left)) _ (gets_no_store slot deleting types 0 (place_types left))
          (past label (gets slot deleting types (width left) (place_types right)) _ (gets_no_store slot deleting types (width left) (place_types right)) (
            no_store_one label _ refl,
            (
              stores label (record left { cell = cell_type kind }) (λ p. ap (mark_at (n.label label)) eo ∙ em 0 ∙ (let s = st 1 _ refl in unasked (suc here) _ ((let x : suc here ≡ here + 1 = omega arith in ap (slice_get all) x) ∙ s.1) (unasked_kind (is_regional_cell kind) (note_of kind) (temporary_variable f value) (temporary_variable f 0) (sym (note_again kind) ∙ p)))),
              cells_plainly label kinds (further left) (further right) base (suc j) (suc (suc here)) value from (omega (arith, el)) (λ k. (let e : base + (suc j + k) ≡ base + (j + suc k) = omega arith in ap (mark_at (n.label label)) e) ∙ em (suc k))
                  (λ i e q. let s = st (suc (suc i)) e q in (s.0, (let x : suc (suc here) + i ≡ here + suc (suc i) = omega arith in ap (slice_get all) x) ∙ s.1)),
            ),
          ))
        where
          unasked_kind : (regional : Bool) (note : Note) (v h : ℕ) → note ≡ Plain → asked_of (one_of regional (stored v h note) (looked_at h)) ≡ None
          unasked_kind true note v h e = ap (λ m. asked_of (stored v h m)) e
          unasked_kind false note v h e = refl

      act_plainly : (last : ℕ) (act : Act) (here next : ℕ) (tys : List Ty) (live : ℕ → Bool) → Stand all here (act_nodes f act here next) → Plainly (act_lines slot deleting types last (act_labelled n marked act here) tys live)
      act_plainly last drop here next tys live st = pops_plainly last tys
      act_plainly last (perform line g parameters) here next tys live st = (unmarked_one (plain n line) (plain_unmarked line) _, tt)
      act_plainly last (assign line x ty) here next tys live st = (unmarked_one (plain n line) (plain_unmarked line) _, tt)
      act_plainly last (store line a) here next tys live st = (stores _ a (λ p. single n line a.offset (marked here) ∙ unasked here _ st.0 (plain_store a.cell (width a) 0 p)), tt)
      act_plainly last (update line a change ty) here next tys live st =
          let label = n.number (record { line = line; base = a.offset; marks = marked (here + before_store change) ∷ [] }) in
          let fetched = gets slot deleting types 0 (place_types a) in
          let quiet = gets_no_store slot deleting types 0 (place_types a) in
          past label (spills slot 0 tys) _ (spills_no_store slot deleting types 0 tys)
          (past label fetched _ quiet (past label fetched _ quiet (
            no_store_one label (To.load a) refl,
            past label (change_code slot deleting types change a.cell ty (To.get (slot (width a) ty))) (To.store a ∷ []) (change_no_store slot deleting types change a.cell ty (width a))
                (stores label a (λ p. single n line a.offset (marked (here + before_store change)) ∙ update_plainly a change here next st p), tt),
          )))
      act_plainly last (move line cells left right) here next tys live st =
          let l : Label = record { line = line; base = left.offset; marks = copy_marks cells marked here } in
          past (n.number l) (spills slot 0 tys) _ (spills_no_store slot deleting types 0 tys)
          (cells_plainly (n.number l) cells left right left.offset 0 here (width left + width right) (width left) (omega arith)
          (λ k. ap (λ (x : Label). mark_at x (left.offset + (0 + k))) (n.read l) ∙ (let e : left.offset + (0 + k) - left.offset ≡ k = omega arith in ap (λ i. get_or (copy_marks cells marked here) i false) e))
          (λ i e q. stands (cell_effects f (width left + width right) (width left) cells) here next i e st q))
      act_plainly last (delete line) here next tys live st = (unmarked_one (plain n line) (plain_unmarked line) _, tt)
      act_plainly last (leave line result) here next tys live st = (unmarked_one (plain n line) (plain_unmarked line) _, tt)

      mutual
        pub code_plainly : (c : Code) (here : ℕ) (ends : Ends) (k : Ways) (p : Place) → Stand all here (code_nodes f c here ends) → Plainly (code_lines slot deleting types (code_labelled n marked c here) k p)
        code_plainly (simple steps act) here ends k p st =
            let at_act = here + steps_points steps in
            plainly_both (steps_lines slot deleting types (steps_labelled n steps) [] [] _) _ (steps_plainly steps [] [] _)
            (act_plainly (last_line (steps_labelled n steps)) act at_act ends.next _ k.next (stand_right all here at_act (steps_nodes f steps here _) _ (ap (λ m. here + m) (sym (steps_count f steps here _))) st))
        code_plainly (clear line x ty) here ends k p st = (unmarked_one (plain n line) (plain_unmarked line) _, (unmarked_one (plain n line) (plain_unmarked line) _, tt))
        code_plainly (block codes) here ends k p st = codes_plainly codes here ends k p st
        code_plainly (branch steps test a b) here ends k p st =
            let at_test = here + steps_points steps in
            let at_a = suc at_test in
            let at_b = at_a + code_points a in
            let st1 = stand_right all here at_test (steps_nodes f steps here at_test) _ (ap (λ m. here + m) (sym (steps_count f steps here at_test))) st in
            let st2 = st1.1 in
            plainly_both (steps_lines slot deleting types (steps_labelled n steps) [] [] _) _ (steps_plainly steps [] [] _)
            (plainly_both (exit_lines (Some (test_labelled n test)) _) _ (exit_plainly (Some test) _)
            (plainly_both (code_lines slot deleting types (code_labelled n marked a at_a) k _) _ (code_plainly a at_a ends k _ (stand_left all at_a (code_nodes f a at_a ends) (code_nodes f b at_b ends) st2)) (
              unmarked_one (plain n test.line) (plain_unmarked test.line) _,
              code_plainly b at_b ends k _ (stand_right all at_a at_b (code_nodes f a at_a ends) (code_nodes f b at_b ends) (ap (λ m. at_a + m) (sym (code_count f a at_a ends))) st2),
            )))
        code_plainly (loop line steps test third a) here ends k p st =
            let at_test = suc here + steps_points steps in
            let at_a = at_test + branch_points test in
            let at_third = at_a + code_points a in
            let back = first_of (code_points third) at_third here in
            let inside = first_of (code_points a) at_a back in
            let ends_a : Ends = record { next = back; broken = ends.next; continued = back } in
            let ends_third : Ends = record ends { next = here } in
            let st1 = stand_right all (suc here) at_test (steps_nodes f steps (suc here) at_test) _ (ap (λ m. suc here + m) (sym (steps_count f steps (suc here) at_test))) st.1 in
            let st2 = stand_right all at_test at_a (test_nodes f test inside ends.next) _ (ap (λ m. at_test + m) (sym (test_count f test inside ends.next))) st1 in
            plainly_both (steps_lines slot deleting types (steps_labelled n steps) [] [] _) _ (steps_plainly steps [] [] _)
            (plainly_both (exit_lines (option_map (test_labelled n) test) _) _ (exit_plainly test _)
            (plainly_both (code_lines slot deleting types (code_labelled n marked a at_a) _ _) _ (code_plainly a at_a ends_a _ _ (stand_left all at_a (code_nodes f a at_a ends_a) (code_nodes f third at_third ends_third) st2))
            (plainly_both (code_lines slot deleting types (code_labelled n marked third at_third) _ _) _
            (code_plainly third at_third ends_third _ _ (stand_right all at_a at_third (code_nodes f a at_a ends_a) (code_nodes f third at_third ends_third) (ap (λ m. at_a + m) (sym (code_count f a at_a ends_a))) st2))
            (unmarked_one (plain n line) (plain_unmarked line) _, tt))))
        code_plainly (repeat line a steps test) here ends k p st =
            let at_tail = suc here + code_points a in
            let at_test = at_tail + steps_points steps in
            let tail = first_of (steps_points steps) at_tail at_test in
            let ends_a : Ends = record { next = tail; broken = ends.next; continued = tail } in
            plainly_both (code_lines slot deleting types (code_labelled n marked a (suc here)) _ _) _ (code_plainly a (suc here) ends_a _ _ (stand_left all (suc here) (code_nodes f a (suc here) ends_a) _ st.1))
            (plainly_both (steps_lines slot deleting types (steps_labelled n steps) [] [] _) _ (steps_plainly steps [] [] _)
            (plainly_both (exit_lines (Some (test_labelled n test)) 1) _ (exit_plainly (Some test) 1) (unmarked_one (plain n line) (plain_unmarked line) _, tt)))
        code_plainly (break line) here ends k p st = (unmarked_one (plain n line) (plain_unmarked line) _, tt)
        code_plainly (continue line) here ends k p st = (unmarked_one (plain n line) (plain_unmarked line) _, tt)

        codes_plainly : (cs : Codes) (here : ℕ) (ends : Ends) (k : Ways) (p : Place) → Stand all here (codes_nodes f cs here ends) → Plainly (codes_lines slot deleting types (codes_labelled n marked cs here) k p)
        codes_plainly done here ends k p st = tt
        codes_plainly (then c rest) here ends k p st =
            let at_rest = here + code_points c in
            let ends_c : Ends = record ends { next = first_of (codes_points rest) at_rest ends.next } in
            plainly_both (code_lines slot deleting types (code_labelled n marked c here) _ _) _ (code_plainly c here ends_c _ _ (stand_left all here (code_nodes f c here ends_c) (codes_nodes f rest at_rest ends) st))
            (codes_plainly rest at_rest ends k _ (stand_right all here at_rest (code_nodes f c here ends_c) (codes_nodes f rest at_rest ends) (ap (λ m. here + m) (sym (code_count f c here ends_c))) st))
