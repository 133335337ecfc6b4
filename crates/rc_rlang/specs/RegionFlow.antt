-- The points of region code one after another: what each does to the region variables, and where it leads. The points of a function are
-- numbered from 0, in the order of the text; its entry is point 0. So a point is a place in the list of nodes, and needs no number of its
-- own. A function's region variables are, in this order: a hidden copy of each parameter that is a region or a pointer, which is never
-- assigned; its locals that are regions or pointers; its temporaries; its result; and one more, the scratch variable, which is free.
-- Where an edge assigns a variable, it is the first that the effect names. A branch has its effect on each edge, the step back of a loop
-- leads to the loop's point, and a part without a point leads to what comes behind it.
use Rattle.std.specs.Prelude.{ℕ, zero, suc, ◌+◌, Bool, true, false, List, [], ◌∷◌, ◌++◌, ◌-◌, replicate, take, count_by, Option, Some, None}
use Rattle.rc_core.specs.declared.ty.Note.{Note}
use Rattle.rc_core.specs.declared.ty.Note.TheVariants.{Plain}
use Rattle.rc_core.specs.declared.stmt.Change.{Change}
use Rattle.rc_core.specs.declared.stmt.Change.TheVariants.{Compute, Step as Stepping}
use Rattle.rc_core.specs.Types.{Ty, int, unsigned, char, region, struct, pointer, CellKind, int_cell, unsigned_cell, char_cell, region_cell, pointer_cell}
use Rattle.rc_core.specs.Typing.{is_reference}
use Rattle.rc_core.specs.Layout.{Layout, note_of}
use Rattle.rc_rlang.specs.Points.{change_points}
use Rattle.rc_rlang.specs.RegionCode.{Access, width, Operation, null, static, copy, load, step, step_from, call, new_region, new_subregion, region_of, allocate, allocate_array, Step, set, fork, Steps, none, more, Act, drop, perform, assign, store, update, move, delete, leave, Test, Code, simple, clear, block, branch, loop, repeat, break, continue, Codes, done, then, Routine}
use Rattle.rc_rlang.specs.RegionPoints.{step_points, steps_points, act_points, branch_points, code_points, codes_points}

-- what happens to the region variables
pub data Effect : Type 0 where
  nothing : Effect
  nulled : ℕ → Effect
  moved : ℕ → (from : ℕ) → Effect
  -- a pointer to a global or a string
  fixed : ℕ → Effect
  -- in the region of the other, which isn't null
  beside : ℕ → (other : ℕ) → Effect
  -- a new region
  made : ℕ → Effect
  -- a new region below another's
  under : ℕ → (above : ℕ) → Effect
  loaded : ℕ → (holder : ℕ) → Note → Effect
  -- a number is loaded or stored, or a region deleted
  looked_at : (holder : ℕ) → Effect
  stored : (value holder : ℕ) → Note → Effect
  -- a branch finds that it isn't null, or that it is
  present : ℕ → Effect
  absent : ℕ → Effect
  -- a call may assign its result
  called : Option ℕ → (function : ℕ) → (arguments : List ℕ) → Effect
  -- at the entry: each parameter's local, and its hidden copy
  entered : List (ℕ × ℕ) → Effect

-- the variable that is assigned
abbrev pub assigned : Effect → Option ℕ
assigned nothing = None
assigned (nulled x) = Some x
assigned (moved x y) = Some x
assigned (fixed x) = Some x
assigned (beside x y) = Some x
assigned (made x) = Some x
assigned (under x y) = Some x
assigned (loaded x y note) = Some x
assigned (looked_at y) = None
assigned (stored z y note) = None
assigned (present y) = None
assigned (absent y) = None
assigned (called x g arguments) = x
assigned (entered pairs) = None

pub record Edge : Type 0 where
  pub effect : Effect
  pub to : ℕ

-- a return leads to the exit, and may give a variable
pub record Node : Type 0 where
  pub edges : List Edge
  pub returns : Option (Option ℕ)

abbrev pub going : Effect → ℕ → Node
going effect to = record { edges = record { effect = effect; to = to } ∷ []; returns = None }

abbrev pub forking : (if_true if_false : Effect) → (to_yes to_no : ℕ) → Node
forking e d to_yes to_no = record { edges = record { effect = e; to = to_yes } ∷ record { effect = d; to = to_no } ∷ []; returns = None }

abbrev pub returning : Option ℕ → Node
returning given = record { edges = []; returns = Some given }

-- a region variable has a value of such a type
abbrev pub is_regional : Ty → Bool
is_regional ty = is_reference ty

abbrev pub is_regional_cell : CellKind → Bool
is_regional_cell int_cell = false
is_regional_cell unsigned_cell = false
is_regional_cell char_cell = false
is_regional_cell region_cell = true
is_regional_cell (pointer_cell note target) = true

-- the annotation of a cell of a type
abbrev pub note_in : Ty → Note
note_in int = Plain
note_in unsigned = Plain
note_in char = Plain
note_in region = Plain
note_in (struct k) = Plain
note_in (pointer note target) = note

abbrev pub one_of : {A : Type 0} → Bool → A → A → A
one_of true a b = a
one_of false a b = b

-- where something with so many points begins, or what comes behind it where it has none
abbrev pub first_of : (points here next : ℕ) → ℕ
first_of zero here next = next
first_of (suc n) here next = here

abbrev pub if_regional : Ty → Effect → Effect
if_regional ty effect = one_of (is_regional ty) effect nothing

-- where a statement's code leads: to the next one, out of the loop around it, and to that loop's next round
pub record Ends : Type 0 where
  pub next : ℕ
  pub broken : ℕ
  pub continued : ℕ

-- effects one after another
abbrev pub in_line : List Effect → (here next : ℕ) → List Node
in_line [] here next = []
in_line (e ∷ []) here next = going e next ∷ []
in_line (e ∷ d ∷ rest) here next = going e (suc here) ∷ in_line (d ∷ rest) (suc here) next

module _ (f : Routine) where
  -- the numbers of the variables

  abbrev pub copies : ℕ
  copies = count_by is_regional (take f.parameters f.locals)

  abbrev pub local_variable : ℕ → ℕ
  local_variable x = copies + count_by is_regional (take x f.locals)

  abbrev pub temporary_variable : ℕ → ℕ
  temporary_variable h = copies + (count_by is_regional f.locals + h)

  -- behind so many temporaries
  abbrev pub result_variable : (temporaries : ℕ) → ℕ
  result_variable temporaries = temporary_variable temporaries

  abbrev pub scratch : (temporaries : ℕ) → ℕ
  scratch temporaries = suc (result_variable temporaries)

  -- how many there are
  abbrev pub variables : (temporaries : ℕ) → ℕ
  variables temporaries = suc (scratch temporaries)

  -- the variables of the arguments that are regions or pointers
  abbrev pub regional_arguments : List Ty → (h : ℕ) → List ℕ
  regional_arguments [] h = []
  regional_arguments (ty ∷ tys) h = one_of (is_regional ty) (temporary_variable h ∷ regional_arguments tys (suc h)) (regional_arguments tys (suc h))

  -- a value is loaded from a cell, or stored into it, whose pointer is the holder; of a number the effect is on the holder alone
  abbrev pub loading : (regional : Bool) → Note → (value holder : ℕ) → Effect
  loading regional note value holder = one_of regional (loaded (temporary_variable value) (temporary_variable holder) note) (looked_at (temporary_variable holder))

  abbrev pub storing : (regional : Bool) → Note → (value holder : ℕ) → Effect
  storing regional note value holder = one_of regional (stored (temporary_variable value) (temporary_variable holder) note) (looked_at (temporary_variable holder))

  abbrev pub operation_effect : (h : ℕ) → Ty → Operation → Effect
  operation_effect h ty null = nulled (temporary_variable h)
  operation_effect h ty (static object) = fixed (temporary_variable h)
  operation_effect h ty (copy x) = if_regional ty (moved (temporary_variable h) (local_variable x))
  operation_effect h ty (load a) = loading (is_regional ty) (note_in a.cell) h h
  operation_effect h ty (step direction pointed n) = beside (temporary_variable h) (temporary_variable h)
  operation_effect h ty (step_from n pointed) = beside (temporary_variable h) (temporary_variable (suc h))
  operation_effect h ty (region_of of) = beside (temporary_variable h) (temporary_variable h)
  operation_effect h ty (allocate made' layout) = beside (temporary_variable h) (temporary_variable h)
  operation_effect h ty (allocate_array made' layout) = beside (temporary_variable h) (temporary_variable h)
  operation_effect h ty new_region = made (temporary_variable h)
  operation_effect h ty new_subregion = under (temporary_variable h) (temporary_variable h)
  operation_effect h ty (call g tys) = called (one_of (is_regional ty) (Some (temporary_variable h)) None) g (regional_arguments tys h)
  operation_effect h ty op = nothing

  abbrev pub yes_effect : Ty → ℕ → Effect
  yes_effect ty h = if_regional ty (present (temporary_variable h))

  abbrev pub no_effect : Ty → ℕ → Effect
  no_effect ty h = if_regional ty (absent (temporary_variable h))

  abbrev mutual
    pub step_nodes : Step → (here next : ℕ) → List Node
    step_nodes (set line h ty op) here next = going (operation_effect h ty op) next ∷ []
    step_nodes (fork line h test result a b) here next =
        let at_b = suc here + steps_points a in
        forking (yes_effect test h) (no_effect test h) (first_of (steps_points a) (suc here) next) (first_of (steps_points b) at_b next)
        ∷ (steps_nodes a (suc here) next ++ steps_nodes b at_b next)

    pub steps_nodes : Steps → (here next : ℕ) → List Node
    steps_nodes none here next = []
    steps_nodes (more s rest) here next = step_nodes s here (first_of (steps_points rest) (here + step_points s) next) ++ steps_nodes rest (here + step_points s) next

  -- of a cell of a type
  abbrev pub stored_value : Ty → (value holder : ℕ) → Effect
  stored_value cell value holder = storing (is_regional cell) (note_in cell) value holder

  abbrev pub loaded_value : Ty → (value holder : ℕ) → Effect
  loaded_value cell value holder = loading (is_regional cell) (note_in cell) value holder

  -- a place's old value comes behind the operand, and so does its new one
  abbrev pub change_effects : Access → Change → List Effect
  change_effects a (Compute from operator s) =
      looked_at (temporary_variable 0) ∷ (replicate (change_points (Compute from operator s) - 2) nothing ++ looked_at (temporary_variable 0) ∷ [])
  change_effects a (Stepping direction) =
      loaded_value a.cell (suc (width a)) 0 ∷ beside (temporary_variable (suc (width a))) (temporary_variable (suc (width a))) ∷ stored_value a.cell (suc (width a)) 0 ∷ []

  -- each cell of a struct is loaded behind both places, and stored
  abbrev pub cell_effects : (value from : ℕ) → Layout → List Effect
  cell_effects value from [] = []
  cell_effects value from (kind ∷ kinds) = loading (is_regional_cell kind) (note_of kind) value from ∷ storing (is_regional_cell kind) (note_of kind) value 0 ∷ cell_effects value from kinds

  abbrev pub returned_variable : Option Ty → Option ℕ
  returned_variable None = None
  returned_variable (Some ty) = one_of (is_regional ty) (Some (temporary_variable 0)) None

  abbrev pub act_nodes : Act → (here next : ℕ) → List Node
  act_nodes drop here next = []
  act_nodes (perform line g tys) here next = going (called None g (regional_arguments tys 0)) next ∷ []
  act_nodes (assign line x ty) here next = going (if_regional ty (moved (local_variable x) (temporary_variable 0))) next ∷ []
  act_nodes (store line a) here next = going (stored_value a.cell (width a) 0) next ∷ []
  act_nodes (update line a change ty) here next = in_line (change_effects a change) here next
  act_nodes (move line kinds left right) here next = in_line (cell_effects (width left + width right) (width left) kinds) here next
  act_nodes (delete line) here next = going (looked_at (temporary_variable 0)) next ∷ []
  act_nodes (leave line result) here next = returning (returned_variable result) ∷ []

  abbrev pub test_nodes : Option Test → (to_yes to_no : ℕ) → List Node
  test_nodes None to_yes to_no = []
  test_nodes (Some test) to_yes to_no =
      one_of test.wanted (forking (yes_effect test.ty 0) (no_effect test.ty 0) to_yes to_no) (forking (no_effect test.ty 0) (yes_effect test.ty 0) to_yes to_no) ∷ []

  abbrev mutual
    pub code_nodes : Code → (here : ℕ) → Ends → List Node
    code_nodes (simple steps act) here k =
        let at_act = here + steps_points steps in
        steps_nodes steps here (first_of (act_points act) at_act k.next) ++ act_nodes act at_act k.next
    code_nodes (clear line x ty) here k = going (if_regional ty (nulled (local_variable x))) k.next ∷ []
    code_nodes (block codes) here k = codes_nodes codes here k
    code_nodes (branch steps test a b) here k =
        let at_test = here + steps_points steps in
        let at_b = suc at_test + code_points a in
        steps_nodes steps here at_test
        ++ (test_nodes (Some test) (first_of (code_points a) (suc at_test) k.next) (first_of (code_points b) at_b k.next)
        ++ (code_nodes a (suc at_test) k ++ code_nodes b at_b k))
    code_nodes (loop line steps test third body) here k =
        let at_test = suc here + steps_points steps in
        let at_body = at_test + branch_points test in
        let at_third = at_body + code_points body in
        let back = first_of (code_points third) at_third here in
        let inside = first_of (code_points body) at_body back in
        going nothing (first_of (steps_points steps + branch_points test) (suc here) inside)
        ∷ (steps_nodes steps (suc here) at_test
        ++ (test_nodes test inside k.next
        ++ (code_nodes body at_body (record { next = back; broken = k.next; continued = back }) ++ code_nodes third at_third (record k { next = here }))))
    code_nodes (repeat line body steps test) here k =
        let at_tail = suc here + code_points body in
        let at_test = at_tail + steps_points steps in
        let tail = first_of (steps_points steps) at_tail at_test in
        going nothing (first_of (code_points body) (suc here) tail)
        ∷ (code_nodes body (suc here) (record { next = tail; broken = k.next; continued = tail })
        ++ (steps_nodes steps at_tail at_test ++ test_nodes (Some test) here k.next))
    code_nodes (break line) here k = going nothing k.broken ∷ []
    code_nodes (continue line) here k = going nothing k.continued ∷ []

    pub codes_nodes : Codes → (here : ℕ) → Ends → List Node
    codes_nodes done here k = []
    codes_nodes (then c rest) here k =
        let at_rest = here + code_points c in
        code_nodes c here (record k { next = first_of (codes_points rest) at_rest k.next }) ++ codes_nodes rest at_rest k

  -- each parameter's local, and its hidden copy
  abbrev pub entry_pairs : List Ty → (x : ℕ) → List (ℕ × ℕ)
  entry_pairs [] x = []
  entry_pairs (ty ∷ tys) x = one_of (is_regional ty) ((local_variable x, count_by is_regional (take x f.locals)) ∷ entry_pairs tys (suc x)) (entry_pairs tys (suc x))

  -- behind the body a result is zero or null
  abbrev pub end_nodes : Option Ty → (here : ℕ) → List Node
  end_nodes None here = returning None ∷ []
  end_nodes (Some ty) here = going (if_regional ty (nulled (temporary_variable 0))) (suc here) ∷ returning (returned_variable (Some ty)) ∷ []

  abbrev pub routine_nodes : List Node
  routine_nodes =
      let at_end = suc (code_points f.body) in
      going (entered (entry_pairs (take f.parameters f.locals) 0)) (first_of (code_points f.body) 1 at_end)
      ∷ (code_nodes f.body 1 (record { next = at_end; broken = at_end; continued = at_end }) ++ end_nodes f.result at_end)
