-- The code of each act keeps the loader's rules: from its operands it leaves an empty stack.
use Rattle.std.proofs.Common.{◌≡◌, ℕ, suc, ◌+◌, Bool, false, List, [], ◌∷◌, ◌++◌, length, map, Option, Some, None, refl, sym, ap, ◌∙◌, subst, arith}
use Rattle.rc_core.specs.declared.stmt.Change.{Change}
use Rattle.rc_core.specs.declared.stmt.Change.TheVariants.{Compute, Step as Stepping}
use Rattle.rc_core.specs.Layout.{Layout}
use Rattle.rc_core.specs.Types.{Ty}
use Rattle.rc_core.specs.Typing.{arithmetic, value_type, is_shift, number}
use Rattle.rc_core.specs.Arithmetic.{type_of}
use Rattle.rc_rlang.specs.RegionCode as From
use Rattle.rc_rlang.specs.RegionCode.{Access, Act, width}
use Rattle.rc_emission.specs.StackCode.{Instruction, Line}
use Rattle.rc_rlang.specs.RegionFits.{place_types, pushed, act_types, ActFits}
use Rattle.rc_emission.specs.OperationCode.{line_of, at, spills, convert_code, count_code, compared}
use Rattle.rc_emission.specs.Served.{AllKept, ActKeeps}
use Rattle.rc_emission.specs.StatementCode.{further, cell_type, gets, change_code, cells_code, pops, act_lines}
use Rattle.rc_stack_rules.specs.LoaderRules.{kinds, local_kind}
use Rattle.rc_rlang.specs.RegionKinds.{kind_ty, ActKinded, ChangeKinded}
use Rattle.rc_emission.proofs.ActsDo.{place_width}
use Rattle.rc_stack_rules.proofs.SoundSteps.{S, L, at_split, sound_append, spills_sound}
use Rattle.rc_rlang.proofs.KindLaws.{kind_value}
use Rattle.rc_stack_rules.proofs.SoundOperations.{kinds_pushed, kinds_value, drop_all, set_loads, binary_sets, convert_sets}
use Rattle.rc_emission.specs.StackCode as To

kinds_append : (xs ys : List Ty) → kinds (xs ++ ys) ≡ kinds xs ++ kinds ys
kinds_append [] ys = refl
kinds_append (x ∷ xs) ys = ap (λ ks. kind_ty x ∷ ks) (kinds_append xs ys)

pushed_append : (xs ys below : List Ty) → pushed (xs ++ ys) below ≡ pushed ys (pushed xs below)
pushed_append [] ys below = refl
pushed_append (x ∷ xs) ys below = pushed_append xs ys (x ∷ below)

module _ (locals : List Ty) (global_ty result_ty : ℕ → Ty) (mark : ℕ → Type 0) (types : List Ty) (slot : ℕ → Ty → ℕ) (deleting : ℕ → Bool) (Has : ℕ → Ty → Type 0)
    (slot_kind : (h : ℕ) (ty : Ty) → Has h ty → local_kind locals global_ty result_ty (slot h ty) ≡ kind_ty ty) where
  abbrev G : (ok : ℕ → Type 0) → (place : ℕ) → List Line → (from to : List Ty) → Type 0
  G ok place code from to = S locals global_ty result_ty mark ok place code from to

  -- one piece of a line's instructions after another
  then_sound : (line : ℕ) (a b : List Instruction) (ok : ℕ → Type 0) (place : ℕ) (from mid to : List Ty) → ((ok1 : ℕ → Type 0) → G ok1 place (at line a) from mid) → ((place1 : ℕ) → G ok place1 (at line b) mid to) → G ok place (at line (a ++ b)) from to
  then_sound line a b ok place from mid to sa sb =
      subst (λ c. G ok place c from to) (sym (at_split line a b))
      (sound_append locals global_ty result_ty mark ok place (place + length (at line a)) (at line a) (at line b) from mid to refl (sa (λ m. L locals global_ty result_ty mark ok (at line b) mid m)) (sb (place + length (at line a))))

  -- for each operand from a height on, the lowest first
  abbrev Haves : ℕ → List Ty → Type 0
  Haves h [] = Unit {0}
  Haves h (ty ∷ tys) = Has h ty × Haves (suc h) tys

  haves : (xs below : List Ty) → AllKept Has types 0 (pushed xs below) → Haves (length below) xs × AllKept Has types 0 below
  haves [] below all = (tt, all)
  haves (x ∷ xs) below all = let r = haves xs (x ∷ below) all in ((subst (λ h. Has h x) (let e : 0 + length below ≡ length below = omega arith in e) r.1.0, r.0), r.1.1)

  haves_append : (xs ys : List Ty) (h k : ℕ) → k ≡ h + length xs → Haves h (xs ++ ys) → Haves h xs × Haves k ys
  haves_append [] ys h k e s = (tt, subst (λ j. Haves j ys) (let f : h ≡ k = omega (arith, e) in f) s)
  haves_append (x ∷ xs) ys h k e s = let r = haves_append xs ys (suc h) k (omega (arith, e)) s.1 in ((s.0, r.0), r.1)

  gets_sound : (line h : ℕ) (tys : List Ty) (ok : ℕ → Type 0) (place : ℕ) (ks : List Ty) → Haves h tys → G ok place (at line (gets slot deleting types h tys)) ks (pushed (kinds tys) ks)
  gets_sound line h [] ok place ks s = refl
  gets_sound line h (ty ∷ tys) ok place ks s =
      ((ks, refl), tt, subst (λ k. G ok (suc place) (at line (gets slot deleting types (suc h) tys)) (k ∷ ks) (pushed (kinds tys) (kind_ty ty ∷ ks))) (sym (slot_kind h ty s.0)) (gets_sound line (suc h) tys ok (suc place) (kind_ty ty ∷ ks) s.1))

  load_sound : (line : ℕ) (a : Access) (code : List Instruction) (ok : ℕ → Type 0) (place : ℕ) (ks to : List Ty) → G ok (suc place) (at line code) (kind_ty a.cell ∷ ks) to → G ok place (at line (To.load a ∷ code)) (pushed (kinds (place_types a)) ks) to
  load_sound line a code ok place ks to s =
      ((ks, refl), tt, subst (λ x. G ok (suc place) (at line code) (kind_ty a.cell ∷ x) to) (sym (drop_all (kinds (place_types a)) (pushed (kinds (place_types a)) ks) ks refl)) s)

  store_sound : (line : ℕ) (a : Access) (code : List Line) (ok : ℕ → Type 0) (place : ℕ) (ks to : List Ty) → G ok (suc place) code ks to → G ok place (line_of line (To.store a) ∷ code) (kind_ty a.cell ∷ pushed (kinds (place_types a)) ks) to
  store_sound line a code ok place ks to s =
      let wanted = kinds (place_types a) ++ kind_ty a.cell ∷ [] in
      let e : kind_ty a.cell ∷ pushed (kinds (place_types a)) ks ≡ pushed wanted ks = sym (pushed_append (kinds (place_types a)) (kind_ty a.cell ∷ []) ks) in
      ((ks, e), tt, subst (λ x. G ok (suc place) code x to) (sym (drop_all wanted (kind_ty a.cell ∷ pushed (kinds (place_types a)) ks) ks e)) s)

  -- the operand is fetched above the old value
  change_sound : (line : ℕ) (change : Change) (cell_ty ty : Ty) (h : ℕ) (ok : ℕ → Type 0) (place : ℕ) (below : List Ty) → Has h ty → ChangeKinded locals global_ty result_ty change cell_ty ty → G ok place (at line (change_code slot deleting types change cell_ty ty (To.get (slot h ty)))) (kind_ty cell_ty ∷ kinds below) (kind_ty cell_ty ∷ kinds below)
  change_sound line (Stepping direction) cell_ty ty h ok place below has l = ((kind_ty cell_ty ∷ kinds below, refl), tt, ((kinds below, ap (λ k. k ∷ kind_ty cell_ty ∷ kinds below) (slot_kind h ty has ∙ l)), tt, refl))
  change_sound line (Compute from operator s) cell_ty ty h ok place below has l =
      let ks = kinds below in
      let ar = kind_ty (arithmetic s) in
      let op_code1 = count_code (is_shift operator) ty ++ compared operator s in
      then_sound line (convert_code from (type_of s)) (To.get (slot h ty) ∷ (count_code (is_shift operator) ty ++ (compared operator s ++ convert_code (type_of s) from))) ok place (kind_ty cell_ty ∷ ks) (ar ∷ ks) (kind_ty cell_ty ∷ ks)
      (λ ok1. subst (λ k. G ok1 place (at line (convert_code from (type_of s))) (k ∷ ks) (ar ∷ ks)) (sym l.0) (convert_sets locals global_ty result_ty mark types slot deleting Has slot_kind 0 (arithmetic s) from (type_of s) line below (λ x. false) ok1 place refl tt))
      (λ place1. (
        (ar ∷ ks, refl),
        tt,
        subst (λ k. G ok (suc place1) (at line (count_code (is_shift operator) ty ++ (compared operator s ++ convert_code (type_of s) from))) (k ∷ ar ∷ ks) (kind_ty cell_ty ∷ ks)) (sym (slot_kind h ty has))
            (subst (λ c. G ok (suc place1) (at line c) (kind_ty ty ∷ ar ∷ ks) (kind_ty cell_ty ∷ ks)) (regroup (count_code (is_shift operator) ty) (compared operator s) (convert_code (type_of s) from))
            (then_sound line op_code1 (convert_code (type_of s) from) ok (suc place1) (kind_ty ty ∷ ar ∷ ks) (ar ∷ ks) (kind_ty cell_ty ∷ ks)
            (λ ok1. binary_sets locals global_ty result_ty mark types slot deleting Has slot_kind 0 (arithmetic s) operator s ty line below (λ x. false) ok1 (suc place1) l.1 tt)
            (λ place2. subst (λ k. G ok place2 (at line (convert_code (type_of s) from)) (ar ∷ ks) (k ∷ ks)) (sym l.0) (convert_sets locals global_ty result_ty mark types slot deleting Has slot_kind 0 (number from) (type_of s) from line below (λ x. false) ok place2 refl tt)))),
      ))
    where
      regroup : (a b c : List Instruction) → (a ++ b) ++ c ≡ a ++ (b ++ c)
      regroup [] b c = refl
      regroup (i ∷ a) b c = ap (λ x. i ∷ x) (regroup a b c)

  update_sound : (last line : ℕ) (a : Access) (change : Change) (ty : Ty) (live : ℕ → Bool) (ok : ℕ → Type 0) (place : ℕ) → AllKept Has types 0 (pushed (place_types a ++ ty ∷ []) []) → ChangeKinded locals global_ty result_ty change a.cell ty →
      G ok place (act_lines slot deleting types last (From.update line a change ty) (pushed (place_types a ++ ty ∷ []) []) live) (kinds (pushed (place_types a ++ ty ∷ []) [])) []
  update_sound last line a change ty live ok place all l =
      let tys = pushed (place_types a ++ ty ∷ []) [] in
      let pt = kinds (place_types a) in
      let pw = place_width a in
      let hs = haves_append (place_types a) (ty ∷ []) 0 (width a) (omega (arith, pw)) (haves (place_types a ++ ty ∷ []) [] all).0 in
      let change1 = change_code slot deleting types change a.cell ty (To.get (slot (width a) ty)) in
      let code2 = To.load a ∷ (change1 ++ To.store a ∷ []) in
      let one_place = pushed (place_types a) [] in
      let kp = kinds_pushed (place_types a) [] in
      then_sound line (spills slot 0 tys) (gets slot deleting types 0 (place_types a) ++ (gets slot deleting types 0 (place_types a) ++ code2)) ok place (kinds tys) [] []
      (λ ok1. spills_sound locals global_ty result_ty mark types slot deleting Has slot_kind (set_loads locals global_ty result_ty mark types slot deleting Has slot_kind) line 0 tys ok1 place all)
      (λ p1. then_sound line (gets slot deleting types 0 (place_types a)) (gets slot deleting types 0 (place_types a) ++ code2) ok p1 [] (pushed pt []) [] (λ ok1. gets_sound line 0 (place_types a) ok1 p1 [] hs.0)
      (λ p2. then_sound line (gets slot deleting types 0 (place_types a)) code2 ok p2 (pushed pt []) (pushed pt (pushed pt [])) [] (λ ok1. gets_sound line 0 (place_types a) ok1 p2 (pushed pt []) hs.0)
      (λ p3. load_sound line a (change1 ++ To.store a ∷ []) ok p3 (pushed pt []) []
      (then_sound line change1 (To.store a ∷ []) ok (suc p3) (kind_ty a.cell ∷ pushed pt []) (kind_ty a.cell ∷ pushed pt []) []
      (λ ok1. subst (λ x. G ok1 (suc p3) (at line change1) (kind_ty a.cell ∷ x) (kind_ty a.cell ∷ x)) kp (change_sound line change a.cell ty (width a) ok1 (suc p3) one_place hs.1.0 l))
      (λ p4. store_sound line a [] ok p4 [] [] refl)))))

  cells_sound : (line : ℕ) (cells : Layout) (left right : Access) (ok : ℕ → Type 0) (place : ℕ) → Haves 0 (place_types left) → Haves (width left) (place_types right) → G ok place (at line (cells_code slot deleting types cells left right)) [] []
  cells_sound line [] left right ok place hl hr = refl
  cells_sound line (kind ∷ cells) left right ok place hl hr =
      let from : Access = record right { cell = cell_type kind } in
      let to : Access = record left { cell = cell_type kind } in
      let more = cells_code slot deleting types cells (further left) (further right) in
      let pl = kinds (place_types left) in
      then_sound line (gets slot deleting types 0 (place_types left)) (gets slot deleting types (width left) (place_types right) ++ (To.load from ∷ To.store to ∷ more)) ok place [] (pushed pl []) [] (λ ok1. gets_sound line 0 (place_types left) ok1 place [] hl)
      (λ p1. then_sound line (gets slot deleting types (width left) (place_types right)) (To.load from ∷ To.store to ∷ more) ok p1 (pushed pl []) (pushed (kinds (place_types right)) (pushed pl [])) [] (λ ok1. gets_sound line (width left) (place_types right) ok1 p1 (pushed pl []) hr)
      (λ p2. load_sound line from (To.store to ∷ more) ok p2 (pushed pl []) [] (store_sound line to (at line more) ok (suc p2) [] [] (cells_sound line cells (further left) (further right) ok (suc (suc p2)) hl hr))))

  move_sound : (last line : ℕ) (cells : Layout) (left right : Access) (live : ℕ → Bool) (ok : ℕ → Type 0) (place : ℕ) → AllKept Has types 0 (pushed (place_types left ++ place_types right) []) →
      G ok place (act_lines slot deleting types last (From.move line cells left right) (pushed (place_types left ++ place_types right) []) live) (kinds (pushed (place_types left ++ place_types right) [])) []
  move_sound last line cells left right live ok place all =
      let tys = pushed (place_types left ++ place_types right) [] in
      let pw = place_width left in
      let hs = haves_append (place_types left) (place_types right) 0 (width left) (omega (arith, pw)) (haves (place_types left ++ place_types right) [] all).0 in
      then_sound line (spills slot 0 tys) (cells_code slot deleting types cells left right) ok place (kinds tys) [] []
      (λ ok1. spills_sound locals global_ty result_ty mark types slot deleting Has slot_kind (set_loads locals global_ty result_ty mark types slot deleting Has slot_kind) line 0 tys ok1 place all)
      (λ p1. cells_sound line cells left right ok p1 hs.0 hs.1)

  pops_sound : (last : ℕ) (tys : List Ty) (ok : ℕ → Type 0) (place : ℕ) → G ok place (pops slot deleting types last tys) (kinds tys) []
  pops_sound last [] ok place = refl
  pops_sound last (ty ∷ tys) ok place = ((kind_ty ty ∷ [], kinds tys, refl, refl), tt, pops_sound last tys ok (suc place))

  perform_sound : (last line g : ℕ) (parameters : List Ty) (live : ℕ → Bool) (ok : ℕ → Type 0) (place : ℕ) → G ok place (act_lines slot deleting types last (From.perform line g parameters) (pushed (map value_type parameters) []) live) (kinds (pushed (map value_type parameters) [])) []
  perform_sound last line g parameters live ok place =
      let e : kinds (pushed (map value_type parameters) []) ≡ pushed (kinds parameters) [] = kinds_pushed (map value_type parameters) [] ∙ ap (λ ks. pushed ks []) (kinds_value parameters) in
      (([], e), tt, drop_all (kinds parameters) (kinds (pushed (map value_type parameters) [])) [] e)

  store_act_sound : (last line : ℕ) (a : Access) (live : ℕ → Bool) (ok : ℕ → Type 0) (place : ℕ) → G ok place (act_lines slot deleting types last (From.store line a) (pushed (place_types a ++ value_type a.cell ∷ []) []) live) (kinds (pushed (place_types a ++ value_type a.cell ∷ []) [])) []
  store_act_sound last line a live ok place =
      let e : kinds (pushed (place_types a ++ value_type a.cell ∷ []) []) ≡ kind_ty a.cell ∷ pushed (kinds (place_types a)) [] =
      kinds_pushed (place_types a ++ value_type a.cell ∷ []) [] ∙ ap (λ ks. pushed ks []) (kinds_append (place_types a) (value_type a.cell ∷ [])) ∙ pushed_append (kinds (place_types a)) (kind_ty (value_type a.cell) ∷ []) [] ∙ ap (λ k. k ∷ pushed (kinds (place_types a)) []) (kind_value a.cell) in
      subst (λ x. G ok place (line_of line (To.store a) ∷ []) x []) (sym e) (store_sound line a [] ok place [] [] refl)

  leave_sound : (last line : ℕ) (result : Option Ty) (live : ℕ → Bool) (ok : ℕ → Type 0) (place : ℕ) → G ok place (act_lines slot deleting types last (From.leave line result) (pushed (act_types (From.leave line result)) []) live) (kinds (pushed (act_types (From.leave line result)) [])) []
  leave_sound last line None live ok place = (([], refl), refl, refl)
  leave_sound last line (Some ty) live ok place = (([], refl), refl, refl)

  pub act_loads : (last : ℕ) (act : Act) (tys : List Ty) (live : ℕ → Bool) (ok : ℕ → Type 0) (place : ℕ) → ActFits act tys → ActKeeps Has types act tys → ActKinded locals global_ty result_ty act → G ok place (act_lines slot deleting types last act tys live) (kinds tys) []
  act_loads last From.drop tys live ok place e sp l = pops_sound last tys ok place
  act_loads last (From.perform line g parameters) tys live ok place e sp l = subst (λ z. G ok place (act_lines slot deleting types last (From.perform line g parameters) z live) (kinds z) []) (sym e) (perform_sound last line g parameters live ok place)
  act_loads last (From.assign line x ty) tys live ok place e sp l = subst (λ z. G ok place (act_lines slot deleting types last (From.assign line x ty) z live) (kinds z) []) (sym e) (([], ap (λ k. k ∷ []) (kind_value ty ∙ sym l)), tt, refl)
  act_loads last (From.store line a) tys live ok place e sp l = subst (λ z. G ok place (act_lines slot deleting types last (From.store line a) z live) (kinds z) []) (sym e) (store_act_sound last line a live ok place)
  act_loads last (From.update line a change ty) tys live ok place e sp l = subst (λ z. G ok place (act_lines slot deleting types last (From.update line a change ty) z live) (kinds z) []) (sym e) (update_sound last line a change ty live ok place (subst (λ z. AllKept Has types 0 z) e sp) l)
  act_loads last (From.move line cells left right) tys live ok place e sp l = subst (λ z. G ok place (act_lines slot deleting types last (From.move line cells left right) z live) (kinds z) []) (sym e) (move_sound last line cells left right live ok place (subst (λ z. AllKept Has types 0 z) e sp))
  act_loads last (From.delete line) tys live ok place e sp l = subst (λ z. G ok place (act_lines slot deleting types last (From.delete line) z live) (kinds z) []) (sym e) (([], refl), tt, refl)
  act_loads last (From.leave line result) tys live ok place e sp l = subst (λ z. G ok place (act_lines slot deleting types last (From.leave line result) z live) (kinds z) []) (sym e) (leave_sound last line result live ok place)
