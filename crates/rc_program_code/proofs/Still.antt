-- Steps and acts have no step back, so what they are without what no image says of it is the same in functions of any length.
use Rattle.std.proofs.Common.{◌≡◌, ℕ, suc, ◌+◌, Bool, true, false, List, [], ◌∷◌, ◌++◌, length, map, refl, sym, ap, ◌∙◌}
use Rattle.std.specs.Prelude.{Option, Some, None}
use Rattle.std.proofs.lemmas.List.{map-append}
use Rattle.rc_core.specs.declared.ty.NumberType.{NumberType}
use Rattle.rc_core.specs.declared.ty.NumberType.TheVariants.{Int, Unsigned, Char}
use Rattle.rc_core.specs.declared.ty.Signedness.{Signedness}
use Rattle.rc_core.specs.declared.operators.Operator.{Operator}
use Rattle.rc_core.specs.declared.operators.Operator.TheVariants as operator
use Rattle.rc_core.specs.declared.stmt.Change.{Change}
use Rattle.rc_core.specs.declared.stmt.Change.TheVariants.{Compute, Step as Stepping}
use Rattle.rc_core.specs.Types.{Ty, int, unsigned, char, region, struct, pointer}
use Rattle.rc_core.specs.Layout.{Layout}
use Rattle.rc_core.specs.Arithmetic.{type_of}
use Rattle.rc_core.specs.Typing.{is_shift}
use Rattle.rc_rlang.specs.RegionCode as From
use Rattle.rc_rlang.specs.RegionCode.{Access, width, Operation, Step, Steps, set, fork, none, more, Act, Test}
use Rattle.rc_rlang.specs.RegionFits.{place_types, step_types}
use Rattle.rc_rlang.specs.RegionLive.{before_steps}
use Rattle.rc_emission.specs.StackCode.{Instruction, Line}
use Rattle.rc_emission.specs.StackCode as To
use Rattle.rc_emission.specs.OperationCode.{line_of, at, zero_test, test_code, wanted_code, compared, count_code, convert_code, wide, spills, reloads}
use Rattle.rc_emission.specs.StatementCode.{zero_code, exit_test, exit_lines, set_code, gets, steps_lines, step_lines, change_code, cells_code, further, cell_type, pops, act_lines, end_lines}
use Rattle.rc_lines.specs.Bare.{bare, bare_line, bare_all, bare_code}

module _ (total : ℕ) where
  abbrev pub Still : List Instruction → Type 0
  Still is = map (bare total) is ≡ bare_all is

  abbrev pub StillLines : List Line → Type 0
  StillLines ls = bare_code total ls ≡ bare_code 0 ls

  pub bare_joined : (xs ys : List Line) → bare_code total (xs ++ ys) ≡ bare_code total xs ++ bare_code total ys
  bare_joined xs ys = map-append (bare_line total) xs ys

  joins : (a b : List Instruction) → Still a → Still b → Still (a ++ b)
  joins a b ha hb = map-append (bare total) a b ∙ ap (λ x. x ++ map (bare total) b) ha ∙ ap (λ x. bare_all a ++ x) hb ∙ sym (map-append (bare 0) a b)

  follows : (i : Instruction) (b : List Instruction) → bare total i ≡ bare 0 i → Still b → Still (i ∷ b)
  follows i b hi hb = ap (λ x. x ∷ map (bare total) b) hi ∙ ap (λ x. bare 0 i ∷ x) hb

  pub joins_lines : (a b : List Line) → StillLines a → StillLines b → StillLines (a ++ b)
  joins_lines a b ha hb = map-append (bare_line total) a b ∙ ap (λ x. x ++ bare_code total b) ha ∙ ap (λ x. bare_code 0 a ++ x) hb ∙ sym (map-append (bare_line 0) a b)

  follows_line : (l : Line) (b : List Line) → bare_line total l ≡ bare_line 0 l → StillLines b → StillLines (l ∷ b)
  follows_line l b hl hb = ap (λ x. x ∷ bare_code total b) hl ∙ ap (λ x. bare_line 0 l ∷ x) hb

  at_any : (t : ℕ) (line : ℕ) (is : List Instruction) → bare_code t (at line is) ≡ at line (map (bare t) is)
  at_any t line [] = refl
  at_any t line (i ∷ is) = ap (λ ls. line_of line (bare t i) ∷ ls) (at_any t line is)

  pub at_still : (line : ℕ) (is : List Instruction) → Still is → StillLines (at line is)
  at_still line is h = at_any total line is ∙ ap (at line) h ∙ sym (at_any 0 line is)

  still_zero_test : (ty : Ty) → Still (zero_test ty)
  still_zero_test int = refl
  still_zero_test unsigned = refl
  still_zero_test char = refl
  still_zero_test region = refl
  still_zero_test (struct k) = refl
  still_zero_test (pointer note target) = refl

  still_test_code : (ty : Ty) → Still (test_code ty)
  still_test_code int = refl
  still_test_code unsigned = refl
  still_test_code char = refl
  still_test_code region = refl
  still_test_code (struct k) = refl
  still_test_code (pointer note target) = refl

  still_wanted : (b : Bool) → Still (wanted_code b)
  still_wanted true = refl
  still_wanted false = refl

  still_compared : (o : Operator) (s : Signedness) → Still (compared o s)
  still_compared operator.Multiply s = refl
  still_compared operator.Divide s = refl
  still_compared operator.Remainder s = refl
  still_compared operator.Add s = refl
  still_compared operator.Subtract s = refl
  still_compared operator.ShiftLeft s = refl
  still_compared operator.ShiftRight s = refl
  still_compared operator.Less s = refl
  still_compared operator.Greater s = refl
  still_compared operator.LessEqual s = refl
  still_compared operator.GreaterEqual s = refl
  still_compared operator.Equal s = refl
  still_compared operator.NotEqual s = refl
  still_compared operator.And s = refl
  still_compared operator.Xor s = refl
  still_compared operator.Or s = refl

  still_count : (b : Bool) (ty : Ty) → Still (count_code b ty)
  still_count false ty = refl
  still_count true int = refl
  still_count true unsigned = refl
  still_count true char = refl
  still_count true region = refl
  still_count true (struct k) = refl
  still_count true (pointer note target) = refl

  still_convert : (from to : NumberType) → Still (convert_code from to)
  still_convert Int Int = refl
  still_convert Int Unsigned = refl
  still_convert Int Char = refl
  still_convert Unsigned Int = refl
  still_convert Unsigned Unsigned = refl
  still_convert Unsigned Char = refl
  still_convert Char Int = refl
  still_convert Char Unsigned = refl
  still_convert Char Char = refl

  pub still_zero : (ty : Ty) → bare total (zero_code ty) ≡ bare 0 (zero_code ty)
  still_zero int = refl
  still_zero unsigned = refl
  still_zero char = refl
  still_zero region = refl
  still_zero (struct k) = refl
  still_zero (pointer note target) = refl

  still_exit : (b : Bool) (ty : Ty) → Still (exit_test b ty)
  still_exit true ty = still_test_code ty
  still_exit false ty = still_zero_test ty

  pub exit_still : (test : Option Test) (over : ℕ) → StillLines (exit_lines test over)
  exit_still None over = refl
  exit_still (Some test) over = joins_lines (at test.line (exit_test test.wanted test.ty)) (line_of test.line (To.jump_zero over) ∷ []) (at_still test.line (exit_test test.wanted test.ty) (still_exit test.wanted test.ty)) refl

  module _ (slot : ℕ → Ty → ℕ) (deleting : ℕ → Bool) (types : List Ty) where
    still_spills : (base : ℕ) (tys : List Ty) → Still (spills slot base tys)
    still_spills base [] = refl
    still_spills base (ty ∷ tys) = follows (To.set (slot (base + length tys) ty) (wide ty)) (spills slot base tys) refl (still_spills base tys)

    still_reloads : (base : ℕ) (tys : List Ty) → Still (reloads slot base tys)
    still_reloads base [] = refl
    still_reloads base (ty ∷ tys) = joins (reloads slot base tys) (To.get (slot (base + length tys) ty) ∷ []) (still_reloads base tys) refl

    still_gets : (h : ℕ) (tys : List Ty) → Still (gets slot deleting types h tys)
    still_gets h [] = refl
    still_gets h (ty ∷ tys) = follows (To.get (slot h ty)) (gets slot deleting types (suc h) tys) refl (still_gets (suc h) tys)

    still_set : (h : ℕ) (ty : Ty) (op : Operation) (live : ℕ → Bool) → Still (set_code slot deleting types h ty op live)
    still_set h ty (From.constant s n) live = refl
    still_set h ty From.null live = refl
    still_set h ty (From.static g) live = refl
    still_set h ty (From.copy x) live = refl
    still_set h ty (From.load a) live = refl
    still_set h ty (From.step direction pointed n) live = refl
    still_set h ty (From.step_from n pointed) live = refl
    still_set h ty (From.unary o s) live = refl
    still_set h ty (From.binary o s right) live = joins (count_code (is_shift o) right) (compared o s) (still_count (is_shift o) right) (still_compared o s)
    still_set h ty (From.convert from to) live = still_convert from to
    still_set h ty (From.not_zero of) live = still_zero_test of
    still_set h ty (From.truth of) live = joins (zero_test of) (To.zero_test ∷ []) (still_zero_test of) refl
    still_set h ty (From.is_null wanted of) live = follows (To.null_test of) (wanted_code wanted) refl (still_wanted wanted)
    still_set h ty (From.same wanted of) live = follows (To.same of) (wanted_code wanted) refl (still_wanted wanted)
    still_set h ty (From.call f tys) live = refl
    still_set h ty From.new_region live = refl
    still_set h ty From.new_subregion live = refl
    still_set h ty (From.region_of of) live = refl
    still_set h ty (From.allocate made layout) live = refl
    still_set h ty (From.allocate_array made layout) live = refl
    still_set h ty From.putchar live = refl
    still_set h ty From.getchar live = refl

    mutual
      pub steps_still : (s : Steps) (saved tys : List Ty) (live : ℕ → Bool) → StillLines (steps_lines slot deleting types s saved tys live)
      steps_still none saved tys live = refl
      steps_still (more s rest) saved tys live =
          joins_lines (step_lines slot deleting types s saved tys (before_steps rest live)) (steps_lines slot deleting types rest saved (step_types s tys) live) (step_still s saved tys (before_steps rest live)) (steps_still rest saved (step_types s tys) live)

      step_still : (s : Step) (saved tys : List Ty) (live : ℕ → Bool) → StillLines (step_lines slot deleting types s saved tys live)
      step_still (set line h ty op) saved tys live = at_still line (set_code slot deleting types h ty op live) (still_set h ty op live)
      step_still (fork line h test result a b) saved [] live = refl
      step_still (fork line h test result a b) saved (ty ∷ below) live =
          let ways = steps_lines slot deleting types a (below ++ saved) [] live in
          let others = steps_lines slot deleting types b (below ++ saved) [] live in
          let place = slot (length saved + length below) in
          let last = at line (reloads slot (length saved) below) ++ line_of line (To.get (place result)) ∷ [] in
          let s1 : StillLines last = joins_lines (at line (reloads slot (length saved) below)) (line_of line (To.get (place result)) ∷ []) (at_still line (reloads slot (length saved) below) (still_reloads (length saved) below)) refl in
          let l2 = line_of line (To.set (place result) (wide result)) ∷ last in
          let s2 : StillLines l2 = follows_line (line_of line (To.set (place result) (wide result))) last refl s1 in
          let s3 : StillLines (others ++ l2) = joins_lines others l2 (steps_still b (below ++ saved) [] live) s2 in
          let l4 = line_of line (To.jump (suc (length others))) ∷ (others ++ l2) in
          let s4 : StillLines l4 = follows_line (line_of line (To.jump (suc (length others)))) (others ++ l2) refl s3 in
          let l5 = line_of line (To.set (place result) (wide result)) ∷ l4 in
          let s5 : StillLines l5 = follows_line (line_of line (To.set (place result) (wide result))) l4 refl s4 in
          let s6 : StillLines (ways ++ l5) = joins_lines ways l5 (steps_still a (below ++ saved) [] live) s5 in
          let l7 = line_of line (To.jump_zero (suc (suc (length ways)))) ∷ (ways ++ l5) in
          let s7 : StillLines l7 = follows_line (line_of line (To.jump_zero (suc (suc (length ways))))) (ways ++ l5) refl s6 in
          let t = at line (To.get (place ty) ∷ test_code test) in
          let s8 : StillLines (t ++ l7) = joins_lines t l7 (at_still line (To.get (place ty) ∷ test_code test) (follows (To.get (place ty)) (test_code test) refl (still_test_code test))) s7 in
          joins_lines (at line (spills slot (length saved) (ty ∷ below))) (t ++ l7) (at_still line (spills slot (length saved) (ty ∷ below)) (still_spills (length saved) (ty ∷ below))) s8

    still_change : (c : Change) (cell operand : Ty) (x : ℕ) → Still (change_code slot deleting types c cell operand (To.get x))
    still_change (Compute from o s) cell ty x =
        joins (convert_code from (type_of s)) (To.get x ∷ (count_code (is_shift o) ty ++ (compared o s ++ convert_code (type_of s) from))) (still_convert from (type_of s))
        (follows (To.get x) (count_code (is_shift o) ty ++ (compared o s ++ convert_code (type_of s) from)) refl
        (joins (count_code (is_shift o) ty) (compared o s ++ convert_code (type_of s) from) (still_count (is_shift o) ty)
        (joins (compared o s) (convert_code (type_of s) from) (still_compared o s) (still_convert (type_of s) from))))
    still_change (Stepping direction) cell ty x = refl

    still_cells : (kinds : Layout) (left right : Access) → Still (cells_code slot deleting types kinds left right)
    still_cells [] left right = refl
    still_cells (kind ∷ kinds) left right =
        let ld = To.load (record right { cell = cell_type kind }) in
        let st = To.store (record left { cell = cell_type kind }) in
        let rest = cells_code slot deleting types kinds (further left) (further right) in
        let g = gets slot deleting types (width left) (place_types right) in
        joins (gets slot deleting types 0 (place_types left)) (g ++ (ld ∷ st ∷ rest)) (still_gets 0 (place_types left))
        (joins g (ld ∷ st ∷ rest) (still_gets (width left) (place_types right)) (follows ld (st ∷ rest) refl (follows st rest refl (still_cells kinds (further left) (further right)))))

    still_pops : (last : ℕ) (tys : List Ty) → StillLines (pops slot deleting types last tys)
    still_pops last [] = refl
    still_pops last (ty ∷ tys) = follows_line (line_of last To.pop) (pops slot deleting types last tys) refl (still_pops last tys)

    pub act_still : (last : ℕ) (act : Act) (tys : List Ty) (live : ℕ → Bool) → StillLines (act_lines slot deleting types last act tys live)
    act_still last From.drop tys live = still_pops last tys
    act_still last (From.perform line f parameters) tys live = refl
    act_still last (From.assign line x ty) tys live = refl
    act_still last (From.store line a) tys live = refl
    act_still last (From.update line a change ty) tys live =
        let place = gets slot deleting types 0 (place_types a) in
        let changed = change_code slot deleting types change a.cell ty (To.get (slot (width a) ty)) in
        let after = To.load a ∷ (changed ++ To.store a ∷ []) in
        let s1 : Still after = follows (To.load a) (changed ++ To.store a ∷ []) refl (joins changed (To.store a ∷ []) (still_change change a.cell ty (slot (width a) ty)) refl) in
        let s2 : Still (place ++ after) = joins place after (still_gets 0 (place_types a)) s1 in
        let s3 : Still (place ++ (place ++ after)) = joins place (place ++ after) (still_gets 0 (place_types a)) s2 in
        at_still line (spills slot 0 tys ++ (place ++ (place ++ after))) (joins (spills slot 0 tys) (place ++ (place ++ after)) (still_spills 0 tys) s3)
    act_still last (From.move line cells left right) tys live = at_still line (spills slot 0 tys ++ cells_code slot deleting types cells left right) (joins (spills slot 0 tys) (cells_code slot deleting types cells left right) (still_spills 0 tys) (still_cells cells left right))
    act_still last (From.delete line) tys live = refl
    act_still last (From.leave line result) tys live = refl

    pub end_still : (result : Option Ty) (line : ℕ) → StillLines (end_lines slot deleting types result line)
    end_still None line = refl
    end_still (Some ty) line = follows_line (line_of line (zero_code ty)) (line_of line (To.leave (ty ∷ [])) ∷ []) (ap (line_of line) (still_zero ty)) refl
