-- The marks that the stack code of labelled region code tells are those of the region code's sites, in order.
use Rattle.std.proofs.Common.{◌≡◌, ℕ, suc, ◌+◌, ◌-◌, Bool, false, List, [], ◌∷◌, ◌++◌, length, map, get_or, Option, Some, None, refl, sym, ap, ◌∙◌, arith, append_assoc, length-append}
use Rattle.std.proofs.lemmas.List.{map-append, append-nil}
use Rattle.std.specs.Option.{option_map}
use Rattle.rc_core.specs.declared.ty.Note.{Note}
use Rattle.rc_core.specs.declared.ty.Note.TheVariants.{Plain, SameRegion, ParentPtr, Traditional}
use Rattle.rc_core.specs.declared.stmt.Change.{Change}
use Rattle.rc_core.specs.declared.stmt.Change.TheVariants.{Compute, Step as Stepping}
use Rattle.rc_core.specs.Types.{Ty, int, unsigned, char, region, struct, pointer, CellKind, int_cell, unsigned_cell, char_cell, region_cell, pointer_cell}
use Rattle.rc_core.specs.Layout.{Layout, note_of}
use Rattle.rc_core.specs.Live.{Ways}
use Rattle.rc_rlang.specs.declared.order.Order.TheVariants.{Points}
use Rattle.rc_rlang.specs.RegionCode.{Access, width, Steps, none, Act, drop, perform, assign, store, update, move, delete, leave, Test, Code, simple, clear, block, branch, loop, repeat, break, continue, Codes, done, then}
use Rattle.rc_rlang.specs.RegionPoints.{steps_points, branch_points, code_points}
use Rattle.rc_rlang.specs.RegionLive.{before_act}
use Rattle.rc_rlang.specs.RegionFits.{place_types, steps_types}
use Rattle.rc_rlang.specs.RegionFlow.{note_in}
use Rattle.rc_rlang.specs.Sites.{Site, store_sites, cells_sites, act_sites, code_sites, codes_sites}
use Rattle.rc_rlang.specs.Sites as Sites
use Rattle.rc_emission.specs.StackCode.{Instruction, Line}
use Rattle.rc_emission.specs.StackCode as To
use Rattle.rc_emission.specs.OperationCode.{line_of, at, spills}
use Rattle.rc_emission.specs.StatementCode.{Place, zero_code, exit_test, exit_lines, cell_type, further, gets, steps_lines, change_code, cells_code, pops, last_line, act_lines, code_lines, codes_lines}
use Rattle.rc_along.specs.MarkedRuns.{before_store}
use Rattle.rc_labels.specs.Labels.{Label, Numbering, mark_at, plain, line_in}
use Rattle.rc_labels.specs.Labelled.{copy_marks, steps_labelled, test_labelled, act_labelled, code_labelled, codes_labelled}
use Rattle.rc_marks.specs.Stores.{Store, note_on, annotated, written_one, written}
use Rattle.rc_marks.proofs.Written.{code_written}
use Rattle.rc_labels.specs.Told.{told, offset_stored, marks_of_one, marks_told}
use Rattle.rc_labels.proofs.Decoded.{line_back}
use Rattle.rc_labels.proofs.Telling.{Told, told_at, exit_told, head_told}

-- ---- lists

both_none : {A : Type 0} (xs ys : List A) → xs ++ ys ≡ [] → (xs ≡ []) × (ys ≡ [])
both_none [] ys e = (refl, e)
both_none (x ∷ xs) ys e = absurd (cc e)

-- what stands before the whole is nothing
nothing_before : {A : Type 0} (xs ys : List A) → xs ++ ys ≡ ys → xs ≡ []
nothing_before [] ys e = refl
nothing_before (x ∷ xs) ys e = let l = length-append (x ∷ xs) ys in let m = ap length e in absurd (omega (arith, l, m))

-- ---- stores that are written

written_append : (a b : List Line) → written (a ++ b) ≡ written a ++ written b
written_append [] b = refl
written_append (l ∷ a) b = ap (λ xs. written_one l.line l.instruction ++ xs) (written_append a b) ∙ sym (append_assoc (written_one l.line l.instruction) (written a) (written b))

abbrev pub Quiet : List Instruction → Type 0
Quiet is = (line : ℕ) → written (at line is) ≡ []

written_past : (line : ℕ) (a b : List Instruction) → Quiet a → written (at line (a ++ b)) ≡ written (at line b)
written_past line a b q = ap written (map-append (λ i. line_of line i) a b) ∙ written_append (at line a) (at line b) ∙ ap (λ xs. xs ++ written (at line b)) (q line)

abbrev start : Place
start = record { at = 0; out = 0; on = 0 }

abbrev ways : (ℕ → Bool) → Ways
ways live = record { next = live; broken = live; continued = live }

module _ (slot : ℕ → Ty → ℕ) (deleting : ℕ → Bool) (types : List Ty) where
  steps_quiet : (s : Steps) (live : ℕ → Bool) → written (steps_lines slot deleting types s [] [] live) ≡ []
  steps_quiet s live =
      let head = steps_lines slot deleting types s [] [] live in
      let behind = pops slot deleting types (last_line s) (steps_types s []) in
      (both_none (written head) (written behind) (sym (written_append head behind) ∙ (code_written slot deleting types (simple s drop) (ways live) start).is)).0

  exit_quiet : (test : Option Test) (over : ℕ) → written (exit_lines test over) ≡ []
  exit_quiet None over = refl
  exit_quiet (Some test) over =
      let first = at test.line (exit_test test.wanted test.ty) in
      let jump = line_of test.line (To.jump_zero 1) ∷ [] in
      let whole = (code_written slot deleting types (branch none test (block done) (block done)) (ways (λ x. false)) start).is in
      let exit = (both_none (written (first ++ jump)) [] (sym (written_append (first ++ jump) (line_of test.line (To.jump 0) ∷ [])) ∙ whole)).0 in
      let quiet = (both_none (written first) (written jump) (sym (written_append first jump) ∙ exit)).0 in
      written_append first (line_of test.line (To.jump_zero over) ∷ []) ∙ ap (λ xs. xs ++ []) quiet

  clear_quiet : (line x : ℕ) (ty : Ty) → written (line_of line (zero_code ty) ∷ line_of line (To.set x ty) ∷ []) ≡ []
  clear_quiet line x ty = (code_written slot deleting types (clear line x ty) (ways (λ x. false)) start).is

  spills_quiet : (base : ℕ) (tys : List Ty) → Quiet (spills slot base tys)
  spills_quiet base [] line = refl
  spills_quiet base (ty ∷ tys) line = spills_quiet base tys line

  gets_quiet : (h : ℕ) (tys : List Ty) → Quiet (gets slot deleting types h tys)
  gets_quiet h [] line = refl
  gets_quiet h (ty ∷ tys) line = gets_quiet (suc h) tys line

  -- an update writes its one store
  change_quiet : (a : Access) (change : Change) (ty : Ty) → Quiet (change_code slot deleting types change a.cell ty (To.get (slot (width a) ty)))
  change_quiet a change ty line =
      let change' = change_code slot deleting types change a.cell ty (To.get (slot (width a) ty)) in
      let fetched = gets slot deleting types 0 (place_types a) in
      let last = change' ++ To.store a ∷ [] in
      let whole = (code_written slot deleting types (simple none (update line a change ty)) (ways (λ x. false)) start).is in
      nothing_before (written (at line change')) (annotated (note_on a.cell) line)
      (ap (λ xs. written (at line change') ++ xs) (sym (append-nil (annotated (note_on a.cell) line)))
      ∙ sym (written_append (at line change') (at line (To.store a ∷ [])))
      ∙ ap written (sym (map-append (λ i. line_of line i) change' (To.store a ∷ [])))
      ∙ sym (written_past line fetched (fetched ++ (To.load a ∷ last)) (gets_quiet 0 (place_types a)) ∙ written_past line fetched (To.load a ∷ last) (gets_quiet 0 (place_types a)))
      ∙ whole)

-- ---- marks that are told

pub note_again : (kind : CellKind) → note_on (cell_type kind) ≡ note_of kind
note_again int_cell = refl
note_again unsigned_cell = refl
note_again char_cell = refl
note_again region_cell = refl
note_again (pointer_cell note target) = refl

note_same : (ty : Ty) → note_on ty ≡ note_in ty
note_same int = refl
note_same unsigned = refl
note_same char = refl
note_same region = refl
note_same (struct k) = refl
note_same (pointer note target) = refl

same_before : (change : Change) → before_store change ≡ Sites.before_store change
same_before (Compute from operator s) = refl
same_before (Stepping direction) = refl

module _ (n : Numbering) where
  marks_append : (a b : List Line) → marks_told n (a ++ b) ≡ marks_told n a ++ marks_told n b
  marks_append [] b = refl
  marks_append (l ∷ a) b = ap (λ xs. marks_of_one n l ++ xs) (marks_append a b) ∙ sym (append_assoc (marks_of_one n l) (marks_told n a) (marks_told n b))

  none_told : (lines : List Line) → written (map (told n) lines) ≡ [] → marks_told n lines ≡ []
  none_told [] e = refl
  none_told (l ∷ lines) e =
      let b = both_none (written_one (line_in n l.line) l.instruction) (written (map (told n) lines)) e in
      ap (λ (xs : List Store). map (λ (s : Store). mark_at (n.label l.line) (offset_stored l.instruction)) xs ++ marks_told n lines) b.0 ∙ none_told lines b.1

  pub silent : (lines' lines : List Line) → Told n lines' lines → written lines ≡ [] → marks_told n lines' ≡ []
  silent lines' lines e q = none_told lines' (ap written e ∙ q)

  -- past instructions that store nothing
  skip : (label : ℕ) (a b : List Instruction) → Quiet a → marks_told n (at label (a ++ b)) ≡ marks_told n (at label b)
  skip label a b q =
      ap (marks_told n) (map-append (λ i. line_of label i) a b) ∙ marks_append (at label a) (at label b)
      ∙ ap (λ xs. xs ++ marks_told n (at label b)) (silent (at label a) (at (line_in n label) a) (told_at n label (line_in n label) refl a) (q (line_in n label)))

  -- the mark of a label with one
  pub single : (line base : ℕ) (m : Bool) → mark_at (n.label (n.number (record { line = line; base = base; marks = m ∷ [] }))) base ≡ m
  single line base m =
      ap (λ (l : Label). mark_at l base) (n.read (record { line = line; base = base; marks = m ∷ [] }))
      ∙ (let e : base - base ≡ 0 = omega arith in ap (λ k. get_or (m ∷ []) k false) e)

  one_mark : (note : Note) (line line' point : ℕ) (marked : (point : ℕ) → Bool) (m : Bool) → m ≡ marked point → map (λ (s : Store). m) (annotated note line) ≡ map (λ (s : Site). marked s.point) (store_sites note line' point)
  one_mark Plain line line' point marked m e = refl
  one_mark SameRegion line line' point marked m e = ap (λ b. b ∷ []) e
  one_mark ParentPtr line line' point marked m e = ap (λ b. b ∷ []) e
  one_mark Traditional line line' point marked m e = ap (λ b. b ∷ []) e

  module _ (slot : ℕ → Ty → ℕ) (deleting : ℕ → Bool) (types : List Ty) (marked : (point : ℕ) → Bool) where
    abbrev points : List Site → List Bool
    points sites = map (λ (s : Site). marked s.point) sites

    stored : (a : Access) (line label point : ℕ) → mark_at (n.label label) a.offset ≡ marked point → marks_told n (line_of label (To.store a) ∷ []) ≡ points (store_sites (note_in a.cell) line point)
    stored a line label point e =
        append-nil (map (λ (s : Store). mark_at (n.label label) a.offset) (annotated (note_on a.cell) (line_in n label)))
        ∙ one_mark (note_on a.cell) (line_in n label) line point marked (mark_at (n.label label) a.offset) e
        ∙ ap (λ note. points (store_sites note line point)) (note_same a.cell)

    -- `j` cells of a copy are done
    cells_marks : (line label : ℕ) (kinds : Layout) (left right : Access) (base j here : ℕ) → left.offset ≡ base + j → ((k : ℕ) → mark_at (n.label label) (base + (j + k)) ≡ get_or (copy_marks kinds marked here) k false)
        → marks_told n (at label (cells_code slot deleting types kinds left right)) ≡ points (cells_sites kinds line here)
    cells_marks line label [] left right base j here el em = refl
    cells_marks line label (kind ∷ kinds) left right base j here el em =
        let to : Access = record left { cell = cell_type kind } in
        let rest = at label (cells_code slot deleting types kinds (further left) (further right)) in
        let eo : left.offset ≡ base + (j + 0) = omega (arith, el) in
        skip label (gets slot deleting types 0 (place_types left)) _ (gets_quiet slot deleting types 0 (place_types left))
        ∙ skip label (gets slot deleting types (width left) (place_types right)) _ (gets_quiet slot deleting types (width left) (place_types right))
        ∙ ap (λ xs. xs ++ marks_told n rest) (one_mark (note_on (cell_type kind)) (line_in n label) line (suc here) marked (mark_at (n.label label) left.offset) (ap (mark_at (n.label label)) eo ∙ em 0) ∙ ap (λ note. points (store_sites note line (suc here))) (note_again kind))
        ∙ ap (λ xs. points (store_sites (note_of kind) line (suc here)) ++ xs)
        (cells_marks line label kinds (further left) (further right) base (suc j) (suc (suc here)) (omega (arith, el)) (λ k. (let e : base + (suc j + k) ≡ base + (j + suc k) = omega arith in ap (mark_at (n.label label)) e) ∙ em (suc k)))
        ∙ sym (map-append (λ (s : Site). marked s.point) (store_sites (note_of kind) line (suc here)) (cells_sites kinds line (suc (suc here))))

    pops_marks : (last : ℕ) (tys : List Ty) → marks_told n (pops slot deleting types last tys) ≡ []
    pops_marks last [] = refl
    pops_marks last (ty ∷ tys) = pops_marks last tys

    act_marks : (last : ℕ) (act : Act) (here : ℕ) (tys : List Ty) (live : ℕ → Bool) → marks_told n (act_lines slot deleting types last (act_labelled n marked act here) tys live) ≡ points (act_sites act here)
    act_marks last drop here tys live = pops_marks last tys
    act_marks last (perform line f parameters) here tys live = refl
    act_marks last (assign line x ty) here tys live = refl
    act_marks last (store line a) here tys live = stored a line _ here (single line a.offset (marked here))
    act_marks last (update line a change ty) here tys live =
        let label = n.number (record { line = line; base = a.offset; marks = marked (here + before_store change) ∷ [] }) in
        let fetched = gets slot deleting types 0 (place_types a) in
        let change' = change_code slot deleting types change a.cell ty (To.get (slot (width a) ty)) in
        skip label (spills slot 0 tys) _ (spills_quiet slot deleting types 0 tys)
        ∙ skip label fetched _ (gets_quiet slot deleting types 0 (place_types a))
        ∙ skip label fetched _ (gets_quiet slot deleting types 0 (place_types a))
        ∙ skip label change' (To.store a ∷ []) (change_quiet slot deleting types a change ty)
        ∙ stored a line label (here + before_store change) (single line a.offset (marked (here + before_store change)))
        ∙ ap (λ k. points (store_sites (note_in a.cell) line (here + k))) (same_before change)
    act_marks last (move line cells left right) here tys live =
        let l : Label = record { line = line; base = left.offset; marks = copy_marks cells marked here } in
        skip (n.number l) (spills slot 0 tys) _ (spills_quiet slot deleting types 0 tys)
        ∙ cells_marks line (n.number l) cells left right left.offset 0 here (omega arith) (λ k. ap (λ (x : Label). mark_at x (left.offset + (0 + k))) (n.read l) ∙ (let e : left.offset + (0 + k) - left.offset ≡ k = omega arith in ap (λ i. get_or (copy_marks cells marked here) i false) e))
    act_marks last (delete line) here tys live = refl
    act_marks last (leave line result) here tys live = refl

    -- as a record, so that arguments are found
    pub record Marks (lines : List Line) (bits : List Bool) : Type 0 where
      pub is : marks_told n lines ≡ bits

    together : (a b : List Line) (x y : List Site) → Marks a (points x) → Marks b (points y) → Marks (a ++ b) (points (x ++ y))
    together a b x y p q = record { is = marks_append a b ∙ ap (λ xs. xs ++ marks_told n b) p.is ∙ ap (λ xs. points x ++ xs) q.is ∙ sym (map-append (λ (s : Site). marked s.point) x y) }

    past : (a b : List Line) (y : List Bool) → marks_told n a ≡ [] → Marks b y → Marks (a ++ b) y
    past a b y e q = record { is = marks_append a b ∙ ap (λ xs. xs ++ marks_told n b) e ∙ q.is }

    pub before : (a b : List Line) (x : List Bool) → Marks a x → marks_told n b ≡ [] → Marks (a ++ b) x
    before a b x p e = record { is = marks_append a b ∙ ap (λ xs. xs ++ marks_told n b) p.is ∙ ap (λ xs. x ++ xs) e ∙ append-nil x }

    jumped : (line k : ℕ) (b : List Line) (y : List Bool) → Marks b y → Marks (line_of line (To.jump k) ∷ b) y
    jumped line k b y q = record { is = q.is }

    steps_marks : (s : Steps) (live : ℕ → Bool) → marks_told n (steps_lines slot deleting types (steps_labelled n s) [] [] live) ≡ []
    steps_marks s live = silent _ _ (head_told n slot deleting types s live live refl) (steps_quiet slot deleting types s live)

    exit_marks : (test : Option Test) (over : ℕ) → marks_told n (exit_lines (option_map (test_labelled n) test) over) ≡ []
    exit_marks test over = silent _ _ (exit_told n test over) (exit_quiet slot deleting types test over)

    both_silent : (a b : List Line) → marks_told n a ≡ [] → marks_told n b ≡ [] → marks_told n (a ++ b) ≡ []
    both_silent a b x y = marks_append a b ∙ ap (λ xs. xs ++ marks_told n b) x ∙ y

    mutual
      pub code_marks : (c : Code) (here : ℕ) (k : Ways) (p : Place) → Marks (code_lines slot deleting types (code_labelled n marked c here) k p) (points (code_sites Points c here))
      code_marks (simple steps act) here k p =
          let at_act = here + steps_points steps in
          past (steps_lines slot deleting types (steps_labelled n steps) [] [] (before_act (act_labelled n marked act at_act) k.next)) _ _ (steps_marks steps (before_act (act_labelled n marked act at_act) k.next))
          (record { is = act_marks (last_line (steps_labelled n steps)) act at_act (steps_types (steps_labelled n steps) []) k.next })
      code_marks (clear line x ty) here k p =
          record { is = silent (line_of (plain n line) (zero_code ty) ∷ line_of (plain n line) (To.set x ty) ∷ []) (at line (zero_code ty ∷ To.set x ty ∷ [])) (told_at n (plain n line) line (line_back n line) (zero_code ty ∷ To.set x ty ∷ [])) (clear_quiet slot deleting types line x ty) }
      code_marks (block codes) here k p = codes_marks codes here k p
      code_marks (branch steps test a b) here k p =
          let at_a = suc (here + steps_points steps) in
          past (steps_lines slot deleting types (steps_labelled n steps) [] [] _) _ _ (steps_marks steps _)
          (past (exit_lines (Some (test_labelled n test)) _) _ _ (exit_marks (Some test) _) (together _ _ (code_sites Points a at_a) (code_sites Points b (at_a + code_points a)) (code_marks a at_a k _) (jumped _ _ _ _ (code_marks b (at_a + code_points a) k _))))
      code_marks (loop line steps test third a) here k p =
          let at_a = suc here + steps_points steps + branch_points test in
          let at_third = at_a + code_points a in
          past (steps_lines slot deleting types (steps_labelled n steps) [] [] _) _ _ (steps_marks steps _)
          (past (exit_lines (option_map (test_labelled n) test) _) _ _ (exit_marks test _) (together _ _ (code_sites Points a at_a) (code_sites Points third at_third) (code_marks a at_a _ _) (before _ (line_of (plain n line) (To.back p.at) ∷ []) _ (code_marks third at_third _ _) refl)))
      code_marks (repeat line a steps test) here k p =
          before _ _ _ (code_marks a (suc here) _ _)
          (both_silent (steps_lines slot deleting types (steps_labelled n steps) [] [] _) _ (steps_marks steps _) (both_silent (exit_lines (Some (test_labelled n test)) 1) (line_of (plain n line) (To.back p.at) ∷ []) (exit_marks (Some test) 1) refl))
      code_marks (break line) here k p = record { is = refl }
      code_marks (continue line) here k p = record { is = refl }

      codes_marks : (cs : Codes) (here : ℕ) (k : Ways) (p : Place) → Marks (codes_lines slot deleting types (codes_labelled n marked cs here) k p) (points (codes_sites Points cs here))
      codes_marks done here k p = record { is = refl }
      codes_marks (then c rest) here k p = together _ _ (code_sites Points c here) (codes_sites Points rest (here + code_points c)) (code_marks c here _ _) (codes_marks rest (here + code_points c) k _)
