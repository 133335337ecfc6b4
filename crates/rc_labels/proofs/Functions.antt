-- Whole functions of labelled region code, and the names that a program's functions speak of.
use Rattle.std.proofs.Common.{◌≡◌, ℕ, suc, Bool, true, false, List, [], ◌∷◌, ◌++◌, map, flat_map, Some, None, refl, sym, ap, ◌∙◌, subst}
use Rattle.std.specs.Prelude.{slice_get}
use Rattle.rc_facts.specs.declared.fact.Fact.{Fact}
use Rattle.rc_core.specs.Types.{Ty, char}
use Rattle.rc_core.specs.Programs.{Global}
use Rattle.rc_core.specs.Live.{at_end}
use Rattle.rc_rlang.specs.RegionCode.{Access, Routine, Rlang}
use Rattle.rc_rlang.specs.RegionFlow.{Node, Ends, code_nodes, end_nodes, routine_nodes}
use Rattle.rc_rlang.specs.RegionPoints.{code_points}
use Rattle.rc_rlang.specs.RegionRuns.{deletes}
use Rattle.rc_annotations.specs.Annotations.{asked_by}
use Rattle.rc_along.proofs.Standing.{stand_left, stand_all}
use Rattle.rc_emission.specs.StackCode.{Line, StackFunction}
use Rattle.rc_emission.specs.StatementCode.{Slots, body_lines, code_lines, end_lines}
use Rattle.rc_emission.specs.KeptOperands.{place_in, same_type, slots_of}
use Rattle.rc_code.specs.declared.image.Path.{Path}
use Rattle.rc_numbering.specs.Tables.{table_of}
use Rattle.rc_numbering.specs.Names.{instruction_names, code_names, types_named, structs_from, fields_names, with_pointed, result_names, routine_names, types_of, same_path, path_of, instruction_paths, code_paths, paths_of, stack_of}
use Rattle.rc_numbering.specs.Numbered.{type_in, path_in}
use Rattle.rc_labels.specs.Labels.{Numbering, plain}
use Rattle.rc_labels.specs.Labelled.{code_labelled, routine_labelled, routines_labelled, labelled}
use Rattle.rc_marks.proofs.Written.{end_written}
use Rattle.rc_labels.specs.InOrder.{routine_marks, Asks, OnlyWhereAsked}
use Rattle.rc_labels.specs.Told.{told, marks_told}
use Rattle.rc_labels.specs.MarkedLaws.{KeepsZero, LabelsStandForLines, NamesTheSame}
use Rattle.rc_labels.proofs.Lives.{deletes_same}
use Rattle.rc_labels.proofs.Kept.{slots_same}
use Rattle.rc_labels.proofs.Telling.{join, code_told, end_told}
use Rattle.rc_labels.proofs.Marking.{silent, before, code_marks}
use Rattle.rc_labels.proofs.Plainly.{Plainly, plainly_both, code_plainly, end_plainly}

module _ (n : Numbering) where
  names_told : (lines : List Line) → code_names (map (told n) lines) ≡ code_names lines
  names_told [] = refl
  names_told (l ∷ lines) = ap (λ xs. instruction_names l.instruction ++ xs) (names_told lines)

  pub paths_told : (type_number : Ty → ℕ) (lines : List Line) → code_paths type_number (map (told n) lines) ≡ code_paths type_number lines
  paths_told type_number [] = refl
  paths_told type_number (l ∷ lines) = ap (λ xs. instruction_paths type_number l.instruction ++ xs) (paths_told type_number lines)

module _ (n : Numbering) (zero_line : KeepsZero n) (marks : (function point : ℕ) → Bool) (r : Rlang) where
  abbrev r' : Rlang
  r' = labelled n marks r

  abbrev f' : ℕ → Routine → Routine
  f' k f = routine_labelled n (marks k) f

  abbrev stack_by : Slots → (ℕ → Bool) → Routine → StackFunction
  stack_by s d f = record { locals = f.locals ++ s.types; code = body_lines s.slot d f }

  stack_same : (k : ℕ) (f : Routine) → stack_of r' (f' k f) ≡ stack_by (slots_of f) (deletes r) (f' k f)
  stack_same k f = ap (λ (s : Slots). stack_by s (deletes r') (f' k f)) (slots_same n (marks k) f) ∙ ap (λ (d : ℕ → Bool). stack_by (slots_of f) d (f' k f)) (deletes_same n marks r)

  pub locals_same : (k : ℕ) (f : Routine) → (stack_of r' (f' k f)).locals ≡ (stack_of r f).locals
  locals_same k f = ap (λ (s : StackFunction). s.locals) (stack_same k f)

  pub lines_same : (k : ℕ) (f : Routine) → map (told n) (stack_of r' (f' k f)).code ≡ (stack_of r f).code
  lines_same k f =
      let slot = (slots_of f).slot in
      ap (λ (s : StackFunction). map (told n) s.code) (stack_same k f)
      ∙ join n (code_lines slot (deletes r) f.locals (code_labelled n (marks k) f.body 1) at_end _) _ (end_lines slot (deletes r) f.locals f.result (plain n f.line)) _
      (code_told n slot (deletes r) f.locals zero_line (marks k) f.body 1 at_end _) (end_told n slot (deletes r) f.locals zero_line (marks k) f.result f.line)

  pub marks_same : (k : ℕ) (f : Routine) → marks_told n (stack_of r' (f' k f)).code ≡ routine_marks (marks k) f
  marks_same k f =
      let slot = (slots_of f).slot in
      ap (λ (s : StackFunction). marks_told n s.code) (stack_same k f)
      ∙ (before n slot (deletes r) f.locals (marks k) (code_lines slot (deletes r) f.locals (code_labelled n (marks k) f.body 1) at_end _) (end_lines slot (deletes r) f.locals f.result (plain n f.line)) _
      (code_marks n slot (deletes r) f.locals (marks k) f.body 1 at_end _)
      (silent n _ _ (end_told n slot (deletes r) f.locals zero_line (marks k) f.result f.line) (end_written slot (deletes r) f.locals f.result f.line))).is

  pub says_the_code : LabelsStandForLines n marks r
  says_the_code k f = record { locals = locals_same k f; lines = lines_same k f; marks = marks_same k f }

  -- ---- names

  routine_named : (k : ℕ) (f : Routine) → routine_names r' (f' k f) ≡ routine_names r f
  routine_named k f =
      ap (λ tys. types_named tys ++ (result_names f.result ++ code_names (stack_of r' (f' k f)).code)) (locals_same k f)
      ∙ ap (λ xs. types_named (stack_of r f).locals ++ (result_names f.result ++ xs)) (sym (names_told n (stack_of r' (f' k f)).code) ∙ ap code_names (lines_same k f))

  all_named : (k : ℕ) (fs : List Routine) → flat_map (routine_names r') (routines_labelled n marks k fs) ≡ flat_map (routine_names r) fs
  all_named k [] = refl
  all_named k (f ∷ fs) = ap (λ xs. xs ++ flat_map (routine_names r') (routines_labelled n marks (suc k) fs)) (routine_named k f) ∙ ap (λ xs. routine_names r f ++ xs) (all_named (suc k) fs)

  pub types_same : types_of r' ≡ types_of r
  types_same = ap (λ xs. table_of same_type (structs_from 0 r.structs ++ (flat_map fields_names r.structs ++ (flat_map (λ (g : Global). with_pointed g.ty) r.globals ++ (map (λ (bytes : List ℕ). char) r.strings ++ xs))))) (all_named 0 r.functions)

  pub type_in_same : type_in r' ≡ type_in r
  type_in_same = ap (λ (ts : List Ty). λ (ty : Ty). place_in same_type ts ty) types_same

  all_paths : (type_number : Ty → ℕ) (k : ℕ) (fs : List Routine) → flat_map (λ f. code_paths type_number (stack_of r' f).code) (routines_labelled n marks k fs) ≡ flat_map (λ f. code_paths type_number (stack_of r f).code) fs
  all_paths type_number k [] = refl
  all_paths type_number k (f ∷ fs) =
      ap (λ xs. xs ++ flat_map (λ g. code_paths type_number (stack_of r' g).code) (routines_labelled n marks (suc k) fs)) (sym (paths_told n type_number (stack_of r' (f' k f)).code) ∙ ap (code_paths type_number) (lines_same k f))
      ∙ ap (λ xs. code_paths type_number (stack_of r f).code ++ xs) (all_paths type_number (suc k) fs)

  pub paths_same : paths_of (type_in r') r' ≡ paths_of (type_in r) r
  paths_same = ap (λ t. paths_of t r') type_in_same ∙ ap (table_of same_path) (all_paths (type_in r) 0 r.functions)

  pub path_in_same : path_in r' ≡ path_in r
  path_in_same =
      ap (λ (t : Ty → ℕ). λ (a : Access). place_in same_path (paths_of (type_in r') r') (path_of t a)) type_in_same
      ∙ ap (λ (ps : List Path). λ (a : Access). place_in same_path ps (path_of (type_in r) a)) paths_same

  pub names_the_same : NamesTheSame r' r
  names_the_same = record { types = types_same; paths = paths_same }

  -- ---- plain stores

  module _ (only : OnlyWhereAsked r marks) where
    unasked : (k : ℕ) (f : Routine) → slice_get r.functions k ≡ Some f → (p : ℕ) (node : Node) → slice_get (routine_nodes f) p ≡ Some node → asked_by node ≡ None → marks k p ≡ false
    unasked k f there p node at none = by (marks k p) refl
      where
        apart : (fact : Fact) → None ≡ Some fact → ⊥
        apart fact e = cc

        asks : Asks r k p → ⊥
        asks a =
            let e : f ≡ a.routine = let q = sym there ∙ a.there in cc in
            let q : Some node ≡ Some a.node = sym at ∙ ap (λ (g : Routine). slice_get (routine_nodes g) p) e ∙ a.at_point in
            let s : node ≡ a.node = cc in
            apart a.fact (sym none ∙ ap asked_by s ∙ a.asks)

        by : (b : Bool) → marks k p ≡ b → b ≡ false
        by true e = absurd (asks (only k p e))
        by false e = refl

    pub stores_plainly : (k : ℕ) (f : Routine) → slice_get r.functions k ≡ Some f → Plainly n (stack_of r' (f' k f)).code
    stores_plainly k f there =
        let slot = (slots_of f).slot in
        let end = suc (code_points f.body) in
        let ends : Ends = record { next = end; broken = end; continued = end } in
        subst (λ (s : StackFunction). Plainly n s.code) (sym (stack_same k f))
        (plainly_both n (code_lines slot (deletes r) f.locals (code_labelled n (marks k) f.body 1) at_end _) (end_lines slot (deletes r) f.locals f.result (plain n f.line))
        (code_plainly n slot (deletes r) f.locals f (routine_nodes f) (marks k) (unasked k f there) f.body 1 ends at_end _ (stand_left (routine_nodes f) 1 (code_nodes f f.body 1 ends) (end_nodes f f.result end) (stand_all (routine_nodes f)).1))
        (end_plainly n slot (deletes r) f.locals f.result f.line))
