-- A program that a tree has, and that nothing refuses, fits together.
use Rattle.std.specs.Prelude.{◌≡◌, ℕ, zero, suc, ◌≤◌, List, [], ◌∷◌, ◌++◌, Option, Some, None, Bool, true, false, IfSome, is_some, length, map, slice_get, if◌then◌else◌}
use Rattle.std.proofs.Common.{refl, sym, ap, ◌∙◌, subst, inl, arith}
use Rattle.std.proofs.lemmas.List.{length-map}
use Rattle.std.specs.List.{AllByRecursion as Every}
use Rattle.rc_syntax.specs.Tree as t
use Rattle.rc_core.specs.Numbers.{IsByte}
use Rattle.rc_core.specs.Types.{Ty}
use Rattle.rc_core.specs.Programs as p
use Rattle.rc_core.specs.Layout.{field_at}
use Rattle.rc_core.specs.WellTyped.{FieldFits, StructFits, IsVariable, IsWellTyped}
use Rattle.rc_deletes.specs.declared.deletes.DeletesFault.{DeletesFault}
use Rattle.rc_deletes.specs.Judged.{Judged, Holds, Faulty, with_part}
use Rattle.rc_deletes.specs.Kinds.{place_of}
use Rattle.rc_deletes.specs.Scopes.{Context, fields_in, struct_names, Scope, Meaning, a_local, a_global, a_function, a_builtin, meaning_in}
use Rattle.rc_deletes.specs.Items.{is_among, Definition, names_of, with_structs, struct_definitions, types_in, function_names, field_of, shape_of, context_of, at_the_start, behind_items, Made, items, main_name, program_of}
use Rattle.rc_deletes.specs.Places.{deletes_faults}
use Rattle.rc_deletes.specs.Answer.{main_fault, main_or, first_place, first_of, IsProgramOf}
use Rattle.rc_deletes.specs.Limits.{HasFields, IsLimited}
use Rattle.rc_deletes.specs.Ranges.{ItemsInRange}
use Rattle.rc_judgements.proofs.Held.{Held, Given}
use Rattle.rc_deletes.proofs.Naming.{own_name, name_at}
use Rattle.rc_judgements.proofs.WellTypedCalls.{IsThere}
use Rattle.rc_judgements.proofs.WellTypedDefined.{Defined}
use Rattle.rc_judgements.proofs.WellTypedStructs.{field_in, names_same, some_is, StructsFrom, structs_hold}
use Rattle.rc_judgements.proofs.WellTypedGlobals.{GlobalsFit, global_at, globals_fit}
use Rattle.rc_judgements.proofs.WellTypedScopes.{StandsFor, Outer, OuterAfter, outer_builtins, outer_items}
use Rattle.rc_judgements.proofs.WellTypedNumbers.{Complete, paired_at, complete}
use Rattle.rc_judgements.proofs.WellTypedBodies.{AllFunctionsFit, function_at, functions_fit, AreInPlace, in_place_at, functions_in_place, ResultsHold, result_at, results_hold}

pub of_held : {A : Type 0} (P : A → Type 0) (x : Judged A) (a : A) → Held P x → x ≡ Holds a → P a
of_held P x a h e = subst (Held P) e h

map_at : {A B : Type 0} (f : A → B) (xs : List A) (k : ℕ) (y : B) → slice_get (map f xs) k ≡ Some y → (x : A) × (slice_get xs k ≡ Some x) × (f x ≡ y)
map_at f [] k y h = absurd cc
map_at f (x ∷ xs) zero y h = (x, refl, some_is (f x) y h)
map_at f (x ∷ xs) (suc k) y h = map_at f xs k y h

-- every struct that is defined has a field
abbrev AllHaveFields : List Definition → Type 0
AllHaveFields [] = Unit {0}
AllHaveFields (d ∷ ds) = (1 ≤ length d.1) × AllHaveFields ds

fields_more : (ds : List Definition) (d : Definition) → AllHaveFields ds → 1 ≤ length d.1 → AllHaveFields (ds ++ d ∷ [])
fields_more [] d h k = (k, tt)
fields_more (e ∷ ds) d h k = (h.0, fields_more ds d h.1 k)

fields_if : (b : Bool) (ds : List Definition) (d : Definition) → AllHaveFields ds → 1 ≤ length d.1 → AllHaveFields (if b then ds else ds ++ d ∷ [])
fields_if true ds d h k = h
fields_if false ds d h k = fields_more ds d h k

all_have_fields : (is : List t.Item) (ds : List Definition) → AllHaveFields ds → HasFields is → AllHaveFields (with_structs ds is)
all_have_fields [] ds h k = h
all_have_fields (t.struct at name fields ∷ is) ds h k = all_have_fields is _ (fields_if (is_among (names_of ds) name.text) ds (name.text, fields) h k.0) k.1
all_have_fields (t.global at n name count c ∷ is) ds h k = all_have_fields is ds h k
all_have_fields (t.function at deletes result name params body ∷ is) ds h k = all_have_fields is ds h k

fields_of_one : (ds : List Definition) → AllHaveFields ds → (k : ℕ) (d : Definition) → slice_get ds k ≡ Some d → 1 ≤ length d.1
fields_of_one [] h k d e = absurd cc
fields_of_one (c ∷ ds) h zero d e = subst (λ x. 1 ≤ length x.1) (some_is c d e) h.0
fields_of_one (c ∷ ds) h (suc k) d e = fields_of_one ds h.1 k d e

field_of_struct : (structs : List p.Struct) (s f : ℕ) (d : p.Field) → field_at structs s f ≡ Some d → (fields : p.Struct) × (slice_get structs s ≡ Some fields) × (slice_get fields f ≡ Some d)
field_of_struct [] s f d h = absurd (none f d h) where
  none : (f : ℕ) (d : p.Field) → slice_get {X = p.Field} [] f ≡ Some d → ⊥
  none f d e = cc
field_of_struct (x ∷ xs) zero f d h = (x, refl, h)
field_of_struct (x ∷ xs) (suc s) f d h = field_of_struct xs s f d h

-- nothing refused
no_place : (faults : List DeletesFault) → first_place faults ≡ None → faults ≡ []
no_place [] h = refl
no_place (f ∷ fs) h = absurd cc

no_fault : (main : Option ℕ) (faults : List DeletesFault) → main_or main (first_place faults) ≡ None → (main ≡ None) × (faults ≡ [])
no_fault None faults h = (refl, no_place faults h)
no_fault (Some line) faults h = absurd cc

pub held_by : (x : Judged Made) (is : List t.Item) (program : p.Program) → with_part x (λ made. Holds (program_of is made)) ≡ Holds program → (made : Made) × (x ≡ Holds made) × (program_of is made ≡ program)
held_by (Holds made) is program h = (made, refl, holds_is h) where
  holds_is : Holds (program_of is made) ≡ Holds program → program_of is made ≡ program
  holds_is h = cc
held_by (Faulty f fs) is program h = absurd cc

module _ (is : List t.Item) (made : Made) (e : items (context_of is) at_the_start is ≡ Holds made) (main_none : main_fault is ≡ None) where
  abbrev context : Context
  context = context_of is

  abbrev program : p.Program
  program = program_of is made

  abbrev last : Scope
  last = (behind_items (context_of is) at_the_start is).names

  names : struct_names (context_of is) ≡ names_of (struct_definitions is)
  names = names_same is

  structs_from : StructsFrom (context_of is) (struct_definitions is) names 0
  structs_from = of_held (λ (m : Made). StructsFrom (context_of is) (struct_definitions is) names 0) (items (context_of is) at_the_start is) made (structs_hold (context_of is) (struct_definitions is) names [] is at_the_start refl refl) e

  definition_at : (k : ℕ) (fields : p.Struct) → slice_get program.structs k ≡ Some fields → (d : Definition) × (slice_get (struct_definitions is) k ≡ Some d) × (fields_in (shape_of (types_in is) d) ≡ fields)
  definition_at k fields h =
      let one = map_at fields_in (map (shape_of (types_in is)) (struct_definitions is)) k fields h in
      let two = map_at (shape_of (types_in is)) (struct_definitions is) k one.0 one.1 in
      (two.0, two.1, ap fields_in two.2 ∙ one.2)

  a_field_fits : (k : ℕ) (fields : p.Struct) → slice_get program.structs k ≡ Some fields → (j : ℕ) (f : p.Field) → slice_get fields j ≡ Some f → FieldFits program.structs k f
  a_field_fits k fields h j f q =
      let d = definition_at k fields h in
      let there : slice_get (map (λ x. x.1) (map (field_of (types_in is)) d.0.1)) j ≡ Some f = subst (λ x. slice_get x j ≡ Some f) (sym d.2) q in
      field_in (context_of is) k d.0.1 (structs_from k d.0 (omega arith) d.1).0 j f there

  struct_fits : HasFields is → (k : ℕ) (fields : p.Struct) → slice_get program.structs k ≡ Some fields → StructFits program.structs k fields
  struct_fits has k fields h =
      let d = definition_at k fields h in
      let count : length fields ≡ length d.0.1 = ap length (sym d.2) ∙ length-map (map (field_of (types_in is)) d.0.1) (λ x. x.1) ∙ length-map d.0.1 (field_of (types_in is)) in
      record {
        some_field = subst (λ n. 1 ≤ n) (sym count) (fields_of_one (struct_definitions is) (all_have_fields is [] tt has) k d.0 d.1);
        fields_fit = a_field_fits k fields h;
        small = (structs_from k d.0 (omega arith) d.1).1;
      }

  globals : GlobalsFit (context_of is) 0 made
  globals = of_held (GlobalsFit (context_of is) 0) (items (context_of is) at_the_start is) made (globals_fit (context_of is) is at_the_start (omega arith)) e

  outer : Outer (context_of is) made.globals last
  outer = of_held (OuterAfter (context_of is) [] is at_the_start) (items (context_of is) at_the_start is) made (outer_items (context_of is) is at_the_start [] refl) e (outer_builtins (context_of is) made.globals)

  all_functions : Complete (context_of is) made.globals last outer (Unit {0}) [] made
  all_functions = of_held (Complete (context_of is) made.globals last outer (Unit {0}) []) (items (context_of is) at_the_start is) made (complete (context_of is) made.globals last outer (Unit {0}) is [] at_the_start refl refl nothing_seen (λ n m h. h) (λ w. inl main_none)) e where
    nothing_seen : (j : ℕ) (n : List ℕ) → slice_get {X = List ℕ} [] j ≡ Some n → is_some (meaning_in (at_the_start).names n) ≡ true
    nothing_seen j n h = absurd cc

  there : (all : List Ty) (n : List ℕ) → Given (IsThere program all) (meaning_in last n)
  there all n = by (meaning_in last n) refl (outer n) where
    function_there : (k : ℕ) (s : _) → meaning_in last n ≡ Some (a_function (Some k) s) → Some k ≡ place_of (function_names is) n → IsThere program all (a_function (Some k) s)
    function_there k s q h =
        let at_k : slice_get all_functions.0 k ≡ Some n = subst (λ x. slice_get x k ≡ Some n) all_functions.1 (name_at (function_names is) n k (sym h)) in
        let g = paired_at (context_of is) made.globals last outer (Unit {0}) all_functions.0 made.functions all_functions.2 k n at_k in
        let types = g.2 (Some k) s q in
        (g.0, g.1, types.0, types.1)

    by : (m : Option Meaning) → meaning_in last n ≡ m → Given (StandsFor (context_of is) made.globals n) m → Given (IsThere program all) m
    by None q h = tt
    by (Some (a_local x u)) q h = absurd h
    by (Some (a_global g u c)) q h = h
    by (Some (a_function None s)) q h = tt
    by (Some (a_function (Some k) s)) q h = function_there k s q h
    by (Some (a_builtin b)) q h = tt

  defined : Defined program
  defined = record {
    globals = λ k d h. (global_at (context_of is) made.globals globals.0 k d h).defined;
    fields = λ s f d h. let x = field_of_struct program.structs s f d h in (a_field_fits s x.0 x.1 f d x.2).defined;
    results = λ k g u h q.
        let r = result_at (context_of is) made.functions (of_held (ResultsHold (context_of is)) (items (context_of is) at_the_start is) made (results_hold (context_of is) is at_the_start) e) k g h in
        (subst (λ x. IfSome x (IsVariable program.structs)) q r).0;
  }

  fits : ItemsInRange is → IsLimited (record { items = is }) → Every (Every IsByte) program.strings → deletes_faults (record { items = is }) program ≡ [] → IsWellTyped program
  fits numbers limits bytes none =
      let bodies : AllFunctionsFit program (context_of is) refl defined last there made.functions = of_held _ (items (context_of is) at_the_start is) made (functions_fit program (context_of is) refl defined last there is at_the_start (λ n m h. h) (omega arith) numbers) e in
      let placed = of_held (AreInPlace program (context_of is) is) (items (context_of is) at_the_start is) made (functions_in_place program (context_of is) is at_the_start) e [] refl none in
      let main = all_functions.3 tt in
      let at_main : slice_get all_functions.0 main.0 ≡ Some main_name = subst (λ x. slice_get x main.0 ≡ Some main_name) all_functions.1 (name_at (function_names is) main_name main.0 main.1) in
      let g = paired_at (context_of is) made.globals last outer (Unit {0}) all_functions.0 made.functions all_functions.2 main.0 main_name at_main in
      let shape = g.3 tt (own_name main_name) in
      record {
        structs = struct_fits limits.fields;
        globals = λ k d h. global_at (context_of is) made.globals globals.0 k d h;
        all_globals = omega (arith, globals.1);
        number_of_strings = limits.number_of_strings;
        strings = limits.strings;
        bytes = bytes;
        functions = λ k f h. function_at program (context_of is) refl defined last there made.functions bodies k f h;
        deleting = record {
          placed = λ k f h. (in_place_at program (context_of is) made.functions placed k f h).0;
          kept = λ k f h. (in_place_at program (context_of is) made.functions placed k f h).1;
        };
        main = (g.0, (rw main.1 g.1, shape.0, shape.1));
      }

pub fits_together : (tree : t.Tree) (program : p.Program) → ItemsInRange tree.items → IsLimited tree → Every (Every IsByte) program.strings → IsProgramOf tree program → IsWellTyped program
fits_together tree program numbers limits bytes h =
    let by = held_by (items (context_of tree.items) at_the_start tree.items) tree.items program h.0 in
    let answered : first_of tree (Holds program) ≡ None = subst (λ x. first_of tree x ≡ None) h.0 h.1 in
    let none = no_fault (main_fault tree.items) (deletes_faults tree program) answered in
    subst IsWellTyped by.2 (fits tree.items by.0 by.1 none.0 numbers limits (subst (λ (x : p.Program). Every (Every IsByte) x.strings) (sym by.2) bytes) (subst (λ x. deletes_faults tree x ≡ []) (sym by.2) none.1))
