-- The whole: a sound image over the store is the image over the source's world, mapped.
use Rattle.std.proofs.Common.{◌≡◌, ℕ, zero, suc, ◌+◌, ◌<◌, List, [], ◌∷◌, ◌++◌, length, map, drop, reverse, refl, sym, ap, ◌∙◌, subst}
use Rattle.std.specs.Prelude.{get_or}
use Rattle.rc_core.specs.Types.{Ty, int_cell}
use Rattle.rc_core.specs.Layout.{Layout, note_of, is_plain}
use Rattle.rc_core.specs.Source.{World, cells_chosen}
use Rattle.rc_code.specs.declared.opcode.Typed.TheVariants as typed
use Rattle.rc_code.specs.declared.opcode.Jump.TheVariants as jump
use Rattle.rc_code.specs.declared.opcode.Simple.TheVariants as simple
use Rattle.rc_code.specs.declared.instruction.Instruction.TheVariants as instruction
use Rattle.rc_code.specs.declared.image.Path.{Path}
use Rattle.rc_code.specs.declared.image.Function.{Function}
use Rattle.rc_code.specs.declared.instruction.Instruction.{Instruction}
use Rattle.rc_code.specs.Running.{layout_at, path_at, function_at, pointee, storage_of, chosen_values, run_main}
use Rattle.rc_code.specs.StoreModel.{stored}
use Rattle.rc_code.proofs.Kinding.{arithmetic_gives, arithmetic_takes, constant_gives, constant_takes}
use Rattle.rc_code.specs.Soundness.{Kind, operand_kind, place_kinds, takes, gives, count_off, instruction_at, kinds_before, FunctionIsSound, Names, Operands, Targets, Empty}
use Rattle.rc_worlds.specs.Worlds.{mapped, own, Compared, watched, model, named_cell, may_mark}
use Rattle.rc_worlds.specs.Typed.{Good}
use Rattle.rc_worlds.specs.Facts.{PathIsSound, ImageIsSound}
use Rattle.rc_worlds.proofs.Looks.{note_renamed}
use Rattle.rc_worlds.proofs.Does.{Excused}
use Rattle.rc_worlds.proofs.Layouts.{own_layout, own_storage, same_run}
use Rattle.rc_worlds.proofs.Walks.{exact}

module _ (image : Compared) (same_number : (ty : Ty) → pointee (image.name ty) ≡ image.code.numbered ty) where
  -- the loader's rules of the image are those of the image with the source's layouts
  same_takes : (f : Function) (i : Instruction) → takes (own image).code f i ≡ takes image.code f i
  same_takes f (instruction.Constant s n) = constant_takes (own image).code f s n ∙ sym (constant_takes image.code f s n)
  same_takes f (instruction.Global g) = refl
  same_takes f (instruction.Get x) = refl
  same_takes f (instruction.Set x) = refl
  same_takes f (instruction.Load p) = refl
  same_takes f (instruction.Typed typed.Null t) = refl
  same_takes f (instruction.Typed typed.Same t) = refl
  same_takes f (instruction.Typed typed.IsNull t) = refl
  same_takes f (instruction.Typed typed.RegionOf t) = refl
  same_takes f (instruction.Typed typed.Allocate t) = refl
  same_takes f (instruction.Typed typed.AllocateArray t) = refl
  same_takes f (instruction.Arithmetic row s) = arithmetic_takes (own image).code f row s ∙ sym (arithmetic_takes image.code f row s)
  same_takes f (instruction.Move t s direction) = refl
  same_takes f (instruction.Store p b) = ap (λ s. operand_kind s ∷ reverse (place_kinds (path_at image.code p))) (own_storage image same_number (path_at image.code p))
  same_takes f (instruction.Simple simple.NullRegion) = refl
  same_takes f (instruction.Simple simple.SameRegion) = refl
  same_takes f (instruction.Simple simple.IsZero) = refl
  same_takes f (instruction.Simple simple.IsNullRegion) = refl
  same_takes f (instruction.Simple simple.ToInt) = refl
  same_takes f (instruction.Simple simple.ToUnsigned) = refl
  same_takes f (instruction.Simple simple.ToChar) = refl
  same_takes f (instruction.Simple simple.NewRegion) = refl
  same_takes f (instruction.Simple simple.NewSubregion) = refl
  same_takes f (instruction.Simple simple.Return) = refl
  same_takes f (instruction.Simple simple.PutChar) = refl
  same_takes f (instruction.Simple simple.GetChar) = refl
  same_takes f (instruction.Simple simple.Pop) = refl
  same_takes f (instruction.Delete pins) = refl
  same_takes f (instruction.Call g pins) = refl
  same_takes f (instruction.Jump jump.Always to) = refl
  same_takes f (instruction.Jump jump.IfZero to) = refl
  same_takes f (instruction.Jump jump.Back to) = refl

  same_gives : (f : Function) (i : Instruction) → gives (own image).code f i ≡ gives image.code f i
  same_gives f (instruction.Constant s n) = constant_gives (own image).code f s n ∙ sym (constant_gives image.code f s n)
  same_gives f (instruction.Global g) = refl
  same_gives f (instruction.Get x) = refl
  same_gives f (instruction.Set x) = refl
  same_gives f (instruction.Load p) = ap (λ s. operand_kind s ∷ []) (own_storage image same_number (path_at image.code p))
  same_gives f (instruction.Typed typed.Null t) = refl
  same_gives f (instruction.Typed typed.Same t) = refl
  same_gives f (instruction.Typed typed.IsNull t) = refl
  same_gives f (instruction.Typed typed.RegionOf t) = refl
  same_gives f (instruction.Typed typed.Allocate t) = refl
  same_gives f (instruction.Typed typed.AllocateArray t) = refl
  same_gives f (instruction.Arithmetic row s) = arithmetic_gives (own image).code f row s ∙ sym (arithmetic_gives image.code f row s)
  same_gives f (instruction.Move t s direction) = refl
  same_gives f (instruction.Store p b) = refl
  same_gives f (instruction.Simple simple.NullRegion) = refl
  same_gives f (instruction.Simple simple.SameRegion) = refl
  same_gives f (instruction.Simple simple.IsZero) = refl
  same_gives f (instruction.Simple simple.IsNullRegion) = refl
  same_gives f (instruction.Simple simple.ToInt) = refl
  same_gives f (instruction.Simple simple.ToUnsigned) = refl
  same_gives f (instruction.Simple simple.ToChar) = refl
  same_gives f (instruction.Simple simple.NewRegion) = refl
  same_gives f (instruction.Simple simple.NewSubregion) = refl
  same_gives f (instruction.Simple simple.Return) = refl
  same_gives f (instruction.Simple simple.PutChar) = refl
  same_gives f (instruction.Simple simple.GetChar) = refl
  same_gives f (instruction.Simple simple.Pop) = refl
  same_gives f (instruction.Delete pins) = refl
  same_gives f (instruction.Call g pins) = refl
  same_gives f (instruction.Jump jump.Always to) = refl
  same_gives f (instruction.Jump jump.IfZero to) = refl
  same_gives f (instruction.Jump jump.Back to) = refl

  same_count : (f : Function) (i : Instruction) → count_off (own image).code f i ≡ count_off image.code f i
  same_count f (instruction.Constant s n) = ap length (same_takes f (instruction.Constant s n))
  same_count f (instruction.Global g) = ap length (same_takes f (instruction.Global g))
  same_count f (instruction.Get x) = ap length (same_takes f (instruction.Get x))
  same_count f (instruction.Set x) = ap length (same_takes f (instruction.Set x))
  same_count f (instruction.Load p) = ap length (same_takes f (instruction.Load p))
  same_count f (instruction.Typed typed.Null t) = ap length (same_takes f (instruction.Typed typed.Null t))
  same_count f (instruction.Typed typed.Same t) = ap length (same_takes f (instruction.Typed typed.Same t))
  same_count f (instruction.Typed typed.IsNull t) = ap length (same_takes f (instruction.Typed typed.IsNull t))
  same_count f (instruction.Typed typed.RegionOf t) = ap length (same_takes f (instruction.Typed typed.RegionOf t))
  same_count f (instruction.Typed typed.Allocate t) = ap length (same_takes f (instruction.Typed typed.Allocate t))
  same_count f (instruction.Typed typed.AllocateArray t) = ap length (same_takes f (instruction.Typed typed.AllocateArray t))
  same_count f (instruction.Arithmetic row s) = ap length (same_takes f (instruction.Arithmetic row s))
  same_count f (instruction.Move t s direction) = ap length (same_takes f (instruction.Move t s direction))
  same_count f (instruction.Store p b) = ap length (same_takes f (instruction.Store p b))
  same_count f (instruction.Simple simple.NullRegion) = ap length (same_takes f (instruction.Simple simple.NullRegion))
  same_count f (instruction.Simple simple.SameRegion) = ap length (same_takes f (instruction.Simple simple.SameRegion))
  same_count f (instruction.Simple simple.IsZero) = ap length (same_takes f (instruction.Simple simple.IsZero))
  same_count f (instruction.Simple simple.IsNullRegion) = ap length (same_takes f (instruction.Simple simple.IsNullRegion))
  same_count f (instruction.Simple simple.ToInt) = ap length (same_takes f (instruction.Simple simple.ToInt))
  same_count f (instruction.Simple simple.ToUnsigned) = ap length (same_takes f (instruction.Simple simple.ToUnsigned))
  same_count f (instruction.Simple simple.ToChar) = ap length (same_takes f (instruction.Simple simple.ToChar))
  same_count f (instruction.Simple simple.NewRegion) = ap length (same_takes f (instruction.Simple simple.NewRegion))
  same_count f (instruction.Simple simple.NewSubregion) = ap length (same_takes f (instruction.Simple simple.NewSubregion))
  same_count f (instruction.Simple simple.Return) = ap length (same_takes f (instruction.Simple simple.Return))
  same_count f (instruction.Simple simple.PutChar) = ap length (same_takes f (instruction.Simple simple.PutChar))
  same_count f (instruction.Simple simple.GetChar) = ap length (same_takes f (instruction.Simple simple.GetChar))
  same_count f (instruction.Simple simple.Pop) = refl
  same_count f (instruction.Delete pins) = ap length (same_takes f (instruction.Delete pins))
  same_count f (instruction.Call g pins) = ap length (same_takes f (instruction.Call g pins))
  same_count f (instruction.Jump jump.Always to) = ap length (same_takes f (instruction.Jump jump.Always to))
  same_count f (instruction.Jump jump.IfZero to) = ap length (same_takes f (instruction.Jump jump.IfZero to))
  same_count f (instruction.Jump jump.Back to) = ap length (same_takes f (instruction.Jump jump.Back to))

  kinds_same : (f : Function) (n : ℕ) → kinds_before (own image).code f n ≡ kinds_before image.code f n
  kinds_same f zero = refl
  kinds_same f (suc n) =
      ap (λ ks. ks ++ drop (count_off (own image).code f (instruction_at f n)) (kinds_before (own image).code f n)) (same_gives f (instruction_at f n))
      ∙ ap (λ m. gives image.code f (instruction_at f n) ++ drop m (kinds_before (own image).code f n)) (same_count f (instruction_at f n))
      ∙ ap (λ ks. gives image.code f (instruction_at f n) ++ drop (count_off image.code f (instruction_at f n)) ks) (kinds_same f n)

  type_there : (t : ℕ) → t < length (own image).code.layouts → t < length image.code.layouts
  type_there t e = subst (λ n. t < n) (by image.code.layouts) e
    where
      by : (types : List Layout) → length (map (map (named_cell image.name)) types) ≡ length types
      by [] = refl
      by (l ∷ types) = ap suc (by types)

  note_same : (t cell : ℕ) → note_of (get_or (layout_at (own image).code t) cell int_cell) ≡ note_of (get_or (layout_at image.code t) cell int_cell)
  note_same t cell = ap (λ (l : Layout). note_of (get_or l cell int_cell)) (own_layout image same_number t) ∙ note_renamed image.name (record { layout = layout_at image.code t; count = 0; values = [] } ∷ []) 0 cell

  names_same : (f : Function) (i : Instruction) → Names (may_mark (own image).marks) (own image).code f i → Names (may_mark image.marks) image.code f i
  names_same f (instruction.Typed row t) e = type_there t e
  names_same f (instruction.Move t s direction) e = type_there t e
  names_same f (instruction.Store p b) e = (e.0, λ m. let was = e.1 m in (was.0, sym (ap is_plain (note_same (path_at image.code p).type_number (path_at image.code p).offset)) ∙ was.1))
  names_same f i e = e

  moved : (k k1 t t1 : List Kind) → k ≡ k1 → t ≡ t1 → (below : List Kind) × (k ≡ t ++ below) → (below : List Kind) × (k1 ≡ t1 ++ below)
  moved k k1 t t1 ek et x = (x.0, sym ek ∙ x.1 ∙ ap (λ ks. ks ++ x.0) et)

  operands_same : (f : Function) (n : ℕ) (i : Instruction) → Operands (own image).code f i (kinds_before (own image).code f n) → Operands image.code f i (kinds_before image.code f n)
  operands_same f n (instruction.Constant s v) x = moved _ _ _ _ (kinds_same f n) (same_takes f (instruction.Constant s v)) x
  operands_same f n (instruction.Global g) x = moved _ _ _ _ (kinds_same f n) (same_takes f (instruction.Global g)) x
  operands_same f n (instruction.Get y) x = moved _ _ _ _ (kinds_same f n) (same_takes f (instruction.Get y)) x
  operands_same f n (instruction.Set y) x = moved _ _ _ _ (kinds_same f n) (same_takes f (instruction.Set y)) x
  operands_same f n (instruction.Load p) x = moved _ _ _ _ (kinds_same f n) (same_takes f (instruction.Load p)) x
  operands_same f n (instruction.Typed typed.Null t) x = moved _ _ _ _ (kinds_same f n) (same_takes f (instruction.Typed typed.Null t)) x
  operands_same f n (instruction.Typed typed.Same t) x = moved _ _ _ _ (kinds_same f n) (same_takes f (instruction.Typed typed.Same t)) x
  operands_same f n (instruction.Typed typed.IsNull t) x = moved _ _ _ _ (kinds_same f n) (same_takes f (instruction.Typed typed.IsNull t)) x
  operands_same f n (instruction.Typed typed.RegionOf t) x = moved _ _ _ _ (kinds_same f n) (same_takes f (instruction.Typed typed.RegionOf t)) x
  operands_same f n (instruction.Typed typed.Allocate t) x = moved _ _ _ _ (kinds_same f n) (same_takes f (instruction.Typed typed.Allocate t)) x
  operands_same f n (instruction.Typed typed.AllocateArray t) x = moved _ _ _ _ (kinds_same f n) (same_takes f (instruction.Typed typed.AllocateArray t)) x
  operands_same f n (instruction.Arithmetic row s) x = moved _ _ _ _ (kinds_same f n) (same_takes f (instruction.Arithmetic row s)) x
  operands_same f n (instruction.Move t s direction) x = moved _ _ _ _ (kinds_same f n) (same_takes f (instruction.Move t s direction)) x
  operands_same f n (instruction.Store p b) x = moved _ _ _ _ (kinds_same f n) (same_takes f (instruction.Store p b)) x
  operands_same f n (instruction.Simple simple.NullRegion) x = moved _ _ _ _ (kinds_same f n) (same_takes f (instruction.Simple simple.NullRegion)) x
  operands_same f n (instruction.Simple simple.SameRegion) x = moved _ _ _ _ (kinds_same f n) (same_takes f (instruction.Simple simple.SameRegion)) x
  operands_same f n (instruction.Simple simple.IsZero) x = moved _ _ _ _ (kinds_same f n) (same_takes f (instruction.Simple simple.IsZero)) x
  operands_same f n (instruction.Simple simple.IsNullRegion) x = moved _ _ _ _ (kinds_same f n) (same_takes f (instruction.Simple simple.IsNullRegion)) x
  operands_same f n (instruction.Simple simple.ToInt) x = moved _ _ _ _ (kinds_same f n) (same_takes f (instruction.Simple simple.ToInt)) x
  operands_same f n (instruction.Simple simple.ToUnsigned) x = moved _ _ _ _ (kinds_same f n) (same_takes f (instruction.Simple simple.ToUnsigned)) x
  operands_same f n (instruction.Simple simple.ToChar) x = moved _ _ _ _ (kinds_same f n) (same_takes f (instruction.Simple simple.ToChar)) x
  operands_same f n (instruction.Simple simple.NewRegion) x = moved _ _ _ _ (kinds_same f n) (same_takes f (instruction.Simple simple.NewRegion)) x
  operands_same f n (instruction.Simple simple.NewSubregion) x = moved _ _ _ _ (kinds_same f n) (same_takes f (instruction.Simple simple.NewSubregion)) x
  operands_same f n (instruction.Simple simple.Return) x = moved _ _ _ _ (kinds_same f n) (same_takes f (instruction.Simple simple.Return)) x
  operands_same f n (instruction.Simple simple.PutChar) x = moved _ _ _ _ (kinds_same f n) (same_takes f (instruction.Simple simple.PutChar)) x
  operands_same f n (instruction.Simple simple.GetChar) x = moved _ _ _ _ (kinds_same f n) (same_takes f (instruction.Simple simple.GetChar)) x
  operands_same f n (instruction.Simple simple.Pop) x = (x.0, x.1, sym (kinds_same f n) ∙ x.2)
  operands_same f n (instruction.Delete pins) x = moved _ _ _ _ (kinds_same f n) (same_takes f (instruction.Delete pins)) x
  operands_same f n (instruction.Call g pins) x = moved _ _ _ _ (kinds_same f n) (same_takes f (instruction.Call g pins)) x
  operands_same f n (instruction.Jump jump.Always to) x = moved _ _ _ _ (kinds_same f n) (same_takes f (instruction.Jump jump.Always to)) x
  operands_same f n (instruction.Jump jump.IfZero to) x = moved _ _ _ _ (kinds_same f n) (same_takes f (instruction.Jump jump.IfZero to)) x
  operands_same f n (instruction.Jump jump.Back to) x = moved _ _ _ _ (kinds_same f n) (same_takes f (instruction.Jump jump.Back to)) x

  targets_same : (f : Function) (n : ℕ) (i : Instruction) → Targets (own image).code f n i → Targets image.code f n i
  targets_same f n (instruction.Jump jump.Always to) x = (x.0, x.1, sym (kinds_same f to) ∙ x.2)
  targets_same f n (instruction.Jump jump.IfZero to) x = (x.0, x.1, sym (kinds_same f to) ∙ x.2)
  targets_same f n (instruction.Jump jump.Back to) x = (x.0, x.1, sym (kinds_same f to) ∙ x.2)
  targets_same f n i x = x

  empty_same : (f : Function) (n : ℕ) (i : Instruction) → Empty (own image).code f i (kinds_before (own image).code f n) → Empty image.code f i (kinds_before image.code f n)
  empty_same f n (instruction.Jump jump.Always to) x = sym (kinds_same f n) ∙ x
  empty_same f n (instruction.Jump jump.Back to) x = sym (kinds_same f n) ∙ x
  empty_same f n (instruction.Jump jump.IfZero to) x = ap (λ ks. drop 1 ks) (sym (kinds_same f n)) ∙ x
  empty_same f n (instruction.Simple simple.Return) x = subst (λ ks. Empty image.code f (instruction.Simple simple.Return) ks) (kinds_same f n) x
  empty_same f n i x = x

  function_same : (f : Function) → FunctionIsSound (may_mark (own image).marks) (own image).code f → FunctionIsSound (may_mark image.marks) image.code f
  function_same f sound = record {
    begins = sound.begins;
    fine = λ n i e. let was = sound.fine n i e in record {
      names = names_same f i was.names;
      operands = operands_same f n i was.operands;
      targets = targets_same f n i was.targets;
      empty = empty_same f n i was.empty;
    };
    last = sound.last;
  }

  long_same : (t : ℕ) → length (layout_at (own image).code t) ≡ length (layout_at image.code t)
  long_same t = ap length (own_layout image same_number t) ∙ by (layout_at image.code t)
    where
      by : (l : Layout) → length (map (named_cell image.name) l) ≡ length l
      by [] = refl
      by (k ∷ l) = ap suc (by l)

  storage_same : (p : Path) (cell : ℕ) → storage_of (own image).code (get_or (layout_at (own image).code p.type_number) cell int_cell) ≡ storage_of image.code (get_or (layout_at image.code p.type_number) cell int_cell)
  storage_same p cell = own_storage image same_number (record p { offset = cell })

  path_same : (p : Path) → PathIsSound (own image).code p → PathIsSound image.code p
  path_same p sound = record {
    inside = λ vs long e. subst (λ n. p.offset + cells_chosen (chosen_values p.indices vs) < n) (long_same p.type_number) (sound.inside vs long e);
    alike = λ vs long e. sym (storage_same p (p.offset + cells_chosen (chosen_values p.indices vs))) ∙ sound.alike vs long e ∙ storage_same p p.offset;
    noted = λ vs long e. sym (note_same p.type_number (p.offset + cells_chosen (chosen_values p.indices vs))) ∙ sound.noted vs long e ∙ note_same p.type_number p.offset;
  }

  pub view_is_sound : ImageIsSound (own image) → ImageIsSound image
  view_is_sound sound = record {
    rules = record {
      functions = λ f there. function_same (function_at image.code f) (sound.rules.functions f there);
      main_takes = sound.rules.main_takes;
      main_gives = sound.rules.main_gives;
    };
    paths = λ p there. path_same (path_at image.code p) (sound.paths p there);
    parameters = sound.parameters;
    main = sound.main;
  }

  -- the image that a loader accepts, over the store, does what the same code does over the source's world with the source's layouts
  pub image_runs : ImageIsSound (own image) → (w : World) → Good image w → (Excused image (run_main (watched image) image.code w) → ⊥) → run_main stored (own image).code (model image.name w) ≡ mapped image (run_main (watched image) image.code w)
  image_runs sound w good none = sym (same_run image same_number (model image.name w)) ∙ exact image (view_is_sound sound) w good none
