-- The image of sayable code keeps the rules of images: instruction by instruction.
use Rattle.std.proofs.Common.{◌≡◌, ◌<◌, ◌≤◌, ℕ, zero, suc, ◌+◌, Bool, true, false, List, [], ◌∷◌, ◌++◌, length, map, take, drop, reverse, get_or, if◌then◌else◌, Option, Some, None, refl, sym, ap, ◌∙◌, subst, arith, append_assoc, length-append}
use Rattle.std.proofs.lemmas.Bool.{false≢true}
use Rattle.std.proofs.lemmas.List.{reverse-append}
use Rattle.std.specs.Prelude.{not, nat_lt, ◌&&◌, IsTrue, IsSome, slice_get}
use Rattle.std.specs.Option.{option_map}
use Rattle.std.specs.List.{AllByRecursion as Every}
use Rattle.rc_core.specs.declared.ty.NumberType.TheVariants.{Int, Unsigned, Char}
use Rattle.rc_core.specs.declared.ty.Signedness.{Signedness}
use Rattle.rc_core.specs.declared.ty.Signedness.TheVariants.{Signed, Unsigned as Wrapping}
use Rattle.rc_core.specs.Types.{Ty, int, unsigned, char, region, struct, pointer, int_cell}
use Rattle.rc_core.specs.Layout.{Layout, cells}
use Rattle.rc_core.specs.Typing.{arithmetic, value_type, is_struct, is_shift, is_comparison}
use Rattle.rc_core.specs.Programs.{Global}
use Rattle.rc_rlang.specs.RegionCode.{Kind as Sort, numeric, regional, Access, Routine, Rlang}
use Rattle.rc_rlang.specs.RegionCode as Region
use Rattle.rc_rlang.specs.RegionFits.{place_types, shift_types, index_types, pushed, dropped}
use Rattle.rc_rlang.specs.RegionKinds.{kind_ty, result_kind}
use Rattle.rc_rlang.specs.RegionNames.{object_type, given_type, routine_type, result_type}
use Rattle.rc_emission.specs.StackCode.{Line}
use Rattle.rc_emission.specs.StackCode as From
use Rattle.rc_emission.specs.KeptOperands.{same_type, slots_of}
use Rattle.rc_stack_rules.specs.LoaderRules.{kinds, right_kind, converted_from, local_kind, wants, Pins}
use Rattle.rc_stack_rules.specs.LoaderRules as Stack
use Rattle.rc_stack_rules.specs.Loadable.{all_locals}
use Rattle.rc_stack_rules.specs.Named.{Named}
use Rattle.rc_code.specs.declared.kind.Storage.TheVariants as storage
use Rattle.rc_code.specs.declared.image.Function.{Function}
use Rattle.rc_code.specs.declared.image.Index.{Index}
use Rattle.rc_code.specs.declared.image.Path.{Path}
use Rattle.rc_code.specs.Running.{Reading, reading_of, layout_of, cell_kind, pointee, layout_at, function_at, storage_by}
use Rattle.rc_code.specs.Soundness.{Kind, numbers, pointers, operand_kind, shift_kinds, place_kinds, reached_kind, parameter_kinds, result_kinds, no_global, global_at, local_in, takes, gives, count_off, after, Operands, Names, is_regional, IsPin, increase, ArePins}
use Rattle.rc_code.proofs.Kinding.{arithmetic_gives, arithmetic_takes, constant_gives, constant_takes, operation_takes, result_sign}
use Rattle.rc_numbering.specs.Tables.{IsIn}
use Rattle.rc_numbering.specs.Names.{types_of, instruction_names, same_path, path_of, paths_of, index_of, instruction_paths, stack_of}
use Rattle.rc_numbering.specs.Numbered.{word_of, row_of, unary_row, cell_of, storage_of, numbered, function_of, global_of, string_of, type_in, path_in, layouts_in, image_of}
use Rattle.rc_numbering.specs.Sayable.{cell_for, AccessFits, IsCalled, result_in, Sayable, result_types}
use Rattle.rc_numbering.proofs.Same.{dropped_pushed}
use Rattle.rc_numbering.proofs.Tabled.{get_mapped}
use Rattle.rc_numbering.proofs.Rights.{row_there, unary_there, layout_found, path_found, function_found}

-- ---- lists

map_append : {A B : Type 0} (g : A → B) (xs ys : List A) → map g (xs ++ ys) ≡ map g xs ++ map g ys
map_append g [] ys = refl
map_append g (x ∷ xs) ys = ap (λ zs. g x ∷ zs) (map_append g xs ys)

map_map : {A B C : Type 0} (g : B → C) (h : A → B) (xs : List A) → map g (map h xs) ≡ map (λ x. g (h x)) xs
map_map g h [] = refl
map_map g h (x ∷ xs) = ap (λ zs. g (h x) ∷ zs) (map_map g h xs)

pub length_mapped : {A B : Type 0} (g : A → B) (xs : List A) → length (map g xs) ≡ length xs
length_mapped g [] = refl
length_mapped g (x ∷ xs) = ap suc (length_mapped g xs)

take_mapped : {A B : Type 0} (g : A → B) (n : ℕ) (xs : List A) → take n (map g xs) ≡ map g (take n xs)
take_mapped g zero xs = refl
take_mapped g (suc n) [] = refl
take_mapped g (suc n) (x ∷ xs) = ap (λ zs. g x ∷ zs) (take_mapped g n xs)

take_front : {A : Type 0} (xs ys : List A) (n : ℕ) → n ≤ length xs → take n (xs ++ ys) ≡ take n xs
take_front xs ys zero le = refl
take_front [] ys (suc n) le = absurd (omega (arith, le))
take_front (x ∷ xs) ys (suc n) le = ap (λ zs. x ∷ zs) (take_front xs ys n (omega (arith, le)))

drop_length : {A : Type 0} (xs ys : List A) → drop (length xs) (xs ++ ys) ≡ ys
drop_length [] ys = refl
drop_length (x ∷ xs) ys = drop_length xs ys

get_past : {A : Type 0} (xs ys : List A) (n : ℕ) (x : A) → get_or (xs ++ ys) (length xs + n) x ≡ get_or ys n x
get_past [] ys n x = let e : 0 + n ≡ n = omega arith in ap (λ k. get_or ys k x) e
get_past (y ∷ xs) ys n x = let e : length (y ∷ xs) + n ≡ suc (length xs + n) = omega arith in ap (λ k. get_or (y ∷ (xs ++ ys)) k x) e ∙ get_past xs ys n x

pushed_mapped : (g : Ty → Kind) (xs below : List Ty) → map g (pushed xs below) ≡ reverse (map g xs) ++ map g below
pushed_mapped g [] below = refl
pushed_mapped g (x ∷ xs) below =
    pushed_mapped g xs (x ∷ below)
    ∙ sym (append_assoc (reverse (map g xs)) (g x ∷ []) (map g below))
    ∙ ap (λ zs. zs ++ map g below) (sym (reverse-append (g x ∷ []) (map g xs)))

module _ (r : Rlang) (f : Routine) where
  abbrev pub code : Reading
  code = reading_of (image_of r)

  abbrev pub F : Function
  F = function_of (type_in r) (path_in r) (stack_of r f) f

  abbrev pub K : Ty → Kind
  K t = operand_kind (storage_of (type_in r) (path_in r) t)

  abbrev pub TypeIn : Ty → Type 0
  TypeIn t = IsIn same_type (types_of r) t

  abbrev pub PathIn : Path → Type 0
  PathIn p = IsIn same_path (paths_of (type_in r) r) p

  K_kind : (t : Ty) → K (kind_ty t) ≡ K t
  K_kind int = refl
  K_kind unsigned = refl
  K_kind char = refl
  K_kind region = refl
  K_kind (struct k) = refl
  K_kind (pointer note target) = refl

  K_value : (t : Ty) → K (value_type t) ≡ K t
  K_value int = refl
  K_value unsigned = refl
  K_value char = refl
  K_value region = refl
  K_value (struct k) = refl
  K_value (pointer note target) = refl

  K_kinds : (tys : List Ty) → map K (kinds tys) ≡ map K tys
  K_kinds [] = refl
  K_kinds (t ∷ tys) = ap (λ k. k ∷ map K (kinds tys)) (K_kind t) ∙ ap (λ ks. K t ∷ ks) (K_kinds tys)

  K_number : (s : Signedness) → K (arithmetic s) ≡ numbers s
  K_number Signed = refl
  K_number Wrapping = refl

  -- ---- what numbers name

  object_there : (g : ℕ) → g < length r.globals + length r.strings → (global_at code g).type_number ≡ type_in r (object_type r g)
  object_there g lt = by r.globals g lt
    where
      strings_there : (ss : List (List ℕ)) (g : ℕ) → g < length ss → (get_or (map (string_of (type_in r) (path_in r)) ss) g no_global).type_number ≡ type_in r (get_or (map (λ (bytes : List ℕ). char) ss) g int)
      strings_there [] g lt = absurd (omega (arith, lt))
      strings_there (s ∷ ss) zero lt = refl
      strings_there (s ∷ ss) (suc g) lt = strings_there ss g (omega (arith, lt))

      by : (gs : List Global) (g : ℕ) → g < length gs + length r.strings
          → (get_or (map (global_of (type_in r) (path_in r)) gs ++ map (string_of (type_in r) (path_in r)) r.strings) g no_global).type_number ≡ type_in r (get_or (map (λ (d : Global). d.ty) gs ++ map (λ (bytes : List ℕ). char) r.strings) g int)
      by [] g lt = strings_there r.strings g (omega (arith, lt))
      by (d ∷ gs) zero lt = refl
      by (d ∷ gs) (suc g) lt = by gs g (omega (arith, lt))

  pub objects_count : length (image_of r).globals ≡ length r.globals + length r.strings
  objects_count =
      length-append (map (global_of (type_in r) (path_in r)) r.globals) (map (string_of (type_in r) (path_in r)) r.strings)
      ∙ (let a = length_mapped (global_of (type_in r) (path_in r)) r.globals in let b = length_mapped (string_of (type_in r) (path_in r)) r.strings in omega (arith, a, b))

  local_there : (x : ℕ) → x < length (all_locals f) → operand_kind (local_in F x) ≡ K (local_kind (all_locals f) (object_type r) (result_type r) x)
  local_there x lt = ap operand_kind (get_mapped (storage_of (type_in r) (path_in r)) (all_locals f) x int storage.Region lt) ∙ sym (K_kind (get_or (all_locals f) x int))

  layout_written : (t : Ty) → TypeIn t → layout_at code (type_in r t) ≡ map cell_kind (map (cell_of (type_in r) (path_in r)) (cells r.structs t))
  layout_written t there =
      get_mapped layout_of (image_of r).types (type_in r t) [] [] (let a = length_mapped (map (cell_of (type_in r) (path_in r))) (layouts_in r) in let b = length_mapped (cells r.structs) (types_of r) in omega (arith, a, b, there))
      ∙ ap layout_of (get_mapped (map (cell_of (type_in r) (path_in r))) (layouts_in r) (type_in r t) [] [] (let b = length_mapped (cells r.structs) (types_of r) in omega (arith, b, there)))
      ∙ ap (λ l. layout_of (map (cell_of (type_in r) (path_in r)) l)) (layout_found r t there)

  get_written : (l : Layout) (n : ℕ) → get_or (map cell_kind (map (cell_of (type_in r) (path_in r)) l)) n int_cell ≡ cell_kind (cell_of (type_in r) (path_in r) (get_or l n int_cell))
  get_written [] n = refl
  get_written (k ∷ l) zero = refl
  get_written (k ∷ l) (suc n) = get_written l n

  cell_written : (t : Ty) → IsTrue (not (is_struct t)) → operand_kind (storage_by pointee (cell_kind (cell_of (type_in r) (path_in r) (cell_for t)))) ≡ K t
  cell_written int n = refl
  cell_written unsigned n = refl
  cell_written char n = refl
  cell_written region n = refl
  cell_written (struct k) n = absurd (false≢true n)
  cell_written (pointer note target) n = refl

  reached_there : (a : Access) → TypeIn a.element → AccessFits r.structs a → reached_kind code (path_of (type_in r) a) ≡ K a.cell
  reached_there a there fits =
      ap (λ (l : Layout). operand_kind (storage_by pointee (get_or l a.offset int_cell))) (layout_written a.element there)
      ∙ ap (λ k. operand_kind (storage_by pointee k)) (get_written (cells r.structs a.element) a.offset)
      ∙ ap (λ k. operand_kind (storage_by pointee (cell_kind (cell_of (type_in r) (path_in r) k)))) fits.cell
      ∙ cell_written a.cell fits.one_cell

  place_there : (a : Access) → place_kinds (path_of (type_in r) a) ≡ map K (kinds (place_types a))
  place_there a = ap (λ ks. pointers (type_in r a.element) ∷ ks) (by a.shift)
    where
      indices_there : (is : List Region.Index) → map (λ (i : Index). numbers i.kind) (map index_of is) ≡ map K (kinds (index_types is))
      indices_there [] = refl
      indices_there (i ∷ is) = ap (λ k. k ∷ map (λ (i : Index). numbers i.kind) (map index_of is)) (sym (K_kind (arithmetic i.kind) ∙ K_number i.kind)) ∙ ap (λ ks. K (kind_ty (arithmetic i.kind)) ∷ ks) (indices_there is)

      by : (s : Option Signedness) → shift_kinds s ++ map (λ (i : Index). numbers i.kind) (map index_of a.indices) ≡ map K (kinds (shift_types s ++ index_types a.indices))
      by None = indices_there a.indices
      by (Some s) = ap (λ k. k ∷ map (λ (i : Index). numbers i.kind) (map index_of a.indices)) (sym (K_kind (arithmetic s) ∙ K_number s)) ∙ ap (λ ks. K (kind_ty (arithmetic s)) ∷ ks) (indices_there a.indices)

  parameters_there : (g : ℕ) (tys : List Ty) → IsCalled r g tys → parameter_kinds (function_at code g) ≡ map K (kinds tys)
  parameters_there g tys c =
      ap parameter_kinds (function_found r g c.routine c.there)
      ∙ ap (map operand_kind) (take_mapped (storage_of (type_in r) (path_in r)) c.routine.parameters (all_locals c.routine))
      ∙ map_map operand_kind (storage_of (type_in r) (path_in r)) (take c.routine.parameters (all_locals c.routine))
      ∙ ap (map K) (take_front c.routine.locals (slots_of c.routine).types c.routine.parameters c.few ∙ sym c.parameters_are)
      ∙ sym (K_kinds tys)

  result_there : (g : ℕ) (tys : List Ty) → IsCalled r g tys → IsSome (result_in r g) → result_kinds (function_at code g).result ≡ K (kind_ty (result_type r g)) ∷ []
  result_there g tys c some =
      ap (λ (h : Function). result_kinds h.result) (function_found r g c.routine c.there) ∙ by c.routine.result (subst IsSome (ap result_given c.there) some) ∙ ap (λ o. K (kind_ty (routine_type o)) ∷ []) (sym c.there)
    where
      result_given : Option Routine → Option Ty
      result_given None = None
      result_given (Some h) = h.result

      by : (o : Option Ty) → IsSome o → result_kinds (option_map (storage_of (type_in r) (path_in r)) o) ≡ K (kind_ty (given_type o)) ∷ []
      by None e = absurd (cc e)
      by (Some t) e = ap (λ k. k ∷ []) (sym (K_kind (value_type t) ∙ K_value t))

  nothing_there : (g : ℕ) (tys : List Ty) → IsCalled r g tys → result_in r g ≡ None → result_kinds (function_at code g).result ≡ []
  nothing_there g tys c none = ap (λ (h : Function). result_kinds h.result) (function_found r g c.routine c.there) ∙ by c.routine.result (sym (ap result_given c.there) ∙ none)
    where
      result_given : Option Routine → Option Ty
      result_given None = None
      result_given (Some h) = h.result

      by : (o : Option Ty) → o ≡ None → result_kinds (option_map (storage_of (type_in r) (path_in r)) o) ≡ []
      by None e = refl
      by (Some t) e = absurd (cc e)

  own_result : (o : Option Ty) → result_kinds (option_map (storage_of (type_in r) (path_in r)) o) ≡ reverse (map K (kinds (result_types o)))
  own_result None = refl
  own_result (Some t) = ap (λ k. k ∷ []) (sym (K_kind t))

  -- ---- pins

  regional_there : (t : Ty) → Region.kind_of t ≡ regional → is_regional (storage_of (type_in r) (path_in r) t) ≡ true
  regional_there int e = absurd (cc e)
  regional_there unsigned e = absurd (cc e)
  regional_there char e = absurd (cc e)
  regional_there region e = refl
  regional_there (struct k) e = absurd (cc e)
  regional_there (pointer note target) e = refl

  get_front : (xs ys : List Ty) (x : ℕ) → x < length xs → get_or (xs ++ ys) x int ≡ get_or xs x int
  get_front [] ys x lt = absurd (omega (arith, lt))
  get_front (t ∷ xs) ys zero lt = refl
  get_front (t ∷ xs) ys (suc x) lt = get_front xs ys x (omega (arith, lt))

  locals_count : length F.locals ≡ length (all_locals f)
  locals_count = length_mapped (storage_of (type_in r) (path_in r)) (all_locals f)

  pin_there : (x : ℕ) → x < length f.locals → Region.kind_of (get_or f.locals x int) ≡ regional → IsPin F x
  pin_there x lt e =
      let l = length-append f.locals (slots_of f).types in
      let inside : x < length (all_locals f) = omega (arith, lt, l) in
      let c = locals_count in (
        omega (arith, inside, c),
        ap is_regional (get_mapped (storage_of (type_in r) (path_in r)) (all_locals f) x int storage.Region inside)
            ∙ ap (λ t. is_regional (storage_of (type_in r) (path_in r) t)) (get_front f.locals (slots_of f).types x lt)
            ∙ regional_there (get_or f.locals x int) e,
      )

  pins_there : (x : ℕ) (pins : List ℕ) → Pins f.locals x pins → Every (IsPin F) pins
  pins_there x [] p = tt
  pins_there x (y ∷ ys) p = (pin_there y p.1 p.2, pins_there (suc y) ys p.3)

  pins_increase : (x : ℕ) (pins : List ℕ) → Pins f.locals x pins → increase pins ≡ true
  pins_increase x [] p = refl
  pins_increase x (y ∷ []) p = refl
  pins_increase x (y ∷ z ∷ ys) p = let l = p.3.0 in let e : nat_lt y z ≡ true = grind (arith, l) in ap (λ b. b && increase (z ∷ ys)) e ∙ pins_increase (suc y) (z ∷ ys) p.3

  are_pins : (pins : List ℕ) → Pins f.locals 0 pins → ArePins F pins
  are_pins pins p = record { each = pins_there 0 pins p; order = pins_increase 0 pins p }

  -- ---- rows

  abbrev takes_of : From.Instruction → List Ty
  takes_of i = wants (all_locals f) (object_type r) (result_type r) i

  abbrev gives_of : From.Instruction → List Ty
  gives_of i = Stack.gives (all_locals f) (object_type r) (result_type r) i

  -- what the numbered instruction takes and gives is what the stack code's does
  record Row (at : ℕ) (i : From.Instruction) : Type 0 where
    takes_is : takes code F (numbered (type_in r) (path_in r) at i) ≡ reverse (map K (takes_of i))
    gives_is : gives code F (numbered (type_in r) (path_in r) at i) ≡ reverse (map K (gives_of i))
    count_is : count_off code F (numbered (type_in r) (path_in r) at i) ≡ length (takes code F (numbered (type_in r) (path_in r) at i))
    operands : (ks below : List Kind) → ks ≡ takes code F (numbered (type_in r) (path_in r) at i) ++ below → Operands code F (numbered (type_in r) (path_in r) at i) ks
    names : Names false code F (numbered (type_in r) (path_in r) at i)

  abbrev is_pop : From.Instruction → Bool
  is_pop (From.number s n) = false
  is_pop (From.null ty) = false
  is_pop (From.global g) = false
  is_pop (From.get x) = false
  is_pop (From.set x ty) = false
  is_pop (From.arithmetic o s) = false
  is_pop (From.unary o s) = false
  is_pop From.zero_test = false
  is_pop (From.null_test ty) = false
  is_pop (From.same ty) = false
  is_pop (From.convert to) = false
  is_pop (From.move ty s direction) = false
  is_pop (From.load a) = false
  is_pop (From.store a) = false
  is_pop From.new_region = false
  is_pop From.new_subregion = false
  is_pop (From.region_of ty) = false
  is_pop (From.allocate ty layout) = false
  is_pop (From.allocate_array ty layout) = false
  is_pop (From.delete pins) = false
  is_pop (From.call g tys pins) = false
  is_pop (From.perform g tys pins) = false
  is_pop (From.leave tys) = false
  is_pop From.putchar = false
  is_pop From.getchar = false
  is_pop (From.jump n) = false
  is_pop (From.jump_zero n) = false
  is_pop (From.back to) = false
  is_pop From.pop = true

  right_there : (b : Bool) (s : Signedness) → (if b then numbers Signed else numbers s) ≡ K (right_kind b s)
  right_there true s = refl
  right_there false s = sym (K_number s)

  result_sign_there : (b : Bool) (s : Signedness) → numbers (if b then Signed else s) ≡ K (result_kind b s)
  result_sign_there true s = refl
  result_sign_there false s = sym (K_number s)

  type_count : length code.layouts ≡ length (types_of r)
  type_count = length_mapped layout_of (image_of r).types ∙ length_mapped (map (cell_of (type_in r) (path_in r))) (layouts_in r) ∙ length_mapped (cells r.structs) (types_of r)

  type_there : (t : Ty) → TypeIn t → type_in r t < length code.layouts
  type_there t there = let c = type_count in omega (arith, c, there)

  routine_below : (rs : List Routine) (g : ℕ) (h : Routine) → slice_get rs g ≡ Some h → g < length rs
  routine_below [] g h e = absurd (cc e)
  routine_below (x ∷ rs) zero h e = omega arith
  routine_below (x ∷ rs) (suc g) h e = let l = routine_below rs g h e in omega (arith, l)

  function_there : (g : ℕ) (tys : List Ty) → IsCalled r g tys → g < length (image_of r).functions
  function_there g tys c = let a = routine_below r.functions g c.routine c.there in let b = length_mapped (λ h. function_of (type_in r) (path_in r) (stack_of r h) h) r.functions in omega (arith, a, b)

  abbrev pub NamedHere : From.Instruction → Type 0
  NamedHere i = Named f.locals (length (all_locals f)) i

  row : (at : ℕ) (i : From.Instruction) (deleting : ℕ → Bool) → IsTrue (not (is_pop i)) → Sayable r f deleting i → NamedHere i → Every TypeIn (instruction_names i) → Every PathIn (instruction_paths (type_in r) i) → Row at i
  row at (From.number s n) deleting other said named types paths = record { takes_is = constant_takes code F s (word_of n); gives_is = constant_gives code F s (word_of n) ∙ ap (λ k. k ∷ []) (sym (K_number s)); count_is = refl; operands = λ ks below e. (below, e); names = tt }
  row at (From.null int) deleting other said named types paths = absurd (cc said.1)
  row at (From.null unsigned) deleting other said named types paths = absurd (cc said.1)
  row at (From.null char) deleting other said named types paths = absurd (cc said.1)
  row at (From.null region) deleting other said named types paths = record { takes_is = refl; gives_is = refl; count_is = refl; operands = λ ks below e. (below, e); names = tt }
  row at (From.null (struct k)) deleting other said named types paths = record { takes_is = refl; gives_is = refl; count_is = refl; operands = λ ks below e. (below, e); names = tt }
  row at (From.null (pointer note target)) deleting other said named types paths = record { takes_is = refl; gives_is = refl; count_is = refl; operands = λ ks below e. (below, e); names = type_there target types.0 }
  row at (From.global g) deleting other said named types paths = record { takes_is = refl; gives_is = ap (λ k. pointers k ∷ []) (object_there g said); count_is = refl; operands = λ ks below e. (below, e); names = (let c = objects_count in omega (arith, said, c)) }
  row at (From.get x) deleting other said named types paths = record { takes_is = refl; gives_is = ap (λ k. k ∷ []) (local_there x named); count_is = refl; operands = λ ks below e. (below, e); names = (let c = locals_count in omega (arith, named, c)) }
  row at (From.set x ty) deleting other said named types paths = record { takes_is = ap (λ k. k ∷ []) (local_there x named); gives_is = refl; count_is = refl; operands = λ ks below e. (below, e); names = (let c = locals_count in omega (arith, named, c)) }
  row at (From.arithmetic o s) deleting other said named types paths = record { takes_is = arithmetic_takes code F (row_of o) s ∙ ap (λ p. operation_takes p s) (row_there o said) ∙ ap (λ k. k ∷ numbers s ∷ []) (right_there (is_shift o) s) ∙ ap (λ k. K (right_kind (is_shift o) s) ∷ k ∷ []) (sym (K_number s)); gives_is = arithmetic_gives code F (row_of o) s ∙ ap (λ p. numbers (result_sign p s) ∷ []) (row_there o said) ∙ ap (λ k. k ∷ []) (result_sign_there (is_comparison o) s); count_is = refl; operands = λ ks below e. (below, e); names = tt }
  row at (From.unary o s) deleting other said named types paths = record { takes_is = arithmetic_takes code F (unary_row o) s ∙ ap (λ p. operation_takes p s) (unary_there o said) ∙ ap (λ k. k ∷ []) (sym (K_number s)); gives_is = arithmetic_gives code F (unary_row o) s ∙ ap (λ p. numbers (result_sign p s) ∷ []) (unary_there o said) ∙ ap (λ k. k ∷ []) (sym (K_number s)); count_is = refl; operands = λ ks below e. (below, e); names = tt }
  row at From.zero_test deleting other said named types paths = record { takes_is = refl; gives_is = refl; count_is = refl; operands = λ ks below e. (below, e); names = tt }
  row at (From.null_test int) deleting other said named types paths = absurd (cc said.1)
  row at (From.null_test unsigned) deleting other said named types paths = absurd (cc said.1)
  row at (From.null_test char) deleting other said named types paths = absurd (cc said.1)
  row at (From.null_test region) deleting other said named types paths = record { takes_is = refl; gives_is = refl; count_is = refl; operands = λ ks below e. (below, e); names = tt }
  row at (From.null_test (struct k)) deleting other said named types paths = record { takes_is = refl; gives_is = refl; count_is = refl; operands = λ ks below e. (below, e); names = tt }
  row at (From.null_test (pointer note target)) deleting other said named types paths = record { takes_is = refl; gives_is = refl; count_is = refl; operands = λ ks below e. (below, e); names = type_there target types.0 }
  row at (From.same int) deleting other said named types paths = absurd (cc said.1)
  row at (From.same unsigned) deleting other said named types paths = absurd (cc said.1)
  row at (From.same char) deleting other said named types paths = absurd (cc said.1)
  row at (From.same region) deleting other said named types paths = record { takes_is = refl; gives_is = refl; count_is = refl; operands = λ ks below e. (below, e); names = tt }
  row at (From.same (struct k)) deleting other said named types paths = record { takes_is = refl; gives_is = refl; count_is = refl; operands = λ ks below e. (below, e); names = tt }
  row at (From.same (pointer note target)) deleting other said named types paths = record { takes_is = refl; gives_is = refl; count_is = refl; operands = λ ks below e. (below, e); names = type_there target types.0 }
  row at (From.convert Int) deleting other said named types paths = record { takes_is = refl; gives_is = refl; count_is = refl; operands = λ ks below e. (below, e); names = tt }
  row at (From.convert Unsigned) deleting other said named types paths = record { takes_is = refl; gives_is = refl; count_is = refl; operands = λ ks below e. (below, e); names = tt }
  row at (From.convert Char) deleting other said named types paths = record { takes_is = refl; gives_is = refl; count_is = refl; operands = λ ks below e. (below, e); names = tt }
  row at (From.move int s direction) deleting other said named types paths = absurd (false≢true said.1)
  row at (From.move unsigned s direction) deleting other said named types paths = absurd (false≢true said.1)
  row at (From.move char s direction) deleting other said named types paths = absurd (false≢true said.1)
  row at (From.move region s direction) deleting other said named types paths = absurd (false≢true said.1)
  row at (From.move (struct k) s direction) deleting other said named types paths = absurd (false≢true said.1)
  row at (From.move (pointer note target) s direction) deleting other said named types paths = record { takes_is = ap (λ k. k ∷ pointers (type_in r target) ∷ []) (sym (K_number s)); gives_is = refl; count_is = refl; operands = λ ks below e. (below, e); names = type_there target types.0 }
  row at (From.load a) deleting other said named types paths = record { takes_is = ap (λ p. reverse (place_kinds p)) (path_found r a paths.0) ∙ ap reverse (place_there a); gives_is = ap (λ p. reached_kind code p ∷ []) (path_found r a paths.0) ∙ ap (λ k. k ∷ []) (reached_there a types.0 said ∙ sym (K_kind a.cell)); count_is = refl; operands = λ ks below e. (below, e); names = paths.0 }
  row at (From.store a) deleting other said named types paths = record { takes_is = ap (λ p. reached_kind code p ∷ reverse (place_kinds p)) (path_found r a paths.0) ∙ ap (λ k. k ∷ reverse (place_kinds (path_of (type_in r) a))) (reached_there a types.0 said ∙ sym (K_kind a.cell)) ∙ ap (λ ks. K (kind_ty a.cell) ∷ reverse ks) (place_there a) ∙ sym (ap reverse (map_append K (kinds (place_types a)) (kind_ty a.cell ∷ [])) ∙ reverse-append (map K (kinds (place_types a))) (K (kind_ty a.cell) ∷ [])); gives_is = refl; count_is = refl; operands = λ ks below e. (below, e); names = (paths.0, λ e. absurd (false≢true e)) }
  row at From.new_region deleting other said named types paths = record { takes_is = refl; gives_is = refl; count_is = refl; operands = λ ks below e. (below, e); names = tt }
  row at From.new_subregion deleting other said named types paths = record { takes_is = refl; gives_is = refl; count_is = refl; operands = λ ks below e. (below, e); names = tt }
  row at (From.region_of int) deleting other said named types paths = absurd (false≢true said.1)
  row at (From.region_of unsigned) deleting other said named types paths = absurd (false≢true said.1)
  row at (From.region_of char) deleting other said named types paths = absurd (false≢true said.1)
  row at (From.region_of region) deleting other said named types paths = absurd (false≢true said.1)
  row at (From.region_of (struct k)) deleting other said named types paths = absurd (false≢true said.1)
  row at (From.region_of (pointer note target)) deleting other said named types paths = record { takes_is = refl; gives_is = refl; count_is = refl; operands = λ ks below e. (below, e); names = type_there target types.0 }
  row at (From.allocate ty layout) deleting other said named types paths = record { takes_is = refl; gives_is = refl; count_is = refl; operands = λ ks below e. (below, e); names = type_there ty types.0 }
  row at (From.allocate_array ty layout) deleting other said named types paths = record { takes_is = refl; gives_is = refl; count_is = refl; operands = λ ks below e. (below, e); names = type_there ty types.0 }
  row at (From.delete pins) deleting other said named types paths = record { takes_is = refl; gives_is = refl; count_is = refl; operands = λ ks below e. (below, e); names = are_pins pins named }
  row at (From.call g tys pins) deleting other said named types paths = record { takes_is = ap reverse (parameters_there g tys said.0); gives_is = result_there g tys said.0 said.2; count_is = refl; operands = λ ks below e. (below, e); names = (function_there g tys said.0, are_pins pins named) }
  row at (From.perform g tys pins) deleting other said named types paths = record { takes_is = ap reverse (parameters_there g tys said.0); gives_is = nothing_there g tys said.0 said.2; count_is = refl; operands = λ ks below e. (below, e); names = (function_there g tys said.0, are_pins pins named) }
  row at (From.leave tys) deleting other said named types paths = record { takes_is = own_result f.result ∙ ap (λ ks. reverse (map K ks)) (sym said); gives_is = refl; count_is = refl; operands = λ ks below e. (below, e); names = tt }
  row at From.putchar deleting other said named types paths = record { takes_is = refl; gives_is = refl; count_is = refl; operands = λ ks below e. (below, e); names = tt }
  row at From.getchar deleting other said named types paths = record { takes_is = refl; gives_is = refl; count_is = refl; operands = λ ks below e. (below, e); names = tt }
  row at (From.jump n) deleting other said named types paths = record { takes_is = refl; gives_is = refl; count_is = refl; operands = λ ks below e. (below, e); names = tt }
  row at (From.jump_zero n) deleting other said named types paths = record { takes_is = refl; gives_is = refl; count_is = refl; operands = λ ks below e. (below, e); names = tt }
  row at (From.back to) deleting other said named types paths = record { takes_is = refl; gives_is = refl; count_is = refl; operands = λ ks below e. (below, e); names = tt }
  row at From.pop deleting other said named types paths = absurd (false≢true other)

  -- ---- what stands on the stack

  abbrev pub stack_after : From.Instruction → List Ty → List Ty
  stack_after i ks = Stack.after (all_locals f) (object_type r) (result_type r) i ks

  abbrev pub StackOperands : From.Instruction → List Ty → Type 0
  StackOperands i ks = Stack.Operands (all_locals f) (object_type r) (result_type r) i ks

  pub record Step (at : ℕ) (i : From.Instruction) : Type 0 where
    pub after_is : (ks : List Ty) → StackOperands i ks → after code F (numbered (type_in r) (path_in r) at i) (map K ks) ≡ map K (stack_after i ks)
    pub operands : (ks : List Ty) → StackOperands i ks → Operands code F (numbered (type_in r) (path_in r) at i) (map K ks)
    pub names : Names false code F (numbered (type_in r) (path_in r) at i)

  by_row : (at : ℕ) (i : From.Instruction) → Row at i → (ks below : List Ty) → ks ≡ pushed (takes_of i) below
      → (after code F (numbered (type_in r) (path_in r) at i) (map K ks) ≡ map K (pushed (gives_of i) (dropped (length (takes_of i)) ks))) × Operands code F (numbered (type_in r) (path_in r) at i) (map K ks)
  by_row at i row ks below e =
      let there : map K ks ≡ takes code F (numbered (type_in r) (path_in r) at i) ++ map K below = ap (map K) e ∙ pushed_mapped K (takes_of i) below ∙ ap (λ us. us ++ map K below) (sym row.takes_is) in (
        ap (λ n. gives code F (numbered (type_in r) (path_in r) at i) ++ drop n (map K ks)) row.count_is
            ∙ ap (λ us. gives code F (numbered (type_in r) (path_in r) at i) ++ drop (length (takes code F (numbered (type_in r) (path_in r) at i))) us) there
            ∙ ap (λ us. gives code F (numbered (type_in r) (path_in r) at i) ++ us) (drop_length (takes code F (numbered (type_in r) (path_in r) at i)) (map K below))
            ∙ ap (λ us. us ++ map K below) row.gives_is
            ∙ sym (pushed_mapped K (gives_of i) below)
            ∙ ap (λ us. map K (pushed (gives_of i) us)) (sym (ap (dropped (length (takes_of i))) e ∙ dropped_pushed (takes_of i) below)),
        row.operands (map K ks) (map K below) there,
      )

  pub step : (at : ℕ) (i : From.Instruction) (deleting : ℕ → Bool) → Sayable r f deleting i → NamedHere i → Every TypeIn (instruction_names i) → Every PathIn (instruction_paths (type_in r) i) → Step at i
  step at (From.number s n) deleting said named types paths = let w = row at (From.number s n) deleting refl said named types paths in record { after_is = λ ks there. (by_row at (From.number s n) w ks there.0 there.1).0; operands = λ ks there. (by_row at (From.number s n) w ks there.0 there.1).1; names = w.names }
  step at (From.null ty) deleting said named types paths = let w = row at (From.null ty) deleting refl said named types paths in record { after_is = λ ks there. (by_row at (From.null ty) w ks there.0 there.1).0; operands = λ ks there. (by_row at (From.null ty) w ks there.0 there.1).1; names = w.names }
  step at (From.global g) deleting said named types paths = let w = row at (From.global g) deleting refl said named types paths in record { after_is = λ ks there. (by_row at (From.global g) w ks there.0 there.1).0; operands = λ ks there. (by_row at (From.global g) w ks there.0 there.1).1; names = w.names }
  step at (From.get x) deleting said named types paths = let w = row at (From.get x) deleting refl said named types paths in record { after_is = λ ks there. (by_row at (From.get x) w ks there.0 there.1).0; operands = λ ks there. (by_row at (From.get x) w ks there.0 there.1).1; names = w.names }
  step at (From.set x ty) deleting said named types paths = let w = row at (From.set x ty) deleting refl said named types paths in record { after_is = λ ks there. (by_row at (From.set x ty) w ks there.0 there.1).0; operands = λ ks there. (by_row at (From.set x ty) w ks there.0 there.1).1; names = w.names }
  step at (From.arithmetic o s) deleting said named types paths = let w = row at (From.arithmetic o s) deleting refl said named types paths in record { after_is = λ ks there. (by_row at (From.arithmetic o s) w ks there.0 there.1).0; operands = λ ks there. (by_row at (From.arithmetic o s) w ks there.0 there.1).1; names = w.names }
  step at (From.unary o s) deleting said named types paths = let w = row at (From.unary o s) deleting refl said named types paths in record { after_is = λ ks there. (by_row at (From.unary o s) w ks there.0 there.1).0; operands = λ ks there. (by_row at (From.unary o s) w ks there.0 there.1).1; names = w.names }
  step at From.zero_test deleting said named types paths = let w = row at From.zero_test deleting refl said named types paths in record { after_is = λ ks there. (by_row at From.zero_test w ks there.0 there.1).0; operands = λ ks there. (by_row at From.zero_test w ks there.0 there.1).1; names = w.names }
  step at (From.null_test ty) deleting said named types paths = let w = row at (From.null_test ty) deleting refl said named types paths in record { after_is = λ ks there. (by_row at (From.null_test ty) w ks there.0 there.1).0; operands = λ ks there. (by_row at (From.null_test ty) w ks there.0 there.1).1; names = w.names }
  step at (From.same ty) deleting said named types paths = let w = row at (From.same ty) deleting refl said named types paths in record { after_is = λ ks there. (by_row at (From.same ty) w ks there.0 there.1).0; operands = λ ks there. (by_row at (From.same ty) w ks there.0 there.1).1; names = w.names }
  step at (From.convert to) deleting said named types paths = let w = row at (From.convert to) deleting refl said named types paths in record { after_is = λ ks there. (by_row at (From.convert to) w ks there.0 there.1).0; operands = λ ks there. (by_row at (From.convert to) w ks there.0 there.1).1; names = w.names }
  step at (From.move ty s direction) deleting said named types paths = let w = row at (From.move ty s direction) deleting refl said named types paths in record { after_is = λ ks there. (by_row at (From.move ty s direction) w ks there.0 there.1).0; operands = λ ks there. (by_row at (From.move ty s direction) w ks there.0 there.1).1; names = w.names }
  step at (From.load a) deleting said named types paths = let w = row at (From.load a) deleting refl said named types paths in record { after_is = λ ks there. (by_row at (From.load a) w ks there.0 there.1).0; operands = λ ks there. (by_row at (From.load a) w ks there.0 there.1).1; names = w.names }
  step at (From.store a) deleting said named types paths = let w = row at (From.store a) deleting refl said named types paths in record { after_is = λ ks there. (by_row at (From.store a) w ks there.0 there.1).0; operands = λ ks there. (by_row at (From.store a) w ks there.0 there.1).1; names = w.names }
  step at From.new_region deleting said named types paths = let w = row at From.new_region deleting refl said named types paths in record { after_is = λ ks there. (by_row at From.new_region w ks there.0 there.1).0; operands = λ ks there. (by_row at From.new_region w ks there.0 there.1).1; names = w.names }
  step at From.new_subregion deleting said named types paths = let w = row at From.new_subregion deleting refl said named types paths in record { after_is = λ ks there. (by_row at From.new_subregion w ks there.0 there.1).0; operands = λ ks there. (by_row at From.new_subregion w ks there.0 there.1).1; names = w.names }
  step at (From.region_of ty) deleting said named types paths = let w = row at (From.region_of ty) deleting refl said named types paths in record { after_is = λ ks there. (by_row at (From.region_of ty) w ks there.0 there.1).0; operands = λ ks there. (by_row at (From.region_of ty) w ks there.0 there.1).1; names = w.names }
  step at (From.allocate ty layout) deleting said named types paths = let w = row at (From.allocate ty layout) deleting refl said named types paths in record { after_is = λ ks there. (by_row at (From.allocate ty layout) w ks there.0 there.1).0; operands = λ ks there. (by_row at (From.allocate ty layout) w ks there.0 there.1).1; names = w.names }
  step at (From.allocate_array ty layout) deleting said named types paths = let w = row at (From.allocate_array ty layout) deleting refl said named types paths in record { after_is = λ ks there. (by_row at (From.allocate_array ty layout) w ks there.0 there.1).0; operands = λ ks there. (by_row at (From.allocate_array ty layout) w ks there.0 there.1).1; names = w.names }
  step at (From.delete pins) deleting said named types paths = let w = row at (From.delete pins) deleting refl said named types paths in record { after_is = λ ks there. (by_row at (From.delete pins) w ks there.0 there.1).0; operands = λ ks there. (by_row at (From.delete pins) w ks there.0 there.1).1; names = w.names }
  step at (From.call g tys pins) deleting said named types paths = let w = row at (From.call g tys pins) deleting refl said named types paths in record { after_is = λ ks there. (by_row at (From.call g tys pins) w ks there.0 there.1).0; operands = λ ks there. (by_row at (From.call g tys pins) w ks there.0 there.1).1; names = w.names }
  step at (From.perform g tys pins) deleting said named types paths = let w = row at (From.perform g tys pins) deleting refl said named types paths in record { after_is = λ ks there. (by_row at (From.perform g tys pins) w ks there.0 there.1).0; operands = λ ks there. (by_row at (From.perform g tys pins) w ks there.0 there.1).1; names = w.names }
  step at (From.leave tys) deleting said named types paths = let w = row at (From.leave tys) deleting refl said named types paths in record { after_is = λ ks there. (by_row at (From.leave tys) w ks there.0 there.1).0; operands = λ ks there. (by_row at (From.leave tys) w ks there.0 there.1).1; names = w.names }
  step at From.putchar deleting said named types paths = let w = row at From.putchar deleting refl said named types paths in record { after_is = λ ks there. (by_row at From.putchar w ks there.0 there.1).0; operands = λ ks there. (by_row at From.putchar w ks there.0 there.1).1; names = w.names }
  step at From.getchar deleting said named types paths = let w = row at From.getchar deleting refl said named types paths in record { after_is = λ ks there. (by_row at From.getchar w ks there.0 there.1).0; operands = λ ks there. (by_row at From.getchar w ks there.0 there.1).1; names = w.names }
  step at (From.jump n) deleting said named types paths = let w = row at (From.jump n) deleting refl said named types paths in record { after_is = λ ks there. (by_row at (From.jump n) w ks there.0 there.1).0; operands = λ ks there. (by_row at (From.jump n) w ks there.0 there.1).1; names = w.names }
  step at (From.jump_zero n) deleting said named types paths = let w = row at (From.jump_zero n) deleting refl said named types paths in record { after_is = λ ks there. (by_row at (From.jump_zero n) w ks there.0 there.1).0; operands = λ ks there. (by_row at (From.jump_zero n) w ks there.0 there.1).1; names = w.names }
  step at (From.back to) deleting said named types paths = let w = row at (From.back to) deleting refl said named types paths in record { after_is = λ ks there. (by_row at (From.back to) w ks there.0 there.1).0; operands = λ ks there. (by_row at (From.back to) w ks there.0 there.1).1; names = w.names }
  step at From.pop deleting said named types paths = record { after_is = λ ks o. popped ks; operands = λ ks o. one_there ks o.0 o.1 o.2 o.3; names = tt }
    where
      popped : (ks : List Ty) → drop 1 (map K ks) ≡ map K (dropped 1 ks)
      popped [] = refl
      popped (k ∷ ks) = refl

      one_there : (ks top below : List Ty) → ks ≡ top ++ below → length top ≡ 1 → (kind : Kind) × (rest : List Kind) × (map K ks ≡ kind ∷ rest)
      one_there [] [] below e l = absurd (omega (arith, l))
      one_there [] (t ∷ top) below e l = absurd (cc e)
      one_there (k ∷ ks) top below e l = (K k, map K ks, refl)
