-- The fields of the image of region code keep their rules.
use Rattle.std.proofs.Common.{◌≡◌, ◌<◌, ◌≤◌, ℕ, zero, suc, ◌+◌, ◌-◌, ◌*◌, ◌%◌, ℤ, pos, negsuc, Bool, true, false, not, ◌&&◌, nat_lt, List, [], ◌∷◌, ◌++◌, length, map, flat_map, drop, get_or, if◌then◌else◌, Option, Some, None, refl, sym, ap, ◌∙◌, subst, arith, rules, length-append}
use Rattle.std.proofs.lemmas.Bool.{false≢true}
use Rattle.std.proofs.Math.Nat.{mod-lt, mod-eq_of_lt}
use Rattle.std.specs.Prelude.{IsTrue, slice_get, sum}
use Rattle.std.proofs.lemmas.List.Sums.{sum-map, sum_by-cons}
use Rattle.std.specs.Option.{option_map}
use Rattle.std.specs.List.{AllByRecursion as Every}
use Rattle.rc_base.specs.Limits.{most_string_bytes}
use Rattle.rc_core.specs.declared.ty.NumberType.TheVariants.{Int, Char}
use Rattle.rc_core.specs.declared.ty.Signedness.{Signedness}
use Rattle.rc_core.specs.declared.ty.Signedness.TheVariants.{Signed, Unsigned as Wrapping}
use Rattle.rc_core.specs.declared.operators.Direction.{Direction}
use Rattle.rc_core.specs.declared.operators.Direction.TheVariants.{Forward, Backward}
use Rattle.rc_core.specs.Types.{Ty, int, unsigned, char, region, struct, pointer, CellKind, int_cell, unsigned_cell, char_cell, region_cell, pointer_cell}
use Rattle.rc_core.specs.Layout.{Layout, cells, size}
use Rattle.rc_core.specs.Typing.{fits}
use Rattle.rc_core.specs.Programs.{Global}
use Rattle.rc_core.specs.WellTyped.{IsInitial, GlobalFits as SourceGlobalFits, elements, global_size}
use Rattle.rc_kinds.proofs.InRange.{less_is}
use Rattle.rc_safety.proofs.Lists.{every_append}
use Rattle.rc_rlang.specs.RegionCode.{Access, Routine, Rlang}
use Rattle.rc_rlang.specs.IsRlang.{IsRlang}
use Rattle.rc_rlang.specs.RegionRuns.{deletes}
use Rattle.rc_translation.proofs.Defined.{every_of}
use Rattle.rc_emission.specs.StackCode.{Line}
use Rattle.rc_emission.specs.StackCode as From
use Rattle.rc_emission.specs.KeptOperands.{same_type, slots_of}
use Rattle.rc_stack_rules.specs.Loadable.{all_locals}
use Rattle.rc_code.specs.declared.kind.Cell.{Cell}
use Rattle.rc_code.specs.declared.kind.Cell.TheVariants as cell
use Rattle.rc_code.specs.declared.opcode.Jump.TheVariants as jump
use Rattle.rc_code.specs.declared.instruction.Instruction.{Instruction}
use Rattle.rc_code.specs.declared.instruction.Instruction.TheVariants as instruction
use Rattle.rc_code.specs.declared.image.Global.{Global as ImageGlobal}
use Rattle.rc_code.specs.declared.image.Index.{Index}
use Rattle.rc_code.specs.declared.image.Path.{Path}
use Rattle.rc_code.specs.declared.image.Function.{Function}
use Rattle.rc_code.specs.Kinds.{same_cell}
use Rattle.rc_code.specs.Image.{IsNumber, kind_number, direction_number, InstructionFits, CellFits, TypeFits, StorageFits, ResultFits, cells_at, bound_of, InitialFits, GlobalFits, PathFits, FunctionFits, FieldsFit}
use Rattle.rc_code.proofs.OneKind.{fits_by_tests}
use Rattle.rc_code.specs.Reached.{is_reached, is_alike, are_alike, has_one_kind}
use Rattle.rc_code.specs.Soundness.{IsPin, increase, IsFine}
use Rattle.rc_numbering.specs.Tables.{IsIn}
use Rattle.rc_numbering.specs.Names.{pointed_to, with_pointed, result_names, instruction_names, code_names, types_named, same_path, index_of, path_of, paths_of, instruction_paths, code_paths, stack_of, types_of}
use Rattle.rc_numbering.specs.Numbered.{word_of, cell_of, storage_of, numbered, numbered_from, function_of, initial_of, global_of, string_of, type_in, path_in, layouts_in, image_of}
use Rattle.rc_numbering.specs.Sayable.{AccessFits, Sayable, AllSayable}
use Rattle.rc_numbering.specs.Means.{IsNumberable}
use Rattle.rc_numbering.proofs.Tabled.{path_self, every_entry, every_before, every_behind, every_of_one, get_mapped}
use Rattle.rc_numbering.proofs.Rights.{layout_found}
use Rattle.rc_translation.proofs.Nesting.{some_cell}
use Rattle.rc_numbering.proofs.Placed.{few_cells}
use Rattle.rc_numbering.proofs.Programs.{routine_in, code_in, function_said}
use Rattle.rc_numbering.specs.Small.{FunctionIsSmall, IsSmall}
use Rattle.rc_numbering.proofs.Rows.{length_mapped, F, objects_count}
use Rattle.rc_numbering.proofs.Sounds.{function_sound}
use Rattle.rc_numbering.proofs.TypesNamed.{every_mapped, IsNamed, named_defined, globals_in, strings_in, table_named, CellIn, cells_in}
use Rattle.rc_core.specs.WellTyped.{IsLength}
use Rattle.rc_rlang.specs.RegionCode.{break}
use Rattle.rc_code.specs.Running.{reading_of}
use Rattle.rc_code.specs.Running.{layout_of}

-- ---- numbers

word_below : (n : ℤ) → word_of n < 4294967296
word_below (pos a) = mod-lt a (let p : 0 < 4294967296 = omega arith in p)
word_below (negsuc a) = let l = mod-lt a (let p : 0 < 4294967296 = omega arith in p) in let q : 4294967296 - 1 - a % 4294967296 < 4294967296 = omega (arith, l) in q

byte_below : (n : ℤ) → IsTrue (fits Char n) → word_of n < 256
byte_below (pos k) e = let l = less_is k 256 e in let q : k % 4294967296 ≡ k = mod-eq_of_lt (let p : k < 4294967296 = omega (arith, l) in p) in omega (arith, l, q)
byte_below (negsuc k) e = absurd (false≢true e)

kind_below : (s : Signedness) → IsNumber (kind_number s)
kind_below Signed = omega arith
kind_below Wrapping = omega arith

direction_below : (d : Direction) → IsNumber (direction_number d)
direction_below Forward = omega arith
direction_below Backward = omega arith

-- ---- instructions

-- a constant is written as its 32 bits
IsWord : Instruction → Type 0
IsWord (instruction.Constant s n) = IsNumber n
IsWord (instruction.Global n) = Unit {0}
IsWord (instruction.Get n) = Unit {0}
IsWord (instruction.Set n) = Unit {0}
IsWord (instruction.Load n) = Unit {0}
IsWord (instruction.Typed row n) = Unit {0}
IsWord (instruction.Arithmetic row s) = Unit {0}
IsWord (instruction.Move n s d) = Unit {0}
IsWord (instruction.Store n b) = Unit {0}
IsWord (instruction.Simple row) = Unit {0}
IsWord (instruction.Delete pins) = Unit {0}
IsWord (instruction.Call n pins) = Unit {0}
IsWord (instruction.Jump row n) = Unit {0}

module _ (number : Ty → ℕ) (path : Access → ℕ) where
  one_word : (at : ℕ) (i : From.Instruction) → IsWord (numbered number path at i)
  unfolding IsWord
  one_word at (From.number s n) = word_below n
  one_word at (From.null int) = tt
  one_word at (From.null unsigned) = tt
  one_word at (From.null char) = tt
  one_word at (From.null region) = tt
  one_word at (From.null (struct k)) = tt
  one_word at (From.null (pointer note target)) = tt
  one_word at (From.global g) = tt
  one_word at (From.get x) = tt
  one_word at (From.set x ty) = tt
  one_word at (From.arithmetic o s) = tt
  one_word at (From.unary o s) = tt
  one_word at From.zero_test = tt
  one_word at (From.null_test int) = tt
  one_word at (From.null_test unsigned) = tt
  one_word at (From.null_test char) = tt
  one_word at (From.null_test region) = tt
  one_word at (From.null_test (struct k)) = tt
  one_word at (From.null_test (pointer note target)) = tt
  one_word at (From.same int) = tt
  one_word at (From.same unsigned) = tt
  one_word at (From.same char) = tt
  one_word at (From.same region) = tt
  one_word at (From.same (struct k)) = tt
  one_word at (From.same (pointer note target)) = tt
  one_word at (From.convert to) = tt
  one_word at (From.move ty s direction) = tt
  one_word at (From.load a) = tt
  one_word at (From.store a) = tt
  one_word at From.new_region = tt
  one_word at From.new_subregion = tt
  one_word at (From.region_of ty) = tt
  one_word at (From.allocate ty layout) = tt
  one_word at (From.allocate_array ty layout) = tt
  one_word at (From.delete pins) = tt
  one_word at (From.call g tys pins) = tt
  one_word at (From.perform g tys pins) = tt
  one_word at (From.leave tys) = tt
  one_word at From.putchar = tt
  one_word at From.getchar = tt
  one_word at (From.jump n) = tt
  one_word at (From.jump_zero n) = tt
  one_word at (From.back to) = tt
  one_word at From.pop = tt

  all_words : (lines : List Line) (at n : ℕ) (i : Instruction) → slice_get (numbered_from number path at lines) n ≡ Some i → IsWord i
  all_words [] at n i e = absurd (cc e)
  all_words (l ∷ lines) at zero i e = let q : numbered number path at l.instruction ≡ i = cc in subst IsWord q (one_word at l.instruction)
  all_words (l ∷ lines) at (suc n) i e = all_words lines (suc at) n i e

pins_below : (f : Function) (pins : List ℕ) → IsNumber (length f.locals) → Every (IsPin f) pins → Every IsNumber pins
pins_below f [] few all = tt
pins_below f (x ∷ pins) few all = ((let l = all.0.0 in omega (arith, l, few)), pins_below f pins few all.1)

both_true : (a b : Bool) → (a && b) ≡ true → (a ≡ true) × (b ≡ true)
both_true true true e = (refl, refl)
both_true true false e = absurd cc
both_true false b e = absurd cc

pins_few : (f : Function) (x : ℕ) (pins : List ℕ) → Every (IsPin f) (x ∷ pins) → increase (x ∷ pins) ≡ true → x + length (x ∷ pins) ≤ length f.locals
pins_few f x [] all up = let l = all.0.0 in omega (arith, l)
pins_few f x (y ∷ pins) all up =
    let b = both_true (nat_lt x y) (increase (y ∷ pins)) up in
    let l = less_is x y b.0 in
    let m = pins_few f y pins all.1 b.1 in
    omega (arith, l, m)

pins_count : (f : Function) (pins : List ℕ) → IsNumber (length f.locals) → Every (IsPin f) pins → increase pins ≡ true → IsNumber (length pins)
pins_count f [] few all up = omega arith
pins_count f (x ∷ pins) few all up = let m = pins_few f x pins all up in omega (arith, m, few)

every_there : {A : Type 0} (P : A → Type 0) (xs : List A) (n : ℕ) (x : A) → Every P xs → slice_get xs n ≡ Some x → P x
every_there P [] n x all e = absurd (cc e)
every_there P (y ∷ xs) zero x all e = let q : y ≡ x = cc in subst P q all.0
every_there P (y ∷ xs) (suc n) x all e = every_there P xs n x all.1 e

unmapped : {A B : Type 0} (g : A → B) (xs : List A) (n : ℕ) (y : B) → slice_get (map g xs) n ≡ Some y → (x : A) × (slice_get xs n ≡ Some x) × (g x ≡ y)
unmapped g [] n y e = absurd (cc e)
unmapped g (x ∷ xs) zero y e = (x, refl, (let q : g x ≡ y = cc in q))
unmapped g (x ∷ xs) (suc n) y e = unmapped g xs n y e

-- ---- cells

cell_self : (c : Cell) → same_cell c c ≡ true
cell_self c = search rules

alike_one : (first c : Cell) (is : List Index) (d : ℕ) → (is_reached d is ≡ true → c ≡ first) → is_alike first is d c ≡ true
alike_one first c is d same = by (is_reached d is) refl
  where
    other : (b : Bool) → (if b then true else true) ≡ true
    other true = refl
    other false = refl

    by : (b : Bool) → is_reached d is ≡ b → (if same_cell c first then true else not (is_reached d is)) ≡ true
    by true e = ap (λ x. if x then true else not (is_reached d is)) (ap (λ z. same_cell z first) (same e) ∙ cell_self first)
    by false e = ap (λ x. if same_cell c first then true else not x) e ∙ other (same_cell c first)

alike_all : (first : Cell) (is : List Index) (d : ℕ) (cs : List Cell) (x : Cell) → ((n : ℕ) → n < length cs → is_reached (d + n) is ≡ true → get_or cs n x ≡ first) → are_alike first is d cs ≡ true
alike_all first is d [] x same = refl
alike_all first is d (c ∷ cs) x same =
    ap (λ b. b && are_alike first is (suc d) cs) (alike_one first c is d (λ e. same 0 (omega arith) (let q : d + 0 ≡ d = omega arith in ap (λ m. is_reached m is) q ∙ e)))
    ∙ alike_all first is (suc d) cs x (λ n lt e. same (suc n) (omega (arith, lt)) (let q : d + suc n ≡ suc d + n = omega arith in ap (λ m. is_reached m is) q ∙ e))

get_dropped : (cs : List Cell) (k n : ℕ) (x : Cell) → get_or (drop k cs) n x ≡ get_or cs (k + n) x
get_dropped cs zero n x = let e : n ≡ 0 + n = omega arith in ap (λ m. get_or cs m x) e
get_dropped [] (suc k) n x = refl
get_dropped (c ∷ cs) (suc k) n x = get_dropped cs k n x ∙ (let e : suc (k + n) ≡ suc k + n = omega arith in ap (λ m. get_or (c ∷ cs) m x) e)

length_dropped : (cs : List Cell) (k : ℕ) → k < length cs → k + length (drop k cs) ≡ length cs
length_dropped [] k e = absurd (omega (arith, e))
length_dropped (c ∷ cs) zero e = omega arith
length_dropped (c ∷ cs) (suc k) e = let h = length_dropped cs k (omega (arith, e)) in omega (arith, h)

one_kind_all : (is : List Index) (cs : List Cell) (x : Cell) → 0 < length cs → ((n : ℕ) → n < length cs → is_reached n is ≡ true → get_or cs n x ≡ get_or cs 0 x) → has_one_kind is cs ≡ true
one_kind_all is [] x some same = absurd (omega (arith, some))
one_kind_all is (c ∷ cs) x some same = alike_all c is 0 (c ∷ cs) x (λ n lt e. same n lt (let q : n ≡ 0 + n = omega arith in ap (λ m. is_reached m is) q ∙ e))

module _ (r : Rlang) (fit : IsRlang r) (numberable : IsNumberable r) (small : IsSmall (image_of r)) where
  abbrev In : Ty → Type 0
  In t = IsIn same_type (types_of r) t

  abbrev Named : Ty → Type 0
  Named t = IsNamed r fit numberable t

  abbrev count : ℕ
  count = length (image_of r).types

  count_is : count ≡ length (types_of r)
  count_is = length_mapped (map (cell_of (type_in r) (path_in r))) (layouts_in r) ∙ length_mapped (cells r.structs) (types_of r)

  below : (t : Ty) → In t → type_in r t < count
  below t there = let c = count_is in omega (arith, c, there)

  cell_fits : (k : CellKind) → CellIn r fit numberable k → CellFits count (cell_of (type_in r) (path_in r) k)
  cell_fits int_cell i = tt
  cell_fits unsigned_cell i = tt
  cell_fits char_cell i = tt
  cell_fits region_cell i = tt
  cell_fits (pointer_cell note target) i = below target i

  type_fits : (t : Ty) → Named t → TypeFits count (map (cell_of (type_in r) (path_in r)) (cells r.structs t))
  type_fits t n =
      let l = length_mapped (cell_of (type_in r) (path_in r)) (cells r.structs t) in
      let a = some_cell r.structs fit.structs t (named_defined r fit numberable t n) in
      let b = few_cells r.structs fit.structs t (named_defined r fit numberable t n) in
      record {
        some = omega (arith, l, a);
        most = omega (arith, l, b);
        cells = every_mapped (CellIn r fit numberable) (CellFits count) (cell_of (type_in r) (path_in r)) cell_fits (cells r.structs t) (cells_in r fit numberable t n);
      }

  types_fit : Every (TypeFits count) (image_of r).types
  types_fit =
      every_mapped (λ l. TypeFits count (map (cell_of (type_in r) (path_in r)) l)) (TypeFits count) (map (cell_of (type_in r) (path_in r))) (λ l p. p) (layouts_in r)
      (every_mapped Named (λ l. TypeFits count (map (cell_of (type_in r) (path_in r)) l)) (cells r.structs) type_fits (types_of r) (table_named r fit numberable))

  cells_there : (t : Ty) → In t → cells_at (image_of r).types (type_in r t) ≡ map (cell_of (type_in r) (path_in r)) (cells r.structs t)
  cells_there t there =
      get_mapped (map (cell_of (type_in r) (path_in r))) (layouts_in r) (type_in r t) [] [] (let b = length_mapped (cells r.structs) (types_of r) in omega (arith, b, there))
      ∙ ap (map (cell_of (type_in r) (path_in r))) (layout_found r t there)

  -- ---- globals

  sizes_cons : (d : Global) (gs : List Global) → sum (map (global_size r.structs) (d ∷ gs)) ≡ global_size r.structs d + sum (map (global_size r.structs) gs)
  sizes_cons d gs = sum-map (global_size r.structs) (d ∷ gs) ∙ sum_by-cons (global_size r.structs) d gs ∙ ap (λ n. global_size r.structs d + n) (sym (sum-map (global_size r.structs) gs))

  elements_most : (gs : List Global) (k : ℕ) (g : Global) → slice_get gs k ≡ Some g → global_size r.structs g ≤ sum (map (global_size r.structs) gs)
  elements_most [] k g e = absurd (cc e)
  elements_most (d ∷ gs) zero g e = let q : d ≡ g = cc in let a = sizes_cons d gs in let b = ap (global_size r.structs) q in omega (arith, a, b)
  elements_most (d ∷ gs) (suc k) g e = let a = sizes_cons d gs in let b = elements_most gs k g e in omega (arith, a, b)

  one_element : (o : Option ℕ) → IsLength o → 1 ≤ elements o
  one_element None c = omega arith
  one_element (Some n) c = c

  times_least : (n s : ℕ) → 1 ≤ s → n ≤ n * s
  times_least zero s some = omega arith
  times_least (suc n) s some = let x : suc n * s ≡ s + n * s = omega arith in let q = times_least n s some in omega (arith, x, q, some)

  one_cell_least : (g : Global) → SourceGlobalFits r.structs g → elements g.count ≤ global_size r.structs g
  one_cell_least g f = times_least (elements g.count) (size r.structs g.ty) (some_cell r.structs fit.structs g.ty f.defined)

  globals_few : (gs : List Global) → ((k : ℕ) (g : Global) → slice_get gs k ≡ Some g → SourceGlobalFits r.structs g) → length gs ≤ sum (map (global_size r.structs) gs)
  globals_few [] each = omega arith
  globals_few (d ∷ gs) each =
      let a = sizes_cons d gs in
      let b = globals_few gs (λ k g e. each (suc k) g e) in
      let c = one_cell_least d (each 0 d refl) in
      let o = one_element d.count (each 0 d refl).counted in
      omega (arith, a, b, c, o)

  initial_fits : (t : Ty) (c : Option ℕ) (n : ℤ) → In t → IsInitial c t n → InitialFits (cells_at (image_of r).types (type_in r t)) (elements c) (initial_of (type_in r) (path_in r) t c n)
  initial_fits t (Some k) n there e = tt
  initial_fits int None n there e = (refl, subst (λ cs. word_of n < bound_of cs) (sym (cells_there int there)) (word_below n))
  initial_fits unsigned None n there e = (refl, subst (λ cs. word_of n < bound_of cs) (sym (cells_there unsigned there)) (word_below n))
  initial_fits char None n there e = (refl, subst (λ cs. word_of n < bound_of cs) (sym (cells_there char there)) (byte_below n e))
  initial_fits region None n there e = tt
  initial_fits (struct k) None n there e = tt
  initial_fits (pointer note target) None n there e = tt

  global_in : (k : ℕ) (g : Global) → slice_get r.globals k ≡ Some g → In g.ty
  global_in k g e = (every_of_one In (λ (d : Global). with_pointed d.ty) r.globals k g e (globals_in r fit numberable)).0

  globals_fit : Every (GlobalFits (image_of r).types) (map (global_of (type_in r) (path_in r)) r.globals)
  globals_fit = every_of (GlobalFits (image_of r).types) (map (global_of (type_in r) (path_in r)) r.globals) (λ k h e. one k h (unmapped (global_of (type_in r) (path_in r)) r.globals k h e))
    where
      one : (k : ℕ) (h : ImageGlobal) → (g : Global) × (slice_get r.globals k ≡ Some g) × (global_of (type_in r) (path_in r) g ≡ h) → GlobalFits (image_of r).types h
      one k h u =
          let g = u.0 in
          let f = fit.globals k g u.1 in
          let a = elements_most r.globals k g u.1 in
          let b = one_cell_least g f in
          let m = fit.all_globals in
          subst (GlobalFits (image_of r).types) u.2 (record {
            type = below g.ty (global_in k g u.1);
            some = one_element g.count f.counted;
            most = omega (arith, a, b, m);
            initial = initial_fits g.ty g.count g.initial (global_in k g u.1) f.initial_fits;
          })

  strings_fit : (ss : List (List ℕ)) → Every In (map (λ (bytes : List ℕ). char) ss) → ((k : ℕ) (bytes : List ℕ) → slice_get ss k ≡ Some bytes → length bytes ≤ most_string_bytes) → Every (GlobalFits (image_of r).types) (map (string_of (type_in r) (path_in r)) ss)
  strings_fit [] all short = tt
  strings_fit (bytes ∷ ss) all short =
      let s = short 0 bytes refl in
      let l = length-append bytes (0 ∷ []) in (
        record {
          type = below char all.0;
          some = omega arith;
          most = omega (arith, s);
          initial = (ap bound_of (cells_there char all.0), (let q : length (bytes ++ 0 ∷ []) ≡ suc (length bytes) = omega (arith, l) in q));
        },
        strings_fit ss all.1 (λ k b e. short (suc k) b e),
      )

  -- ---- paths

  get_cells : (l : Layout) (n : ℕ) → get_or (map (cell_of (type_in r) (path_in r)) l) n (cell.Number Int) ≡ cell_of (type_in r) (path_in r) (get_or l n int_cell)
  get_cells [] n = refl
  get_cells (k ∷ l) zero = refl
  get_cells (k ∷ l) (suc n) = get_cells l n

  path_fits : (a : Access) → AccessFits r.structs a → In a.element → IsNumber (length (path_of (type_in r) a).indices) → PathFits (image_of r).types (path_of (type_in r) a)
  path_fits a f there many =
      let cs = cells_there a.element there in
      let l = length_mapped (cell_of (type_in r) (path_in r)) (cells r.structs a.element) in
      let i = f.inside in
      let s = few_cells r.structs fit.structs a.element f.defined in
      let long : length (cells_at (image_of r).types (type_in r a.element)) ≡ size r.structs a.element = ap length cs ∙ l in
      fits_by_tests (image_of r).types (path_of (type_in r) a) (below a.element there) (omega (arith, i, s)) many f.indices f.nested (omega (arith, long, i))
      (ap (λ c. has_one_kind (map index_of a.indices) (drop a.offset c)) cs ∙ one_kind_all (map index_of a.indices) (drop a.offset written) (cell.Number Int)
      (let d = length_dropped written a.offset (omega (arith, l, i)) in omega (arith, d, l, i))
      (λ n lt e. get_dropped written a.offset n (cell.Number Int) ∙ get_cells (cells r.structs a.element) (a.offset + n) ∙ ap (cell_of (type_in r) (path_in r)) (f.alike n e)
      ∙ sym (get_dropped written a.offset 0 (cell.Number Int) ∙ (let z : a.offset + 0 ≡ a.offset = omega arith in ap (λ m. get_or written m (cell.Number Int)) z) ∙ get_cells (cells r.structs a.element) a.offset)))
    where
      written : List Cell
      written = map (cell_of (type_in r) (path_in r)) (cells r.structs a.element)

  -- where its indices can be counted
  CountedFits : Path → Type 0
  CountedFits p = IsNumber (length p.indices) → PathFits (image_of r).types p

  instruction_counted : (f : Routine) (i : From.Instruction) → Sayable r f (deletes r) i → Every In (instruction_names i) → Every CountedFits (instruction_paths (type_in r) i)
  unfolding CountedFits
  instruction_counted f (From.number s n) said all = tt
  instruction_counted f (From.null ty) said all = tt
  instruction_counted f (From.global g) said all = tt
  instruction_counted f (From.get x) said all = tt
  instruction_counted f (From.set x ty) said all = tt
  instruction_counted f (From.arithmetic o s) said all = tt
  instruction_counted f (From.unary o s) said all = tt
  instruction_counted f From.zero_test said all = tt
  instruction_counted f (From.null_test ty) said all = tt
  instruction_counted f (From.same ty) said all = tt
  instruction_counted f (From.convert to) said all = tt
  instruction_counted f (From.move ty s direction) said all = tt
  instruction_counted f (From.load a) said all = ((λ many. path_fits a said all.0 many), tt)
  instruction_counted f (From.store a) said all = ((λ many. path_fits a said all.0 many), tt)
  instruction_counted f From.new_region said all = tt
  instruction_counted f From.new_subregion said all = tt
  instruction_counted f (From.region_of ty) said all = tt
  instruction_counted f (From.allocate ty layout) said all = tt
  instruction_counted f (From.allocate_array ty layout) said all = tt
  instruction_counted f (From.delete pins) said all = tt
  instruction_counted f (From.call g tys pins) said all = tt
  instruction_counted f (From.perform g tys pins) said all = tt
  instruction_counted f (From.leave tys) said all = tt
  instruction_counted f From.putchar said all = tt
  instruction_counted f From.getchar said all = tt
  instruction_counted f (From.jump n) said all = tt
  instruction_counted f (From.jump_zero n) said all = tt
  instruction_counted f (From.back to) said all = tt
  instruction_counted f From.pop said all = tt

  code_counted : (f : Routine) (lines : List Line) → AllSayable r f (deletes r) lines → Every In (code_names lines) → Every CountedFits (code_paths (type_in r) lines)
  code_counted f [] said all = tt
  code_counted f (l ∷ lines) said all =
      every_append CountedFits (instruction_paths (type_in r) l.instruction) (code_paths (type_in r) lines) (instruction_counted f l.instruction said.0 (every_before In (instruction_names l.instruction) (code_names lines) all)) (code_counted f lines said.1 (every_behind In (instruction_names l.instruction) (code_names lines) all))

  flat_all : {A B : Type 0} (P : B → Type 0) (g : A → List B) (xs : List A) → ((k : ℕ) (x : A) → slice_get xs k ≡ Some x → Every P (g x)) → Every P (flat_map g xs)
  flat_all P g [] each = tt
  flat_all P g (x ∷ xs) each = every_append P (g x) (flat_map g xs) (each 0 x refl) (flat_all P g xs (λ k y e. each (suc k) y e))

  table_counted : Every CountedFits (paths_of (type_in r) r)
  table_counted = every_entry same_path path_self CountedFits [] (flat_map (λ f. code_paths (type_in r) (stack_of r f).code) r.functions) tt
      (flat_all CountedFits (λ f. code_paths (type_in r) (stack_of r f).code) r.functions (λ k f e. code_counted f (stack_of r f).code (function_said r f (numberable.functions k f e)) (code_in r k f e)))

  paths_fit : (ps : List Path) → Every CountedFits ps → Every (λ (p : Path). IsNumber (length p.indices)) ps → Every (PathFits (image_of r).types) ps
  unfolding CountedFits
  paths_fit [] all counts = tt
  paths_fit (p ∷ ps) all counts = (all.0 counts.0, paths_fit ps all.1 counts.1)

  -- ---- functions

  objects_few : IsNumber (length (image_of r).globals)
  objects_few = let c = objects_count r (record { parameters = 0; locals = []; result = None; deletes = false; line = 0; body = break 0 }) in let a = globals_few r.globals fit.globals in let m = fit.all_globals in let s = fit.number_of_strings in omega (arith, c, a, m, s)

  layouts_few : IsNumber (length (reading_of (image_of r)).layouts)
  layouts_few = let a = length_mapped layout_of (image_of r).types in let b = small.types in omega (arith, a, b)

  instruction_fits : (f : Function) (n : ℕ) (i : Instruction) → IsNumber (length f.locals) → IsNumber (length f.code) → IsFine false (reading_of (image_of r)) f n i → IsWord i → InstructionFits i
  unfolding IsWord
  instruction_fits f n (instruction.Constant s k) few long fine word = record { operands = (word, tt) }
  instruction_fits f n (instruction.Global g) few long fine word = let a = fine.names in let b = objects_few in record { operands = (omega (arith, a, b), tt) }
  instruction_fits f n (instruction.Get x) few long fine word = let a = fine.names in record { operands = (omega (arith, a, few), tt) }
  instruction_fits f n (instruction.Set x) few long fine word = let a = fine.names in record { operands = (omega (arith, a, few), tt) }
  instruction_fits f n (instruction.Load p) few long fine word = let a = fine.names in let b = small.paths in record { operands = (omega (arith, a, b), tt) }
  instruction_fits f n (instruction.Typed row t) few long fine word = let a = fine.names in let b = layouts_few in record { operands = (omega (arith, a, b), tt) }
  instruction_fits f n (instruction.Arithmetic row s) few long fine word = record { operands = (kind_below s, tt) }
  instruction_fits f n (instruction.Move t s d) few long fine word = let a = fine.names in let b = layouts_few in record { operands = (omega (arith, a, b), (kind_below s, (direction_below d, tt))) }
  instruction_fits f n (instruction.Store p false) few long fine word = let a = fine.names.0 in let b = small.paths in record { operands = (omega (arith, a, b), (omega arith, tt)) }
  instruction_fits f n (instruction.Store p true) few long fine word = absurd (false≢true (fine.names.1 refl).0)
  instruction_fits f n (instruction.Simple row) few long fine word = record { operands = tt }
  instruction_fits f n (instruction.Delete pins) few long fine word = record { operands = (pins_count f pins few fine.names.each fine.names.order, pins_below f pins few fine.names.each) }
  instruction_fits f n (instruction.Call g pins) few long fine word = let a = fine.names.0 in let b = small.functions in record { operands = (omega (arith, a, b), (pins_count f pins few fine.names.1.each fine.names.1.order, pins_below f pins few fine.names.1.each)) }
  instruction_fits f n (instruction.Jump jump.Always to) few long fine word = let a = fine.targets.1 in record { operands = (omega (arith, a, long), tt) }
  instruction_fits f n (instruction.Jump jump.IfZero to) few long fine word = let a = fine.targets.1 in record { operands = (omega (arith, a, long), tt) }
  instruction_fits f n (instruction.Jump jump.Back to) few long fine word = let a = fine.targets.1 in record { operands = (omega (arith, a, long), tt) }

  storage_fits : (t : Ty) → Every In (pointed_to t) → StorageFits count (storage_of (type_in r) (path_in r) t)
  storage_fits int all = tt
  storage_fits unsigned all = tt
  storage_fits char all = tt
  storage_fits region all = tt
  storage_fits (struct k) all = tt
  storage_fits (pointer note target) all = below target all.0

  storages_fit : (tys : List Ty) → Every In (types_named tys) → Every (StorageFits count) (map (storage_of (type_in r) (path_in r)) tys)
  storages_fit [] all = tt
  storages_fit (t ∷ tys) all = (storage_fits t (every_before In (pointed_to t) (types_named tys) all), storages_fit tys (every_behind In (pointed_to t) (types_named tys) all))

  result_fits : (o : Option Ty) → Every In (result_names o) → ResultFits count (option_map (storage_of (type_in r) (path_in r)) o)
  result_fits None all = tt
  result_fits (Some t) all = storage_fits t all

  length_numbered : (lines : List Line) (at : ℕ) → length (numbered_from (type_in r) (path_in r) at lines) ≡ length lines
  length_numbered [] at = refl
  length_numbered (l ∷ lines) at = ap suc (length_numbered lines (suc at))

  function_fits : (k : ℕ) (f : Routine) → slice_get r.functions k ≡ Some f → FunctionIsSmall (F r f) → FunctionFits count (F r f)
  function_fits k f e s =
      let own = fit.functions k f e in
      let p = own.parameters in
      let a = length_mapped (storage_of (type_in r) (path_in r)) (all_locals f) in
      let b = length-append f.locals (slots_of f).types in
      let types = routine_in r k f e in
      let sound = function_sound r f k e (numberable.functions k f e) in
      record {
        parameters = omega (arith, p, a, b);
        count = s.locals;
        locals = storages_fit (all_locals f) (every_before In (types_named (stack_of r f).locals) _ types);
        result = result_fits f.result (every_before In (result_names f.result) (code_names (stack_of r f).code) (every_behind In (types_named (stack_of r f).locals) _ types));
        instructions = s.instructions;
        code = every_of InstructionFits (F r f).code (λ n i q. instruction_fits (F r f) n i s.locals s.instructions (sound.fine n i q) (all_words (type_in r) (path_in r) (stack_of r f).code 0 n i q));
        lines = s.lines;
        lined = length_mapped (λ (l : Line). l.line) (stack_of r f).code ∙ sym (length_numbered (stack_of r f).code 0);
      }

  functions_fit : Every (FunctionFits count) (image_of r).functions
  functions_fit = every_of (FunctionFits count) (image_of r).functions (λ k h e. one k h e (unmapped (λ f. function_of (type_in r) (path_in r) (stack_of r f) f) r.functions k h e))
    where
      one : (k : ℕ) (h : Function) → slice_get (image_of r).functions k ≡ Some h → (f : Routine) × (slice_get r.functions k ≡ Some f) × (function_of (type_in r) (path_in r) (stack_of r f) f ≡ h) → FunctionFits count h
      one k h e u = subst (FunctionFits count) u.2 (function_fits k u.0 u.1 (subst FunctionIsSmall (sym u.2) (every_there FunctionIsSmall (image_of r).functions k h small.each e)))

  routine_below : (rs : List Routine) (g : ℕ) (h : Routine) → slice_get rs g ≡ Some h → g < length rs
  routine_below [] g h e = absurd (cc e)
  routine_below (x ∷ rs) zero h e = omega arith
  routine_below (x ∷ rs) (suc g) h e = let l = routine_below rs g h e in omega (arith, l)

  pub fields_fit : FieldsFit (image_of r)
  fields_fit = record {
    type_count = small.types;
    types = types_fit;
    global_count = objects_few;
    globals = every_append (GlobalFits (image_of r).types) (map (global_of (type_in r) (path_in r)) r.globals) (map (string_of (type_in r) (path_in r)) r.strings) globals_fit (strings_fit r.strings (strings_in r fit numberable) fit.strings);
    path_count = small.paths;
    paths = paths_fit (paths_of (type_in r) r) table_counted small.indices;
    function_count = small.functions;
    functions = functions_fit;
    main = let a = routine_below r.functions r.main numberable.main.routine numberable.main.there in let b = length_mapped (λ f. function_of (type_in r) (path_in r) (stack_of r f) f) r.functions in omega (arith, a, b);
  }
