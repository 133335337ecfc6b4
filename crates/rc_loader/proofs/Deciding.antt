-- The tests decide the rules.
use Rattle.std.proofs.Common.{◌≡◌, ℕ, zero, suc, ◌-◌, ◌<◌, ◌≤◌, Bool, true, false, cond, not, ◌&&◌, ◌||◌, nat_lt, nat_le, ◌==◌, Decides, List, [], ◌∷◌, ◌++◌, map, length, take, drop, reverse, Option, Some, None, Result, Ok, Err, refl, sym, ap, subst, ◌∙◌, arith}
use Rattle.std.specs.Prelude.{slice_get}
use Rattle.std.specs.List.{AllByRecursion as Every}
use Rattle.std.proofs.lemmas.Bool.{ltb-true, lt-ltb, leb-true, le-leb, eqb-true, eq-eqb}
use Rattle.std.proofs.lemmas.List.{length-reverse, length-drop, reverse-append, reverse-reverse, take-append-drop, take-map, drop-map}
use Rattle.std.proofs.Math.Seq.{take-append_seam, drop-append_seam}
use Rattle.rc_core.specs.Layout.{note_of, is_plain}
use Rattle.rc_code.specs.declared.kind.Storage.{Storage}
use Rattle.rc_code.specs.declared.opcode.Jump.{Jump}
use Rattle.rc_code.specs.declared.opcode.Jump.TheVariants as jump
use Rattle.rc_code.specs.declared.opcode.Simple.{Simple}
use Rattle.rc_code.specs.declared.opcode.Simple.TheVariants as simple
use Rattle.rc_code.specs.declared.opcode.Typed.{Typed}
use Rattle.rc_code.specs.declared.opcode.Typed.TheVariants as typed
use Rattle.rc_code.specs.declared.instruction.Instruction.{Instruction}
use Rattle.rc_code.specs.declared.instruction.Instruction.TheVariants as instruction
use Rattle.rc_code.specs.declared.image.Function.{Function}
use Rattle.rc_code.specs.declared.image.Parts.{Parts}
use Rattle.rc_code.specs.Running.{Reading, reading_of, function_at, path_at, cell_at, layout_of}
use Rattle.rc_code.proofs.Kinding.{arithmetic_gives, constant_gives}
use Rattle.rc_code.specs.Soundness.{Kind, takes, gives, result_kinds, count_off, instruction_at, kinds_before, increase, IsPin, ArePins, Names, Operands, Empty, ends}
use Rattle.rc_loader.specs.declared.fault.Rule.{Rule}
use Rattle.rc_loader.specs.declared.fault.Rule.TheVariants as rule
use Rattle.rc_loader.specs.Violations.{Leads, GoesOn, IsTarget, HasHeight, rank, KeepsAt}
use Rattle.rc_loader.specs.Codes.{kind_in}
use Rattle.rc_loader.specs.declared.operand.Operand.{Operand}
use Rattle.rc_loader.specs.Decisions.{same_kind, same_kinds, is_pin, are_pins, reached_cell, may_be_marked, names_what_is_there, leads_inside, may_end, leads_to, is_named, empties, left_below, is_empty_enough, are_kinds, checked_kinds, checked_height, checked, Stand, KeepsAll, BreaksHere}
use Rattle.rc_loader.proofs.Operands.{cell_there}
use Rattle.rc_loader.proofs.Sames.{kind_same, kind_itself}

-- ---- tests

both : {P Q : Type 0} (a b : Bool) → Decides a P → Decides b Q → Decides (a && b) (P × Q)
both true true p q = (λ e. (p.0 refl, q.0 refl), λ h. refl)
both true false p q = (λ e. absurd (not_true e), λ h. q.1 h.1)
  where
    not_true : false ≡ true → ⊥
    not_true e = absurd cc
both false b p q = (λ e. absurd (not_true e), λ h. p.1 h.0)
  where
    not_true : false ≡ true → ⊥
    not_true e = absurd cc

halves : (a b : Bool) → (a && b) ≡ true → (a ≡ true) × (b ≡ true)
halves true true e = (refl, refl)
halves true false e = absurd cc
halves false b e = absurd cc

joined : (a b : Bool) → a ≡ true → b ≡ true → (a && b) ≡ true
joined true true p q = refl
joined true false p q = absurd cc
joined false b p q = absurd cc

below : (a b : ℕ) → Decides (nat_lt a b) (a < b)
below a b = (ltb-true a b, lt-ltb a b)

at_most : (a b : ℕ) → Decides (nat_le a b) (a ≤ b)
at_most a b = (leb-true a b, le-leb a b)

always : Decides true (Unit {0})
always = (λ e. tt, λ h. refl)

as_they_are : (b : Bool) → Decides b (b ≡ true)
as_they_are b = (λ e. e, λ e. e)

refused : {P : Type 0} (b : Bool) → Decides b P → b ≡ false → P → ⊥
refused b d e p = apart b (d.1 p) e
  where
    apart : (c : Bool) → c ≡ true → c ≡ false → ⊥
    apart true e f = absurd cc
    apart false e f = absurd cc

as_long : {A B : Type 0} (change : A → B) (xs : List A) → length (map change xs) ≡ length xs
as_long change [] = refl
as_long change (x ∷ xs) = ap suc (as_long change xs)

-- ---- names

module _ (parts : Parts) (f : Function) where
  pin : (x : ℕ) → Decides (is_pin f x) (IsPin f x)
  pin x = both _ _ (below x (length f.locals)) (as_they_are _)

  pins_true : (pins : List ℕ) → are_pins f pins ≡ true → Every (IsPin f) pins × (increase pins ≡ true)
  pins_true [] e = (tt, refl)
  pins_true (x ∷ []) e = (((pin x).0 (halves (is_pin f x) true (halves (is_pin f x && true) true e).0).0, tt), refl)
  pins_true (x ∷ y ∷ pins) e =
      let first = halves (is_pin f x && nat_lt x y) (are_pins f (y ∷ pins)) e in
      let second = halves (is_pin f x) (nat_lt x y) first.0 in
      let rest = pins_true (y ∷ pins) first.1 in
      (((pin x).0 second.0, rest.0), joined (nat_lt x y) (increase (y ∷ pins)) second.1 rest.1)

  pins_are : (pins : List ℕ) → Every (IsPin f) pins → increase pins ≡ true → are_pins f pins ≡ true
  pins_are [] all order = refl
  pins_are (x ∷ []) all order = joined (is_pin f x && true) true (joined (is_pin f x) true ((pin x).1 all.0) refl) refl
  pins_are (x ∷ y ∷ pins) all order =
      let split = halves (nat_lt x y) (increase (y ∷ pins)) order in
      joined (is_pin f x && nat_lt x y) (are_pins f (y ∷ pins)) (joined (is_pin f x) (nat_lt x y) ((pin x).1 all.0) split.0) (pins_are (y ∷ pins) all.1 split.1)

  pins_decide : (pins : List ℕ) → Decides (are_pins f pins) (ArePins f pins)
  pins_decide pins = (λ e. let h = pins_true pins e in record { each = h.0; order = h.1 }, λ a. pins_are pins a.each a.order)

  Marks : (path : ℕ) → Bool → Type 0
  Marks path proved = proved ≡ true → (true ≡ true) × (is_plain (note_of (cell_at (reading_of parts) (path_at (reading_of parts) path))) ≡ false)

  marks_decide : (path : ℕ) (proved : Bool) → Decides (may_be_marked (reached_cell parts (path_at (reading_of parts) path)) proved) (proved ≡ true → (true ≡ true) × (is_plain (note_of (cell_at (reading_of parts) (path_at (reading_of parts) path))) ≡ false))
  marks_decide path false = (λ e is. absurd (not_true is), λ h. refl)
    where
      not_true : false ≡ true → ⊥
      not_true e = absurd cc
  marks_decide path true = (λ e is. (refl, ap (λ k. is_plain (note_of k)) (sym (cell_there parts (path_at (reading_of parts) path))) ∙ turned _ e), λ h. back _ (ap (λ k. is_plain (note_of k)) (cell_there parts (path_at (reading_of parts) path)) ∙ (h refl).1))
    where
      turned : (b : Bool) → not b ≡ true → b ≡ false
      turned true e = absurd cc
      turned false e = refl

      back : (b : Bool) → b ≡ false → not b ≡ true
      back true e = absurd cc
      back false e = refl

  type_there : (type : ℕ) → Decides (nat_lt type (length parts.types)) (type < length (map layout_of parts.types))
  type_there type = subst (λ n. Decides (nat_lt type (length parts.types)) (type < n)) (sym (as_long layout_of parts.types)) (below type (length parts.types))

  names_decide : (i : Instruction) → Decides (names_what_is_there parts f i) (Names true (reading_of parts) f i)
  names_decide (instruction.Global g) = below g (length parts.globals)
  names_decide (instruction.Get x) = below x (length f.locals)
  names_decide (instruction.Set x) = below x (length f.locals)
  names_decide (instruction.Load path) = below path (length parts.paths)
  names_decide (instruction.Typed row type) = type_there type
  names_decide (instruction.Move type kind direction) = type_there type
  names_decide (instruction.Store path proved) = both _ _ (below path (length parts.paths)) (marks_decide path proved)
  names_decide (instruction.Delete pins) = pins_decide pins
  names_decide (instruction.Call g pins) = both _ _ (below g (length parts.functions)) (pins_decide pins)
  names_decide (instruction.Constant kind value) = always
  names_decide (instruction.Arithmetic row kind) = always
  names_decide (instruction.Simple row) = always
  names_decide (instruction.Jump row to) = always

-- ---- targets

leads_decide : (f : Function) (n : ℕ) (i : Instruction) → Decides (leads_inside (length f.code) n i) (Leads f n i)
leads_decide f n (instruction.Jump jump.Always to) = both _ _ (below n to) (below to (length f.code))
leads_decide f n (instruction.Jump jump.IfZero to) = both _ _ (below n to) (below to (length f.code))
leads_decide f n (instruction.Jump jump.Back to) = both _ _ (at_most to n) (below to (length f.code))
leads_decide f n (instruction.Constant kind value) = always
leads_decide f n (instruction.Global g) = always
leads_decide f n (instruction.Get x) = always
leads_decide f n (instruction.Set x) = always
leads_decide f n (instruction.Load path) = always
leads_decide f n (instruction.Typed row type) = always
leads_decide f n (instruction.Arithmetic row kind) = always
leads_decide f n (instruction.Move type kind direction) = always
leads_decide f n (instruction.Store path proved) = always
leads_decide f n (instruction.Simple row) = always
leads_decide f n (instruction.Delete pins) = always
leads_decide f n (instruction.Call g pins) = always

ends_decide : (size n : ℕ) (i : Instruction) → Decides (may_end size n i) (suc n ≡ size → ends i ≡ true)
ends_decide size n i = by (suc n == size) (eqb-true (suc n) size) (eq-eqb (suc n) size)
  where
    by : (b : Bool) → (b ≡ true → suc n ≡ size) → (suc n ≡ size → b ≡ true) → Decides (cond b (ends i) true) (suc n ≡ size → ends i ≡ true)
    by true to from = (λ e same. e, λ h. h (to refl))
    by false to from = (λ e same. absurd (not_true (from same)), λ h. refl)
      where
        not_true : false ≡ true → ⊥
        not_true e = absurd cc

goes_on_decides : (f : Function) (n : ℕ) (i : Instruction) → n < length f.code → Decides (leads_inside (length f.code) n i && may_end (length f.code) n i) (GoesOn f n i)
goes_on_decides f n i there =
    let d = both _ _ (leads_decide f n i) (ends_decide (length f.code) n i) in
    (λ e. let h = d.0 e in record { there = there; target = h.0; end = h.1 }, λ g. d.1 (g.target, g.end))

-- a jump of the code leads there
named : (code : List Instruction) (n m : ℕ) (row : Jump) → slice_get code m ≡ Some (instruction.Jump row n) → is_named code n ≡ true
named [] n m row e = absurd cc
named (i ∷ code) n zero row e = ap (λ j. leads_to n j || is_named code n) here ∙ ap (λ b. b || is_named code n) (eq-eqb n n refl)
  where
    here : i ≡ instruction.Jump row n
    here = cc
named (i ∷ code) n (suc m) row e = ap (λ b. leads_to n i || b) (named code n m row e) ∙ either (leads_to n i)
  where
    either : (b : Bool) → (b || true) ≡ true
    either true = refl
    either false = refl

finds : (code : List Instruction) (n : ℕ) → is_named code n ≡ true → (m : ℕ) × (row : Jump) × (slice_get code m ≡ Some (instruction.Jump row n))
finds [] n e = absurd cc
finds (instruction.Jump row to ∷ code) n e = by (to == n) refl e (finds code n)
  where
    by : (b : Bool) → (to == n) ≡ b → (b || is_named code n) ≡ true → (is_named code n ≡ true → (m : ℕ) × (r : Jump) × (slice_get code m ≡ Some (instruction.Jump r n)))
        → (m : ℕ) × (r : Jump) × (slice_get (instruction.Jump row to ∷ code) m ≡ Some (instruction.Jump r n))
    by true same e more = (0, row, ap (λ t. Some (instruction.Jump row t)) (eqb-true to n same))
    by false same e more = let h = more e in (suc h.0, h.1, h.2)
finds (instruction.Constant kind value ∷ code) n e = let h = finds code n e in (suc h.0, h.1, h.2)
finds (instruction.Global g ∷ code) n e = let h = finds code n e in (suc h.0, h.1, h.2)
finds (instruction.Get x ∷ code) n e = let h = finds code n e in (suc h.0, h.1, h.2)
finds (instruction.Set x ∷ code) n e = let h = finds code n e in (suc h.0, h.1, h.2)
finds (instruction.Load path ∷ code) n e = let h = finds code n e in (suc h.0, h.1, h.2)
finds (instruction.Typed row type ∷ code) n e = let h = finds code n e in (suc h.0, h.1, h.2)
finds (instruction.Arithmetic row kind ∷ code) n e = let h = finds code n e in (suc h.0, h.1, h.2)
finds (instruction.Move type kind direction ∷ code) n e = let h = finds code n e in (suc h.0, h.1, h.2)
finds (instruction.Store path proved ∷ code) n e = let h = finds code n e in (suc h.0, h.1, h.2)
finds (instruction.Simple row ∷ code) n e = let h = finds code n e in (suc h.0, h.1, h.2)
finds (instruction.Delete pins ∷ code) n e = let h = finds code n e in (suc h.0, h.1, h.2)
finds (instruction.Call g pins ∷ code) n e = let h = finds code n e in (suc h.0, h.1, h.2)

target_decides : (f : Function) (n : ℕ) → Decides (is_named f.code n) (IsTarget f n)
target_decides f n = (finds f.code n, λ t. named f.code n t.0 t.1 t.2)

-- ---- kinds

kinds_same : (ks ls : List Kind) → same_kinds ks ls ≡ true → ks ≡ ls
kinds_same [] [] e = refl
kinds_same [] (l ∷ ls) e = absurd cc
kinds_same (k ∷ ks) [] e = absurd cc
kinds_same (k ∷ ks) (l ∷ ls) e = let h = halves (same_kind k l) (same_kinds ks ls) e in let first = kind_same k l h.0 in let rest = kinds_same ks ls h.1 in ap (λ x. x ∷ ks) first ∙ ap (λ xs. l ∷ xs) rest

kinds_themselves : (ks : List Kind) → same_kinds ks ks ≡ true
kinds_themselves [] = refl
kinds_themselves (k ∷ ks) = ap (λ b. b && same_kinds ks ks) (kind_itself k) ∙ kinds_themselves ks

same_decides : (ks ls : List Kind) → Decides (same_kinds ks ls) (ks ≡ ls)
same_decides ks ls = (kinds_same ks ls, λ e. ap (λ x. same_kinds x ls) e ∙ kinds_themselves ls)

nothing : {A : Type 0} (xs : List A) → length xs ≡ 0 → xs ≡ []
nothing [] e = refl
nothing (x ∷ xs) e = absurd (omega (arith, e))

left_none : (ks : List Kind) (count : ℕ) → Decides (length ks - count == 0) (drop count ks ≡ [])
left_none ks count = (λ e. nothing (drop count ks) (length-drop count ks ∙ eqb-true (length ks - count) 0 e), λ e. eq-eqb (length ks - count) 0 (sym (length-drop count ks) ∙ ap length e))

-- the last so many, and those before them
last_are : (ks : List Kind) (count : ℕ) → count ≤ length ks → drop (length ks - count) (reverse ks) ≡ reverse (take count ks)
last_are ks count le =
    ap (λ xs. drop (length ks - count) (reverse xs)) (sym (take-append-drop count ks))
    ∙ ap (drop (length ks - count)) (reverse-append (take count ks) (drop count ks))
    ∙ ap (λ m. drop m (reverse (drop count ks) ++ reverse (take count ks))) (sym (length-reverse (drop count ks) ∙ length-drop count ks))
    ∙ drop-append_seam (reverse (drop count ks)) (reverse (take count ks))

before_last : (ks : List Kind) (count : ℕ) → take (length ks - count) (reverse ks) ≡ reverse (drop count ks)
before_last ks count =
    ap (λ xs. take (length ks - count) (reverse xs)) (sym (take-append-drop count ks))
    ∙ ap (take (length ks - count)) (reverse-append (take count ks) (drop count ks))
    ∙ ap (λ m. take m (reverse (drop count ks) ++ reverse (take count ks))) (sym (length-reverse (drop count ks) ∙ length-drop count ks))
    ∙ take-append_seam (reverse (drop count ks)) (reverse (take count ks))

gives_one : (image : Reading) (f : Function) (i : Instruction) → reverse (gives image f i) ≡ gives image f i
gives_one image f (instruction.Call g pins) = by (function_at image g).result
  where
    by : (o : Option Storage) → reverse (result_kinds o) ≡ result_kinds o
    by None = refl
    by (Some s) = refl
gives_one image f (instruction.Typed row t) = by row
  where
    by : (r : Typed) → reverse (gives image f (instruction.Typed r t)) ≡ gives image f (instruction.Typed r t)
    by typed.Null = refl
    by typed.Same = refl
    by typed.IsNull = refl
    by typed.RegionOf = refl
    by typed.Allocate = refl
    by typed.AllocateArray = refl
gives_one image f (instruction.Simple row) = by row
  where
    by : (r : Simple) → reverse (gives image f (instruction.Simple r)) ≡ gives image f (instruction.Simple r)
    by simple.NullRegion = refl
    by simple.SameRegion = refl
    by simple.IsZero = refl
    by simple.IsNullRegion = refl
    by simple.ToInt = refl
    by simple.ToUnsigned = refl
    by simple.ToChar = refl
    by simple.NewRegion = refl
    by simple.NewSubregion = refl
    by simple.Return = refl
    by simple.PutChar = refl
    by simple.GetChar = refl
    by simple.Pop = refl
gives_one image f (instruction.Constant s n) = ap reverse (constant_gives image f s n) ∙ sym (constant_gives image f s n)
gives_one image f (instruction.Arithmetic row s) = ap reverse (arithmetic_gives image f row s) ∙ sym (arithmetic_gives image f row s)
gives_one image f (instruction.Jump row to) = by row
  where
    by : (r : Jump) → reverse (gives image f (instruction.Jump r to)) ≡ gives image f (instruction.Jump r to)
    by jump.Always = refl
    by jump.IfZero = refl
    by jump.Back = refl
gives_one image f i = refl

module _ (parts : Parts) (f : Function) (n : ℕ) (stack : List Operand) (stand : Stand parts f n stack) where
  as_high : length stack ≡ length (kinds_before (reading_of parts) f n)
  as_high = sym (as_long kind_in stack) ∙ ap length stand ∙ length-reverse (kinds_before (reading_of parts) f n)

  top_are : (count : ℕ) → count ≤ length stack → map kind_in (drop (length stack - count) stack) ≡ reverse (take count (kinds_before (reading_of parts) f n))
  top_are count le =
      sym (drop-map kind_in (length stack - count) stack) ∙ ap (drop (length stack - count)) stand
      ∙ ap (λ m. drop (m - count) (reverse (kinds_before (reading_of parts) f n))) as_high
      ∙ last_are (kinds_before (reading_of parts) f n) count (let e = as_high in omega (arith, le, e))

  rest_are : (count : ℕ) → map kind_in (take (length stack - count) stack) ≡ reverse (drop count (kinds_before (reading_of parts) f n))
  rest_are count =
      sym (take-map kind_in (length stack - count) stack) ∙ ap (take (length stack - count)) stand
      ∙ ap (λ m. take (m - count) (reverse (kinds_before (reading_of parts) f n))) as_high
      ∙ before_last (kinds_before (reading_of parts) f n) count

  -- ---- heights

  empty_decides : (i : Instruction) → Decides (cond (empties i) (length stack - count_off (reading_of parts) f i == 0) true) (Empty (reading_of parts) f i (kinds_before (reading_of parts) f n))
  empty_decides (instruction.Jump jump.Always to) = of 0
    where
      of : (count : ℕ) → Decides (length stack - count == 0) (drop count (kinds_before (reading_of parts) f n) ≡ [])
      of count = subst (λ m. Decides (m - count == 0) (drop count (kinds_before (reading_of parts) f n) ≡ [])) (sym as_high) (left_none (kinds_before (reading_of parts) f n) count)
  empty_decides (instruction.Jump jump.Back to) = of 0
    where
      of : (count : ℕ) → Decides (length stack - count == 0) (drop count (kinds_before (reading_of parts) f n) ≡ [])
      of count = subst (λ m. Decides (m - count == 0) (drop count (kinds_before (reading_of parts) f n) ≡ [])) (sym as_high) (left_none (kinds_before (reading_of parts) f n) count)
  empty_decides (instruction.Jump jump.IfZero to) = of 1
    where
      of : (count : ℕ) → Decides (length stack - count == 0) (drop count (kinds_before (reading_of parts) f n) ≡ [])
      of count = subst (λ m. Decides (m - count == 0) (drop count (kinds_before (reading_of parts) f n) ≡ [])) (sym as_high) (left_none (kinds_before (reading_of parts) f n) count)
  empty_decides (instruction.Simple simple.Return) = of (length (result_kinds f.result))
    where
      of : (count : ℕ) → Decides (length stack - count == 0) (drop count (kinds_before (reading_of parts) f n) ≡ [])
      of count = subst (λ m. Decides (m - count == 0) (drop count (kinds_before (reading_of parts) f n) ≡ [])) (sym as_high) (left_none (kinds_before (reading_of parts) f n) count)
  empty_decides i = always

  clear_decides : (target : Bool) → target ≡ is_named f.code n → Decides (cond target (length stack == 0) true) (IsTarget f n → kinds_before (reading_of parts) f n ≡ [])
  clear_decides true is =
      (λ e t. nothing (kinds_before (reading_of parts) f n) (sym as_high ∙ eqb-true (length stack) 0 e), λ h. eq-eqb (length stack) 0 (as_high ∙ ap length (h ((target_decides f n).0 (sym is)))))
  clear_decides false is = (λ e t. absurd (not_true (is ∙ (target_decides f n).1 t)), λ h. refl)
    where
      not_true : false ≡ true → ⊥
      not_true e = absurd cc

  height_decides : (i : Instruction) (target : Bool) → target ≡ is_named f.code n → count_off (reading_of parts) f i ≤ length stack
      → Decides (is_empty_enough (empties i) target (length stack - count_off (reading_of parts) f i) (length stack)) (HasHeight (reading_of parts) f n i)
  height_decides i target is le =
      let d = both _ _ (empty_decides i) (clear_decides target is) in
      (λ e. let h = d.0 e in record { enough = let same = as_high in omega (arith, le, same); empty = h.0; target = h.1 }, λ g. d.1 (g.empty, g.target))

  -- ---- kinds

  usual : (ts : List Kind) → length ts ≤ length stack
      → Decides (same_kinds (map kind_in (drop (length stack - length ts) stack)) (reverse ts)) ((lower : List Kind) × (kinds_before (reading_of parts) f n ≡ ts ++ lower))
  usual ts le = (λ e. (drop (length ts) (kinds_before (reading_of parts) f n), onto e), λ h. from h.0 h.1)
    where
      onto : same_kinds (map kind_in (drop (length stack - length ts) stack)) (reverse ts) ≡ true → kinds_before (reading_of parts) f n ≡ ts ++ drop (length ts) (kinds_before (reading_of parts) f n)
      onto e =
          let same = kinds_same _ _ e in
          let turned = sym (top_are (length ts) le) ∙ same in
          let front = sym (reverse-reverse (take (length ts) (kinds_before (reading_of parts) f n))) ∙ ap reverse turned ∙ reverse-reverse ts in
          sym (take-append-drop (length ts) (kinds_before (reading_of parts) f n)) ∙ ap (λ xs. xs ++ drop (length ts) (kinds_before (reading_of parts) f n)) front

      from : (lower : List Kind) → kinds_before (reading_of parts) f n ≡ ts ++ lower → same_kinds (map kind_in (drop (length stack - length ts) stack)) (reverse ts) ≡ true
      from lower is =
          ap (λ xs. same_kinds xs (reverse ts)) (top_are (length ts) le ∙ ap reverse (ap (take (length ts)) is ∙ take-append_seam ts lower)) ∙ kinds_themselves (reverse ts)

  operands_decide : (i : Instruction) → count_off (reading_of parts) f i ≤ length stack
      → Decides (are_kinds parts f i (drop (length stack - count_off (reading_of parts) f i) stack)) (Operands (reading_of parts) f i (kinds_before (reading_of parts) f n))
  operands_decide (instruction.Simple simple.Pop) le = (λ e. some (kinds_before (reading_of parts) f n) (let same = as_high in omega (arith, le, same)), λ h. refl)
    where
      some : (ks : List Kind) → 1 ≤ length ks → (kind : Kind) × (lower : List Kind) × (ks ≡ kind ∷ lower)
      some [] le = absurd (omega (arith, le))
      some (k ∷ ks) le = (k, ks, refl)
  operands_decide i le = usual (takes (reading_of parts) f i) le

  -- ---- the whole test

  module _ (there : n < length f.code) (target : Bool) (is : target ≡ is_named f.code n) where
    Named : Type 0
    Named = Names true (reading_of parts) f (instruction_at f n)

    first_alone : (s : Rule) → rank s < 0 → KeepsAt (reading_of parts) f n s
    first_alone s l = absurd (omega (arith, l))

    after_names : Names true (reading_of parts) f (instruction_at f n) → (s : Rule) → rank s < 1 → KeepsAt (reading_of parts) f n s
    after_names names rule.Number l = names
    after_names names rule.Target l = absurd (omega (arith, l))
    after_names names rule.Height l = absurd (omega (arith, l))
    after_names names rule.Kind l = absurd (omega (arith, l))

    after_targets : Names true (reading_of parts) f (instruction_at f n) → GoesOn f n (instruction_at f n) → (s : Rule) → rank s < 2 → KeepsAt (reading_of parts) f n s
    after_targets names goes rule.Number l = names
    after_targets names goes rule.Target l = goes
    after_targets names goes rule.Height l = absurd (omega (arith, l))
    after_targets names goes rule.Kind l = absurd (omega (arith, l))

    after_heights : Names true (reading_of parts) f (instruction_at f n) → GoesOn f n (instruction_at f n) → HasHeight (reading_of parts) f n (instruction_at f n) → (s : Rule) → rank s < 3 → KeepsAt (reading_of parts) f n s
    after_heights names goes high rule.Number l = names
    after_heights names goes high rule.Target l = goes
    after_heights names goes high rule.Height l = high
    after_heights names goes high rule.Kind l = absurd (omega (arith, l))

    all_of : Names true (reading_of parts) f (instruction_at f n) → GoesOn f n (instruction_at f n) → HasHeight (reading_of parts) f n (instruction_at f n)
        → Operands (reading_of parts) f (instruction_at f n) (kinds_before (reading_of parts) f n) → KeepsAll parts f n
    all_of names goes high kinds rule.Number = names
    all_of names goes high kinds rule.Target = goes
    all_of names goes high kinds rule.Height = high
    all_of names goes high kinds rule.Kind = kinds

    -- what an answer tells
    abbrev pub Tells : Result ℕ Rule → Type 0
    Tells (Ok left) = KeepsAll parts f n × (left ≡ length stack - count_off (reading_of parts) f (instruction_at f n)) × (names_what_is_there parts f (instruction_at f n) ≡ true)
    Tells (Err r) = BreaksHere parts f n r

    from_kinds : names_what_is_there parts f (instruction_at f n) ≡ true → GoesOn f n (instruction_at f n) → HasHeight (reading_of parts) f n (instruction_at f n)
        → count_off (reading_of parts) f (instruction_at f n) ≤ length stack → (b : Bool)
        → are_kinds parts f (instruction_at f n) (drop (length stack - count_off (reading_of parts) f (instruction_at f n)) stack) ≡ b
        → Tells (cond b (Ok (length stack - count_off (reading_of parts) f (instruction_at f n))) (Err rule.Kind))
    from_kinds names goes high le true e =
        (all_of ((names_decide parts f (instruction_at f n)).0 names) goes high ((operands_decide (instruction_at f n) le).0 e), refl, names)
    from_kinds names goes high le false e =
        record { broken = refused _ (operands_decide (instruction_at f n) le) e; earlier = after_heights ((names_decide parts f (instruction_at f n)).0 names) goes high }

    from_height : names_what_is_there parts f (instruction_at f n) ≡ true → GoesOn f n (instruction_at f n) → count_off (reading_of parts) f (instruction_at f n) ≤ length stack → (b : Bool)
        → is_empty_enough (empties (instruction_at f n)) target (length stack - count_off (reading_of parts) f (instruction_at f n)) (length stack) ≡ b
        → Tells (cond b (checked_kinds parts f (instruction_at f n) stack (length stack - count_off (reading_of parts) f (instruction_at f n))) (Err rule.Height))
    from_height names goes le true e = from_kinds names goes ((height_decides (instruction_at f n) target is le).0 e) le _ refl
    from_height names goes le false e =
        record { broken = refused _ (height_decides (instruction_at f n) target is le) e; earlier = after_targets ((names_decide parts f (instruction_at f n)).0 names) goes }

    too_low : (count : ℕ) → length stack < count → (HasHeight (reading_of parts) f n (instruction_at f n)) → count ≡ count_off (reading_of parts) f (instruction_at f n) → ⊥
    too_low count l high same = let e = as_high in let enough = high.enough in omega (arith, l, e, enough, same)

    from_count : names_what_is_there parts f (instruction_at f n) ≡ true → GoesOn f n (instruction_at f n) → (b : Bool)
        → nat_le (count_off (reading_of parts) f (instruction_at f n)) (length stack) ≡ b
        → Tells (checked_height parts f (instruction_at f n) target stack (cond b (Some (length stack - count_off (reading_of parts) f (instruction_at f n))) None))
    from_count names goes true e = from_height names goes (leb-true _ _ e) _ refl
    from_count names goes false e =
        record {
          broken = λ high. refused _ (at_most (count_off (reading_of parts) f (instruction_at f n)) (length stack)) e (let same = as_high in let enough = high.enough in omega (arith, same, enough));
          earlier = after_targets ((names_decide parts f (instruction_at f n)).0 names) goes;
        }

    from_targets : names_what_is_there parts f (instruction_at f n) ≡ true → (b : Bool)
        → (leads_inside (length f.code) n (instruction_at f n) && may_end (length f.code) n (instruction_at f n)) ≡ b
        → Tells (cond b (checked_height parts f (instruction_at f n) target stack (left_below (count_off (reading_of parts) f (instruction_at f n)) (length stack))) (Err rule.Target))
    from_targets names true e = from_count names ((goes_on_decides f n (instruction_at f n) there).0 e) _ refl
    from_targets names false e =
        record { broken = refused _ (goes_on_decides f n (instruction_at f n) there) e; earlier = after_names ((names_decide parts f (instruction_at f n)).0 names) }

    from_names : (b : Bool) → names_what_is_there parts f (instruction_at f n) ≡ b
        → Tells (cond b (cond (leads_inside (length f.code) n (instruction_at f n) && may_end (length f.code) n (instruction_at f n)) (checked_height parts f (instruction_at f n) target stack
        (left_below (count_off (reading_of parts) f (instruction_at f n)) (length stack))) (Err rule.Target)) (Err rule.Number))
    from_names true e = from_targets e _ refl
    from_names false e = record { broken = refused _ (names_decide parts f (instruction_at f n)) e; earlier = first_alone }

    pub told : (r : Result ℕ Rule) → r ≡ checked parts f n (instruction_at f n) target stack → Tells r
    told r e = subst Tells (sym e) (from_names _ refl)

    pub broken_here : (r : Rule) → Err r ≡ checked parts f n (instruction_at f n) target stack → BreaksHere parts f n r
    broken_here r e = told (Err r) e

    pub kept_here : (left : ℕ) → Ok left ≡ checked parts f n (instruction_at f n) target stack → KeepsAll parts f n
    kept_here left e = (told (Ok left) e).0

    pub named_here : (left : ℕ) → Ok left ≡ checked parts f n (instruction_at f n) target stack → names_what_is_there parts f (instruction_at f n) ≡ true
    named_here left e = (told (Ok left) e).2

    pub stand_next : (left : ℕ) (next : List Operand) → Ok left ≡ checked parts f n (instruction_at f n) target stack
        → map kind_in next ≡ map kind_in (take left stack) ++ gives (reading_of parts) f (instruction_at f n) → Stand parts f (suc n) next
    stand_next left next e is =
        is ∙ ap (λ m. map kind_in (take m stack) ++ gives (reading_of parts) f (instruction_at f n)) (told (Ok left) e).1
        ∙ ap (λ ks. ks ++ gives (reading_of parts) f (instruction_at f n)) (rest_are (count_off (reading_of parts) f (instruction_at f n)))
        ∙ ap (λ ks. reverse (drop (count_off (reading_of parts) f (instruction_at f n)) (kinds_before (reading_of parts) f n)) ++ ks) (sym (gives_one (reading_of parts) f (instruction_at f n)))
        ∙ sym (reverse-append (gives (reading_of parts) f (instruction_at f n)) (drop (count_off (reading_of parts) f (instruction_at f n)) (kinds_before (reading_of parts) f n)))
