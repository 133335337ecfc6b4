-- Operands, locals and places of a sound image.
use Rattle.std.proofs.Common.{◌≡◌, ℕ, zero, suc, ◌+◌, ◌<◌, pos, true, List, [], ◌∷◌, ◌++◌, length, map, take, drop, get_or, reverse, Option, Some, None, refl, sym, ap, ◌∙◌, subst, arith}
use Rattle.std.specs.List.{AllByRecursion as Every, AllZip, list_all}
use Rattle.std.proofs.lemmas.List.{reverse-append, reverse-reverse, length-reverse}
use Rattle.rc_core.specs.declared.ty.NumberType.TheVariants.{Int, Unsigned, Char}
use Rattle.rc_core.specs.declared.ty.Signedness.{Signedness}
use Rattle.rc_core.specs.Types.{int_cell}
use Rattle.rc_core.specs.Layout.{Layout, note_of}
use Rattle.std.specs.Prelude.{◌+ℤ◌}
use Rattle.rc_core.specs.Heap.{Value, Null, Pointer, Address, Heap, no_region, no_object, objects, object_at, update}
use Rattle.rc_core.specs.Runs.{Chosen, Target}
use Rattle.rc_core.specs.Source.{World, Spot, object_of, values_from, chosen_in_range, cells_chosen, first_of}
use Rattle.rc_core.specs.Evaluation.{local_at, number_in}
use Rattle.rc_kinds.proofs.InRange.{converted_fits}
use Rattle.rc_safety.proofs.Lists.{every_map, every_get_or, zip_more, zip_append}
use Rattle.rc_code.specs.declared.kind.Storage.TheVariants as storage
use Rattle.rc_code.specs.declared.kind.Storage.{Storage}
use Rattle.rc_code.specs.declared.image.Index.{Index}
use Rattle.rc_code.specs.declared.image.Path.{Path}
use Rattle.rc_code.specs.declared.image.Function.{Function}
use Rattle.rc_code.specs.Running.{layout_at, cell_at, storage_of, kept, kept_all, first_in, chosen_values, shift_count, width, target_of, target_on, pinned, first_locals}
use Rattle.rc_code.specs.Soundness.{Kind, numbers, pointers, operand_kind, shift_kinds, place_kinds, parameter_kinds}
use Rattle.rc_worlds.specs.Worlds.{Compared}
use Rattle.rc_worlds.specs.Typed.{Shape, HasKind, Keeps, Stored, ObjectIsTyped, RegionIsTyped, IsMade, Good, Grows}
use Rattle.rc_worlds.specs.Facts.{PathIsSound}
use Rattle.rc_worlds.proofs.Does.{IsSpot}
use Rattle.rc_worlds.proofs.Typed.{shape_is, suits_grow, keeps_grow, suits_made, element_zip}
use Rattle.rc_worlds.proofs.WorldOps.{index_is_below}
use Rattle.rc_worlds.proofs.Ranges.{byte_is_int}

pub zip_length : {A B : Type 0} (R : A → B → Type 0) (xs : List A) (ys : List B) → AllZip R xs ys → length ys ≡ length xs
zip_length R [] [] all = refl
zip_length R [] (y ∷ ys) all = absurd all
zip_length R (x ∷ xs) [] all = absurd all
zip_length R (x ∷ xs) (y ∷ ys) all = ap suc (zip_length R xs ys all.1)

pub zip_take : {A B : Type 0} (R : A → B → Type 0) (xs rest : List A) (ys : List B) → AllZip R (xs ++ rest) ys → AllZip R xs (take (length xs) ys)
zip_take R [] rest ys all = tt
zip_take R (x ∷ xs) rest [] all = absurd all
zip_take R (x ∷ xs) rest (y ∷ ys) all = (all.0, zip_take R xs rest ys all.1)

pub zip_drop : {A B : Type 0} (R : A → B → Type 0) (xs rest : List A) (ys : List B) → AllZip R (xs ++ rest) ys → AllZip R rest (drop (length xs) ys)
zip_drop R [] rest ys all = all
zip_drop R (x ∷ xs) rest [] all = absurd all
zip_drop R (x ∷ xs) rest (y ∷ ys) all = zip_drop R xs rest ys all.1

pub zip_reverse : {A B : Type 0} (R : A → B → Type 0) (xs : List A) (ys : List B) → AllZip R xs ys → AllZip R (reverse xs) (reverse ys)
zip_reverse R [] [] all = tt
zip_reverse R [] (y ∷ ys) all = absurd all
zip_reverse R (x ∷ xs) [] all = absurd all
zip_reverse R (x ∷ xs) (y ∷ ys) all =
    subst (λ us. AllZip R us (reverse (y ∷ ys))) (sym (reverse-append (x ∷ []) xs))
    (subst (λ vs. AllZip R (reverse xs ++ x ∷ []) vs) (sym (reverse-append (y ∷ []) ys))
    (zip_append R (reverse xs) (x ∷ []) (reverse ys) (y ∷ []) (zip_reverse R xs ys all.1) (all.0, tt)))

-- in the order in which they were pushed
pub zip_pushed : {A B : Type 0} (R : A → B → Type 0) (xs rest : List A) (ys : List B) (n : ℕ) → n ≡ length xs → AllZip R (reverse xs ++ rest) ys → AllZip R xs (reverse (take n ys))
zip_pushed R xs rest ys n e all =
    subst (λ us. AllZip R us (reverse (take n ys))) (reverse-reverse xs)
    (zip_reverse R (reverse xs) (take n ys) (subst (λ m. AllZip R (reverse xs) (take m ys)) (length-reverse xs ∙ sym e) (zip_take R (reverse xs) rest ys all)))

pub zip_below : {A B : Type 0} (R : A → B → Type 0) (xs rest : List A) (ys : List B) (n : ℕ) → n ≡ length xs → AllZip R (reverse xs ++ rest) ys → AllZip R rest (drop n ys)
zip_below R xs rest ys n e all = subst (λ m. AllZip R rest (drop m ys)) (length-reverse xs ∙ sym e) (zip_drop R (reverse xs) rest ys all)

pub zip_get : {A B : Type 0} (R : A → B → Type 0) (xs : List A) (ys : List B) (i : ℕ) (a : A) (b : B) → AllZip R xs ys → i < length xs → R (get_or xs i a) (get_or ys i b)
zip_get R [] ys i a b all below = absurd (omega (arith, below))
zip_get R (x ∷ xs) [] i a b all below = absurd all
zip_get R (x ∷ xs) (y ∷ ys) zero a b all below = all.0
zip_get R (x ∷ xs) (y ∷ ys) (suc i) a b all below = zip_get R xs ys i a b all.1 (omega (arith, below))

pub zip_update : {A B : Type 0} (R : A → B → Type 0) (xs : List A) (ys : List B) (i : ℕ) (a : A) (v : B) → AllZip R xs ys → R (get_or xs i a) v → AllZip R xs (update ys i (λ _. v))
zip_update R [] [] i a v all r = tt
zip_update R [] (y ∷ ys) i a v all r = absurd all
zip_update R (x ∷ xs) [] i a v all r = absurd all
zip_update R (x ∷ xs) (y ∷ ys) zero a v all r = (r, all.1)
zip_update R (x ∷ xs) (y ∷ ys) (suc i) a v all r = (all.0, zip_update R xs ys i a v all.1 r)

length_kinds : (is : List Index) → length (map (λ (i : Index). numbers i.kind) is) ≡ length is
length_kinds [] = refl
length_kinds (i ∷ is) = ap suc (length_kinds is)

module _ (image : Compared) where
  abbrev pub AreKinds : Heap → List Kind → List Value → Type 0
  AreKinds heap kinds vs = AllZip (HasKind image heap) kinds vs

  abbrev pub AreLocals : Heap → List Storage → List Value → Type 0
  AreLocals heap ss env = AllZip (Keeps image heap) ss env

  pub kinds_grow : (a b : Heap) → Grows a b → (kinds : List Kind) (vs : List Value) → AreKinds a kinds vs → AreKinds b kinds vs
  kinds_grow a b grows kinds vs all = zip_more (HasKind image a) (HasKind image b) (suits_grow image a b grows) kinds vs all

  pub locals_grow : (a b : Heap) → Grows a b → (ss : List Storage) (env : List Value) → AreLocals a ss env → AreLocals b ss env
  locals_grow a b grows ss env all = zip_more (Keeps image a) (Keeps image b) (keeps_grow image a b grows) ss env all

  pub locals_made : (heap : Heap) (ss : List Storage) (env : List Value) → AreLocals heap ss env → Every (IsMade heap) env
  locals_made heap [] [] all = tt
  locals_made heap [] (v ∷ env) all = absurd all
  locals_made heap (s ∷ ss) [] all = absurd all
  locals_made heap (s ∷ ss) (v ∷ env) all = (suits_made image heap (operand_kind s) v all.0.kind, locals_made heap ss env all.1)

  pub pinned_made : (heap : Heap) (pins : List ℕ) (ss : List Storage) (env : List Value) → AreLocals heap ss env → Every (IsMade heap) (pinned pins env)
  pinned_made heap pins ss env all = every_map (IsMade heap) (local_at env) (λ x. every_get_or (IsMade heap) env x Null tt (locals_made heap ss env all)) pins

  -- what an operand is kept as
  pub kept_suits : (heap : Heap) (s : Storage) (v : Value) → HasKind image heap (operand_kind s) v → Keeps image heap s (kept s v)
  kept_suits heap (storage.Number Int) v is = record { kind = is; narrow = tt }
  kept_suits heap (storage.Number Unsigned) v is = record { kind = is; narrow = tt }
  kept_suits heap (storage.Number Char) v is = record { kind = record { suits = λ _. byte_is_int (number_in v) }; narrow = λ _. converted_fits Char (number_in v) }
  kept_suits heap storage.Region v is = record { kind = is; narrow = tt }
  kept_suits heap (storage.Pointer t) v is = record { kind = is; narrow = tt }

  first_suits : (heap : Heap) (ss : List Storage) → AreLocals heap ss (map first_in ss)
  first_suits heap [] = tt
  first_suits heap (s ∷ ss) = (one s, first_suits heap ss)
    where
      one : (s : Storage) → Keeps image heap s (first_in s)
      one (storage.Number Int) = record { kind = record { suits = λ _. refl }; narrow = tt }
      one (storage.Number Unsigned) = record { kind = record { suits = λ _. refl }; narrow = tt }
      one (storage.Number Char) = record { kind = record { suits = λ _. refl }; narrow = λ _. refl }
      one storage.Region = record { kind = record { suits = tt }; narrow = tt }
      one (storage.Pointer t) = record { kind = record { suits = tt }; narrow = tt }

  -- the locals at the entry of a function
  locals_begin : (heap : Heap) (n : ℕ) (ss : List Storage) (vs : List Value) → AreKinds heap (map operand_kind (take n ss)) vs → AreLocals heap ss (kept_all ss vs ++ map first_in (drop (length vs) ss))
  locals_begin heap zero ss [] all = first_suits heap ss
  locals_begin heap zero ss (v ∷ vs) all = absurd all
  locals_begin heap (suc n) [] [] all = tt
  locals_begin heap (suc n) [] (v ∷ vs) all = absurd all
  locals_begin heap (suc n) (s ∷ ss) [] all = absurd all
  locals_begin heap (suc n) (s ∷ ss) (v ∷ vs) all = (kept_suits heap s v all.0, locals_begin heap n ss vs all.1)

  pub first_locals_suit : (heap : Heap) (f : Function) (vs : List Value) → AreKinds heap (parameter_kinds f) vs → AreLocals heap f.locals (first_locals f vs)
  first_locals_suit heap f vs all = locals_begin heap f.parameters f.locals vs all

  -- a place on the stack
  pub record Parts (heap : Heap) (p : Path) (shift : Option Signedness) (vs : List Value) : Type 0 where
    pub pointer : HasKind image heap (pointers p.type_number) (target_of p shift vs).pointer
    pub indices : List Value
    pub long : length indices ≡ length p.indices
    pub chosen : (target_of p shift vs).chosen ≡ chosen_values p.indices indices
    pub offset : (target_of p shift vs).offset ≡ p.offset

  parts : (heap : Heap) (p : Path) (shift : Option Signedness) (vs : List Value) → AreKinds heap (pointers p.type_number ∷ (shift_kinds shift ++ map (λ (i : Index). numbers i.kind) p.indices)) vs → Parts heap p shift vs
  parts heap p None [] all = absurd all
  parts heap p None (v ∷ vs) all = record { pointer = all.0; indices = vs; long = zip_length (HasKind image heap) _ vs all.1 ∙ length_kinds p.indices; chosen = refl; offset = refl }
  parts heap p (Some s) [] all = absurd all
  parts heap p (Some s) (v ∷ []) all = absurd all.1
  parts heap p (Some s) (v ∷ n ∷ vs) all = record { pointer = all.0; indices = vs; long = zip_length (HasKind image heap) _ vs all.1.1 ∙ length_kinds p.indices; chosen = refl; offset = refl }

  pub width_is : (p : Path) → width p ≡ length (place_kinds p)
  width_is p = by p.shift
    where
      by : (shift : Option Signedness) → suc (shift_count shift + length p.indices) ≡ suc (length (shift_kinds shift ++ map (λ (i : Index). numbers i.kind) p.indices))
      by None = let e = length_kinds p.indices in omega (arith, e)
      by (Some s) = let e = length_kinds p.indices in omega (arith, e)

  -- the pointer of a place
  pub pointer_reached : (heap : Heap) (p : Path) (below : List Kind) (stack : List Value) → AreKinds heap (reverse (place_kinds p) ++ below) stack → HasKind image heap (pointers p.type_number) (target_on p stack).pointer
  pointer_reached heap p below stack all = (parts heap p p.shift (reverse (take (width p) stack)) (zip_pushed (HasKind image heap) (place_kinds p) below stack (width p) (width_is p) all)).pointer

  -- the cell that is reached is inside an element of the path's type, and of the path's kind
  pub record Reached (heap : Heap) (p : Path) (spot : Spot) : Type 0 where
    pub layout : (object_of heap spot).layout ≡ layout_at image.code p.type_number
    pub inside : spot.cell < length (object_of heap spot).layout
    pub kind : storage_of image.code (get_or (object_of heap spot).layout spot.cell int_cell) ≡ storage_of image.code (cell_at image.code p)
    pub noted : note_of (get_or (object_of heap spot).layout spot.cell int_cell) ≡ note_of (cell_at image.code p)

  pub place_reached : (w : World) (p : Path) (below : List Kind) (stack : List Value) → PathIsSound image.code p → AreKinds w.heap (reverse (place_kinds p) ++ below) stack
      → (a : Address) (spot : Spot) → IsSpot image w (target_on p stack) a spot → Reached w.heap p spot
  place_reached w p below stack sound all a spot is = record { layout = layout; inside = subst (λ (l : Layout). spot.cell < length l) (sym layout) inside; kind = ap (λ (l : Layout). storage_of image.code (get_or l spot.cell int_cell)) layout ∙ kind; noted = ap (λ (l : Layout). note_of (get_or l spot.cell int_cell)) layout ∙ noted }
    where
      target : Target
      target = target_on p stack

      of : Parts w.heap p p.shift (reverse (take (width p) stack))
      of = parts w.heap p p.shift (reverse (take (width p) stack)) (zip_pushed (HasKind image w.heap) (place_kinds p) below stack (width p) (width_is p) all)

      pointer : HasKind image w.heap (pointers p.type_number) (Pointer a)
      pointer = subst (HasKind image w.heap (pointers p.type_number)) is.pointer of.pointer

      layout : (object_of w.heap spot).layout ≡ layout_at image.code p.type_number
      layout =
          ap (λ r. (object_at w.heap r spot.object).layout) is.there.0
          ∙ ap (λ o. (object_at w.heap a.region o).layout) is.there.1
          ∙ ap (λ (s : Shape). s.layout) (shape_is w.heap a.region a.object _ pointer.suits.there)

      in_range : list_all chosen_in_range (chosen_values p.indices of.indices) ≡ true
      in_range = subst (λ (cs : List Chosen). list_all chosen_in_range cs ≡ true) of.chosen is.chosen

      cell : spot.cell ≡ p.offset + cells_chosen (chosen_values p.indices of.indices)
      cell = is.cell ∙ ap (λ n. n + cells_chosen target.chosen) of.offset ∙ ap (λ (cs : List Chosen). p.offset + cells_chosen cs) of.chosen

      inside : spot.cell < length (layout_at image.code p.type_number)
      inside = subst (λ n. n < length (layout_at image.code p.type_number)) (sym cell) (sound.inside of.indices of.long in_range)

      kind : storage_of image.code (get_or (layout_at image.code p.type_number) spot.cell int_cell) ≡ storage_of image.code (cell_at image.code p)
      kind = ap (λ n. storage_of image.code (get_or (layout_at image.code p.type_number) n int_cell)) cell ∙ sound.alike of.indices of.long in_range

      noted : note_of (get_or (layout_at image.code p.type_number) spot.cell int_cell) ≡ note_of (cell_at image.code p)
      noted = ap (λ n. note_of (get_or (layout_at image.code p.type_number) n int_cell)) cell ∙ sound.noted of.indices of.long in_range

  -- what stands there is of the kind
  pub value_reached : (w : World) (p : Path) (x : Target) (a : Address) (spot : Spot) → Good image w → IsSpot image w x a spot → Reached w.heap p spot → Keeps image w.heap (storage_of image.code (cell_at image.code p)) (first_of (values_from w.heap spot 1))
  value_reached w p x a spot good is reached =
      subst (λ s. Keeps image w.heap s (first_of (values_from w.heap spot 1))) reached.kind
      (element_zip (Stored image w.heap) (object_of w.heap spot).layout (object_of w.heap spot).count spot.element spot.cell (object_of w.heap spot).values
      object (subst (λ n. n < (object_of w.heap spot).count) (sym is.element) (index_is_below (pos a.index +ℤ x.shift) (object_of w.heap spot).count is.inside)) reached.inside)
    where
      object : ObjectIsTyped image w.heap (object_of w.heap spot)
      object = every_get_or (ObjectIsTyped image w.heap) (objects w.heap spot.region) spot.object no_object tt (every_get_or (RegionIsTyped image w.heap) w.heap spot.region no_region tt good.typed.regions)
