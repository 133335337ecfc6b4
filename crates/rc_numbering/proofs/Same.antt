-- Numbered code does what the stack code does.
use Rattle.std.proofs.Common.{◌≡◌, ◌≤◌, ℕ, zero, suc, ◌+◌, pos, Bool, true, false, List, [], ◌∷◌, ◌++◌, length, map, take, drop, reverse, get_or, Option, Some, None, refl, sym, ap, ◌∙◌, arith, append_assoc}
use Rattle.std.specs.Prelude.{◌-◌, ◌⊎◌, IsSome, IsTrue}
use Rattle.std.proofs.Common.{inl, inr}
use Rattle.std.proofs.lemmas.List.{reverse-append}
use Rattle.rc_core.specs.declared.ty.NumberType.TheVariants.{Int, Unsigned, Char}
use Rattle.rc_core.specs.declared.ty.Signedness.{Signedness}
use Rattle.rc_core.specs.Types.{Ty, int, unsigned, char, region, struct, pointer}
use Rattle.rc_core.specs.Arithmetic.{converted, type_of, calculate, calculate_one}
use Rattle.rc_core.specs.Heap.{Value, Number, Null}
use Rattle.rc_core.specs.Runs.{Run, Go, Stopped, bind, branching, computed, Target, Calls}
use Rattle.rc_core.specs.Evaluation.{number_in, is_true, same_value, as_wanted, toward, static, region_named, local_at, give_number}
use Rattle.rc_core.specs.Execution.{with_local}
use Rattle.rc_rlang.specs.RegionCode.{Index, Access, width}
use Rattle.rc_rlang.specs.RegionFits.{place_types, pushed, dropped}
use Rattle.rc_rlang.specs.RegionKinds.{kind_ty, result_kind}
use Rattle.rc_rlang.specs.RegionRuns as Source
use Rattle.rc_emission.specs.StackCode.{Line}
use Rattle.rc_emission.specs.StackCode as From
use Rattle.rc_emission.proofs.ActsDo.{place_width}
use Rattle.rc_core.specs.declared.ty.Note.TheVariants.{Plain}
use Rattle.rc_core.specs.Numbers.{byte_of}
use Rattle.rc_core.specs.Typing.{arithmetic, number, is_shift, is_comparison}
use Rattle.rc_stack_rules.specs.LoaderRules.{right_kind, converted_from, local_kind, kinds, after, Operands, Lands, Jumps, Sound}
use Rattle.rc_code.specs.declared.kind.Storage.{Storage}
use Rattle.rc_code.specs.declared.kind.Storage.TheVariants as storage
use Rattle.rc_code.specs.declared.image.Function.{Function}
use Rattle.rc_code.specs.declared.image.Path.{Path}
use Rattle.rc_code.specs.Running.{Reading, Doing, Operation, two, one, operation, path_at, layout_at, function_at, cell_at, line_at, kept, result_of, value_at, chosen_values, target_of, target_on, Next, onward, backward, done, Onward, effect, resume, walk, rounds}
use Rattle.rc_code.specs.Running as To
use Rattle.rc_numbering.specs.Names.{index_of, path_of}
use Rattle.rc_numbering.specs.Numbered.{word_of, row_of, unary_row, numbered, numbered_from}
use Rattle.rc_numbering.specs.Waits.{Keeps, Waiting}
use Rattle.rc_rlang.specs.RegionCode.{shift_width}
use Rattle.std.proofs.Common.{length-append}

-- ---- operands

nothing_behind : {A : Type 0} (xs : List A) → xs ++ [] ≡ xs
nothing_behind [] = refl
nothing_behind (x ∷ xs) = ap (λ ys. x ∷ ys) (nothing_behind xs)

turned : {A : Type 0} (x : A) (xs ys : List A) → reverse (x ∷ xs) ++ ys ≡ reverse xs ++ x ∷ ys
turned x xs ys = ap (λ zs. zs ++ ys) (reverse-append (x ∷ []) xs) ∙ append_assoc (reverse xs) (x ∷ []) ys

popped_is : {W : Type 0} (n : ℕ) (st vs : List Value) (go : List Value → List Value → Run W Value) (w : W) → n ≤ length st → From.popped n st vs go w ≡ go (reverse (take n st) ++ vs) (drop n st)
popped_is zero st vs go w le = refl
popped_is (suc n) [] vs go w le = absurd (omega (arith, le))
popped_is (suc n) (v ∷ st) vs go w le = popped_is n st (v ∷ vs) go w (omega (arith, le)) ∙ ap (λ us. go us (drop n st)) (sym (turned v (take n st) vs))

popped_all : {W : Type 0} (n : ℕ) (st : List Value) (go : List Value → List Value → Run W Value) (w : W) → n ≤ length st → From.popped n st [] go w ≡ go (reverse (take n st)) (drop n st)
popped_all n st go w le = popped_is n st [] go w le ∙ ap (λ us. go us (drop n st)) (nothing_behind (reverse (take n st)))

length_rest : (n b : ℕ) (st : List Value) → length st ≡ n + b → length (drop n st) ≡ b
length_rest zero b st e = omega (arith, e)
length_rest (suc n) b [] e = absurd (omega (arith, e))
length_rest (suc n) b (v ∷ st) e = length_rest n b st (omega (arith, e))

length_pushed : (xs below : List Ty) → length (pushed xs below) ≡ length xs + length below
length_pushed [] below = omega arith
length_pushed (x ∷ xs) below = let r = length_pushed xs (x ∷ below) in omega (arith, r)

pub dropped_pushed : (xs below : List Ty) → dropped (length xs) (pushed xs below) ≡ below
dropped_pushed xs below = by xs below []
  where
    drop_more : (n : ℕ) (ys : List Ty) (y : Ty) (below : List Ty) → dropped n ys ≡ y ∷ below → dropped (suc n) ys ≡ below
    drop_more zero ys y below e = ap (dropped 1) e
    drop_more (suc n) [] y below e = cc
    drop_more (suc n) (z ∷ ys) y below e = drop_more n ys y below e

    by : (xs below unused : List Ty) → dropped (length xs) (pushed xs below) ≡ below
    by [] below unused = refl
    by (x ∷ xs) below unused = drop_more (length xs) (pushed xs (x ∷ below)) x below (by xs (x ∷ below) unused)

length_kinds : (tys : List Ty) → length (kinds tys) ≡ length tys
length_kinds [] = refl
length_kinds (ty ∷ tys) = ap suc (length_kinds tys)

-- ---- places

length_indices : (is : List Index) → length (map index_of is) ≡ length is
length_indices [] = refl
length_indices (i ∷ is) = ap suc (length_indices is)

chosen_same : (is : List Index) (vs : List Value) → From.chosen_values is vs ≡ chosen_values (map index_of is) vs
chosen_same [] vs = refl
chosen_same (i ∷ is) [] = refl
chosen_same (i ∷ is) (v ∷ vs) = ap (λ cs. record { index = number_in v; count = i.count; stride = i.stride } ∷ cs) (chosen_same is vs)

target_same : (type_number : Ty → ℕ) (a : Access) (shift : Option Signedness) (vs : List Value) → From.target_of a shift vs ≡ target_of (path_of type_number a) shift vs
target_same type_number a None [] = ap (λ cs. record { pointer = Null; shift = pos 0; offset = a.offset; chosen = cs }) (by a.indices)
  where
    by : (is : List Index) → [] ≡ chosen_values (map index_of is) []
    by [] = refl
    by (i ∷ is) = refl
target_same type_number a None (p ∷ vs) = ap (λ cs. record { pointer = p; shift = pos 0; offset = a.offset; chosen = cs }) (chosen_same a.indices vs)
target_same type_number a (Some s) [] = ap (λ cs. record { pointer = Null; shift = pos 0; offset = a.offset; chosen = cs }) (by a.indices)
  where
    by : (is : List Index) → [] ≡ chosen_values (map index_of is) []
    by [] = refl
    by (i ∷ is) = refl
target_same type_number a (Some s) (p ∷ []) = ap (λ cs. record { pointer = p; shift = pos 0; offset = a.offset; chosen = cs }) (by a.indices)
  where
    by : (is : List Index) → [] ≡ chosen_values (map index_of is) []
    by [] = refl
    by (i ∷ is) = refl
target_same type_number a (Some s) (p ∷ n ∷ vs) = ap (λ cs. record { pointer = p; shift = number_in n; offset = a.offset; chosen = cs }) (chosen_same a.indices vs)

width_same : (type_number : Ty → ℕ) (a : Access) → To.width (path_of type_number a) ≡ width a
width_same type_number a = by a.shift
  where
    by : (s : Option Signedness) → suc (To.shift_count s + length (map index_of a.indices)) ≡ suc (shift_width s + length a.indices)
    by None = ap (λ n. suc (0 + n)) (length_indices a.indices)
    by (Some s) = ap (λ n. suc (1 + n)) (length_indices a.indices)

last_is : (xs : List Value) (v : Value) → From.last_of (xs ++ v ∷ []) ≡ v
last_is [] v = refl
last_is (x ∷ []) v = refl
last_is (x ∷ y ∷ xs) v = last_is (y ∷ xs) v

-- a store's operands: its value comes behind those of its place
behind_place : (type_number : Ty → ℕ) (a : Access) (shift : Option Signedness) (xs : List Value) (v : Value) → length xs ≡ suc (To.shift_count shift + length a.indices)
    → From.target_of a shift (xs ++ v ∷ []) ≡ From.target_of a shift xs
behind_place type_number a None [] v e = absurd (omega (arith, e))
behind_place type_number a None (p ∷ xs) v e = ap (λ cs. record { pointer = p; shift = pos 0; offset = a.offset; chosen = cs }) (by a.indices xs (omega (arith, e)))
  where
    by : (is : List Index) (xs : List Value) → length xs ≡ length is → From.chosen_values is (xs ++ v ∷ []) ≡ From.chosen_values is xs
    by [] xs e = refl
    by (i ∷ is) [] e = absurd (omega (arith, e))
    by (i ∷ is) (x ∷ xs) e = ap (λ cs. record { index = number_in x; count = i.count; stride = i.stride } ∷ cs) (by is xs (omega (arith, e)))
behind_place type_number a (Some s) [] v e = absurd (omega (arith, e))
behind_place type_number a (Some s) (p ∷ []) v e = absurd (omega (arith, e))
behind_place type_number a (Some s) (p ∷ n ∷ xs) v e = ap (λ cs. record { pointer = p; shift = number_in n; offset = a.offset; chosen = cs }) (by a.indices xs (omega (arith, e)))
  where
    by : (is : List Index) (xs : List Value) → length xs ≡ length is → From.chosen_values is (xs ++ v ∷ []) ≡ From.chosen_values is xs
    by [] xs e = refl
    by (i ∷ is) [] e = absurd (omega (arith, e))
    by (i ∷ is) (x ∷ xs) e = ap (λ cs. record { index = number_in x; count = i.count; stride = i.stride } ∷ cs) (by is xs (omega (arith, e)))

length_turned : (n : ℕ) (st : List Value) → n ≤ length st → length (reverse (take n st)) ≡ n
length_turned zero st le = refl
length_turned (suc n) [] le = absurd (omega (arith, le))
length_turned (suc n) (v ∷ st) le =
    let r = length_turned n st (omega (arith, le)) in
    let e = ap length (sym (nothing_behind (reverse (v ∷ take n st))) ∙ turned v (take n st) []) in
    let a = length-append (reverse (take n st)) (v ∷ []) in
    omega (arith, r, e, a)

-- ---- instructions

module _ {W V : Type 0} (does : Doing W) (plain : (line : ℕ) (t : Target) (v : Value) (w : W) → does.put false line t v w ≡ does.ops.store line t v w)
    (waiting : W → V) (waits : Waiting does.ops waiting) (deleting : ℕ → Bool) (image : Reading) (type_number : Ty → ℕ) (path_number : Access → ℕ) (f : Function)
    (calls image_calls : Calls W) (keep : (g : ℕ) (vs : List Value) (w : W) → Keeps waiting w (calls g vs w))
    (Called : ℕ → List Ty → Type 0) (called : (g : ℕ) (tys : List Ty) → Called g tys → (function_at image g).parameters ≡ length tys)
    (same_calls : (g : ℕ) (tys : List Ty) → Called g tys → (vs : List Value) (w : W) → length vs ≡ length tys → calls g (Source.kept_all tys vs) w ≡ image_calls g vs w) where
  abbrev IsCall : ℕ → List Ty → List ℕ → Type 0
  IsCall g tys pins = Called g tys × (deleting g ≡ false → pins ≡ [])

  -- what an instruction says is there by its numbers
  abbrev pub Right : From.Instruction → Type 0
  Right (From.number s n) = converted (type_of s) (pos (word_of n)) ≡ n
  Right (From.set x ty) = (v : Value) → kept (get_or f.locals x storage.Region) v ≡ Source.kept ty v
  Right (From.arithmetic operator s) = operation (row_of operator) ≡ two operator
  Right (From.unary operator s) = operation (unary_row operator) ≡ one operator
  Right (From.load a) = path_at image (path_number a) ≡ path_of type_number a
  Right (From.store a) = (path_at image (path_number a) ≡ path_of type_number a) × ((v : Value) → kept (To.storage_of image (cell_at image (path_of type_number a))) v ≡ Source.kept a.cell v)
  Right (From.allocate ty layout) = layout_at image (type_number ty) ≡ layout
  Right (From.allocate_array ty layout) = layout_at image (type_number ty) ≡ layout
  Right (From.call g tys pins) = IsCall g tys pins × IsSome (function_at image g).result
  Right (From.perform g tys pins) = IsCall g tys pins × ((function_at image g).result ≡ None)
  Right (From.leave []) = f.result ≡ None
  Right (From.leave (ty ∷ [])) = IsSome f.result
  Right (From.leave (ty ∷ uy ∷ tys)) = ⊥
  Right i = Unit {0}

  abbrev pub AllRight : List Line → Type 0
  AllRight [] = Unit {0}
  AllRight (l ∷ code) = Right l.instruction × AllRight code

  module _ (line at : ℕ) (next again image_next image_again : Onward W) (env : List Value) (b : ℕ) where
    -- what is behind the instruction does the same on a stack with so many operands
    abbrev On : ℕ → Type 0
    On n = (st env : List Value) (w : W) → length st ≡ n → next 0 st env w ≡ image_next 0 st env w

    abbrev SameAct : From.Instruction → (st : List Value) → W → Type 0
    SameAct i st w = From.act does.ops deleting (record { line = line; instruction = i }) calls next again st env w ≡ bind (effect does image f line at (numbered type_number path_number at i) image_calls st env w) (resume does image image_next image_again)

    -- an operation's value goes onto the stack
    through : (m : Run W Value) (st : List Value) → On (suc (length st)) → bind m (λ v. next 0 (v ∷ st) env) ≡ bind (bind m (λ v. Go (onward 0 (v ∷ st) env))) (resume does image image_next image_again)
    through (Go v w) st on = on (v ∷ st) env w refl
    through (Stopped s w) st on = refl

    -- where nothing is pushed
    past : {A : Type 0} (m : Run W A) (st : List Value) → On (length st) → bind m (λ x. next 0 st env) ≡ bind (bind m (λ x. Go (onward 0 st env))) (resume does image image_next image_again)
    past (Go x w) st on = on st env w refl
    past (Stopped s w) st on = refl

    -- a call, with and without values that wait
    call_through : (g : ℕ) (tys : List Ty) (pins : List ℕ) (push : Value → List Value) (vs : List Value) (w : W) (deletes : Bool) → deleting g ≡ deletes → IsCall g tys pins → length vs ≡ length tys
        → ((v : Value) (w1 : W) → next 0 (push v) env w1 ≡ image_next 0 (push v) env w1)
        → bind (branching deletes (λ w1. bind (calls g (Source.kept_all tys vs) (does.ops.enter (Source.pinned pins env) w1)) (λ v w2. Go v (does.ops.leave w1 w2))) (calls g (Source.kept_all tys vs)) w) (λ v. next 0 (push v) env)
        ≡ bind (bind (image_calls g vs (does.ops.enter (To.pinned pins env) w)) (λ v w1. Go (onward 0 (push v) env) (does.ops.leave w w1))) (resume does image image_next image_again)
    call_through g tys pins push vs w true e is long on = ap (λ m. bind (bind m (λ v w2. Go v (does.ops.leave w w2))) (λ v. next 0 (push v) env)) (same_calls g tys is.0 vs (does.ops.enter (To.pinned pins env) w) long) ∙ by (image_calls g vs (does.ops.enter (To.pinned pins env) w))
      where
        by : (m : Run W Value) → bind (bind m (λ v w2. Go v (does.ops.leave w w2))) (λ v. next 0 (push v) env) ≡ bind (bind m (λ v w1. Go (onward 0 (push v) env) (does.ops.leave w w1))) (resume does image image_next image_again)
        by (Go v w2) = on v (does.ops.leave w w2)
        by (Stopped s w2) = refl
    call_through g tys pins push vs w false e is long on = by (calls g (Source.kept_all tys vs) w) (keep g (Source.kept_all tys vs) w) ∙ ap (λ m. bind (bind m (λ v w1. Go (onward 0 (push v) env) (does.ops.leave w w1))) (resume does image image_next image_again)) (entered pins (is.1 e))
      where
        entered : (pins : List ℕ) → pins ≡ [] → calls g (Source.kept_all tys vs) w ≡ image_calls g vs (does.ops.enter (To.pinned pins env) w)
        entered [] q = same_calls g tys is.0 vs w long ∙ ap (image_calls g vs) (sym (waits.enter_none w))
        entered (x ∷ pins) q = absurd (cc q)

        by : (m : Run W Value) → Keeps waiting w m → bind m (λ v. next 0 (push v) env) ≡ bind (bind m (λ v w1. Go (onward 0 (push v) env) (does.ops.leave w w1))) (resume does image image_next image_again)
        by (Go v w1) k = on v w1 ∙ ap (image_next 0 (push v) env) (sym (waits.leave_same w w1 k.holds))
        by (Stopped s w1) k = refl

    -- instructions that give a value
    zero_given : (i : From.Instruction) (v : Value) (u : Value) (st : List Value) (w : W) → v ≡ u → On (suc (length st)) → next 0 (v ∷ st) env w ≡ image_next 0 (u ∷ st) env w
    zero_given i v u st w e on = on (v ∷ st) env w refl ∙ ap (λ x. image_next 0 (x ∷ st) env w) e

    branch_same : (c : Bool) (n m : ℕ) (st : List Value) (w : W) → m ≡ n → next 0 st env w ≡ image_next 0 st env w → next n st env w ≡ image_next n st env w
        → branching c (next 0 st env) (next n st env) w ≡ bind (branching c (Go (onward 0 st env)) (Go (onward m st env)) w) (resume does image image_next image_again)
    branch_same true n m st w e a c = a
    branch_same false n m st w e a c = c ∙ ap (λ k. image_next k st env w) (sym e)

  facts : (ws gs ks below : List Ty) → ks ≡ pushed ws below → (length ks ≡ length ws + length below) × (length (pushed gs (dropped (length ws) ks)) ≡ length gs + length below)
  facts ws gs ks below q = (
    ap length q ∙ length_pushed ws below,
    length_pushed gs (dropped (length ws) ks) ∙ ap (λ (ys : List Ty). length gs + length ys) (ap (dropped (length ws)) q ∙ dropped_pushed ws below),
  )

  -- all but jumps, returns and what takes operands away
  abbrev is_value : From.Instruction → Bool
  is_value (From.number s n) = true
  is_value (From.null ty) = true
  is_value (From.global g) = true
  is_value (From.get x) = true
  is_value (From.set x ty) = false
  is_value (From.arithmetic operator s) = true
  is_value (From.unary operator s) = true
  is_value From.zero_test = true
  is_value (From.null_test ty) = true
  is_value (From.same ty) = true
  is_value (From.convert to) = true
  is_value (From.move ty s direction) = true
  is_value (From.load a) = true
  is_value (From.store a) = true
  is_value From.new_region = true
  is_value From.new_subregion = true
  is_value (From.region_of ty) = true
  is_value (From.allocate ty layout) = true
  is_value (From.allocate_array ty layout) = true
  is_value (From.delete pins) = false
  is_value (From.call g tys pins) = true
  is_value (From.perform g tys pins) = true
  is_value (From.leave tys) = false
  is_value From.putchar = true
  is_value From.getchar = true
  is_value (From.jump n) = false
  is_value (From.jump_zero n) = false
  is_value (From.back to) = false
  is_value From.pop = false

  module _ (locals : List Ty) (global_ty result_ty : ℕ → Ty) (ok mark : ℕ → Type 0) (line at : ℕ) (next again image_next image_again : Onward W) (env : List Value) (ks : List Ty) (rest : List Line) where
    abbrev Behind : From.Instruction → Type 0
    Behind i = (st env : List Value) (w : W) → length st ≡ length (after locals global_ty result_ty i ks) → next 0 st env w ≡ image_next 0 st env w

    abbrev Far : From.Instruction → Type 0
    Far i = (n : ℕ) (env : List Value) (w : W) → Lands locals global_ty result_ty ok rest (after locals global_ty result_ty i ks) n → next n [] env w ≡ image_next n [] env w

    abbrev Same : From.Instruction → (st : List Value) → W → Type 0
    Same i st w = SameAct line at next again image_next image_again env 0 i st w

    abbrev resumed : Run W Next → Run W Value
    resumed m = bind m (resume does image image_next image_again)

    -- the value comes onto what is left of the stack
    on_rest : (n b k : ℕ) (m image_m : Run W Value) (st : List Value) → ((st env : List Value) (w : W) → length st ≡ k → next 0 st env w ≡ image_next 0 st env w) → m ≡ image_m → length st ≡ b → k ≡ 1 + b
        → bind m (λ v. next 0 (v ∷ st) env) ≡ resumed (bind image_m (λ v. Go (onward 0 (v ∷ st) env)))
    on_rest n b k m image_m st on e long q =
        ap (λ (r : Run W Value). bind r (λ v. next 0 (v ∷ st) env)) e ∙ through line at next again image_next image_again env 0 image_m st (λ st1 env1 w1 e1. on st1 env1 w1 (omega (arith, e1, long, q)))

    no_operands : (i : From.Instruction) (gs : List Ty) (m image_m : Run W Value) (st : List Value) → ((st env : List Value) (w : W) → length st ≡ length (pushed gs (dropped 0 ks)) → next 0 st env w ≡ image_next 0 st env w)
        → length gs ≡ 1 → m ≡ image_m → length st ≡ length ks → bind m (λ v. next 0 (v ∷ st) env) ≡ resumed (bind image_m (λ v. Go (onward 0 (v ∷ st) env)))
    no_operands i gs m image_m st on g e long = let p = length_pushed gs ks in on_rest 0 (length ks) (length (pushed gs (dropped 0 ks))) m image_m st on e long (omega (arith, p, g))

    -- one operand, or two
    one_operand : (P : List Value → Type 0) (ws gs below : List Ty) (st : List Value) → ks ≡ pushed ws below → length ws ≡ 1 → length gs ≡ 1 → length st ≡ length ks
        → ((v : Value) (st1 : List Value) → length st1 ≡ length below → length (pushed gs (dropped (length ws) ks)) ≡ 1 + length below → P (v ∷ st1)) → P st
    one_operand P ws gs below [] q w g long go = let h = facts ws gs ks below q in let a = h.0 in absurd (omega (arith, long, a, w))
    one_operand P ws gs below (v ∷ st1) q w g long go = let h = facts ws gs ks below q in let a = h.0 in let c = h.1 in go v st1 (omega (arith, long, a, w)) (omega (arith, c, g))

    two_operands : (P : List Value → Type 0) (ws gs below : List Ty) (st : List Value) → ks ≡ pushed ws below → length ws ≡ 2 → length gs ≡ 1 → length st ≡ length ks
        → ((v u : Value) (st1 : List Value) → length st1 ≡ length below → length (pushed gs (dropped (length ws) ks)) ≡ 1 + length below → P (v ∷ u ∷ st1)) → P st
    two_operands P ws gs below [] q w g long go = let h = facts ws gs ks below q in let a = h.0 in absurd (omega (arith, long, a, w))
    two_operands P ws gs below (v ∷ []) q w g long go = let h = facts ws gs ks below q in let a = h.0 in absurd (omega (arith, long, a, w))
    two_operands P ws gs below (v ∷ u ∷ st1) q w g long go = let h = facts ws gs ks below q in let a = h.0 in let c = h.1 in go v u st1 (omega (arith, long, a, w)) (omega (arith, c, g))

    load_same : (a : Access) (st : List Value) (w : W) (below : List Ty) → ks ≡ pushed (kinds (place_types a)) below → length st ≡ length ks → Right (From.load a) → Behind (From.load a) → Same (From.load a) st w
    load_same a st w below q long right on =
        let h = facts (kinds (place_types a)) (kind_ty a.cell ∷ []) ks below q in
        let c = h.0 in
        let d = h.1 in
        let k = length_kinds (place_types a) ∙ place_width a in
        popped_all (width a) st (λ vs rest. bind (From.given does.ops deleting line (From.load a) calls env vs w) (λ v. next 0 (v ∷ rest) env)) w (omega (arith, long, c, k))
        ∙ on_rest 0 (length below) (length (after locals global_ty result_ty (From.load a) ks)) _ _ (drop (width a) st) on
        (ap (λ t. does.ops.load line t w) (target_same type_number a a.shift (reverse (take (width a) st)))) (length_rest (width a) (length below) st (omega (arith, long, c, k))) d
        ∙ ap (λ n. resumed (bind (does.ops.load line (target_of (path_of type_number a) a.shift (reverse (take n st))) w) (λ v. Go (onward 0 (v ∷ drop n st) env)))) (sym (width_same type_number a))
        ∙ ap (λ (p : Path). resumed (bind (does.ops.load line (target_on p st) w) (λ v. Go (onward 0 (v ∷ drop (To.width p) st) env)))) (sym right)

    store_same : (a : Access) (st : List Value) (w : W) (below : List Ty) → ks ≡ pushed (kinds (place_types a) ++ kind_ty a.cell ∷ []) below → length st ≡ length ks → Right (From.store a) → Behind (From.store a) → Same (From.store a) st w
    store_same a [] w below q long right on =
        let h = facts (kinds (place_types a) ++ kind_ty a.cell ∷ []) [] ks below q in
        let c = h.0 in
        let l = length-append (kinds (place_types a)) (kind_ty a.cell ∷ []) in
        absurd (omega (arith, long, c, l))
    store_same a (v ∷ st) w below q long right on =
        let h = facts (kinds (place_types a) ++ kind_ty a.cell ∷ []) [] ks below q in
        let c = h.0 in
        let d = h.1 in
        let l = length-append (kinds (place_types a)) (kind_ty a.cell ∷ []) in
        let k = length_kinds (place_types a) ∙ place_width a in
        let n = width a in
        let deep : n ≤ length st = omega (arith, long, c, k, l) in
        let xs = reverse (take n st) in
        popped_is n st (v ∷ []) (λ vs rest. bind (does.ops.store line (From.target_of a a.shift vs) (Source.kept a.cell (From.last_of vs)) w) (λ _. next 0 rest env)) w deep
        ∙ ap (λ u. bind (does.ops.store line (From.target_of a a.shift (xs ++ v ∷ [])) (Source.kept a.cell u) w) (λ _. next 0 (drop n st) env)) (last_is xs v)
        ∙ ap (λ t. bind (does.ops.store line t (Source.kept a.cell v) w) (λ _. next 0 (drop n st) env)) (behind_place type_number a a.shift xs v (length_turned n st deep ∙ sym (width_same type_number a) ∙ by a.shift) ∙ target_same type_number a a.shift xs)
        ∙ past line at next again image_next image_again env 0 (does.ops.store line (target_of (path_of type_number a) a.shift xs) (Source.kept a.cell v) w) (drop n st)
        (λ st1 env1 w1 e1. on st1 env1 w1 (let r = length_rest n (length below) st (omega (arith, long, c, k, l)) in omega (arith, e1, r, d)))
        ∙ ap (λ m. resumed (bind (does.ops.store line (target_of (path_of type_number a) a.shift (reverse (take m st))) (Source.kept a.cell v) w) (λ _. Go (onward 0 (drop m st) env)))) (sym (width_same type_number a))
        ∙ ap (λ u. resumed (bind (does.ops.store line (target_on (path_of type_number a) st) u w) (λ _. Go (onward 0 (drop (suc (To.width (path_of type_number a))) (v ∷ st)) env)))) (sym (right.1 v))
        ∙ ap (λ m. resumed (bind m (λ _. Go (onward 0 (drop (suc (To.width (path_of type_number a))) (v ∷ st)) env)))) (sym (plain line (target_on (path_of type_number a) st) (kept (To.storage_of image (cell_at image (path_of type_number a))) v) w))
        ∙ ap (λ (p : Path). resumed (bind (does.put false line (target_on p (drop 1 (v ∷ st))) (kept (To.storage_of image (cell_at image p)) (value_at (v ∷ st) 0)) w) (λ _. Go (onward 0 (drop (suc (To.width p)) (v ∷ st)) env)))) (sym right.0)
      where
        by : (s : Option Signedness) → suc (To.shift_count s + length (map index_of a.indices)) ≡ suc (To.shift_count s + length a.indices)
        by s = ap (λ n. suc (To.shift_count s + n)) (length_indices a.indices)

    call_same : (g : ℕ) (tys : List Ty) (pins : List ℕ) (st : List Value) (w : W) (below : List Ty) → ks ≡ pushed (kinds tys) below → length st ≡ length ks → Right (From.call g tys pins) → Behind (From.call g tys pins) → Same (From.call g tys pins) st w
    call_same g tys pins st w below q long right on =
        popped_all n st (λ vs rest. bind (From.given does.ops deleting line (From.call g tys pins) calls env vs w) (λ v. next 0 (v ∷ rest) env)) w deep
        ∙ call_through line at next again image_next image_again env 0 g tys pins (λ v. v ∷ drop n st) (reverse (take n st)) w (deleting g) refl right.0 (length_turned n st deep) (λ v w1. on (v ∷ drop n st) env w1 pushed_on)
        ∙ by (function_at image g).result right.1
        ∙ ap (λ m. gone (function_at image g).result m) (sym (called g tys right.0.0))
      where
        n : ℕ
        n = length tys

        counts : (length ks ≡ length (kinds tys) + length below) × (length (pushed (kind_ty (result_ty g) ∷ []) (dropped (length (kinds tys)) ks)) ≡ 1 + length below)
        counts = facts (kinds tys) (kind_ty (result_ty g) ∷ []) ks below q

        deep : n ≤ length st
        deep = let c = counts.0 in let k = length_kinds tys in omega (arith, long, c, k)

        pushed_on : suc (length (drop n st)) ≡ length (pushed (kind_ty (result_ty g) ∷ []) (dropped (length (kinds tys)) ks))
        pushed_on = let c = counts.0 in let d = counts.1 in let k = length_kinds tys in let r = length_rest n (length below) st (omega (arith, long, c, k)) in omega (arith, r, d)

        gone : Option Storage → ℕ → Run W Value
        gone r m = resumed (bind (image_calls g (reverse (take m st)) (does.ops.enter (To.pinned pins env) w)) (λ v w1. Go (onward 0 (To.result_pushed r v (drop m st)) env) (does.ops.leave w w1)))

        by : (r : Option Storage) → IsSome r → resumed (bind (image_calls g (reverse (take n st)) (does.ops.enter (To.pinned pins env) w)) (λ v w1. Go (onward 0 (v ∷ drop n st) env) (does.ops.leave w w1))) ≡ gone r n
        by None is = absurd (cc is)
        by (Some s) is = refl

    perform_same : (g : ℕ) (tys : List Ty) (pins : List ℕ) (st : List Value) (w : W) (below : List Ty) → ks ≡ pushed (kinds tys) below → length st ≡ length ks → Right (From.perform g tys pins) → Behind (From.perform g tys pins) → Same (From.perform g tys pins) st w
    perform_same g tys pins st w below q long right on =
        popped_all n st (λ vs rest. bind (From.given does.ops deleting line (From.call g tys pins) calls env vs w) (λ _. next 0 rest env)) w deep
        ∙ call_through line at next again image_next image_again env 0 g tys pins (λ v. drop n st) (reverse (take n st)) w (deleting g) refl right.0 (length_turned n st deep) (λ v w1. on (drop n st) env w1 left_on)
        ∙ ap (λ r. gone r n) (sym right.1)
        ∙ ap (λ m. gone (function_at image g).result m) (sym (called g tys right.0.0))
      where
        n : ℕ
        n = length tys

        counts : (length ks ≡ length (kinds tys) + length below) × (length (pushed [] (dropped (length (kinds tys)) ks)) ≡ 0 + length below)
        counts = facts (kinds tys) [] ks below q

        deep : n ≤ length st
        deep = let c = counts.0 in let k = length_kinds tys in omega (arith, long, c, k)

        left_on : length (drop n st) ≡ length (dropped (length (kinds tys)) ks)
        left_on = let c = counts.0 in let d = counts.1 in let k = length_kinds tys in let r = length_rest n (length below) st (omega (arith, long, c, k)) in omega (arith, r, d)

        gone : Option Storage → ℕ → Run W Value
        gone r m = resumed (bind (image_calls g (reverse (take m st)) (does.ops.enter (To.pinned pins env) w)) (λ v w1. Go (onward 0 (To.result_pushed r v (drop m st)) env) (does.ops.leave w w1)))

    value_same : (i : From.Instruction) → IsTrue (is_value i) → (st : List Value) (w : W) → length st ≡ length ks → Operands locals global_ty result_ty i ks → Right i → Behind i → Same i st w
    value_same (From.number s n) is st w long operands right on = no_operands (From.number s n) (arithmetic s ∷ []) (Go (Number n) w) (Go (Number (converted (type_of s) (pos (word_of n)))) w) st on refl (ap (λ z. Go (Number z) w) (sym right)) long
    value_same (From.null int) is st w long operands right on = no_operands (From.null int) (kind_ty int ∷ []) (Go Null w) (Go Null w) st on refl (refl) long
    value_same (From.null unsigned) is st w long operands right on = no_operands (From.null unsigned) (kind_ty unsigned ∷ []) (Go Null w) (Go Null w) st on refl (refl) long
    value_same (From.null char) is st w long operands right on = no_operands (From.null char) (kind_ty char ∷ []) (Go Null w) (Go Null w) st on refl (refl) long
    value_same (From.null region) is st w long operands right on = no_operands (From.null region) (kind_ty region ∷ []) (Go Null w) (Go Null w) st on refl (refl) long
    value_same (From.null (struct k)) is st w long operands right on = no_operands (From.null (struct k)) (kind_ty (struct k) ∷ []) (Go Null w) (Go Null w) st on refl (refl) long
    value_same (From.null (pointer note target)) is st w long operands right on = no_operands (From.null (pointer note target)) (kind_ty (pointer note target) ∷ []) (Go Null w) (Go Null w) st on refl (refl) long
    value_same (From.global g) is st w long operands right on = no_operands (From.global g) (pointer Plain (global_ty g) ∷ []) (Go (static g) w) (Go (static g) w) st on refl (refl) long
    value_same (From.get x) is st w long operands right on = no_operands (From.get x) (local_kind locals global_ty result_ty x ∷ []) (Go (local_at env x) w) (Go (local_at env x) w) st on refl (refl) long
    value_same (From.set x ty) is st w long operands right on = absurd (cc is)
    value_same (From.arithmetic operator s) is st w long operands right on = two_operands (λ st. Same (From.arithmetic operator s) st w) (arithmetic s ∷ right_kind (is_shift operator) s ∷ []) (result_kind (is_comparison operator) s ∷ []) operands.0 st operands.1 refl refl long
        (λ v u st1 l c. on_rest 2 (length operands.0) (length (after locals global_ty result_ty (From.arithmetic operator s) ks)) (bind (computed line (calculate operator s (number_in u) (number_in v)) w) give_number) (bind (computed line (calculate operator s (number_in u) (number_in v)) w) give_number) st1 on (refl) l c
        ∙ ap (λ o. resumed (bind (bind (computed line (To.outcome o s (v ∷ u ∷ st1)) w) give_number) (λ x. Go (onward 0 (x ∷ drop (To.operand_count o) (v ∷ u ∷ st1)) env)))) (sym right))
    value_same (From.unary operator s) is st w long operands right on = one_operand (λ st. Same (From.unary operator s) st w) (arithmetic s ∷ []) (arithmetic s ∷ []) operands.0 st operands.1 refl refl long
        (λ v st1 l c. on_rest 1 (length operands.0) (length (after locals global_ty result_ty (From.unary operator s) ks)) (bind (computed line (calculate_one operator s (number_in v)) w) give_number) (bind (computed line (calculate_one operator s (number_in v)) w) give_number) st1 on (refl) l c
        ∙ ap (λ o. resumed (bind (bind (computed line (To.outcome o s (v ∷ st1)) w) give_number) (λ x. Go (onward 0 (x ∷ drop (To.operand_count o) (v ∷ st1)) env)))) (sym right))
    value_same From.zero_test is st w long operands right on = one_operand (λ st. Same From.zero_test st w) (int ∷ []) (int ∷ []) operands.0 st operands.1 refl refl long
        (λ v st1 l c. on_rest 1 (length operands.0) (length (after locals global_ty result_ty From.zero_test ks)) (Go (as_wanted false (is_true v)) w) (Go (as_wanted false (is_true v)) w) st1 on (refl) l c)
    value_same (From.null_test int) is st w long operands right on = one_operand (λ st. Same (From.null_test int) st w) (kind_ty int ∷ []) (int ∷ []) operands.0 st operands.1 refl refl long
        (λ v st1 l c. on_rest 1 (length operands.0) (length (after locals global_ty result_ty (From.null_test int) ks)) (Go (as_wanted false (is_true v)) w) (Go (as_wanted false (is_true v)) w) st1 on (refl) l c)
    value_same (From.null_test unsigned) is st w long operands right on = one_operand (λ st. Same (From.null_test unsigned) st w) (kind_ty unsigned ∷ []) (int ∷ []) operands.0 st operands.1 refl refl long
        (λ v st1 l c. on_rest 1 (length operands.0) (length (after locals global_ty result_ty (From.null_test unsigned) ks)) (Go (as_wanted false (is_true v)) w) (Go (as_wanted false (is_true v)) w) st1 on (refl) l c)
    value_same (From.null_test char) is st w long operands right on = one_operand (λ st. Same (From.null_test char) st w) (kind_ty char ∷ []) (int ∷ []) operands.0 st operands.1 refl refl long
        (λ v st1 l c. on_rest 1 (length operands.0) (length (after locals global_ty result_ty (From.null_test char) ks)) (Go (as_wanted false (is_true v)) w) (Go (as_wanted false (is_true v)) w) st1 on (refl) l c)
    value_same (From.null_test region) is st w long operands right on = one_operand (λ st. Same (From.null_test region) st w) (kind_ty region ∷ []) (int ∷ []) operands.0 st operands.1 refl refl long
        (λ v st1 l c. on_rest 1 (length operands.0) (length (after locals global_ty result_ty (From.null_test region) ks)) (Go (as_wanted false (is_true v)) w) (Go (as_wanted false (is_true v)) w) st1 on (refl) l c)
    value_same (From.null_test (struct k)) is st w long operands right on = one_operand (λ st. Same (From.null_test (struct k)) st w) (kind_ty (struct k) ∷ []) (int ∷ []) operands.0 st operands.1 refl refl long
        (λ v st1 l c. on_rest 1 (length operands.0) (length (after locals global_ty result_ty (From.null_test (struct k)) ks)) (Go (as_wanted false (is_true v)) w) (Go (as_wanted false (is_true v)) w) st1 on (refl) l c)
    value_same (From.null_test (pointer note target)) is st w long operands right on = one_operand (λ st. Same (From.null_test (pointer note target)) st w) (kind_ty (pointer note target) ∷ []) (int ∷ []) operands.0 st operands.1 refl refl long
        (λ v st1 l c. on_rest 1 (length operands.0) (length (after locals global_ty result_ty (From.null_test (pointer note target)) ks)) (Go (as_wanted false (is_true v)) w) (Go (as_wanted false (is_true v)) w) st1 on (refl) l c)
    value_same (From.same int) is st w long operands right on = two_operands (λ st. Same (From.same int) st w) (kind_ty int ∷ kind_ty int ∷ []) (int ∷ []) operands.0 st operands.1 refl refl long
        (λ v u st1 l c. on_rest 2 (length operands.0) (length (after locals global_ty result_ty (From.same int) ks)) (Go (as_wanted true (same_value u v)) w) (Go (as_wanted true (same_value u v)) w) st1 on (refl) l c)
    value_same (From.same unsigned) is st w long operands right on = two_operands (λ st. Same (From.same unsigned) st w) (kind_ty unsigned ∷ kind_ty unsigned ∷ []) (int ∷ []) operands.0 st operands.1 refl refl long
        (λ v u st1 l c. on_rest 2 (length operands.0) (length (after locals global_ty result_ty (From.same unsigned) ks)) (Go (as_wanted true (same_value u v)) w) (Go (as_wanted true (same_value u v)) w) st1 on (refl) l c)
    value_same (From.same char) is st w long operands right on = two_operands (λ st. Same (From.same char) st w) (kind_ty char ∷ kind_ty char ∷ []) (int ∷ []) operands.0 st operands.1 refl refl long
        (λ v u st1 l c. on_rest 2 (length operands.0) (length (after locals global_ty result_ty (From.same char) ks)) (Go (as_wanted true (same_value u v)) w) (Go (as_wanted true (same_value u v)) w) st1 on (refl) l c)
    value_same (From.same region) is st w long operands right on = two_operands (λ st. Same (From.same region) st w) (kind_ty region ∷ kind_ty region ∷ []) (int ∷ []) operands.0 st operands.1 refl refl long
        (λ v u st1 l c. on_rest 2 (length operands.0) (length (after locals global_ty result_ty (From.same region) ks)) (Go (as_wanted true (same_value u v)) w) (Go (as_wanted true (same_value u v)) w) st1 on (refl) l c)
    value_same (From.same (struct k)) is st w long operands right on = two_operands (λ st. Same (From.same (struct k)) st w) (kind_ty (struct k) ∷ kind_ty (struct k) ∷ []) (int ∷ []) operands.0 st operands.1 refl refl long
        (λ v u st1 l c. on_rest 2 (length operands.0) (length (after locals global_ty result_ty (From.same (struct k)) ks)) (Go (as_wanted true (same_value u v)) w) (Go (as_wanted true (same_value u v)) w) st1 on (refl) l c)
    value_same (From.same (pointer note target)) is st w long operands right on = two_operands (λ st. Same (From.same (pointer note target)) st w) (kind_ty (pointer note target) ∷ kind_ty (pointer note target) ∷ []) (int ∷ []) operands.0 st operands.1 refl refl long
        (λ v u st1 l c. on_rest 2 (length operands.0) (length (after locals global_ty result_ty (From.same (pointer note target)) ks)) (Go (as_wanted true (same_value u v)) w) (Go (as_wanted true (same_value u v)) w) st1 on (refl) l c)
    value_same (From.convert Int) is st w long operands right on = one_operand (λ st. Same (From.convert Int) st w) (converted_from Int ∷ []) (kind_ty (number Int) ∷ []) operands.0 st operands.1 refl refl long
        (λ v st1 l c. on_rest 1 (length operands.0) (length (after locals global_ty result_ty (From.convert Int) ks)) (Go (Number (converted Int (number_in v))) w) (Go (Number (converted Int (number_in v))) w) st1 on (refl) l c)
    value_same (From.convert Unsigned) is st w long operands right on = one_operand (λ st. Same (From.convert Unsigned) st w) (converted_from Unsigned ∷ []) (kind_ty (number Unsigned) ∷ []) operands.0 st operands.1 refl refl long
        (λ v st1 l c. on_rest 1 (length operands.0) (length (after locals global_ty result_ty (From.convert Unsigned) ks)) (Go (Number (converted Unsigned (number_in v))) w) (Go (Number (converted Unsigned (number_in v))) w) st1 on (refl) l c)
    value_same (From.convert Char) is st w long operands right on = one_operand (λ st. Same (From.convert Char) st w) (converted_from Char ∷ []) (kind_ty (number Char) ∷ []) operands.0 st operands.1 refl refl long
        (λ v st1 l c. on_rest 1 (length operands.0) (length (after locals global_ty result_ty (From.convert Char) ks)) (Go (Number (converted Char (number_in v))) w) (Go (Number (converted Char (number_in v))) w) st1 on (refl) l c)
    value_same (From.move ty s direction) is st w long operands right on = two_operands (λ st. Same (From.move ty s direction) st w) (kind_ty ty ∷ arithmetic s ∷ []) (kind_ty ty ∷ []) operands.0 st operands.1 refl refl long
        (λ v u st1 l c. on_rest 2 (length operands.0) (length (after locals global_ty result_ty (From.move ty s direction) ks)) (does.ops.step line u (toward direction (number_in v)) w) (does.ops.step line u (toward direction (number_in v)) w) st1 on (refl) l c)
    value_same (From.load a) is st w long operands right on = load_same a st w operands.0 operands.1 long right on
    value_same (From.store a) is st w long operands right on = store_same a st w operands.0 operands.1 long right on
    value_same From.new_region is st w long operands right on = no_operands From.new_region (region ∷ []) (does.ops.new_region line w) (does.ops.new_region line w) st on refl (refl) long
    value_same From.new_subregion is st w long operands right on = one_operand (λ st. Same From.new_subregion st w) (region ∷ []) (region ∷ []) operands.0 st operands.1 refl refl long
        (λ v st1 l c. on_rest 1 (length operands.0) (length (after locals global_ty result_ty From.new_subregion ks)) (does.ops.new_subregion line v w) (does.ops.new_subregion line v w) st1 on (refl) l c)
    value_same (From.region_of ty) is st w long operands right on = one_operand (λ st. Same (From.region_of ty) st w) (kind_ty ty ∷ []) (region ∷ []) operands.0 st operands.1 refl refl long
        (λ v st1 l c. on_rest 1 (length operands.0) (length (after locals global_ty result_ty (From.region_of ty) ks)) (region_named line v w) (region_named line v w) st1 on (refl) l c)
    value_same (From.allocate ty layout) is st w long operands right on = one_operand (λ st. Same (From.allocate ty layout) st w) (region ∷ []) (pointer Plain ty ∷ []) operands.0 st operands.1 refl refl long
        (λ v st1 l c. on_rest 1 (length operands.0) (length (after locals global_ty result_ty (From.allocate ty layout) ks)) (does.ops.allocate line v (pos 1) layout w) (does.ops.allocate line v (pos 1) (layout_at image (type_number ty)) w) st1 on (ap (λ l. does.ops.allocate line v (pos 1) l w) (sym right)) l c)
    value_same (From.allocate_array ty layout) is st w long operands right on = two_operands (λ st. Same (From.allocate_array ty layout) st w) (region ∷ int ∷ []) (pointer Plain ty ∷ []) operands.0 st operands.1 refl refl long
        (λ v u st1 l c. on_rest 2 (length operands.0) (length (after locals global_ty result_ty (From.allocate_array ty layout) ks)) (does.ops.allocate line u (number_in v) layout w) (does.ops.allocate line u (number_in v) (layout_at image (type_number ty)) w) st1 on (ap (λ l. does.ops.allocate line u (number_in v) l w) (sym right)) l c)
    value_same (From.delete pins) is st w long operands right on = absurd (cc is)
    value_same (From.call g tys pins) is st w long operands right on = call_same g tys pins st w operands.0 operands.1 long right on
    value_same (From.perform g tys pins) is st w long operands right on = perform_same g tys pins st w operands.0 operands.1 long right on
    value_same (From.leave tys) is st w long operands right on = absurd (cc is)
    value_same From.putchar is st w long operands right on = one_operand (λ st. Same From.putchar st w) (int ∷ []) (int ∷ []) operands.0 st operands.1 refl refl long
        (λ v st1 l c. on_rest 1 (length operands.0) (length (after locals global_ty result_ty From.putchar ks)) (bind (does.ops.put_byte (byte_of (number_in v)) w) (λ _ w1. Go (Number (pos (byte_of (number_in v)))) w1)) (bind (does.ops.put_byte (byte_of (number_in v)) w) (λ _ w1. Go (Number (pos (byte_of (number_in v)))) w1)) st1 on (refl) l c)
    value_same From.getchar is st w long operands right on = no_operands From.getchar (int ∷ []) (bind (does.ops.get_byte w) give_number) (bind (does.ops.get_byte w) give_number) st on refl (refl) long
    value_same (From.jump n) is st w long operands right on = absurd (cc is)
    value_same (From.jump_zero n) is st w long operands right on = absurd (cc is)
    value_same (From.back to) is st w long operands right on = absurd (cc is)
    value_same From.pop is st w long operands right on = absurd (cc is)

    -- what jumps lead to does the same from an empty stack
    abbrev Back : Type 0
    Back = (to : ℕ) (env : List Value) (w : W) → mark to → again to [] env w ≡ image_again to [] env w

    set_same : (x : ℕ) (ty : Ty) (st : List Value) (w : W) (below : List Ty) → ks ≡ local_kind locals global_ty result_ty x ∷ below → length st ≡ length ks → Right (From.set x ty) → Behind (From.set x ty) → Same (From.set x ty) st w
    set_same x ty [] w below q long right on = let c = ap length q in absurd (omega (arith, long, c))
    set_same x ty (v ∷ st) w below q long right on =
        let h = facts (local_kind locals global_ty result_ty x ∷ []) [] ks below q in
        let c = h.0 in
        let d = h.1 in
        on st (with_local env x (Source.kept ty v)) w (omega (arith, long, c, d))
        ∙ ap (λ u. image_next 0 st (with_local env x u) w) (sym (right v))

    delete_same : (pins : List ℕ) (st : List Value) (w : W) (below : List Ty) → ks ≡ region ∷ below → length st ≡ length ks → Behind (From.delete pins) → Same (From.delete pins) st w
    delete_same pins [] w below q long on = let c = ap length q in absurd (omega (arith, long, c))
    delete_same pins (v ∷ st) w below q long on =
        let h = facts (region ∷ []) [] ks below q in
        let c = h.0 in
        let d = h.1 in
        past line at next again image_next image_again env 0 (does.ops.delete line (Source.pinned pins env) v w) st (λ st1 env1 w1 e1. on st1 env1 w1 (omega (arith, e1, long, c, d)))

    pop_same : (ks1 : List Ty) → ks ≡ ks1 → (st : List Value) (w : W) (top below : List Ty) → ks1 ≡ top ++ below → length top ≡ 1 → length st ≡ length ks1 → Behind From.pop → Same From.pop st w
    pop_same [] is st w [] below q single long on = absurd (omega (arith, single))
    pop_same [] is st w (t ∷ top) below q single long on = absurd (cc q)
    pop_same (k ∷ ks1) is [] w top below q single long on = absurd (omega (arith, long))
    pop_same (k ∷ ks1) is (v ∷ st) w top below q single long on = on st env w (let e = ap (λ zs. length (dropped 1 zs)) is in omega (arith, long, e))

    leave_same : (tys : List Ty) (st : List Value) (w : W) → length tys ≤ length st → Right (From.leave tys) → Same (From.leave tys) st w
    leave_same [] st w deep right = ap (λ r. Go (result_of r st) w) (sym right)
    leave_same (ty ∷ []) [] w deep right = absurd (omega (arith, deep))
    leave_same (ty ∷ []) (v ∷ st) w deep right = by f.result right
      where
        by : (r : Option Storage) → IsSome r → Go v w ≡ Go (result_of r (v ∷ st)) w
        by None is = absurd (cc is)
        by (Some s) is = refl
    leave_same (ty ∷ uy ∷ tys) st w deep right = absurd right

    empty_stack : (st : List Value) → ks ≡ [] → length st ≡ length ks → st ≡ []
    empty_stack [] q long = refl
    empty_stack (v ∷ st) q long = let c = ap length q in absurd (omega (arith, long, c))

    jump_same : (n : ℕ) (st : List Value) (w : W) → st ≡ [] → next n [] env w ≡ image_next n [] env w → Same (From.jump n) st w
    jump_same n st w q there =
        ap (λ us. next n us env w) q ∙ there ∙ ap (λ us. image_next n us env w) (sym q) ∙ ap (λ k. image_next k st env w) (let e : n ≡ suc at + n - suc at = omega arith in e)

    branch_over : (n : ℕ) (st : List Value) (w : W) (below : List Ty) → ks ≡ int ∷ below → dropped 1 ks ≡ [] → length st ≡ length ks → Behind (From.jump_zero n) → next n [] env w ≡ image_next n [] env w → Same (From.jump_zero n) st w
    branch_over n [] w below q empty long on there = let c = ap length q in absurd (omega (arith, long, c))
    branch_over n (v ∷ u ∷ st) w below q empty long on there = let c = ap length q in let d = ap length (sym (ap (dropped 1) q) ∙ empty) in absurd (omega (arith, long, c, d))
    branch_over n (v ∷ []) w below q empty long on there =
        branch_same line at next again image_next image_again env 0 (is_true v) n (suc at + n - suc at) [] w (omega arith) (on [] env w (let d = ap length empty in omega (arith, d))) there

    back_same : (to : ℕ) (st : List Value) (w : W) → st ≡ [] → mark to → Back → Same (From.back to) st w
    back_same to st w q marked back = by (does.ops.take_turn w)
      where
        by : (m : Run W (Unit {0})) → bind m (λ _. again to st env) ≡ resumed (bind m (λ _. Go (backward to st env)))
        by (Go x w1) = ap (λ us. again to us env w1) q ∙ back to env w1 marked ∙ ap (λ us. image_again to us env w1) (sym q)
        by (Stopped s w1) = refl

    abbrev Leading : From.Instruction → Type 0
    Leading i = Jumps locals global_ty result_ty ok mark at i rest (after locals global_ty result_ty i ks)

    act_same : (i : From.Instruction) (st : List Value) (w : W) → length st ≡ length ks → Operands locals global_ty result_ty i ks → Right i → Leading i → Behind i → Far i → Back → Same i st w
    act_same (From.set x ty) st w long operands right leads on far back = set_same x ty st w operands.0 operands.1 long right on
    act_same (From.delete pins) st w long operands right leads on far back = delete_same pins st w operands.0 operands.1 long on
    act_same (From.leave tys) st w long operands right leads on far back =
        leave_same tys st w (let h = facts (kinds tys) [] ks operands.0 operands.1 in let c = h.0 in let k = length_kinds tys in omega (arith, long, c, k)) right
    act_same (From.jump n) st w long operands right leads on far back = jump_same n st w (empty_stack st leads.0 long) (far n env w leads.1)
    act_same (From.jump_zero n) st w long operands right leads on far back = branch_over n st w operands.0 operands.1 leads.0 long on (far n env w leads.1)
    act_same (From.back to) st w long operands right leads on far back = back_same to st w (empty_stack st leads.0 long) leads.2 back
    act_same From.pop st w long operands right leads on far back = pop_same ks refl st w operands.0 operands.1 operands.2 operands.3 long on
    act_same (From.number s n) st w long operands right leads on far back = value_same (From.number s n) refl st w long operands right on
    act_same (From.null ty) st w long operands right leads on far back = value_same (From.null ty) refl st w long operands right on
    act_same (From.global g) st w long operands right leads on far back = value_same (From.global g) refl st w long operands right on
    act_same (From.get x) st w long operands right leads on far back = value_same (From.get x) refl st w long operands right on
    act_same (From.arithmetic operator s) st w long operands right leads on far back = value_same (From.arithmetic operator s) refl st w long operands right on
    act_same (From.unary operator s) st w long operands right leads on far back = value_same (From.unary operator s) refl st w long operands right on
    act_same (From.null_test ty) st w long operands right leads on far back = value_same (From.null_test ty) refl st w long operands right on
    act_same (From.same ty) st w long operands right leads on far back = value_same (From.same ty) refl st w long operands right on
    act_same (From.convert to) st w long operands right leads on far back = value_same (From.convert to) refl st w long operands right on
    act_same (From.move ty s direction) st w long operands right leads on far back = value_same (From.move ty s direction) refl st w long operands right on
    act_same (From.load a) st w long operands right leads on far back = value_same (From.load a) refl st w long operands right on
    act_same (From.store a) st w long operands right leads on far back = value_same (From.store a) refl st w long operands right on
    act_same (From.region_of ty) st w long operands right leads on far back = value_same (From.region_of ty) refl st w long operands right on
    act_same (From.allocate ty layout) st w long operands right leads on far back = value_same (From.allocate ty layout) refl st w long operands right on
    act_same (From.allocate_array ty layout) st w long operands right leads on far back = value_same (From.allocate_array ty layout) refl st w long operands right on
    act_same (From.call g tys pins) st w long operands right leads on far back = value_same (From.call g tys pins) refl st w long operands right on
    act_same (From.perform g tys pins) st w long operands right leads on far back = value_same (From.perform g tys pins) refl st w long operands right on
    act_same From.zero_test st w long operands right leads on far back = value_same From.zero_test refl st w long operands right on
    act_same From.new_region st w long operands right leads on far back = value_same From.new_region refl st w long operands right on
    act_same From.new_subregion st w long operands right leads on far back = value_same From.new_subregion refl st w long operands right on
    act_same From.putchar st w long operands right leads on far back = value_same From.putchar refl st w long operands right on
    act_same From.getchar st w long operands right leads on far back = value_same From.getchar refl st w long operands right on

  -- from a place on, with so many instructions to pass: the stack is empty, or nothing is passed
  abbrev Stands : (locals : List Ty) (global_ty result_ty : ℕ → Ty) (ok : ℕ → Type 0) → List Line → List Ty → ℕ → List Value → Type 0
  Stands locals global_ty result_ty ok code ks n st = ((n ≡ 0) × (length st ≡ length ks)) ⊎ ((st ≡ []) × Lands locals global_ty result_ty ok code ks n)

  abbrev Lined : List Line → ℕ → Type 0
  Lined code at = (k : ℕ) → get_or f.lines (at + k) 0 ≡ get_or (map (λ (l : Line). l.line) code) k 0

  module _ (locals : List Ty) (global_ty result_ty : ℕ → Ty) (mark : ℕ → Type 0) (again image_again : Onward W) (back : (to : ℕ) (env : List Value) (w : W) → mark to → again to [] env w ≡ image_again to [] env w) where
    abbrev none : ℕ → Type 0
    none n = ⊥

    walk_same : (code : List Line) (at : ℕ) (ks : List Ty) → Sound locals global_ty result_ty none mark at code ks [] → AllRight code → Lined code at → (n : ℕ) (st env : List Value) (w : W) → Stands locals global_ty result_ty none code ks n st
        → From.walk does.ops deleting code calls again n st env w ≡ walk does image f (numbered_from type_number path_number at code) at image_calls image_again n st env w
    walk_same [] at ks sound right lined n st env w stands = refl
    walk_same (i ∷ code) at ks sound right lined (suc n) st env w (inl stands) = absurd (cc stands.0)
    walk_same (i ∷ code) at ks sound right lined (suc n) st env w (inr stands) =
        walk_same code (suc at) (after locals global_ty result_ty i.instruction ks) sound.2 right.1 (lined_on i code at lined) n st env w (inr stands)
      where
        lined_on : (i : Line) (code : List Line) (at : ℕ) → Lined (i ∷ code) at → Lined code (suc at)
        lined_on i code at lined k = let e : suc at + k ≡ at + suc k = omega arith in ap (λ m. get_or f.lines m 0) e ∙ lined (suc k)
    walk_same (i ∷ code) at ks sound right lined zero st env w stands =
        act_same locals global_ty result_ty none mark i.line at (From.walk does.ops deleting code calls again) again (walk does image f (numbered_from type_number path_number (suc at) code) (suc at) image_calls image_again) image_again env ks code
        i.instruction st w (long stands) sound.0 right.0 sound.1
        (λ st1 env1 w1 e. walk_same code (suc at) (after locals global_ty result_ty i.instruction ks) sound.2 right.1 (lined_on i code at lined) 0 st1 env1 w1 (inl (refl, e)))
        (λ n env1 w1 l. walk_same code (suc at) (after locals global_ty result_ty i.instruction ks) sound.2 right.1 (lined_on i code at lined) n [] env1 w1 (inr (refl, l)))
        back
        ∙ ap (λ line. bind (effect does image f line at (numbered type_number path_number at i.instruction) image_calls st env w) (resume does image (walk does image f (numbered_from type_number path_number (suc at) code) (suc at) image_calls image_again) image_again))
        (sym (let e : at + 0 ≡ at = omega arith in ap (λ m. get_or f.lines m 0) (sym e) ∙ lined 0))
      where
        lined_on : (i : Line) (code : List Line) (at : ℕ) → Lined (i ∷ code) at → Lined code (suc at)
        lined_on i code at lined k = let e : suc at + k ≡ at + suc k = omega arith in ap (λ m. get_or f.lines m 0) e ∙ lined (suc k)

        long : Stands locals global_ty result_ty none (i ∷ code) ks 0 st → length st ≡ length ks
        long (inl s) = s.1
        long (inr s) = ap length s.0 ∙ sym (ap length s.1)

  module _ (locals : List Ty) (global_ty result_ty : ℕ → Ty) (code : List Line) (numbered_is : f.code ≡ numbered_from type_number path_number 0 code) (lined : Lined code 0) (right : AllRight code)
      (sound : Sound locals global_ty result_ty (λ n. ⊥) (λ n. Lands locals global_ty result_ty (λ m. ⊥) code [] n) 0 code [] []) where
    pub code_same : (fuel : ℕ) (to : ℕ) (st env : List Value) (w : W) → Stands locals global_ty result_ty (λ n. ⊥) code [] to st → From.run_code does.ops deleting code calls fuel to st env w ≡ rounds does image fuel f image_calls to st env w
    code_same zero to st env w stands = refl
    code_same (suc fuel) to st env w stands =
        walk_same locals global_ty result_ty (λ n. Lands locals global_ty result_ty (λ m. ⊥) code [] n) (From.run_code does.ops deleting code calls fuel) (rounds does image fuel f image_calls)
        (λ to1 env1 w1 l. code_same fuel to1 [] env1 w1 (inr (refl, l))) code 0 [] sound right lined to st env w stands
        ∙ ap (λ is. walk does image f is 0 image_calls (rounds does image fuel f image_calls) to st env w) (sym numbered_is)
