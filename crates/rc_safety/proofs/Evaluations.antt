-- Expressions inside which nothing is deleted.
use Rattle.std.proofs.Common.{◌≡◌, ℕ, ◌+◌, ℤ, pos, Bool, true, false, not, ◌||◌, length, List, [], ◌∷◌, Result, Ok, Err, refl}
use Rattle.rc_base.specs.declared.ends.Trap.{Trap}
use Rattle.rc_core.specs.Numbers.{byte_of}
use Rattle.rc_core.specs.Arithmetic.{calculate, calculate_one}
use Rattle.rc_core.specs.Programs.{Expr, constant, null, string, local, read, address, step, step_from, unary, binary, convert, not_zero, and, or, choose, is_null, same, call, new_region, new_subregion, region_of, allocate, allocate_array, putchar, getchar, Arguments, none, more, Place, global, pointed, indexed, Path, here, field, element, Program}
use Rattle.rc_core.specs.Layout.{cells, offset}
use Rattle.rc_core.specs.Heap.{Value, Number, Null, Handle, Pointer}
use Rattle.rc_core.specs.Live.{uses, arguments_use, place_uses, path_uses}
use Rattle.rc_core.specs.Runs.{Go, bind, computed, Target, Calls}
use Rattle.rc_core.specs.Source.{World, source}
use Rattle.rc_core.specs.Evaluation.{number_in, is_true, same_value, as_wanted, toward, static, aimed, further, region_named, local_at, give_number, eval, eval_all, target, along}
use Rattle.rc_core.specs.Deletes.{IsQuiet, AreQuiet, IsQuietPlace, IsQuietPath}
use Rattle.rc_core.specs.Execution.{deletes}
use Rattle.rc_safety.proofs.Worlds.{Nothing, Fresh, AllFresh, IsSound, FreshIn, AllFreshIn, reaches_itself, still_fresh, Yields, gives, yields_then, yields_branching}
use Rattle.rc_safety.proofs.Turns.{get_byte_yields, put_byte_yields}
use Rattle.rc_safety.proofs.Allocations.{new_region_yields, new_subregion_yields, allocate_yields, step_yields}
use Rattle.rc_safety.proofs.Accesses.{load_yields}
use Rattle.rc_safety.proofs.Locals.{is_itself, LiveAreFresh, live_stay_fresh, left_fresh, right_fresh}

abbrev pub FreshTarget : Target → World → Type 0
FreshTarget t w = FreshIn w t.pointer

pub computed_yields : {A : Type 0} (may : Bool) (line : ℕ) (result : Result A Trap) (w : World) → IsSound w → Yields may w Nothing (computed line result w)
computed_yields may line (Ok x) w sound = gives may w w Nothing x (reaches_itself may w sound) tt
computed_yields may line (Err t) w sound = record { holds = tt }

pub wanted_is_fresh : (w : World) (wanted is : Bool) → FreshIn w (as_wanted wanted is)
wanted_is_fresh w true is = refl
wanted_is_fresh w false is = refl

module _ (program : Program) (calls : Calls World)
    (called : (f : ℕ) (arguments : List Value) (w : World) → deletes program f ≡ false → IsSound w → AllFreshIn w arguments → Yields false w Fresh (calls f arguments w)) (env : List Value) where
  abbrev Used : Expr → World → Type 0
  Used e w = LiveAreFresh (uses e) env w

  number_yields : (n : ℤ) (w : World) → IsSound w → Yields false w Fresh (Go (Number n) w)
  number_yields n w sound = gives false w w Fresh (Number n) (reaches_itself false w sound) refl

  wanted_yields : (wanted is : Bool) (w : World) → IsSound w → Yields false w Fresh (Go (as_wanted wanted is) w)
  wanted_yields wanted is w sound = gives false w w Fresh (as_wanted wanted is) (reaches_itself false w sound) (wanted_is_fresh w wanted is)

  computed_number : (line : ℕ) (result : Result ℤ Trap) (w : World) → IsSound w → Yields false w Fresh (bind (computed line result w) give_number)
  computed_number line result w sound = yields_then false w Nothing Fresh (computed line result w) give_number (computed_yields false line result w sound) (λ n w1 reached _. number_yields n w1 reached.sound)

  region_named_yields : (line : ℕ) (v : Value) (w : World) → IsSound w → FreshIn w v → Yields false w Fresh (region_named line v w)
  region_named_yields line (Number n) w sound fresh = record { holds = tt }
  region_named_yields line Null w sound fresh = record { holds = tt }
  region_named_yields line (Handle r) w sound fresh = gives false w w Fresh (Handle r) (reaches_itself false w sound) fresh
  region_named_yields line (Pointer a) w sound fresh = gives false w w Fresh (Handle a.region) (reaches_itself false w sound) fresh

  mutual
    pub eval_yields : (e : Expr) (w : World) → IsQuiet program e → IsSound w → Used e w → Yields false w Fresh (eval source program e calls env w)
    eval_yields (constant line s n) w quiet sound used = number_yields n w sound
    eval_yields (null line) w quiet sound used = gives false w w Fresh Null (reaches_itself false w sound) refl
    eval_yields (string line k) w quiet sound used = gives false w w Fresh (static (length program.globals + k)) (reaches_itself false w sound) sound.heap.root
    eval_yields (local line x) w quiet sound used = gives false w w Fresh (local_at env x) (reaches_itself false w sound) (used x (is_itself x))
    eval_yields (read line place) w quiet sound used =
        yields_then false w FreshTarget Fresh _ _ (target_yields place w quiet sound used) (λ t w1 reached fresh. load_yields line t w1 reached.sound fresh)
    eval_yields (address line g) w quiet sound used = gives false w w Fresh (static g) (reaches_itself false w sound) sound.heap.root
    eval_yields (step line direction p i) w quiet sound used =
        yields_then false w Fresh Fresh _ _ (eval_yields p w quiet.0 sound (left_fresh env (uses p) (uses i) w used)) (λ v w1 r1 fv.
        yields_then false w1 Fresh Fresh _ _ (eval_yields i w1 quiet.1 r1.sound (live_stay_fresh (uses i) env w w1 r1 (right_fresh env (uses p) (uses i) w used))) (λ n w2 r2 fn.
        step_yields line v (toward direction (number_in n)) w2 r2.sound (still_fresh w1 w2 r2 v fv)))
    eval_yields (step_from line i p) w quiet sound used =
        yields_then false w Fresh Fresh _ _ (eval_yields i w quiet.0 sound (left_fresh env (uses i) (uses p) w used)) (λ n w1 r1 fn.
        yields_then false w1 Fresh Fresh _ _ (eval_yields p w1 quiet.1 r1.sound (live_stay_fresh (uses p) env w w1 r1 (right_fresh env (uses i) (uses p) w used))) (λ v w2 r2 fv.
        step_yields line v (number_in n) w2 r2.sound fv))
    eval_yields (unary line operator s e) w quiet sound used =
        yields_then false w Fresh Fresh _ _ (eval_yields e w quiet sound used) (λ v w1 r1 fv. computed_number line (calculate_one operator s (number_in v)) w1 r1.sound)
    eval_yields (binary line operator s a b) w quiet sound used =
        yields_then false w Fresh Fresh _ _ (eval_yields a w quiet.0 sound (left_fresh env (uses a) (uses b) w used)) (λ v w1 r1 fv.
        yields_then false w1 Fresh Fresh _ _ (eval_yields b w1 quiet.1 r1.sound (live_stay_fresh (uses b) env w w1 r1 (right_fresh env (uses a) (uses b) w used))) (λ u w2 r2 fu.
        computed_number line (calculate operator s (number_in v) (number_in u)) w2 r2.sound))
    eval_yields (convert line from to e) w quiet sound used =
        yields_then false w Fresh Fresh _ _ (eval_yields e w quiet sound used) (λ v w1 r1 fv. number_yields _ w1 r1.sound)
    eval_yields (not_zero line e) w quiet sound used =
        yields_then false w Fresh Fresh _ _ (eval_yields e w quiet sound used) (λ v w1 r1 fv. wanted_yields false (is_true v) w1 r1.sound)
    eval_yields (and line a b) w quiet sound used =
        yields_then false w Fresh Fresh _ _ (eval_yields a w quiet.0 sound (left_fresh env (uses a) (uses b) w used)) (λ v w1 r1 fv.
        yields_branching false w1 Fresh (is_true v) _ _ (λ _.
        yields_then false w1 Fresh Fresh _ _ (eval_yields b w1 quiet.1 r1.sound (live_stay_fresh (uses b) env w w1 r1 (right_fresh env (uses a) (uses b) w used))) (λ u w2 r2 fu. wanted_yields true (is_true u) w2 r2.sound))
        (λ _. number_yields (pos 0) w1 r1.sound))
    eval_yields (or line a b) w quiet sound used =
        yields_then false w Fresh Fresh _ _ (eval_yields a w quiet.0 sound (left_fresh env (uses a) (uses b) w used)) (λ v w1 r1 fv.
        yields_branching false w1 Fresh (is_true v) _ _ (λ _. number_yields (pos 1) w1 r1.sound) (λ _.
        yields_then false w1 Fresh Fresh _ _ (eval_yields b w1 quiet.1 r1.sound (live_stay_fresh (uses b) env w w1 r1 (right_fresh env (uses a) (uses b) w used))) (λ u w2 r2 fu. wanted_yields true (is_true u) w2 r2.sound)))
    eval_yields (choose line test a b) w quiet sound used =
        yields_then false w Fresh Fresh _ _ (eval_yields test w quiet.0 sound (left_fresh env (uses test) (λ x. uses a x || uses b x) w used)) (λ v w1 r1 fv.
        let ways = live_stay_fresh (λ x. uses a x || uses b x) env w w1 r1 (right_fresh env (uses test) (λ x. uses a x || uses b x) w used) in
        yields_branching false w1 Fresh (is_true v) _ _ (λ _. eval_yields a w1 quiet.1 r1.sound (left_fresh env (uses a) (uses b) w1 ways)) (λ _. eval_yields b w1 quiet.2 r1.sound (right_fresh env (uses a) (uses b) w1 ways)))
    eval_yields (is_null line wanted e) w quiet sound used =
        yields_then false w Fresh Fresh _ _ (eval_yields e w quiet sound used) (λ v w1 r1 fv. wanted_yields wanted (not (is_true v)) w1 r1.sound)
    eval_yields (same line wanted a b) w quiet sound used =
        yields_then false w Fresh Fresh _ _ (eval_yields a w quiet.0 sound (left_fresh env (uses a) (uses b) w used)) (λ v w1 r1 fv.
        yields_then false w1 Fresh Fresh _ _ (eval_yields b w1 quiet.1 r1.sound (live_stay_fresh (uses b) env w w1 r1 (right_fresh env (uses a) (uses b) w used))) (λ u w2 r2 fu.
        wanted_yields wanted (same_value v u) w2 r2.sound))
    eval_yields (call line f arguments) w quiet sound used =
        yields_then false w AllFresh Fresh _ _ (eval_all_yields arguments w quiet.1 sound used) (λ vs w1 r1 fvs. called f vs w1 quiet.0 r1.sound fvs)
    eval_yields (new_region line) w quiet sound used = new_region_yields line w sound
    eval_yields (new_subregion line r) w quiet sound used =
        yields_then false w Fresh Fresh _ _ (eval_yields r w quiet sound used) (λ v w1 r1 fv. new_subregion_yields line v w1 r1.sound fv)
    eval_yields (region_of line p) w quiet sound used =
        yields_then false w Fresh Fresh _ _ (eval_yields p w quiet sound used) (λ v w1 r1 fv. region_named_yields line v w1 r1.sound fv)
    eval_yields (allocate line r ty) w quiet sound used =
        yields_then false w Fresh Fresh _ _ (eval_yields r w quiet sound used) (λ v w1 r1 fv. allocate_yields line v (pos 1) (cells program.structs ty) w1 r1.sound fv)
    eval_yields (allocate_array line r n ty) w quiet sound used =
        yields_then false w Fresh Fresh _ _ (eval_yields r w quiet.0 sound (left_fresh env (uses r) (uses n) w used)) (λ v w1 r1 fv.
        yields_then false w1 Fresh Fresh _ _ (eval_yields n w1 quiet.1 r1.sound (live_stay_fresh (uses n) env w w1 r1 (right_fresh env (uses r) (uses n) w used))) (λ m w2 r2 fm.
        allocate_yields line v (number_in m) (cells program.structs ty) w2 r2.sound (still_fresh w1 w2 r2 v fv)))
    eval_yields (putchar line e) w quiet sound used =
        yields_then false w Fresh Fresh _ _ (eval_yields e w quiet sound used) (λ v w1 r1 fv.
        yields_then false w1 Nothing Fresh _ _ (put_byte_yields (byte_of (number_in v)) w1 r1.sound) (λ _ w2 r2 _. number_yields (pos (byte_of (number_in v))) w2 r2.sound))
    eval_yields (getchar line) w quiet sound used =
        yields_then false w Nothing Fresh _ _ (get_byte_yields w sound) (λ n w1 r1 _. number_yields n w1 r1.sound)

    pub eval_all_yields : (arguments : Arguments) (w : World) → AreQuiet program arguments → IsSound w → LiveAreFresh (arguments_use arguments) env w → Yields false w AllFresh (eval_all source program arguments calls env w)
    eval_all_yields none w quiet sound used = gives false w w AllFresh [] (reaches_itself false w sound) tt
    eval_all_yields (more e rest) w quiet sound used =
        yields_then false w Fresh AllFresh _ _ (eval_yields e w quiet.0 sound (left_fresh env (uses e) (arguments_use rest) w used)) (λ v w1 r1 fv.
        yields_then false w1 AllFresh AllFresh _ _ (eval_all_yields rest w1 quiet.1 r1.sound (live_stay_fresh (arguments_use rest) env w w1 r1 (right_fresh env (uses e) (arguments_use rest) w used))) (λ vs w2 r2 fvs.
        gives false w2 w2 AllFresh (v ∷ vs) (reaches_itself false w2 r2.sound) (still_fresh w1 w2 r2 v fv, fvs)))

    pub target_yields : (place : Place) (w : World) → IsQuietPlace program place → IsSound w → LiveAreFresh (place_uses place) env w → Yields false w FreshTarget (target source program place calls env w)
    target_yields (global g path) w quiet sound used = along_yields path (aimed (static g) (pos 0)) w quiet sound sound.heap.root used
    target_yields (pointed p path) w quiet sound used =
        yields_then false w Fresh FreshTarget _ _ (eval_yields p w quiet.0 sound (left_fresh env (uses p) (path_uses path) w used)) (λ v w1 r1 fv.
        along_yields path (aimed v (pos 0)) w1 quiet.1 r1.sound fv (live_stay_fresh (path_uses path) env w w1 r1 (right_fresh env (uses p) (path_uses path) w used)))
    target_yields (indexed p i path) w quiet sound used =
        yields_then false w Fresh FreshTarget _ _ (eval_yields p w quiet.0 sound (left_fresh env (uses p) (λ x. uses i x || path_uses path x) w used)) (λ v w1 r1 fv.
        let ways = live_stay_fresh (λ x. uses i x || path_uses path x) env w w1 r1 (right_fresh env (uses p) (λ x. uses i x || path_uses path x) w used) in
        yields_then false w1 Fresh FreshTarget _ _ (eval_yields i w1 quiet.1 r1.sound (left_fresh env (uses i) (path_uses path) w1 ways)) (λ n w2 r2 fn.
        along_yields path (aimed v (number_in n)) w2 quiet.2 r2.sound (still_fresh w1 w2 r2 v fv) (live_stay_fresh (path_uses path) env w1 w2 r2 (right_fresh env (uses i) (path_uses path) w1 ways))))

    pub along_yields : (path : Path) (t : Target) (w : World) → IsQuietPath program path → IsSound w → FreshTarget t w → LiveAreFresh (path_uses path) env w → Yields false w FreshTarget (along source program path t calls env w)
    along_yields here t w quiet sound fresh used = gives false w w FreshTarget t (reaches_itself false w sound) fresh
    along_yields (field s f rest) t w quiet sound fresh used = along_yields rest (further (offset program.structs s f) t) w quiet sound fresh used
    along_yields (element s f i rest) t w quiet sound fresh used =
        yields_then false w Fresh FreshTarget _ _ (eval_yields i w quiet.0 sound (left_fresh env (uses i) (path_uses rest) w used)) (λ n w1 r1 fn.
        along_yields rest _ w1 quiet.1 r1.sound (still_fresh w w1 r1 t.pointer fresh) (live_stay_fresh (path_uses rest) env w w1 r1 (right_fresh env (uses i) (path_uses rest) w used)))
