-- Each instruction of an image with proofs, over the source's world: from a state in which the facts before it hold and what is used
-- names no dead region, it touches none, and leads to such a state.
use Rattle.std.proofs.Common.{◌≡◌, ◌≢◌, ℕ, zero, suc, ◌+◌, ◌-◌, ◌<◌, ◌≤◌, true, List, [], ◌∷◌, ◌++◌, length, map, take, drop, reverse, Some, None, refl, sym, ap, ◌∙◌, subst, arith}
use Rattle.std.specs.List.{AllByRecursion as Every, AllZip}
use Rattle.std.proofs.lemmas.Bool.{eqb-true}
use Rattle.rc_core.specs.Heap.{Value, Null, live}
use Rattle.rc_core.specs.Runs.{Run, Go, Stopped, bind}
use Rattle.rc_core.specs.Evaluation.{local_at}
use Rattle.rc_core.specs.Source.{World}
use Rattle.rc_safety.proofs.Heaps.{NoneDies, fresh_stays}
use Rattle.rc_safety.proofs.Lists.{every_drop, every_take, every_get_or}
use Rattle.rc_safety.proofs.Worlds.{NotStale}
use Rattle.rc_rlang.specs.RegionFlow.{Effect, assigned}
use Rattle.rc_rlang.specs.RegionRuns.{changed_at}
use Rattle.rc_annotations.specs.Annotations.{Annotation, exit_facts}
use Rattle.rc_annotations.specs.Worlds.{Made, Grounded, Sane, Stays}
use Rattle.rc_annotations.specs.Effects.{Happens}
use Rattle.rc_code.specs.declared.instruction.Instruction.{Instruction}
use Rattle.rc_code.specs.declared.instruction.Instruction.TheVariants as instruction
use Rattle.rc_code.specs.declared.image.Function.{Function}
use Rattle.rc_code.specs.declared.image.Parts.{Parts}
use Rattle.rc_code.specs.Image.{FieldsFit}
use Rattle.rc_code.specs.Running.{Reading, reading_of, function_at, path_at, cell_at, storage_of, value_at, width, target_on, Next, onward, backward, done}
use Rattle.rc_code.specs.Soundness.{Sound, gives, count_off, instruction_at, kinds_before, is_regional}
use Rattle.rc_worlds.specs.Worlds.{Compared}
use Rattle.rc_worlds.specs.Typed.{HasKind, Keeps, Good}
use Rattle.rc_worlds.specs.Facts.{ImageIsSound}
use Rattle.rc_worlds.specs.Meanings.{looking}
use Rattle.rc_worlds.proofs.Begins.{image_is_sound}
use Rattle.rc_worlds.proofs.Stacks.{zip_length}
use Rattle.rc_claims.specs.Counts.{trues, regionals, copies, local_variable, place}
use Rattle.rc_sealed.specs.ImageVariables.{scratch, values_of}
use Rattle.rc_sealed.specs.Carrying.{effect_of, height, lowest, Carried, Before}
use Rattle.rc_sealed.specs.Proved.{Way}
use Rattle.rc_sealed.specs.Pinned.{on, MayDelete}
use Rattle.rc_sealed.specs.AllProved.{AllProved}
use Rattle.rc_sealed.proofs.Safe.{FreshIn, Quiet}
use Rattle.rc_sealed.proofs.Values.{place_value, upper_at, pushed_at}
use Rattle.rc_sealed.proofs.Carry.{Hold, height_bound, trues_bound, next_hold}
use Rattle.rc_sealed.proofs.Crossing.{Here, every_fresh, carries, carries_to}
use Rattle.rc_sealed.proofs.Operands.{every_reversed, drops_alike, grounded}

-- a run that touches no dead region; where it goes on no region died, if the function may not delete
abbrev pub Comes : {A : Type 0} → Reading → (g : ℕ) → World → (A → World → Type 0) → Run World A → Type 0
Comes code g w S (Go x w1) = Stays w w1 × ((MayDelete code g → ⊥) → NoneDies (live w.heap) (live w1.heap)) × S x w1
Comes code g w S (Stopped stop w1) = NotStale stop

pub record Outcome {A : Type 0} (code : Reading) (g : ℕ) (w : World) (S : A → World → Type 0) (m : Run World A) : Type 0 where
  pub holds : Comes code g w S m

module _ (parts : Parts) (fields : FieldsFit parts) (rules : Sound parts) (proofs : Annotation) (all : AllProved parts proofs) where
  abbrev pub image : Compared
  image = looking true parts

  pub sound : ImageIsSound image
  sound = image_is_sound parts fields image refl rules

  module _ (g : ℕ) (there : g < length parts.functions) (at : ℕ) (inside : at < length (function_at (reading_of parts) g).code) (copied : List Value) (whole : length copied ≡ copies (function_at (reading_of parts) g)) where
    abbrev pub code : Reading
    code = reading_of parts

    abbrev pub f : Function
    f = function_at code g

    -- before the instruction
    pub record At (st env : List Value) (w : World) : Type 0 where
      pub kinds : AllZip (HasKind image w.heap) (kinds_before code f at) st
      pub locals : AllZip (Keeps image w.heap) f.locals env
      pub good : Good image w
      pub sane : Sane w
      pub here : Here parts proofs g at copied st env w
      pub copies : Every (Made w.heap) copied

    -- and where it leads
    abbrev pub NextHere : Next → World → Type 0
    NextHere (onward n st env) w = (p : ℕ) × (p ≡ suc at + n) × Here parts proofs g p copied st env w
    NextHere (backward to st env) w = Here parts proofs g to copied st env w
    NextHere (done v) w = Unit {0}

    abbrev pub Follow : Instruction → Type 0
    Follow i = (st env : List Value) (w : World) → At st env w → Outcome code g w NextHere (Rattle.rc_code.specs.Running.effect (Rattle.rc_worlds.specs.Worlds.watched image) code f (Rattle.rc_code.specs.Running.line_at f at) at i (Rattle.rc_code.specs.Running.calls_within (Rattle.rc_worlds.specs.Worlds.watched image) code 0) st env w)

    pub place_below : (j : ℕ) → j ≤ height code f at → place f j < scratch code f
    place_below j le = let h = height_bound code f at (length f.code) (omega (arith, inside)) in omega (arith, le, h)

    pub local_below : (x : ℕ) → local_variable f x < scratch code f
    local_below x =
        let h = trues_bound (regionals f) x in
        let l : length (regionals f) ≡ length f.locals = lengths f.locals in
        let k : trues (regionals f) (length (regionals f)) ≡ trues (regionals f) (length f.locals) = ap (trues (regionals f)) l in
        omega (arith, h, k)
      where
        lengths : (ss : _) → length (map is_regional ss) ≡ length ss
        lengths [] = refl
        lengths (s ∷ ss) = ap suc (lengths ss)

    -- one instruction, of which this is known
    module _ (i : Instruction) (is : instruction_at f at ≡ i) (n : ℕ) (count : count_off code f i ≡ n) (st env : List Value) (w : World) (state : At st env w) where
      abbrev values : ℕ → Value
      values = values_of f copied env st

      pub low : lowest code f at ≡ length (drop n st)
      low = ap (λ j. length (drop (count_off code f j) (kinds_before code f at))) is ∙ ap (λ m. length (drop m (kinds_before code f at))) count ∙ drops_alike (HasKind image w.heap) n (kinds_before code f at) st state.kinds

      pub high : height code f at ≡ length st
      high = sym (zip_length (HasKind image w.heap) (kinds_before code f at) st state.kinds)

      pub ground : Grounded values w.heap
      ground = grounded image f copied env st (kinds_before code f at) w.heap state.sane.rooted state.copies state.locals state.kinds

      pub low_below : place f (lowest code f at) < scratch code f
      low_below = place_below (lowest code f at) (let l = drop_less n st in omega (arith, low, high, l))
        where
          drop_less : (n : ℕ) (vs : List Value) → length (drop n vs) ≤ length vs
          drop_less zero vs = omega arith
          drop_less (suc n) [] = omega arith
          drop_less (suc n) (v ∷ vs) = let k = drop_less n vs in omega (arith, k)

      -- the lowest operand that is taken
      pub low_value : values (place f (lowest code f at)) ≡ value_at (reverse (take n st)) 0
      low_value = ap (λ m. values (place f m)) (low ∙ (let e : length (drop n st) ≡ length (drop n st) + 0 = omega arith in e)) ∙ place_value f copied whole env st (length (drop n st) + 0) ∙ upper_at n st 0

      pub low_fresh : FreshIn w (value_at (reverse (take n st)) 0)
      low_fresh = every_get_or (FreshIn w) (reverse (take n st)) 0 Null refl (every_reversed (FreshIn w) (take n st) (every_take (FreshIn w) n st state.here.stack))

      few : (over : List Value) → length over ≤ length (gives code f i) → length over ≤ length (gives code f (instruction_at f at))
      few over le = subst (λ j. length over ≤ length (gives code f j)) (sym is) le

      -- at the next instruction
      next : (way : Way i at (suc at)) → ((x : ℕ) → i ≢ instruction.Set x) → (over : List Value) (w1 : World) → NoneDies (live w.heap) (live w1.heap) → Stays w w1 → Every (FreshIn w1) over
          → Hold (Carried code proofs g at (Before code proofs g at)) (values_of f copied env (over ++ drop n st)) w1.heap → Here parts proofs g (suc at) copied (over ++ drop n st) env w1
      next way apart over w1 none stays fresh hold = record {
        facts = next_hold code proofs g at (values_of f copied env (over ++ drop n st)) w1.heap stays.sane.rooted (all.proved g at there inside) (subst (λ j. Way j at (suc at)) (sym is) way) hold;
        stack = Rattle.rc_safety.proofs.Lists.every_append (FreshIn w1) over (drop n st) fresh (every_fresh w w1 none (drop n st) (every_drop (FreshIn w) n st state.here.stack));
        used = λ x u. fresh_stays (live w.heap) (live w1.heap) none (local_at env x) (state.here.used x (on (λ e. apart x (sym is ∙ e)) (subst (λ j. Way j at (suc at)) (sym is) way) u));
      }

      -- it gives a region or a pointer
      pub gives_regional : (way : Way i at (suc at)) → ((x : ℕ) → i ≢ instruction.Set x) → 1 ≤ length (gives code f i) → (effect : Effect) → effect_of code f (lowest code f at) (height code f at - 1) i ≡ effect → assigned effect ≡ Some (place f (lowest code f at)) → (m : Run World Value)
          → Quiet w (λ v w1. FreshIn w1 v × Stays w w1 × Happens (scratch code f) (scratch code f) (exit_facts proofs) (Some (place f (lowest code f at))) effect values (changed_at values (place f (lowest code f at)) v) w1.heap) m
          → Outcome code g w NextHere (bind m (λ v. Go (onward 0 (v ∷ drop n st) env)))
      gives_regional way apart one effect e some m q = by m q
        where
          by : (m : Run World Value) → Quiet w (λ v w1. FreshIn w1 v × Stays w w1 × Happens (scratch code f) (scratch code f) (exit_facts proofs) (Some (place f (lowest code f at))) effect values (changed_at values (place f (lowest code f at)) v) w1.heap) m
              → Outcome code g w NextHere (bind m (λ v. Go (onward 0 (v ∷ drop n st) env)))
          by (Stopped stop w1) q = record { holds = q.holds }
          by (Go v w1) q = record {
            holds = (
              q.holds.1.1,
              (λ _. q.holds.0),
              (
                suc at,
                (let e : suc at ≡ suc at + 0 = omega arith in e),
                next way apart (v ∷ []) w1 q.holds.0 q.holds.1.1 (q.holds.1.0, tt)
                    (carries_to parts proofs all g there at inside copied whole (v ∷ []) n st env low high (few (v ∷ []) one) w w1 state.here ground q.holds.1.1 effect (ap (effect_of code f (lowest code f at) (height code f at - 1)) is ∙ e) (place f (lowest code f at)) v env some q.holds.1.2
                    (λ u is_low. ap (values_of f copied env (v ∷ drop n st)) (eqb-true u _ is_low ∙ ap (place f) low) ∙ place_value f copied whole env (v ∷ drop n st) (length (drop n st)) ∙ pushed_at v (drop n st))
                    (λ u other. refl)),
              ),
            );
          }

      -- it gives a number, or a value on which no fact is added
      pub gives_number : (way : Way i at (suc at)) → ((x : ℕ) → i ≢ instruction.Set x) → 1 ≤ length (gives code f i) → (effect : Effect) → effect_of code f (lowest code f at) (height code f at - 1) i ≡ effect → assigned effect ≡ None → (m : Run World Value)
          → Quiet w (λ v w1. FreshIn w1 v × Stays w w1 × Happens (scratch code f) (scratch code f) (exit_facts proofs) None effect values values w1.heap) m
          → Outcome code g w NextHere (bind m (λ v. Go (onward 0 (v ∷ drop n st) env)))
      gives_number way apart one effect e none m q = by m q
        where
          by : (m : Run World Value) → Quiet w (λ v w1. FreshIn w1 v × Stays w w1 × Happens (scratch code f) (scratch code f) (exit_facts proofs) None effect values values w1.heap) m → Outcome code g w NextHere (bind m (λ v. Go (onward 0 (v ∷ drop n st) env)))
          by (Stopped stop w1) q = record { holds = q.holds }
          by (Go v w1) q = record {
            holds = (
              q.holds.1.1,
              (λ _. q.holds.0),
              (
                suc at,
                (let e : suc at ≡ suc at + 0 = omega arith in e),
                next way apart (v ∷ []) w1 q.holds.0 q.holds.1.1 (q.holds.1.0, tt)
                    (carries parts proofs all g there at inside copied whole (v ∷ []) n st env low high (few (v ∷ []) one) w w1 state.here ground q.holds.1.1 effect (ap (effect_of code f (lowest code f at) (height code f at - 1)) is ∙ e) none q.holds.1.2),
              ),
            );
          }

      -- it gives nothing
      pub falls : (way : Way i at (suc at)) → ((x : ℕ) → i ≢ instruction.Set x) → (effect : Effect) → effect_of code f (lowest code f at) (height code f at - 1) i ≡ effect → assigned effect ≡ None → (m : Run World (Unit {0}))
          → Quiet w (λ _ w1. Stays w w1 × Happens (scratch code f) (scratch code f) (exit_facts proofs) None effect values values w1.heap) m
          → Outcome code g w NextHere (bind m (λ _. Go (onward 0 (drop n st) env)))
      falls way apart effect e none m q = by m q
        where
          by : (m : Run World (Unit {0})) → Quiet w (λ _ w1. Stays w w1 × Happens (scratch code f) (scratch code f) (exit_facts proofs) None effect values values w1.heap) m → Outcome code g w NextHere (bind m (λ _. Go (onward 0 (drop n st) env)))
          by (Stopped stop w1) q = record { holds = q.holds }
          by (Go v w1) q = record {
            holds = (
              q.holds.1.0,
              (λ _. q.holds.0),
              (
                suc at,
                (let e : suc at ≡ suc at + 0 = omega arith in e),
                next way apart [] w1 q.holds.0 q.holds.1.0 tt
                    (carries parts proofs all g there at inside copied whole [] n st env low high (few [] (omega arith)) w w1 state.here ground q.holds.1.0 effect (ap (effect_of code f (lowest code f at) (height code f at - 1)) is ∙ e) none q.holds.1.1),
              ),
            );
          }
