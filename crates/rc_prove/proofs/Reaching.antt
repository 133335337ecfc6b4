-- A pass comes from one instruction to the next.
use Rattle.std.proofs.Common.{◌≡◌, ◌∙◌, ℕ, zero, suc, ◌+◌, ◌-◌, ◌<◌, ◌≤◌, Bool, true, false, IsTrue, ◌↔◌, List, [], ◌∷◌, length, take, get_or, Option, Some, refl, sym, ap, subst, inl, inr, ◌⊎◌, arith}
use Rattle.std.proofs.lemmas.Bool.{and_parts, and_from}
use Rattle.rc_facts.specs.declared.fact.Fact.{Fact}
use Rattle.rc_facts.specs.Derivable.{Derivable, stated}
use Rattle.rc_facts.specs.Facts.{Known, holds, is_over}
use Rattle.rc_rlang.specs.RegionFlow.{called, moved, loaded, looked_at}
use Rattle.rc_annotations.specs.Annotations.{Facts, Annotation, fact_with, renamed}
use Rattle.rc_annotations.proofs.Derivations.{derivable_cut}
use Rattle.rc_facts.specs.Flow.{no_set, set_at}
use Rattle.rc_edges.specs.Reading.{Loses}
use Rattle.rc_edges.specs.Boundaries.{CallGives}
use Rattle.rc_code.specs.declared.opcode.Typed.TheVariants as typed
use Rattle.rc_code.specs.declared.opcode.Simple.TheVariants as simple
use Rattle.rc_code.specs.declared.instruction.Instruction.{Instruction}
use Rattle.rc_code.specs.declared.instruction.Instruction.TheVariants as instruction
use Rattle.rc_code.specs.declared.image.Function.{Function}
use Rattle.rc_code.specs.Running.{Reading, function_at}
use Rattle.rc_code.specs.Soundness.{instruction_at}
use Rattle.rc_claims.specs.Counts.{copies, regionals, regional_result, trues, one_if, place}
use Rattle.rc_sealed.specs.ImageVariables.{variables, result_variable}
use Rattle.rc_sealed.specs.Carrying.{if_regional, load_effect, when, is_target, regional_places, effect_of, effect_at, lowest, height, either, Follows, Carried, Before}
use Rattle.rc_sealed.specs.Proved.{Way, EntryIsGiven, ExitIsGiven, AtEntry, EntryIsProved}
use Rattle.rc_greatest_proofs.specs.Marks.{ProvedBare}
use Rattle.rc_prove.specs.Sets.{Sets, rank, IsIn, Claims, ProveFunction, Lowers}
use Rattle.rc_prove.specs.Spots.{returns}
use Rattle.rc_prove.specs.Passing.{Passing, before_at, behind_at}
use Rattle.rc_prove.proofs.Lowering.{entries_lower, exits_lower, frames_lower}
use Rattle.rc_prove.proofs.Anew.{follows_listed, frame_ready}
use Rattle.rc_prove.proofs.Carrying.{each_is}

-- ---- ranks of targets

rank_grows : (f : Function) (a b : ℕ) → a ≤ b → rank f a ≤ rank f b
rank_grows f a zero le = let e : 0 ≡ a = omega (arith, le) in subst (λ x. rank f x ≤ rank f 0) e (omega arith)
rank_grows f a (suc b) le = by (order a (suc b)) (λ l. rank_grows f a b l)
  where
    order : (a b : ℕ) → (a < b) ⊎ ((a ≡ b) ⊎ (b < a))
    order a b = grind arith

    by : (a < suc b) ⊎ ((a ≡ suc b) ⊎ (suc b < a)) → (a ≤ b → rank f a ≤ rank f b) → rank f a ≤ rank f (suc b)
    by (inl l) before = let h = before (omega (arith, l)) in omega (arith, h)
    by (inr (inl e)) before = subst (λ x. rank f a ≤ rank f x) e (omega arith)
    by (inr (inr l)) before = absurd (omega (arith, l, le))

pub rank_above : (f : Function) (a b : ℕ) → is_target f a ≡ true → a < b → rank f a < rank f b
rank_above f a b t lt =
    let g = rank_grows f (suc a) b (omega (arith, lt)) in
    let more : rank f (suc a) ≡ rank f a + 1 = ap (λ c. rank f a + one_if c) t in
    omega (arith, more, g)

pub same_rank : (f : Function) (a b : ℕ) → is_target f a ≡ true → is_target f b ≡ true → rank f a ≡ rank f b → a ≡ b
same_rank f a b s t e = by (order a b)
  where
    order : (a b : ℕ) → (a < b) ⊎ ((a ≡ b) ⊎ (b < a))
    order a b = grind arith

    by : (a < b) ⊎ ((a ≡ b) ⊎ (b < a)) → a ≡ b
    by (inl l) = absurd (let r = rank_above f a b s l in omega (arith, r, e))
    by (inr (inl q)) = q
    by (inr (inr l)) = absurd (let r = rank_above f b a t l in omega (arith, r, e))

-- ---- calls

places_long : (f : Function) (bs : List Bool) (n j : ℕ) → length (regional_places f (take n bs) j) ≡ trues bs n
places_long f [] zero j = refl
places_long f [] (suc n) j = refl
places_long f (b ∷ bs) zero j = refl
places_long f (true ∷ bs) (suc n) j = ap suc (places_long f bs n (suc j))
places_long f (false ∷ bs) (suc n) j = places_long f bs n (suc j)

module _ (image : Reading) (f : Function) (low high : ℕ) where
  pub record Calls (i : Instruction) (h : ℕ) (arguments : List ℕ) : Type 0 where
    pub pins : List ℕ
    pub is : i ≡ instruction.Call h pins
    pub places : regional_places f (take (function_at image h).parameters (regionals (function_at image h))) low ≡ arguments

  no_call : (x : Option ℕ) (h : ℕ) (arguments : List ℕ) (b : Bool) (u v : ℕ) → if_regional b (moved u v) ≡ called x h arguments → ⊥
  no_call x h arguments true u v e = cc
  no_call x h arguments false u v e = cc

  no_load : (x : Option ℕ) (h : ℕ) (arguments : List ℕ) (b : Bool) (u v : ℕ) (note : _) → load_effect b (loaded u u note) (looked_at u) ≡ called x h arguments → ⊥
  no_load x h arguments true u v note e = cc
  no_load x h arguments false u v note e = cc

  -- only calls call
  pub calls_are : (i : Instruction) (x : Option ℕ) (h : ℕ) (arguments : List ℕ) → effect_of image f low high i ≡ called x h arguments → Calls i h arguments
  calls_are (instruction.Call k pins) x h arguments e =
      let q : k ≡ h = cc in
      let a : regional_places f (take (function_at image k).parameters (regionals (function_at image k))) low ≡ arguments = cc in
      record { pins = pins; is = ap (λ n. instruction.Call n pins) q; places = subst (λ n. regional_places f (take (function_at image n).parameters (regionals (function_at image n))) low ≡ arguments) q a }
  calls_are (instruction.Get l) x h arguments e = absurd (no_call x h arguments _ _ _ e)
  calls_are (instruction.Set l) x h arguments e = absurd (no_call x h arguments _ _ _ e)
  calls_are (instruction.Load path) x h arguments e = absurd (no_load x h arguments _ _ low _ e)
  calls_are (instruction.Constant s n) x h arguments e = absurd cc
  calls_are (instruction.Global g) x h arguments e = absurd cc
  calls_are (instruction.Store path proved) x h arguments e = absurd cc
  calls_are (instruction.Typed typed.Null t) x h arguments e = absurd cc
  calls_are (instruction.Typed typed.Same t) x h arguments e = absurd cc
  calls_are (instruction.Typed typed.IsNull t) x h arguments e = absurd cc
  calls_are (instruction.Typed typed.RegionOf t) x h arguments e = absurd cc
  calls_are (instruction.Typed typed.Allocate t) x h arguments e = absurd cc
  calls_are (instruction.Typed typed.AllocateArray t) x h arguments e = absurd cc
  calls_are (instruction.Arithmetic a s) x h arguments e = absurd cc
  calls_are (instruction.Move t s d) x h arguments e = absurd cc
  calls_are (instruction.Delete pins) x h arguments e = absurd cc
  calls_are (instruction.Jump j to) x h arguments e = absurd cc
  calls_are (instruction.Simple simple.Return) x h arguments e = absurd (no_call x h arguments _ _ _ e)
  calls_are (instruction.Simple simple.NullRegion) x h arguments e = absurd cc
  calls_are (instruction.Simple simple.SameRegion) x h arguments e = absurd cc
  calls_are (instruction.Simple simple.IsZero) x h arguments e = absurd cc
  calls_are (instruction.Simple simple.IsNullRegion) x h arguments e = absurd cc
  calls_are (instruction.Simple simple.ToInt) x h arguments e = absurd cc
  calls_are (instruction.Simple simple.ToUnsigned) x h arguments e = absurd cc
  calls_are (instruction.Simple simple.ToChar) x h arguments e = absurd cc
  calls_are (instruction.Simple simple.NewRegion) x h arguments e = absurd cc
  calls_are (instruction.Simple simple.NewSubregion) x h arguments e = absurd cc
  calls_are (instruction.Simple simple.PutChar) x h arguments e = absurd cc
  calls_are (instruction.Simple simple.GetChar) x h arguments e = absurd cc
  calls_are (instruction.Simple simple.Pop) x h arguments e = absurd cc

returns_are : (i : Instruction) → returns i ≡ true → i ≡ instruction.Simple simple.Return
returns_are (instruction.Simple simple.Return) e = refl
returns_are (instruction.Simple simple.NullRegion) e = cc
returns_are (instruction.Simple simple.SameRegion) e = cc
returns_are (instruction.Simple simple.IsZero) e = cc
returns_are (instruction.Simple simple.IsNullRegion) e = cc
returns_are (instruction.Simple simple.ToInt) e = cc
returns_are (instruction.Simple simple.ToUnsigned) e = cc
returns_are (instruction.Simple simple.ToChar) e = cc
returns_are (instruction.Simple simple.NewRegion) e = cc
returns_are (instruction.Simple simple.NewSubregion) e = cc
returns_are (instruction.Simple simple.PutChar) e = cc
returns_are (instruction.Simple simple.GetChar) e = cc
returns_are (instruction.Simple simple.Pop) e = cc
returns_are (instruction.Constant s n) e = cc
returns_are (instruction.Global g) e = cc
returns_are (instruction.Get l) e = cc
returns_are (instruction.Set l) e = cc
returns_are (instruction.Load path) e = cc
returns_are (instruction.Typed t n) e = cc
returns_are (instruction.Arithmetic a s) e = cc
returns_are (instruction.Move t s d) e = cc
returns_are (instruction.Store path proved) e = cc
returns_are (instruction.Delete pins) e = cc
returns_are (instruction.Call h pins) e = cc
returns_are (instruction.Jump j to) e = cc

-- ---- what is met at an instruction

-- an exit gets what a return gives
abbrev pub ReturnsGive : Reading → (g at : ℕ) → (work : Facts) → (h : ℕ) → Fact → Type 0
ReturnsGive image g at work h fact = h ≡ g → returns (instruction_at (function_at image g) at) ≡ true → IsTrue (is_over (suc (copies (function_at image g))) fact) × IsTrue (work (fact_with (renamed (copies (function_at image g)) (result_variable image (function_at image g))) fact))

-- a frame gets what the instruction leads to it with
abbrev pub LeadsWith : Option ℕ → (work : Facts) → (r : ℕ) → Fact → Type 0
LeadsWith met work r fact = met ≡ Some r → IsTrue (work fact)

module _ (image : Reading) (g at : ℕ) where
  abbrev f : Function
  f = function_at image g

  abbrev n : ℕ
  n = variables image f

  one_more : (k m : ℕ) → k < suc m → (k < m) ⊎ (k ≡ m)
  one_more k m lt = by (order k m)
    where
      order : (a b : ℕ) → (a < b) ⊎ ((a ≡ b) ⊎ (b < a))
      order a b = grind arith

      by : (k < m) ⊎ ((k ≡ m) ⊎ (m < k)) → (k < m) ⊎ (k ≡ m)
      by (inl l) = inl l
      by (inr (inl e)) = inr e
      by (inr (inr l)) = absurd (omega (arith, l, lt))

  module _ (inside : at < length f.code) where
    -- calls
    pub calls_lower : (old now : Sets) (lost l : Bool) (set : Known) (new : List Known) → Passing image g (before_at image g at) old now (holds set) lost → Loses l now.entries new (CallGives (effect_at image f at) set)
        → Lowers image g now (record { entries = new; exits = now.exits; frames = now.frames })
    calls_lower old now lost l set new p loses = entries_lower image g l now new (CallGives (effect_at image f at) set) loses kept
      where
        kept : (proofs : Annotation) → ProveFunction image proofs g → IsIn image proofs g now → (h : ℕ) (fact : Fact) → IsTrue (proofs.entry h fact) → CallGives (effect_at image f at) set h fact
        kept proofs good i h fact is x arguments e =
            let c = calls_are image f (lowest image f at) (height image f at - 1) (instruction_at f at) x h arguments e in
            let given = subst (EntryIsGiven image proofs g at) c.is (good.proved at inside).entry fact is in
            let long : length arguments ≡ copies (function_at image h) = ap length (sym c.places) ∙ places_long f (regionals (function_at image h)) (function_at image h).parameters (lowest image f at) in
            and_from (is_over (length arguments) fact) (holds set (fact_with (λ v. get_or arguments v 0) fact)) (subst (λ m. IsTrue (is_over m fact)) (sym long) (good.entries h fact is))
            (p.above proofs i (fact_with (λ v. get_or arguments v 0) fact) (subst (λ ps. Follows n (Before image proofs g at) (fact_with (λ v. get_or ps v 0) fact)) c.places given))

    pub returns_lower : (old now : Sets) (lost l : Bool) (work : Facts) (new : List Known) → Passing image g (behind_at image g at) old now work lost → Loses l now.exits new (ReturnsGive image g at work)
        → Lowers image g now (record { entries = now.entries; exits = new; frames = now.frames })
    returns_lower old now lost l work new p loses = exits_lower image g l now new (ReturnsGive image g at work) loses (λ proofs good i h fact is q r.
        let own : IsTrue (proofs.exit g fact) = subst (λ k. IsTrue (proofs.exit k fact)) q is in
        (good.exits fact own, p.above proofs i _ (subst (ExitIsGiven image proofs g at) (returns_are (instruction_at f at) r) (good.proved at inside).exit fact own)))

    pub leads_lower : (old now : Sets) (lost l : Bool) (work : Facts) (new : List Known) (met : Option ℕ) → ((r : ℕ) → met ≡ Some r → (to : ℕ) × Way (instruction_at f at) at to × (is_target f to ≡ true) × (rank f to ≡ r))
        → Passing image g (behind_at image g at) old now work lost → Loses l now.frames new (LeadsWith met work) → Lowers image g now (record { entries = now.entries; exits = now.exits; frames = new })
    leads_lower old now lost l work new met ways p loses = frames_lower image g l now new (LeadsWith met work) loses kept
      where
        kept : (proofs : Annotation) → ProveFunction image proofs g → IsIn image proofs g now → (to : ℕ) (fact : Fact) → IsTrue (proofs.before g to fact) → LeadsWith met work (rank f to) fact
        kept proofs good i to fact is e =
            let w = ways (rank f to) e in
            let t = (and_parts (is_target f to) (set_at now.frames (rank f to) fact) (i.before to fact is)).0 in
            let q : w.0 ≡ to = same_rank f w.0 to w.2 t w.3 in
            p.above proofs i fact ((good.proved at inside).targets to (subst (λ u. Way (instruction_at f at) at u) q w.1) t fact is)

  -- ---- to the next instruction

  -- not a target
  pub falls_on : (old now : Sets) (lost : Bool) (work : Facts) → is_target f (suc at) ≡ false → Passing image g (behind_at image g at) old now work lost → Passing image g (before_at image g (suc at)) old now work lost
  falls_on old now lost work e p = record {
    ready = p.ready;
    frames = p.frames;
    above = λ proofs i fact c. p.above proofs i fact (subst (λ (b : Bool). Follows n (λ q. either b (IsTrue (proofs.before g (suc at) q)) (Carried image proofs g at (Before image proofs g at) q)) fact) e c);
    below = λ d proofs c fact is. subst (λ (b : Bool). Follows n (λ q. either b (IsTrue (proofs.before g (suc at) q)) (Carried image proofs g at (Before image proofs g at) q)) fact) (sym e) (p.below d proofs c fact is);
    lowers = p.lowers;
    told = p.told;
  }

  -- a target: the working set takes what follows from its frame
  module _ (old now : Sets) (lost : Bool) (work : Facts) (mid : Facts) (r : ℕ) (is : is_target f (suc at) ≡ true) (same : rank f (suc at) ≡ r) where
    abbrev frame : Facts
    frame = set_at now.frames (rank f (suc at))

    -- its own facts, and those before the target
    given : (proofs : Annotation) → Fact → Type 0
    given proofs = before_at image g (suc at) proofs

    pub restarts : ((fact : Fact) → IsTrue (work fact) ↔ Derivable n (set_at now.frames r) fact) → Passing image g (behind_at image g at) old now mid lost → Passing image g (before_at image g (suc at)) old now work lost
    restarts anew p = record {
      ready = frame_ready image g now work r p.frames anew;
      frames = p.frames;
      above = λ proofs i fact c. (whole fact).1 (derivable_cut (λ q e. stated (claimed proofs i q (each_is (before_at image g (suc at) proofs) c.used c.each q e))) c.derived);
      below = λ d proofs c fact has. follows_listed n (get_or now.frames (rank f (suc at)) no_set) (before_at image g (suc at) proofs) (λ q e. known proofs d c q e) fact ((whole fact).0 has);
      lowers = p.lowers;
      told = p.told;
    }
      where
        whole : (fact : Fact) → IsTrue (work fact) ↔ Derivable n frame fact
        whole fact = subst (λ k. IsTrue (work fact) ↔ Derivable n (set_at now.frames k) fact) (sym same) (anew fact)

        claimed : (proofs : Annotation) → IsIn image proofs g now → (q : Fact) → before_at image g (suc at) proofs q → IsTrue (frame q)
        claimed proofs i q b = (and_parts (is_target f (suc at)) (frame q) (i.before (suc at) q (subst (λ (b : Bool). either b (IsTrue (proofs.before g (suc at) q)) (Carried image proofs g at (Before image proofs g at) q)) is b))).1

        known : (proofs : Annotation) → lost ≡ false → Claims image proofs g old → (q : Fact) → IsTrue (frame q) → before_at image g (suc at) proofs q
        known proofs d c q e = subst (λ (b : Bool). either b (IsTrue (proofs.before g (suc at) q)) (Carried image proofs g at (Before image proofs g at) q)) (sym is)
            (c.before (suc at) q ∙ and_from (is_target f (suc at)) (set_at old.frames (rank f (suc at)) q) is (subst (λ (z : Sets). IsTrue (set_at z.frames (rank f (suc at)) q)) (p.told d) e))

  -- ---- what is proved when nothing was lost

  module _ (inside : at < length f.code) (set : Known) (mid : Facts) (now : Sets) where
    -- proofs that claim what all sets have in the end
    module _ (proofs : Annotation) (i : IsIn image proofs g now) (before : (fact : Fact) → IsTrue (holds set fact) → Follows n (Before image proofs g at) fact) (behind : (fact : Fact) → IsTrue (mid fact) → Follows n (Carried image proofs g at (Before image proofs g at)) fact)
        (calls : (h : ℕ) (fact : Fact) → IsTrue (set_at now.entries h fact) → CallGives (effect_at image f at) set h fact) (leaves : (fact : Fact) → IsTrue (set_at now.exits g fact) → ReturnsGive image g at mid g fact)
        (leads : (to : ℕ) (fact : Fact) → Way (instruction_at f at) at to → is_target f to ≡ true → IsTrue (set_at now.frames (rank f to) fact) → IsTrue (mid fact)) where
      targets_proved : (to : ℕ) → Way (instruction_at f at) at to → is_target f to ≡ true → (fact : Fact) → IsTrue (proofs.before g to fact) → Follows n (Carried image proofs g at (Before image proofs g at)) fact
      targets_proved to way t fact is = behind fact (leads to fact way t (and_parts (is_target f to) (set_at now.frames (rank f to) fact) (i.before to fact is)).1)

      entry_proved : (k : Instruction) → instruction_at f at ≡ k → EntryIsGiven image proofs g at k
      entry_proved (instruction.Call h pins) e = λ fact is. before (fact_with (λ v. get_or places v 0) fact) (and_parts (is_over (length places) fact) (holds set (fact_with (λ v. get_or places v 0) fact))
          (calls h fact (i.entry h fact is) (when (regional_result (function_at image h).result) (place f (lowest image f at))) places (ap (effect_of image f (lowest image f at) (height image f at - 1)) e))).1
        where
          places : List ℕ
          places = regional_places f (take (function_at image h).parameters (regionals (function_at image h))) (lowest image f at)
      entry_proved (instruction.Constant s m) e = tt
      entry_proved (instruction.Global x) e = tt
      entry_proved (instruction.Get x) e = tt
      entry_proved (instruction.Set x) e = tt
      entry_proved (instruction.Load x) e = tt
      entry_proved (instruction.Typed t x) e = tt
      entry_proved (instruction.Arithmetic a s) e = tt
      entry_proved (instruction.Move x s d) e = tt
      entry_proved (instruction.Store x b) e = tt
      entry_proved (instruction.Simple s) e = tt
      entry_proved (instruction.Delete pins) e = tt
      entry_proved (instruction.Jump j to) e = tt

      exit_proved : (k : Instruction) → instruction_at f at ≡ k → ExitIsGiven image proofs g at k
      exit_proved (instruction.Simple simple.Return) e = λ fact is. behind _ (leaves fact (i.exit g fact is) refl (ap returns e)).1
      exit_proved (instruction.Simple simple.NullRegion) e = tt
      exit_proved (instruction.Simple simple.SameRegion) e = tt
      exit_proved (instruction.Simple simple.IsZero) e = tt
      exit_proved (instruction.Simple simple.IsNullRegion) e = tt
      exit_proved (instruction.Simple simple.ToInt) e = tt
      exit_proved (instruction.Simple simple.ToUnsigned) e = tt
      exit_proved (instruction.Simple simple.ToChar) e = tt
      exit_proved (instruction.Simple simple.NewRegion) e = tt
      exit_proved (instruction.Simple simple.NewSubregion) e = tt
      exit_proved (instruction.Simple simple.PutChar) e = tt
      exit_proved (instruction.Simple simple.GetChar) e = tt
      exit_proved (instruction.Simple simple.Pop) e = tt
      exit_proved (instruction.Call h pins) e = tt
      exit_proved (instruction.Constant s m) e = tt
      exit_proved (instruction.Global x) e = tt
      exit_proved (instruction.Get x) e = tt
      exit_proved (instruction.Set x) e = tt
      exit_proved (instruction.Load x) e = tt
      exit_proved (instruction.Typed t x) e = tt
      exit_proved (instruction.Arithmetic a s) e = tt
      exit_proved (instruction.Move x s d) e = tt
      exit_proved (instruction.Store x b) e = tt
      exit_proved (instruction.Delete pins) e = tt
      exit_proved (instruction.Jump j to) e = tt

      first_proved : (k : ℕ) → EntryIsProved image proofs g 0 → AtEntry image proofs g k k
      first_proved zero first = first
      first_proved (suc k) first = tt

      pub proved_bare : EntryIsProved image proofs g 0 → ProvedBare image proofs g at
      proved_bare first = record { targets = targets_proved; entry = entry_proved (instruction_at f at) refl; exit = exit_proved (instruction_at f at) refl; first = first_proved at first }
