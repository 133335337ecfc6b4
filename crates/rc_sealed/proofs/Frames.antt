-- One step of a machine over an image with proofs: calls and returns, with the callers that wait.
use Rattle.std.proofs.Common.{◌≡◌, ℕ, zero, suc, ◌+◌, ◌-◌, ◌<◌, ◌≤◌, Bool, true, false, nat_eq, IsTrue, List, [], ◌∷◌, ◌++◌, length, take, drop, get_or, reverse, Option, Some, None, inl, inr, ◌⊎◌, refl, sym, ap, ◌∙◌, subst, arith}
use Rattle.std.specs.List.{AllByRecursion as Every, AllZip}
use Rattle.std.proofs.lemmas.Bool.{eqb-true, eq-eqb}
use Rattle.std.proofs.lemmas.Option.{slice_get-get_or}
use Rattle.std.proofs.lemmas.List.{length-reverse, length-map, length-take-le}
use Rattle.rc_core.specs.Laws.{IfGoes}
use Rattle.rc_core.specs.Heap.{Value, Null, Heap, live, is_fresh}
use Rattle.rc_core.specs.Runs.{Run, Go, Stopped, bind}
use Rattle.rc_core.specs.Evaluation.{local_at}
use Rattle.rc_core.specs.Source.{World, source}
use Rattle.rc_safety.proofs.Heaps.{NoneDies, fresh_stays}
use Rattle.rc_safety.proofs.Lists.{every_drop, every_take, every_get_or, every_split}
use Rattle.rc_safety.proofs.Worlds.{NotStale}
use Rattle.rc_facts.specs.declared.fact.Fact.{Fact}
use Rattle.rc_rlang.specs.RegionFlow.{Effect, nothing, moved, called, assigned}
use Rattle.rc_rlang.specs.RegionRuns.{changed_at}
use Rattle.rc_annotations.specs.Annotations.{Annotation, exit_facts, fact_with, renamed}
use Rattle.rc_annotations.specs.Holding.{Holds, AllHold}
use Rattle.rc_annotations.specs.Variables.{picked, past}
use Rattle.rc_annotations.specs.Worlds.{Grown, Made, Sane, Stays}
use Rattle.rc_annotations.specs.Effects.{Happens}
use Rattle.rc_annotations.proofs.Truths.{holds_same}
use Rattle.rc_annotations.proofs.Effects.{with_name, changed_there, changed_else, below_apart}
use Rattle.rc_annotations.proofs.WorldFacts.{stays_heap, grown_trans, grown_itself, made_grown}
use Rattle.rc_code.specs.declared.opcode.Simple.TheVariants as simple
use Rattle.rc_code.specs.declared.instruction.Instruction.{Instruction}
use Rattle.rc_code.specs.declared.instruction.Instruction.TheVariants as instruction
use Rattle.rc_code.specs.declared.kind.Storage.{Storage}
use Rattle.rc_code.specs.declared.image.Function.{Function}
use Rattle.rc_code.specs.declared.image.Parts.{Parts}
use Rattle.rc_code.specs.Image.{FieldsFit}
use Rattle.rc_code.specs.Running.{Reading, reading_of, function_at, line_at, value_at, pinned, result_pushed, result_of, first_locals, Next, onward, backward, done, calls_within, effect}
use Rattle.rc_code.specs.Soundness.{Kind, operand_kind, parameter_kinds, result_kinds, Sound, gives, count_off, instruction_at, kinds_before, is_regional, local_in, IsFine}
use Rattle.rc_code.specs.Steps.{Frame, State, Moved, goes, finished, placed, leaving, step_by, step_of}
use Rattle.rc_worlds.specs.Worlds.{Compared, watched}
use Rattle.rc_worlds.specs.Typed.{HasKind, AsFresh}
use Rattle.rc_worlds.specs.States.{FrameSuits, FramesSuit, StateSuits, MovedSuits}
use Rattle.rc_worlds.proofs.Machine.{machine_steps}
use Rattle.rc_worlds.proofs.Stacks.{zip_length}
use Rattle.rc_claims.specs.Counts.{trues, regionals, copies, place, regional_result}
use Rattle.rc_sealed.specs.ImageVariables.{result_variable, scratch, variables, values_of}
use Rattle.rc_sealed.specs.Carrying.{effect_of, effect_at, height, lowest, if_regional, regional_places, when, Follows, Carried, Before}
use Rattle.rc_sealed.specs.Proved.{Way, EntryIsGiven, ExitIsGiven}
use Rattle.rc_sealed.specs.Pinned.{Used, on, MayDelete, calls, IsNumeric, PinsAll, PinsWhat}
use Rattle.rc_sealed.specs.AllProved.{AllProved}
use Rattle.rc_sealed.proofs.Safe.{FreshIn, Quiet, quiet_turn}
use Rattle.rc_sealed.proofs.Values.{place_value, copy_value, upper_at, pushed_at}
use Rattle.rc_sealed.proofs.Carry.{Hold, follows_hold, carried_hold, next_hold, before_over, over_below, moved_happens}
use Rattle.rc_sealed.proofs.Crossing.{Here, carries, carries_to}
use Rattle.rc_sealed.proofs.Operands.{every_reversed, numbers_are_fresh}
use Rattle.rc_sealed.proofs.Instructions.{Outcome, At, NextHere, image, sound, low, high, ground, place_below}
use Rattle.rc_sealed.proofs.Others.{follows, numeric_local, pinned_is, top_value}
use Rattle.rc_sealed.proofs.Passing.{given_to, given_whole, picked_each, first_fresh, entry_hold, exit_hold, argument_is}

-- what is undecided decides itself where it is asked of a test
settled : (D : Type 0) (b : Bool) → (D → b ≡ true) → ((D → ⊥) → b ≡ true) → b ≡ true
settled D true can cannot = refl
settled D false can cannot = cannot (λ d. false_true (can d))
  where
    false_true : false ≡ true → ⊥
    false_true e = absurd cc

all_settled : (D : Type 0) (w : World) (vs : List Value) → (D → Every (FreshIn w) vs) → ((D → ⊥) → Every (FreshIn w) vs) → Every (FreshIn w) vs
all_settled D w [] can cannot = tt
all_settled D w (v ∷ vs) can cannot = (settled D (is_fresh (live w.heap) v) (λ d. (can d).0) (λ n. (cannot n).0), all_settled D w vs (λ d. (can d).1) (λ n. (cannot n).1))

past_front : (vs : List Value) (t : ℕ → Value) (u : ℕ) → u < length vs → past vs t u ≡ get_or vs u Null
past_front [] t u lt = absurd (omega (arith, lt))
past_front (v ∷ vs) t zero lt = refl
past_front (v ∷ vs) t (suc u) lt = past_front vs t u (omega (arith, lt))

module _ (parts : Parts) (fields : FieldsFit parts) (rules : Sound parts) (proofs : Annotation) (all : AllProved parts proofs) where
  abbrev pub code : Reading
  code = reading_of parts

  abbrev im : Compared
  im = image parts fields rules proofs all

  -- a caller: its state at the call, in the world before
  pub record FrameKeeps (callee : ℕ) (given : List Value) (caller : Frame World) (copied : List Value) (w : World) : Type 0 where
    pub from : ℕ
    pub behind : caller.at ≡ suc from
    pub pins : List ℕ
    pub call : instruction_at (function_at code caller.function) from ≡ instruction.Call callee pins
    pub there : caller.function < length parts.functions
    pub inside : from < length (function_at code caller.function).code
    pub whole : length copied ≡ copies (function_at code caller.function)
    pub stack : List Value
    pub under : caller.stack ≡ drop (function_at code callee).parameters stack
    pub passed : given ≡ given_to (function_at code callee) (reverse (take (function_at code callee).parameters stack))
    pub state : At parts fields rules proofs all caller.function there from inside copied whole stack caller.locals caller.before
    pub grown : Grown caller.before.heap w.heap
    pub quiet : (MayDelete code callee → ⊥) → NoneDies (live caller.before.heap) (live w.heap)

  abbrev pub FramesKeep : (callee : ℕ) (given : List Value) → List (Frame World) → World → Type 0
  FramesKeep callee given [] w = Unit {0}
  FramesKeep callee given (caller ∷ rest) w = (copied : List Value) × FrameKeeps callee given caller copied w × FramesKeep caller.function copied rest caller.before

  pub record StateKeeps (s : State World) (w : World) : Type 0 where
    pub suits : StateSuits im s w
    pub sane : Sane w
    pub copied : List Value
    pub whole : length copied ≡ copies (function_at code s.function)
    pub made : Every (Made w.heap) copied
    pub here : Here parts proofs s.function s.at copied s.stack s.locals w
    pub frames : FramesKeep s.function copied s.frames w

  abbrev pub MovedKeeps : Moved World → World → Type 0
  MovedKeeps (goes s) w = StateKeeps s w
  MovedKeeps (finished v) w = Unit {0}

  -- a step touches no dead region, and leads to a state in which this holds again
  abbrev pub StepKeeps : Run World (Moved World) → Type 0
  StepKeeps (Go m w) = MovedKeeps m w
  StepKeeps (Stopped stop w) = NotStale stop

  frames_on : (g : ℕ) (given : List Value) (frames : List (Frame World)) (w w1 : World) → Grown w.heap w1.heap → ((MayDelete code g → ⊥) → NoneDies (live w.heap) (live w1.heap)) → FramesKeep g given frames w → FramesKeep g given frames w1
  frames_on g given [] w w1 grown quiet keeps = tt
  frames_on g given (caller ∷ rest) w w1 grown quiet keeps = (
    keeps.0,
    record {
      from = keeps.1.from;
      behind = keeps.1.behind;
      pins = keeps.1.pins;
      call = keeps.1.call;
      there = keeps.1.there;
      inside = keeps.1.inside;
      whole = keeps.1.whole;
      stack = keeps.1.stack;
      under = keeps.1.under;
      passed = keeps.1.passed;
      state = keeps.1.state;
      grown = grown_trans caller.before.heap w.heap w1.heap keeps.1.grown grown;
      quiet = λ never r l. quiet never r (keeps.1.quiet never r l);
    },
    keeps.2,
  )

  all_made_grown : (a b : Heap) (vs : List Value) → Grown a b → Every (Made a) vs → Every (Made b) vs
  all_made_grown a b [] grown made = tt
  all_made_grown a b (v ∷ vs) grown made = (made_grown a b v grown made.0, all_made_grown a b vs grown made.1)

  module _ (s : State World) (w : World) (keeps : StateKeeps s w) where
    abbrev f : Function
    f = function_at code s.function

    abbrev line : ℕ
    line = line_at f s.at

    i_fine : IsFine true code f s.at (instruction_at f s.at)
    i_fine = (rules.functions s.function keeps.suits.there).fine s.at (instruction_at f s.at) (slice_get-get_or f.code s.at (instruction.Simple simple.Return) keeps.suits.inside)

    state : At parts fields rules proofs all s.function keeps.suits.there s.at keeps.suits.inside keeps.copied keeps.whole s.stack s.locals w
    state = record { kinds = keeps.suits.stack; locals = keeps.suits.locals; good = keeps.suits.good; sane = keeps.sane; here = keeps.here; copies = keeps.made }

    -- an instruction that stays in its function
    inside_step : (e : Run World Next) → Outcome code s.function w (NextHere parts fields rules proofs all s.function keeps.suits.there s.at keeps.suits.inside keeps.copied keeps.whole) e
        → IfGoes (MovedSuits im) (bind e (λ x. Go (placed s x))) → StepKeeps (bind e (λ x. Go (placed s x)))
    inside_step (Stopped stop w1) out suits = out.holds
    inside_step (Go (onward n st env) w1) out suits = record {
      suits = suits;
      sane = out.holds.0.sane;
      copied = keeps.copied;
      whole = keeps.whole;
      made = all_made_grown w.heap w1.heap keeps.copied out.holds.0.grown keeps.made;
      here = subst (λ p. Here parts proofs s.function p keeps.copied st env w1) out.holds.2.1 out.holds.2.2;
      frames = frames_on s.function keeps.copied s.frames w w1 out.holds.0.grown out.holds.1 keeps.frames;
    }
    inside_step (Go (backward to st env) w1) out suits = record {
      suits = suits;
      sane = out.holds.0.sane;
      copied = keeps.copied;
      whole = keeps.whole;
      made = all_made_grown w.heap w1.heap keeps.copied out.holds.0.grown keeps.made;
      here = out.holds.2;
      frames = frames_on s.function keeps.copied s.frames w w1 out.holds.0.grown out.holds.1 keeps.frames;
    }
    inside_step (Go (done v) w1) out suits = tt

    -- ---- a call

    enters : (h : ℕ) (pins : List ℕ) → instruction_at f s.at ≡ instruction.Call h pins → IsFine true code f s.at (instruction.Call h pins)
        → IfGoes (MovedSuits im) (step_by (watched im) code (instruction.Call h pins) line s w) → StepKeeps (step_by (watched im) code (instruction.Call h pins) line s w)
    enters h pins is fine suits = by (source.take_turn (source.enter (pinned pins s.locals) w)) (quiet_turn (source.enter (pinned pins s.locals) w)) suits
      where
        to : Function
        to = function_at code h

        vs : List Value
        vs = reverse (take to.parameters s.stack)

        next : State World
        next = record { function = h; at = 0; stack = []; locals = first_locals to vs; frames = record { function = s.function; at = suc s.at; stack = drop to.parameters s.stack; locals = s.locals; before = w } ∷ s.frames }

        count : count_off code f (instruction.Call h pins) ≡ to.parameters
        count = length-reverse (parameter_kinds to) ∙ length-map (take to.parameters to.locals) operand_kind ∙ length-take-le to.parameters to.locals ((sound parts fields rules proofs all).parameters h fine.names.0)

        low_is : lowest code f s.at ≡ length (drop to.parameters s.stack)
        low_is = low parts fields rules proofs all s.function keeps.suits.there s.at keeps.suits.inside keeps.copied keeps.whole (instruction.Call h pins) is to.parameters count s.stack s.locals w state

        argument : (k : ℕ) → values_of f keeps.copied s.locals s.stack (place f (lowest code f s.at + k)) ≡ get_or vs k Null
        argument k = place_value f keeps.copied keeps.whole s.locals s.stack (lowest code f s.at + k) ∙ ap (λ m. value_at (reverse s.stack) (m + k)) low_is ∙ upper_at to.parameters s.stack k

        long : length vs ≡ to.parameters
        long = length-reverse (take to.parameters s.stack) ∙ length-take-le to.parameters s.stack (let l = zip_length (HasKind im w.heap) (kinds_before code f s.at) s.stack keeps.suits.stack in
            let e = ap length fine.operands.1 in let a = Rattle.std.proofs.lemmas.List.length-append (reverse (parameter_kinds to)) fine.operands.0 in
            let c : length (reverse (parameter_kinds to)) ≡ to.parameters = count in omega (arith, l, e, a, c))

        entry : (fact : Fact) → IsTrue (proofs.entry h fact) → Holds fact (past (given_to to vs) (λ i. Null)) w.heap
        entry fact e =
            holds_same (copies to) fact (λ v. values_of f keeps.copied s.locals s.stack (get_or (regional_places f (take to.parameters (regionals to)) (lowest code f s.at)) v 0)) (past (given_to to vs) (λ i. Null)) w.heap (over_below (copies to) fact (all.over.entries h fact e))
            (λ v lt. sym (argument_is f (take to.parameters (regionals to)) vs (lowest code f s.at) v (values_of f keeps.copied s.locals s.stack) argument (let c = counted (regionals to) to.parameters in omega (arith, lt, c))))
            (with_name (λ v. get_or (regional_places f (take to.parameters (regionals to)) (lowest code f s.at)) v 0) fact (values_of f keeps.copied s.locals s.stack) w.heap
            (follows_hold (variables code f) (Before code proofs s.function s.at) (values_of f keeps.copied s.locals s.stack) w.heap keeps.sane.rooted keeps.here.facts (fact_with (λ v. get_or (regional_places f (take to.parameters (regionals to)) (lowest code f s.at)) v 0) fact)
            (subst (EntryIsGiven code proofs s.function s.at) is (all.proved s.function s.at keeps.suits.there keeps.suits.inside).entry fact e)))
          where
            counted : (bs : List Bool) (n : ℕ) → trues (take n bs) (length (take n bs)) ≡ trues bs n
            counted [] zero = refl
            counted [] (suc n) = refl
            counted (true ∷ bs) zero = refl
            counted (false ∷ bs) zero = refl
            counted (true ∷ bs) (suc n) = ap suc (counted bs n)
            counted (false ∷ bs) (suc n) = counted bs n

        args_fresh : Every (FreshIn w) vs
        args_fresh = every_reversed (FreshIn w) (take to.parameters s.stack) (every_take (FreshIn w) to.parameters s.stack keeps.here.stack)

        vs_made : Every (Made w.heap) vs
        vs_made = every_reversed (Made w.heap) (take to.parameters s.stack) (every_take (Made w.heap) to.parameters s.stack (Rattle.rc_sealed.proofs.Operands.kinds_made im w.heap (kinds_before code f s.at) s.stack keeps.suits.stack))

        by : (m : Run World (Unit {0})) → Quiet (source.enter (pinned pins s.locals) w) (λ _ w1. w1.heap ≡ w.heap) m → IfGoes (MovedSuits im) (bind m (λ _. Go (goes next))) → StepKeeps (bind m (λ _. Go (goes next)))
        by (Stopped stop w1) q suits = q.holds
        by (Go x w1) q suits = record {
          suits = suits;
          sane = (stays_heap w w1 keeps.sane q.holds.1).sane;
          copied = given_to to vs;
          whole = given_whole to vs;
          made = all_made_grown w.heap w1.heap (given_to to vs) (stays_heap w w1 keeps.sane q.holds.1).grown (picked_each (Made w.heap) (λ p. absurd p) (take to.parameters (regionals to)) vs vs_made);
          here = record {
            facts = entry_hold code proofs h vs w1.heap (stays_heap w w1 keeps.sane q.holds.1).sane.rooted long ((sound parts fields rules proofs all).parameters h fine.names.0) (all.over.entries h)
                (all.proved h 0 fine.names.0 (rules.functions h fine.names.0).begins).first (λ fact e. subst (Holds fact (past (given_to to vs) (λ i. Null))) (sym q.holds.1) (entry fact e));
            stack = tt;
            used = λ y u. every_get_or (FreshIn w1) (first_locals to vs) y Null refl (first_fresh w1 to vs (subst (λ heap. Every (Rattle.rc_safety.specs.Soundness.IsFresh (live heap)) vs) (sym q.holds.1) args_fresh));
          };
          frames = (
            keeps.copied,
            record {
              from = s.at;
              behind = refl;
              pins = pins;
              call = is;
              there = keeps.suits.there;
              inside = keeps.suits.inside;
              whole = keeps.whole;
              stack = s.stack;
              under = refl;
              passed = refl;
              state = state;
              grown = (stays_heap w w1 keeps.sane q.holds.1).grown;
              quiet = λ _. q.holds.0;
            },
            keeps.frames,
          );
        }

    -- ---- a return

    top_of : (result : Option Storage) → regional_result result ≡ true → result_of result s.stack ≡ value_at s.stack 0
    top_of None e = absurd cc
    top_of (Some r) e = refl

    top_kinds : (result : Option Storage) (kinds below : List Kind) → regional_result result ≡ true → kinds ≡ result_kinds result ++ below → (k : Kind) × (kinds ≡ k ∷ below)
    top_kinds None kinds below e is = absurd cc
    top_kinds (Some r) kinds below e is = (operand_kind r, is)

    result_fresh : (result : Option Storage) → FreshIn w (result_of result s.stack)
    result_fresh None = refl
    result_fresh (Some r) = every_get_or (FreshIn w) s.stack 0 Null refl keeps.here.stack

    -- the facts of the exit hold of the hidden copies and of a value, which is the result where that is a region or a pointer
    pub record Leaves : Type 0 where
      pub value : Value
      pub holds : AllHold (proofs.exit s.function) (past keeps.copied (λ _. value)) w.heap
      pub given : regional_result f.result ≡ true → value ≡ result_of f.result s.stack

    exit_known : instruction_at f s.at ≡ instruction.Simple simple.Return → IsFine true code f s.at (instruction.Simple simple.Return) → Leaves
    exit_known is fine = by (regional_result f.result) refl
      where
        values : ℕ → Value
        values = values_of f keeps.copied s.locals s.stack

        out : ℕ
        out = result_variable code f

        top : ℕ
        top = place f (height code f s.at - 1)

        given : (fact : Fact) → IsTrue (proofs.exit s.function fact) → Follows (variables code f) (Carried code proofs s.function s.at (Before code proofs s.function s.at)) (fact_with (renamed (copies f) out) fact)
        given = subst (ExitIsGiven code proofs s.function s.at) is (all.proved s.function s.at keeps.suits.there keeps.suits.inside).exit

        hold : (mid : ℕ → Value) → Hold (Carried code proofs s.function s.at (Before code proofs s.function s.at)) mid w.heap → ((u : ℕ) → u < copies f → mid u ≡ values u) → AllHold (proofs.exit s.function) (past keeps.copied (λ _. mid out)) w.heap
        hold mid carried same fact e =
            holds_same (suc (copies f)) fact (λ u. mid (renamed (copies f) out u)) (past keeps.copied (λ _. mid out)) w.heap (over_below (suc (copies f)) fact (all.over.exits s.function fact e)) (λ u lt. each u lt (nat_eq u (copies f)) refl)
            (with_name (renamed (copies f) out) fact mid w.heap (follows_hold (variables code f) (Carried code proofs s.function s.at (Before code proofs s.function s.at)) mid w.heap keeps.sane.rooted carried (fact_with (renamed (copies f) out) fact) (given fact e)))
          where
            each : (u : ℕ) → u < suc (copies f) → (b : Bool) → nat_eq u (copies f) ≡ b → past keeps.copied (λ _. mid out) u ≡ mid (renamed (copies f) out u)
            each u lt true e = let q : u ≡ copies f = eqb-true u (copies f) e in
                Rattle.rc_annotations.proofs.Variables.past_there keeps.copied (λ _. mid out) 0 u (q ∙ sym keeps.whole ∙ (let z : length keeps.copied ≡ length keeps.copied + 0 = omega arith in z)) ∙ ap mid (sym (ap (λ b. Rattle.rc_annotations.specs.Annotations.renamed_by b out u) e))
            each u lt false e =
                let apart : (u ≡ copies f) → ⊥ = λ q. other u q e in
                let less : u < copies f = strictly u (copies f) lt apart in
                past_front keeps.copied (λ _. mid out) u (let l = keeps.whole in omega (arith, less, l)) ∙ sym (copy_value f keeps.copied keeps.whole s.locals s.stack u less) ∙ sym (same u less) ∙ ap mid (sym (ap (λ b. Rattle.rc_annotations.specs.Annotations.renamed_by b out u) e))
              where
                differ : (b : Bool) → b ≡ true → b ≡ false → ⊥
                differ true e e1 = absurd cc
                differ false e e1 = absurd cc

                other : (u : ℕ) → u ≡ copies f → nat_eq u (copies f) ≡ false → ⊥
                other u q e = differ (nat_eq u (copies f)) (eq-eqb u (copies f) q) e

                strictly : (a b : ℕ) → a < suc b → (a ≡ b → ⊥) → a < b
                strictly a b lt apart = by (split a b)
                  where
                    split : (a b : ℕ) → (a < b) ⊎ (b ≤ a)
                    split a b = grind arith

                    by : (a < b) ⊎ (b ≤ a) → a < b
                    by (inl l) = l
                    by (inr g) = absurd (apart (omega (arith, lt, g)))

        carried : (mid : ℕ → Value) (effect : Effect) → effect_of code f (lowest code f s.at) (height code f s.at - 1) (instruction.Simple simple.Return) ≡ effect → Happens (scratch code f) (scratch code f) (exit_facts proofs) (assigned effect) effect values mid w.heap
            → Hold (Carried code proofs s.function s.at (Before code proofs s.function s.at)) mid w.heap
        carried mid effect e happens =
            carried_hold code proofs s.function s.at (Before code proofs s.function s.at) values mid mid w.heap w.heap (before_over code proofs s.function (all.over.frames s.function) s.at) keeps.here.facts
            (ground parts fields rules proofs all s.function keeps.suits.there s.at keeps.suits.inside keeps.copied keeps.whole (instruction.Simple simple.Return) is (count_off code f (instruction.Simple simple.Return)) refl s.stack s.locals w state)
            keeps.sane.rooted (grown_itself w.heap)
            (subst (λ x. Happens (scratch code f) (scratch code f) (exit_facts proofs) (assigned x) x values mid w.heap) (sym (ap (effect_of code f (lowest code f s.at) (height code f s.at - 1)) is ∙ e)) happens) (λ u lt k. refl)

        by : (b : Bool) → regional_result f.result ≡ b → Leaves
        by true e =
            let v = result_of f.result s.stack in
            let mid = changed_at values out v in
            let kinds = top_kinds f.result (kinds_before code f s.at) fine.operands.0 e fine.operands.1 in
            let value : v ≡ values top = top_of f.result e ∙ sym (top_value parts fields rules proofs all s.function keeps.suits.there s.at keeps.suits.inside keeps.copied keeps.whole s.stack s.locals w state kinds.0 fine.operands.0 kinds.1) in
            record {
              value = mid out;
              holds = hold mid (carried mid (moved out top) (ap (λ b. if_regional b (moved out top)) e) (moved_happens (exit_facts proofs) (scratch code f) values v w.heap out top (place_below parts fields rules proofs all s.function keeps.suits.there s.at keeps.suits.inside keeps.copied keeps.whole (height code f s.at - 1) (omega arith)) value))
                  (λ u lt. changed_else values out v u (below_apart u (copies f) out lt (omega arith)));
              given = λ _. changed_there values out v out refl;
            }
        by false e = record {
          value = values out;
          holds = hold values (carried values nothing (ap (λ b. if_regional b (moved out top)) e) ((λ u lt. refl), tt)) (λ u lt. refl);
          given = λ e1. absurd (differ (regional_result f.result) e1 e);
        }
          where
            differ : (b : Bool) → b ≡ true → b ≡ false → ⊥
            differ true e e1 = absurd cc
            differ false e e1 = absurd cc

    zip_dropped : {A B : Type 0} (R : A → B → Type 0) (n : ℕ) (xs : List A) (ys : List B) → AllZip R xs ys → AllZip R (drop n xs) (drop n ys)
    zip_dropped R zero xs ys all = all
    zip_dropped R (suc n) [] [] all = tt
    zip_dropped R (suc n) [] (y ∷ ys) all = absurd all
    zip_dropped R (suc n) (x ∷ xs) [] all = absurd all
    zip_dropped R (suc n) (x ∷ xs) (y ∷ ys) all = zip_dropped R n xs ys all.1

    -- to a caller
    module _ (caller : Frame World) (copied : List Value) (frame : FrameKeeps s.function keeps.copied caller copied w) (suit : FrameSuits im s.function caller w) (left : Leaves) where
      abbrev g : ℕ
      g = caller.function

      abbrev F : Function
      F = function_at code g

      abbrev i : Instruction
      i = instruction.Call s.function frame.pins

      abbrev n : ℕ
      n = f.parameters

      abbrev env : List Value
      env = caller.locals

      abbrev values0 : ℕ → Value
      values0 = values_of F copied env frame.stack

      abbrev vs : List Value
      vs = reverse (take n frame.stack)

      abbrev bs : List Bool
      bs = take n (regionals f)

      caller_fine : IsFine true code F frame.from i
      caller_fine = (rules.functions g frame.there).fine frame.from i (slice_get-get_or F.code frame.from (instruction.Simple simple.Return) frame.inside ∙ ap Some frame.call)

      count : count_off code F i ≡ n
      count = length-reverse (parameter_kinds f) ∙ length-map (take n f.locals) operand_kind ∙ length-take-le n f.locals ((sound parts fields rules proofs all).parameters s.function keeps.suits.there)

      low_is : lowest code F frame.from ≡ length (drop n frame.stack)
      low_is = low parts fields rules proofs all g frame.there frame.from frame.inside copied frame.whole i frame.call n count frame.stack env caller.before frame.state

      high_is : height code F frame.from ≡ length frame.stack
      high_is = high parts fields rules proofs all g frame.there frame.from frame.inside copied frame.whole i frame.call n count frame.stack env caller.before frame.state

      argument : (k : ℕ) → values0 (place F (lowest code F frame.from + k)) ≡ get_or vs k Null
      argument k = place_value F copied frame.whole env frame.stack (lowest code F frame.from + k) ∙ ap (λ m. value_at (reverse frame.stack) (m + k)) low_is ∙ upper_at n frame.stack k

      way : Way (instruction_at F frame.from) frame.from (suc frame.from)
      way = subst (λ j. Way j frame.from (suc frame.from)) (sym frame.call) refl

      not_set : (x : ℕ) → instruction_at F frame.from ≡ instruction.Set x → ⊥
      not_set x e = let k : i ≡ instruction.Set x = sym frame.call ∙ e in absurd cc

      stays : Stays caller.before w
      stays = record { sane = keeps.sane; grown = frame.grown }

      exits_hold : AllHold (proofs.exit s.function) (past (picked bs vs) (λ _. left.value)) w.heap
      exits_hold = subst (λ given. AllHold (proofs.exit s.function) (past given (λ _. left.value)) w.heap) frame.passed left.holds

      arguments_below : (k : ℕ) → k < length bs → place F (lowest code F frame.from + k) < scratch code F
      arguments_below k lt = place_below parts fields rules proofs all g frame.there frame.from frame.inside copied frame.whole (lowest code F frame.from + k)
          (let a = Rattle.std.proofs.lemmas.List.length-append (take n frame.stack) (drop n frame.stack) in let b = ap length (Rattle.std.proofs.lemmas.List.take-append-drop n frame.stack) in
          let c = taken n (regionals f) in let d = operands in omega (arith, lt, a, b, c, d, low_is, high_is))
        where
          taken : (n : ℕ) (bs : List Bool) → length (take n bs) ≤ n
          taken zero bs = omega arith
          taken (suc n) [] = omega arith
          taken (suc n) (b ∷ bs) = let k = taken n bs in omega (arith, k)

          operands : length (take n frame.stack) ≡ n
          operands = length-take-le n frame.stack (let l = zip_length (HasKind im caller.before.heap) (kinds_before code F frame.from) frame.stack frame.state.kinds in
              let e = ap length caller_fine.operands.1 in let a = Rattle.std.proofs.lemmas.List.length-append (reverse (parameter_kinds f)) caller_fine.operands.0 in
              let c : length (reverse (parameter_kinds f)) ≡ n = count in omega (arith, l, e, a, c))

      pins_all : MayDelete code s.function → PinsAll code F frame.from frame.pins
      pins_all = subst (PinsWhat code g frame.from) frame.call (all.pinned g frame.from frame.there frame.inside)

      below_fresh : Every (FreshIn w) (drop n frame.stack)
      below_fresh = all_settled (MayDelete code s.function) w (drop n frame.stack)
          (λ d. numbers_are_fresh im caller.before.heap w (drop n (kinds_before code F frame.from)) (drop n frame.stack)
          (subst (λ m. Every IsNumeric (drop m (kinds_before code F frame.from))) (ap (count_off code F) frame.call ∙ count) (pins_all d).below)
          (zip_dropped (HasKind im caller.before.heap) n (kinds_before code F frame.from) frame.stack frame.state.kinds))
          (λ never. Rattle.rc_sealed.proofs.Crossing.every_fresh caller.before w (frame.quiet never) (drop n frame.stack) (every_drop (FreshIn caller.before) n frame.stack frame.state.here.stack))

      used_fresh : (x : ℕ) → Used F x (suc frame.from) → FreshIn w (local_at env x)
      used_fresh x u = settled (MayDelete code s.function) (is_fresh (live w.heap) (local_at env x)) (λ d. pinned_case d (is_regional (local_in F x)) refl)
          (λ never. fresh_stays (live caller.before.heap) (live w.heap) (frame.quiet never) (local_at env x) before)
        where
          before : FreshIn caller.before (local_at env x)
          before = frame.state.here.used x (on (not_set x) way u)

          same_from : suit.from ≡ frame.from
          same_from = let a = suit.behind in let b = frame.behind in omega (arith, a, b)

          same_pins : suit.pins ≡ frame.pins
          same_pins = let e : instruction.Call s.function suit.pins ≡ instruction.Call s.function frame.pins = sym suit.call ∙ ap (instruction_at F) same_from ∙ frame.call in cc

          as_fresh : Every (AsFresh caller.before.heap w.heap) (pinned frame.pins env)
          as_fresh = subst (λ pins. Every (AsFresh caller.before.heap w.heap) (pinned pins env)) same_pins (every_split (AsFresh caller.before.heap w.heap) (pinned suit.pins env) caller.before.waiting suit.reached.fresh).0

          pinned_case : MayDelete code s.function → (b : Bool) → is_regional (local_in F x) ≡ b → FreshIn w (local_at env x)
          pinned_case d true e = pinned_is (AsFresh caller.before.heap w.heap) env frame.pins x ((pins_all d).locals x e (record { to = suc frame.from; way = way; used = u })) as_fresh ∙ before
          pinned_case d false e = numeric_local parts F.locals env x caller.before.heap w im frame.state.locals e

      effect_is : (result : Option Storage) → f.result ≡ result → effect_at code F frame.from ≡ called (when (regional_result result) (place F (lowest code F frame.from))) s.function (regional_places F bs (lowest code F frame.from))
      effect_is result e = ap (effect_of code F (lowest code F frame.from) (height code F frame.from - 1)) frame.call ∙ ap (λ r. called (when (regional_result r) (place F (lowest code F frame.from))) s.function (regional_places F bs (lowest code F frame.from))) e

      few : (result : Option Storage) → f.result ≡ result → length (result_kinds result) ≤ length (gives code F (instruction_at F frame.from))
      few result e = subst (λ j. length (result_kinds result) ≤ length (gives code F j)) (sym frame.call) (subst (λ r. length (result_kinds result) ≤ length (result_kinds r)) (sym e) (omega arith))

      ground0 : Rattle.rc_annotations.specs.Worlds.Grounded values0 caller.before.heap
      ground0 = ground parts fields rules proofs all g frame.there frame.from frame.inside copied frame.whole i frame.call n count frame.stack env caller.before frame.state

      -- no region or pointer is given
      says_none : Happens (scratch code F) (scratch code F) (exit_facts proofs) None (called None s.function (regional_places F bs (lowest code F frame.from))) values0 values0 w.heap
      says_none = ((λ u lt. refl), exit_hold proofs F s.function bs vs (lowest code F frame.from) None values0 left.value w.heap (λ k lt. argument k) (λ y e. absurd (none_some y e)) exits_hold)
        where
          none_some : (y : ℕ) → None ≡ Some y → ⊥
          none_some y e = absurd cc

      says_some : (v : Value) → left.value ≡ v → Happens (scratch code F) (scratch code F) (exit_facts proofs) (Some (place F (lowest code F frame.from))) (called (Some (place F (lowest code F frame.from))) s.function (regional_places F bs (lowest code F frame.from))) values0 (changed_at values0 (place F (lowest code F frame.from)) v) w.heap
      says_some v e = (
        v,
        (λ u lt. refl),
        exit_hold proofs F s.function bs vs (lowest code F frame.from) (Some (scratch code F)) (changed_at values0 (scratch code F) v) left.value w.heap
            (λ k lt. changed_else values0 (scratch code F) v (place F (lowest code F frame.from + k)) (below_apart (place F (lowest code F frame.from + k)) (scratch code F) (scratch code F) (arguments_below k lt) (omega arith)) ∙ argument k)
            (λ y is. (let q : scratch code F ≡ y = some_is y is in ap (changed_at values0 (scratch code F) v) (sym q)) ∙ changed_there values0 (scratch code F) v (scratch code F) refl ∙ sym e) exits_hold,
      )
        where
          some_is : (y : ℕ) → Some (scratch code F) ≡ Some y → scratch code F ≡ y
          some_is y is = cc

      facts_behind : (result : Option Storage) → f.result ≡ result → Hold (Carried code proofs g frame.from (Before code proofs g frame.from)) (values_of F copied env (result_pushed result (result_of f.result s.stack) (drop n frame.stack))) w.heap
      facts_behind None e =
          carries parts proofs all g frame.there frame.from frame.inside copied frame.whole [] n frame.stack env low_is high_is (few None e) caller.before w frame.state.here ground0 stays
          (called None s.function (regional_places F bs (lowest code F frame.from))) (effect_is None e) refl says_none
      facts_behind (Some r) e = by (is_regional r) refl
        where
          by : (b : Bool) → is_regional r ≡ b → Hold (Carried code proofs g frame.from (Before code proofs g frame.from)) (values_of F copied env (result_of f.result s.stack ∷ drop n frame.stack)) w.heap
          by true is =
              carries_to parts proofs all g frame.there frame.from frame.inside copied frame.whole (result_of f.result s.stack ∷ []) n frame.stack env low_is high_is (few (Some r) e) caller.before w frame.state.here ground0 stays
              (called (Some (place F (lowest code F frame.from))) s.function (regional_places F bs (lowest code F frame.from))) (effect_is (Some r) e ∙ ap (λ b. called (when b (place F (lowest code F frame.from))) s.function (regional_places F bs (lowest code F frame.from))) is)
              (place F (lowest code F frame.from)) (result_of f.result s.stack) env refl (says_some (result_of f.result s.stack) (left.given (ap regional_result e ∙ is)))
              (λ u at_low. ap (values_of F copied env (result_of f.result s.stack ∷ drop n frame.stack)) (eqb-true u _ at_low ∙ ap (place F) low_is) ∙ place_value F copied frame.whole env (result_of f.result s.stack ∷ drop n frame.stack) (length (drop n frame.stack)) ∙ pushed_at (result_of f.result s.stack) (drop n frame.stack))
              (λ u other. refl)
          by false is =
              carries parts proofs all g frame.there frame.from frame.inside copied frame.whole (result_of f.result s.stack ∷ []) n frame.stack env low_is high_is (few (Some r) e) caller.before w frame.state.here ground0 stays
              (called None s.function (regional_places F bs (lowest code F frame.from))) (effect_is (Some r) e ∙ ap (λ b. called (when b (place F (lowest code F frame.from))) s.function (regional_places F bs (lowest code F frame.from))) is) refl says_none

      pushed_fresh : (result : Option Storage) (v : Value) (st : List Value) → FreshIn w v → Every (FreshIn w) st → Every (FreshIn w) (result_pushed result v st)
      pushed_fresh None v st fresh each = each
      pushed_fresh (Some r) v st fresh each = (fresh, each)

      here_behind : Here parts proofs g (suc frame.from) copied (result_pushed f.result (result_of f.result s.stack) (drop n frame.stack)) env w
      here_behind = record {
        facts = next_hold code proofs g frame.from (values_of F copied env (result_pushed f.result (result_of f.result s.stack) (drop n frame.stack))) w.heap keeps.sane.rooted (all.proved g frame.from frame.there frame.inside) way (facts_behind f.result refl);
        stack = pushed_fresh f.result (result_of f.result s.stack) (drop n frame.stack) (result_fresh f.result) below_fresh;
        used = used_fresh;
      }

    leaves : instruction_at f s.at ≡ instruction.Simple simple.Return → IsFine true code f s.at (instruction.Simple simple.Return)
        → IfGoes (MovedSuits im) (step_by (watched im) code (instruction.Simple simple.Return) line s w) → StepKeeps (step_by (watched im) code (instruction.Simple simple.Return) line s w)
    leaves is fine suits = by s.frames keeps.suits.frames keeps.frames suits
      where
        v : Value
        v = result_of f.result s.stack

        by : (frames : List (Frame World)) → FramesSuit im s.function frames w → FramesKeep s.function keeps.copied frames w → IfGoes (MovedSuits im) (leaving (watched im) code f frames v w) → StepKeeps (leaving (watched im) code f frames v w)
        by [] suit keep suits = tt
        by (caller ∷ rest) suit keep suits =
            let frame = keep.1 in
            record {
              suits = suits;
              sane = record { sound = keeps.sane.sound; rooted = keeps.sane.rooted };
              copied = keep.0;
              whole = frame.whole;
              made = all_made_grown caller.before.heap w.heap keep.0 frame.grown frame.state.copies;
              here = again caller keep.0 frame (here_behind caller keep.0 frame suit.0 (exit_known is fine));
              frames = frames_on caller.function keep.0 rest caller.before (source.leave caller.before w) frame.grown (λ never. frame.quiet (λ d. never (calls frame.from frame.inside frame.pins frame.call d))) keep.2;
            }
          where
            again : (caller : Frame World) (copied : List Value) (frame : FrameKeeps s.function keeps.copied caller copied w) → Here parts proofs caller.function (suc frame.from) copied (result_pushed f.result v (drop f.parameters frame.stack)) caller.locals w
                → Here parts proofs caller.function caller.at copied (result_pushed f.result v caller.stack) caller.locals (source.leave caller.before w)
            again caller copied frame h =
                let one = subst (λ st. Here parts proofs caller.function (suc frame.from) copied (result_pushed f.result v st) caller.locals w) (sym frame.under) h in
                let two = subst (λ at. Here parts proofs caller.function at copied (result_pushed f.result v caller.stack) caller.locals w) (sym frame.behind) one in
                record { facts = two.facts; stack = two.stack; used = two.used }

    -- ---- any instruction

    is_inside : (i : Instruction) → instruction_at f s.at ≡ i → IsFine true code f s.at i → IfGoes (MovedSuits im) (step_by (watched im) code i line s w) → StepKeeps (step_by (watched im) code i line s w)
    is_inside (instruction.Call h pins) is fine suits = enters h pins is fine suits
    is_inside (instruction.Simple simple.Return) is fine suits = leaves is fine suits
    is_inside (instruction.Constant k m) is fine suits = inside_step (effect (watched im) code f line s.at (instruction.Constant k m) (calls_within (watched im) code 0) s.stack s.locals w) (follows parts fields rules proofs all s.function keeps.suits.there s.at keeps.suits.inside keeps.copied keeps.whole (instruction.Constant k m) tt is fine s.stack s.locals w state) suits
    is_inside (instruction.Global m) is fine suits = inside_step (effect (watched im) code f line s.at (instruction.Global m) (calls_within (watched im) code 0) s.stack s.locals w) (follows parts fields rules proofs all s.function keeps.suits.there s.at keeps.suits.inside keeps.copied keeps.whole (instruction.Global m) tt is fine s.stack s.locals w state) suits
    is_inside (instruction.Get x) is fine suits = inside_step (effect (watched im) code f line s.at (instruction.Get x) (calls_within (watched im) code 0) s.stack s.locals w) (follows parts fields rules proofs all s.function keeps.suits.there s.at keeps.suits.inside keeps.copied keeps.whole (instruction.Get x) tt is fine s.stack s.locals w state) suits
    is_inside (instruction.Set x) is fine suits = inside_step (effect (watched im) code f line s.at (instruction.Set x) (calls_within (watched im) code 0) s.stack s.locals w) (follows parts fields rules proofs all s.function keeps.suits.there s.at keeps.suits.inside keeps.copied keeps.whole (instruction.Set x) tt is fine s.stack s.locals w state) suits
    is_inside (instruction.Load path) is fine suits = inside_step (effect (watched im) code f line s.at (instruction.Load path) (calls_within (watched im) code 0) s.stack s.locals w) (follows parts fields rules proofs all s.function keeps.suits.there s.at keeps.suits.inside keeps.copied keeps.whole (instruction.Load path) tt is fine s.stack s.locals w state) suits
    is_inside (instruction.Typed row t) is fine suits = inside_step (effect (watched im) code f line s.at (instruction.Typed row t) (calls_within (watched im) code 0) s.stack s.locals w) (follows parts fields rules proofs all s.function keeps.suits.there s.at keeps.suits.inside keeps.copied keeps.whole (instruction.Typed row t) tt is fine s.stack s.locals w state) suits
    is_inside (instruction.Arithmetic row k) is fine suits = inside_step (effect (watched im) code f line s.at (instruction.Arithmetic row k) (calls_within (watched im) code 0) s.stack s.locals w) (follows parts fields rules proofs all s.function keeps.suits.there s.at keeps.suits.inside keeps.copied keeps.whole (instruction.Arithmetic row k) tt is fine s.stack s.locals w state) suits
    is_inside (instruction.Move t k direction) is fine suits = inside_step (effect (watched im) code f line s.at (instruction.Move t k direction) (calls_within (watched im) code 0) s.stack s.locals w) (follows parts fields rules proofs all s.function keeps.suits.there s.at keeps.suits.inside keeps.copied keeps.whole (instruction.Move t k direction) tt is fine s.stack s.locals w state) suits
    is_inside (instruction.Store path proved) is fine suits = inside_step (effect (watched im) code f line s.at (instruction.Store path proved) (calls_within (watched im) code 0) s.stack s.locals w) (follows parts fields rules proofs all s.function keeps.suits.there s.at keeps.suits.inside keeps.copied keeps.whole (instruction.Store path proved) tt is fine s.stack s.locals w state) suits
    is_inside (instruction.Delete pins) is fine suits = inside_step (effect (watched im) code f line s.at (instruction.Delete pins) (calls_within (watched im) code 0) s.stack s.locals w) (follows parts fields rules proofs all s.function keeps.suits.there s.at keeps.suits.inside keeps.copied keeps.whole (instruction.Delete pins) tt is fine s.stack s.locals w state) suits
    is_inside (instruction.Jump row to) is fine suits = inside_step (effect (watched im) code f line s.at (instruction.Jump row to) (calls_within (watched im) code 0) s.stack s.locals w) (follows parts fields rules proofs all s.function keeps.suits.there s.at keeps.suits.inside keeps.copied keeps.whole (instruction.Jump row to) tt is fine s.stack s.locals w state) suits
    is_inside (instruction.Simple simple.NullRegion) is fine suits = inside_step (effect (watched im) code f line s.at (instruction.Simple simple.NullRegion) (calls_within (watched im) code 0) s.stack s.locals w) (follows parts fields rules proofs all s.function keeps.suits.there s.at keeps.suits.inside keeps.copied keeps.whole (instruction.Simple simple.NullRegion) (λ e. cc) is fine s.stack s.locals w state) suits
    is_inside (instruction.Simple simple.SameRegion) is fine suits = inside_step (effect (watched im) code f line s.at (instruction.Simple simple.SameRegion) (calls_within (watched im) code 0) s.stack s.locals w) (follows parts fields rules proofs all s.function keeps.suits.there s.at keeps.suits.inside keeps.copied keeps.whole (instruction.Simple simple.SameRegion) (λ e. cc) is fine s.stack s.locals w state) suits
    is_inside (instruction.Simple simple.IsZero) is fine suits = inside_step (effect (watched im) code f line s.at (instruction.Simple simple.IsZero) (calls_within (watched im) code 0) s.stack s.locals w) (follows parts fields rules proofs all s.function keeps.suits.there s.at keeps.suits.inside keeps.copied keeps.whole (instruction.Simple simple.IsZero) (λ e. cc) is fine s.stack s.locals w state) suits
    is_inside (instruction.Simple simple.IsNullRegion) is fine suits = inside_step (effect (watched im) code f line s.at (instruction.Simple simple.IsNullRegion) (calls_within (watched im) code 0) s.stack s.locals w) (follows parts fields rules proofs all s.function keeps.suits.there s.at keeps.suits.inside keeps.copied keeps.whole (instruction.Simple simple.IsNullRegion) (λ e. cc) is fine s.stack s.locals w state) suits
    is_inside (instruction.Simple simple.ToInt) is fine suits = inside_step (effect (watched im) code f line s.at (instruction.Simple simple.ToInt) (calls_within (watched im) code 0) s.stack s.locals w) (follows parts fields rules proofs all s.function keeps.suits.there s.at keeps.suits.inside keeps.copied keeps.whole (instruction.Simple simple.ToInt) (λ e. cc) is fine s.stack s.locals w state) suits
    is_inside (instruction.Simple simple.ToUnsigned) is fine suits = inside_step (effect (watched im) code f line s.at (instruction.Simple simple.ToUnsigned) (calls_within (watched im) code 0) s.stack s.locals w) (follows parts fields rules proofs all s.function keeps.suits.there s.at keeps.suits.inside keeps.copied keeps.whole (instruction.Simple simple.ToUnsigned) (λ e. cc) is fine s.stack s.locals w state) suits
    is_inside (instruction.Simple simple.ToChar) is fine suits = inside_step (effect (watched im) code f line s.at (instruction.Simple simple.ToChar) (calls_within (watched im) code 0) s.stack s.locals w) (follows parts fields rules proofs all s.function keeps.suits.there s.at keeps.suits.inside keeps.copied keeps.whole (instruction.Simple simple.ToChar) (λ e. cc) is fine s.stack s.locals w state) suits
    is_inside (instruction.Simple simple.NewRegion) is fine suits = inside_step (effect (watched im) code f line s.at (instruction.Simple simple.NewRegion) (calls_within (watched im) code 0) s.stack s.locals w) (follows parts fields rules proofs all s.function keeps.suits.there s.at keeps.suits.inside keeps.copied keeps.whole (instruction.Simple simple.NewRegion) (λ e. cc) is fine s.stack s.locals w state) suits
    is_inside (instruction.Simple simple.NewSubregion) is fine suits = inside_step (effect (watched im) code f line s.at (instruction.Simple simple.NewSubregion) (calls_within (watched im) code 0) s.stack s.locals w) (follows parts fields rules proofs all s.function keeps.suits.there s.at keeps.suits.inside keeps.copied keeps.whole (instruction.Simple simple.NewSubregion) (λ e. cc) is fine s.stack s.locals w state) suits
    is_inside (instruction.Simple simple.PutChar) is fine suits = inside_step (effect (watched im) code f line s.at (instruction.Simple simple.PutChar) (calls_within (watched im) code 0) s.stack s.locals w) (follows parts fields rules proofs all s.function keeps.suits.there s.at keeps.suits.inside keeps.copied keeps.whole (instruction.Simple simple.PutChar) (λ e. cc) is fine s.stack s.locals w state) suits
    is_inside (instruction.Simple simple.GetChar) is fine suits = inside_step (effect (watched im) code f line s.at (instruction.Simple simple.GetChar) (calls_within (watched im) code 0) s.stack s.locals w) (follows parts fields rules proofs all s.function keeps.suits.there s.at keeps.suits.inside keeps.copied keeps.whole (instruction.Simple simple.GetChar) (λ e. cc) is fine s.stack s.locals w state) suits
    is_inside (instruction.Simple simple.Pop) is fine suits = inside_step (effect (watched im) code f line s.at (instruction.Simple simple.Pop) (calls_within (watched im) code 0) s.stack s.locals w) (follows parts fields rules proofs all s.function keeps.suits.there s.at keeps.suits.inside keeps.copied keeps.whole (instruction.Simple simple.Pop) (λ e. cc) is fine s.stack s.locals w state) suits

    pub step_keeps : StepKeeps (step_of (watched im) code s w)
    step_keeps = is_inside (instruction_at f s.at) refl i_fine (machine_steps im (sound parts fields rules proofs all) s w keeps.suits).suits
