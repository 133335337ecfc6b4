-- Which facts an image's proofs give before each instruction. Proofs give facts at the entry and at the exit of each function, and
-- before the targets of its jumps. Before a target the facts are those that are given there. At every other place they are those
-- before the instruction above it, carried over.
use Rattle.std.specs.Prelude.{ℕ, zero, suc, ◌+◌, ◌-◌, Bool, true, false, not, ◌&&◌, ◌||◌, nat_eq, nat_lt, IsTrue, List, [], ◌∷◌, length, take, drop, Option, Some, None}
use Rattle.std.specs.List.{AllByRecursion as Every, list_any}
use Rattle.rc_core.specs.Layout.{note_of}
use Rattle.rc_facts.specs.declared.fact.Fact.{Fact}
use Rattle.rc_facts.specs.declared.fact.Fact.TheVariants.{In, Up, Trad, NonNull}
use Rattle.rc_facts.specs.Facts.{is_over, same_fact}
use Rattle.rc_facts.specs.Derivable.{Derivable}
use Rattle.rc_rlang.specs.RegionFlow.{Effect, nothing, nulled, moved, fixed, beside, made, under, loaded, looked_at, stored, present, called, assigned}
use Rattle.rc_annotations.specs.Annotations.{Facts, Annotation, gained, allowed, exit_facts, some_pair}
use Rattle.rc_code.specs.declared.opcode.Typed.TheVariants as typed
use Rattle.rc_code.specs.declared.opcode.Simple.TheVariants as simple
use Rattle.rc_code.specs.declared.instruction.Instruction.{Instruction}
use Rattle.rc_code.specs.declared.instruction.Instruction.TheVariants as instruction
use Rattle.rc_code.specs.declared.image.Function.{Function}
use Rattle.rc_code.specs.Running.{Reading, path_at, function_at, cell_at, storage_of}
use Rattle.rc_code.specs.Soundness.{is_regional, local_in, count_off, gives, instruction_at, kinds_before}
use Rattle.rc_claims.specs.Counts.{regionals, copies, local_variable, place, regional_result}
use Rattle.rc_sealed.specs.ImageVariables.{greater, result_variable, scratch, variables}

-- ---- targets

abbrev pub jumps_to : ℕ → Instruction → Bool
jumps_to at (instruction.Jump jump to) = nat_eq to at
jumps_to at i = false

abbrev pub is_target : Function → ℕ → Bool
is_target f at = list_any (jumps_to at) f.code

-- ---- what an instruction does to the variables

abbrev pub if_regional : Bool → Effect → Effect
if_regional true effect = effect
if_regional false effect = nothing

abbrev pub when : Bool → ℕ → Option ℕ
when true x = Some x
when false x = None

-- the places of those arguments that are regions or pointers, the first argument at this place
abbrev pub regional_places : Function → List Bool → ℕ → List ℕ
regional_places f [] j = []
regional_places f (true ∷ bs) j = place f j ∷ regional_places f bs (suc j)
regional_places f (false ∷ bs) j = regional_places f bs (suc j)

abbrev pub load_effect : Bool → Effect → Effect → Effect
load_effect true regional plain = regional
load_effect false regional plain = plain

abbrev pub is_assigned : Option ℕ → ℕ → Bool
is_assigned None u = false
is_assigned (Some x) u = nat_eq u x

module _ (image : Reading) (f : Function) where
  -- the lowest operand that the instruction takes stands at the place `low`, and the highest at `high`
  abbrev pub effect_of : (low high : ℕ) → Instruction → Effect
  effect_of low high (instruction.Global g) = fixed (place f low)
  effect_of low high (instruction.Get x) = if_regional (is_regional (local_in f x)) (moved (place f low) (local_variable f x))
  effect_of low high (instruction.Set x) = if_regional (is_regional (local_in f x)) (moved (local_variable f x) (place f high))
  effect_of low high (instruction.Load path) =
      load_effect (is_regional (storage_of image (cell_at image (path_at image path)))) (loaded (place f low) (place f low) (note_of (cell_at image (path_at image path)))) (looked_at (place f low))
  effect_of low high (instruction.Store path proved) = stored (place f high) (place f low) (note_of (cell_at image (path_at image path)))
  effect_of low high (instruction.Typed typed.Null type) = nulled (place f low)
  effect_of low high (instruction.Typed typed.RegionOf type) = beside (place f low) (place f low)
  effect_of low high (instruction.Typed typed.Allocate type) = beside (place f low) (place f low)
  effect_of low high (instruction.Typed typed.AllocateArray type) = beside (place f low) (place f low)
  effect_of low high (instruction.Move type kind direction) = beside (place f low) (place f low)
  effect_of low high (instruction.Simple simple.NullRegion) = nulled (place f low)
  effect_of low high (instruction.Simple simple.NewRegion) = made (place f low)
  effect_of low high (instruction.Simple simple.NewSubregion) = under (place f low) (place f low)
  effect_of low high (instruction.Simple simple.Return) = if_regional (regional_result f.result) (moved (result_variable image f) (place f high))
  effect_of low high (instruction.Delete pins) = present (place f low)
  effect_of low high (instruction.Call g pins) =
      let to = function_at image g in called (when (regional_result to.result) (place f low)) g (regional_places f (take to.parameters (regionals to)) low)
  effect_of low high i = nothing

  -- how many operands stand before an instruction, and how many of them it leaves
  abbrev pub height : ℕ → ℕ
  height at = length (kinds_before image f at)

  abbrev pub lowest : ℕ → ℕ
  lowest at = length (drop (count_off image f (instruction_at f at)) (kinds_before image f at))

  abbrev pub effect_at : ℕ → Effect
  effect_at at = effect_of (lowest at) (height at - 1) (instruction_at f at)

  -- one past the highest place that is taken or written
  abbrev pub reach : ℕ → ℕ
  reach at = greater (height at) (lowest at + length (gives image f (instruction_at f at)))

  -- a stack place that is taken, or written with a number: nothing stays known of it. One that gets a region or a pointer is assigned
  abbrev pub is_gone : (at : ℕ) → ℕ → Bool
  is_gone at u = not (nat_lt u (place f (lowest at))) && (nat_lt u (place f (reach at)) && not (is_assigned (assigned (effect_at at)) u))

-- a test of each variable of a fact
abbrev pub speaks : (ℕ → Bool) → Fact → Bool
speaks test (In x y) = test x && test y
speaks test (Up x y) = test x && test y
speaks test (Trad x) = test x
speaks test (NonNull x) = test x

-- a list of facts as a set
abbrev pub among : List Fact → Facts
among facts p = list_any (same_fact p) facts

-- what follows from facts that are known
pub record Follows (n : ℕ) (known : Fact → Type 0) (fact : Fact) : Type 0 where
  pub used : List Fact
  pub each : Every known used
  pub derived : Derivable n (among used) fact

-- ---- the facts before an instruction

-- the hidden copies and the locals of the parameters
abbrev pub entry_pairs : (copies : ℕ) → ℕ → List (ℕ × ℕ)
entry_pairs copies zero = []
entry_pairs copies (suc k) = (k, copies + k) ∷ entry_pairs copies k

abbrev pub either : Bool → Type 0 → Type 0 → Type 0
either true a b = a
either false a b = b

module _ (image : Reading) (proofs : Annotation) (g : ℕ) where
  abbrev pub function : Function
  function = function_at image g

  -- at the entry, each parameter being in both ways with its hidden copy
  pub record Begins (fact : Fact) : Type 0 where
    pub over : IsTrue (is_over (scratch image function) fact)
    pub derived : Derivable (variables image function) (λ p. proofs.entry g p || some_pair (entry_pairs (copies function) (copies function)) p) fact

  -- behind an instruction, where these facts are known before it: all that is derivable is added, and the facts on the old value of what
  -- is taken or written are dropped
  pub record Carried (at : ℕ) (known : Fact → Type 0) (fact : Fact) : Type 0 where
    pub over : IsTrue (is_over (scratch image function) fact)
    pub stays : IsTrue (speaks (λ u. not (is_gone image function at u)) fact)
    pub used : List Fact
    pub each : Every known used
    pub derived : allowed (variables image function) (scratch image function) (gained (exit_facts proofs)) (effect_at image function at) (among used) fact

  abbrev pub Before : (at : ℕ) → Fact → Type 0
  Before zero fact = either (is_target function zero) (IsTrue (proofs.before g zero fact)) (Begins fact)
  Before (suc at) fact = either (is_target function (suc at)) (IsTrue (proofs.before g (suc at) fact)) (Carried at (Before at) fact)
