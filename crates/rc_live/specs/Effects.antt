-- What a piece of code does to what is live. Before it some locals are live in any case, and others where they are live at one of the ways
-- on from it: behind it, out of the loop around it, or at that loop's next round. A row of bits for each of these four says so for all
-- locals at once. As a way may be taken or not whatever is live there, it says all: so of a loop it is found once, whatever stands behind
-- the loop.
use Rattle.std.specs.Prelude.{◌≡◌, ℕ, Bool, ◌||◌, ◌&&◌, List, [], ◌∷◌, ◌++◌, slice_get, Some}
use Rattle.rc_base.specs.BitSets.{marks}
use Rattle.rc_core.specs.Live.{Ways}
use Rattle.rc_rlang.specs.RegionCode.{Operation, Step, Steps, Code, simple, clear, block, branch, loop, repeat, break, continue, Codes, done, then}
use Rattle.rc_rlang.specs.RegionLive.{operation_uses, before_step, before_steps, before_code, before_codes}
use Rattle.rc_live.specs.declared.effects.Effect.{Effect}

-- what it says of the local with a bit, from whether it is live at each of the ways
abbrev pub told : Effect → (bit : ℕ) → (next broken continued : Bool) → Bool
told e bit next broken continued = marks e.own bit || ((marks e.next bit && next) || ((marks e.broken bit && broken) || (marks e.continued bit && continued)))

-- it tells of each of these locals whether it is live before something
abbrev pub Tells : (names : List ℕ) → Effect → (before : Ways → ℕ → Bool) → Type 0
Tells names e before = (bit x : ℕ) (k : Ways) → slice_get names bit ≡ Some x → before k x ≡ told e bit (k.next x) (k.broken x) (k.continued x)

-- the row has the local that an operation reads, or those that a step or steps read
abbrev pub UsesShown : (names : List ℕ) → (row : ℕ) → Operation → Type 0
UsesShown names row op = (bit x : ℕ) → slice_get names bit ≡ Some x → marks row bit ≡ operation_uses op x

abbrev pub StepReadsShown : (names : List ℕ) → (row : ℕ) → Step → Type 0
StepReadsShown names row step = (bit x : ℕ) (live : ℕ → Bool) → slice_get names bit ≡ Some x → before_step step live x ≡ (marks row bit || live x)

abbrev pub ReadsShown : (names : List ℕ) → (row : ℕ) → Steps → Type 0
ReadsShown names row steps = (bit x : ℕ) (live : ℕ → Bool) → slice_get names bit ≡ Some x → before_steps steps live x ≡ (marks row bit || live x)

-- the loops of a piece of code, each behind those in it
abbrev mutual
  pub loops : Code → List Code
  loops (simple steps act) = []
  loops (clear line x ty) = []
  loops (block codes) = loops_among codes
  loops (branch steps test a b) = loops a ++ loops b
  loops (loop line steps test third body) = (loops body ++ loops third) ++ loop line steps test third body ∷ []
  loops (repeat line body steps test) = loops body ++ repeat line body steps test ∷ []
  loops (break line) = []
  loops (continue line) = []

  pub loops_among : Codes → List Code
  loops_among done = []
  loops_among (then c rest) = loops c ++ loops_among rest

-- each of the effects tells what is live before its piece of code
abbrev pub EachTells : (names : List ℕ) → List Effect → List Code → Type 0
EachTells names [] [] = Unit {0}
EachTells names (e ∷ es) (c ∷ cs) = Tells names e (before_code c) × EachTells names es cs
EachTells names [] (c ∷ cs) = ⊥
EachTells names (e ∷ es) [] = ⊥

-- behind the effects that there were stand those of the loops of a piece of code
pub record Found (names : List ℕ) (pieces : List Code) (old new : List Effect) : Type 0 where
  pub effects : List Effect
  pub behind : new ≡ old ++ effects
  pub tell : EachTells names effects pieces

-- what a piece of code does is found, with what its loops do
pub record EffectFound (names : List ℕ) (code : Code) (e : Effect) (old new : List Effect) : Type 0 where
  pub tells : Tells names e (before_code code)
  pub found : Found names (loops code) old new

pub record EffectsFound (names : List ℕ) (codes : Codes) (e : Effect) (old new : List Effect) : Type 0 where
  pub tells : Tells names e (before_codes codes)
  pub found : Found names (loops_among codes) old new
