-- The locals that are live are fresh.
use Rattle.std.proofs.Common.{◌≡◌, ℕ, zero, suc, Bool, true, false, not, ◌&&◌, ◌||◌, List, [], ◌∷◌, map, drop, nat_eq, refl, rules}
use Rattle.rc_core.specs.Types.{Ty, int, unsigned, char, region, struct, pointer}
use Rattle.rc_core.specs.Programs.{Function}
use Rattle.rc_core.specs.Heap.{Value, Number, Null, Handle, Pointer, zero_of}
use Rattle.rc_core.specs.Live.{unless_set}
use Rattle.rc_core.specs.Source.{World}
use Rattle.rc_core.specs.Evaluation.{local_at}
use Rattle.rc_core.specs.Execution.{with_local, held_value, held, first_locals}
use Rattle.rc_safety.proofs.Lists.{every_append, every_map, every_get_or}
use Rattle.rc_safety.proofs.Liveness.{or_left, or_right}
use Rattle.rc_safety.proofs.Worlds.{FreshIn, AllFreshIn, Reaches, still_fresh}

pub is_itself : (x : ℕ) → nat_eq x x ≡ true
is_itself x = search rules

abbrev pub LiveAreFresh : (live : ℕ → Bool) → (locals : List Value) → World → Type 0
LiveAreFresh live locals w = (x : ℕ) → live x ≡ true → FreshIn w (local_at locals x)

pub live_stay_fresh : (lives : ℕ → Bool) (locals : List Value) (w w1 : World) → Reaches false w w1 → LiveAreFresh lives locals w → LiveAreFresh lives locals w1
live_stay_fresh lives locals w w1 reached fresh x l = still_fresh w w1 reached (local_at locals x) (fresh x l)

-- fewer live locals
pub fewer_live : (lives fewer : ℕ → Bool) (locals : List Value) (w : World) → ((x : ℕ) → fewer x ≡ true → lives x ≡ true) → LiveAreFresh lives locals w → LiveAreFresh fewer locals w
fewer_live lives fewer locals w more fresh x l = fresh x (more x l)

pub left_fresh : (locals : List Value) (a b : ℕ → Bool) (w : World) → LiveAreFresh (λ x. a x || b x) locals w → LiveAreFresh a locals w
left_fresh locals a b w = fewer_live (λ x. a x || b x) a locals w (λ x. or_left (a x) (b x))

pub right_fresh : (locals : List Value) (a b : ℕ → Bool) (w : World) → LiveAreFresh (λ x. a x || b x) locals w → LiveAreFresh b locals w
right_fresh locals a b w = fewer_live (λ x. a x || b x) b locals w (λ x. or_right (a x) (b x))

pub held_are_fresh : (w : World) (lives : ℕ → Bool) (locals : List Value) → LiveAreFresh lives locals w → AllFreshIn w (held lives locals)
held_are_fresh w lives [] fresh = tt
held_are_fresh w lives (v ∷ locals) fresh = one v (lives 0) (fresh 0) (held_are_fresh w (λ x. lives (suc x)) locals (λ x l. fresh (suc x) l))
  where
    one : (v : Value) (b : Bool) → (b ≡ true → FreshIn w v) → AllFreshIn w (held (λ x. lives (suc x)) locals) → AllFreshIn w (held_value b v (held (λ x. lives (suc x)) locals))
    one v false here rest = rest
    one (Number n) true here rest = rest
    one Null true here rest = (refl, rest)
    one (Handle r) true here rest = (here refl, rest)
    one (Pointer a) true here rest = (here refl, rest)

pub live_from_held : (w : World) (lives : ℕ → Bool) (locals : List Value) → AllFreshIn w (held lives locals) → LiveAreFresh lives locals w
live_from_held w lives [] all x l = refl
live_from_held w lives (v ∷ locals) all zero l = here v (lives 0) l all
  where
    here : (v : Value) (b : Bool) → b ≡ true → AllFreshIn w (held_value b v (held (λ x. lives (suc x)) locals)) → FreshIn w v
    here v false e all = cc
    here (Number n) true e all = refl
    here Null true e all = refl
    here (Handle r) true e all = all.0
    here (Pointer a) true e all = all.0
live_from_held w lives (v ∷ locals) all (suc x) l = live_from_held w (λ x. lives (suc x)) locals (behind v (lives 0) all) x l
  where
    behind : (v : Value) (b : Bool) → AllFreshIn w (held_value b v (held (λ x. lives (suc x)) locals)) → AllFreshIn w (held (λ x. lives (suc x)) locals)
    behind v false all = all
    behind (Number n) true all = all
    behind Null true all = all.1
    behind (Handle r) true all = all.1
    behind (Pointer a) true all = all.1

-- a local that is set
pub set_stays_fresh : (w : World) (lives : ℕ → Bool) (locals : List Value) (y : ℕ) (v : Value) → FreshIn w v → LiveAreFresh (λ x. unless_set y x (lives x)) locals w → LiveAreFresh lives (with_local locals y v) w
set_stays_fresh w lives locals y v fresh others x l = one locals y x (λ apart. others x (is_other (nat_eq y x) apart))
  where
    is_other : (b : Bool) → b ≡ false → (not b && lives x) ≡ true
    is_other true apart = cc
    is_other false apart = l

    one : (locals : List Value) (y x : ℕ) → (nat_eq y x ≡ false → FreshIn w (local_at locals x)) → FreshIn w (local_at (with_local locals y v) x)
    one [] y x other = refl
    one (u ∷ locals) zero zero other = fresh
    one (u ∷ locals) zero (suc x) other = other (search rules)
    one (u ∷ locals) (suc y) zero other = other (search rules)
    one (u ∷ locals) (suc y) (suc x) other = one locals y x (λ apart. other (search rules))

pub zero_is_fresh : (w : World) (ty : Ty) → FreshIn w (zero_of ty)
zero_is_fresh w int = refl
zero_is_fresh w unsigned = refl
zero_is_fresh w char = refl
zero_is_fresh w region = refl
zero_is_fresh w (struct k) = refl
zero_is_fresh w (pointer note target) = refl

-- where a call begins all locals are fresh
pub first_are_fresh : (w : World) (lives : ℕ → Bool) (f : Function) (arguments : List Value) → AllFreshIn w arguments → LiveAreFresh lives (first_locals f arguments) w
first_are_fresh w lives f arguments all x l =
    every_get_or (FreshIn w) (first_locals f arguments) x Null refl (every_append (FreshIn w) arguments (map zero_of (drop f.parameters f.locals)) all (every_map (FreshIn w) zero_of (zero_is_fresh w) (drop f.parameters f.locals)))
