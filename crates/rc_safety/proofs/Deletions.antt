-- A deletion leaves what it looked at fresh; so does a call that deletes, of the values that wait.
use Rattle.std.proofs.Common.{◌≡◌, ℕ, Bool, true, false, not, nat_eq, List, ◌++◌, refl, subst}
use Rattle.rc_base.specs.declared.ends.Trap.TheVariants.{Root, Subregion, Reference}
use Rattle.rc_core.specs.Heap.{Value, Number, Null, Handle, Pointer, live}
use Rattle.rc_core.specs.Source.{World, has_child, values_outside, references, is_empty, deleted, source}
use Rattle.rc_safety.proofs.Lists.{every_append, every_split}
use Rattle.rc_safety.proofs.Killed.{NamesNot, none_kept, empty_is_nil, all_fresh_killed, killed_sound}
use Rattle.rc_safety.proofs.Worlds.{IsSound, FreshIn, AllFreshIn, AllFresh, Reaches, Yields, gives, yields_tested, yields_touching}

-- a deletion: behind it the values of the live locals are still fresh
deleted_yields : (line : ℕ) (held : List Value) (r : ℕ) (w : World) → IsSound w → AllFreshIn w held → live w.heap r ≡ true → Yields true w (λ _. AllFresh held) (deleted line held r w)
deleted_yields line held r w sound all l =
    yields_touching true w (λ _. AllFresh held) (live w.heap r) line _ l
    (yields_tested true w _ (not (nat_eq r 0)) Root line _ (λ inner. yields_tested true w _ (not (has_child r w.heap)) Subregion line _ (λ childless. yields_tested true w _ (is_empty (references r held w)) Reference line _ (λ empty.
    let none = none_kept _ (values_outside r 0 w.heap ++ (w.waiting ++ held)) (empty_is_nil (references r held w) empty) in
    let parts = every_split (NamesNot r) (values_outside r 0 w.heap) (w.waiting ++ held) none in
    let rest = every_split (NamesNot r) w.waiting held parts.1 in
    gives true w _ (λ _. AllFresh held) tt (record {
      sound = record {
        heap = killed_sound w.heap r sound.heap (not_true _ inner) (not_true _ childless) parts.0;
        waiting = all_fresh_killed w.heap r w.waiting sound.waiting rest.0;
      };
      stays = λ e. cc;
      waits = refl;
    }) (all_fresh_killed w.heap r held all rest.1)))))
  where
    not_true : (b : Bool) → not b ≡ true → b ≡ false
    not_true true e = cc
    not_true false e = refl

pub delete_yields : (line : ℕ) (held : List Value) (v : Value) (w : World) → IsSound w → AllFreshIn w held → FreshIn w v → Yields true w (λ _. AllFresh held) (source.delete line held v w)
delete_yields line held (Number n) w sound all fresh = record { holds = tt }
delete_yields line held Null w sound all fresh = record { holds = tt }
delete_yields line held (Handle r) w sound all fresh = deleted_yields line held r w sound all fresh
delete_yields line held (Pointer a) w sound all fresh = record { holds = tt }

-- values wait while a function that deletes runs
pub enter_sound : (held : List Value) (w : World) → IsSound w → AllFreshIn w held → IsSound (source.enter held w)
enter_sound held w sound all = record { heap = sound.heap; waiting = every_append (FreshIn w) held w.waiting all sound.waiting }

pub leave_reaches : (held : List Value) (w w1 : World) → Reaches true (source.enter held w) w1 → Reaches true w (source.leave w w1) × AllFreshIn w1 held
leave_reaches held w w1 reached =
    let parts = every_split (FreshIn w1) held w.waiting (subst (λ vs. AllFreshIn w1 vs) reached.waits reached.sound.waiting) in
    (record { sound = record { heap = reached.sound.heap; waiting = parts.1 }; stays = reached.stays; waits = refl }, parts.0)
