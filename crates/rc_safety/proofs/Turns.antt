-- Turns, input and output leave the heap as it is.
use Rattle.std.proofs.Common.{ℕ, zero, suc, false, List, [], ◌∷◌, refl}
use Rattle.rc_core.specs.Source.{World, turn_from, byte_from, source}
use Rattle.rc_safety.proofs.Worlds.{IsSound, Nothing, Yields, gives}

pub take_turn_yields : (w : World) → IsSound w → Yields false w Nothing (source.take_turn w)
take_turn_yields w sound = from w.turns
  where
    from : (n : ℕ) → Yields false w Nothing (turn_from n w)
    from zero = record { holds = tt }
    from (suc n) = gives false w _ Nothing tt (record { sound = record { heap = sound.heap; waiting = sound.waiting }; stays = λ e r l. l; waits = refl }) tt

pub get_byte_yields : (w : World) → IsSound w → Yields false w Nothing (source.get_byte w)
get_byte_yields w sound = from w.input
  where
    from : (bytes : List ℕ) → Yields false w Nothing (byte_from bytes w)
    from [] = gives false w _ Nothing _ (record { sound = record { heap = sound.heap; waiting = sound.waiting }; stays = λ e r l. l; waits = refl }) tt
    from (b ∷ rest) = gives false w _ Nothing _ (record { sound = record { heap = sound.heap; waiting = sound.waiting }; stays = λ e r l. l; waits = refl }) tt

pub put_byte_yields : (b : ℕ) (w : World) → IsSound w → Yields false w Nothing (source.put_byte b w)
put_byte_yields b w sound = gives false w _ Nothing tt (record { sound = record { heap = sound.heap; waiting = sound.waiting }; stays = λ e r l. l; waits = refl }) tt
