-- What stands at each stop of a function.
use Rattle.std.proofs.Common.{◌≡◌, ◌∙◌, ℕ, zero, suc, ◌+◌, ◌<◌, true, List, [], ◌∷◌, ◌++◌, length, None, refl, sym, ap, subst, arith}
use Rattle.rc_code.specs.declared.instruction.Instruction.{Instruction}
use Rattle.rc_code.specs.declared.instruction.Instruction.TheVariants as instruction
use Rattle.rc_stops.specs.declared.stop.Stop.{Stop}
use Rattle.rc_stops.specs.Paths.{stop_at}
use Rattle.rc_deleters.specs.Calls.{in_code, deletion_stop, call_stop, end_stop, stops_if, code_stops, stop_count}

-- an instruction has a stop, or none
pub data Sort (i : Instruction) : Type 0 where
  deletes : (pins : List ℕ) → i ≡ instruction.Delete pins → ((first : ℕ → ℕ) → stops_if first i ≡ deletion_stop ∷ []) → Sort i
  calls : (h : ℕ) (pins : List ℕ) → i ≡ instruction.Call h pins → ((first : ℕ → ℕ) → stops_if first i ≡ call_stop (first h) ∷ []) → Sort i
  neither : ((first : ℕ → ℕ) → stops_if first i ≡ []) → Sort i

pub sort_of : (i : Instruction) → Sort i
sort_of (instruction.Delete pins) = deletes pins refl (λ first. refl)
sort_of (instruction.Call h pins) = calls h pins refl (λ first. refl)
sort_of (instruction.Constant s v) = neither (λ first. refl)
sort_of (instruction.Global g) = neither (λ first. refl)
sort_of (instruction.Get x) = neither (λ first. refl)
sort_of (instruction.Set x) = neither (λ first. refl)
sort_of (instruction.Load p) = neither (λ first. refl)
sort_of (instruction.Typed t y) = neither (λ first. refl)
sort_of (instruction.Arithmetic a s) = neither (λ first. refl)
sort_of (instruction.Move y s d) = neither (λ first. refl)
sort_of (instruction.Store p b) = neither (λ first. refl)
sort_of (instruction.Simple s) = neither (λ first. refl)
sort_of (instruction.Jump j to) = neither (λ first. refl)

-- ---- the stops of a function

pub some : (first : ℕ → ℕ) (code : List Instruction) → 0 < length (code_stops first code)
some first [] = omega arith
some first (i ∷ code) = by (stops_if first i) (some first code)
  where
    by : (ss : List Stop) → 0 < length (code_stops first code) → 0 < length (ss ++ code_stops first code)
    by [] l = l
    by (s ∷ ss) l = omega arith

one_longer : (first : ℕ → ℕ) (i : Instruction) (code : List Instruction) (s : Stop) → stops_if first i ≡ s ∷ [] → length (code_stops first (i ∷ code)) ≡ suc (length (code_stops first code))
one_longer first i code s e = ap (λ (ss : List Stop). length (ss ++ code_stops first code)) e

no_longer : (first : ℕ → ℕ) (i : Instruction) (code : List Instruction) → stops_if first i ≡ [] → length (code_stops first (i ∷ code)) ≡ length (code_stops first code)
no_longer first i code e = ap (λ (ss : List Stop). length (ss ++ code_stops first code)) e

-- how many they are doesn't depend on where they lead
pub counted : (first : ℕ → ℕ) (code : List Instruction) → length (code_stops first code) ≡ stop_count code
counted first [] = refl
counted first (i ∷ code) = by (sort_of i) (counted first code)
  where
    by : Sort i → length (code_stops first code) ≡ stop_count code → length (code_stops first (i ∷ code)) ≡ stop_count (i ∷ code)
    by (deletes pins is e) c = one_longer first i code deletion_stop (e first) ∙ ap suc c ∙ sym (one_longer (λ h. 0) i code deletion_stop (e (λ h. 0)))
    by (calls h pins is e) c = one_longer first i code (call_stop (first h)) (e first) ∙ ap suc c ∙ sym (one_longer (λ h. 0) i code (call_stop 0) (e (λ h. 0)))
    by (neither e) c = no_longer first i code (e first) ∙ c ∙ sym (no_longer (λ h. 0) i code (e (λ h. 0)))

pub data Stands (first : ℕ → ℕ) (code : List Instruction) (k : ℕ) : Type 0 where
  a_deletion : (at : ℕ) (pins : List ℕ) → at < length code → in_code code at ≡ instruction.Delete pins → stop_at (code_stops first code) k ≡ deletion_stop → suc k < length (code_stops first code) → Stands first code k
  a_call : (at h : ℕ) (pins : List ℕ) → at < length code → in_code code at ≡ instruction.Call h pins → stop_at (code_stops first code) k ≡ call_stop (first h) → suc k < length (code_stops first code) → Stands first code k
  the_end : suc k ≡ length (code_stops first code) → stop_at (code_stops first code) k ≡ end_stop → Stands first code k

shifted : (first : ℕ → ℕ) (i : Instruction) (code : List Instruction) (k j n : ℕ) → stop_at (code_stops first (i ∷ code)) k ≡ stop_at (code_stops first code) j → length (code_stops first (i ∷ code)) ≡ n + length (code_stops first code) → k ≡ n + j → Stands first code j → Stands first (i ∷ code) k
shifted first i code k j n same long is (a_deletion at pins lt q s more) = a_deletion (suc at) pins (omega (arith, lt)) q (same ∙ s) (omega (arith, more, long, is))
shifted first i code k j n same long is (a_call at h pins lt q s more) = a_call (suc at) h pins (omega (arith, lt)) q (same ∙ s) (omega (arith, more, long, is))
shifted first i code k j n same long is (the_end last s) = the_end (omega (arith, last, long, is)) (same ∙ s)

pub stands : (first : ℕ → ℕ) (code : List Instruction) (k : ℕ) → k < length (code_stops first code) → Stands first code k
stands first [] zero lt = the_end refl refl
stands first [] (suc k) lt = absurd (omega (arith, lt))
stands first (i ∷ code) k lt = by (sort_of i) k lt (λ j l. stands first code j l)
  where
    by : Sort i → (k : ℕ) → k < length (code_stops first (i ∷ code)) → ((j : ℕ) → j < length (code_stops first code) → Stands first code j) → Stands first (i ∷ code) k
    by (deletes pins is e) zero lt again = let long = one_longer first i code deletion_stop (e first) in let least = some first code in
        a_deletion 0 pins (omega arith) is (ap (λ (ss : List Stop). stop_at (ss ++ code_stops first code) 0) (e first)) (omega (arith, long, least))
    by (deletes pins is e) (suc j) lt again = let long = one_longer first i code deletion_stop (e first) in
        shifted first i code (suc j) j 1 (ap (λ (ss : List Stop). stop_at (ss ++ code_stops first code) (suc j)) (e first)) (omega (arith, long)) (omega arith) (again j (omega (arith, lt, long)))
    by (calls h pins is e) zero lt again = let long = one_longer first i code (call_stop (first h)) (e first) in let least = some first code in
        a_call 0 h pins (omega arith) is (ap (λ (ss : List Stop). stop_at (ss ++ code_stops first code) 0) (e first)) (omega (arith, long, least))
    by (calls h pins is e) (suc j) lt again = let long = one_longer first i code (call_stop (first h)) (e first) in
        shifted first i code (suc j) j 1 (ap (λ (ss : List Stop). stop_at (ss ++ code_stops first code) (suc j)) (e first)) (omega (arith, long)) (omega arith) (again j (omega (arith, lt, long)))
    by (neither e) k lt again = let long = no_longer first i code (e first) in
        shifted first i code k k 0 (ap (λ (ss : List Stop). stop_at (ss ++ code_stops first code) k) (e first)) (omega (arith, long)) (omega arith) (again k (omega (arith, lt, long)))

-- where a stop is found
pub record Found (first : ℕ → ℕ) (code : List Instruction) (s : Stop) : Type 0 where
  pub k : ℕ
  pub below : k < length (code_stops first code)
  pub is : stop_at (code_stops first code) k ≡ s

pub found : (first : ℕ → ℕ) (code : List Instruction) (at : ℕ) (s : Stop) → at < length code → stops_if first (in_code code at) ≡ s ∷ [] → Found first code s
found first [] at s lt e = absurd (omega (arith, lt))
found first (i ∷ code) zero s lt e = let long = one_longer first i code s e in record { k = 0; below = omega (arith, long); is = ap (λ (ss : List Stop). stop_at (ss ++ code_stops first code) 0) e }
found first (i ∷ code) (suc at) s lt e = by (stops_if first i) refl (found first code at s (omega (arith, lt)) e)
  where
    by : (ss : List Stop) → stops_if first i ≡ ss → Found first code s → Found first (i ∷ code) s
    by [] q r = record { k = r.k; below = (let l = r.below in let long = no_longer first i code q in omega (arith, l, long)); is = ap (λ (ss : List Stop). stop_at (ss ++ code_stops first code) r.k) q ∙ r.is }
    by (t ∷ ts) q r = more (sort_of i)
      where
        next : (u : Stop) → stops_if first i ≡ u ∷ [] → Found first (i ∷ code) s
        next u q = record { k = suc r.k; below = (let l = r.below in let long = one_longer first i code u q in omega (arith, l, long)); is = ap (λ (ss : List Stop). stop_at (ss ++ code_stops first code) (suc r.k)) q ∙ r.is }

        more : Sort i → Found first (i ∷ code) s
        more (deletes pins is e) = next deletion_stop (e first)
        more (calls h pins is e) = next (call_stop (first h)) (e first)
        more (neither e) = let c : t ∷ ts ≡ [] = sym q ∙ e first in cc

-- each stop but the last falls, and none sets anything
pub record Falls (s : Stop) : Type 0 where
  pub falls : s.falls ≡ true
  pub sets : s.sets ≡ None

pub falls_on : (first : ℕ → ℕ) (code : List Instruction) (k : ℕ) → suc k < length (code_stops first code) → Falls (stop_at (code_stops first code) k)
falls_on first code k lt = by (stands first code k (omega (arith, lt)))
  where
    by : Stands first code k → Falls (stop_at (code_stops first code) k)
    by (a_deletion at pins l q s more) = subst Falls (sym s) (record { falls = refl; sets = refl })
    by (a_call at h pins l q s more) = subst Falls (sym s) (record { falls = refl; sets = refl })
    by (the_end last s) = absurd (omega (arith, last, lt))
