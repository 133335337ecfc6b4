-- By its stops a local is used exactly where it is.
use Rattle.std.proofs.Common.{◌≡◌, ℕ, zero, suc, ◌<◌, ◌≤◌, Bool, true, false, IsTrue, List, [], ◌∷◌, length, map, get_or, Option, Some, None, refl, sym, ap, ◌∙◌, subst, inl, inr, ◌⊎◌, ◌↔◌, arith}
use Rattle.std.proofs.lemmas.Bool.{eqb-true, eq-eqb}
use Rattle.std.proofs.lemmas.List.{length-map}
use Rattle.rc_code.specs.declared.kind.Storage.{Storage}
use Rattle.rc_code.specs.declared.kind.Storage.TheVariants as storage
use Rattle.rc_code.specs.declared.opcode.Simple.TheVariants as simple
use Rattle.rc_code.specs.declared.opcode.Jump.TheVariants as jump
use Rattle.rc_code.specs.declared.instruction.Instruction.{Instruction}
use Rattle.rc_code.specs.declared.instruction.Instruction.TheVariants as instruction
use Rattle.rc_code.specs.declared.image.Function.{Function}
use Rattle.rc_code.specs.Soundness.{is_regional, local_in, instruction_at}
use Rattle.rc_claims.specs.Counts.{trues}
use Rattle.rc_stops.specs.declared.stop.Stop.{Stop}
use Rattle.rc_stops.specs.Paths.{stop_at, is_it, Leads, UsedOn, got as got_on, on as gone_on}
use Rattle.rc_sealed.specs.Carrying.{when}
use Rattle.rc_sealed.specs.Proved.{Way}
use Rattle.rc_sealed.specs.Pinned.{Used, got, on}
use Rattle.rc_pinning.specs.Stops.{number_of, numbered, stop_in, NamesLocals, IsNumberIn}

-- ---- numbers

pub trues_less : (ss : List Storage) (x : ℕ) → x < length ss → is_regional (get_or ss x storage.Region) ≡ true → (y : ℕ) → x < y → trues (map is_regional ss) x < trues (map is_regional ss) y
trues_less [] x lt e y l = absurd (omega (arith, lt))
trues_less (s ∷ ss) zero lt e zero l = absurd (omega (arith, l))
trues_less (s ∷ ss) zero lt e (suc y) l = by (is_regional s) e
  where
    by : (b : Bool) → b ≡ true → 0 < trues (b ∷ map is_regional ss) (suc y)
    by true q = omega arith
    by false q = cc
trues_less (s ∷ ss) (suc x) lt e zero l = absurd (omega (arith, l))
trues_less (s ∷ ss) (suc x) lt e (suc y) l = by (is_regional s) (trues_less ss x (omega (arith, lt)) e y (omega (arith, l)))
  where
    by : (b : Bool) → trues (map is_regional ss) x < trues (map is_regional ss) y → trues (b ∷ map is_regional ss) (suc x) < trues (b ∷ map is_regional ss) (suc y)
    by true k = omega (arith, k)
    by false k = k

order : (a b : ℕ) → (a < b) ⊎ ((a ≡ b) ⊎ (b < a))
order a b = grind arith

pub one_number : (f : Function) (x y : ℕ) → x < length f.locals → y < length f.locals → is_regional (local_in f x) ≡ true → is_regional (local_in f y) ≡ true → number_of f x ≡ number_of f y → x ≡ y
one_number f x y lx ly rx ry e = by (order x y)
  where
    by : (x < y) ⊎ ((x ≡ y) ⊎ (y < x)) → x ≡ y
    by (inl l) = let k = trues_less f.locals x lx rx y l in absurd (omega (arith, k, e))
    by (inr (inl q)) = q
    by (inr (inr l)) = let k = trues_less f.locals y ly ry x l in absurd (omega (arith, k, e))

-- ---- one instruction

pub map_at : (f : Function) (code : List Instruction) (at : ℕ) → at < length code → stop_at (map (stop_in f) code) at ≡ stop_in f (get_or code at (instruction.Simple simple.Return))
map_at f [] at lt = absurd (omega (arith, lt))
map_at f (i ∷ code) zero lt = refl
map_at f (i ∷ code) (suc at) lt = map_at f code at (omega (arith, lt))

behind_all : (code : List Instruction) (at : ℕ) → length code ≤ at → get_or code at (instruction.Simple simple.Return) ≡ instruction.Simple simple.Return
behind_all [] at le = refl
behind_all (i ∷ code) zero le = absurd (omega (arith, le))
behind_all (i ∷ code) (suc at) le = behind_all code at (omega (arith, le))

both_of : (b : Bool) → b ≡ true → b ≡ false → ⊥
both_of true e d = cc
both_of false e d = cc

module _ (f : Function) (x : ℕ) (there : x < length f.locals) (regional : is_regional (local_in f x) ≡ true) where
  -- the local y has the number of x
  is_local : (y : ℕ) → y < length f.locals → is_it (numbered f y) (number_of f x) ≡ true → y ≡ x
  is_local y below = by (is_regional (local_in f y)) refl
    where
      by : (b : Bool) → is_regional (local_in f y) ≡ b → is_it (when b (number_of f y)) (number_of f x) ≡ true → y ≡ x
      by true r e = sym (one_number f x y there below regional r (eqb-true (number_of f x) (number_of f y) e))
      by false r e = cc

  local_is : is_it (numbered f x) (number_of f x) ≡ true
  local_is = subst (λ b. is_it (when b (number_of f x)) (number_of f x) ≡ true) (sym regional) (eq-eqb (number_of f x) (number_of f x) refl)

  gets_is : (i : Instruction) → NamesLocals f i → is_it (stop_in f i).gets (number_of f x) ≡ true → i ≡ instruction.Get x
  gets_is (instruction.Get y) n e = ap instruction.Get (is_local y n e)
  gets_is (instruction.Set y) n e = cc
  gets_is (instruction.Jump jump.Always to) n e = cc
  gets_is (instruction.Jump jump.IfZero to) n e = cc
  gets_is (instruction.Jump jump.Back to) n e = cc
  gets_is (instruction.Simple s) n e = by s e
    where
      by : (s : _) → is_it (stop_in f (instruction.Simple s)).gets (number_of f x) ≡ true → instruction.Simple s ≡ instruction.Get x
      by simple.Return e = cc
      by simple.NullRegion e = cc
      by simple.SameRegion e = cc
      by simple.IsZero e = cc
      by simple.IsNullRegion e = cc
      by simple.ToInt e = cc
      by simple.ToUnsigned e = cc
      by simple.ToChar e = cc
      by simple.NewRegion e = cc
      by simple.NewSubregion e = cc
      by simple.PutChar e = cc
      by simple.GetChar e = cc
      by simple.Pop e = cc
  gets_is (instruction.Call h pins) n e = cc
  gets_is (instruction.Constant s v) n e = cc
  gets_is (instruction.Global g) n e = cc
  gets_is (instruction.Load p) n e = cc
  gets_is (instruction.Typed t y) n e = cc
  gets_is (instruction.Arithmetic a s) n e = cc
  gets_is (instruction.Move y s d) n e = cc
  gets_is (instruction.Store p b) n e = cc
  gets_is (instruction.Delete pins) n e = cc

  sets_is : (i : Instruction) → NamesLocals f i → is_it (stop_in f i).sets (number_of f x) ≡ true → i ≡ instruction.Set x
  sets_is (instruction.Set y) n e = ap instruction.Set (is_local y n e)
  sets_is (instruction.Get y) n e = cc
  sets_is (instruction.Jump jump.Always to) n e = cc
  sets_is (instruction.Jump jump.IfZero to) n e = cc
  sets_is (instruction.Jump jump.Back to) n e = cc
  sets_is (instruction.Simple s) n e = by s e
    where
      by : (s : _) → is_it (stop_in f (instruction.Simple s)).sets (number_of f x) ≡ true → instruction.Simple s ≡ instruction.Set x
      by simple.Return e = cc
      by simple.NullRegion e = cc
      by simple.SameRegion e = cc
      by simple.IsZero e = cc
      by simple.IsNullRegion e = cc
      by simple.ToInt e = cc
      by simple.ToUnsigned e = cc
      by simple.ToChar e = cc
      by simple.NewRegion e = cc
      by simple.NewSubregion e = cc
      by simple.PutChar e = cc
      by simple.GetChar e = cc
      by simple.Pop e = cc
  sets_is (instruction.Call h pins) n e = cc
  sets_is (instruction.Constant s v) n e = cc
  sets_is (instruction.Global g) n e = cc
  sets_is (instruction.Load p) n e = cc
  sets_is (instruction.Typed t y) n e = cc
  sets_is (instruction.Arithmetic a s) n e = cc
  sets_is (instruction.Move y s d) n e = cc
  sets_is (instruction.Store p b) n e = cc
  sets_is (instruction.Delete pins) n e = cc

-- where it leads

abbrev nowhere : Option ℕ
nowhere = None

next_way : {P : Type 0} (at to : ℕ) → (to ≡ suc at → P) → (IsTrue true × (to ≡ suc at)) ⊎ (nowhere ≡ Some to) → P
next_way at to k (inl p) = k p.1
next_way at to k (inr e) = cc

jump_way : (at to t : ℕ) → (IsTrue false × (to ≡ suc at)) ⊎ (Some t ≡ Some to) → to ≡ t
jump_way at to t (inl p) = let e = p.0 in cc
jump_way at to t (inr e) = cc

fork_way : (at to t : ℕ) → (IsTrue true × (to ≡ suc at)) ⊎ (Some t ≡ Some to) → (to ≡ t) ⊎ (to ≡ suc at)
fork_way at to t (inl p) = inr p.1
fork_way at to t (inr e) = inl cc

no_way : {P : Type 0} (at to : ℕ) → (IsTrue false × (to ≡ suc at)) ⊎ (nowhere ≡ Some to) → P
no_way at to (inl p) = let e = p.0 in cc
no_way at to (inr e) = cc

module _ (f : Function) (at to : ℕ) where
  way_of : (i : Instruction) → Leads (stop_in f i) at to → Way i at to
  way_of (instruction.Jump jump.Always t) l = jump_way at to t l
  way_of (instruction.Jump jump.Back t) l = jump_way at to t l
  way_of (instruction.Jump jump.IfZero t) l = fork_way at to t l
  way_of (instruction.Simple s) l = by s l
    where
      by : (s : _) → Leads (stop_in f (instruction.Simple s)) at to → Way (instruction.Simple s) at to
      by simple.Return l = no_way at to l
      by simple.NullRegion l = next_way at to (λ e. e) l
      by simple.SameRegion l = next_way at to (λ e. e) l
      by simple.IsZero l = next_way at to (λ e. e) l
      by simple.IsNullRegion l = next_way at to (λ e. e) l
      by simple.ToInt l = next_way at to (λ e. e) l
      by simple.ToUnsigned l = next_way at to (λ e. e) l
      by simple.ToChar l = next_way at to (λ e. e) l
      by simple.NewRegion l = next_way at to (λ e. e) l
      by simple.NewSubregion l = next_way at to (λ e. e) l
      by simple.PutChar l = next_way at to (λ e. e) l
      by simple.GetChar l = next_way at to (λ e. e) l
      by simple.Pop l = next_way at to (λ e. e) l
  way_of (instruction.Get y) l = next_way at to (λ e. e) l
  way_of (instruction.Set y) l = next_way at to (λ e. e) l
  way_of (instruction.Call h pins) l = next_way at to (λ e. e) l
  way_of (instruction.Constant s v) l = next_way at to (λ e. e) l
  way_of (instruction.Global g) l = next_way at to (λ e. e) l
  way_of (instruction.Load p) l = next_way at to (λ e. e) l
  way_of (instruction.Typed t y) l = next_way at to (λ e. e) l
  way_of (instruction.Arithmetic a s) l = next_way at to (λ e. e) l
  way_of (instruction.Move y s d) l = next_way at to (λ e. e) l
  way_of (instruction.Store p b) l = next_way at to (λ e. e) l
  way_of (instruction.Delete pins) l = next_way at to (λ e. e) l

  leads_of : (i : Instruction) → Way i at to → Leads (stop_in f i) at to
  leads_of (instruction.Jump jump.Always t) w = inr (ap Some (sym w))
  leads_of (instruction.Jump jump.Back t) w = inr (ap Some (sym w))
  leads_of (instruction.Jump jump.IfZero t) w = elim w [ inl e ↦ inr (ap Some (sym e)) | inr e ↦ inl (refl, e) ]
  leads_of (instruction.Simple s) w = by s w
    where
      by : (s : _) → Way (instruction.Simple s) at to → Leads (stop_in f (instruction.Simple s)) at to
      by simple.Return w = absurd w
      by simple.NullRegion w = inl (refl, w)
      by simple.SameRegion w = inl (refl, w)
      by simple.IsZero w = inl (refl, w)
      by simple.IsNullRegion w = inl (refl, w)
      by simple.ToInt w = inl (refl, w)
      by simple.ToUnsigned w = inl (refl, w)
      by simple.ToChar w = inl (refl, w)
      by simple.NewRegion w = inl (refl, w)
      by simple.NewSubregion w = inl (refl, w)
      by simple.PutChar w = inl (refl, w)
      by simple.GetChar w = inl (refl, w)
      by simple.Pop w = inl (refl, w)
  leads_of (instruction.Get y) w = inl (refl, w)
  leads_of (instruction.Set y) w = inl (refl, w)
  leads_of (instruction.Call h pins) w = inl (refl, w)
  leads_of (instruction.Constant s v) w = inl (refl, w)
  leads_of (instruction.Global g) w = inl (refl, w)
  leads_of (instruction.Load p) w = inl (refl, w)
  leads_of (instruction.Typed t y) w = inl (refl, w)
  leads_of (instruction.Arithmetic a s) w = inl (refl, w)
  leads_of (instruction.Move y s d) w = inl (refl, w)
  leads_of (instruction.Store p b) w = inl (refl, w)
  leads_of (instruction.Delete pins) w = inl (refl, w)

-- ---- what is got is a local

module _ (f : Function) (n : ℕ) where
  local_of_number : (x : ℕ) → x < length f.locals → is_it (numbered f x) n ≡ true → IsNumberIn f n
  local_of_number x there = by (is_regional (local_in f x)) refl
    where
      by : (b : Bool) → is_regional (local_in f x) ≡ b → is_it (when b (number_of f x)) n ≡ true → IsNumberIn f n
      by true r e = record { local = x; there = there; regional = r; is = sym (eqb-true n (number_of f x) e) }
      by false r e = cc

  got_local : (i : Instruction) → NamesLocals f i → is_it (stop_in f i).gets n ≡ true → IsNumberIn f n
  got_local (instruction.Get y) names e = local_of_number y names e
  got_local (instruction.Set y) names e = cc
  got_local (instruction.Jump jump.Always to) names e = cc
  got_local (instruction.Jump jump.IfZero to) names e = cc
  got_local (instruction.Jump jump.Back to) names e = cc
  got_local (instruction.Simple s) names e = by s e
    where
      by : (s : _) → is_it (stop_in f (instruction.Simple s)).gets n ≡ true → IsNumberIn f n
      by simple.Return e = cc
      by simple.NullRegion e = cc
      by simple.SameRegion e = cc
      by simple.IsZero e = cc
      by simple.IsNullRegion e = cc
      by simple.ToInt e = cc
      by simple.ToUnsigned e = cc
      by simple.ToChar e = cc
      by simple.NewRegion e = cc
      by simple.NewSubregion e = cc
      by simple.PutChar e = cc
      by simple.GetChar e = cc
      by simple.Pop e = cc
  got_local (instruction.Call h pins) names e = cc
  got_local (instruction.Constant s v) names e = cc
  got_local (instruction.Global g) names e = cc
  got_local (instruction.Load p) names e = cc
  got_local (instruction.Typed t y) names e = cc
  got_local (instruction.Arithmetic a s) names e = cc
  got_local (instruction.Move y s d) names e = cc
  got_local (instruction.Store p b) names e = cc
  got_local (instruction.Delete pins) names e = cc

  pub used_number : ((at : ℕ) → NamesLocals f (instruction_at f at)) → {at : ℕ} → UsedOn (map (stop_in f) f.code) n at → IsNumberIn f n
  used_number names (got_on {at} lt is) = got_local (instruction_at f at) (names at) (subst (λ (s : Stop). is_it s.gets n ≡ true) (map_at f f.code at (let e = length-map f.code (stop_in f) in omega (arith, lt, e))) is)
  used_number names (gone_on lt unset way next) = used_number names next

-- ---- all instructions

module _ (f : Function) (names : (at : ℕ) → NamesLocals f (instruction_at f at)) (x : ℕ) (there : x < length f.locals) (regional : is_regional (local_in f x) ≡ true) where
  abbrev stops : List Stop
  stops = map (stop_in f) f.code

  in_code : (at : ℕ) → at < length stops → at < length f.code
  in_code at lt = let e = length-map f.code (stop_in f) in omega (arith, lt, e)

  in_stops : (at : ℕ) → at < length f.code → at < length stops
  in_stops at lt = let e = length-map f.code (stop_in f) in omega (arith, lt, e)

  stop_here : (at : ℕ) → at < length f.code → stop_at stops at ≡ stop_in f (instruction_at f at)
  stop_here at lt = map_at f f.code at lt

  to_used : {at : ℕ} → UsedOn stops (number_of f x) at → Used f x at
  to_used (got_on {at} lt is) = got (gets_is f x there regional (instruction_at f at) (names at) (subst (λ (s : Stop). is_it s.gets (number_of f x) ≡ true) (stop_here at (in_code at lt)) is))
  to_used (gone_on {at} {to} lt unset way next) =
      on (λ e. both_of (is_it (stop_in f (instruction_at f at)).sets (number_of f x)) (subst (λ (i : Instruction). is_it (stop_in f i).sets (number_of f x) ≡ true) (sym e) (local_is f x there regional)) (subst (λ (s : Stop). is_it s.sets (number_of f x) ≡ false) (stop_here at (in_code at lt)) unset))
      (way_of f at to (instruction_at f at) (subst (λ (s : Stop). Leads s at to) (stop_here at (in_code at lt)) way)) (to_used next)

  within : (at : ℕ) → (instruction_at f at ≡ instruction.Simple simple.Return → ⊥) → at < length f.code
  within at h = by (order at (length f.code))
    where
      by : (at < length f.code) ⊎ ((at ≡ length f.code) ⊎ (length f.code < at)) → at < length f.code
      by (inl l) = l
      by (inr (inl e)) = absurd (h (behind_all f.code at (omega (arith, e))))
      by (inr (inr l)) = absurd (h (behind_all f.code at (omega (arith, l))))

  not_returning : (at : ℕ) → instruction_at f at ≡ instruction.Get x → instruction_at f at ≡ instruction.Simple simple.Return → ⊥
  not_returning at e q = let r : instruction.Get x ≡ instruction.Simple simple.Return = sym e ∙ q in cc

  from_used : {at : ℕ} → Used f x at → UsedOn stops (number_of f x) at
  from_used (got {at} e) =
      let lt = within at (not_returning at e) in
      got_on (in_stops at lt) (subst (λ (s : Stop). is_it s.gets (number_of f x) ≡ true) (sym (stop_here at lt)) (subst (λ (i : Instruction). is_it (stop_in f i).gets (number_of f x) ≡ true) (sym e) (local_is f x there regional)))
  from_used (on {at} {to} unset way next) =
      let lt = within at (λ e. subst (λ (i : Instruction). Way i at to) e way) in
      gone_on (in_stops at lt) (subst (λ (s : Stop). is_it s.sets (number_of f x) ≡ false) (sym (stop_here at lt)) (by (is_it (stop_in f (instruction_at f at)).sets (number_of f x)) refl))
      (subst (λ (s : Stop). Leads s at to) (sym (stop_here at lt)) (leads_of f at to (instruction_at f at) way)) (from_used next)
    where
      by : (b : Bool) → is_it (stop_in f (instruction_at f at)).sets (number_of f x) ≡ b → is_it (stop_in f (instruction_at f at)).sets (number_of f x) ≡ false
      by true e = absurd (unset (sets_is f x there regional (instruction_at f at) (names at) e))
      by false e = e

  pub used_told : (at : ℕ) → UsedOn stops (number_of f x) at ↔ Used f x at
  used_told at = (λ u. to_used u, λ u. from_used u)
