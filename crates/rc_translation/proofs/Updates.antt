-- An update's code does what the update does.
use Rattle.std.proofs.Common.{◌≡◌, ℕ, suc, ℤ, Bool, true, false, not, List, slice_get, Some, Result, Ok, Err, refl, sym, ap, ◌∙◌, subst, arith, inr}
use Rattle.std.specs.Prelude.{IsTrue, pos, negsuc}
use Rattle.std.proofs.Math.Nat.{mod-eq_of_lt}
use Rattle.rc_base.specs.declared.ends.Trap.{Trap}
use Rattle.rc_core.specs.declared.ty.NumberType.{NumberType}
use Rattle.rc_core.specs.declared.ty.NumberType.TheVariants.{Int, Unsigned, Char}
use Rattle.rc_core.specs.declared.ty.Signedness.{Signedness}
use Rattle.rc_core.specs.declared.ty.Signedness.TheVariants.{Signed, Unsigned as Wrapping}
use Rattle.rc_core.specs.declared.operators.Operator.{Operator}
use Rattle.rc_core.specs.declared.stmt.Change.{Change}
use Rattle.rc_core.specs.declared.stmt.Change.TheVariants.{Compute, Step}
use Rattle.rc_core.specs.Arithmetic.{converted, type_of, calculate}
use Rattle.rc_core.specs.Types.{Ty, char}
use Rattle.rc_core.specs.Programs.{Expr, Place, update, Function, Program}
use Rattle.rc_core.specs.Heap.{Value, Number, Null, Handle, Pointer}
use Rattle.rc_core.specs.Live.{Ways}
use Rattle.rc_core.specs.Runs.{Run, Go, Stopped, bind, computed, Target, Calls}
use Rattle.rc_core.specs.Source.{World, source}
use Rattle.rc_core.specs.Evaluation.{number_in, target}
use Rattle.rc_core.specs.Execution.{Flow, Next, deletes, calling, value_of, changed, exec, calls_within}
use Rattle.rc_core.specs.Typing.{number, arithmetic, value_type, is_comparison, result_if, result_type, HasType, IsPlace, Takes, IsTyped}
use Rattle.rc_core.specs.Deletes.{IsQuiet, IsQuietPlace, IsPlaced}
use Rattle.rc_core.specs.WellTyped.{IsWellTyped}
use Rattle.rc_core.specs.Laws.{IfGoes}
use Rattle.rc_kinds.specs.Suits as K
use Rattle.rc_kinds.specs.Suits.{Ledger, WorldSuits, Known}
use Rattle.rc_kinds.proofs.Knowing.{goes_on}
use Rattle.rc_kinds.specs.Kinds.{Of}
use Rattle.rc_kinds.proofs.InRange.{IfOk, calculated_suits, converted_fits, less_is, as_int_same}
use Rattle.rc_kinds.proofs.Grown.{all_still_suit, value_suits}
use Rattle.rc_kinds.proofs.Paths.{Aims}
use Rattle.rc_kinds.proofs.Operations.{load_keeps}
use Rattle.rc_kinds.proofs.Evaluations.{still_aims}
use Rattle.rc_kinds.proofs.Executions.{value_keeps, place_keeps, changed_keeps, taken_has, taken_cell}
use Rattle.rc_kinds.proofs.Calls.{calls_keep}
use Rattle.rc_rlang.specs.RegionCode as To
use Rattle.rc_rlang.specs.RegionCode.{Steps, both, width}
use Rattle.rc_rlang.specs.RegionRuns as R
use Rattle.rc_rlang.specs.RegionRuns.{Way, Temporaries, temporary, kept, target_at, steps_run, act_run, code_run, convert_value, right_number, new_value}
use Rattle.rc_rlang.specs.RegionLive.{before_steps, before_act}
use Rattle.rc_translation.specs.Translation.{expression_type, parameter_types, access, expression_code, place_code, statement_code}
use Rattle.rc_translation.proofs.Sames.{Same, same_bind, same_with, same_self, bind_bind}
use Rattle.rc_translation.proofs.Temporaries.{Lower, target_lower, run_both}
use Rattle.rc_translation.proofs.ValueKinds.{Suits, AllSuit, kept_same, right_same}
use Rattle.rc_translation.proofs.TypesFound.{types_are, number_not_null}
use Rattle.rc_translation.proofs.Expressions.{Stored, expression_does, place_does}
use Rattle.rc_translation.proofs.Statements.{Meets, Equal, Sound, access_cell}
use Rattle.rc_translation.proofs.Equations.{suits_so}
use Rattle.rc_translation.proofs.Holding.{held_is}
use Rattle.rc_translation.proofs.Instance.{Good, sound_function}

-- a conversion is what region code does for it, where no type is converted to itself
converts : (l : Ledger) (from to : NumberType) (v : Value) → K.Suits l (number from) v → Number (converted to (number_in v)) ≡ convert_value from to v
converts l Int Int (Number z) s = ap Number (as_int_same z s)
converts l Int Int Null s = absurd s
converts l Int Int (Handle r) s = absurd s
converts l Int Int (Pointer a) s = absurd s
converts l Unsigned Unsigned (Number (pos n)) s = ap (λ m. Number (pos m)) (mod-eq_of_lt (less_is n 4294967296 s))
converts l Unsigned Unsigned (Number (negsuc n)) s = cc
converts l Unsigned Unsigned Null s = absurd s
converts l Unsigned Unsigned (Handle r) s = absurd s
converts l Unsigned Unsigned (Pointer a) s = absurd s
converts l Char Char (Number (pos n)) s = ap (λ m. Number (pos m)) (mod-eq_of_lt (less_is n 256 s))
converts l Char Char (Number (negsuc n)) s = cc
converts l Char Char Null s = absurd s
converts l Char Char (Handle r) s = absurd s
converts l Char Char (Pointer a) s = absurd s
converts l Char Int v s = let q = suits_so l char v s in ap Number q.2 ∙ q.0
converts l Char Unsigned v s = refl
converts l Int Unsigned v s = refl
converts l Int Char v s = refl
converts l Unsigned Int v s = refl
converts l Unsigned Char v s = refl

no_comparison : (op : Operator) (s : Signedness) (b : Bool) → is_comparison op ≡ b → IsTrue (not b) → result_type op s ≡ arithmetic s
no_comparison op s true e h = cc
no_comparison op s false e h = ap (λ b. result_if b s) e

-- a new value is in its type already, or is converted
put_back : {W : Type 0} (l : Ledger) (line : ℕ) (from : NumberType) (s : Signedness) (r : Result ℤ Trap) (w : W) → IfOk (λ n. K.Suits l (arithmetic s) (Number n)) r →
    bind (computed line r w) (λ n w1. Go (convert_value (type_of s) from (Number n)) w1) ≡ bind (computed line r w) (λ n w1. Go (Number (converted from n)) w1)
put_back l line from s (Ok n) w h = ap (λ v. Go v w) (sym (converts l (type_of s) from (Number n) h))
put_back l line from s (Err t) w h = refl

module _ (program : Program) (f : Function) where
  pub record Placed (t : Ty) (env : List Value) (tg : Target) (w : World) : Type 0 where
    pub ledger : Ledger
    pub world : WorldSuits program ledger w
    pub values : K.AllSuit ledger f.locals env
    pub aims : Aims program.structs ledger t tg

  pub record Valued (t u : Ty) (env : List Value) (tg : Target) (v : Value) (w : World) : Type 0 where
    pub ledger : Ledger
    pub world : WorldSuits program ledger w
    pub values : K.AllSuit ledger f.locals env
    pub aims : Aims program.structs ledger t tg
    pub value : K.Suits ledger u v

  pub record Loaded (t : Ty) (env : List Value) (tg : Target) (old : Value) (w : World) : Type 0 where
    pub ledger : Ledger
    pub world : WorldSuits program ledger w
    pub aims : Aims program.structs ledger t tg
    pub old_suits : K.Suits ledger t old

  -- the type that is found for the operand is the one it has
  operand_is : (e : Expr) (s : Signedness) → HasType program f.locals e (arithmetic s) → expression_type program f.locals e ≡ arithmetic s
  operand_is e s he = types_are program f.locals e (arithmetic s) (number_not_null program f.locals e s (arithmetic s) refl he) he

  pub new_same : (line : ℕ) (t : Ty) (change : Change) (e : Expr) (h : Takes program f.locals t change e) (old v : Value) (l : Ledger) (w : World) → K.Suits l t old → K.Suits l (taken_has program f t change e h).0 v →
      new_value source (deletes program) f.locals line change (expression_type program f.locals e) old v w ≡ changed source program line change old v w
  new_same line t (Compute from op s) e h old v l w so sv =
      let r = h.3.0 in
      let z = converted (type_of s) (number_in old) in
      let old_so : K.Suits l (number from) old = subst (λ x. K.Suits l x old) h.0 so in
      let in_type : number_in (convert_value from (type_of s) old) ≡ z = ap number_in (sym (converts l from (type_of s) old old_so)) in
      let right : calculate op s z (right_number op (expression_type program f.locals e) v) ≡ calculate op s z (number_in v) = ap (λ ty. calculate op s z (right_number op ty v)) (operand_is e r h.3.1.1) ∙ right_same op r s z v (suits_so l (arithmetic r) v sv) in
      ap (λ x. bind (computed line (calculate op s x (right_number op (expression_type program f.locals e) v)) w) (λ n w1. Go (convert_value (type_of s) from (Number n)) w1)) in_type
      ∙ ap (λ x. bind (computed line x w) (λ n w1. Go (convert_value (type_of s) from (Number n)) w1)) right
      ∙ put_back l line from s (calculate op s z (number_in v)) w (subst (λ ty. IfOk (λ n. K.Suits l ty (Number n)) (calculate op s z (number_in v))) (no_comparison op s (is_comparison op) refl h.1) (calculated_suits l op s z (number_in v) (converted_fits (type_of s) (number_in old))))
  new_same line t (Step direction) e h old v l w so sv = refl

  -- a number suits by every ledger
  number_anywhere : (t : Ty) (change : Change) (e : Expr) (h : Takes program f.locals t change e) (l l1 : Ledger) (v : Value) → K.Suits l (taken_has program f t change e h).0 v → K.Suits l1 (taken_has program f t change e h).0 v
  number_anywhere t (Compute from op s) e h l l1 v sv = by h.3.0 sv
    where
      by : (r : Signedness) → K.Suits l (arithmetic r) v → K.Suits l1 (arithmetic r) v
      by Signed sv = sv
      by Wrapping sv = sv
  number_anywhere t (Step direction) e h l l1 v sv = by h.1.0 sv
    where
      by : (r : Signedness) → K.Suits l (arithmetic r) v → K.Suits l1 (arithmetic r) v
      by Signed sv = sv
      by Wrapping sv = sv

module _ (E : World → World → Type 0) (here_too : (w : World) → E w w) (program : Program) (well : IsWellTyped program) (k : ℕ) (f : Function) (there : slice_get program.functions k ≡ Some f) (n : ℕ) (calls' : Calls World)
    (called : (h : ℕ) (ys : List Value) (w : World) → AllSuit (parameter_types program h) ys → Known program (parameter_types program h) ys w → Same E Equal (calls_within source program n h ys w) (calls' h ys w)) where
  abbrev calls : Calls World
  calls = calls_within source program n

  abbrev sd : Sound source program f calls (Known program) (Good program f)
  sd = sound_function program well n k f there

  abbrev run : Steps → (ℕ → Bool) → List Value → Temporaries → World → Run World Temporaries
  run steps live env t w = steps_run source (deletes program) f.locals steps calls' live env t w

  abbrev aimed_at : Place → (ℕ → Bool) → List Value → World → Run World Target
  aimed_at place live env w = target source program place (calling source program calls live env) env w

  pub placed : (live : ℕ → Bool) (place : Place) (t : Ty) (env : List Value) (w : World) → IsPlace program f.locals place t → Good program f env w → IfGoes (λ tg w1. Placed program f t env tg w1) (aimed_at place live env w)
  placed live place t env w hp good =
      goes_on program good.ledger (λ l tg. Aims program.structs l t tg) (λ tg w1. Placed program f t env tg w1) (aimed_at place live env w) (place_keeps program well.structs f (well.functions k f there).locals calls (calls_keep program well n) live place t env good.ledger w hp good.suit good.world)
      (λ tg l1 w1 g s a. record { ledger = l1; world = s; values = all_still_suit good.ledger l1 g f.locals env good.suit; aims = a })

  valued : (live : ℕ → Bool) (e : Expr) (t u : Ty) (env : List Value) (tg : Target) (w : World) → HasType program f.locals e u → Placed program f t env tg w → IfGoes (λ v w1. Valued program f t u env tg v w1) (value_of source program calls live e env w)
  valued live e t u env tg w he p =
      goes_on program p.ledger (Of u) (λ v w1. Valued program f t u env tg v w1) (value_of source program calls live e env w) (value_keeps program well.structs f (well.functions k f there).locals calls (calls_keep program well n) live e u env p.ledger w he p.values p.world)
      (λ v l1 w1 g s v1. record { ledger = l1; world = s; values = all_still_suit p.ledger l1 g f.locals env p.values; aims = still_aims program p.ledger l1 t tg g p.aims; value = v1 })

  same_refl : {A : Type 0} (m : Run World A) → Same E Equal m m
  same_refl (Go x w) = (refl, refl)
  same_refl (Stopped s w) = inr (refl, here_too w)

  -- a place first, a value behind it, and then what reads both
  place_then_value : (line : ℕ) (place : Place) (pt : Ty) (e : Expr) (u ty : Ty) (live live1 : ℕ → Bool) (env : List Value) (t : Temporaries) (w : World) (kk : Target → Value → World → Run World Flow) (ll : Temporaries → World → Run World Way) → IsPlace program f.locals place pt → HasType program f.locals e u → IsQuietPlace program place → IsQuiet program e → Good program f env w →
      ((tg : Target) (v : Value) (t1 : Temporaries) (w1 : World) → target_at (access program f.locals place) t1 0 ≡ tg → temporary ty t1 (width (access program f.locals place)) ≡ v → Valued program f pt u env tg v w1 → Same E Meets (kk tg v w1) (ll t1 w1)) →
      Same E Meets (bind (aimed_at place live env w) (λ tg w1. bind (value_of source program calls live e env w1) (λ v w2. kk tg v w2)))
      (bind (run (both (place_code program f.locals line place 0) (expression_code program f.locals e ty (width (access program f.locals place)))) live1 env t w) ll)
  place_then_value line place pt e u ty live live1 env t w kk ll hp he qp q good c =
      let a = access program f.locals place in
      let m = width a in
      let known = λ (ex : Expr) (tx : Ty) (wx : World) (hx : HasType program f.locals ex tx) (gx : Good program f env wx). sd.value live ex tx env wx hx gx in
      let held_so = sym (held_is f.locals env live (sd.kinded env w good)) in
      subst (λ r. Same E Meets (bind (aimed_at place live env w) (λ tg w1. bind (value_of source program calls live e env w1) (λ v w2. kk tg v w2))) r)
      (sym (ap (λ r. bind r ll) (run_both source (deletes program) f.locals (place_code program f.locals line place 0) (expression_code program f.locals e ty m) calls' live1 env t w) ∙ bind_bind (run (place_code program f.locals line place 0) (before_steps (expression_code program f.locals e ty m) live1) env t w) (λ t1 w1. run (expression_code program f.locals e ty m) live1 env t1 w1) ll))
      (same_bind E (λ tg t1 w1. ((target_at a t1 0 ≡ tg) × Lower 0 t t1 × Good program f env w1) × Placed program f pt env tg w1) Meets (aimed_at place live env w) (run (place_code program f.locals line place 0) (before_steps (expression_code program f.locals e ty m) live1) env t w) _ _
      (same_with E (λ tg t1 w1. (target_at a t1 0 ≡ tg) × Lower 0 t t1 × Good program f env w1) (λ tg w1. Placed program f pt env tg w1) (aimed_at place live env w) _ (placed live place pt env w hp good)
      (place_does E here_too source program f.locals calls calls' (Known program) called (Good program f env) env live (sd.arguments live env) known held_so line place 0 pt hp qp (before_steps (expression_code program f.locals e ty m) live1) t w good)) (λ tg t1 w1 p.
      same_bind E (λ v t2 w2. Stored ty m t1 v t2 × Valued program f pt u env tg v w2) Meets (value_of source program calls live e env w1) (run (expression_code program f.locals e ty m) live1 env t1 w1) _ ll
      (same_with E (λ v t2 w2. Stored ty m t1 v t2) (λ v w2. Valued program f pt u env tg v w2) (value_of source program calls live e env w1) (run (expression_code program f.locals e ty m) live1 env t1 w1) (valued live e pt u env tg w1 he p.1)
      (expression_does E here_too source program f.locals calls calls' (Known program) called (Good program f env) env live (sd.arguments live env) known held_so e u he q ty m live1 t1 w1 p.0.2)) (λ v t2 w2 s.
      c tg v t2 w2 (target_lower a 0 m t1 t2 s.0.lower (omega arith) ∙ p.0.0) s.0.value s.1)))

  pub updates_meet : (loop : Bool) (line : ℕ) (place : Place) (change : Change) (e : Expr) → IsTyped program f loop (update line place change e) → IsPlaced program (update line place change e) → (ways : Ways) (env : List Value) (t : Temporaries) (w : World) → Good program f env w →
      Same E Meets (exec source program (update line place change e) f calls ways env w) (code_run source (deletes program) f.locals (statement_code program f (update line place change e)) calls' ways env t w)
  updates_meet loop line place change e ht hp ways env t w good =
      let a = access program f.locals place in
      let has = taken_has program f ht.0 change e ht.1.1 in
      let ty = expression_type program f.locals e in
      let same_cell : a.cell ≡ ht.0 = access_cell E here_too source program f calls calls' (Known program) called (Good program f) sd place ht.0 ht.1.0 in
      let cell = taken_cell program f ht.0 change e ht.1.1 in
      place_then_value line place ht.0 e has.0 ty ways.next (before_act (To.update line a change ty) ways.next) env t w
      (λ tg v w2. bind (source.load line tg w2) (λ old w3. bind (changed source program line change old v w3) (λ new w4. bind (source.store line tg new w4) (λ _ w5. Go (Next env) w5))))
      (λ t1. act_run source (deletes program) f.locals (To.update line a change ty) calls' ways.next env t1) ht.1.0 has.1 hp.0 hp.1 good (λ tg v t1 w1 e1 e2 va.
      subst (λ x. Same E Meets (bind (source.load line tg w1) (λ old w3. bind (changed source program line change old v w3) (λ new w4. bind (source.store line tg new w4) (λ _ w5. Go (Next env) w5))))
      (bind (source.load line x w1) (λ old w2. bind (new_value source (deletes program) f.locals line change ty old (temporary ty t1 (width a)) w2) (λ new w3. bind (source.store line x (kept a.cell new) w3) (λ _ w4. Go (R.Next env (R.set_kind (R.change_kind change) t1 (suc (width a)) new)) w4))))) (sym e1)
      (subst (λ x. Same E Meets (bind (source.load line tg w1) (λ old w3. bind (changed source program line change old v w3) (λ new w4. bind (source.store line tg new w4) (λ _ w5. Go (Next env) w5))))
      (bind (source.load line tg w1) (λ old w2. bind (new_value source (deletes program) f.locals line change ty old x w2) (λ new w3. bind (source.store line tg (kept a.cell new) w3) (λ _ w4. Go (R.Next env (R.set_kind (R.change_kind change) t1 (suc (width a)) new)) w4))))) (sym e2)
      (same_bind E (λ old old' w2. (old ≡ old') × Loaded program f ht.0 env tg old w2) Meets (source.load line tg w1) (source.load line tg w1) _ _
      (same_with E Equal (λ old w2. Loaded program f ht.0 env tg old w2) (source.load line tg w1) (source.load line tg w1)
      (goes_on program va.ledger (Of ht.0) (λ old w2. Loaded program f ht.0 env tg old w2) (source.load line tg w1) (load_keeps program va.ledger line ht.0 tg w1 cell va.aims va.world) (λ old l2 w2 g s so. record { ledger = l2; world = s; aims = still_aims program va.ledger l2 ht.0 tg g va.aims; old_suits = so }))
      (same_refl (source.load line tg w1))) (λ old old' w2 p.
      subst (λ x. Same E Meets (bind (changed source program line change old v w2) (λ new w4. bind (source.store line tg new w4) (λ _ w5. Go (Next env) w5))) (bind (new_value source (deletes program) f.locals line change ty x v w2) (λ new w3. bind (source.store line tg (kept a.cell new) w3) (λ _ w4. Go (R.Next env (R.set_kind (R.change_kind change) t1 (suc (width a)) new)) w4)))) p.0
      (subst (λ m. Same E Meets (bind (changed source program line change old v w2) (λ new w4. bind (source.store line tg new w4) (λ _ w5. Go (Next env) w5))) (bind m (λ new w3. bind (source.store line tg (kept a.cell new) w3) (λ _ w4. Go (R.Next env (R.set_kind (R.change_kind change) t1 (suc (width a)) new)) w4))))
      (sym (new_same program f line ht.0 change e ht.1.1 old v p.1.ledger w2 p.1.old_suits (number_anywhere program f ht.0 change e ht.1.1 va.ledger p.1.ledger v va.value)))
      (same_bind E (λ new new' w3. (new ≡ new') × (kept a.cell new ≡ new)) Meets (changed source program line change old v w2) (changed source program line change old v w2) _ _
      (same_with E Equal (λ new w3. kept a.cell new ≡ new) (changed source program line change old v w2) (changed source program line change old v w2)
      (goes_on program p.1.ledger (Of ht.0) (λ new w3. kept a.cell new ≡ new) (changed source program line change old v w2)
      (changed_keeps program well.structs f (well.functions k f there).locals calls (calls_keep program well n) line ht.0 change e old v p.1.ledger w2 ht.1.1 p.1.old_suits p.1.world)
      (λ new l3 w3 g s sn. kept_same a.cell new (subst (λ x. Suits (value_type x) new) (sym same_cell) (suits_so l3 (value_type ht.0) new (value_suits l3 ht.0 new sn)))))
      (same_refl (changed source program line change old v w2))) (λ new new' w3 q.
      subst (λ x. Same E Meets (bind (source.store line tg new w3) (λ _ w5. Go (Next env) w5)) (bind (source.store line tg (kept a.cell x) w3) (λ _ w4. Go (R.Next env (R.set_kind (R.change_kind change) t1 (suc (width a)) x)) w4))) q.0
      (subst (λ x. Same E Meets (bind (source.store line tg new w3) (λ _ w5. Go (Next env) w5)) (bind (source.store line tg x w3) (λ _ w4. Go (R.Next env (R.set_kind (R.change_kind change) t1 (suc (width a)) new)) w4))) (sym q.1)
      (same_self E here_too Meets (source.store line tg new w3) _ _ (λ _ w4. (refl, refl)))))))))))
