-- A struct copy's code does what the copy does: it goes cell by cell, and a copy may.
use Rattle.std.proofs.Common.{◌≡◌, ℕ, ◌+◌, Bool, List, slice_get, Some, refl, sym, ap, ◌∙◌, subst, inl, inr, arith}
use Rattle.rc_core.specs.Types.{Ty, struct}
use Rattle.rc_core.specs.Layout.{cells, size}
use Rattle.rc_core.specs.Programs.{Expr, Place, copy, Function, Program}
use Rattle.rc_core.specs.Heap.{Value}
use Rattle.rc_core.specs.Live.{Ways}
use Rattle.rc_core.specs.Runs.{Ends, Stale, Run, Go, Stopped, bind, Target, Calls}
use Rattle.rc_core.specs.Source.{World, with_heap, source}
use Rattle.rc_core.specs.Evaluation.{target}
use Rattle.rc_core.specs.Execution.{Flow, Next, deletes, calling, exec, calls_within}
use Rattle.rc_core.specs.Typing.{HasType, IsPlace, IsTyped}
use Rattle.rc_core.specs.Deletes.{IsPlaced}
use Rattle.rc_core.specs.WellTyped.{IsWellTyped}
use Rattle.rc_core.specs.Laws.{IfGoes}
use Rattle.rc_kinds.specs.Suits.{Ledger, WorldSuits, Known}
use Rattle.rc_kinds.specs.Frames.{Frame}
use Rattle.rc_kinds.specs.Copies.{DoesTheSame, copied_at_once, copied_by_cells}
use Rattle.rc_kinds.proofs.Knowing.{goes_on}
use Rattle.rc_kinds.proofs.Paths.{Aims}
use Rattle.rc_kinds.proofs.Evaluations.{still_aims}
use Rattle.rc_kinds.proofs.Executions.{place_keeps}
use Rattle.rc_kinds.proofs.Calls.{calls_keep}
use Rattle.rc_kinds.proofs.Copying.{copies_go_by_cells}
use Rattle.rc_rlang.specs.RegionCode as To
use Rattle.rc_rlang.specs.RegionCode.{Steps, width}
use Rattle.rc_rlang.specs.RegionRuns as R
use Rattle.rc_rlang.specs.RegionRuns.{Way, Temporaries, target_at, steps_run, act_run, code_run}
use Rattle.rc_rlang.specs.RegionLive.{before_steps, before_act}
use Rattle.rc_translation.specs.Translation.{parameter_types, access, place_code, statement_code}
use Rattle.rc_translation.proofs.Sames.{Same, same_bind, same_with, bind_bind}
use Rattle.rc_translation.proofs.Temporaries.{Lower, target_lower, run_both}
use Rattle.rc_translation.proofs.ValueKinds.{AllSuit}
use Rattle.rc_translation.proofs.Expressions.{place_does}
use Rattle.rc_translation.proofs.Statements.{Meets, Equal, Sound}
use Rattle.rc_translation.proofs.Holding.{held_is}
use Rattle.rc_translation.proofs.Cells.{aims_at, moved_is}
use Rattle.rc_translation.proofs.Updates.{Placed, placed}
use Rattle.rc_translation.proofs.Instance.{Good, sound_function}

-- worlds that differ in their heaps alone
abbrev pub AllButHeap : World → World → Type 0
AllButHeap w w1 = w1 ≡ with_heap w w1.heap

both_go : {A : Type 0} (P Q : A → World → Type 0) (m : Run World A) → IfGoes P m → IfGoes Q m → IfGoes (λ x w. P x w × Q x w) m
both_go P Q (Go x w) p q = (p, q)
both_go P Q (Stopped stop w) p q = tt

-- what is done behind a copy
does_so : (env : List Value) (m : Run World (Unit {0})) (m' : Run World Temporaries) → DoesTheSame m (bind m' (λ _ w. Go tt w)) → Same AllButHeap Meets (bind m (λ _ w. Go (Next env) w)) (bind m' (λ t w. Go (R.Next env t) w))
does_so env (Go u w) (Go t w1) d = let e : w1 ≡ w = cc in subst (λ x. Same AllButHeap Meets (Go (Next env) w) (Go (R.Next env t) x)) (sym e) (refl, refl)
does_so env (Go u w) (Stopped s w1) d = cc
does_so env (Stopped (Ends end) w) (Go t w1) d = let e = d.1 in cc
does_so env (Stopped (Ends end) w) (Stopped s w1) d = let e = d.1 in let e1 : s ≡ Ends end = cc in let e2 : w1 ≡ with_heap w d.0 = cc in subst (λ x. Same AllButHeap Meets (Stopped (Ends end) w) (Stopped x w1)) (sym e1) (subst (λ x. Same AllButHeap Meets (Stopped (Ends end) w) (Stopped (Ends end) x)) (sym e2) (inr (refl, refl)))
does_so env (Stopped (Stale line) w) m' d = inl tt

module _ (program : Program) (well : IsWellTyped program) (k : ℕ) (f : Function) (there : slice_get program.functions k ≡ Some f) (n : ℕ) (calls' : Calls World)
    (called : (h : ℕ) (ys : List Value) (w : World) → AllSuit (parameter_types program h) ys → Known program (parameter_types program h) ys w → Same AllButHeap Equal (calls_within source program n h ys w) (calls' h ys w)) where
  abbrev calls : Calls World
  calls = calls_within source program n

  abbrev sd : Sound source program f calls (Known program) (Good program f)
  sd = sound_function program well n k f there

  abbrev run : Steps → (ℕ → Bool) → List Value → Temporaries → World → Run World Temporaries
  run steps live env t w = steps_run source (deletes program) f.locals steps calls' live env t w

  abbrev aimed_at : Place → (ℕ → Bool) → List Value → World → Run World Target
  aimed_at place live env w = target source program place (calling source program calls live env) env w

  here_too : (w : World) → AllButHeap w w
  here_too w = refl

  abbrev Copies : ℕ → Target → Target → World → Type 0
  Copies s to from w = (line : ℕ) → DoesTheSame (copied_at_once line (size program.structs (struct s)) from to w) (copied_by_cells line (size program.structs (struct s)) from to w)

  -- both places
  record Two (t : Ty) (to from : Target) (w : World) : Type 0 where
    pub ledger : Ledger
    pub world : WorldSuits program ledger w
    pub to_aims : Aims program.structs ledger t to
    pub from_aims : Aims program.structs ledger t from

  two_aims : (live : ℕ → Bool) (place : Place) (t : Ty) (env : List Value) (to : Target) (w : World) → IsPlace program f.locals place t → Placed program f t env to w → IfGoes (λ from w1. Two t to from w1) (aimed_at place live env w)
  two_aims live place t env to w hp p =
      goes_on program p.ledger (λ l tg. Aims program.structs l t tg) (λ tg w1. Two t to tg w1) (aimed_at place live env w) (place_keeps program well.structs f (well.functions k f there).locals calls (calls_keep program well n) live place t env p.ledger w hp p.values p.world)
      (λ tg l1 w1 g s a. record { ledger = l1; world = s; to_aims = still_aims program p.ledger l1 t to g p.aims; from_aims = a })

  pub copies_meet : (loop : Bool) (line s : ℕ) (left right : Place) → IsTyped program f loop (copy line s left right) → IsPlaced program (copy line s left right) → (ways : Ways) (env : List Value) (t : Temporaries) (w : World) → Good program f env w →
      Same AllButHeap Meets (exec source program (copy line s left right) f calls ways env w) (code_run source (deletes program) f.locals (statement_code program f (copy line s left right)) calls' ways env t w)
  copies_meet loop line s left right ht hp ways env t w good =
      let a = access program f.locals left in
      let b = access program f.locals right in
      let kinds = cells program.structs (struct s) in
      let m = size program.structs (struct s) in
      let at : Frame = record { depth = n; function = f; locals = env; world = w } in
      let live1 : ℕ → Bool = before_act (To.move line kinds a b) ways.next in
      let known = λ (ex : Expr) (tx : Ty) (wx : World) (hx : HasType program f.locals ex tx) (gx : Good program f env wx). sd.value ways.next ex tx env wx hx gx in
      let held_so = sym (held_is f.locals env ways.next (sd.kinded env w good)) in
      let ll : Temporaries → World → Run World Way = λ t1. act_run source (deletes program) f.locals (To.move line kinds a b) calls' ways.next env t1 in
      let kk : Target → Target → World → Run World Flow = λ to from w2. bind (source.load_all line from m w2) (λ vs w3. bind (source.store_all line to vs w3) (λ _ w4. Go (Next env) w4)) in
      let both_found : IfGoes (λ to w1. IfGoes (λ from w2. Copies s to from w2) (aimed_at right ways.next env w1)) (aimed_at left ways.next env w)
      = (copies_go_by_cells program well).same ways.next left right s at (record { number = k; there = there; known = good }) ht.0 ht.1 ht.2 in
      subst (λ r. Same AllButHeap Meets (bind (aimed_at left ways.next env w) (λ to w1. bind (aimed_at right ways.next env w1) (λ from w2. kk to from w2))) r)
      (sym (ap (λ r. bind r ll) (run_both source (deletes program) f.locals (place_code program f.locals line left 0) (place_code program f.locals line right (width a)) calls' live1 env t w) ∙ bind_bind (run (place_code program f.locals line left 0) (before_steps (place_code program f.locals line right (width a)) live1) env t w) (λ t1 w1. run (place_code program f.locals line right (width a)) live1 env t1 w1) ll))
      (same_bind AllButHeap (λ tg t1 w1. ((target_at a t1 0 ≡ tg) × Lower 0 t t1 × Good program f env w1) × (Placed program f (struct s) env tg w1 × IfGoes (λ from w2. Copies s tg from w2) (aimed_at right ways.next env w1))) Meets (aimed_at left ways.next env w) (run (place_code program f.locals line left 0) (before_steps (place_code program f.locals line right (width a)) live1) env t w) _ _
      (same_with AllButHeap (λ tg t1 w1. (target_at a t1 0 ≡ tg) × Lower 0 t t1 × Good program f env w1) (λ tg w1. Placed program f (struct s) env tg w1 × IfGoes (λ from w2. Copies s tg from w2) (aimed_at right ways.next env w1)) (aimed_at left ways.next env w) _
      (both_go (λ tg w1. Placed program f (struct s) env tg w1) (λ tg w1. IfGoes (λ from w2. Copies s tg from w2) (aimed_at right ways.next env w1)) (aimed_at left ways.next env w) (placed AllButHeap here_too program well k f there n calls' called ways.next left (struct s) env w ht.0 good) both_found)
      (place_does AllButHeap here_too source program f.locals calls calls' (Known program) called (Good program f env) env ways.next (sd.arguments ways.next env) known held_so line left 0 (struct s) ht.0 hp.0 (before_steps (place_code program f.locals line right (width a)) live1) t w good)) (λ to t1 w1 p.
      same_bind AllButHeap (λ from t2 w2. ((target_at b t2 (width a) ≡ from) × Lower (width a) t1 t2 × Good program f env w2) × (Two (struct s) to from w2 × Copies s to from w2)) Meets (aimed_at right ways.next env w1) (run (place_code program f.locals line right (width a)) live1 env t1 w1) (λ from w2. kk to from w2) ll
      (same_with AllButHeap (λ from t2 w2. (target_at b t2 (width a) ≡ from) × Lower (width a) t1 t2 × Good program f env w2) (λ from w2. Two (struct s) to from w2 × Copies s to from w2) (aimed_at right ways.next env w1) _
      (both_go (λ from w2. Two (struct s) to from w2) (λ from w2. Copies s to from w2) (aimed_at right ways.next env w1) (two_aims ways.next right (struct s) env to w1 ht.1 p.1.0) p.1.1)
      (place_does AllButHeap here_too source program f.locals calls calls' (Known program) called (Good program f env) env ways.next (sd.arguments ways.next env) known held_so line right (width a) (struct s) ht.1 hp.1 live1 t1 w1 p.0.2)) (λ from t2 w2 q.
      let left_is : target_at a t2 0 ≡ to = target_lower a 0 (width a) t1 t2 q.0.1 (omega arith) ∙ p.0.0 in
      let moved : Target → Target → Run World Temporaries = λ x y. R.cells_moved source (deletes program) f.locals line (width a + width b) kinds x y t2 w2 in
      subst (λ x. Same AllButHeap Meets (kk to from w2) (bind (moved x (target_at a t2 0)) (λ t3 w4. Go (R.Next env t3) w4))) (sym q.0.0)
      (subst (λ x. Same AllButHeap Meets (kk to from w2) (bind (moved from x) (λ t3 w4. Go (R.Next env t3) w4))) (sym left_is)
      (subst (λ r. Same AllButHeap Meets r (bind (moved from to) (λ t3 w4. Go (R.Next env t3) w4))) (bind_bind (source.load_all line from m w2) (λ vs w3. source.store_all line to vs w3) (λ _ w4. Go (Next env) w4))
      (does_so env (copied_at_once line m from to w2) (moved from to)
      (subst (λ r. DoesTheSame (copied_at_once line m from to w2) r) (sym (moved_is program (deletes program) f.locals line (width a + width b) kinds q.1.0.ledger from to t2 w2 (aims_at program q.1.0.ledger (struct s) from q.1.0.from_aims) (aims_at program q.1.0.ledger (struct s) to q.1.0.to_aims) q.1.0.world))
      (q.1.1 line))))))))
