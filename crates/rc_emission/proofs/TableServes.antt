-- The table of the operands that a body keeps serves it.
use Rattle.std.proofs.Common.{◌≡◌, ◌<◌, ℕ, ◌+◌, suc, Bool, true, false, List, [], ◌∷◌, ◌++◌, length, refl, ap, arith, rules}
use Rattle.std.specs.Prelude.{nat_lt}
use Rattle.rc_core.specs.Types.{Ty}
use Rattle.rc_rlang.specs.RegionCode as From
use Rattle.rc_rlang.specs.RegionCode.{Operation, Act, Step, Steps, Code, Codes, Routine}
use Rattle.rc_rlang.specs.RegionFits.{step_types, steps_types}
use Rattle.rc_emission.specs.Served.{AllKept, OperationKeeps, StepServed, StepsServed, ActKeeps, CodeServed, CodesServed}
use Rattle.rc_emission.specs.KeptOperands.{counted_on, place_in, entered, once, Kept, kept_at, slots_by, kept_operands, kept_operation, kept_step, kept_steps, kept_act, kept_code, kept_codes}
use Rattle.rc_emission.proofs.Ordered.{Any}
use Rattle.rc_emission.specs.Means.{IsThere, Serves}
use Rattle.rc_emission.proofs.TableLaws.{in_there, table_serves}

module _ (equal : Kept → Kept → Bool) (same : (a : Kept) → equal a a ≡ true) where
  abbrev In : List Kept → Kept → Type 0
  In table a = place_in equal table a < length table

  -- every entry of a list is in a table
  abbrev Covers : List Kept → List Kept → Type 0
  Covers table [] = Unit {0}
  Covers table (a ∷ list) = In table a × Covers table list

  covers_append : (table xs ys : List Kept) → Covers table (xs ++ ys) → Covers table xs × Covers table ys
  covers_append table [] ys c = (tt, c)
  covers_append table (x ∷ xs) ys c = let r = covers_append table xs ys c.1 in ((c.0, r.0), r.1)

  further : (x : Kept) (table : List Kept) (a : Kept) → In table a → In (x ∷ table) a
  further x table a i = by (equal x a)
    where
      by : (b : Bool) → counted_on b (place_in equal table a) < suc (length table)
      by true = omega arith
      by false = omega (arith, i)

  covers_further : (x : Kept) (table list : List Kept) → Covers table list → Covers (x ∷ table) list
  covers_further x table [] c = tt
  covers_further x table (a ∷ list) c = (further x table a c.0, covers_further x table list c.1)

  covers_here : (x : Kept) (table : List Kept) → In (x ∷ table) x
  covers_here x table = let e : counted_on (equal x x) (place_in equal table x) ≡ 0 = ap (λ b. counted_on b (place_in equal table x)) (same x) in omega (arith, e)

  module _ (types : List Ty) (table : List Kept) (Has : ℕ → Ty → Type 0) (has : (h : ℕ) (ty : Ty) → In table (kept_at h ty) → Has h ty) where
    all_have : (base : ℕ) (tys : List Ty) → Covers table (kept_operands base tys) → AllKept Has types base tys
    all_have base [] c = tt
    all_have base (ty ∷ tys) c = (has (base + length tys) ty c.0, all_have base tys c.1)

    op_spills : (h : ℕ) (op : Operation) → Covers table (kept_operation h op) → OperationKeeps Has types h op
    op_spills h (From.step_from n pointed) c = (has h n c.0, has (suc h) pointed c.1.0)
    op_spills h (From.constant s n) c = tt
    op_spills h From.null c = tt
    op_spills h (From.static g) c = tt
    op_spills h (From.copy x) c = tt
    op_spills h (From.load a) c = tt
    op_spills h (From.step direction pointed n) c = tt
    op_spills h (From.unary operator s) c = tt
    op_spills h (From.binary operator s right) c = tt
    op_spills h (From.convert from to) c = tt
    op_spills h (From.not_zero of) c = tt
    op_spills h (From.truth of) c = tt
    op_spills h (From.is_null wanted of) c = tt
    op_spills h (From.same wanted of) c = tt
    op_spills h (From.call g tys) c = tt
    op_spills h From.new_region c = tt
    op_spills h From.new_subregion c = tt
    op_spills h (From.region_of of) c = tt
    op_spills h (From.allocate made layout) c = tt
    op_spills h (From.allocate_array made layout) c = tt
    op_spills h From.putchar c = tt
    op_spills h From.getchar c = tt

    mutual
      steps_have : (s : Steps) (base : ℕ) (tys : List Ty) → StepsServed Any types s base tys → Covers table (kept_steps s base tys) → StepsServed Has types s base tys
      steps_have From.none base tys f c = tt
      steps_have (From.more s rest) base tys f c = let r = covers_append table (kept_step s base tys) (kept_steps rest base (step_types s tys)) c in (step_has s base tys f.0 r.0, steps_have rest base (step_types s tys) f.1 r.1)

      step_has : (s : Step) (base : ℕ) (tys : List Ty) → StepServed Any types s base tys → Covers table (kept_step s base tys) → StepServed Has types s base tys
      step_has (From.set line h ty op) base tys f c = (f.0, f.1, f.2, f.3, op_spills h op c)
      step_has (From.fork line h test result a b) base [] f c = absurd f
      step_has (From.fork line h test result a b) base (ty ∷ below) f c =
          let r = covers_append table (kept_operands base (ty ∷ below)) (kept_at h result ∷ (kept_steps a h [] ++ kept_steps b h [])) c in
          let q = covers_append table (kept_steps a h []) (kept_steps b h []) r.1.1 in
          (f.0, f.1, steps_have a h [] f.2 q.0, f.3, steps_have b h [] f.4 q.1, f.5, all_have base (ty ∷ below) r.0, has h result r.1.0)

    act_has : (act : Act) (tys : List Ty) → Covers table (kept_act act tys) → ActKeeps Has types act tys
    act_has From.drop tys c = tt
    act_has (From.perform line g parameters) tys c = tt
    act_has (From.assign line x ty) tys c = tt
    act_has (From.store line a) tys c = tt
    act_has (From.update line a change ty) tys c = all_have 0 tys c
    act_has (From.move line cells left right) tys c = all_have 0 tys c
    act_has (From.delete line) tys c = tt
    act_has (From.leave line result) tys c = tt

    mutual
      pub code_has : (c : Code) → CodeServed Any types c → Covers table (kept_code c) → CodeServed Has types c
      code_has (From.simple steps act) f c = let r = covers_append table (kept_steps steps 0 []) (kept_act act (steps_types steps [])) c in (steps_have steps 0 [] f.0 r.0, f.1, act_has act (steps_types steps []) r.1)
      code_has (From.clear line x ty) f c = tt
      code_has (From.block codes) f c = codes_have codes f c
      code_has (From.branch steps test a b) f c =
          let r = covers_append table (kept_steps steps 0 []) (kept_code a ++ kept_code b) c in
          let q = covers_append table (kept_code a) (kept_code b) r.1 in
          (steps_have steps 0 [] f.0 r.0, f.1, code_has a f.2 q.0, code_has b f.3 q.1)
      code_has (From.loop line steps test third a) f c =
          let r = covers_append table (kept_steps steps 0 []) (kept_code third ++ kept_code a) c in
          let q = covers_append table (kept_code third) (kept_code a) r.1 in
          (steps_have steps 0 [] f.0 r.0, f.1, code_has third f.2 q.0, code_has a f.3 q.1)
      code_has (From.repeat line a steps test) f c = let r = covers_append table (kept_code a) (kept_steps steps 0 []) c in (code_has a f.0 r.0, steps_have steps 0 [] f.1 r.1, f.2)
      code_has (From.break line) f c = tt
      code_has (From.continue line) f c = tt

      pub codes_have : (cs : Codes) → CodesServed Any types cs → Covers table (kept_codes cs) → CodesServed Has types cs
      codes_have From.done f c = tt
      codes_have (From.then s rest) f c = let r = covers_append table (kept_code s) (kept_codes rest) c in (code_has s f.0 r.0, codes_have rest f.1 r.1)

  -- entering each once loses none
  entered_covers : (b : Bool) (x : Kept) (table list : List Kept) → (b ≡ true → In table x) → Covers table list → Covers (entered b x table) (x ∷ list)
  entered_covers true x table list there c = (there refl, c)
  entered_covers false x table list there c = (covers_here x table, covers_further x table list c)

  once_covers : (list : List Kept) → Covers (once equal list) list
  once_covers [] = tt
  once_covers (x ∷ list) = entered_covers (nat_lt (place_in equal (once equal list) x) (length (once equal list))) x (once equal list) list (below (place_in equal (once equal list) x) (length (once equal list))) (once_covers list)
    where
      below : (m n : ℕ) → nat_lt m n ≡ true → m < n
      below m n e = search (rules, e)

  -- the table of a body's own operands serves it
  pub body_serves : (is : (a b : Kept) → equal a b ≡ true → a ≡ b) (f : Routine) → CodeServed Any f.locals f.body → Serves f (slots_by equal (λ g. once equal (kept_code g.body)) f)
  body_serves is f fits =
      let table : Routine → List Kept = λ g. once equal (kept_code g.body) in
      table_serves equal is table f (code_has f.locals (table f) (IsThere f (slots_by equal table f)) (in_there equal is table f) f.body fits (once_covers (kept_code f.body)))
