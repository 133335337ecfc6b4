-- The world as far as an evaluation keeps it, and what the language does to it.
use Rattle.std.specs.Prelude.{ℕ, zero, suc, ℤ, pos, negsuc, List, [], ◌∷◌, ◌++◌, length, map, Ok, Err}
use Rattle.rc_base.specs.Acts.{Act, Write, Getchar}
use Rattle.rc_core.specs.Layout.{Layout}
use Rattle.rc_core.specs.Heap.{Value, Handle, Pointer}
use Rattle.rc_core.specs.Runs.{Run, Go, Stopped, spent, Ops}
use Rattle.rc_core.specs.Source.{World}
use Rattle.rc_core.specs.Laid.{held_kind}
use Rattle.rc_values.specs.Outcomes.{Outcome, after}
use Rattle.rc_memory.specs.Kept.{KeptHeap, kept_heap, live_region, made, allocated, objects, step, load, load_all, store, deleted}

pub record KeptWorld : Type 0 where
  pub turns : ℕ
  pub input : List ℕ
  pub acts : List Act
  pub heap : KeptHeap
  pub waiting : List Value
  pub regions : ℕ
  pub blocks : ℕ

abbrev pub kept_world : World → KeptWorld
kept_world w = record { turns = w.turns; input = w.input; acts = w.acts; heap = kept_heap w.heap; waiting = w.waiting; regions = w.regions; blocks = w.blocks }

abbrev pub with_heap : KeptWorld → KeptHeap → KeptWorld
with_heap v heap = record v { heap = heap }

abbrev pub doing : KeptWorld → Act → KeptWorld
doing v act = record v { acts = v.acts ++ act ∷ [] }

abbrev pub turn_from : ℕ → KeptWorld → Run KeptWorld (Unit {0})
turn_from zero v = spent v
turn_from (suc n) v = Go tt (record v { turns = n })

abbrev pub byte_from : List ℕ → KeptWorld → Run KeptWorld ℤ
byte_from [] v = Go (negsuc 0) (doing v Getchar)
byte_from (b ∷ rest) v = Go (pos b) (record (doing v Getchar) { input = rest })

abbrev pub giving : {A : Type 0} → Outcome A → KeptWorld → Run KeptWorld A
giving (Ok x) v = Go x v
giving (Err stop) v = Stopped stop v

-- the heap becomes that of the outcome
abbrev pub leaving : {A : Type 0} → A → Outcome KeptHeap → KeptWorld → Run KeptWorld A
leaving x (Ok heap) v = Go x (with_heap v heap)
leaving x (Err stop) v = Stopped stop v

abbrev pub in_region : Outcome ℕ → (line : ℕ) → (count : ℤ) → Layout → KeptWorld → Run KeptWorld Value
in_region (Ok r) line count layout v = leaving (Pointer (record { region = r; object = length (objects v.heap r); index = 0 })) (allocated v.heap line v.blocks count (map held_kind layout) r) v
in_region (Err stop) line count layout v = Stopped stop v

abbrev pub kept : Ops KeptWorld
kept = record {
  turns_left = λ v. v.turns;
  take_turn = λ v. turn_from v.turns v;
  get_byte = λ v. byte_from v.input v;
  put_byte = λ b v. Go tt (doing v (Write b));
  new_region = λ line v. leaving (Handle (length v.heap)) (made v.heap line 0 v.regions) v;
  new_subregion = λ line r v. leaving (Handle (length v.heap)) (after (live_region v.heap line r) (λ p. made v.heap line p v.regions)) v;
  allocate = λ line r count layout v. in_region (live_region v.heap line r) line count layout v;
  step = λ line p n v. giving (step v.heap line p n) v;
  load = λ line t v. giving (load v.heap line t) v;
  store = λ line t x v. leaving tt (store v.heap line t (x ∷ [])) v;
  load_all = λ line t size v. giving (load_all v.heap line t size) v;
  store_all = λ line t vs v. leaving tt (store v.heap line t vs) v;
  delete = λ line held r v. leaving tt (deleted v.heap line (held ++ v.waiting) r) v;
  enter = λ held v. record v { waiting = held ++ v.waiting };
  leave = λ before now. record now { waiting = before.waiting };
}
