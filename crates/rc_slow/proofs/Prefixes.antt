-- What a run does is done behind the acts that were done before it.
use Rattle.std.proofs.Common.{◌≡◌, ℕ, zero, suc, ℤ, pos, negsuc, List, [], ◌∷◌, Ok, Err, refl, sym, ap, append_assoc}
use Rattle.rc_base.specs.Acts.{Act, Write, Getchar}
use Rattle.rc_core.specs.Layout.{Layout}
use Rattle.rc_core.specs.Runs.{Go}
use Rattle.rc_values.specs.Outcomes.{Outcome}
use Rattle.rc_memory.specs.Change.{mapped, Agree}
use Rattle.rc_memory.specs.Kept.{KeptHeap, live_region, load, load_all, step}
use Rattle.rc_memory.specs.KeptWorld.{KeptWorld, kept, giving, leaving, turn_from, byte_from, doing, in_region}
use Rattle.rc_slow.specs.Prefix.{behind_acts}

turn_behind : (acts : List Act) (n : ℕ) (w : KeptWorld) → mapped (behind_acts acts) (turn_from n w) ≡ turn_from n (behind_acts acts w)
turn_behind acts zero w = refl
turn_behind acts (suc n) w = refl

act_behind : (acts : List Act) (act : Act) (w : KeptWorld) → behind_acts acts (doing w act) ≡ doing (behind_acts acts w) act
act_behind acts act w = ap (λ all. let v : KeptWorld = record w { acts = all } in v) (sym (append_assoc acts w.acts (act ∷ [])))

byte_behind : (acts : List Act) (bytes : List ℕ) (w : KeptWorld) → mapped (behind_acts acts) (byte_from bytes w) ≡ byte_from bytes (behind_acts acts w)
byte_behind acts [] w = ap (Go (negsuc 0)) (act_behind acts Getchar w)
byte_behind acts (b ∷ rest) w = ap (λ (v : KeptWorld). Go (pos b) (record v { input = rest })) (act_behind acts Getchar w)

giving_behind : {A : Type 0} (acts : List Act) (o : Outcome A) (w : KeptWorld) → mapped (behind_acts acts) (giving o w) ≡ giving o (behind_acts acts w)
giving_behind acts (Ok x) w = refl
giving_behind acts (Err stop) w = refl

leaving_behind : {A : Type 0} (acts : List Act) (x : A) (o : Outcome KeptHeap) (w : KeptWorld) → mapped (behind_acts acts) (leaving x o w) ≡ leaving x o (behind_acts acts w)
leaving_behind acts x (Ok heap) w = refl
leaving_behind acts x (Err stop) w = refl

region_behind : (acts : List Act) (o : Outcome ℕ) (line : ℕ) (count : ℤ) (layout : Layout) (w : KeptWorld) → mapped (behind_acts acts) (in_region o line count layout w) ≡ in_region o line count layout (behind_acts acts w)
region_behind acts (Ok r) line count layout w = leaving_behind acts _ _ w
region_behind acts (Err stop) line count layout w = refl

pub acts_agree : (acts : List Act) → Agree (behind_acts acts) kept kept
acts_agree acts = record {
  turns_left = λ w. refl;
  take_turn = λ w. turn_behind acts w.turns w;
  get_byte = λ w. byte_behind acts w.input w;
  put_byte = λ byte w. ap (Go tt) (act_behind acts (Write byte) w);
  new_region = λ line w. leaving_behind acts _ _ w;
  new_subregion = λ line v w. leaving_behind acts _ _ w;
  allocate = λ line v count layout w. region_behind acts (live_region w.heap line v) line count layout w;
  step = λ line v n w. giving_behind acts (step w.heap line v n) w;
  load = λ line t w. giving_behind acts (load w.heap line t) w;
  store = λ line t v w. leaving_behind acts tt _ w;
  load_all = λ line t size w. giving_behind acts (load_all w.heap line t size) w;
  store_all = λ line t vs w. leaving_behind acts tt _ w;
  delete = λ line held v w. leaving_behind acts tt _ w;
  enter = λ held w. refl;
  leave = λ before now. refl;
}
