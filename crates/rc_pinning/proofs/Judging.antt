-- What tables say of an instruction's pins.
use Rattle.std.proofs.Common.{◌≡◌, ◌∙◌, ◌↔◌, ◌⊎◌, inl, inr, ℕ, suc, ◌<◌, ◌≤◌, Bool, true, false, nat_eq, ◌||◌, IsTrue, List, [], ◌∷◌, length, get_or, Option, Some, None, refl, sym, ap, subst, arith, MatchBool}
use Rattle.std.specs.List.{AllByRecursion as Every, list_any}
use Rattle.std.proofs.lemmas.Bool.{eqb-true, eq-eqb, or_cases, or_left, or_right}
use Rattle.std.proofs.lemmas.Option.{slice_get-get_or}
use Rattle.rc_base.specs.BitSets.{marks}
use Rattle.rc_code.specs.declared.opcode.Simple.TheVariants as simple
use Rattle.rc_code.specs.declared.instruction.Instruction.{Instruction}
use Rattle.rc_code.specs.declared.instruction.Instruction.TheVariants as instruction
use Rattle.rc_code.specs.declared.image.Function.{Function}
use Rattle.rc_code.specs.declared.image.Parts.{Parts}
use Rattle.rc_code.specs.Image.{FieldsFit, FunctionFits}
use Rattle.rc_code.specs.Running.{Reading, reading_of, function_at, no_function}
use Rattle.rc_code.specs.Soundness.{Sound, IsFine, Names, IsPin, ArePins, is_regional, local_in, instruction_at, ends}
use Rattle.rc_claims.specs.Counts.{regionals, trues}
use Rattle.rc_stops.specs.Rows.{row_at}
use Rattle.rc_sealed.specs.Proved.{Way}
use Rattle.rc_sealed.specs.Pinned.{Used, got, on, UsedAfter, PinsAll, PinsWhat}
use Rattle.rc_sealed.specs.Faults.{IsWide}
use Rattle.rc_deleters.specs.declared.deleters.Deleters.{Deleters}
use Rattle.rc_deleters.specs.Calls.{TellsDeleters}
use Rattle.rc_pinning.specs.declared.tables.Tables.{Tables}
use Rattle.rc_pinning.specs.Stops.{number_of, NamesLocals, HasStops, IsNumberIn}
use Rattle.rc_pinning.specs.Tables.{IsKnown, IsReady, may_delete, where_so, pins_of, CallsWithin, has_number, PinsByTables}
use Rattle.rc_pinning.proofs.Telling.{trues_less, one_number}
use Rattle.rc_pinning.proofs.Fitting.{every_at, has_stops}

-- ---- a function of an image

pub function_fits : (parts : Parts) → FieldsFit parts → (g : ℕ) → g < length parts.functions → FunctionFits (length parts.types) (function_at (reading_of parts) g)
function_fits parts fields g there = every_at (FunctionFits (length parts.types)) parts.functions no_function fields.functions g there

order : (a b : ℕ) → (a < b) ⊎ ((a ≡ b) ⊎ (b < a))
order a b = grind arith

pub few : (parts : Parts) (g : ℕ) → (IsWide parts g → ⊥) → trues (regionals (function_at (reading_of parts) g)) (length (function_at (reading_of parts) g).locals) ≤ 128
few parts g narrow = by (order 128 (trues (regionals (function_at (reading_of parts) g)) (length (function_at (reading_of parts) g).locals)))
  where
    by : (128 < trues (regionals (function_at (reading_of parts) g)) (length (function_at (reading_of parts) g).locals)) ⊎ ((128 ≡ trues (regionals (function_at (reading_of parts) g)) (length (function_at (reading_of parts) g).locals)) ⊎ (trues (regionals (function_at (reading_of parts) g)) (length (function_at (reading_of parts) g).locals) < 128))
        → trues (regionals (function_at (reading_of parts) g)) (length (function_at (reading_of parts) g).locals) ≤ 128
    by (inl l) = absurd (narrow (omega (arith, l)))
    by (inr (inl e)) = omega (arith, e)
    by (inr (inr l)) = omega (arith, l)

pub fine_at : (parts : Parts) → Sound parts → (g : ℕ) → g < length parts.functions → (at : ℕ) → at < length (function_at (reading_of parts) g).code → IsFine true (reading_of parts) (function_at (reading_of parts) g) at (instruction_at (function_at (reading_of parts) g) at)
fine_at parts sound g there at inside =
    (sound.functions g there).fine at (instruction_at (function_at (reading_of parts) g) at) (slice_get-get_or (function_at (reading_of parts) g).code at (instruction.Simple simple.Return) inside)

apart : {b : Bool} {P : Type 0} → b ≡ true → b ≡ false → P
apart p q = let e : true ≡ false = sym p ∙ q in cc

-- ---- numbers of pins

module _ (f : Function) (numbers : List ℕ) (each : (x : ℕ) → x < length f.locals → get_or numbers x 0 ≡ number_of f x) (x : ℕ) (there : x < length f.locals) where
  pub pin_numbered : (pins : List ℕ) → list_any (nat_eq x) pins ≡ true → has_number numbers pins (number_of f x) ≡ true
  pin_numbered [] e = cc
  pin_numbered (y ∷ pins) e = by (pin_numbered pins) (or_cases (nat_eq x y) (list_any (nat_eq x) pins) e)
    where
      by : (list_any (nat_eq x) pins ≡ true → has_number numbers pins (number_of f x) ≡ true) → (nat_eq x y ≡ true) ⊎ (list_any (nat_eq x) pins ≡ true) → (nat_eq (number_of f x) (get_or numbers y 0) || has_number numbers pins (number_of f x)) ≡ true
      by more (inl q) = or_left (nat_eq (number_of f x) (get_or numbers y 0)) _ (eq-eqb (number_of f x) (get_or numbers y 0) (sym (each x there) ∙ ap (λ z. get_or numbers z 0) (eqb-true x y q)))
      by more (inr q) = or_right (nat_eq (number_of f x) (get_or numbers y 0)) (has_number numbers pins (number_of f x)) (more q)

  pub pin_found : is_regional (local_in f x) ≡ true → (pins : List ℕ) → Every (IsPin f) pins → has_number numbers pins (number_of f x) ≡ true → list_any (nat_eq x) pins ≡ true
  pin_found regional [] all e = cc
  pin_found regional (y ∷ pins) all e = by (pin_found regional pins all.1) (or_cases (nat_eq (number_of f x) (get_or numbers y 0)) (has_number numbers pins (number_of f x)) e)
    where
      by : (has_number numbers pins (number_of f x) ≡ true → list_any (nat_eq x) pins ≡ true) → (nat_eq (number_of f x) (get_or numbers y 0) ≡ true) ⊎ (has_number numbers pins (number_of f x) ≡ true) → (nat_eq x y || list_any (nat_eq x) pins) ≡ true
      by more (inl q) = or_left (nat_eq x y) _ (eq-eqb x y (one_number f x y there all.0.0 regional all.0.1 (eqb-true (number_of f x) (get_or numbers y 0) q ∙ each y all.0.0)))
      by more (inr q) = or_right (nat_eq x y) (list_any (nat_eq x) pins) (more q)

pub used_there : (f : Function) → ((at : ℕ) → NamesLocals f (instruction_at f at)) → (x : ℕ) {at : ℕ} → Used f x at → x < length f.locals
used_there f names x (got {at} is) = subst (NamesLocals f) is (names at)
used_there f names x (on unset way used) = used_there f names x used

-- ---- an instruction

module _ (parts : Parts) (g : ℕ) (deleters : Deleters) (told : TellsDeleters parts deleters) where
  pub calls_within : (i : Instruction) → Names true (reading_of parts) (function_at (reading_of parts) g) i → CallsWithin deleters i
  calls_within (instruction.Call h pins) names = told.there h names.0
  calls_within i names = tt

  -- of one that has to pin
  pub record Asked (at : ℕ) (i : Instruction) (pins : List ℕ) : Type 0 where
    pub falls : (to : ℕ) → Way i at to → to ≡ suc at
    pub leads : Way i at (suc at)
    pub goes : ends i ≡ false
    pub are : ArePins (function_at (reading_of parts) g) pins
    pub what : PinsWhat (reading_of parts) g at i ↔ PinsAll (reading_of parts) (function_at (reading_of parts) g) at pins

  abbrev pub Judged : (at : ℕ) → Instruction → Option (List ℕ) → Type 0
  Judged at i None = PinsWhat (reading_of parts) g at i
  Judged at i (Some pins) = Asked at i pins

  pub judged : (at : ℕ) (i : Instruction) → Names true (reading_of parts) (function_at (reading_of parts) g) i → Judged at i (pins_of deleters i)
  judged at (instruction.Delete pins) names = record { falls = λ to e. e; leads = refl; goes = refl; are = names; what = (λ p. p, λ p. p) }
  judged at (instruction.Call h pins) names = by (may_delete deleters h) refl
    where
      by : (b : Bool) → may_delete deleters h ≡ b → Judged at (instruction.Call h pins) (where_so b pins)
      by true e = record { falls = λ to e. e; leads = refl; goes = refl; are = names.1; what = (λ p. p ((told.told h names.0).0 e), λ p m. p) }
      by false e = λ m. apart ((told.told h names.0).1 m) e
  judged at i names = tt

module _ (parts : Parts) (g : ℕ) (deleters : Deleters) (known : IsKnown parts g deleters) (at : ℕ) (inside : at < length (function_at (reading_of parts) g).code) (i : Instruction) (is : i ≡ instruction_at (function_at (reading_of parts) g) at) where
  names_here : Names true (reading_of parts) (function_at (reading_of parts) g) (instruction_at (function_at (reading_of parts) g) at)
  names_here = (fine_at parts known.sound g known.there at inside).names

  pub calls_here : CallsWithin deleters i
  calls_here = subst (CallsWithin deleters) (sym is) (calls_within parts g deleters known.deleters (instruction_at (function_at (reading_of parts) g) at) names_here)

  pub judged_here : (found : Option (List ℕ)) → pins_of deleters i ≡ found → Judged parts g deleters known.deleters at (instruction_at (function_at (reading_of parts) g) at) found
  judged_here found e = subst (Judged parts g deleters known.deleters at (instruction_at (function_at (reading_of parts) g) at)) (ap (pins_of deleters) (sym is) ∙ e) (judged parts g deleters known.deleters at (instruction_at (function_at (reading_of parts) g) at) names_here)

  pub not_asked : pins_of deleters i ≡ None → PinsWhat (reading_of parts) g at (instruction_at (function_at (reading_of parts) g) at)
  not_asked e = judged_here None e

  pub asked_here : (pins : List ℕ) → pins_of deleters i ≡ Some pins → Asked parts g deleters known.deleters at (instruction_at (function_at (reading_of parts) g) at) pins
  asked_here pins e = judged_here (Some pins) e

abbrev pub known_of : {parts : Parts} {g : ℕ} {deleters : Deleters} {tables : Tables} → IsReady parts g deleters tables → IsKnown parts g deleters
known_of ready = record { sound = ready.sound; there = ready.there; deleters = ready.deleters }

-- ---- its tables

module _ (parts : Parts) (g : ℕ) (deleters : Deleters) (tables : Tables) (ready : IsReady parts g deleters tables) where
  abbrev image : Reading
  image = reading_of parts

  abbrev f : Function
  f = function_at image g

  module _ (at : ℕ) (inside : at < length f.code) (pins : List ℕ) (asked : Asked parts g deleters ready.deleters at (instruction_at f at) pins) where
    pub next_inside : suc at < length f.code
    next_inside = by (order (suc at) (length f.code))
      where
        by : (suc at < length f.code) ⊎ ((suc at ≡ length f.code) ⊎ (length f.code < suc at)) → suc at < length f.code
        by (inl l) = l
        by (inr (inl e)) = apart ((ready.sound.functions g ready.there).last at (instruction_at f at) (slice_get-get_or f.code at (instruction.Simple simple.Return) inside) e) asked.goes
        by (inr (inr l)) = absurd (omega (arith, l, inside))

    pub small_number : (k : ℕ) → k < length pins → get_or tables.numbers.items (get_or pins k 0) 0 < 128
    small_number k lt =
        let pin = every_at (IsPin f) pins 0 asked.are.each k lt in
        let is = ready.tables.numbers.each (get_or pins k 0) pin.0 in
        let less = trues_less f.locals (get_or pins k 0) pin.0 pin.1 (length f.locals) pin.0 in
        let most = few parts g ready.narrow in
        omega (arith, is, less, most)

    stops : HasStops f
    stops = has_stops parts ready.fields ready.sound g ready.there (few parts g ready.narrow)

    all_pinned : PinsByTables tables at pins → PinsAll image f at pins
    all_pinned told = record { locals = each; below = (ready.tables.above.each at inside).0 told.above }
      where
        used : (x : ℕ) → is_regional (local_in f x) ≡ true → Used f x (suc at) → list_any (nat_eq x) pins ≡ true
        used x regional u =
            let there = used_there f stops.names x u in
            pin_found f tables.numbers.items ready.tables.numbers.each x there regional pins asked.are.each (told.used (number_of f x) ((ready.tables.rows.each x there regional (suc at) next_inside).1 u))

        each : (x : ℕ) → is_regional (local_in f x) ≡ true → UsedAfter f x at → list_any (nat_eq x) pins ≡ true
        each x regional after = used x regional (subst (Used f x) (asked.falls after.to after.way) after.used)

    told_by_tables : PinsAll image f at pins → PinsByTables tables at pins
    told_by_tables all = record { above = (ready.tables.above.each at inside).1 all.below; used = λ n m. by n m (ready.tables.rows.only (suc at) n next_inside m) }
      where
        by : (n : ℕ) → IsTrue (marks (row_at tables.rows.items (suc at)) n) → IsNumberIn f n → IsTrue (has_number tables.numbers.items pins n)
        by n m one =
            let used = (ready.tables.rows.each one.local one.there one.regional (suc at) next_inside).0 (subst (λ k. IsTrue (marks (row_at tables.rows.items (suc at)) k)) (sym one.is) m) in
            subst (λ k. IsTrue (has_number tables.numbers.items pins k)) one.is
            (pin_numbered f tables.numbers.items ready.tables.numbers.each one.local one.there pins (all.locals one.local one.regional (record { to = suc at; way = asked.leads; used = used })))

    pub pins_told : (b : Bool) → MatchBool b (PinsByTables tables at pins) (PinsByTables tables at pins → ⊥) → MatchBool b (PinsWhat image g at (instruction_at f at)) (PinsWhat image g at (instruction_at f at) → ⊥)
    pins_told true told = asked.what.1 (all_pinned told)
    pins_told false not = λ what. not (told_by_tables (asked.what.0 what))
