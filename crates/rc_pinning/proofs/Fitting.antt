-- Functions of a sound image have stops.
use Rattle.std.proofs.Common.{◌≡◌, ℕ, zero, suc, ◌<◌, ◌≤◌, Bool, true, false, IsTrue, List, [], ◌∷◌, length, map, get_or, None, refl, sym, ap, ◌∙◌, ◌↔◌, subst, inl, inr, ◌⊎◌, arith}
use Rattle.std.specs.Prelude.{IfSome}
use Rattle.std.specs.List.{AllByRecursion as Every}
use Rattle.std.proofs.lemmas.List.{length-map}
use Rattle.std.proofs.lemmas.Option.{slice_get-get_or}
use Rattle.rc_code.specs.declared.opcode.Simple.TheVariants as simple
use Rattle.rc_code.specs.declared.opcode.Jump.TheVariants as jump
use Rattle.rc_code.specs.declared.instruction.Instruction.{Instruction}
use Rattle.rc_code.specs.declared.instruction.Instruction.TheVariants as instruction
use Rattle.rc_code.specs.declared.image.Function.{Function}
use Rattle.rc_code.specs.declared.image.Parts.{Parts}
use Rattle.rc_code.specs.Image.{FieldsFit, FunctionFits}
use Rattle.rc_code.specs.Running.{Reading, reading_of, function_at, no_function}
use Rattle.rc_code.specs.Soundness.{Sound, FunctionIsSound, Names, Targets, ends, is_regional, local_in, instruction_at}
use Rattle.rc_claims.specs.Counts.{regionals, trues}
use Rattle.rc_base.specs.BitSets.{marks}
use Rattle.rc_stops.specs.declared.stop.Stop.{Stop}
use Rattle.rc_stops.specs.Paths.{stop_at, UsedOn}
use Rattle.rc_stops.specs.Rows.{row_at, StopFits, AllFit}
use Rattle.rc_sealed.specs.Carrying.{when}
use Rattle.rc_pinning.specs.Stops.{number_of, numbered, stop_in, NamesLocals, HasStops, TellsUsed}
use Rattle.rc_pinning.proofs.Telling.{trues_less, map_at, used_told, used_number}

order : (a b : ℕ) → (a < b) ⊎ ((a ≡ b) ⊎ (b < a))
order a b = grind arith

pub every_at : {A : Type 0} (P : A → Type 0) (xs : List A) (d : A) → Every P xs → (i : ℕ) → i < length xs → P (get_or xs i d)
every_at P [] d all i lt = absurd (omega (arith, lt))
every_at P (x ∷ xs) d all zero lt = all.0
every_at P (x ∷ xs) d all (suc i) lt = every_at P xs d all.1 i (omega (arith, lt))

beyond : (code : List Instruction) (at : ℕ) → length code ≤ at → get_or code at (instruction.Simple simple.Return) ≡ instruction.Simple simple.Return
beyond [] at le = refl
beyond (i ∷ code) zero le = absurd (omega (arith, le))
beyond (i ∷ code) (suc at) le = beyond code at (omega (arith, le))

names_locals : (image : Reading) (f : Function) (i : Instruction) → Names true image f i → NamesLocals f i
names_locals image f (instruction.Get x) n = n
names_locals image f (instruction.Set x) n = n
names_locals image f i n = tt

module _ (image : Reading) (f : Function) (sound : FunctionIsSound true image f) (few : trues (regionals f) (length f.locals) ≤ 128) where
  names_at : (at : ℕ) → NamesLocals f (instruction_at f at)
  names_at at = by (order at (length f.code))
    where
      outside : length f.code ≤ at → NamesLocals f (instruction_at f at)
      outside le = subst (NamesLocals f) (sym (beyond f.code at le)) tt

      by : (at < length f.code) ⊎ ((at ≡ length f.code) ⊎ (length f.code < at)) → NamesLocals f (instruction_at f at)
      by (inl lt) = names_locals image f (instruction_at f at) (sound.fine at (instruction_at f at) (slice_get-get_or f.code at (instruction.Simple simple.Return) lt)).names
      by (inr (inl e)) = outside (omega (arith, e))
      by (inr (inr l)) = outside (omega (arith, l))

  small : (x : ℕ) → x < length f.locals → IfSome (numbered f x) (λ n. n < 128)
  small x lt = by (is_regional (local_in f x)) refl
    where
      by : (b : Bool) → is_regional (local_in f x) ≡ b → IfSome (when b (number_of f x)) (λ n. n < 128)
      by true e = let l = trues_less f.locals x lt e (length f.locals) lt in omega (arith, l, few)
      by false e = tt

  goes_on : (b : Bool) (at : ℕ) → at < length f.code → (suc at ≡ length f.code → b ≡ true) → b ≡ false → suc at < length f.code
  goes_on b at lt last e = by (order (suc at) (length f.code))
    where
      both : b ≡ true → ⊥
      both t = let c : true ≡ false = sym t ∙ e in cc

      by : (suc at < length f.code) ⊎ ((suc at ≡ length f.code) ⊎ (length f.code < suc at)) → suc at < length f.code
      by (inl l) = l
      by (inr (inl q)) = absurd (both (last q))
      by (inr (inr l)) = absurd (omega (arith, l, lt))

  not_true : IsTrue false → ⊥
  not_true e = cc

  fits_by : (at : ℕ) (i : Instruction) → at < length f.code → NamesLocals f i → Targets image f at i → (suc at ≡ length f.code → ends i ≡ true) → StopFits (length f.code) at (stop_in f i)
  fits_by at (instruction.Get x) lt n t last = record { gets = small x n; sets = tt; falls = λ e. goes_on false at lt last refl; leads = tt }
  fits_by at (instruction.Set x) lt n t last = record { gets = tt; sets = small x n; falls = λ e. goes_on false at lt last refl; leads = tt }
  fits_by at (instruction.Jump jump.Always to) lt n t last = record { gets = tt; sets = tt; falls = λ e. absurd (not_true e); leads = t.1 }
  fits_by at (instruction.Jump jump.IfZero to) lt n t last = record { gets = tt; sets = tt; falls = λ e. goes_on false at lt last refl; leads = t.1 }
  fits_by at (instruction.Jump jump.Back to) lt n t last = record { gets = tt; sets = tt; falls = λ e. absurd (not_true e); leads = t.1 }
  fits_by at (instruction.Simple s) lt n t last = by s last
    where
      falling : (s : _) → stop_in f (instruction.Simple s) ≡ record { gets = None; sets = None; falls = true; leads = None } → (suc at ≡ length f.code → false ≡ true) → StopFits (length f.code) at (stop_in f (instruction.Simple s))
      falling s e last = subst (StopFits (length f.code) at) (sym e) (record { gets = tt; sets = tt; falls = λ e. goes_on false at lt last refl; leads = tt })

      by : (s : _) → (suc at ≡ length f.code → ends (instruction.Simple s) ≡ true) → StopFits (length f.code) at (stop_in f (instruction.Simple s))
      by simple.Return last = record { gets = tt; sets = tt; falls = λ e. absurd (not_true e); leads = tt }
      by simple.NullRegion last = falling simple.NullRegion refl last
      by simple.SameRegion last = falling simple.SameRegion refl last
      by simple.IsZero last = falling simple.IsZero refl last
      by simple.IsNullRegion last = falling simple.IsNullRegion refl last
      by simple.ToInt last = falling simple.ToInt refl last
      by simple.ToUnsigned last = falling simple.ToUnsigned refl last
      by simple.ToChar last = falling simple.ToChar refl last
      by simple.NewRegion last = falling simple.NewRegion refl last
      by simple.NewSubregion last = falling simple.NewSubregion refl last
      by simple.PutChar last = falling simple.PutChar refl last
      by simple.GetChar last = falling simple.GetChar refl last
      by simple.Pop last = falling simple.Pop refl last
  fits_by at (instruction.Call h pins) lt n t last = record { gets = tt; sets = tt; falls = λ e. goes_on false at lt last refl; leads = tt }
  fits_by at (instruction.Constant s v) lt n t last = record { gets = tt; sets = tt; falls = λ e. goes_on false at lt last refl; leads = tt }
  fits_by at (instruction.Global g) lt n t last = record { gets = tt; sets = tt; falls = λ e. goes_on false at lt last refl; leads = tt }
  fits_by at (instruction.Load p) lt n t last = record { gets = tt; sets = tt; falls = λ e. goes_on false at lt last refl; leads = tt }
  fits_by at (instruction.Typed r y) lt n t last = record { gets = tt; sets = tt; falls = λ e. goes_on false at lt last refl; leads = tt }
  fits_by at (instruction.Arithmetic a s) lt n t last = record { gets = tt; sets = tt; falls = λ e. goes_on false at lt last refl; leads = tt }
  fits_by at (instruction.Move y s d) lt n t last = record { gets = tt; sets = tt; falls = λ e. goes_on false at lt last refl; leads = tt }
  fits_by at (instruction.Store p b) lt n t last = record { gets = tt; sets = tt; falls = λ e. goes_on false at lt last refl; leads = tt }
  fits_by at (instruction.Delete pins) lt n t last = record { gets = tt; sets = tt; falls = λ e. goes_on false at lt last refl; leads = tt }

  all_fit : AllFit (map (stop_in f) f.code)
  all_fit at below =
      let e : length (map (stop_in f) f.code) ≡ length f.code = length-map f.code (stop_in f) in
      let lt : at < length f.code = omega (arith, below, e) in
      let there = slice_get-get_or f.code at (instruction.Simple simple.Return) lt in
      let fine = sound.fine at (instruction_at f at) there in
      subst (λ n. StopFits n at (stop_at (map (stop_in f) f.code) at)) (sym e) (subst (StopFits (length f.code) at) (sym (map_at f f.code at lt))
      (fits_by at (instruction_at f at) lt (names_locals image f (instruction_at f at) fine.names) fine.targets (sound.last at (instruction_at f at) there)))

pub has_stops : (parts : Parts) → FieldsFit parts → Sound parts → (g : ℕ) → g < length parts.functions → trues (regionals (function_at (reading_of parts) g)) (length (function_at (reading_of parts) g).locals) ≤ 128 → HasStops (function_at (reading_of parts) g)
has_stops parts fields sound g there few = record {
  count = (every_at (FunctionFits (length parts.types)) parts.functions no_function fields.functions g there).count;
  names = names_at (reading_of parts) (function_at (reading_of parts) g) (sound.functions g there) few;
  fits = all_fit (reading_of parts) (function_at (reading_of parts) g) (sound.functions g there) few;
}

-- ---- rows of a function's stops

pub tells_used : (f : Function) → HasStops f → (stops : List Stop) (rows : List ℕ) → stops ≡ map (stop_in f) f.code → length rows ≡ length stops → ((at x : ℕ) → at < length stops → IsTrue (marks (row_at rows at) x) ↔ UsedOn stops x at) → TellsUsed f rows
tells_used f has stops rows is long used = record {
  long = long ∙ size;
  only = λ at n lt m. used_number f n has.names (subst (λ (ss : List Stop). UsedOn ss n at) is ((used at n (omega (arith, lt, size))).0 m));
  each = λ x there regional at lt.
      let u = used at (number_of f x) (omega (arith, lt, size)) in
      let t = used_told f has.names x there regional at in (
        λ m. t.0 (subst (λ (ss : List Stop). UsedOn ss (number_of f x) at) is (u.0 m)),
        λ m. u.1 (subst (λ (ss : List Stop). UsedOn ss (number_of f x) at) (sym is) (t.1 m)),
      );
}
  where
    size : length stops ≡ length f.code
    size = ap length is ∙ length-map f.code (stop_in f)
