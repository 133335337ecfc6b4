-- A function's code is such as the loader asks for.
use Rattle.std.proofs.Common.{◌≡◌, ℕ, ◌+◌, Bool, List, [], ◌∷◌, ◌++◌, length, Option, Some, None, refl, sym, subst, arith, append_assoc}
use Rattle.rc_core.specs.Types.{Ty, int, unsigned, char, region, struct, pointer}
use Rattle.rc_core.specs.Live.{at_end}
use Rattle.rc_rlang.specs.RegionCode.{Routine}
use Rattle.rc_emission.specs.StackCode.{Line}
use Rattle.rc_emission.specs.OperationCode.{line_of}
use Rattle.rc_emission.specs.StatementCode.{Place, Slots, code_lines, end_lines, body_lines, zero_code}
use Rattle.rc_emission.specs.Served.{CodeServed}
use Rattle.rc_stack_rules.specs.LoaderRules.{local_kind, Lands, IsLoadable}
use Rattle.rc_rlang.specs.RegionKinds.{kind_ty, CodeKinded}
use Rattle.rc_stack_rules.proofs.SoundSteps.{S, L, sound_append, lands_append, lands_mono, code_final, code_sound}
use Rattle.rc_stack_rules.proofs.SoundOperations.{set_loads}
use Rattle.rc_stack_rules.proofs.SoundActs.{act_loads}
use Rattle.rc_emission.specs.StackCode as To

module _ (global_ty result_ty : ℕ → Ty) (slots : Routine → Slots) (deleting : ℕ → Bool) (f : Routine) (Has : ℕ → Ty → Type 0)
    (slot_kind : (h : ℕ) (ty : Ty) → Has h ty → local_kind (f.locals ++ (slots f).types) global_ty result_ty ((slots f).slot h ty) ≡ kind_ty ty) where
  abbrev pub code : List Line
  code = body_lines (slots f).slot deleting f

  abbrev locals : List Ty
  locals = f.locals ++ (slots f).types

  abbrev mark : ℕ → Type 0
  mark n = Lands locals global_ty result_ty (λ m. ⊥) code [] n

  abbrev start : Place
  start = record { at = 0; out = 0; on = 0 }

  abbrev body : List Line
  body = code_lines (slots f).slot deleting f.locals f.body at_end start

  abbrev last : Option Ty → List Line
  last result = end_lines (slots f).slot deleting f.locals result f.line

  end_sound : (result : Option Ty) (ok : ℕ → Type 0) (place : ℕ) → S locals global_ty result_ty mark ok place (last result) [] []
  end_sound None ok place = (([], refl), refl, refl)
  end_sound (Some int) ok place = (([], refl), tt, (([], refl), refl, refl))
  end_sound (Some unsigned) ok place = (([], refl), tt, (([], refl), refl, refl))
  end_sound (Some char) ok place = (([], refl), tt, (([], refl), refl, refl))
  end_sound (Some region) ok place = (([], refl), tt, (([], refl), refl, refl))
  end_sound (Some (struct k)) ok place = (([], refl), tt, (([], refl), refl, refl))
  end_sound (Some (pointer note target)) ok place = (([], refl), tt, (([], refl), refl, refl))

  lands_last : (result : Option Ty) → L locals global_ty result_ty mark (λ m. ⊥) (last result) [] 0
  lands_last None = refl
  lands_last (Some ty) = refl

  pub loaded : CodeServed Has f.locals f.body →
      CodeKinded locals global_ty result_ty f.body →
      IsLoadable locals global_ty result_ty code
  loaded fits loads =
      let z = lands_last f.result in
      let fb = code_final locals global_ty result_ty mark f.locals (slots f).slot deleting Has slot_kind (set_loads locals global_ty result_ty mark f.locals (slots f).slot deleting Has slot_kind) (act_loads locals global_ty result_ty mark f.locals (slots f).slot deleting Has slot_kind) f.body fits loads at_end start in
      let marks : (n : ℕ) → L locals global_ty result_ty mark (λ m. ⊥) body [] n → mark n = λ n l. lands_append locals global_ty result_ty mark (λ m. ⊥) body (last f.result) [] [] n fb (lands_mono locals global_ty result_ty mark (λ m. ⊥) (λ m. L locals global_ty result_ty mark (λ j. ⊥) (last f.result) [] m) (λ m x. absurd x) body [] n l) in
      let sb = code_sound locals global_ty result_ty mark f.locals (slots f).slot deleting Has slot_kind (set_loads locals global_ty result_ty mark f.locals (slots f).slot deleting Has slot_kind) (act_loads locals global_ty result_ty mark f.locals (slots f).slot deleting Has slot_kind) f.body fits loads at_end start (λ m. L locals global_ty result_ty mark (λ j. ⊥) (last f.result) [] m) z z z
      (λ n l. subst mark (let e : n ≡ 0 + n = omega arith in e) (marks n l)) in
      sound_append locals global_ty result_ty mark (λ m. ⊥) 0 (0 + length body) body (last f.result) [] [] [] refl sb (end_sound f.result (λ m. ⊥) (0 + length body))

  -- the last instruction is a return
  pub ends_in_a_return : (result : Option Ty) → (before : List Line) × (values : List Ty) × (body ++ last result ≡ before ++ line_of f.line (To.leave values) ∷ [])
  ends_in_a_return None = (body, [], refl)
  ends_in_a_return (Some ty) = (body ++ line_of f.line (zero_code ty) ∷ [], ty ∷ [], sym (append_assoc body (line_of f.line (zero_code ty) ∷ []) (line_of f.line (To.leave (ty ∷ [])) ∷ [])))
