-- Requests that store the image of a file with its proofs.
use Rattle.std.proofs.Common.{◌≡◌, ◌∙◌, ◌⊎◌, ℕ, List, Option, Some, Result, Ok, Err, refl, sym, ap, subst, arith, inl, inr}
use Rattle.std.specs.List.{AllByRecursion as Every}
use Rattle.rc_base.specs.Shelves.{ShelfState}
use Rattle.rc_claims.specs.declared.proofs.Proofs.{Proofs}
use Rattle.rc_code.specs.Soundness.{Sound}
use Rattle.rc_code.specs.declared.image.Parts.{Parts}
use Rattle.rc_core.specs.Numbers.{IsByte}
use Rattle.rc_loader.specs.Violations.{FirstViolation}
use Rattle.rc_loader.specs.declared.fault.Violation.{Violation}
use Rattle.rc_greatest_proofs.specs.Sealed.{IsPinFault, IsSealedAs}
use Rattle.rc_sealed.specs.declared.fault.ProofFault.{ProofFault}
use Rattle.rc_sealed_images.specs.Spelling.{sealing}
use Rattle.rc_answers.specs.Answers.{IsOfCode, IsOfPins}
use Rattle.rc_answers.specs.declared.answer.Done.{Done}
use Rattle.rc_answers.specs.declared.answer.Done.TheVariants.{ImageRefused}
use Rattle.rc_answers.specs.declared.answer.Fault.{Fault}
use Rattle.rc_answers.specs.declared.answer.Fault.TheVariants.{Memory}
use Rattle.rc_answers.specs.declared.image_refusal.ImageRefusal.{ImageRefusal}
use Rattle.rc_files.proofs.ImageFiles.{has_read, only_made, only_reads, some_made}
use Rattle.rc_outcomes.specs.Images.{Carried, carried_by}
use Rattle.rc_outcomes.specs.Loading.{Loaded}
use Rattle.rc_outcomes.specs.Outcome.{Comes, Outcome, Seals, answers, breaks, refusal_of_code, refusal_of_proofs, seals, stores, unsealable as cannot}
use Rattle.rc_outcomes.specs.Outside.{Outside, outside}
use Rattle.rc_outcomes.specs.Performing.{Performs}
use Rattle.rc_outcomes.specs.Storing.{MadeFile}
use Rattle.rc_outcomes.proofs.Admitting.{is_of_code}
use Rattle.rc_outcomes.proofs.Sealing.{of_pins, one_sealing}
use Rattle.rc_outcomes.proofs.Storing.{stored_bytes}
use Rattle.rc_outcomes.proofs.Ways.{fails_before, is_refused, no_memory as fails_by_memory, the_only, untouched}
use Rattle.rc_requests.specs.Request.{Request, Seal}
use Rattle.rc_driver.specs.Sealing.{Sealed, SealsOf, broken, made, no_memory, unsealable}

pub seal_row : (from to : List ℕ) → SealsOf (Some (Seal from to)) from to
seal_row from to = record {
  makes = record {
    reads = (0, omega arith, refl);
    only = λ other read. the_only from other read;
    may_refuse = λ refusal is. inl is;
    is_outcome = λ files input outcome is. is;
    outcome_is = λ files input outcome is. is;
  };
  stores = refl;
  may_write = tt;
  may_refuse = λ refusal is. inr is;
  stores_no_program = λ files files'. tt;
}

module _ (request : Option Request) (from to : List ℕ) (row : SealsOf request from to) (before : Outside) (files1 : ShelfState) (carried : Carried) (l : Loaded from before.files files1 (λ bytes. carried_by bytes ≡ Ok carried)) where
  nothing_stored : (files' : ShelfState) (result : Result Done Fault) → files' ≡ files1 → Performs request before (outside files1 before.input before.out before.err before.heap) result → Performs request before (outside files' before.input before.out before.err before.heap) result
  nothing_stored files' result same p = subst (λ (f : ShelfState). Performs request before (outside f before.input before.out before.err before.heap) result) (sym same) p

  -- what it comes to is the only thing
  comes_so : (outcome : Outcome) → Seals to carried before.input.rest outcome → (other : Outcome) → Comes request before other → other ≡ outcome
  comes_so outcome is other comes = one_sealing to carried before.input.rest other outcome (only_made request from (Seals to) row.makes before files1 (Ok carried) l other comes) is

  refuses : (refusal : ImageRefusal) → Seals to carried before.input.rest (answers (ImageRefused refusal)) → IsOfCode refusal ⊎ IsOfPins refusal → Performs request before (outside files1 before.input before.out before.err before.heap) (Ok (ImageRefused refusal))
  refuses refusal is kind =
      is_refused request before files1 before.input before.out (ImageRefused refusal) (has_read request from (Seals to) row.makes before files1 (Ok carried) l) (untouched before.input before.out) tt (row.may_refuse refusal kind)
      (some_made request from (Seals to) row.makes before files1 (Ok carried) l (answers (ImageRefused refusal)) is)
      (comes_so (answers (ImageRefused refusal)) is)

  stored_so : (bytes : List ℕ) → Seals to carried before.input.rest (stores to bytes) → (files' : ShelfState) (result : Result Done Fault) → MadeFile to bytes files1 files' result → Performs request before (outside files' before.input before.out before.err before.heap) result
  stored_so bytes is files' result m =
      stored_bytes request before files1 files' to bytes result (has_read request from (Seals to) row.makes before files1 (Ok carried) l)
      (record {
        stores_to = row.stores;
        may_write = row.may_write;
        outcome = some_made request from (Seals to) row.makes before files1 (Ok carried) l (stores to bytes) is;
        only = comes_so (stores to bytes) is;
        compiled = λ told names there. row.stores_no_program before.files.names names;
      }) m

  pub sealed_so : (files' : ShelfState) (result : Result Done Fault) → Sealed carried.image to files1 files' result → Performs request before (outside files' before.input before.out before.err before.heap) result
  sealed_so files' result (made sealed proofs answer sound is bytes m) = stored_so (sealing sealed proofs) (seals sealed proofs sound is bytes refl) files' answer m
  sealed_so files' result (broken v first same) =
      nothing_stored files' (Ok (ImageRefused (refusal_of_code v))) same (refuses (refusal_of_code v) (breaks v first refl) (inl (is_of_code v.rule v.function v.instruction)))
  sealed_so files' result (unsealable fault refusal sound is told same) =
      nothing_stored files' (Ok (ImageRefused refusal)) same (refuses refusal (cannot fault refusal sound is told refl) (inr (of_pins carried.image fault refusal is told)))
  sealed_so files' result (no_memory same) =
      nothing_stored files' (Err Memory) same (fails_before request before files1 before.input before.out Memory (only_reads request from (Seals to) row.makes before files1 (Ok carried) l) (untouched before.input before.out) (fails_by_memory l.kept))
