-- Requests that store the image of a file's program.
use Rattle.std.proofs.Common.{◌≡◌, ◌∙◌, ℕ, List, Option, Some, Result, Ok, Err, IsTrue, refl, sym, ap, subst}
use Rattle.rc_base.specs.Shelves.{Names, ShelfState}
use Rattle.rc_compile.specs.Acceptance.{Accepted}
use Rattle.rc_compile.specs.Answers.{IsOnlyProgram, IsOnlyRefusal}
use Rattle.rc_core.specs.Programs.{Program}
use Rattle.rc_code.specs.declared.image.Parts.{Parts}
use Rattle.rc_image.specs.Spelling.{spelling}
use Rattle.rc_image.specs.declared.version.Version.TheVariants.{Two}
use Rattle.rc_unchecked.specs.Images.{HasImage}
use Rattle.rc_unchecked.proofs.Compiled.{one_image}
use Rattle.rc_answers.specs.declared.answer.Done.{Done}
use Rattle.rc_answers.specs.declared.answer.Done.TheVariants.{Refused}
use Rattle.rc_answers.specs.declared.answer.Fault.{Fault}
use Rattle.rc_answers.specs.declared.answer.Fault.TheVariants.{Memory}
use Rattle.rc_outcomes.specs.Loading.{Loaded}
use Rattle.rc_outcomes.specs.Outcome.{Compiles, OfText, accepts, as_they_are, stores}
use Rattle.rc_outcomes.specs.Outside.{Outside, outside}
use Rattle.rc_outcomes.specs.Performing.{Performs}
use Rattle.rc_outcomes.specs.StoredPrograms.{StoresProgram}
use Rattle.rc_outcomes.proofs.Storing.{stored_bytes}
use Rattle.rc_outcomes.proofs.Ways.{same_text, untouched}
use Rattle.rc_requests.specs.Request.{Request}
use Rattle.rc_files.proofs.TextFiles.{has_read, made_so, no_memory_then, only_made, refused_text, some_made}
use Rattle.rc_driver.specs.Compiling.{CompiledText, CompilesOf, made, no_memory, refused}

module _ (request : Option Request) (from to : List ℕ) (row : CompilesOf request from to) (before : Outside) (files1 : ShelfState) (text : List ℕ) (l : Loaded from before.files files1 (λ bytes. bytes ≡ text)) where
  nothing_stored : (files' : ShelfState) (result : Result Done Fault) → files' ≡ files1 → Performs request before (outside files1 before.input before.out before.err before.heap) result → Performs request before (outside files' before.input before.out before.err before.heap) result
  nothing_stored files' result same p = subst (λ (f : ShelfState). Performs request before (outside f before.input before.out before.err before.heap) result) (sym same) p

  -- what was stored is the image of each program that the text is, of which there is one
  under : (files' : Names) (program : Program) (image : Parts) → IsOnlyProgram text program → HasImage program image → files' to ≡ Some (spelling Two image) → IsTrue before.files.tells → StoresProgram request before.files.names files'
  under files' program image only has there told =
      let file = l.holds told in
      row.stores_program before.files.names files' (λ found other is accepted. (
      let same = same_text before.files.names from found text is (file.1 ∙ ap Some file.2) in
      record { image = image; has = subst (λ (p : Program). HasImage p image) (sym (only.only other (subst (λ (t : List ℕ). Accepted t other) same accepted))) has; there = there }))

  pub compiled : (files' : ShelfState) (result : Result Done Fault) → CompiledText text to files1 files' result → Performs request before (outside files' before.input before.out before.err before.heap) result
  compiled files' result (made program image answer only has m) =
      let bytes = spelling Two image in
      stored_bytes request before files1 files' to bytes answer (has_read request from as_they_are (Compiles to) row.text before files1 (λ b. b ≡ text) l)
      (record {
        stores_to = row.stores;
        may_write = row.may_write;
        outcome = λ told. some_made request from as_they_are (Compiles to) row.text before files1 (λ b. b ≡ text) l (stores to bytes) (λ b is. subst (λ (t : List ℕ). OfText (Compiles to before.input.rest) t (stores to bytes)) (sym is) (accepts program only.accepted (record { image = image; compiled = has.compiled; comes = refl }))) told;
        only = λ outcome comes. (
            let found = only_made request from as_they_are (Compiles to) row.text before files1 (λ b. b ≡ text) l outcome comes in
            let so = made_so (Compiles to before.input.rest) text outcome program only (subst (λ (t : List ℕ). OfText (Compiles to before.input.rest) t outcome) found.1 found.2) in
            so.comes ∙ ap (λ (other : Parts). stores to (spelling Two other)) (one_image program so.image image so.compiled has.compiled));
        compiled = λ told names there. under names program image only has there told;
      }) m
  compiled files' result (refused k only same) =
      nothing_stored files' (Ok (Refused k)) same (refused_text request from as_they_are (Compiles to) row.text before files1 (λ b. b ≡ text) l before.input before.out k (λ b is. subst (λ (t : List ℕ). IsOnlyRefusal t k) (sym is) only) (untouched before.input before.out))
  compiled files' result (no_memory same) =
      nothing_stored files' (Err Memory) same (no_memory_then request from as_they_are (Compiles to) row.text before files1 (λ b. b ≡ text) l before.input before.out (untouched before.input before.out))
