-- Requests that make something of the image of a file.
use Rattle.std.proofs.Common.{◌≡◌, ◌∙◌, ◌<◌, ◌≤◌, ℕ, suc, true, List, [], ◌∷◌, get_or, Option, Some, Result, Ok, Err, IsTrue, refl, sym, ap, subst, arith, inl, length}
use Rattle.std.specs.List.{AllByRecursion as Every}
use Rattle.rc_base.specs.Shelves.{IsFront, Loads, ShelfState}
use Rattle.rc_base.specs.Sinks.{SinkState}
use Rattle.rc_base.specs.declared.outside.Piece.{Piece}
use Rattle.rc_base.specs.declared.outside.ShelfFault.{ShelfFault}
use Rattle.rc_outcomes.specs.Footprint.{UsesFiles, footprint}
use Rattle.rc_core.specs.Numbers.{IsByte}
use Rattle.rc_files.specs.Loading.{LoadedImage, MaySay, ReadPiece, as_read, beyond, whole}
use Rattle.rc_files.specs.declared.image_file.Carried as code
use Rattle.rc_outcomes.specs.Loading.{LoadCause, Loaded, no_memory}
use Rattle.rc_outcomes.specs.Images.{Carried, carried_by, read_as}
use Rattle.rc_outcomes.specs.Storing.{MadeFile, no_bytes}
use Rattle.rc_outcomes.proofs.Storing.{stored_bytes}
use Rattle.rc_files.specs.Making.{ListsOf, MadeBytes, MakesOf, UpgradesOf, made as bytes_made, not_made}
use Rattle.rc_outcomes.specs.Reporting.{MadeReport}
use Rattle.rc_outcomes.specs.Outcome.{AnyHeap, Comes, IsOutcome, Lists, OfRead, Outcome, Upgrades, answers, reports, stores}
use Rattle.rc_outcomes.specs.Outside.{Outside, outside}
use Rattle.rc_outcomes.specs.Performing.{Performs}
use Rattle.rc_requests.specs.Request.{Request, Listing, Upgrade}
use Rattle.rc_answers.specs.declared.answer.Done.{Done}
use Rattle.rc_answers.specs.declared.answer.Done.TheVariants.{ImageRefused}
use Rattle.rc_answers.specs.declared.answer.Fault.{Fault}
use Rattle.rc_answers.specs.declared.answer.Fault.TheVariants.{Memory}
use Rattle.rc_files.specs.declared.image_file.NoImage.{NoImage}
use Rattle.rc_files.specs.declared.image_file.NoImage.TheVariants.{Refused, Failed}
use Rattle.rc_answers.specs.declared.image_refusal.ImageRefusal.{ImageRefusal}
use Rattle.rc_answers.specs.declared.image_refusal.ImageRefusal.TheVariants.{Extra}
use Rattle.rc_sealed_images.specs.Reading.{carried_of}
use Rattle.rc_image.specs.Spelling.{spelling}
use Rattle.rc_image.specs.declared.version.Version.TheVariants.{Two}
use Rattle.rc_listing.specs.Listing.{listing}
use Rattle.rc_outcomes.proofs.Reports.{made_report, nothing_said}
use Rattle.rc_outcomes.proofs.CarriedImages.{read_long, read_short}
use Rattle.rc_outcomes.proofs.Ways.{same_text, the_only}
use Rattle.rc_outcomes.proofs.TextLaws.{longer, whole_is}
use Rattle.rc_outcomes.proofs.Files as one_file
use Rattle.rc_outcomes.proofs.Ways.{HasRead, OnlyReads, fails_before, is_refused, no_memory as fails_by_memory, untouched}

-- ---- what is stored

-- numbers that are below 256 at each place are bytes
pub each_is_byte : (bytes : List ℕ) → ((i : ℕ) → get_or bytes i 0 < 256) → Every IsByte bytes
each_is_byte [] all = tt
each_is_byte (byte ∷ bytes) all = (all 0, each_is_byte bytes (λ i. all (suc i)))

pub made_file : (name bytes : List ℕ) (files files' : ShelfState) (result : Result Done Fault) → MadeBytes name bytes files files' result → MadeFile name bytes files files' result
made_file name bytes files files' result (not_made same) = no_bytes same
made_file name bytes files files' result (bytes_made other are m) = m

-- ---- what was loaded

there_and : (name : List ℕ) (files files' : ShelfState) (piece : Piece) (said : Result Carried ImageRefusal) → Loads name 268435456 files files' (Ok piece) → ((file : List ℕ) → IsFront file 268435456 piece → carried_by file ≡ said) → Loaded name files files' (λ bytes. carried_by bytes ≡ said)
there_and name files files' piece said load says = record {
  tells = load.tells;
  names = load.same;
  kept = load.cause.kept refl;
  holds = λ tells. (let file = load.piece tells in (file.0, file.1, says file.0 file.2));
}

whole_says : (piece : Piece) (said : Result Carried ImageRefusal) → piece.whole ≡ true → read_as (length piece.bytes) (carried_of piece.bytes) ≡ said → (file : List ℕ) → IsFront file 268435456 piece → carried_by file ≡ said
whole_says piece said is e file front =
    let short : length file ≤ 268435456 = front.whole.0 is in
    read_short file short ∙ ap (λ (b : List ℕ). read_as (length b) (carried_of b)) (sym (whole_is file 268435456 piece front is)) ∙ e

said_so : (name : List ℕ) (files files' : ShelfState) (piece : Piece) (result : Result code.Carried NoImage) → Loads name 268435456 files files' (Ok piece) → piece.whole ≡ true → MaySay result (read_as (length piece.bytes) (carried_of piece.bytes)) → LoadedImage name files files' result
said_so name files files' piece (Ok c) load is says = there_and name files files' piece (Ok (as_read c)) load (whole_says piece (Ok (as_read c)) is says)
said_so name files files' piece (Err (Refused refusal)) load is says = (there_and name files files' piece (Err refusal) load (whole_says piece (Err refusal) is says.0), says.1)
said_so name files files' piece (Err (Failed fault)) load is says = record {
  tells = load.tells;
  names = load.same;
  never_falls = load.cause.never_falls;
  cause = subst (λ (f : Fault). LoadCause name files files' f) (sym says) (no_memory (load.cause.kept refl));
}

pub loaded_image : (name : List ℕ) (files files' : ShelfState) (piece : Piece) (result : Result code.Carried NoImage) → Loads name 268435456 files files' (Ok piece) → ReadPiece piece result → LoadedImage name files files' result
loaded_image name files files' piece result load (beyond not_whole) = (there_and name files files' piece (Err Extra) load (λ file front. read_long file (longer file 268435456 piece front not_whole)), tt)
loaded_image name files files' piece result load (whole other is says) = said_so name files files' piece other load is says

pub not_loaded : (name : List ℕ) (files files' : ShelfState) (error : ShelfFault) (fault : Fault) → Loads name 268435456 files files' (Err error) → LoadCause name files files' fault → LoadedImage name files files' (Err (Failed fault))
not_loaded name files files' error fault load cause = record { tells = load.tells; names = load.same; never_falls = load.cause.never_falls; cause = cause }

-- ---- the rows

pub list_row : (name : List ℕ) → ListsOf (Some (Listing name)) name
list_row name = record {
  makes = record {
    reads = (0, omega arith, refl);
    only = λ other read. the_only name other read;
    may_refuse = λ refusal is. is;
    is_outcome = λ files input outcome is. is;
    outcome_is = λ files input outcome is. is;
  };
  writes_out = refl;
  may_report = tt;
}

pub upgrade_row : (from to : List ℕ) → UpgradesOf (Some (Upgrade from to)) from to
upgrade_row from to = record {
  makes = record {
    reads = (0, omega arith, refl);
    only = λ other read. the_only from other read;
    may_refuse = λ refusal is. is;
    is_outcome = λ files input outcome is. is;
    outcome_is = λ files input outcome is. is;
  };
  stores = refl;
  may_write = tt;
  stores_no_program = λ files files'. tt;
}

-- ---- what is made

module _ (request : Option Request) (name : List ℕ) (Made : Carried → List ℕ → Outcome → Type 0) (row : MakesOf request name Made) (before : Outside) (files' : ShelfState) where
  uses : UsesFiles (footprint request)
  uses = (name, inl row.reads)

  module _ (said : Result Carried ImageRefusal) (l : Loaded name before.files files' (λ bytes. carried_by bytes ≡ said)) where
    pub only_reads : OnlyReads request before files'
    only_reads = one_file.only_reads request name row.reads before files' (λ bytes. carried_by bytes ≡ said) l

    pub has_read : HasRead request before files'
    has_read = one_file.has_read request name row.reads before files' (λ bytes. carried_by bytes ≡ said) l row.only

    pub some_made : (outcome : Outcome) → OfRead Made said before.input.rest outcome → (UsesFiles (footprint request) → IsTrue before.files.tells) → IsOutcome request before.files.names before.input.rest outcome
    some_made outcome is told =
        let file = l.holds (told uses) in
        row.is_outcome before.files.names before.input.rest outcome (file.0, file.1, subst (λ (r : Result Carried ImageRefusal). OfRead Made r before.input.rest outcome) (sym file.2) is)

    pub only_made : (outcome : Outcome) → Comes request before outcome → OfRead Made said before.input.rest outcome
    only_made outcome comes =
        let file = l.holds (comes.told.files uses) in
        let found = row.outcome_is before.files.names before.input.rest outcome comes.comes in
        subst (λ (r : Result Carried ImageRefusal). OfRead Made r before.input.rest outcome) (ap carried_by (same_text before.files.names name found.0 file.0 found.1 file.1) ∙ file.2) found.2

    pub no_memory_then : Performs request before (outside files' before.input before.out before.err before.heap) (Err Memory)
    no_memory_then = fails_before request before files' before.input before.out Memory only_reads (untouched before.input before.out) (fails_by_memory l.kept)

  pub refused : (refusal : ImageRefusal) → LoadedImage name before.files files' (Err (Refused refusal)) → Performs request before (outside files' before.input before.out before.err before.heap) (Ok (ImageRefused refusal))
  refused refusal l =
      is_refused request before files' before.input before.out (ImageRefused refusal) (has_read (Err refusal) l.0) (untouched before.input before.out) tt (row.may_refuse refusal l.1) (some_made (Err refusal) l.0 (answers (ImageRefused refusal)) refl) (only_made (Err refusal) l.0)

  pub failed : (fault : Fault) → LoadedImage name before.files files' (Err (Failed fault)) → Performs request before (outside files' before.input before.out before.err before.heap) (Err fault)
  failed fault l = one_file.fails_to_load request name row.reads before files' fault l

-- ---- listings

pub listed : (request : Option Request) (name : List ℕ) (before : Outside) (files' : ShelfState) (out' : SinkState) (c : code.Carried) (result : Result Done Fault) → ListsOf request name → LoadedImage name before.files files' (Ok c) → MadeReport (listing c.image) before.out out' result → Performs request before (outside files' before.input out' before.err before.heap) result
listed request name before files' out' c result row l made =
    made_report request before files' out' before.heap (listing c.image) AnyHeap (has_read request name Lists row.makes before files' (Ok (as_read c)) l)
    (record { writes_out = row.writes_out; may_report = row.may_report; outcome = some_made request name Lists row.makes before files' (Ok (as_read c)) l (reports (listing c.image)) refl; only = only_made request name Lists row.makes before files' (Ok (as_read c)) l }) (λ e. refl) result made (nothing_said result before.heap)

-- ---- upgrades

pub upgraded : (request : Option Request) (from to : List ℕ) (before : Outside) (files1 files' : ShelfState) (c : code.Carried) (result : Result Done Fault) → UpgradesOf request from to → LoadedImage from before.files files1 (Ok c) → MadeFile to (spelling Two c.image) files1 files' result → Performs request before (outside files' before.input before.out before.err before.heap) result
upgraded request from to before files1 files' c result row l made =
    stored_bytes request before files1 files' to (spelling Two c.image) result (has_read request from (Upgrades to) row.makes before files1 (Ok (as_read c)) l)
    (record { stores_to = row.stores; may_write = row.may_write; outcome = some_made request from (Upgrades to) row.makes before files1 (Ok (as_read c)) l (stores to (spelling Two c.image)) refl; only = only_made request from (Upgrades to) row.makes before files1 (Ok (as_read c)) l; compiled = λ told names there. row.stores_no_program before.files.names names }) made
