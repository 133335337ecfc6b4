-- Requests that store the image of the program that several files are together.
use Rattle.std.proofs.Common.{◌≡◌, ◌<◌, ℕ, zero, suc, List, [], ◌∷◌, length, Option, Some, Result, Ok, Err, IsTrue, refl, sym, subst, arith, inl, inr}
use Rattle.rc_base.specs.Shelves.{Names, ShelfState}
use Rattle.rc_code.specs.declared.image.Parts.{Parts}
use Rattle.rc_compile.specs.Acceptance.{TooMuch, points, rule_refusal, variables}
use Rattle.rc_compile.specs.Compiles.{IsOfReading}
use Rattle.rc_compile.specs.declared.fault.CompileFault.TheVariants as fault
use Rattle.rc_compile.specs.declared.refusal.Refusal.{Refusal}
use Rattle.rc_compile.specs.declared.refusal.Refusal.TheVariants.{TooLong, Byte, Token, Syntax, Deep, Unknown, Twice, Mistyped, Arity, AnnotationPlace, NotDeletes, DeletesPlace, Main, TooBig, Variables, Points}
use Rattle.rc_core.specs.Programs.{Program}
use Rattle.rc_deletes.specs.Answer as rules
use Rattle.rc_deletes.specs.declared.deletes.DeletesFault.TheVariants as place_refusal
use Rattle.rc_deletes.specs.declared.fault.Refusal.TheVariants as node_refusal
use Rattle.rc_image.specs.Spelling.{spelling}
use Rattle.rc_image.specs.declared.version.Version.TheVariants.{Two}
use Rattle.rc_linked_texts.specs.Texts.{AreProgram, FirstRefused, IsRefused, in_rules, one_program, unread}
use Rattle.rc_linked_texts.proofs.SeveralTexts.{come_to_one}
use Rattle.rc_unchecked.specs.Images.{HasImage}
use Rattle.rc_answers.specs.Answers.{IsOfCounts, IsRefusal}
use Rattle.rc_answers.specs.declared.answer.Done.{Done}
use Rattle.rc_answers.specs.declared.answer.Done.TheVariants.{LinkRefused, Refused, UnitRefused}
use Rattle.rc_answers.specs.declared.answer.Fault.{Fault}
use Rattle.rc_answers.specs.declared.answer.Fault.TheVariants.{Memory}
use Rattle.rc_outcomes.specs.Footprint.{UsesFiles, footprint}
use Rattle.rc_outcomes.specs.Loading.{Have, HoldInOrder, LoadedAll, NotLoadedAll}
use Rattle.rc_outcomes.specs.MayAnswer.{MayAnswer}
use Rattle.rc_outcomes.specs.Outcome.{Comes, Compiles, IsOutcome, OfFiles, OfTexts, Outcome, answers, keeps_apart, links, refuses_all, refuses_one, stores}
use Rattle.rc_outcomes.specs.Outside.{Outside, outside}
use Rattle.rc_outcomes.specs.Performing.{Performs}
use Rattle.rc_outcomes.specs.StoredPrograms.{StoresProgram}
use Rattle.rc_outcomes.proofs.Files.{fails_to_load_all, has_read_all}
use Rattle.rc_outcomes.proofs.Linked.{one_list_of_texts, one_of_files}
use Rattle.rc_outcomes.proofs.OneOutcome.{one_compiled}
use Rattle.rc_outcomes.proofs.Storing.{stored_bytes}
use Rattle.rc_outcomes.proofs.Ways.{HasRead, fails_before, is_refused, no_memory as fails_by_memory, untouched}
use Rattle.rc_requests.specs.Request.{Request}
use Rattle.rc_files.specs.Texts.{IsTextOf}
use Rattle.rc_files.specs.declared.text_files.FileText.{FileText}
use Rattle.rc_files.specs.declared.text_files.FileText.TheVariants as file_text
use Rattle.rc_driver.specs.Linking.{AreTextsOf, LinkedTexts, LinksFiles, StoredProgram, kept_apart, linked, made, no_memory, one_refused, out_of_memory, refused}

-- ---- refusals

not_counts : (k : Refusal) → IsOfReading (fault.Refused k) → IsOfCounts k → ⊥
not_counts TooLong reading counts = counts
not_counts (Byte line) reading counts = counts
not_counts (Token line) reading counts = counts
not_counts (Syntax line) reading counts = counts
not_counts (Deep line) reading counts = counts
not_counts (Unknown line) reading counts = counts
not_counts (Twice line) reading counts = counts
not_counts (Mistyped line) reading counts = counts
not_counts (Arity line) reading counts = counts
not_counts (AnnotationPlace line) reading counts = counts
not_counts (NotDeletes line) reading counts = counts
not_counts (DeletesPlace line) reading counts = counts
not_counts (Main line) reading counts = counts
not_counts (TooBig line) reading counts = counts
not_counts (Variables line) reading counts = reading
not_counts Points reading counts = reading

rules_not_counts : (broken : rules.Refused) → IsOfCounts (rule_refusal broken) → ⊥
rules_not_counts (rules.at_node node_refusal.Unknown line) counts = counts
rules_not_counts (rules.at_node node_refusal.Twice line) counts = counts
rules_not_counts (rules.at_node node_refusal.Mistyped line) counts = counts
rules_not_counts (rules.at_node node_refusal.Arity line) counts = counts
rules_not_counts (rules.at_node node_refusal.TooBig line) counts = counts
rules_not_counts (rules.at_main line) counts = counts
rules_not_counts (rules.at_place (place_refusal.AnnotationPlace line)) counts = counts
rules_not_counts (rules.at_place (place_refusal.NotDeletes line)) counts = counts
rules_not_counts (rules.at_place (place_refusal.DeletesPlace line)) counts = counts

refused_not_counts : (text : List ℕ) (k : Refusal) → IsRefused text k → ¬ IsOfCounts k
refused_not_counts text k (unread a reading) = not_counts k reading
refused_not_counts text k (in_rules tree line broken file found is) = λ counts. rules_not_counts broken (subst IsOfCounts is counts)

first_not_counts : (n : ℕ) (texts : List (List ℕ)) (number : ℕ) (k : Refusal) → FirstRefused n texts number k → ¬ IsOfCounts k
first_not_counts n [] number k first = absurd first
first_not_counts n (text ∷ texts) number k (inl here) = refused_not_counts text k here.1
first_not_counts n (text ∷ texts) number k (inr later) = first_not_counts (suc n) texts number k later.1

of_counts : (program : Program) (k : Refusal) → TooMuch program k → IsOfCounts k
of_counts program k (variables line x) = tt
of_counts program k (points x) = tt

-- ---- texts

-- the texts of files that were loaded
pub texts_of : (files : Names) (wanted : List (List ℕ)) (loaded : List FileText) → HoldInOrder IsTextOf files wanted loaded → (texts : List (List ℕ)) × Have files wanted texts × AreTextsOf loaded texts
texts_of files [] [] holds = ([], tt, tt)
texts_of files [] (one ∷ loaded) holds = absurd holds
texts_of files (name ∷ wanted) [] holds = absurd holds
texts_of files (name ∷ wanted) (one ∷ loaded) holds = let rest = texts_of files wanted loaded holds.1 in (holds.0.0 ∷ rest.0, (holds.0.1, rest.1), (holds.0.2, rest.2))

a_long_list : (n : ℕ) → (xs : List ℕ) × (n < length xs)
a_long_list zero = (0 ∷ [], omega arith)
a_long_list (suc n) = let rest = a_long_list n in (0 ∷ rest.0, (let long = rest.1 in omega (arith, long)))

a_text : (one : FileText) → (text : List ℕ) × IsTextOf one text
a_text (file_text.Whole text) = (text, refl)
a_text file_text.TooLong = a_long_list 1048576

-- what was loaded is of some texts
some_texts : (loaded : List FileText) → (texts : List (List ℕ)) × AreTextsOf loaded texts
some_texts [] = ([], tt)
some_texts (one ∷ loaded) = let first = a_text one in let rest = some_texts loaded in (first.0 ∷ rest.0, (first.1, rest.1))

same_program : (texts : List (List ℕ)) (p q : Program) → AreProgram texts p → AreProgram texts q → p ≡ q
same_program texts p q x y = let same : one_program p ≡ one_program q = come_to_one texts (one_program p) (one_program q) x y in cc

-- ---- requests

module _ (request : Option Request) (to : List ℕ) (wanted : List (List ℕ)) (row : LinksFiles request to wanted) (before : Outside) where
  uses : UsesFiles (footprint request)
  uses = (to, inr row.stores)

  pub links_not_loaded : (files1 : ShelfState) (fault : Fault) → NotLoadedAll wanted before.files files1 fault → Performs request before (outside files1 before.input before.out before.err before.heap) (Err fault)
  links_not_loaded files1 fault l = fails_to_load_all request wanted row.reads uses before files1 fault l

  module _ (files1 : ShelfState) (loaded : List FileText) (l : LoadedAll IsTextOf wanted before.files files1 loaded) where
    has : HasRead request before files1
    has = has_read_all request wanted row.reads uses before files1 IsTextOf loaded l

    -- what comes of texts, whatever they are, comes of the files
    of_files : (outcome : Outcome) → ((texts : List (List ℕ)) → AreTextsOf loaded texts → OfTexts (Compiles to before.input.rest) texts outcome) → IsTrue before.files.tells → OfFiles wanted (Compiles to) before.files.names before.input.rest outcome
    of_files outcome of told = let found = texts_of before.files.names wanted loaded (l.holds told) in (found.0, found.1, of found.0 found.2)

    only_of_files : (outcome : Outcome) → ((texts : List (List ℕ)) → AreTextsOf loaded texts → OfTexts (Compiles to before.input.rest) texts outcome) → (other : Outcome) → Comes request before other → other ≡ outcome
    only_of_files outcome of other comes =
        one_of_files wanted (Compiles to) before.files.names before.input.rest other outcome (one_compiled to before.input.rest other outcome) (row.outcome_is before.files.names before.input.rest other comes.comes) (of_files outcome of (comes.told.files uses))

    is_so : (outcome : Outcome) → ((texts : List (List ℕ)) → AreTextsOf loaded texts → OfTexts (Compiles to before.input.rest) texts outcome) → (UsesFiles (footprint request) → IsTrue before.files.tells) → IsOutcome request before.files.names before.input.rest outcome
    is_so outcome of told = row.is_outcome before.files.names before.input.rest outcome (of_files outcome of (told uses))

    -- nothing is stored
    refuses_them : (done : Done) → IsRefusal done → MayAnswer request done → ((texts : List (List ℕ)) → AreTextsOf loaded texts → OfTexts (Compiles to before.input.rest) texts (answers done)) → (files' : ShelfState) → files' ≡ files1 → Performs request before (outside files' before.input before.out before.err before.heap) (Ok done)
    refuses_them done refusal may of files' same =
        subst (λ (f : ShelfState). Performs request before (outside f before.input before.out before.err before.heap) (Ok done)) (sym same)
        (is_refused request before files1 before.input before.out done has (untouched before.input before.out) refusal may (is_so (answers done) of) (only_of_files (answers done) of))

    without_memory : (files' : ShelfState) → files' ≡ files1 → Performs request before (outside files' before.input before.out before.err before.heap) (Err Memory)
    without_memory files' same =
        subst (λ (f : ShelfState). Performs request before (outside f before.input before.out before.err before.heap) (Err Memory)) (sym same)
        (fails_before request before files1 before.input before.out Memory has.only_reads (untouched before.input before.out) (fails_by_memory has.kept))

    -- what was stored is the image of each program that the texts are together, of which there is one
    under : (program : Program) (image : Parts) (files' : Names) → ((texts : List (List ℕ)) → AreTextsOf loaded texts → AreProgram texts program) → HasImage program image → IsTrue before.files.tells → files' to ≡ Some (spelling Two image) → StoresProgram request before.files.names files'
    under program image files' are image_is told there =
        let found = texts_of before.files.names wanted loaded (l.holds told) in
        row.stores_program before.files.names files' (λ texts other have is. (
        let same = one_list_of_texts before.files.names wanted texts found.0 have found.1 in
        let one = same_program found.0 program other (are found.0 found.2) (subst (λ (all : List (List ℕ)). AreProgram all other) same is) in
        record { image = image; has = subst (λ (p : Program). HasImage p image) one image_is; there = there }))

    of_program : (program : Program) → ((texts : List (List ℕ)) → AreTextsOf loaded texts → AreProgram texts program) → (files' : ShelfState) (result : Result Done Fault) → StoredProgram program to files1 files' result → Performs request before (outside files' before.input before.out before.err before.heap) result
    of_program program are files' result (made image answer bounds image_is m) =
        let stored = stores to (spelling Two image) in
        let of : (texts : List (List ℕ)) → AreTextsOf loaded texts → OfTexts (Compiles to before.input.rest) texts stored = λ texts is. links program (are texts is) bounds (record { image = image; compiled = image_is.compiled; comes = refl }) in
        stored_bytes request before files1 files' to (spelling Two image) answer has
        (record {
          stores_to = row.stores;
          may_write = row.may_write;
          outcome = is_so stored of;
          only = only_of_files stored of;
          compiled = λ told names there. under program image names are image_is told there;
        }) m
    of_program program are files' result (refused k much same) =
        refuses_them (Refused k) tt (row.may_refuse_all k (of_counts program k much)) (λ texts is. refuses_all program k (are texts is) much refl) files' same
    of_program program are files' result (no_memory same) = without_memory files' same

    pub links_loaded : (files' : ShelfState) (result : Result Done Fault) → LinkedTexts loaded to files1 files' result → Performs request before (outside files' before.input before.out before.err before.heap) result
    links_loaded files' result (linked program answer are stored) = of_program program are files' answer stored
    links_loaded files' result (one_refused number k first same) =
        let some = some_texts loaded in
        refuses_them (UnitRefused number k) tt (row.may_refuse_one number k (first_not_counts 1 some.0 number k (first some.0 some.1))) (λ texts is. refuses_one number k (first texts is) refl) files' same
    links_loaded files' result (kept_apart k apart same) =
        refuses_them (LinkRefused k) tt (row.may_keep_apart k) (λ texts is. keeps_apart k (apart texts is) refl) files' same
    links_loaded files' result (out_of_memory same) = without_memory files' same
