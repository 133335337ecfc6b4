-- What comes of several files that are linked.
use Rattle.std.proofs.Common.{◌≡◌, ◌≤◌, ◌⊎◌, ◌∙◌, ℕ, zero, suc, List, [], ◌∷◌, length, Option, Some, None, refl, sym, ap, subst, inl, inr, arith}
use Rattle.std.specs.Prelude.{Contains}
use Rattle.std.specs.List.{AllByRecursion as Every}
use Rattle.rc_base.specs.Shelves.{Names}
use Rattle.rc_base.specs.declared.ends.Limits.{Limits}
use Rattle.rc_compile.specs.Acceptance.{TooMuch}
use Rattle.rc_compile.specs.declared.refusal.Refusal.{Refusal}
use Rattle.rc_compile.proofs.EveryText.{fits_or_too_much}
use Rattle.rc_compile.proofs.InPlace.{deletes_in_place}
use Rattle.rc_compile.proofs.OneAnswer.{one_too_much, too_much_or_bounds}
use Rattle.rc_core.specs.Numbers.{IsByte}
use Rattle.rc_core.specs.Programs.{Program}
use Rattle.rc_image.specs.Spelling.{spelling}
use Rattle.rc_image.specs.declared.version.Version.TheVariants.{Two}
use Rattle.rc_link.specs.Answers.{refusal_of}
use Rattle.rc_linked_texts.specs.Texts.{AreProgram, ComeTo, Together, file_refused, kept_apart, one_program}
use Rattle.rc_linked_texts.proofs.Ranges.{linked_well_typed}
use Rattle.rc_linked_texts.proofs.SeveralTexts.{come_to_one, come_to_some}
use Rattle.rc_linking.specs.Joined.{joined}
use Rattle.rc_linking.specs.Links as links
use Rattle.rc_rlang.specs.Bounds.{IsWithinBounds}
use Rattle.rc_answers.specs.declared.answer.Done.TheVariants.{LinkRefused, Refused, UnitRefused}
use Rattle.rc_answers.specs.declared.link_refusal.LinkRefusal.{LinkRefusal}
use Rattle.rc_answers.specs.declared.link_refusal.LinkRefusal.TheVariants.{Disagree, Double, Entry, Large, Missing}
use Rattle.rc_outcomes.specs.Bytes.{HasBytes}
use Rattle.rc_outcomes.specs.Loading.{Have}
use Rattle.rc_outcomes.specs.Outcome.{Compiles, OfFiles, OfTexts, Outcome, answers, keeps_apart, links as links_them, refuses_all, refuses_one, stores}
use Rattle.rc_outcomes.proofs.Ways.{same_text, there_is}
use Rattle.rc_safety.proofs.Never.{never_touches_deleted}
use Rattle.rc_safety.specs.Safety.{NeverTouchesDeleted}
use Rattle.rc_unchecked.proofs.Compiled.{some_image}

-- ---- what is told of a reason

abbrev told : links.LinkRefusal → LinkRefusal
told (links.disagree file line) = Disagree file line
told (links.double file line) = Double file line
told (links.missing file line) = Missing file line
told links.entry = Entry
told links.large = Large

of_told : (reason : links.LinkRefusal) → refusal_of (told reason) ≡ reason
of_told (links.disagree file line) = refl
of_told (links.double file line) = refl
of_told (links.missing file line) = refl
of_told links.entry = refl
of_told links.large = refl

told_again : (refusal : LinkRefusal) → told (refusal_of refusal) ≡ refusal
told_again (Disagree file line) = refl
told_again (Double file line) = refl
told_again (Missing file line) = refl
told_again Entry = refl
told_again Large = refl

-- ---- files

pub one_list_of_texts : (files : Names) (wanted texts others : List (List ℕ)) → Have files wanted texts → Have files wanted others → texts ≡ others
one_list_of_texts files [] [] [] have also = refl
one_list_of_texts files [] [] (other ∷ others) have also = absurd also
one_list_of_texts files [] (text ∷ texts) others have also = absurd have
one_list_of_texts files (name ∷ wanted) [] others have also = absurd have
one_list_of_texts files (name ∷ wanted) (text ∷ texts) [] have also = absurd also
one_list_of_texts files (name ∷ wanted) (text ∷ texts) (other ∷ others) have also =
    ap (λ (first : List ℕ). first ∷ texts) (same_text files name text other have.0 also.0) ∙ ap (λ (rest : List (List ℕ)). other ∷ rest) (one_list_of_texts files wanted texts others have.1 also.1)

have_all : (files : Names) (wanted : List (List ℕ)) → ((name : List ℕ) → Contains wanted name → ¬ (files name ≡ None)) → (texts : List (List ℕ)) × Have files wanted texts
have_all files [] there = ([], tt)
have_all files (name ∷ wanted) there = by (files name) refl (have_all files wanted (λ other among. there other (suc among.0, (let low = among.1 in omega (arith, low)), among.2))) where
  by : (o : Option (List ℕ)) → files name ≡ o → (texts : List (List ℕ)) × Have files wanted texts → (texts : List (List ℕ)) × Have files (name ∷ wanted) texts
  by None is rest = absurd (there name (0, omega arith, refl) is)
  by (Some text) is (texts, have) = (text ∷ texts, (is, have))

have_bytes : (files : Names) (wanted texts : List (List ℕ)) → Every (λ file. HasBytes file files) wanted → Have files wanted texts → Every (Every IsByte) texts
have_bytes files [] [] bytes have = tt
have_bytes files [] (text ∷ texts) bytes have = absurd have
have_bytes files (name ∷ wanted) [] bytes have = absurd have
have_bytes files (name ∷ wanted) (text ∷ texts) bytes have = (bytes.0 text have.0, have_bytes files wanted texts bytes.1 have.1)

have_few : (files : Names) (wanted texts : List (List ℕ)) → Have files wanted texts → length texts ≤ length wanted
have_few files [] [] have = omega arith
have_few files [] (text ∷ texts) have = absurd have
have_few files (name ∷ wanted) [] have = absurd have
have_few files (name ∷ wanted) (text ∷ texts) have = let few = have_few files wanted texts have.1 in omega (arith, few)

-- each of them is there
pub there_of_all : (files : Names) (wanted texts : List (List ℕ)) → Have files wanted texts → (name : List ℕ) → Contains wanted name → files name ≡ None → ⊥
there_of_all files [] texts have name among none = let low = among.1 in omega (arith, low)
there_of_all files (first ∷ wanted) [] have name among none = have
there_of_all files (first ∷ wanted) (text ∷ texts) have name (zero, low, is) none = there_is files first name text is have.0 none
there_of_all files (first ∷ wanted) (text ∷ texts) have name (suc k, low, is) none = there_of_all files wanted texts have.1 name (k, omega (arith, low), is) none

-- ---- some outcome

texts_linked : (to input : List ℕ) (texts : List (List ℕ)) → length texts ≤ 16 → Every (Every IsByte) texts → (outcome : Outcome) × OfTexts (Compiles to input) texts outcome
texts_linked to input texts few bytes = by (come_to_some texts) where
  of_program : (program : Program) → AreProgram texts program → IsWithinBounds program ⊎ ((refusal : Refusal) × TooMuch program refusal) → (outcome : Outcome) × OfTexts (Compiles to input) texts outcome
  of_program program are (inr (refusal, much)) = (answers (Refused refusal), refuses_all program refusal are much refl)
  of_program program are (inl bounds) = (
      let found = some_image program (linked_well_typed texts program few bytes are) bounds in
      (stores to (spelling Two found.0), links_them program are bounds (record { image = found.0; compiled = found.1; comes = refl })))

  by : (together : Together) × ComeTo texts together → (outcome : Outcome) × OfTexts (Compiles to input) texts outcome
  by (file_refused number refusal, first) = (answers (UnitRefused number refusal), refuses_one number refusal first refl)
  by (kept_apart reason, apart) = (
    answers (LinkRefused (told reason)),
    keeps_apart (told reason) (record { trees = apart.trees; fine = apart.fine; apart = apart.apart ∙ ap Some (sym (of_told reason)) }) refl,
  )
  by (one_program program, are) = of_program program are (fits_or_too_much program)

pub files_linked : (to : List ℕ) (wanted : List (List ℕ)) (files : Names) (input : List ℕ) → Every (λ file. HasBytes file files) wanted → length wanted ≤ 16 → ((name : List ℕ) → Contains wanted name → ¬ (files name ≡ None)) → (outcome : Outcome) × OfFiles wanted (Compiles to) files input outcome
files_linked to wanted files input bytes few there =
    let all = have_all files wanted there in
    let found = texts_linked to input all.0 (let many = have_few files wanted all.0 all.1 in omega (arith, few, many)) (have_bytes files wanted all.0 bytes all.1) in
    (found.0, (all.0, all.1, found.1))

-- ---- and no other

-- what texts come to, as far as it is answered
data Answered (Made : Program → Outcome → Type 0) (texts : List (List ℕ)) (outcome : Outcome) : Together → Type 0 where
  one : (number : ℕ) (refusal : Refusal) → outcome ≡ answers (UnitRefused number refusal) → Answered Made texts outcome (file_refused number refusal)
  apart : (refusal : LinkRefusal) → outcome ≡ answers (LinkRefused refusal) → Answered Made texts outcome (kept_apart (refusal_of refusal))
  much : (program : Program) (refusal : Refusal) → TooMuch program refusal → outcome ≡ answers (Refused refusal) → Answered Made texts outcome (one_program program)
  whole : (program : Program) → IsWithinBounds program → Made program outcome → Answered Made texts outcome (one_program program)

answered : (Made : Program → Outcome → Type 0) (texts : List (List ℕ)) (outcome : Outcome) → OfTexts Made texts outcome → (together : Together) × ComeTo texts together × Answered Made texts outcome together
answered Made texts outcome (refuses_one number refusal first is) = (file_refused number refusal, first, one number refusal is)
answered Made texts outcome (keeps_apart refusal are is) = (kept_apart (refusal_of refusal), are, apart refusal is)
answered Made texts outcome (refuses_all program refusal are needs is) = (one_program program, are, much program refusal needs is)
answered Made texts outcome (links_them program are bounds made) = (one_program program, are, whole program bounds made)

same_told : (k l : LinkRefusal) → refusal_of k ≡ refusal_of l → k ≡ l
same_told k l same = sym (told_again k) ∙ ap told same ∙ told_again l

module _ (Made : Program → Outcome → Type 0) (texts : List (List ℕ)) (first other : Outcome) (only : (program : Program) → Made program first → Made program other → first ≡ other) where
  of_program : (program : Program) (a b : Together) → a ≡ one_program program → b ≡ one_program program → Answered Made texts first a → Answered Made texts other b → first ≡ other
  of_program program a b e f (one n k is) y = cc
  of_program program a b e f (apart k is) y = cc
  of_program program a b e f x (one n k is) = cc
  of_program program a b e f x (apart k is) = cc
  of_program program a b e f (much p k needs is) (much q l need so) = (
      let p_is : p ≡ program = cc in
      let q_is : q ≡ program = cc in
      is ∙ ap (λ (r : Refusal). answers (Refused r)) (one_too_much program k l (subst (λ (r : Program). TooMuch r k) p_is needs) (subst (λ (r : Program). TooMuch r l) q_is need)) ∙ sym so)
  of_program program a b e f (much p k needs is) (whole q bounds made) = (
      let p_is : p ≡ program = cc in
      let q_is : q ≡ program = cc in
      absurd (too_much_or_bounds program k (subst (λ (r : Program). TooMuch r k) p_is needs) (subst IsWithinBounds q_is bounds)))
  of_program program a b e f (whole p bounds made) (much q l need so) = (
      let p_is : p ≡ program = cc in
      let q_is : q ≡ program = cc in
      absurd (too_much_or_bounds program l (subst (λ (r : Program). TooMuch r l) q_is need) (subst IsWithinBounds p_is bounds)))
  of_program program a b e f (whole p bounds made) (whole q within also) = (
      let p_is : p ≡ program = cc in
      let q_is : q ≡ program = cc in
      only program (subst (λ (r : Program). Made r first) p_is made) (subst (λ (r : Program). Made r other) q_is also))

  of_apart : (reason : links.LinkRefusal) (a b : Together) → a ≡ kept_apart reason → b ≡ kept_apart reason → Answered Made texts first a → Answered Made texts other b → first ≡ other
  of_apart reason a b e f (one n k is) y = cc
  of_apart reason a b e f (much p k needs is) y = cc
  of_apart reason a b e f (whole p bounds made) y = cc
  of_apart reason a b e f x (one n k is) = cc
  of_apart reason a b e f x (much p k needs is) = cc
  of_apart reason a b e f x (whole p bounds made) = cc
  of_apart reason a b e f (apart k is) (apart l so) = (
      let k_is : refusal_of k ≡ reason = cc in
      let l_is : refusal_of l ≡ reason = cc in
      is ∙ ap (λ (r : LinkRefusal). answers (LinkRefused r)) (same_told k l (k_is ∙ sym l_is)) ∙ sym so)

  of_one : (number : ℕ) (refusal : Refusal) (a b : Together) → a ≡ file_refused number refusal → b ≡ file_refused number refusal → Answered Made texts first a → Answered Made texts other b → first ≡ other
  of_one number refusal a b e f (apart k is) y = cc
  of_one number refusal a b e f (much p k needs is) y = cc
  of_one number refusal a b e f (whole p bounds made) y = cc
  of_one number refusal a b e f x (apart k is) = cc
  of_one number refusal a b e f x (much p k needs is) = cc
  of_one number refusal a b e f x (whole p bounds made) = cc
  of_one number refusal a b e f (one n k is) (one m l so) = (
      let n_is : n ≡ m = cc in
      let k_is : k ≡ l = cc in
      is ∙ ap (λ i. answers (UnitRefused i k)) n_is ∙ ap (λ (r : Refusal). answers (UnitRefused m r)) k_is ∙ sym so)

  by_what : (together : Together) (a b : Together) → a ≡ together → b ≡ together → Answered Made texts first a → Answered Made texts other b → first ≡ other
  by_what (file_refused number refusal) = of_one number refusal
  by_what (kept_apart reason) = of_apart reason
  by_what (one_program program) = of_program program

  one_of_texts : OfTexts Made texts first → OfTexts Made texts other → first ≡ other
  one_of_texts is also =
      let a = answered Made texts first is in
      let b = answered Made texts other also in
      by_what b.0 a.0 b.0 (come_to_one texts a.0 b.0 a.1 b.1) refl a.2 b.2

pub one_of_files : (wanted : List (List ℕ)) (Made : List ℕ → Program → Outcome → Type 0) (files : Names) (input : List ℕ) (first other : Outcome) → ((program : Program) → Made input program first → Made input program other → first ≡ other) → OfFiles wanted Made files input first → OfFiles wanted Made files input other → first ≡ other
one_of_files wanted Made files input first other only (texts, have, is) (texts', have', is') =
    one_of_texts (Made input) texts first other only is (subst (λ (all : List (List ℕ)). OfTexts (Made input) all other) (one_list_of_texts files wanted texts' texts have' have) is')

-- ---- their program

pub linked_never : (texts : List (List ℕ)) (program : Program) (input : List ℕ) (limits : Limits) → AreProgram texts program → NeverTouchesDeleted program input limits
linked_never texts program input limits are = never_touches_deleted program input limits (deletes_in_place (joined are.trees) program are.typed)
