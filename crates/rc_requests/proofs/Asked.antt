-- What words ask of tasks has choices, and what they ask of several files has from one to so many.
use Rattle.std.proofs.Common.{◌≡◌, ◌≤◌, ◌<◌, ◌∙◌, ◌&&◌, ℕ, Bool, true, false, List, [], ◌∷◌, length, nat_eq, Option, Some, None, IfSome, leb, refl, sym, ap, subst, arith}
use Rattle.std.specs.Prelude.{codes, if◌then◌else◌}
use Rattle.std.specs.Char.{is_ascii_digit}
use Rattle.std.specs.List.{list_all, AllByRecursion as Every}
use Rattle.std.specs.Option.{option_map}
use Rattle.std.specs.Str.{bytes_eq}
use Rattle.std.proofs.lemmas.Bool.Decides.{nat_tests}
use Rattle.rc_base.specs.declared.ends.Limits.{Limits}
use Rattle.rc_task_text.specs.TaskText.{AreChoices}
use Rattle.rc_requests.specs.Request.{Request, Run, Slow, Compile, Exec, Listing, Upgrade, Script, Checks, Soak, Tasks, Link, Seal, are_choices, ending, ending_in_name, ending_number, limits_of, limits_within, most_made, number_within, request_of, with_choices, with_files}

-- ---- words of digits

both : (a b : Bool) → (a && b) ≡ true → (a ≡ true) × (b ≡ true)
both true true e = (refl, refl)
both true false e = absurd cc
both false b e = absurd cc

a_digit : (b : ℕ) → is_ascii_digit b ≡ true → (48 ≤ b) × (b < 58)
a_digit b e = (grind (arith, nat_tests), grind (arith, nat_tests))

all_digits : (word : List ℕ) → list_all is_ascii_digit word ≡ true → Every (λ b. (48 ≤ b) × (b < 58)) word
all_digits [] e = tt
all_digits (b ∷ word) e = let h = both (is_ascii_digit b) (list_all is_ascii_digit word) e in (a_digit b h.0, all_digits word h.1)

at_most : (n most : ℕ) → leb n most ≡ true → n ≤ most
at_most n most e = grind (arith, nat_tests)

pub choices_are : (word : List ℕ) → are_choices word ≡ true → AreChoices word
choices_are word e =
    let h = both (leb 1 (length word) && leb (length word) 1000) (list_all is_ascii_digit word) e in
    let l = both (leb 1 (length word)) (leb (length word) 1000) h.0 in
    (all_digits word h.1, at_most 1 (length word) l.0, at_most (length word) 1000 l.1)

-- so a word that is neither empty nor too long is one of choices just where its bytes are digits
pub choices_so : (word : List ℕ) (digits : Bool) → nat_eq (length word) 0 ≡ false → length word ≤ 1000 → digits ≡ list_all is_ascii_digit word → digits ≡ are_choices word
choices_so word digits some few is =
    let not_none : leb 1 (length word) ≡ true = grind (arith, nat_tests) in
    let not_many : leb (length word) 1000 ≡ true = grind (arith, nat_tests) in
    is ∙ ap (λ fits. fits && list_all is_ascii_digit word) (sym (ap (λ test. test && leb (length word) 1000) not_none ∙ not_many))

-- ---- what is asked

abbrev Fits : Request → Type 0
Fits (Run file limits) = Unit {0}
Fits (Slow file limits) = Unit {0}
Fits (Compile from to) = Unit {0}
Fits (Exec file limits) = Unit {0}
Fits (Listing file) = Unit {0}
Fits (Upgrade from to) = Unit {0}
Fits (Script file limits) = Unit {0}
Fits (Checks file) = Unit {0}
Fits (Soak n) = Unit {0}
Fits (Tasks file choices limits) = AreChoices choices
Fits (Link to files) = (1 ≤ length files) × (length files ≤ 16)
Fits (Seal from to) = Unit {0}

either : (test : Bool) (one other : Option Request) → IfSome one Fits → IfSome other Fits → IfSome (if test then one else other) Fits
either true one other a b = a
either false one other a b = b

made : {A : Type 0} (request : A → Request) → ((a : A) → Fits (request a)) → (found : Option A) → IfSome (option_map request found) Fits
made request has None = tt
made request has (Some a) = has a

with_nothing : (request : Request) → Fits request → (words : List (List ℕ)) → IfSome (ending request words) Fits
with_nothing request has [] = has
with_nothing request has (word ∷ words) = tt

with_name : (request : List ℕ → Request) → ((name : List ℕ) → Fits (request name)) → (words : List (List ℕ)) → IfSome (ending_in_name request words) Fits
with_name request has [] = tt
with_name request has (name ∷ []) = has name
with_name request has (name ∷ word ∷ words) = tt

with_number : (request : ℕ → Request) → ((n : ℕ) → Fits (request n)) → (word : List ℕ) (words : List (List ℕ)) → IfSome (ending_number request word words) Fits
with_number request has word [] = made request has (number_within most_made word)
with_number request has word (other ∷ words) = tt

of_tasks : (file : List ℕ) (words : List (List ℕ)) → IfSome (with_choices (Tasks file) words) Fits
of_tasks file [] = tt
of_tasks file (choices ∷ options) = by (are_choices choices) refl where
  by : (test : Bool) → are_choices choices ≡ test → IfSome (if test then option_map (Tasks file choices) (limits_of options) else None) Fits
  by true is = made (Tasks file choices) (λ limits. choices_are choices is) (limits_of options)
  by false is = tt

of_files : (to : List ℕ) (files : List (List ℕ)) → IfSome (with_files (Link to) files) Fits
of_files to files = by (leb 1 (length files)) (leb (length files) 16) refl refl where
  by : (some few : Bool) → leb 1 (length files) ≡ some → leb (length files) 16 ≡ few → IfSome (if some && few then Some (Link to files) else None) Fits
  by true true some few = (at_most 1 (length files) some, at_most (length files) 16 few)
  by true false some few = tt
  by false few is also = tt

all_fit : (words : List (List ℕ)) → IfSome (request_of words) Fits
all_fit [] = tt
all_fit (verb ∷ []) = tt
all_fit (verb ∷ file ∷ rest) =
    either (bytes_eq verb (codes "run")) _ _ (made (Run file) (λ limits. tt) (limits_of rest))
    (either (bytes_eq verb (codes "slow")) _ _ (made (Slow file) (λ limits. tt) (limits_of rest))
    (either (bytes_eq verb (codes "compile")) _ _ (with_name (Compile file) (λ name. tt) rest)
    (either (bytes_eq verb (codes "exec")) _ _ (made (Exec file) (λ limits. tt) (limits_of rest))
    (either (bytes_eq verb (codes "list")) _ _ (with_nothing (Listing file) tt rest)
    (either (bytes_eq verb (codes "upgrade")) _ _ (with_name (Upgrade file) (λ name. tt) rest)
    (either (bytes_eq verb (codes "heap")) _ _ (made (Script file) (λ limits. tt) (limits_within 0 rest))
    (either (bytes_eq verb (codes "checks")) _ _ (with_nothing (Checks file) tt rest)
    (either (bytes_eq verb (codes "soak")) _ _ (with_number Soak (λ n. tt) file rest)
    (either (bytes_eq verb (codes "tasks")) _ _ (of_tasks file rest)
    (either (bytes_eq verb (codes "link")) _ _ (of_files file rest)
    (either (bytes_eq verb (codes "seal")) _ None (with_name (Seal file) (λ name. tt) rest) tt)))))))))))

pub asked_choices : (words : List (List ℕ)) (file choices : List ℕ) (limits : Limits) → request_of words ≡ Some (Tasks file choices limits) → AreChoices choices
asked_choices words file choices limits is = subst (λ (request : Option Request). IfSome request Fits) is (all_fit words)

pub asked_files : (words : List (List ℕ)) (to : List ℕ) (files : List (List ℕ)) → request_of words ≡ Some (Link to files) → (1 ≤ length files) × (length files ≤ 16)
asked_files words to files is = subst (λ (request : Option Request). IfSome request Fits) is (all_fit words)
