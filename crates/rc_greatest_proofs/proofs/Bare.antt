-- Proofs prove an instruction with every mark taken away where they prove all of it but the check.
use Rattle.std.proofs.Common.{◌≡◌, ◌∙◌, ◌↔◌, ℕ, zero, suc, Bool, true, false, not, ◌&&◌, ◌||◌, nat_lt, IsTrue, List, [], ◌∷◌, get_or, refl, sym, ap, subst}
use Rattle.std.specs.List.{AllByRecursion as Every}
use Rattle.rc_facts.specs.declared.fact.Fact.{Fact}
use Rattle.rc_facts.specs.Derivable.{Derivable}
use Rattle.rc_facts.specs.Facts.{is_over}
use Rattle.rc_rlang.specs.RegionFlow.{assigned}
use Rattle.rc_annotations.specs.Annotations.{Annotation, gained, allowed_where, exit_facts, some_pair, fact_with, renamed}
use Rattle.rc_code.specs.declared.opcode.Simple.TheVariants as simple
use Rattle.rc_code.specs.declared.instruction.Instruction.{Instruction}
use Rattle.rc_code.specs.declared.instruction.Instruction.TheVariants as instruction
use Rattle.rc_code.specs.declared.image.Function.{Function}
use Rattle.rc_code.specs.declared.image.Parts.{Parts}
use Rattle.rc_code.specs.Running.{Reading, reading_of, function_at}
use Rattle.rc_code.specs.Soundness.{instruction_at}
use Rattle.rc_loader.specs.Unmarked.{unmarked, unmarked_instruction}
use Rattle.rc_loader.proofs.Marks.{function_is}
use Rattle.rc_claims.specs.Counts.{copies}
use Rattle.rc_sealed.specs.ImageVariables.{variables, result_variable}
use Rattle.rc_sealed.specs.Carrying.{is_target, is_assigned, speaks, among, entry_pairs, either, Follows, Begins, Carried, Before}
use Rattle.rc_sealed.specs.Proved.{Way, EntryIsGiven, ExitIsGiven, CheckIsProved, EntryIsProved, AtEntry, Proved}
use Rattle.rc_sealed.proofs.Greater.{follows_more}
use Rattle.rc_greatest_proofs.specs.Marks.{ProvedBare}
use Rattle.rc_greatest_proofs.proofs.Views.{View, view, views, same_target, same_variables, same_answer, same_at, same_arguments}

-- ---- with and without the check

module _ (image : Reading) (proofs : Annotation) (g at : ℕ) where
  pub checked : Proved image proofs g at ↔ (ProvedBare image proofs g at × CheckIsProved image proofs g at (instruction_at (function_at image g) at))
  checked = ((λ p. (record { targets = p.targets; entry = p.entry; exit = p.exit; first = p.first }, p.check)), (λ q. record { targets = q.0.targets; entry = q.0.entry; exit = q.0.exit; check = q.1; first = q.0.first }))

-- ---- what facts before an instruction give behind it, as it looks from a view

pub record Passes (v : View) (proofs : Annotation) (known : Fact → Type 0) (fact : Fact) : Type 0 where
  over : IsTrue (is_over v.spare fact)
  stays : IsTrue (speaks (λ u. not (not (nat_lt u v.low) && (nat_lt u v.top && not (is_assigned (assigned v.effect) u)))) fact)
  used : List Fact
  each : Every known used
  derived : allowed_where v.count v.spare (gained (exit_facts proofs)) (assigned v.effect) v.effect (among used) fact

module _ (image : Reading) (proofs : Annotation) (g at : ℕ) (known : Fact → Type 0) (fact : Fact) where
  looked : Carried image proofs g at known fact → Passes (view image (function_at image g) at) proofs known fact
  looked c = record { over = c.over; stays = c.stays; used = c.used; each = c.each; derived = c.derived }

  seen : Passes (view image (function_at image g) at) proofs known fact → Carried image proofs g at known fact
  seen c = record { over = c.over; stays = c.stays; used = c.used; each = c.each; derived = c.derived }

each_more : (P Q : Fact → Type 0) → ((p : Fact) → P p → Q p) → (facts : List Fact) → Every P facts → Every Q facts
each_more P Q k [] all = tt
each_more P Q k (p ∷ facts) all = (k p all.0, each_more P Q k facts all.1)

passes_more : (v : View) (proofs : Annotation) (known known1 : Fact → Type 0) → ((p : Fact) → known p → known1 p) → (fact : Fact) → Passes v proofs known fact → Passes v proofs known1 fact
passes_more v proofs known known1 k fact c = record { over = c.over; stays = c.stays; used = c.used; each = each_more known known1 k c.used c.each; derived = c.derived }

module _ (parts : Parts) (proofs : Annotation) (g : ℕ) where
  abbrev code : Reading
  code = reading_of parts

  abbrev bare : Reading
  bare = reading_of (unmarked parts)

  abbrev f : Function
  f = function_at code g

  abbrev f1 : Function
  f1 = function_at bare g

  carried_there : (at : ℕ) (known known1 : Fact → Type 0) → ((p : Fact) → known p → known1 p) → (fact : Fact) → Carried code proofs g at known fact → Carried bare proofs g at known1 fact
  carried_there at known known1 k fact c = seen bare proofs g at known1 fact (subst (λ v. Passes v proofs known1 fact) (sym (views parts g at)) (passes_more (view code f at) proofs known known1 k fact (looked code proofs g at known fact c)))

  carried_back : (at : ℕ) (known known1 : Fact → Type 0) → ((p : Fact) → known p → known1 p) → (fact : Fact) → Carried bare proofs g at known fact → Carried code proofs g at known1 fact
  carried_back at known known1 k fact c = seen code proofs g at known1 fact (subst (λ v. Passes v proofs known1 fact) (views parts g at) (passes_more (view bare f1 at) proofs known known1 k fact (looked bare proofs g at known fact c)))

  same_copies : copies f1 ≡ copies f
  same_copies = ap copies (function_is parts g)

  begins_there : (fact : Fact) → Begins code proofs g fact → Begins bare proofs g fact
  begins_there fact b = record {
    over = subst (λ (v : View). IsTrue (is_over v.spare fact)) (sym (views parts g 0)) b.over;
    derived = subst (λ c. Derivable (variables bare f1) (λ p. proofs.entry g p || some_pair (entry_pairs c c) p) fact) (sym same_copies) (subst (λ n. Derivable n (λ p. proofs.entry g p || some_pair (entry_pairs (copies f) (copies f)) p) fact) (sym (same_variables parts g)) b.derived);
  }

  begins_back : (fact : Fact) → Begins bare proofs g fact → Begins code proofs g fact
  begins_back fact b = record {
    over = subst (λ (v : View). IsTrue (is_over v.spare fact)) (views parts g 0) b.over;
    derived = subst (λ c. Derivable (variables code f) (λ p. proofs.entry g p || some_pair (entry_pairs c c) p) fact) same_copies (subst (λ n. Derivable n (λ p. proofs.entry g p || some_pair (entry_pairs (copies f1) (copies f1)) p) fact) (same_variables parts g) b.derived);
  }

  either_more : (b c : Bool) (A X Y : Type 0) → b ≡ c → (X → Y) → either b A X → either c A Y
  either_more true true A X Y e k x = x
  either_more false false A X Y e k x = k x
  either_more true false A X Y e k x = absurd cc
  either_more false true A X Y e k x = absurd cc

  pub before_there : (at : ℕ) (fact : Fact) → Before code proofs g at fact → Before bare proofs g at fact
  before_there zero fact b = either_more (is_target f 0) (is_target f1 0) (IsTrue (proofs.before g 0 fact)) (Begins code proofs g fact) (Begins bare proofs g fact) (sym (same_target parts g 0)) (begins_there fact) b
  before_there (suc at) fact b =
      either_more (is_target f (suc at)) (is_target f1 (suc at)) (IsTrue (proofs.before g (suc at) fact)) (Carried code proofs g at (Before code proofs g at) fact) (Carried bare proofs g at (Before bare proofs g at) fact) (sym (same_target parts g (suc at)))
      (carried_there at (Before code proofs g at) (Before bare proofs g at) (before_there at) fact) b

  pub before_back : (at : ℕ) (fact : Fact) → Before bare proofs g at fact → Before code proofs g at fact
  before_back zero fact b = either_more (is_target f1 0) (is_target f 0) (IsTrue (proofs.before g 0 fact)) (Begins bare proofs g fact) (Begins code proofs g fact) (same_target parts g 0) (begins_back fact) b
  before_back (suc at) fact b =
      either_more (is_target f1 (suc at)) (is_target f (suc at)) (IsTrue (proofs.before g (suc at) fact)) (Carried bare proofs g at (Before bare proofs g at) fact) (Carried code proofs g at (Before code proofs g at) fact) (same_target parts g (suc at))
      (carried_back at (Before bare proofs g at) (Before code proofs g at) (before_back at) fact) b

  -- ---- what follows

  module _ (at : ℕ) where
    before_follows : (fact : Fact) → Follows (variables code f) (Before code proofs g at) fact → Follows (variables bare f1) (Before bare proofs g at) fact
    before_follows fact c = subst (λ n. Follows n (Before bare proofs g at) fact) (sym (same_variables parts g)) (follows_more (variables code f) (Before code proofs g at) (Before bare proofs g at) (before_there at) fact c)

    behind_follows : (fact : Fact) → Follows (variables code f) (Carried code proofs g at (Before code proofs g at)) fact → Follows (variables bare f1) (Carried bare proofs g at (Before bare proofs g at)) fact
    behind_follows fact c = subst (λ n. Follows n (Carried bare proofs g at (Before bare proofs g at)) fact) (sym (same_variables parts g))
        (follows_more (variables code f) (Carried code proofs g at (Before code proofs g at)) (Carried bare proofs g at (Before bare proofs g at)) (carried_there at (Before code proofs g at) (Before bare proofs g at) (before_there at)) fact c)

    follows_before : (fact : Fact) → Follows (variables bare f1) (Before bare proofs g at) fact → Follows (variables code f) (Before code proofs g at) fact
    follows_before fact c = subst (λ n. Follows n (Before code proofs g at) fact) (same_variables parts g) (follows_more (variables bare f1) (Before bare proofs g at) (Before code proofs g at) (before_back at) fact c)

    follows_behind : (fact : Fact) → Follows (variables bare f1) (Carried bare proofs g at (Before bare proofs g at)) fact → Follows (variables code f) (Carried code proofs g at (Before code proofs g at)) fact
    follows_behind fact c = subst (λ n. Follows n (Carried code proofs g at (Before code proofs g at)) fact) (same_variables parts g)
        (follows_more (variables bare f1) (Carried bare proofs g at (Before bare proofs g at)) (Carried code proofs g at (Before code proofs g at)) (carried_back at (Before bare proofs g at) (Before code proofs g at) (before_back at)) fact c)

    same_way : (i : Instruction) (to : ℕ) → Way (unmarked_instruction i) at to ≡ Way i at to
    same_way (instruction.Store path proved) to = refl
    same_way i to = refl

    same_ways : (to : ℕ) → Way (instruction_at f1 at) at to ≡ Way (instruction_at f at) at to
    same_ways to = ap (λ i. Way i at to) (same_at parts g at) ∙ same_way (instruction_at f at) to

    entry_there : (i : Instruction) → EntryIsGiven code proofs g at i → EntryIsGiven bare proofs g at (unmarked_instruction i)
    entry_there (instruction.Call h pins) given = λ fact is. subst (λ ps. Follows (variables bare f1) (Before bare proofs g at) (fact_with (λ v. get_or ps v 0) fact)) (sym (same_arguments parts g h at)) (before_follows _ (given fact is))
    entry_there (instruction.Store path proved) given = tt
    entry_there i given = given

    entry_back : (i : Instruction) → EntryIsGiven bare proofs g at (unmarked_instruction i) → EntryIsGiven code proofs g at i
    entry_back (instruction.Call h pins) given = λ fact is. follows_before _ (subst (λ ps. Follows (variables bare f1) (Before bare proofs g at) (fact_with (λ v. get_or ps v 0) fact)) (same_arguments parts g h at) (given fact is))
    entry_back (instruction.Store path proved) given = tt
    entry_back i given = given

    renames : (renamed (copies f1) (result_variable bare f1)) ≡ renamed (copies f) (result_variable code f)
    renames = ap (λ c. renamed c (result_variable bare f1)) same_copies ∙ ap (renamed (copies f)) (same_answer parts g)

    exit_there : (i : Instruction) → ExitIsGiven code proofs g at i → ExitIsGiven bare proofs g at (unmarked_instruction i)
    exit_there (instruction.Simple simple.Return) given = λ fact is. subst (λ name. Follows (variables bare f1) (Carried bare proofs g at (Before bare proofs g at)) (fact_with name fact)) (sym renames) (behind_follows _ (given fact is))
    exit_there (instruction.Store path proved) given = tt
    exit_there i given = given

    exit_back : (i : Instruction) → ExitIsGiven bare proofs g at (unmarked_instruction i) → ExitIsGiven code proofs g at i
    exit_back (instruction.Simple simple.Return) given = λ fact is. follows_behind _ (subst (λ name. Follows (variables bare f1) (Carried bare proofs g at (Before bare proofs g at)) (fact_with name fact)) renames (given fact is))
    exit_back (instruction.Store path proved) given = tt
    exit_back i given = given

    no_check : (i : Instruction) → CheckIsProved bare proofs g at (unmarked_instruction i)
    no_check (instruction.Store path proved) = tt
    no_check (instruction.Constant kind value) = tt
    no_check (instruction.Global global) = tt
    no_check (instruction.Get local) = tt
    no_check (instruction.Set local) = tt
    no_check (instruction.Load p) = tt
    no_check (instruction.Typed typed type) = tt
    no_check (instruction.Arithmetic arithmetic kind) = tt
    no_check (instruction.Move type kind direction) = tt
    no_check (instruction.Simple simple) = tt
    no_check (instruction.Delete pins) = tt
    no_check (instruction.Call function pins) = tt
    no_check (instruction.Jump jump target) = tt

  abbrev Starts : ℕ → Function → (copies : ℕ) → Type 0
  Starts n k c = is_target k 0 ≡ true → (fact : Fact) → IsTrue (proofs.before g 0 fact) → Derivable n (λ p. proofs.entry g p || some_pair (entry_pairs c c) p) fact

  abbrev MainBegins : (copies : ℕ) → Type 0
  MainBegins c = g ≡ parts.main → (fact : Fact) → IsTrue (proofs.entry g fact) → Derivable c (λ p. false) fact

  first_there : EntryIsProved code proofs g 0 → EntryIsProved bare proofs g 0
  first_there p = record {
    target = λ is. subst (λ n. Starts n f1 (copies f1)) (sym (same_variables parts g)) (subst (λ c. Starts (variables code f) f1 c) (sym same_copies) (λ is1. p.target (sym (same_target parts g 0) ∙ is1))) is;
    main = subst MainBegins (sym same_copies) p.main;
  }

  first_back : EntryIsProved bare proofs g 0 → EntryIsProved code proofs g 0
  first_back p = record {
    target = λ is. subst (λ n. Starts n f1 (copies f)) (same_variables parts g) (subst (λ c. Starts (variables bare f1) f1 c) same_copies p.target) (same_target parts g 0 ∙ is);
    main = subst MainBegins same_copies p.main;
  }

  at_there : (at : ℕ) → AtEntry code proofs g at at → AtEntry bare proofs g at at
  at_there zero p = first_there p
  at_there (suc at) p = p

  at_back : (at : ℕ) → AtEntry bare proofs g at at → AtEntry code proofs g at at
  at_back zero p = first_back p
  at_back (suc at) p = p

  pub bare_there : (at : ℕ) → ProvedBare code proofs g at → Proved bare proofs g at
  bare_there at p = record {
    targets = λ to way is fact has. behind_follows at fact (p.targets to (subst (λ (T : Type 0). T) (same_ways at to) way) (sym (same_target parts g to) ∙ is) fact has);
    entry = subst (EntryIsGiven bare proofs g at) (sym (same_at parts g at)) (entry_there at (instruction_at f at) p.entry);
    exit = subst (ExitIsGiven bare proofs g at) (sym (same_at parts g at)) (exit_there at (instruction_at f at) p.exit);
    check = subst (CheckIsProved bare proofs g at) (sym (same_at parts g at)) (no_check at (instruction_at f at));
    first = at_there at p.first;
  }

  pub bare_back : (at : ℕ) → Proved bare proofs g at → ProvedBare code proofs g at
  bare_back at p = record {
    targets = λ to way is fact has. follows_behind at fact (p.targets to (subst (λ (T : Type 0). T) (sym (same_ways at to)) way) (same_target parts g to ∙ is) fact has);
    entry = entry_back at (instruction_at f at) (subst (EntryIsGiven bare proofs g at) (same_at parts g at) p.entry);
    exit = exit_back at (instruction_at f at) (subst (ExitIsGiven bare proofs g at) (same_at parts g at) p.exit);
    first = at_back at p.first;
  }
