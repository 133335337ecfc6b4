-- Files that are loaded one behind the other.
use Rattle.std.proofs.Common.{◌≡◌, ◌∙◌, ◌<◌, ◌≤◌, ◌+◌, ℕ, List, [], ◌∷◌, ◌++◌, get_or, length, take, refl, sym, ap, subst, arith, inl, inr, length-append}
use Rattle.std.specs.Prelude.{Contains, Some, String, string_bytes}
use Rattle.std.specs.declared.alloc.Global.{Global}
use Rattle.std.proofs.lemmas.List.{get_or-map, length-map, take_more}
use Rattle.rc_base.specs.Causes.{Rose}
use Rattle.rc_base.specs.Shelves.{Names, ShelfState}
use Rattle.rc_answers.specs.declared.answer.Fault.{Fault}
use Rattle.rc_requests.specs.Asking.{bytes_of}
use Rattle.rc_outcomes.specs.Loading.{HoldInOrder, LoadAllCause, LoadCause, Loaded, LoadedAll, NotLoaded, NotLoadedAll, no_file, no_file_of_all, no_memory, no_memory_for_all}

module _ {T : Type 0} (Holds : T → List ℕ → Type 0) where
  -- of no file nothing is loaded
  pub loaded_none : (files : ShelfState) → LoadedAll Holds [] files files []
  loaded_none files = record { tells = refl; names = λ told. refl; kept = refl; count = refl; holds = λ told. tt }

  in_order_then : (files : Names) (wanted : List (List ℕ)) (all : List T) (name : List ℕ) (made : T) → HoldInOrder Holds files wanted all → (bytes : List ℕ) × (files name ≡ Some bytes) × Holds made bytes → HoldInOrder Holds files (wanted ++ name ∷ []) (all ++ made ∷ [])
  in_order_then files [] [] name made holds next = (next, tt)
  in_order_then files [] (other ∷ all) name made holds next = absurd holds
  in_order_then files (first ∷ wanted) [] name made holds next = absurd holds
  in_order_then files (first ∷ wanted) (other ∷ all) name made holds next = (holds.0, in_order_then files wanted all name made holds.1 next)

  -- one more
  pub loaded_then : (wanted : List (List ℕ)) (name : List ℕ) (a b c : ShelfState) (all : List T) (made : T) → LoadedAll Holds wanted a b all → Loaded name b c (Holds made) → LoadedAll Holds (wanted ++ name ∷ []) a c (all ++ made ∷ [])
  loaded_then wanted name a b c all made l one = record {
    tells = one.tells ∙ l.tells;
    names = λ told. one.names (l.tells ∙ told) ∙ l.names told;
    kept = one.kept ∙ l.kept;
    count = (let same = l.count in omega (arith, same, length-append all (made ∷ []), length-append wanted (name ∷ [])));
    holds = λ told. (let next = one.holds (l.tells ∙ told) in in_order_then a.names wanted all name made (l.holds told) (next.0, sym (ap (λ (names : Names). names name) (l.names told)) ∙ next.1, next.2));
  }

  -- or not
  module _ (whole wanted : List (List ℕ)) (name : List ℕ) (among : Contains whole name) (a b c : ShelfState) (all : List T) (l : LoadedAll Holds wanted a b all) where
    cause_then : (fault : Fault) → LoadCause name b c fault → LoadAllCause whole a c fault
    cause_then fault (no_file (inl lacks)) = no_file_of_all (inl (name, among, record { tells = sym l.tells ∙ lacks.tells; none = sym (ap (λ (names : Names). names name) (l.names (sym l.tells ∙ lacks.tells))) ∙ lacks.none }))
    cause_then fault (no_file (inr rose)) = no_file_of_all (inr (subst (λ (n : ℕ). Rose n c.faults) l.kept rose))
    cause_then fault (no_memory kept) = no_memory_for_all (kept ∙ l.kept)

    pub not_loaded_then : (fault : Fault) → NotLoaded name b c fault → NotLoadedAll whole a c fault
    not_loaded_then fault one = record {
      tells = one.tells ∙ l.tells;
      names = λ told. one.names (l.tells ∙ told) ∙ l.names told;
      never_falls = (let same = l.kept in let later = one.never_falls in omega (arith, same, later));
      cause = cause_then fault one.cause;
    }

-- a count that stayed has not fallen
pub unchanged : (after before : ShelfState) → after.faults ≡ before.faults → before.faults ≤ after.faults
unchanged after before same = omega (arith, same)

-- ---- the words of a request as names

-- a word's bytes stand where the word does
word_at : (words : List (String Global)) (i : ℕ) (word : String Global) → i < length words → word ≡ get_or words i word → get_or (bytes_of words) i (string_bytes word) ≡ string_bytes word
word_at words i word low is = get_or-map string_bytes words i word (string_bytes word) low ∙ ap string_bytes (sym is)

pub is_among : (words : List (String Global)) (i : ℕ) (word : String Global) → i < length words → word ≡ get_or words i word → Contains (bytes_of words) (string_bytes word)
is_among words i word low is = (i, (let long = length-map words string_bytes in omega (arith, low, long)), word_at words i word low is)

pub one_more : (words : List (String Global)) (i : ℕ) (word : String Global) → i < length words → word ≡ get_or words i word → take i (bytes_of words) ++ string_bytes word ∷ [] ≡ take (i + 1) (bytes_of words)
one_more words i word low is =
    ap (λ name. take i (bytes_of words) ++ name ∷ []) (sym (word_at words i word low is)) ∙ sym (take_more (bytes_of words) i (string_bytes word) (let long = length-map words string_bytes in omega (arith, low, long)))
