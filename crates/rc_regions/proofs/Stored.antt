-- What a write to a record does to the columns.
use Rattle.std.proofs.Common.{◌≡◌, ◌<◌, inl, inr, ℕ, suc, zero, List, [], ◌∷◌, ◌++◌, Option, None, length, map, set, get_or, refl, sym, ap, ◌∙◌, arith, get_or-set_same, get_or-set_other}
use Rattle.std.proofs.lemmas.Bool.{cases_eq}
use Rattle.std.proofs.Math.Path.{fun_ext}
use Rattle.std.proofs.lemmas.List.{map-set, length-map, get_or-map, map-append}
use Rattle.std.proofs.Math.Seq.{map-set_same}
use Rattle.rc_regions.specs.declared.record.Slot.{Slot}
use Rattle.rc_regions.specs.declared.record.Slot.TheVariants.{Free}
use Rattle.rc_regions.specs.declared.record.Record.{Record}
use Rattle.rc_regions.specs.Columns.{Columns, column, columns, grown, slots_of, written}
use Rattle.rc_regions.specs.Lists.{placed}
use Rattle.rc_regions.proofs.Writes.{written_same, written_other}

-- a write to a list, read at every place
get_or-written : {A : Type 0} (xs : List A) (s : ℕ) (x d : A) → s < length xs → (λ t. get_or (set xs s x) t d) ≡ written (λ t. get_or xs t d) s x
get_or-written xs s x d below = fun_ext (λ t. elim (cases_eq t s) [
  | inl e ↦ ap (λ n. get_or (set xs s x) n d) e ∙ get_or-set_same xs s x d below ∙ sym (written_same (λ t. get_or xs t d) s x) ∙ ap (written (λ t. get_or xs t d) s x) (sym e)
  | inr apart ↦ get_or-set_other xs s t x d apart ∙ sym (written_other (λ t. get_or xs t d) s t x apart)
])

-- the column of a field that the write changes
column-set : {A : Type 0} (field : Record → A) (beyond : A) (records : List Record) (s : ℕ) (r : Record) → s < length records → column field beyond (set records s r) ≡ written (column field beyond records) s (field r)
column-set field beyond records s r below =
    ap (λ xs. λ t. get_or xs t beyond) (map-set field records s r) ∙ get_or-written (map field records) s (field r) beyond (omega (arith, length-map records field, below))

-- the column of a field that it keeps
column-kept : {A : Type 0} (field : Record → A) (beyond : A) (records : List Record) (s : ℕ) (r d : Record) → field r ≡ field (get_or records s d) → column field beyond (set records s r) ≡ column field beyond records
column-kept field beyond records s r d same = ap (λ xs. λ t. get_or xs t beyond) (map-set_same field records s r d same)

columns_equal : (slots slots' : List Slot) (first_free : Option ℕ) (first_child first_child' previous previous' next next' : ℕ → Option ℕ) (depth depth' : ℕ → ℕ) (links : ℕ → List ℕ)
    → slots ≡ slots' → first_child ≡ first_child' → previous ≡ previous' → next ≡ next' → depth ≡ depth'
    → let a : Columns = record { slots = slots; first_free = first_free; first_child = first_child; previous = previous; next = next; depth = depth; links = links } in
    let b : Columns = record { slots = slots'; first_free = first_free; first_child = first_child'; previous = previous'; next = next'; depth = depth'; links = links } in
    a ≡ b
columns_equal slots slots' first_free first_child first_child' previous previous' next next' depth depth' links a b c d e = cc

-- a record that was read is written back with changes
module _ (records : List Record) (ways : List (List ℕ)) (free : Option ℕ) (s : ℕ) (now : Record) (made : s < length (columns records ways free).slots) (was : now ≡ get_or records s now) where
  below : s < length records
  below = omega (arith, length-map records (λ r. r.slot), made)

  kept : {A : Type 0} (field : Record → A) (beyond : A) (r : Record) → field r ≡ field now → column field beyond (set records s r) ≡ column field beyond records
  kept field beyond r same = column-kept field beyond records s r now (same ∙ ap field was)

  kept_slots : (r : Record) → r.slot ≡ now.slot → map (λ x. x.slot) (set records s r) ≡ map (λ x. x.slot) records
  kept_slots r same = map-set_same (λ x. x.slot) records s r now (same ∙ ap (λ x. x.slot) was)

  pub columns-first_child : (child : Option ℕ) → columns (set records s (record now { first_child = child })) ways free ≡ record (columns records ways free) { first_child = written (columns records ways free).first_child s child }
  columns-first_child child =
      let r : Record = record now { first_child = child } in
      columns_equal _ _ _ _ _ _ _ _ _ _ _ _ (kept_slots r refl) (column-set (λ x. x.first_child) None records s r below) (kept (λ x. x.previous) None r refl) (kept (λ x. x.next) None r refl) (kept (λ x. x.depth) 0 r refl)

  pub columns-next : (next : Option ℕ) → columns (set records s (record now { next = next })) ways free ≡ record (columns records ways free) { next = written (columns records ways free).next s next }
  columns-next next =
      let r : Record = record now { next = next } in
      columns_equal _ _ _ _ _ _ _ _ _ _ _ _ (kept_slots r refl) (kept (λ x. x.first_child) None r refl) (kept (λ x. x.previous) None r refl) (column-set (λ x. x.next) None records s r below) (kept (λ x. x.depth) 0 r refl)

  pub columns-previous : (previous : Option ℕ) → columns (set records s (record now { previous = previous })) ways free ≡ record (columns records ways free) { previous = written (columns records ways free).previous s previous }
  columns-previous previous =
      let r : Record = record now { previous = previous } in
      columns_equal _ _ _ _ _ _ _ _ _ _ _ _ (kept_slots r refl) (kept (λ x. x.first_child) None r refl) (column-set (λ x. x.previous) None records s r below) (kept (λ x. x.next) None r refl) (kept (λ x. x.depth) 0 r refl)

  pub columns-placed : (list : Slot) (next : Option ℕ) → columns (set records s (record now { slot = list; previous = None; next = next })) ways free ≡ placed (columns records ways free) s list next
  columns-placed list next =
      let r : Record = record now { slot = list; previous = None; next = next } in
      columns_equal _ _ _ _ _ _ _ _ _ _ _ _ (map-set (λ x. x.slot) records s r) (kept (λ x. x.first_child) None r refl) (column-set (λ x. x.previous) None records s r below) (column-set (λ x. x.next) None records s r below) (kept (λ x. x.depth) 0 r refl)

  pub columns-depth : (depth : ℕ) → columns (set records s (record now { depth = depth })) ways free ≡ record (columns records ways free) { depth = written (columns records ways free).depth s depth }
  columns-depth depth =
      let r : Record = record now { depth = depth } in
      columns_equal _ _ _ _ _ _ _ _ _ _ _ _ (kept_slots r refl) (kept (λ x. x.first_child) None r refl) (kept (λ x. x.previous) None r refl) (kept (λ x. x.next) None r refl) (column-set (λ x. x.depth) 0 records s r below)

  -- what was read stands in the columns
  pub read : {A : Type 0} (field : Record → A) (beyond : A) → column field beyond records s ≡ field now
  read field beyond = get_or-map field records s now beyond below ∙ ap field (sym was)

pub slots-made : (records : List Record) (s : ℕ) → s < length (slots_of records) → s < length records
slots-made records s made = omega (arith, length-map records (λ r. r.slot), made)

-- what is beyond a list stands behind it as well
get_or-beyond : {A : Type 0} (xs : List A) (d : A) (t : ℕ) → get_or (xs ++ d ∷ []) t d ≡ get_or xs t d
get_or-beyond [] d zero = refl
get_or-beyond [] d (suc t) = refl
get_or-beyond (x ∷ xs) d zero = refl
get_or-beyond (x ∷ xs) d (suc t) = get_or-beyond xs d t

-- a record more whose fields are as beyond the last record
module _ (records : List Record) (ways : List (List ℕ)) (free : Option ℕ) (blank : Record) where
  beyond_kept : {A : Type 0} (field : Record → A) (beyond : A) → field blank ≡ beyond → column field beyond (records ++ blank ∷ []) ≡ column field beyond records
  beyond_kept field beyond same = fun_ext (λ t. ap (λ xs. get_or xs t beyond) (map-append field records (blank ∷ []) ∙ ap (λ x. map field records ++ x ∷ []) same) ∙ get_or-beyond (map field records) beyond t)

  pub columns-grown : blank.slot ≡ Free → blank.first_child ≡ None → blank.previous ≡ None → blank.next ≡ None → blank.depth ≡ 0 → columns (records ++ blank ∷ []) ways free ≡ grown (columns records ways free)
  columns-grown slot first_child previous next depth =
      columns_equal _ _ _ _ _ _ _ _ _ _ _ _ (map-append (λ x. x.slot) records (blank ∷ []) ∙ ap (λ x. map (λ r. r.slot) records ++ x ∷ []) slot) (beyond_kept (λ x. x.first_child) None first_child) (beyond_kept (λ x. x.previous) None previous) (beyond_kept (λ x. x.next) None next) (beyond_kept (λ x. x.depth) 0 depth)
