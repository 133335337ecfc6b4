-- References taken back one after the other, and those that the cells of a region count.
use Rattle.std.proofs.Common.{◌≡◌, ◌≢◌, ◌<◌, ◌≤◌, ◌+◌, ◌-◌, ◌*◌, ◌∙◌, ◌⊎◌, inl, inr, ℕ, zero, suc, Bool, true, false, cond, nat_eq, List, [], ◌∷◌, ◌++◌, length, take, drop, replicate, get_or, set, Option, Some, None, refl, sym, ap, arith, rules, append-nil, get_or-set_other, get_or-set_same, length-drop}
use Rattle.std.specs.Prelude.{◌&&◌, ◌||◌, flat_map, option_map, zip}
use Rattle.std.specs.List.{count_by, sum_by}
use Rattle.std.proofs.Math.Seq.{map-set_same}
use Rattle.std.proofs.lemmas.Bool.{cases_eq, false≢true}
use Rattle.std.proofs.lemmas.List.{drop-drop, get_or-drop, length-take-le, replicate-append-replicate, take-append-drop, take_more}
use Rattle.std.proofs.lemmas.List.Concat.{flat_map-append, flat_map-cons}
use Rattle.std.proofs.lemmas.List.Sums.{sum_by-cons, sum_by_more, sum_by_more_le}
use Rattle.rc_core.specs.declared.layouts.Kind.{Kind}
use Rattle.rc_core.specs.declared.layouts.Kind.TheVariants.{Number as NumberKind}
use Rattle.rc_core.specs.Heap.{Value, names}
use Rattle.rc_store.specs.Kept.{object_refs}
use Rattle.rc_store.specs.Values.{is_counted}
use Rattle.rc_cells.specs.Codes.{decoded}
use Rattle.rc_cells.specs.Follow.{cell_refs}
use Rattle.rc_slots.specs.declared.entry.Entry.{Entry}
use Rattle.rc_slots.specs.Entries.{IsEntry, counted, entry_at, lowered, member_of, members_of, raised}
use Rattle.rc_areas.specs.Shapes.{Shape, has_counted}
use Rattle.rc_areas.specs.Areas.{AreLaid, AreaState, IsLaid, kinds_in, object_from, objects_from, objects_of, size_in, values_from}
use Rattle.rc_areas.specs.declared.head.Head.{Head}
use Rattle.rc_areas.proofs.Objects.{length-again, shape_is, start_is}
use Rattle.rc_tally.specs.Tally.{IsGiven, IsTaken, codes_refs, held_refs, pin_refs, value_refs}

-- nothing was taken
pub taken_none : (d : List (Option Entry)) (by : ℕ → ℕ) → ((r : ℕ) → by r ≡ 0) → IsTaken d d by
taken_none d by none = record { counts = λ r. omega (arith, none r); members = refl }

-- one after the other
pub taken_more : (a b c : List (Option Entry)) (f g h : ℕ → ℕ) → IsTaken a b f → IsTaken b c g → ((r : ℕ) → h r ≡ f r + g r) → IsTaken a c h
taken_more a b c f g h first second both = record {
  counts = λ r. omega (arith, first.counts r, second.counts r, both r);
  members = second.members ∙ first.members;
}

-- what is left is enough for the next
pub enough_left : (a b : List (Option Entry)) (f g h : ℕ → ℕ) → IsTaken a b f → ((r : ℕ) → h r ≤ counted (entry_at a r)) → ((r : ℕ) → f r + g r ≤ h r) → (r : ℕ) → g r ≤ counted (entry_at b r)
enough_left a b f g h first all both r = omega (arith, first.counts r, all r, both r)

-- the same, said in another way
pub taken_as : (a b : List (Option Entry)) (f g : ℕ → ℕ) → IsTaken a b f → ((r : ℕ) → g r ≡ f r) → IsTaken a b g
taken_as a b f g taken same = record { counts = λ r. omega (arith, taken.counts r, same r); members = taken.members }

pub given_as : (a b : List (Option Entry)) (f g : ℕ → ℕ) → IsGiven a b f → ((r : ℕ) → g r ≡ f r) → IsGiven a b g
given_as a b f g given same = record { counts = λ r. omega (arith, given.counts r, same r); members = given.members }

same_lowered : (e : Option Entry) → option_map member_of (lowered e) ≡ option_map member_of e
same_lowered None = refl
same_lowered (Some e) = refl

same_raised : (e : Option Entry) → option_map member_of (raised e) ≡ option_map member_of e
same_raised None = refl
same_raised (Some e) = refl

lowered_count : (e : Option Entry) → 0 < counted e → counted (lowered e) + 1 ≡ counted e
lowered_count None some = absurd (omega (arith, some))
lowered_count (Some e) some = omega (arith, some)

raised_count : (e : Option Entry) → IsEntry e → counted (raised e) ≡ counted e + 1
raised_count None live = absurd (false≢true live)
raised_count (Some e) live = refl

there : (d : List (Option Entry)) (n : ℕ) → IsEntry (entry_at d n) → n < length d
there [] n live = absurd (false≢true live)
there (e ∷ es) zero live = omega arith
there (e ∷ es) (suc n) live = omega (arith, there es n live)

counted_entry : (e : Option Entry) → 0 < counted e → IsEntry e
counted_entry None some = absurd (omega (arith, some))
counted_entry (Some e) some = refl

-- one reference to a region
abbrev one : ℕ → ℕ → ℕ
one n r = cond (nat_eq n r) 1 0

changed_counts : (d : List (Option Entry)) (n : ℕ) (e : Option Entry) → n < length d → (r : ℕ) → ((nat_eq n r ≡ true) × (counted (entry_at (set d n e) r) ≡ counted e) × (counted (entry_at d r) ≡ counted (entry_at d n))) ⊎ ((nat_eq n r ≡ false) × (counted (entry_at (set d n e) r) ≡ counted (entry_at d r)))
changed_counts d n e inside r = elim (cases_eq r n) [
  | inl same ↦ inl (ap (nat_eq n) same ∙ itself n, ap (λ k. counted (entry_at (set d n e) k)) same ∙ ap counted (get_or-set_same d n e None inside), ap (λ k. counted (entry_at d k)) same)
  | inr apart ↦ inr (other n r (λ e. apart (sym e)), ap counted (get_or-set_other d n r e None apart))
]
  where
    itself : (n : ℕ) → nat_eq n n ≡ true
    itself n = search rules

    other : (m n : ℕ) → m ≢ n → nat_eq m n ≡ false
    other m n apart = search (rules, apart)

pub taken_one : (d new : List (Option Entry)) (n : ℕ) → 0 < counted (entry_at d n) → new ≡ set d n (lowered (entry_at d n)) → IsTaken d new (one n)
taken_one d new n some is = record {
  counts = λ r. elim (changed_counts d n (lowered (entry_at d n)) (there d n (counted_entry (entry_at d n) some)) r) [
    | inl same ↦ omega (arith, ap (λ b. cond {A = ℕ} b 1 0) same.0, same.1, same.2, lowered_count (entry_at d n) some, ap (λ es. counted (entry_at es r)) is)
    | inr apart ↦ omega (arith, ap (λ b. cond {A = ℕ} b 1 0) apart.0, apart.1, ap (λ es. counted (entry_at es r)) is)
  ];
  members = ap members_of is ∙ map-set_same (option_map member_of) d n (lowered (entry_at d n)) None (same_lowered (entry_at d n));
}

pub given_one : (d new : List (Option Entry)) (n : ℕ) → IsEntry (entry_at d n) → new ≡ set d n (raised (entry_at d n)) → IsGiven d new (one n)
given_one d new n live is = record {
  counts = λ r. elim (changed_counts d n (raised (entry_at d n)) (there d n live) r) [
    | inl same ↦ omega (arith, ap (λ b. cond {A = ℕ} b 1 0) same.0, same.1, same.2, raised_count (entry_at d n) live, ap (λ es. counted (entry_at es r)) is)
    | inr apart ↦ omega (arith, ap (λ b. cond {A = ℕ} b 1 0) apart.0, apart.1, ap (λ es. counted (entry_at es r)) is)
  ];
  members = ap members_of is ∙ map-set_same (option_map member_of) d n (raised (entry_at d n)) None (same_raised (entry_at d n));
}

-- a value that names n
module _ (n : ℕ) (v : Value) (named : (r : ℕ) → nat_eq n r ≡ names r v) where
  pin_is : (r : ℕ) → pin_refs r v ≡ one n r
  pin_is r = ap (λ b. cond {A = ℕ} b 1 0) (sym (named r))

  pin_here : pin_refs n v ≡ 1
  pin_here = ap (λ b. cond {A = ℕ} b 1 0) (sym (named n) ∙ itself n)
    where
      itself : (n : ℕ) → nat_eq n n ≡ true
      itself n = search rules

  module _ (holder : ℕ) (apart : n ≢ holder) where
    other : (a b : ℕ) → a ≢ b → nat_eq a b ≡ false
    other a b apart = search (rules, apart)

    value_is : (r : ℕ) → value_refs r holder v ≡ one n r
    value_is r = elim (cases_eq holder r) [
      | inl same ↦ ap (λ b. cond b 0 (pin_refs r v)) (ap (nat_eq holder) (sym same) ∙ itself holder) ∙ sym (ap (λ b. cond {A = ℕ} b 1 0) (ap (nat_eq n) (sym same) ∙ other n holder apart))
      | inr far ↦ ap (λ b. cond b 0 (pin_refs r v)) (other holder r far) ∙ pin_is r
    ]
      where
        itself : (n : ℕ) → nat_eq n n ≡ true
        itself n = search rules

    value_here : value_refs n holder v ≡ 1
    value_here = value_is n ∙ sym (pin_is n) ∙ pin_here

    pub value_taken : (d new : List (Option Entry)) → ((r : ℕ) → value_refs r holder v ≤ counted (entry_at d r)) → new ≡ set d n (lowered (entry_at d n)) → IsTaken d new (λ r. value_refs r holder v)
    value_taken d new enough is = taken_as d new (one n) (λ r. value_refs r holder v) (taken_one d new n (omega (arith, enough n, value_here)) is) value_is

    pub value_given : (d new : List (Option Entry)) → ((r : ℕ) → 0 < value_refs r holder v → IsEntry (entry_at d r)) → new ≡ set d n (raised (entry_at d n)) → IsGiven d new (λ r. value_refs r holder v)
    value_given d new live is = given_as d new (one n) (λ r. value_refs r holder v) (given_one d new n (live n (omega (arith, value_here))) is) value_is

  pub pin_taken : (d new : List (Option Entry)) → ((r : ℕ) → pin_refs r v ≤ counted (entry_at d r)) → new ≡ set d n (lowered (entry_at d n)) → IsTaken d new (λ r. pin_refs r v)
  pin_taken d new enough is = taken_as d new (one n) (λ r. pin_refs r v) (taken_one d new n (omega (arith, enough n, pin_here)) is) pin_is

  pub pin_given : (d new : List (Option Entry)) → ((r : ℕ) → 0 < pin_refs r v → IsEntry (entry_at d r)) → new ≡ set d n (raised (entry_at d n)) → IsGiven d new (λ r. pin_refs r v)
  pin_given d new live is = given_as d new (one n) (λ r. pin_refs r v) (given_one d new n (live n (omega (arith, pin_here))) is) pin_is

neither : (a b : Bool) → (a || b) ≡ false → (a ≡ false) × (b ≡ false)
neither true b none = absurd (false≢true (sym none))
neither false b none = (refl, none)

-- a shape again and again
abbrev pub again : ℕ → List Kind → List Kind
again n ks = flat_map (λ k. k) (replicate n ks)

again_plus : (m n : ℕ) (ks : List Kind) → again (m + n) ks ≡ again m ks ++ again n ks
again_plus m n ks = ap (flat_map (λ k. k)) (sym (replicate-append-replicate m n ks)) ∙ flat_map-append (λ k. k) (replicate m ks) (replicate n ks)

again_one : (ks : List Kind) → again 1 ks ≡ ks
again_one ks = flat_map-cons (λ k. k) ks [] ∙ append-nil ks

module _ (r holder : ℕ) where
  -- cells, and others behind them
  refs_append : (ks ls : List Kind) (cs : List ℕ) → codes_refs r holder (ks ++ ls) cs ≡ codes_refs r holder ks cs + codes_refs r holder ls (drop (length ks) cs)
  refs_append [] ls cs = omega arith
  refs_append (k ∷ ks) [] [] = refl
  refs_append (k ∷ ks) (l ∷ ls) [] = refl
  refs_append (k ∷ ks) ls (c ∷ cs) = omega (arith, refs_append ks ls cs)

  -- none of kinds that don't count
  none_counts : (counts h names : Bool) → counts ≡ false → cond h 0 (cond {A = ℕ} (counts && names) 1 0) ≡ 0
  none_counts true h names none = absurd (false≢true (sym none))
  none_counts false true names none = refl
  none_counts false false names none = refl

  refs_none : (ks : List Kind) (cs : List ℕ) → has_counted ks ≡ false → codes_refs r holder ks cs ≡ 0
  refs_none [] cs none = refl
  refs_none (k ∷ ks) [] none = refl
  refs_none (k ∷ ks) (c ∷ cs) none =
      let both = neither (is_counted k) (has_counted ks) none in
      omega (arith, none_counts (is_counted k) (nat_eq holder r) (names r (decoded k c)) both.0, refs_none ks cs both.1)

  pub again_none : (n : ℕ) (ks : List Kind) (cs : List ℕ) → has_counted ks ≡ false → codes_refs r holder (again n ks) cs ≡ 0
  again_none zero ks cs none = refl
  again_none (suc n) ks cs none =
      ap (λ ls. codes_refs r holder ls cs) (flat_map-cons (λ k. k) ks (replicate n ks))
      ∙ omega (arith, refs_append ks (again n ks) cs, refs_none ks cs none, again_none n ks (drop (length ks) cs) none)

  cell_there : (k : Kind) (cs : List ℕ) → 0 < length cs → codes_refs r holder (k ∷ []) cs ≡ cell_refs r holder k (decoded k (get_or cs 0 0))
  cell_there k [] some = absurd (omega (arith, some))
  cell_there k (c ∷ cs) some = omega arith

  -- one cell more of an element
  module _ (ks : List Kind) (codes : List ℕ) (at i : ℕ) (within : i < length ks) (inside : at + i < length codes) where
    abbrev cell_here : ℕ
    cell_here = cell_refs r holder (get_or ks i NumberKind) (decoded (get_or ks i NumberKind) (get_or codes (at + i) 0))

    next : codes_refs r holder (get_or ks i NumberKind ∷ []) (drop i (drop at codes)) ≡ cell_here
    next =
        cell_there (get_or ks i NumberKind) (drop i (drop at codes)) (omega (arith, inside, length-drop i (drop at codes), length-drop at codes))
        ∙ ap (λ n. cell_refs r holder (get_or ks i NumberKind) (decoded (get_or ks i NumberKind) n)) (get_or-drop i (drop at codes) 0 0 ∙ get_or-drop at codes (i + 0) 0 ∙ ap (λ n. get_or codes n 0) (omega arith))

    pub cell_more : codes_refs r holder (take (i + 1) ks) (drop at codes) ≡ codes_refs r holder (take i ks) (drop at codes) + cell_here
    cell_more =
        ap (λ l. codes_refs r holder l (drop at codes)) (take_more ks i NumberKind within)
        ∙ refs_append (take i ks) (get_or ks i NumberKind ∷ []) (drop at codes)
        ∙ ap (λ n. codes_refs r holder (take i ks) (drop at codes) + codes_refs r holder (get_or ks i NumberKind ∷ []) (drop n (drop at codes))) (length-take-le i ks (omega (arith, within)))
        ∙ ap (λ n. codes_refs r holder (take i ks) (drop at codes) + n) next

    pub cell_less : codes_refs r holder (take i ks) (drop at codes) + cell_here ≤ codes_refs r holder ks (drop at codes)
    cell_less =
        let all : codes_refs r holder ks (drop at codes) ≡ codes_refs r holder (take (i + 1) ks) (drop at codes) + codes_refs r holder (drop (i + 1) ks) (drop (length (take (i + 1) ks)) (drop at codes)) =
        ap (λ l. codes_refs r holder l (drop at codes)) (sym (take-append-drop (i + 1) ks)) ∙ refs_append (take (i + 1) ks) (drop (i + 1) ks) (drop at codes) in
        omega (arith, all, cell_more)

  -- one element more of an object
  module _ (ks : List Kind) (codes : List ℕ) (at i place : ℕ) (is : place ≡ at + i * length ks) where
    behind : drop (length (again i ks)) (drop at codes) ≡ drop place codes
    behind = ap (λ n. drop n (drop at codes)) (length-again i ks) ∙ drop-drop (i * length ks) at codes ∙ ap (λ n. drop n codes) (sym is)

    pub element_more : codes_refs r holder (again (i + 1) ks) (drop at codes) ≡ codes_refs r holder (again i ks) (drop at codes) + codes_refs r holder ks (drop place codes)
    element_more =
        ap (λ l. codes_refs r holder l (drop at codes)) (again_plus i 1 ks ∙ ap (λ l. again i ks ++ l) (again_one ks))
        ∙ refs_append (again i ks) ks (drop at codes)
        ∙ ap (λ cs. codes_refs r holder (again i ks) (drop at codes) + codes_refs r holder ks cs) behind

    pub element_less : (n : ℕ) → i < n → codes_refs r holder (again i ks) (drop at codes) + codes_refs r holder ks (drop place codes) ≤ codes_refs r holder (again n ks) (drop at codes)
    element_less n more =
        let all : codes_refs r holder (again n ks) (drop at codes) ≡ codes_refs r holder (again (i + 1) ks) (drop at codes) + codes_refs r holder (again (n - (i + 1)) ks) (drop (length (again (i + 1) ks)) (drop at codes)) =
        ap (λ m. codes_refs r holder (again m ks) (drop at codes)) (omega (arith, more))
        ∙ ap (λ l. codes_refs r holder l (drop at codes)) (again_plus (i + 1) (n - (i + 1)) ks)
        ∙ refs_append (again (i + 1) ks) (again (n - (i + 1)) ks) (drop at codes) in
        omega (arith, all, element_more)

  -- what cells count by their values
  abbrev is_ref : Kind × Value → Bool
  is_ref c = is_counted c.0 && names r c.1

  outside : nat_eq holder r ≡ false → (ks : List Kind) (cs : List ℕ) → codes_refs r holder ks cs ≡ count_by is_ref (zip ks (values_from ks cs))
  outside apart [] cs = refl
  outside apart (k ∷ ks) [] = refl
  outside apart (k ∷ ks) (c ∷ cs) =
      ap (λ b. cond b 0 (cond (is_ref (k, decoded k c)) 1 0) + codes_refs r holder ks cs) apart
      ∙ ap (λ n. cond (is_ref (k, decoded k c)) 1 0 + n) (outside apart ks cs)
      ∙ sym (sum_by-cons (λ (x : Kind × Value). cond (is_ref x) 1 0) (k, decoded k c) (zip ks (values_from ks cs)))

  inside_none : nat_eq holder r ≡ true → (ks : List Kind) (cs : List ℕ) → codes_refs r holder ks cs ≡ 0
  inside_none same [] cs = refl
  inside_none same (k ∷ ks) [] = refl
  inside_none same (k ∷ ks) (c ∷ cs) = omega (arith, ap (λ b. cond {A = ℕ} b 0 (cond (is_ref (k, decoded k c)) 1 0)) same, inside_none same ks cs)

  module _ (shapes : List Shape) (codes : List ℕ) where
    -- what an object's cells count
    abbrev pub head_refs : Head → ℕ
    head_refs h = codes_refs r holder (kinds_in shapes h) (drop h.start codes)

    heads_outside : nat_eq holder r ≡ false → (at : ℕ) (heads : List Head) → AreLaid shapes at heads → sum_by head_refs heads ≡ sum_by (object_refs r) (objects_from shapes heads (drop at codes))
    heads_outside apart at [] laid = refl
    heads_outside apart at (h ∷ hs) laid =
        sum_by-cons head_refs h hs
        ∙ ap (λ n. n + sum_by head_refs hs) (outside apart (kinds_in shapes h) (drop h.start codes) ∙ ap (λ n. count_by is_ref (zip (kinds_in shapes h) (values_from (kinds_in shapes h) (drop n codes)))) laid.0)
        ∙ ap (λ n. object_refs r (object_from shapes h (drop at codes)) + n) (heads_outside apart (at + size_in shapes h) hs laid.2)
        ∙ ap (λ cs. object_refs r (object_from shapes h (drop at codes)) + sum_by (object_refs r) (objects_from shapes hs cs)) (sym (drop-drop (size_in shapes h) at codes ∙ ap (λ n. drop n codes) (omega arith)))
        ∙ sym (sum_by-cons (object_refs r) (object_from shapes h (drop at codes)) (objects_from shapes hs (drop (size_in shapes h) (drop at codes))))

    heads_none : nat_eq holder r ≡ true → (heads : List Head) → sum_by head_refs heads ≡ 0
    heads_none same [] = refl
    heads_none same (h ∷ hs) = omega (arith, sum_by-cons head_refs h hs, inside_none same (kinds_in shapes h) (drop h.start codes), heads_none same hs)

    pub heads_held : (heads : List Head) → AreLaid shapes 0 heads → held_refs r holder (objects_from shapes heads codes) ≡ sum_by head_refs heads
    heads_held heads laid = by (nat_eq holder r) refl
      where
        by : (b : Bool) → nat_eq holder r ≡ b → held_refs r holder (objects_from shapes heads codes) ≡ sum_by head_refs heads
        by true same = ap (λ c. cond c 0 (sum_by (object_refs r) (objects_from shapes heads codes))) same ∙ sym (heads_none same heads)
        by false apart = ap (λ c. cond c 0 (sum_by (object_refs r) (objects_from shapes heads codes))) apart ∙ sym (heads_outside apart 0 heads laid)

-- the objects of a region, one after the other
module _ (shapes : List Shape) (a : AreaState) (laid : IsLaid shapes a) (o : ℕ) (inside : o < length a.heads) (d : Head) where
  abbrev head : Head
  head = get_or a.heads o d

  pub head_shape : head.shape < length shapes
  head_shape = shape_is shapes a.heads 0 o d laid.heads inside

  -- with its shape
  module _ (ks : Shape) (shape : ks ≡ get_or shapes head.shape []) where
    pub head_inside : head.start + head.count * length ks ≤ length a.codes
    head_inside =
        let sum = sum_by_more_le (size_in shapes) a.heads o d inside in
        let size : head.count * length ks ≡ size_in shapes head = ap (λ l. head.count * length l) shape in
        omega (arith, sum, size, start_is shapes a.heads 0 o d laid.heads inside, laid.cells)

    module _ (r holder : ℕ) where
      abbrev counts : Head → ℕ
      counts = head_refs r holder shapes a.codes

      here : codes_refs r holder (again head.count ks) (drop head.start a.codes) ≡ counts head
      here = ap (λ l. codes_refs r holder (again head.count l) (drop head.start a.codes)) shape

      pub head_more : sum_by counts (take (o + 1) a.heads) ≡ sum_by counts (take o a.heads) + codes_refs r holder (again head.count ks) (drop head.start a.codes)
      head_more = omega (arith, sum_by_more counts a.heads o d inside, here)

      pub head_less : sum_by counts (take o a.heads) + codes_refs r holder (again head.count ks) (drop head.start a.codes) ≤ held_refs r holder (objects_of shapes a)
      head_less = omega (arith, sum_by_more_le counts a.heads o d inside, here, heads_held r holder shapes a.codes a.heads laid.heads)

pub suc_times : (a b : ℕ) → (a + 1) * b ≡ a * b + b
suc_times a b = omega arith

pub mul_mono : (a b c : ℕ) → a ≤ b → a * c ≤ b * c
mul_mono zero b c low = omega arith
mul_mono (suc a) zero c low = absurd (omega (arith, low))
mul_mono (suc a) (suc b) c low = let rest = mul_mono a b c (omega (arith, low)) in omega (arith, rest, suc_times a c, suc_times b c)
