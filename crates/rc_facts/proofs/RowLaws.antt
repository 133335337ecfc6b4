-- What the operations on rows leave, from what their loops leave.
use Rattle.std.proofs.Common.{◌≡◌, ◌≢◌, ◌∙◌, ◌⊎◌, inl, inr, ◌+◌, ◌<◌, ◌≤◌, ℕ, Bool, true, false, not, ◌||◌, ◌&&◌, ◌==◌, nat_lt, cond, List, length, get_or, set, IsTrue, refl, sym, ap, arith, length-set}
use Rattle.std.proofs.lemmas.Bool.{cases_lt, cases_eq, eq-eqb, ne_eqb, or_cases, or_left, or_right, and_parts, and_from, both_ways, lt-ltb, le-ltb}
use Rattle.rc_facts.specs.Facts.{replaced}
use Rattle.rc_base.specs.BitSets.{marks}
use Rattle.rc_facts.specs.Rows.{links, Chain, link, join, Reached, here, next, either_step}
use Rattle.rc_facts.proofs.RowLoops.{links_beyond, links-set_same, links-set_other}

pub and_never : (b : Bool) → (b && false) ≡ false
and_never true = refl
and_never false = refl

and_same : (b c : Bool) → c ≡ true → (b && c) ≡ b
and_same true c e = e
and_same false c e = refl

or_always : (b : Bool) → (b || true) ≡ true
or_always true = refl
or_always false = refl

pub or_never : (b : Bool) → (b || false) ≡ b
or_never true = refl
or_never false = refl

is_itself : (x : ℕ) → (x == x) ≡ true
is_itself x = eq-eqb x x refl

-- a variable is cut off
pub cut_all : (before after : List ℕ) (gone none : ℕ) → gone < length after → ((y : ℕ) → marks none y ≡ false) → ((x y : ℕ) → links after x y ≡ (links before x y && not (y == gone))) → (x y : ℕ) → links (set after gone none) x y ≡ (links before x y && not (x == gone || y == gone))
cut_all before after gone none below is_none done x y = elim (cases_eq x gone) [
  | inl same ↦ rw same (links-set_same after gone none y below ∙ is_none y ∙ sym (ap (λ b. links before gone y && not (b || y == gone)) (is_itself gone) ∙ and_never (links before gone y)))
  | inr other ↦ links-set_other after gone none x y other ∙ done x y ∙ sym (ap (λ b. links before x y && not (b || y == gone)) (ne_eqb x gone other))
]

-- one variable takes the place of another
pub shift_all : (before after : List ℕ) (from to none : ℕ) → from ≢ to → from < length after → to < length after → ((y : ℕ) → marks none y ≡ false) → ((x y : ℕ) → links after x y ≡ (links before x (replaced to from y) && not (y == from))) → (x y : ℕ) → links (set (set after to (get_or after from 0)) from none) x y ≡ (links before (replaced to from x) (replaced to from y) && not (x == from || y == from))
shift_all before after from to none apart from_below to_below is_none done x y = elim (cases_eq x from) [
  | inl same ↦ rw same (links-set_same swapped from none y from_still ∙ is_none y ∙ sym (ap (λ b. wanted from b) (is_itself from) ∙ and_never (links before (replaced to from from) (replaced to from y))))
  | inr other ↦ links-set_other swapped from none x y other ∙ elim (cases_eq x to) [
    | inl same ↦ rw same (links-set_same after to (get_or after from 0) y to_below ∙ done from y ∙ sym (ap (λ b. wanted to b) (ne_eqb to from (λ e. apart (sym e))) ∙ ap (λ b. links before (cond b from to) (replaced to from y) && not (y == from)) (is_itself to)))
    | inr third ↦ links-set_other after to (get_or after from 0) x y third ∙ done x y ∙ sym (ap (λ b. wanted x b) (ne_eqb x from other) ∙ ap (λ b. links before (cond b from x) (replaced to from y) && not (y == from)) (ne_eqb x to third))
  ]
]
  where
    swapped : List ℕ
    swapped = set after to (get_or after from 0)

    wanted : ℕ → Bool → Bool
    wanted k b = links before (replaced to from k) (replaced to from y) && not (b || y == from)

    from_still : from < length swapped
    from_still = rw length-set from_below

-- one variable has what another has
pub double_all : (before after : List ℕ) (from to : ℕ) → to < length after → ((x y : ℕ) → links after x y ≡ links before x (replaced to from y)) → (x y : ℕ) → links (set after to (get_or after from 0)) x y ≡ links before (replaced to from x) (replaced to from y)
double_all before after from to below done x y = elim (cases_eq x to) [
  | inl same ↦ rw same (links-set_same after to (get_or after from 0) y below ∙ done from y ∙ sym (ap (λ b. links before (cond b from to) (replaced to from y)) (is_itself to)))
  | inr other ↦ links-set_other after to (get_or after from 0) x y other ∙ done x y ∙ sym (ap (λ b. links before (cond b from x) (replaced to from y)) (ne_eqb x to other))
]

-- a row after the same
pub moved_there : (row rest result from to : ℕ) → from ≢ to → marks row from ≡ true → ((y : ℕ) → marks rest y ≡ ((marks row y && not (y == to)) && not (y == from))) → ((y : ℕ) → marks result y ≡ (marks rest y || y == to)) → (y : ℕ) → marks result y ≡ (marks row (replaced to from y) && not (y == from))
moved_there row rest result from to apart had is_rest is_result y = elim (cases_eq y to) [
  | inl same ↦ rw same (is_result to ∙ ap (λ b. marks rest to || b) (is_itself to) ∙ or_always (marks rest to) ∙ sym (ap (λ b. marks row (cond b from to) && not (to == from)) (is_itself to) ∙ (λ i. had i && not (ne_eqb to from (λ e. apart (sym e)) i))))
  | inr other ↦ is_result y ∙ (λ i. is_rest y i || ne_eqb y to other i) ∙ or_never _ ∙ ap (λ b. (marks row y && not b) && not (y == from)) (ne_eqb y to other) ∙ ap (λ b. b && not (y == from)) (and_same (marks row y) true refl) ∙ sym (ap (λ b. marks row (cond b from y) && not (y == from)) (ne_eqb y to other))
]

pub aliased_there : (row result from to : ℕ) → marks row from ≡ true → ((y : ℕ) → marks result y ≡ (marks row y || y == to)) → (y : ℕ) → marks result y ≡ marks row (replaced to from y)
aliased_there row result from to had is y = elim (cases_eq y to) [
  | inl same ↦ rw same (is to ∙ ap (λ b. marks row to || b) (is_itself to) ∙ or_always (marks row to) ∙ sym (ap (λ b. marks row (cond b from to)) (is_itself to) ∙ had))
  | inr other ↦ is y ∙ ap (λ b. marks row y || b) (ne_eqb y to other) ∙ or_never (marks row y) ∙ sym (ap (λ b. marks row (cond b from y)) (ne_eqb y to other))
]

pub aliased_gone : (row result from to : ℕ) → marks row from ≡ false → ((y : ℕ) → marks result y ≡ (marks row y && not (y == to))) → (y : ℕ) → marks result y ≡ marks row (replaced to from y)
aliased_gone row result from to lacked is y = elim (cases_eq y to) [
  | inl same ↦ rw same (is to ∙ ap (λ b. marks row to && not b) (is_itself to) ∙ and_never (marks row to) ∙ sym (ap (λ b. marks row (cond b from to)) (is_itself to) ∙ lacked))
  | inr other ↦ is y ∙ ap (λ b. marks row y && not b) (ne_eqb y to other) ∙ and_same (marks row y) true refl ∙ sym (ap (λ b. marks row (cond b from y)) (ne_eqb y to other))
]

pub eq_swap : (x y : ℕ) → (x == y) ≡ (y == x)
eq_swap x y = elim (cases_eq x y) [ inl same ↦ rw same refl | inr other ↦ ne_eqb x y other ∙ sym (ne_eqb y x (λ e. other (sym e))) ]

lt_more : (y i : ℕ) → y ≢ i → nat_lt y i ≡ nat_lt y (i + 1)
lt_more y i other = elim (cases_lt y i) [ inl below ↦ lt-ltb y i below ∙ sym (lt-ltb y (i + 1) (omega arith)) | inr above ↦ le-ltb y i above ∙ sym (le-ltb y (i + 1) (omega arith)) ]

-- the links of rows, and those back to each of `which` below i
abbrev pub turned : List ℕ → ℕ → ℕ → ℕ → ℕ → Bool
turned rows which i x y = links rows x y || ((nat_lt x (length rows) && nat_lt y i) && (x == y || (links rows y x && marks which y)))

-- the links of rows, and those back to i if it is one of `which`
abbrev pub opened : List ℕ → ℕ → ℕ → ℕ → ℕ → Bool
opened rows which i x y = links rows x y || (nat_lt x (length rows) && ((marks which i && (links rows i x && not (x == i))) && y == i))

-- and i's to itself
abbrev pub widened : List ℕ → ℕ → ℕ → ℕ → ℕ → Bool
widened rows which i x y = links rows x y || (nat_lt x (length rows) && (((marks which i && links rows i x) || x == i) && y == i))

nothing_more : (b m c k : Bool) → k ≡ false → (b || (m && (c && k))) ≡ b
nothing_more b m c k never = ap (λ k. b || (m && (c && k))) never ∙ ap (λ c. b || (m && c)) (and_never c) ∙ ap (λ m. b || m) (and_never m) ∙ or_never b

not_itself : (w l e : Bool) → e ≡ true → (w && (l && not e)) ≡ false
not_itself true true e same = ap (λ e. not e) same
not_itself true false e same = refl
not_itself false l e same = refl

some_other : (w l e : Bool) → e ≡ false → (w && (l && not e)) ≡ ((w && l) || e)
some_other true true e other = ap (λ e. not e) other
some_other true false e other = sym other
some_other false l e other = sym other

-- the code's step at a variable of `which`, and at another
pub turned_there : (now wide : List ℕ) (i which linked none single : ℕ) → ((y : ℕ) → marks none y ≡ false) → marks which i ≡ true → ((x : ℕ) → marks linked x ≡ (links now i x && not (x == i))) → ((y : ℕ) → marks single y ≡ (marks none y || y == i)) → ((x y : ℕ) → links wide x y ≡ (links now x y || (nat_lt x (length now) && (marks linked x && marks single y)))) → (x y : ℕ) → links wide x y ≡ opened now which i x y
turned_there now wide i which linked none single is_none there is_linked is_single extended x y =
    let is_i = is_single y ∙ ap (λ b. b || y == i) (is_none y) in
    let in_which = sym (ap (λ b. b && (links now i x && not (x == i))) there) in
    extended x y ∙ (λ j. links now x y || (nat_lt x (length now) && ((is_linked x ∙ in_which) j && is_i j)))

pub turned_absent : (now wide : List ℕ) (i which : ℕ) → marks which i ≡ false → wide ≡ now → (x y : ℕ) → links wide x y ≡ opened now which i x y
turned_absent now wide i which absent same x y =
    ap (λ rows. links rows x y) same
    ∙ sym (ap (λ b. links now x y || (nat_lt x (length now) && ((b && (links now i x && not (x == i))) && y == i))) absent ∙ ap (λ b. links now x y || b) (and_never (nat_lt x (length now))) ∙ or_never (links now x y))

-- then the variable is put into its own row
pub mirror_step : (now wide : List ℕ) (i which row : ℕ) → i < length now → length wide ≡ length now → ((x y : ℕ) → links wide x y ≡ opened now which i x y) → ((y : ℕ) → marks row y ≡ (links wide i y || y == i)) → (x y : ℕ) → links (set wide i row) x y ≡ widened now which i x y
mirror_step now wide i which row below same is_opened is_row x y = elim (cases_eq x i) [
  | inl own ↦ rw own (links-set_same wide i row y (omega arith) ∙ is_row y ∙ ap (λ b. b || y == i) own_row ∙ sym own_link)
  | inr other ↦ links-set_other wide i row x y other ∙ is_opened x y ∙ ap (λ b. links now x y || (nat_lt x (length now) && (b && y == i))) (some_other (marks which i) (links now i x) (x == i) (ne_eqb x i other))
]
  where
    own_row : links wide i y ≡ links now i y
    own_row =
        is_opened i y
        ∙ ap (λ b. links now i y || (nat_lt i (length now) && (b && y == i))) (not_itself (marks which i) (links now i i) (i == i) (is_itself i))
        ∙ ap (λ b. links now i y || b) (and_never (nat_lt i (length now)))
        ∙ or_never (links now i y)

    own_link : widened now which i i y ≡ (links now i y || y == i)
    own_link = (λ j. links now i y || (lt-ltb i (length now) below j && (((marks which i && links now i i) || is_itself i j) && y == i))) ∙ ap (λ b. links now i y || (b && y == i)) (or_always (marks which i && links now i i))

mirror_bits : (b m w c p e v : Bool) → (b || (m && (((w && (c || (p && (e || (b && v))))) || e) && true))) ≡ (b || ((m && true) && (e || (c && w))))
mirror_bits true m w c p e v = refl
mirror_bits false false w c p e v = refl
mirror_bits false true w c p true v = ap (λ b. b && true) (or_always (w && (c || (p && true))))
mirror_bits false true false c p false v = sym (and_never c)
mirror_bits false true true true p false v = refl
mirror_bits false true true false true false v = refl
mirror_bits false true true false false false v = refl

-- so the links back to one more variable are there
pub mirror_more : (before now after : List ℕ) (i which : ℕ) → i < length before → length now ≡ length before → ((x y : ℕ) → links now x y ≡ turned before which i x y) → ((x y : ℕ) → links after x y ≡ widened now which i x y) → (x y : ℕ) → links after x y ≡ turned before which (i + 1) x y
mirror_more before now after i which below same so_far is_widened x y = elim (cases_eq y i) [
  | inl here_is ↦ rw here_is (is_widened x i ∙ (λ j. old_link j || (nat_lt x (same j) && (back_link j && is_itself i j))) ∙ mirror_bits (links before x i) (nat_lt x (length before)) (marks which i) (links before i x) (nat_lt i (length before) && nat_lt x i) (x == i) (marks which x) ∙ ap (λ b. links before x i || ((nat_lt x (length before) && b) && (x == i || (links before i x && marks which i)))) (sym (lt-ltb i (i + 1) (omega arith))))
  | inr other ↦ is_widened x y ∙ nothing_more (links now x y) (nat_lt x (length now)) ((marks which i && links now i x) || x == i) (y == i) (ne_eqb y i other) ∙ so_far x y ∙ ap (λ b. links before x y || ((nat_lt x (length before) && b) && (x == y || (links before y x && marks which y)))) (lt_more y i other)
]
  where
    none_yet : (b m k c : Bool) → k ≡ false → (b || ((m && k) && c)) ≡ b
    none_yet b m k c never = ap (λ k. b || ((m && k) && c)) never ∙ ap (λ m. b || (m && c)) (and_never m) ∙ or_never b

    old_link : links now x i ≡ links before x i
    old_link = so_far x i ∙ none_yet (links before x i) (nat_lt x (length before)) (nat_lt i i) _ (le-ltb i i (omega arith))

    back_link : ((marks which i && links now i x) || x == i) ≡ ((marks which i && (links before i x || ((nat_lt i (length before) && nat_lt x i) && (x == i || (links before x i && marks which x))))) || x == i)
    back_link = ap (λ b. (marks which i && b) || x == i) (so_far i x ∙ ap (λ b. links before i x || ((nat_lt i (length before) && nat_lt x i) && (b || (links before x i && marks which x)))) (eq_swap i x))

-- and in the end those back to every variable
pub mirror_all : (before now : List ℕ) (which n : ℕ) → n ≡ length before → ((x y : ℕ) → links now x y ≡ turned before which n x y) → (x y : ℕ) → links now x y ≡ (links before x y || (nat_lt x (length before) && (x == y || (links before y x && marks which y))))
mirror_all before now which n is done x y = done x y ∙ ap (λ k. turned before which k x y) is ∙ elim (cases_lt y (length before)) [
  | inl below ↦ every (links before x y) (nat_lt x (length before)) (nat_lt y (length before)) _ (lt-ltb y _ below)
  | inr beyond ↦ neither (links before x y) (nat_lt x (length before)) (nat_lt y (length before)) _ (le-ltb y _ beyond) (none beyond)
]
  where
    every : (b m k c : Bool) → k ≡ true → (b || ((m && k) && c)) ≡ (b || (m && c))
    every b m k c yes_is = ap (λ m. b || (m && c)) (and_same m k yes_is)

    neither : (b m k c : Bool) → k ≡ false → (m && c) ≡ false → (b || ((m && k) && c)) ≡ (b || (m && c))
    neither b m k c never none_is = ap (λ k. b || ((m && k) && c)) never ∙ ap (λ m. b || (m && c)) (and_never m) ∙ ap (λ c. b || c) (sym none_is)

    none : length before ≤ y → (nat_lt x (length before) && (x == y || (links before y x && marks which y))) ≡ false
    none beyond = ap (λ b. nat_lt x (length before) && (x == y || (b && marks which y))) (links_beyond before y x beyond) ∙ elim (cases_lt x (length before)) [
      | inl less ↦ ap (λ b. nat_lt x (length before) && (b || false)) (ne_eqb x y (λ e. absurd (omega arith))) ∙ and_never (nat_lt x (length before))
      | inr more ↦ ap (λ b. b && (x == y || false)) (le-ltb x _ more)
    ]

-- no variable gets links
pub extends_nothing : (rows : List ℕ) (which more x y : ℕ) → ((z : ℕ) → marks which z ≡ false) → links rows x y ≡ (links rows x y || (nat_lt x (length rows) && (marks which x && marks more y)))
extends_nothing rows which more x y none = sym (ap (λ b. links rows x y || (nat_lt x (length rows) && (b && marks more y))) (none x) ∙ ap (λ b. links rows x y || b) (and_never (nat_lt x (length rows))) ∙ or_never (links rows x y))

-- chains by one more middle
module _ (r s : ℕ → ℕ → Bool) (m : ℕ) (passes : (x y : ℕ) → s x y ≡ (r x y || (r x m && r m y))) where
  pub pass_keeps : {x y : ℕ} → IsTrue (r x y) → IsTrue (s x y)
  pass_keeps {x} {y} is = passes x y ∙ or_left (r x y) _ is

  pass_cases : (x y : ℕ) → IsTrue (s x y) → IsTrue (r x y) ⊎ (IsTrue (r x m) × IsTrue (r m y))
  pass_cases x y is = elim (or_cases (r x y) _ (sym (passes x y) ∙ is)) [ inl old ↦ inl old | inr both ↦ inr (and_parts (r x m) _ both) ]

  pass_links : (x y : ℕ) → IsTrue (r x m) → IsTrue (r m y) → IsTrue (s x y)
  pass_links x y one other = passes x y ∙ or_right (r x y) _ (and_from (r x m) _ one other)

  pub pass_sound : {b : ℕ → ℕ → Bool} → ((x y : ℕ) → IsTrue (r x y) → Chain b x y) → (x y : ℕ) → IsTrue (s x y) → Chain b x y
  pass_sound sound x y is = elim (pass_cases x y is) [ inl old ↦ sound x y old | inr both ↦ join (sound x m both.0) (sound m y both.1) ]

  to_middle : (x : ℕ) → IsTrue (s x m) → IsTrue (r x m)
  to_middle x is = elim (pass_cases x m is) [ inl old ↦ old | inr both ↦ both.0 ]

  from_middle : (y : ℕ) → IsTrue (s m y) → IsTrue (r m y)
  from_middle y is = elim (pass_cases m y is) [ inl old ↦ old | inr both ↦ both.1 ]

  pub pass_passes : ((x y z : ℕ) → y < m → IsTrue (r x y) → IsTrue (r y z) → IsTrue (r x z)) → (x y z : ℕ) → y < m + 1 → IsTrue (s x y) → IsTrue (s y z) → IsTrue (s x z)
  pass_passes passed x y z below one other = elim (cases_eq y m) [
    | inl same ↦ pass_links x z (to_middle x (rw (ap (λ k. s x k) same) at one)) (from_middle z (rw (ap (λ k. s k z) same) at other))
    | inr differs ↦
        let less : y < m = omega arith in
        elim (pass_cases x y one) [
          | inl a ↦ elim (pass_cases y z other) [
            | inl b ↦ pass_keeps (passed x y z less a b)
            | inr b ↦ pass_links x z (passed x y m less a b.0) b.1
          ]
          | inr a ↦ elim (pass_cases y z other) [
            | inl b ↦ pass_links x z a.0 (passed m y z less a.1 b)
            | inr b ↦ pass_links x z a.0 b.1
          ]
        ]
  ]

pub chain_end : {b : ℕ → ℕ → Bool} (n : ℕ) → ((x y : ℕ) → IsTrue (b x y) → y < n) → {x y : ℕ} → Chain b x y → y < n
chain_end n within (link {x} {y} is) = within x y is
chain_end n within (join one other) = chain_end n within other

-- what has all steps and passes by every middle has all chains
pub chain_all : {b r : ℕ → ℕ → Bool} (n : ℕ) → ((x y : ℕ) → IsTrue (b x y) → y < n) → ((x y : ℕ) → IsTrue (b x y) → IsTrue (r x y)) → ((x y z : ℕ) → y < n → IsTrue (r x y) → IsTrue (r y z) → IsTrue (r x z)) → {x y : ℕ} → Chain b x y → IsTrue (r x y)
chain_all n within kept passed (link {x} {y} is) = kept x y is
chain_all n within kept passed (join {x} {y} {z} one other) = passed x y z (chain_end n within one) (chain_all n within kept passed one) (chain_all n within kept passed other)

-- steps from what is reached lead to what is reached
pub reached_again : {first second : ℕ → Bool} {step : ℕ → ℕ → Bool} → ((x : ℕ) → IsTrue (second x) → Reached first step x) → {x : ℕ} → Reached second step x → Reached first step x
reached_again from (here {x} is) = from x is
reached_again from (next before is) = next (reached_again from before) is

-- what no step leaves has all that is reached
pub reached_all : {start test : ℕ → Bool} {step : ℕ → ℕ → Bool} → ((x : ℕ) → IsTrue (start x) → IsTrue (test x)) → ((x y : ℕ) → IsTrue (test x) → IsTrue (step x y) → IsTrue (test y)) → {x : ℕ} → Reached start step x → IsTrue (test x)
reached_all kept closed (here {x} is) = kept x is
reached_all kept closed (next {x} {y} before is) = closed x y (reached_all kept closed before) is

-- a step from one more variable
module _ (start reached wider : ℕ → Bool) (step : ℕ → ℕ → Bool) (i : ℕ) (is_reached : IsTrue (reached i)) (widens : (y : ℕ) → wider y ≡ (reached y || step i y)) where
  pub sweep_keeps : (x : ℕ) → IsTrue (reached x) → IsTrue (wider x)
  sweep_keeps x is = widens x ∙ or_left (reached x) _ is

  pub sweep_steps : ((x y : ℕ) → x < i → IsTrue (start x) → IsTrue (step x y) → IsTrue (reached y)) → (x y : ℕ) → x < i + 1 → IsTrue (start x) → IsTrue (step x y) → IsTrue (wider y)
  sweep_steps one x y below at is = elim (cases_eq x i) [
    | inl same ↦ widens y ∙ or_right (reached y) _ (rw (ap (λ k. step k y) same) at is)
    | inr differs ↦ sweep_keeps y (one x y (omega arith) at is)
  ]

  pub sweep_sound : ((x : ℕ) → IsTrue (reached x) → Reached start step x) → (x : ℕ) → IsTrue (wider x) → Reached start step x
  sweep_sound sound x is = elim (or_cases (reached x) _ (sym (widens x) ∙ is)) [ inl old ↦ sound x old | inr step_is ↦ next {x = i} (sound i is_reached) step_is ]

-- one more variable that isn't reached is none of the start
pub sweep_skips : (start reached : ℕ → Bool) (step : ℕ → ℕ → Bool) (i : ℕ) → reached i ≡ false → ((x : ℕ) → IsTrue (start x) → IsTrue (reached x)) → ((x y : ℕ) → x < i → IsTrue (start x) → IsTrue (step x y) → IsTrue (reached y)) → (x y : ℕ) → x < i + 1 → IsTrue (start x) → IsTrue (step x y) → IsTrue (reached y)
sweep_skips start reached step i skipped kept one x y below at is = elim (cases_eq x i) [
  | inl same ↦ absurd (both_ways (reached i) skipped (rw (ap (λ k. reached k) same) at (kept x at)))
  | inr differs ↦ one x y (omega arith) at is
]

-- what is linked has a row
pub linked_below : (rows : List ℕ) (x y : ℕ) → IsTrue (links rows x y) → x < length rows
linked_below rows x y is = elim (cases_lt x (length rows)) [ inl below ↦ below | inr beyond ↦ absurd (both_ways (links rows x y) (links_beyond rows x y beyond) is) ]

pub stepped_below : (rows others : List ℕ) (x y : ℕ) → length others ≡ length rows → IsTrue (either_step (links rows) (links others) x y) → x < length rows
stepped_below rows others x y same is = elim (or_cases (links rows x y) _ is) [ inl one ↦ linked_below rows x y one | inr other ↦ (let below : x < length others = linked_below others x y other in omega arith) ]

-- what has no row has no links, whatever else is asked
pub beyond_both : (rows : List ℕ) (x y z : ℕ) (b : Bool) → length rows ≤ x → links rows x y ≡ (links rows x z && b)
beyond_both rows x y z b beyond = links_beyond rows x y beyond ∙ sym (ap (λ t. t && b) (links_beyond rows x z beyond))

-- one link more
pub link_one : (rows : List ℕ) (from to row : ℕ) → from < length rows → ((y : ℕ) → marks row y ≡ (links rows from y || y == to)) → (x y : ℕ) → links (set rows from row) x y ≡ (links rows x y || (from == x && to == y))
link_one rows from to row below is x y = elim (cases_eq x from) [
  | inl same ↦ rw same (links-set_same rows from row y below ∙ is y ∙ (λ i. links rows from y || (sym (is_itself from) i && eq_swap y to i)))
  | inr other ↦ links-set_other rows from row x y other ∙ sym (ap (λ b. links rows x y || (b && to == y)) (ne_eqb from x (λ e. other (sym e))) ∙ or_never (links rows x y))
]
