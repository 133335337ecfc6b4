-- Sets of facts over so many variables, which have the numbers from 0 up.
use Rattle.std.specs.Prelude.{◌≡◌, ℕ, Bool, false, List, ◌&&◌, ◌||◌, ◌==◌, nat_lt, IsTrue, if◌then◌else◌}
use Rattle.std.specs.List.{list_any}
use Rattle.rc_facts.specs.declared.fact.Fact.{Fact}
use Rattle.rc_facts.specs.declared.fact.Fact.TheVariants.{In, Up, Trad, NonNull}

abbrev pub same_fact : Fact → Fact → Bool
same_fact (In a b) (In x y) = a == x && b == y
same_fact (Up a b) (Up x y) = a == x && b == y
same_fact (Trad a) (Trad x) = a == x
same_fact (NonNull a) (NonNull x) = a == x
same_fact _ _ = false

-- it speaks of variables below n alone
abbrev pub is_over : ℕ → Fact → Bool
is_over n (In x y) = nat_lt x n && nat_lt y n
is_over n (Up x y) = nat_lt x n && nat_lt y n
is_over n (Trad x) = nat_lt x n
is_over n (NonNull x) = nat_lt x n

-- it speaks of this variable
abbrev pub names : ℕ → Fact → Bool
names v (In x y) = x == v || y == v
names v (Up x y) = x == v || y == v
names v (Trad x) = x == v
names v (NonNull x) = x == v

abbrev pub replaced : ℕ → ℕ → ℕ → ℕ
replaced old new x = if x == old then new else x

-- the fact with one variable in place of another
abbrev pub with_replaced : ℕ → ℕ → Fact → Fact
with_replaced old new (In x y) = In (replaced old new x) (replaced old new y)
with_replaced old new (Up x y) = Up (replaced old new x) (replaced old new y)
with_replaced old new (Trad x) = Trad (replaced old new x)
with_replaced old new (NonNull x) = NonNull (replaced old new x)

-- What is known of variables, as the list of the facts of a set, each once. The order is fixed, so sets
-- of the same facts are equal.
pub record Known : Type 0 where
  pub variables : ℕ
  pub facts : List Fact

-- whether the fact is in the set
unfoldable pub holds : Known → Fact → Bool
holds known fact = list_any (same_fact fact) known.facts

-- some fact of the first set isn't in the second
abbrev pub Drops : Known → Known → Type 0
Drops before after = (fact : Fact) × IsTrue (holds before fact) × (holds after fact ≡ false)
