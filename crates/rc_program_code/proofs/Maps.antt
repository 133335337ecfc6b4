-- In a map each list is found by its point.
use Rattle.std.proofs.Common.{◌≡◌, ◌<◌, ◌≤◌, ℕ, suc, true, false, List, [], ◌∷◌, map, ap, ◌∙◌, arith, rules}
use Rattle.std.specs.Prelude.{nat_eq}
use Rattle.std.specs.List.{AllByRecursion as Every}
use Rattle.rc_safety.proofs.Lists.{every_more}
use Rattle.rc_rlang.specs.LiveLists.{Held}
use Rattle.rc_rlang.specs.LiveMaps.{Increases, IsMap, point_in, chosen_list, list_at}
use Rattle.rc_lines.specs.Over.{Listed}

at_least : (from : ℕ) (hs : List Held) → Increases from (map point_in hs) → Every (λ h. from ≤ h.point) hs
at_least from [] i = tt
at_least from (h ∷ hs) i = (i.0, every_more (λ (x : Held). suc h.point ≤ x.point) (λ (x : Held). from ≤ x.point) (λ x l. let f = i.0 in omega (arith, l, f)) hs (at_least (suc h.point) hs i.1))

other : (m n : ℕ) → m < n → nat_eq m n ≡ false
other m n l = search (rules, arith, l)

own : (n : ℕ) → nat_eq n n ≡ true
own n = search (rules, arith)

behind : (h : Held) (lists xs : List Held) → Every (λ x. suc h.point ≤ x.point) xs → Listed lists xs → Listed (h ∷ lists) xs
behind h lists [] far l = tt
behind h lists (x ∷ xs) far l = (ap (λ b. chosen_list b h.locals (list_at lists x.point)) (other h.point x.point (let f = far.0 in omega (arith, f))) ∙ l.0, behind h lists xs far.1 l.1)

all_listed : (from : ℕ) (hs : List Held) → Increases from (map point_in hs) → Listed hs hs
all_listed from [] i = tt
all_listed from (h ∷ hs) i = (ap (λ b. chosen_list b h.locals (list_at hs h.point)) (own h.point), behind h hs hs (at_least (suc h.point) hs i.1) (all_listed (suc h.point) hs i.1))

pub map_listed : (hs : List Held) → IsMap hs → Listed hs hs
map_listed hs m = all_listed 0 hs m.points
