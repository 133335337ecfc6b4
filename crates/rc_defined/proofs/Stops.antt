-- A walk that stops at the first violation inside a node stops at the node's first.
use Rattle.std.proofs.Common.{◌≡◌}
use Rattle.rc_deletes.specs.Judged.{Judged, Holds, Faulty, with_part, with_parts, both}
use Rattle.rc_typed_values.specs.declared.stop.Stop.{Stop}
use Rattle.rc_typed_values.specs.declared.stop.Stop.TheVariants.{Rule, Memory}
use Rattle.rc_typed_values.specs.Stops.{StopsAt}

pub part_stops : {A B : Type 0} (x : Judged A) (rule : A → Judged B) (s : Stop) → StopsAt x s → StopsAt (with_part x rule) s
part_stops x rule Memory h = tt
part_stops (Faulty g gs) rule (Rule f) h = h
part_stops (Holds a) rule (Rule f) h = absurd cc

pub left_stops : {A B C : Type 0} (x : Judged A) (y : Judged B) (rule : A → B → Judged C) (s : Stop) → StopsAt x s → StopsAt (with_parts x y rule) s
left_stops x y rule Memory h = tt
left_stops (Faulty g gs) y rule (Rule f) h = h
left_stops (Holds a) y rule (Rule f) h = absurd cc

pub part_ruled : {A B : Type 0} (x : Judged A) (a : A) (rule : A → Judged B) (s : Stop) → x ≡ Holds a → StopsAt (rule a) s → StopsAt (with_part x rule) s
part_ruled x a rule s e h = rw e h

pub right_stops : {A B C : Type 0} (x : Judged A) (a : A) (y : Judged B) (rule : A → B → Judged C) (s : Stop) → x ≡ Holds a → StopsAt y s → StopsAt (with_parts x y rule) s
right_stops x a y rule s e h = rw e (part_stops y (rule a) s h)

-- the node's own rule, behind clean parts
pub both_stop : {A B C : Type 0} (x : Judged A) (a : A) (y : Judged B) (b : B) (rule : A → B → Judged C) (s : Stop) → x ≡ Holds a → y ≡ Holds b → StopsAt (rule a b) s → StopsAt (with_parts x y rule) s
both_stop x a y b rule s e f h = rw (e, f) h

pub part_held : {A B : Type 0} (x : Judged A) (a : A) (rule : A → Judged B) (r : Judged B) → x ≡ Holds a → rule a ≡ r → with_part x rule ≡ r
part_held x a rule r e h = rw e h

pub both_ruled : {A B C : Type 0} (x : Judged A) (a : A) (y : Judged B) (b : B) (rule : A → B → Judged C) (r : Judged C) → x ≡ Holds a → y ≡ Holds b → rule a b ≡ r → with_parts x y rule ≡ r
both_ruled x a y b rule r e f h = rw (e, f) h

-- of a node with three parts, the third stops, or its own rule
pub third_stops : {A B C D : Type 0} (x : Judged A) (a : A) (y : Judged B) (b : B) (z : Judged C) (rule : A → B × C → Judged D) (s : Stop) → x ≡ Holds a → y ≡ Holds b → StopsAt z s → StopsAt (with_parts x (both y z) rule) s
third_stops x a y b z rule s e f h = right_stops x a (both y z) rule s e (right_stops y b z (λ p q. Holds (p, q)) s f h)

pub second_stops : {A B C D : Type 0} (x : Judged A) (a : A) (y : Judged B) (z : Judged C) (rule : A → B × C → Judged D) (s : Stop) → x ≡ Holds a → StopsAt y s → StopsAt (with_parts x (both y z) rule) s
second_stops x a y z rule s e h = right_stops x a (both y z) rule s e (left_stops y z (λ p q. Holds (p, q)) s h)

pub all_stop : {A B C D : Type 0} (x : Judged A) (a : A) (y : Judged B) (b : B) (z : Judged C) (c : C) (rule : A → B × C → Judged D) (s : Stop) → x ≡ Holds a → y ≡ Holds b → z ≡ Holds c → StopsAt (rule a (b, c)) s → StopsAt (with_parts x (both y z) rule) s
all_stop x a y b z c rule s e f g h = rw (e, f, g) h

pub all_ruled : {A B C D : Type 0} (x : Judged A) (a : A) (y : Judged B) (b : B) (z : Judged C) (c : C) (rule : A → B × C → Judged D) (r : Judged D) → x ≡ Holds a → y ≡ Holds b → z ≡ Holds c → rule a (b, c) ≡ r → with_parts x (both y z) rule ≡ r
all_ruled x a y b z c rule r e f g h = rw (e, f, g) h
