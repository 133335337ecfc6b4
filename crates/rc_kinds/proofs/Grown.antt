-- What suits still does when the ledger has grown.
use Rattle.std.proofs.Common.{List, arith}
use Rattle.std.specs.List.{AllByRecursion as Every}
use Rattle.rc_core.specs.Types.{Ty, int, unsigned, char, region, struct, pointer}
use Rattle.rc_core.specs.Programs.{Struct}
use Rattle.rc_core.specs.Heap.{kinds_of, Value, Number, Null, Handle, Pointer, Object, Region}
use Rattle.rc_core.specs.Typing.{value_type}
use Rattle.rc_safety.proofs.Lists.{every_more, zip_more}
use Rattle.rc_kinds.specs.Suits.{Entry, Ledger, Suits, cell_type, CellSuits, ObjectSuits, RegionSuits, Grows, SuitsSome, AllSuit}

pub grows_itself : (l : Ledger) → Grows l l
grows_itself l = record { regions = omega arith; entries = λ r o e h. h }

pub grows_on : (a b c : Ledger) → Grows a b → Grows b c → Grows a c
grows_on a b c g h = record { regions = omega (arith, g.regions, h.regions); entries = λ r o e q. h.entries r o e (g.entries r o e q) }

pub still_suits : (a b : Ledger) → Grows a b → (t : Ty) (v : Value) → Suits a t v → Suits b t v
still_suits a b g int v s = s
still_suits a b g unsigned v s = s
still_suits a b g char v s = s
still_suits a b g region (Number n) s = s
still_suits a b g region Null s = s
still_suits a b g region (Handle r) s = omega (arith, s, g.regions)
still_suits a b g region (Pointer p) s = s
still_suits a b g (struct k) v s = s
still_suits a b g (pointer note target) (Number n) s = s
still_suits a b g (pointer note target) Null s = s
still_suits a b g (pointer note target) (Handle r) s = s
still_suits a b g (pointer note target) (Pointer p) s = record { count = s.count; entry = g.entries p.region p.object _ s.entry; within = s.within }

pub all_still_suit : (a b : Ledger) → Grows a b → (ts : List Ty) (vs : List Value) → AllSuit a ts vs → AllSuit b ts vs
all_still_suit a b g ts vs all = zip_more (Suits a) (Suits b) (λ t v s. still_suits a b g t v s) ts vs all

pub waiting_still_suit : (a b : Ledger) → Grows a b → (vs : List Value) → Every (SuitsSome a) vs → Every (SuitsSome b) vs
waiting_still_suit a b g vs all = every_more (SuitsSome a) (SuitsSome b) (λ v s. (s.0, still_suits a b g s.0 v s.1)) vs all

pub object_still_suits : (structs : List Struct) (a b : Ledger) → Grows a b → (e : Entry) (o : Object) → ObjectSuits structs a e o → ObjectSuits structs b e o
object_still_suits structs a b g e o s = record { defined = s.defined; count = s.count; layout = s.layout; values = zip_more (CellSuits a) (CellSuits b) (λ kind v h. still_suits a b g (cell_type kind) v h) (kinds_of o) o.values s.values }

pub region_still_suits : (structs : List Struct) (a b : Ledger) → Grows a b → (es : List Entry) (r : Region) → RegionSuits structs a es r → RegionSuits structs b es r
region_still_suits structs a b g es r all = zip_more (ObjectSuits structs a) (ObjectSuits structs b) (λ e o s. object_still_suits structs a b g e o s) es r.objects all

-- an annotation says nothing of what suits
pub value_suits : (l : Ledger) (t : Ty) (v : Value) → Suits l t v → Suits l (value_type t) v
value_suits l int v s = s
value_suits l unsigned v s = s
value_suits l char v s = s
value_suits l region v s = s
value_suits l (struct k) v s = s
value_suits l (pointer note target) v s = s

pub suits_value : (l : Ledger) (t : Ty) (v : Value) → Suits l (value_type t) v → Suits l t v
suits_value l int v s = s
suits_value l unsigned v s = s
suits_value l char v s = s
suits_value l region v s = s
suits_value l (struct k) v s = s
suits_value l (pointer note target) v s = s
