-- Written words that are each the same as third ones are the same.
use Rattle.std.proofs.Common.{◌≡◌, ℕ, List, [], ◌∷◌, Option, Some, None, Bool, true, false, ◌&&◌, refl, subst}
use Rattle.std.specs.Prelude.{nat_eq}
use Rattle.std.proofs.Common.{arith}
use Rattle.std.proofs.lemmas.Bool.Decides.{nat_tests}
use Rattle.std.specs.Str.{bytes_eq}
use Rattle.rc_syntax.specs.declared.tree.Base.{Base}
use Rattle.rc_syntax.specs.declared.tree.Base.TheVariants as base
use Rattle.rc_syntax.specs.Tree as t
use Rattle.rc_core.specs.declared.ty.Note.{Note}
use Rattle.rc_core.specs.declared.ty.Note.TheVariants.{Plain, SameRegion, ParentPtr, Traditional}
use Rattle.rc_deletes.specs.Kinds.{same_note, note_of}
use Rattle.rc_deletes.specs.Items.{same_bool}
use Rattle.rc_deletes.proofs.Naming.{same_name}
use Rattle.rc_linking.proofs.Values.{both_true, and_true, note_is}
use Rattle.rc_linking.specs.Clash.{same_lists, same_base, same_star, same_stars, same_written, same_length, same_field, same_fields, same_result, same_param, same_params}

-- a test that two things pass together where each passes it with a third
abbrev pub IsSame : {A : Type 0} → (A → A → Bool) → Type 0
IsSame {A = A} same = (a b c : A) → same a b ≡ true → same a c ≡ true → same b c ≡ true

pub same_all : {A : Type 0} (same : A → A → Bool) → IsSame same → IsSame (same_lists same)
same_all same h [] [] zs e f = f
same_all same h [] (b ∷ ys) zs e f = absurd cc
same_all same h (a ∷ xs) [] zs e f = absurd cc
same_all same h (a ∷ xs) (b ∷ ys) [] e f = absurd cc
same_all same h (a ∷ xs) (b ∷ ys) (c ∷ zs) e f =
    let p = both_true (same a b) (same_lists same xs ys) e in
    let q = both_true (same a c) (same_lists same xs zs) f in
    and_true (same b c) (same_lists same ys zs) (h a b c p.0 q.0) (same_all same h xs ys zs p.1 q.1)

pub names : IsSame bytes_eq
names a b c e f = subst (λ x. bytes_eq x c ≡ true) (same_name a b e) f

own_note : (m : Note) → same_note m m ≡ true
own_note Plain = refl
own_note SameRegion = refl
own_note ParentPtr = refl
own_note Traditional = refl

stars : IsSame same_star
stars a b c e f = subst (λ x. same_note x (note_of c) ≡ true) (note_is (note_of a) (note_of b) e) f

bases : IsSame same_base
bases (base.Int x) (base.Int y) c e (f) = ints c f where
  ints : (c : Base) → same_base (base.Int x) c ≡ true → same_base (base.Int y) c ≡ true
  ints (base.Int z) f = refl
  ints _ f = absurd cc
bases (base.Unsigned x) (base.Unsigned y) c e f = words c f where
  words : (c : Base) → same_base (base.Unsigned x) c ≡ true → same_base (base.Unsigned y) c ≡ true
  words (base.Unsigned z) f = refl
  words _ f = absurd cc
bases (base.Char x) (base.Char y) c e f = chars c f where
  chars : (c : Base) → same_base (base.Char x) c ≡ true → same_base (base.Char y) c ≡ true
  chars (base.Char z) f = refl
  chars _ f = absurd cc
bases (base.Region x) (base.Region y) c e f = regions c f where
  regions : (c : Base) → same_base (base.Region x) c ≡ true → same_base (base.Region y) c ≡ true
  regions (base.Region z) f = refl
  regions _ f = absurd cc
bases (base.Struct x name) (base.Struct y other) c e f = structs c f where
  structs : (c : Base) → same_base (base.Struct x name) c ≡ true → same_base (base.Struct y other) c ≡ true
  structs (base.Struct z third) f = names name.text other.text third.text e f
  structs _ f = absurd cc
bases _ _ c e f = absurd cc

pub types : IsSame same_written
types a b c e f =
    let p = both_true (same_base a.base b.base) (same_stars a.stars b.stars) e in
    let q = both_true (same_base a.base c.base) (same_stars a.stars c.stars) f in
    and_true (same_base b.base c.base) (same_stars b.stars c.stars) (bases a.base b.base c.base p.0 q.0) (same_all same_star stars a.stars b.stars c.stars p.1 q.1)

numbers : (m n o : ℕ) → nat_eq m n ≡ true → nat_eq m o ≡ true → nat_eq n o ≡ true
numbers m n o e f = let q : m ≡ n = grind (arith, nat_tests) in subst (λ x. nat_eq x o ≡ true) q f

lengths : IsSame same_length
lengths None None c e f = f
lengths (Some a) (Some b) (Some c) e f = numbers a b c e f
lengths (Some a) (Some b) None e f = absurd cc
lengths None (Some b) c e f = absurd cc
lengths (Some a) None c e f = absurd cc

field : IsSame same_field
field f g h e k =
    let p = both_true (bytes_eq f.name.text g.name.text) (same_written f.type_name g.type_name && same_length f.length g.length) e in
    let q = both_true (bytes_eq f.name.text h.name.text) (same_written f.type_name h.type_name && same_length f.length h.length) k in
    let r = both_true (same_written f.type_name g.type_name) (same_length f.length g.length) p.1 in
    let s = both_true (same_written f.type_name h.type_name) (same_length f.length h.length) q.1 in
    and_true (bytes_eq g.name.text h.name.text) (same_written g.type_name h.type_name && same_length g.length h.length) (names f.name.text g.name.text h.name.text p.0 q.0)
    (and_true (same_written g.type_name h.type_name) (same_length g.length h.length) (types f.type_name g.type_name h.type_name r.0 s.0) (lengths f.length g.length h.length r.1 s.1))

pub fields : IsSame same_fields
fields = same_all same_field field

params : IsSame same_params
params = same_all same_param (λ q r s. types q.type_name r.type_name s.type_name)

results : IsSame same_result
results None None c e f = f
results (Some a) (Some b) (Some c) e f = types a b c e f
results (Some a) (Some b) None e f = absurd cc
results None (Some b) c e f = absurd cc
results (Some a) None c e f = absurd cc

bools : (a b c : Bool) → same_bool a b ≡ true → same_bool a c ≡ true → same_bool b c ≡ true
bools true true c e f = f
bools false false c e f = f
bools true false c e f = absurd cc
bools false true c e f = absurd cc

-- heads of functions
module _ (d e f : Bool) (r s u : Option t.TypeName) (qs rs us : List t.Param) where
  pub heads : same_bool d e && (same_result r s && same_params qs rs) ≡ true → same_bool d f && (same_result r u && same_params qs us) ≡ true → same_bool e f && (same_result s u && same_params rs us) ≡ true
  heads g h =
      let p = both_true (same_bool d e) (same_result r s && same_params qs rs) g in
      let q = both_true (same_bool d f) (same_result r u && same_params qs us) h in
      let v = both_true (same_result r s) (same_params qs rs) p.1 in
      let w = both_true (same_result r u) (same_params qs us) q.1 in
      and_true (same_bool e f) (same_result s u && same_params rs us) (bools d e f p.0 q.0) (and_true (same_result s u) (same_params rs us) (results r s u v.0 w.0) (params qs rs us v.1 w.1))
