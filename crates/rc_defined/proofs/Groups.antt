-- A struct that several declarators share is looked at once.
use Rattle.std.proofs.Common.{◌≡◌, refl, ap, ◌∙◌, subst, arith, ℕ, List, [], ◌∷◌, Bool, true, false, ◌&&◌, ◌||◌}
use Rattle.std.specs.Prelude.{nat_eq}
use Rattle.std.specs.Str.{bytes_eq}
use Rattle.std.proofs.lemmas.Slice.Eq.{bytes_eq-Decides}
use Rattle.std.proofs.lemmas.Bool.Decides.{nat_tests}
use Rattle.rc_syntax.specs.declared.tree.Name.{Name}
use Rattle.rc_syntax.specs.declared.tree.Base.{Base}
use Rattle.rc_syntax.specs.declared.tree.Base.TheVariants as base
use Rattle.rc_syntax.specs.Tree as t
use Rattle.rc_deletes.specs.Judged.{Holds}
use Rattle.rc_deletes.specs.Kinds.{place_of}
use Rattle.rc_deletes.specs.Scopes.{Context, struct_names}
use Rattle.rc_deletes.specs.Items.{same_struct, field_by_value, global_by_value, shared_rule, value_base, is_plain, is_defined_before, before_fields, before_globals}
use Rattle.rc_defined.proofs.ByValue.{kept_where}
use Rattle.rc_defined.specs.Groups.{shares_with_next, goes_on}

and_left : (a b : Bool) → a && b ≡ true → a ≡ true
and_left true b h = refl
and_left false b h = h

and_right : (a b : Bool) → a && b ≡ true → b ≡ true
and_right true b h = h
and_right false b h = absurd cc

same_texts : (a b : List ℕ) → bytes_eq a b ≡ true → a ≡ b
same_texts a b h = (bytes_eq-Decides a b).0 h

same_numbers : (a b : ℕ) → nat_eq a b ≡ true → a ≡ b
same_numbers a b h = grind (arith, nat_tests)

kept_if : (b c : Bool) (m k : Name) → b ≡ c → kept_where m b ≡ Holds tt → kept_where k c ≡ Holds tt
kept_if true true m k e h = refl
kept_if true false m k e h = absurd cc
kept_if false c m k e h = absurd cc

-- what is looked at for one declarator is kept for another that shares its struct
value_same : (context : Context) (n : ℕ) (a b : Base) → same_struct a b ≡ true → value_base context n a ≡ Holds tt → value_base context n b ≡ Holds tt
value_same context n (base.Struct x m) (base.Struct y k) h v =
    let e : m.text ≡ k.text = same_texts m.text k.text (and_right (nat_eq m.spot.place k.spot.place) (bytes_eq m.text k.text) h) in
    kept_if (is_defined_before n (place_of (struct_names context) m.text)) (is_defined_before n (place_of (struct_names context) k.text)) m k (ap (λ s. is_defined_before n (place_of (struct_names context) s)) e) v
value_same context n a (base.Int y) h v = refl
value_same context n a (base.Unsigned y) h v = refl
value_same context n a (base.Char y) h v = refl
value_same context n a (base.Region y) h v = refl
value_same context n (base.Int x) (base.Struct y k) h v = absurd cc
value_same context n (base.Unsigned x) (base.Struct y k) h v = absurd cc
value_same context n (base.Char x) (base.Struct y k) h v = absurd cc
value_same context n (base.Region x) (base.Struct y k) h v = absurd cc

same_third : (a b c : Base) → same_struct a b ≡ true → same_struct a c ≡ same_struct b c
same_third (base.Struct x m) (base.Struct y k) (base.Struct z l) h =
    let p : m.spot.place ≡ k.spot.place = same_numbers m.spot.place k.spot.place (and_left (nat_eq m.spot.place k.spot.place) (bytes_eq m.text k.text) h) in
    let e : m.text ≡ k.text = same_texts m.text k.text (and_right (nat_eq m.spot.place k.spot.place) (bytes_eq m.text k.text) h) in
    ap (λ i. nat_eq i l.spot.place && bytes_eq m.text l.text) p ∙ ap (λ s. nat_eq k.spot.place l.spot.place && bytes_eq s l.text) e
same_third (base.Struct x m) (base.Struct y k) (base.Int z) h = refl
same_third (base.Struct x m) (base.Struct y k) (base.Unsigned z) h = refl
same_third (base.Struct x m) (base.Struct y k) (base.Char z) h = refl
same_third (base.Struct x m) (base.Struct y k) (base.Region z) h = refl
same_third (base.Struct x m) (base.Int y) c h = absurd cc
same_third (base.Struct x m) (base.Unsigned y) c h = absurd cc
same_third (base.Struct x m) (base.Char y) c h = absurd cc
same_third (base.Struct x m) (base.Region y) c h = absurd cc
same_third (base.Int x) b c h = absurd cc
same_third (base.Unsigned x) b c h = absurd cc
same_third (base.Char x) b c h = absurd cc
same_third (base.Region x) b c h = absurd cc

fields_same : (a b : Base) → same_struct a b ≡ true → (fs : List t.Field) → field_by_value a fs ≡ field_by_value b fs
fields_same a b h [] = refl
fields_same a b h (f ∷ fs) =
    ap (λ s. s && (is_plain f.type_name || field_by_value a fs)) (same_third a b f.type_name.base h)
    ∙ ap (λ v. same_struct b f.type_name.base && (is_plain f.type_name || v)) (fields_same a b h fs)

globals_same : (a b : Base) → same_struct a b ≡ true → (is : List t.Item) → global_by_value a is ≡ global_by_value b is
globals_same a b h [] = refl
globals_same a b h (t.struct at name fields ∷ is) = refl
globals_same a b h (t.global at n name count c ∷ is) =
    ap (λ s. s && (is_plain n || global_by_value a is)) (same_third a b n.base h)
    ∙ ap (λ v. same_struct b n.base && (is_plain n || v)) (globals_same a b h is)
globals_same a b h (t.function at deletes result name params body ∷ is) = refl

both_true : (s p l : Bool) → s ≡ true → l ≡ true → s && (p || l) ≡ true
both_true true true l h e = refl
both_true true false l h e = e
both_true false p l h e = absurd cc

shared_next : (context : Context) (n : ℕ) (a b : Base) (plain later here : Bool) → same_struct a b ≡ true → later ≡ here → shared_rule context n a (same_struct a b && (plain || later)) ≡ Holds tt → shared_rule context n b here ≡ Holds tt
shared_next context n a b plain later false h e s = refl
shared_next context n a b plain later true h e s = value_same context n a b h (subst (λ x. shared_rule context n a x ≡ Holds tt) (both_true (same_struct a b) plain later h e) s)

pub field_next : (context : Context) (n : ℕ) (f : t.Field) (fs : List t.Field) → shares_with_next f fs ≡ true → before_fields context n (f ∷ fs) ≡ Holds tt → before_fields context n fs ≡ Holds tt
field_next context n f [] h s = refl
field_next context n f (g ∷ gs) h s = shared_next context n f.type_name.base g.type_name.base (is_plain g.type_name) (field_by_value f.type_name.base gs) (field_by_value g.type_name.base gs) h (fields_same f.type_name.base g.type_name.base h gs) s

pub global_next : (context : Context) (n : ℕ) (i : t.Item) (is : List t.Item) → goes_on i is ≡ true → before_globals context n (i ∷ is) ≡ Holds tt → before_globals context n is ≡ Holds tt
global_next context n i [] h s = refl
global_next context n i (t.struct at name fields ∷ is) h s = refl
global_next context n i (t.function at deletes result name params body ∷ is) h s = refl
global_next context n (t.global at m name count c) (t.global at' k name' count' c' ∷ is) h s = shared_next context n m.base k.base (is_plain k) (global_by_value m.base is) (global_by_value k.base is) h (globals_same m.base k.base h is) s
global_next context n (t.struct at name fields) (t.global at' k name' count' c' ∷ is) h s = absurd cc
global_next context n (t.function at deletes result name params body) (t.global at' k name' count' c' ∷ is) h s = absurd cc
