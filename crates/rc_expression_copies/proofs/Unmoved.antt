-- Names and types that are moved by nothing are the same.
use Rattle.std.proofs.Common.{◌≡◌, ◌+◌, ap, ◌∙◌, arith}
use Rattle.rc_syntax.specs.declared.tree.Spot.{Spot}
use Rattle.rc_syntax.specs.declared.tree.Name.{Name}
use Rattle.rc_syntax.specs.declared.tree.Base.{Base}
use Rattle.rc_syntax.specs.declared.tree.Base.TheVariants as base
use Rattle.rc_syntax.specs.Tree as t
use Rattle.rc_linking.specs.Moved as m

pub two : {A B C : Type 0} (f : A → B → C) {a c : A} {b d : B} → a ≡ c → b ≡ d → f a b ≡ f c d
two f {c = c} {b = b} h k = ap (λ x. f x b) h ∙ ap (f c) k

pub spot : (at : Spot) → m.moved_spot 0 at ≡ at
spot at = ap (λ n. record { place = n; line = at.line }) (let e : at.place + 0 ≡ at.place = omega arith in e)

pub name : (n : Name) → m.moved_name 0 n ≡ n
name n = ap (λ at. record { spot = at; text = n.text }) (spot n.spot)

a_base : (b : Base) → m.moved_base 0 b ≡ b
a_base (base.Int at) = ap base.Int (spot at)
a_base (base.Unsigned at) = ap base.Unsigned (spot at)
a_base (base.Char at) = ap base.Char (spot at)
a_base (base.Region at) = ap base.Region (spot at)
a_base (base.Struct at n) = two base.Struct (spot at) (name n)

pub a_type : (ty : t.TypeName) → m.moved_type 0 ty ≡ ty
a_type ty = ap (λ b. record { base = b; stars = ty.stars }) (a_base ty.base)
