-- Items of two files that don't go together.
use Rattle.std.specs.Prelude.{ℕ, List, [], ◌∷◌, Option, Some, None, Bool, true, false, not, nat_eq, ◌&&◌, ◌||◌}
use Rattle.std.specs.Str.{bytes_eq}
use Rattle.rc_syntax.specs.declared.tree.Base.{Base}
use Rattle.rc_syntax.specs.declared.tree.Base.TheVariants as base
use Rattle.rc_syntax.specs.declared.tree.Note.{Note}
use Rattle.rc_syntax.specs.Tree as t
use Rattle.rc_deletes.specs.Kinds.{same_note, note_of}
use Rattle.rc_deletes.specs.Items.{same_bool}

-- lists of the same length, of which each two parts pass the test
abbrev pub same_lists : {A : Type 0} → (same : A → A → Bool) → List A → List A → Bool
same_lists same [] [] = true
same_lists same (a ∷ xs) (b ∷ ys) = same a b && same_lists same xs ys
same_lists same xs ys = false

-- types that are written in the same words
abbrev pub same_base : Base → Base → Bool
same_base (base.Int a) (base.Int b) = true
same_base (base.Unsigned a) (base.Unsigned b) = true
same_base (base.Char a) (base.Char b) = true
same_base (base.Region a) (base.Region b) = true
same_base (base.Struct a name) (base.Struct b other) = bytes_eq name.text other.text
same_base a b = false

abbrev pub same_star : Note → Note → Bool
same_star m n = same_note (note_of m) (note_of n)

abbrev pub same_stars : List Note → List Note → Bool
same_stars = same_lists same_star

abbrev pub same_written : t.TypeName → t.TypeName → Bool
same_written a b = same_base a.base b.base && same_stars a.stars b.stars

abbrev pub same_length : Option ℕ → Option ℕ → Bool
same_length None None = true
same_length (Some a) (Some b) = nat_eq a b
same_length a b = false

abbrev pub same_field : t.Field → t.Field → Bool
same_field f g = bytes_eq f.name.text g.name.text && (same_written f.type_name g.type_name && same_length f.length g.length)

abbrev pub same_fields : List t.Field → List t.Field → Bool
same_fields = same_lists same_field

abbrev pub same_result : Option t.TypeName → Option t.TypeName → Bool
same_result None None = true
same_result (Some a) (Some b) = same_written a b
same_result a b = false

-- parameters are compared without their names
abbrev pub same_param : t.Param → t.Param → Bool
same_param q r = same_written q.type_name r.type_name

abbrev pub same_params : List t.Param → List t.Param → Bool
same_params = same_lists same_param

-- a struct has other fields than that of an earlier file, or a function another head
abbrev pub disagrees : (earlier later : t.Item) → Bool
disagrees (t.struct a name fields) (t.struct b other others) = bytes_eq name.text other.text && not (same_fields fields others)
disagrees (t.function a deletes result name params body) (t.function b also given other others code) =
    bytes_eq name.text other.text && not (same_bool deletes also && (same_result result given && same_params params others))
disagrees i j = false

-- a function is defined in an earlier file too, or a name is a global of one of the files and a global or function of the other
abbrev pub doubles : (earlier later : t.Item) → Bool
doubles (t.function a deletes result name params (Some body)) (t.function b also given other others (Some code)) = bytes_eq name.text other.text
doubles (t.function a deletes result name params body) (t.global b ty other count c) = bytes_eq name.text other.text
doubles (t.global a ty name count c) (t.global b type other length initial) = bytes_eq name.text other.text
doubles (t.global a ty name count c) (t.function b also given other others code) = bytes_eq name.text other.text
doubles i j = false

abbrev pub any : (t.Item → Bool) → List t.Item → Bool
any test [] = false
any test (i ∷ is) = test i || any test is
