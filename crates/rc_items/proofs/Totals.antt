-- Totals of cells, where the cells of structs are counted up to a limit.
use Rattle.std.proofs.Common.{◌≡◌, ◌<◌, ◌+◌, ◌*◌, ℕ, ap, sym, ◌∙◌, arith, List, length, map, Option}
use Rattle.std.specs.Prelude.{nat_lt, min}
use Rattle.std.proofs.lemmas.Bool.Decides.{nat_tests}
use Rattle.rc_syntax.specs.Tree as t
use Rattle.rc_core.specs.Types.{Ty, struct}
use Rattle.rc_core.specs.Programs.{Struct}
use Rattle.rc_core.specs.Layout.{Layout, layouts_of, cells_by, size}
use Rattle.rc_core.specs.WellTyped.{elements}
use Rattle.rc_deletes.specs.Kinds.{written_type}
use Rattle.rc_deletes.specs.Scopes.{structs_in}
use Rattle.rc_deletes.specs.Items.{cells_of_global}
use Rattle.rc_defined.specs.declared.context.Context.{Context}
use Rattle.rc_defined.specs.Contexts.{context_of}
use Rattle.rc_defined.specs.Fields.{struct_in}
use Rattle.rc_defined.specs.Sizes.{capped, SameUpTo}
use Rattle.rc_defined.proofs.Contexts.{structs_are}
use Rattle.rc_defined.proofs.Counted.{times}

same_capped : (a b : ℕ) → capped a ≡ capped b → SameUpTo 1048576 a b
same_capped a b h = (grind (arith, nat_tests), λ l. omega (arith, h, l))

more_capped : (c x y : ℕ) → capped x ≡ capped y → capped (c + x) ≡ capped (c + y)
more_capped c x y h = omega (arith, h)

cut_lt : (n most k : ℕ) → k < most → nat_lt k (min n most) ≡ nat_lt k n
cut_lt n most k h = grind (arith, nat_tests)

abbrev pub layouts_in : Context → List Layout
layouts_in c = layouts_of (map struct_in c.structs.items)

pub total_same : (c : Context) (n : t.TypeName) (count : Option ℕ) (cells total one : ℕ) (ty : Ty) → one ≡ capped (length (cells_by (layouts_in c) ty)) → ty ≡ written_type (context_of c).types n → total ≡ elements count * one →
    SameUpTo 1048576 (cells + total) (cells + cells_of_global (context_of c) n count)
total_same c n count cells total one ty o is e =
    let real : ℕ = size (structs_in (context_of c)) (written_type (context_of c).types n) in
    let same : one ≡ capped real = o ∙ ap (λ u. capped (length (cells_by (layouts_in c) u))) is ∙ ap (λ (ss : List Struct). capped (size ss (written_type (context_of c).types n))) (sym (structs_are c)) in
    same_capped (cells + total) (cells + elements count * real) (more_capped cells total (elements count * real) (ap capped (e ∙ ap (λ s. elements count * s) same) ∙ times (elements count) real))

pub big_tells : (c : Context) (number one : ℕ) → one ≡ capped (length (cells_by (layouts_in c) (struct number))) → nat_lt 4096 one ≡ nat_lt 4096 (size (structs_in (context_of c)) (struct number))
big_tells c number one o =
    ap (nat_lt 4096) o
    ∙ cut_lt (length (cells_by (layouts_in c) (struct number))) 1048577 4096 (omega arith)
    ∙ ap (λ (ss : List Struct). nat_lt 4096 (size ss (struct number))) (sym (structs_are c))
