-- Sizes that are cut off tell which structs are small.
use Rattle.std.proofs.Common.{◌≡◌, ◌<◌, ℕ, ap, sym, ◌∙◌, arith, List, [], length, map}
use Rattle.std.specs.Prelude.{get_or, min, nat_le}
use Rattle.std.proofs.Math.ListN.{get_or-map}
use Rattle.std.proofs.lemmas.Bool.Decides.{nat_tests}
use Rattle.rc_core.specs.Types.{struct}
use Rattle.rc_core.specs.Programs.{Struct}
use Rattle.rc_core.specs.Layout.{Layout, layouts_of, size}
use Rattle.rc_item_rules.specs.Sizes.{TellSmall}
use Rattle.rc_defined.specs.declared.context.Context.{Context}
use Rattle.rc_defined.specs.Contexts.{context_of}
use Rattle.rc_defined.specs.Fields.{struct_in}
use Rattle.rc_defined.specs.Sizes.{capped, HasSizes}
use Rattle.rc_defined.proofs.Contexts.{structs_are}

cut_le : (n most k : ℕ) → k < most → nat_le (min n most) k ≡ nat_le n k
cut_le n most k h = grind (arith, nat_tests)

pub capped_at : (structs : List Struct) (sizes : List ℕ) (s : ℕ) → HasSizes structs sizes → get_or sizes s 0 ≡ capped (size structs (struct s))
capped_at structs sizes s h = ap (λ xs. get_or xs s 0) h ∙ get_or-map (λ (l : Layout). capped (length l)) (layouts_of structs) s []

pub tell_small : (c : Context) → TellSmall (context_of c) c.sizes.items
tell_small c s =
    ap (λ n. nat_le n 256) (capped_at (map struct_in c.structs.items) c.sizes.items s c.sized)
    ∙ cut_le (size (map struct_in c.structs.items) (struct s)) 1048577 256 (omega arith)
    ∙ ap (λ ss. nat_le (size ss (struct s)) 256) (sym (structs_are c))
