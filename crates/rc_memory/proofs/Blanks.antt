-- Objects that are made blank.
use Rattle.std.proofs.Common.{◌≡◌, ℕ, List, map, Result, IfOk, sym, ap, ◌∙◌}
use Rattle.std.proofs.lemmas.Result.{IfOk-weaker}
use Rattle.rc_core.specs.Layout.{Layout}
use Rattle.rc_core.specs.Heap.{Object, blank}
use Rattle.rc_core.specs.declared.layouts.Kind.{Kind}
use Rattle.rc_core.specs.Laid.{held_kind}
use Rattle.rc_values.specs.Objects as k
use Rattle.rc_values.specs.Objects.{KeptObject, kept_object}
use Rattle.rc_memory.proofs.Keeps.{blank_kept}

pub blank_made : {E : Type 0} (r : Result KeptObject E) (kinds : List Kind) (layout : Layout) (n : ℕ) (o : Object) → kinds ≡ map held_kind layout → blank layout n ≡ o → IfOk r (λ x. x ≡ k.blank kinds n) → IfOk r (λ x. x ≡ kept_object o)
blank_made r kinds layout n o is same made =
    IfOk-weaker r (λ x. x ≡ k.blank kinds n) (λ x. x ≡ kept_object o) (λ x e. e ∙ ap (λ ks. k.blank ks n) is ∙ sym (blank_kept layout n) ∙ ap kept_object same) made
