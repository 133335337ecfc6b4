use Rattle.std.proofs.Common.{◌≡◌, ◌∙◌, ℕ, List, [], ap, refl, subst, sym}
use Rattle.std.specs.List.{AllByRecursion as Every}
use Rattle.rc_base.specs.Memory.{BytesState, source_of}
use Rattle.rc_core.specs.Numbers.{IsByte}
use Rattle.rc_driver.proofs.Alone.{ran_alone}
use Rattle.rc_driver.proofs.running.run_alone.Goals as goal

pub returns : goal.returns
returns g c =
    let none : c.new-input.result.rest ≡ [] = ap (λ (b : BytesState). b.rest) c.new-input.ensures ∙ c.new.ensures.items in
    ran_alone c.args.code.now c.args.limits.now (source_of c.new-input.result) _ _ _ (g.H.Heap.store c.run_loaded.new.heap) c.run_loaded.result c.end_of.result
    (refl, subst (λ (bytes : List ℕ). Every IsByte bytes) (sym none) tt) none c.run_loaded.ensures c.end_of.ensures
