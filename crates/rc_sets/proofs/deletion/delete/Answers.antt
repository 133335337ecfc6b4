use Rattle.std.proofs.Common.{Err, ap}
use Rattle.rc_sets.proofs.Lines.{deletes_all, deletes_reference, deletes_subregion}
use Rattle.rc_sets.proofs.deletion.delete.Goals as goal

pub returns-in-Ok : goal.returns-in-Ok
returns-in-Ok g c =
    let did = c.in-Ok.ensures in
    deletes_all c.args.regions.now (g.H.Heap.store c.args.heap.now) (g.H.Heap.store c.delete_set.new.self) (λ is. (let e = did.root.1 is in cc)) (λ is. (let e = did.subregion.1 is in cc)) (λ is. (let e = did.reference.1 is in cc)) did.ok

pub returns-in-Err-Subregion : goal.returns-in-Err-Subregion
returns-in-Err-Subregion g c =
    let why = c.in-Err-Subregion.ensures.subregion.0 (ap Err c.in-Err-Subregion.field-0-is) in
    deletes_subregion c.args.regions.now (g.H.Heap.store c.args.heap.now) (g.H.Heap.store c.delete_set.new.self) why.0 why.1 c.in-Err-Subregion.ensures.err

pub returns-in-Err-Reference : goal.returns-in-Err-Reference
returns-in-Err-Reference g c =
    let why = c.in-Err-Reference.ensures.reference.0 (ap Err c.in-Err-Reference.field-0-is) in
    deletes_reference c.args.regions.now (g.H.Heap.store c.args.heap.now) (g.H.Heap.store c.delete_set.new.self) why.0 why.1 why.2 c.in-Err-Reference.ensures.err
