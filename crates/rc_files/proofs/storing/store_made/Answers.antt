use Rattle.std.proofs.Common.{◌≡◌, ◌∙◌, ℕ, List, IfOk, refl, subst}
use Rattle.rc_files.specs.Making.{MadeBytes, not_made}
use Rattle.rc_files.proofs.storing.store_made.Goals as goal

pub returns-in_default : goal.returns-in_default
returns-in_default g c = λ bytes is. not_made refl

pub returns : goal.returns
returns g c = λ bytes is.
    (let made = subst (λ r. IfOk r (λ stored. stored.items ≡ bytes)) c.in-Ok.is is in
    subst (λ (b : List ℕ). MadeBytes c.args.name.now b (g.F.Shelf.state c.args.files.now) (g.F.Shelf.state c.store_bytes.new.files) c.store_bytes.result) (c.as_slice.ensures.value ∙ made) c.store_bytes.ensures)
