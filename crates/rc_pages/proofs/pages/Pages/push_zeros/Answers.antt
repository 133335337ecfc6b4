use Rattle.std.proofs.Common.{◌∙◌, ◌++◌, ap, arith, replicate}
use Rattle.rc_pages.proofs.Begun.{begun-grown, begun-pushed}
use Rattle.rc_pages.proofs.pages.Pages.push_zeros.Goals as goal

pub invariant_of-self-2 : goal.invariant_of-self-2
invariant_of-self-2 g c = begun-grown c.self.inside.few c.self.inside.rest c.self.inside.len c.self.invariant c.args.n c.in-Some.len c.in-Some.ensures.1 c.push_zeros.new.self
    (c.in_ok-push_zeros.ensures.ok ∙ ap (λ k. c.self.inside.rest ++ replicate k 0) (omega (arith, c.paged.ensures, c.paged-2.ensures)))

pub returns-clause-ok : goal.returns-clause-ok
returns-clause-ok g c =
    begun-pushed c.self.inside.few c.self.inside.rest c.self.inside.len c.self.invariant c.args.n c.in-Some.len c.in-Some.ensures.1 c.push_zeros.new.self
    (c.in_ok-push_zeros.ensures.ok ∙ ap (λ k. c.self.inside.rest ++ replicate k 0) (omega (arith, c.paged.ensures, c.paged-2.ensures)))
    ∙ ap (λ cells. cells ++ replicate c.args.n 0) c.self.view_is
