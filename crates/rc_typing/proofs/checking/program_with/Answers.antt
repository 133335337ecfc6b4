use Rattle.std.proofs.Common.{◌≡◌, ap, subst, map, None}
use Rattle.std.specs.List.{AllByRecursion as Every}
use Rattle.rc_core.specs.Numbers.{IsByte}
use Rattle.rc_core.specs.Shapes.{bytes_of, program_of}
use Rattle.rc_syntax.specs.Shape.{item_of, tree_of}
use Rattle.rc_deletes.specs.Answer.{main_fault}
use Rattle.rc_deletes.specs.Ranges.{ItemsInRange}
use Rattle.rc_typing.proofs.Programs.{its_program}
use Rattle.rc_typing.proofs.checking.program_with.Goals as goal

pub new-requires : goal.new-requires
new-requires c =
    let none : None ≡ main_fault (map item_of c.args.tree.now.items.items) = cc (ap (λ xs. main_fault (map item_of xs)) c.deref.ensures.value) in
    let numbers : ItemsInRange (map item_of c.args.tree.now.items.items) = subst (λ xs. ItemsInRange (map item_of xs)) c.deref-2.ensures.value c.numbers.ensures in
    let bytes : Every (Every IsByte) (program_of c.args.parts).strings = subst (λ xs. Every (Every IsByte) (map bytes_of xs)) c.deref-3.ensures.value c.strings.ensures in
    c.fits_together.ensures (program_of c.args.parts)
    numbers
    c.requires.limited
    bytes
    (its_program (tree_of c.args.tree.now) (program_of c.args.parts) c.requires.judged none c.in-Ok.ensures.ok)
