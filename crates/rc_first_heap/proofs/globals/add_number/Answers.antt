use Rattle.std.proofs.Common.{◌≡◌, ◌∙◌, ◌++◌, ◌∷◌, [], ap, map, pos, sym, get_or, rules, w64, SFits, to_z-of_z}
use Rattle.rc_core.specs.Heap.{Number}
use Rattle.rc_core.specs.Laid.{held_kind}
use Rattle.rc_core.specs.Shapes.{kinds_in}
use Rattle.rc_core.specs.Types.{int_cell}
use Rattle.rc_code.specs.ImageMeaning.{first_number}
use Rattle.rc_store.specs.Kept.{blank}
use Rattle.rc_store.specs.Stores.{written}
use Rattle.rc_first_heap.specs.First.{first_of, holding, place_of}
use Rattle.rc_first_heap.proofs.Filling.{first_cell, kept_with, number_written, numbers, one_more}
use Rattle.rc_first_heap.proofs.globals.add_number.Goals as goal

pub returns : goal.returns
returns g c =
    let s = g.H.Heap.store c.args.heap.now in
    let before = first_of s in
    let layout = kinds_in c.args.layout.now in
    let added : g.H.Heap.store c.add_global.new.self ≡ holding (before ++ numbers 1 (Number (pos 0) ∷ []) ∷ []) s =
    c.in_ok-object.ensures.ok ∙ one_more s c.requires.alone (map held_kind layout) 1 ∙ ap (λ ks. holding (before ++ blank ks 1 ∷ []) s) c.requires.numbers in
    let value : c.first_number-value.result ≡ first_number (get_or layout 0 int_cell) c.args.n = c.first_number-value.ensures ∙ ap (λ k. first_number k c.args.n) (first_cell c.args.layout.now.cells.items c.index.result.now c.requires.numbers (search rules)) in
    let fits : SFits w64 c.first_number-value.result = search rules in
    c.write_number.ensures.written
    ∙ ap (λ z. written (place_of c.in_ok-object.object 0) (Number z) (g.H.Heap.store c.add_global.new.self)) (to_z-of_z fits)
    ∙ number_written s before 1 (Number (pos 0) ∷ []) c.in_ok-object.object 0 c.in_ok-object.ensures.number (g.H.Heap.store c.add_global.new.self) (Number c.first_number-value.result) added
    ∙ ap (λ z. holding (before ++ numbers 1 (Number z ∷ []) ∷ []) s) value
    ∙ sym (ap (λ o. holding (before ++ o ∷ []) s) (kept_with layout 1 (Number (first_number (get_or layout 0 int_cell) c.args.n) ∷ []) c.requires.numbers))
