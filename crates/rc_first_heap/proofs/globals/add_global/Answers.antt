use Rattle.std.proofs.Common.{◌≡◌, ◌∙◌, ◌++◌, ◌∷◌, [], ap, length, subst, sym, refl}
use Rattle.std.proofs.lemmas.Result.{on_ok_weaker}
use Rattle.rc_core.specs.Shapes.{kinds_in}
use Rattle.rc_code.specs.declared.image.Initial.TheVariants as initial
use Rattle.rc_code.specs.Image.{InitialFits, cells_at}
use Rattle.rc_code.specs.Running.{layout_of}
use Rattle.rc_worlds.specs.Meanings.{AreBytes}
use Rattle.rc_first_heap.specs.First.{IsNumber, first_of, holding}
use Rattle.rc_first_heap.proofs.Each.{cells_read, global_is, layout_is, one_byte, one_number, zeros_more}
use Rattle.rc_first_heap.proofs.globals.add_global.Goals as goal

pub returns-in-Zeros-clause-heap : goal.returns-in-Zeros-clause-heap
returns-in-Zeros-clause-heap g c =
    let s = g.H.Heap.store c.args.heap.now in
    let p = c.args.parts.now in
    let x = c.args.global.now in
    let layout = kinds_in c.in_ok-layout.layout in
    let cells : layout ≡ layout_of (cells_at p.types x.type_number) = c.in_ok-layout.ensures ∙ ap layout_of (c.as_slice-2.ensures ∙ cells_read p.types c.as_slice.result.now x.type_number c.index-as_slice-global.result c.as_slice.ensures c.index-as_slice-global.is c.requires.fits.type) in
    let is = layout_is p x.type_number layout c.requires.fits.type cells in
    c.in_ok-add_global-in-Zeros.ensures.ok
    ∙ zeros_more s c.requires.alone layout x.elements
    ∙ ap (λ o. holding (first_of s ++ o ∷ []) s) (global_is p x layout x.elements initial.Zeros is refl c.in-Zeros.is)

pub add_number-requires-clause-numbers : goal.add_number-requires-clause-numbers
add_number-requires-clause-numbers g c =
    let p = c.args.parts.now in
    let x = c.args.global.now in
    let layout = kinds_in c.in_ok-layout.layout in
    let cells : layout ≡ layout_of (cells_at p.types x.type_number) = c.in_ok-layout.ensures ∙ ap layout_of (c.as_slice-2.ensures ∙ cells_read p.types c.as_slice.result.now x.type_number c.index-as_slice-global.result c.as_slice.ensures c.index-as_slice-global.is c.requires.fits.type) in
    let fits : InitialFits (cells_at p.types x.type_number) x.elements (initial.Number c.in-Number.n) = subst (InitialFits (cells_at p.types x.type_number) x.elements) c.in-Number.is c.requires.fits.initial in
    subst IsNumber (sym cells) (one_number (cells_at p.types x.type_number) c.in-Number.n fits.1)

pub returns-in-Number-clause-heap : goal.returns-in-Number-clause-heap
returns-in-Number-clause-heap g c =
    let s = g.H.Heap.store c.args.heap.now in
    let p = c.args.parts.now in
    let x = c.args.global.now in
    let layout = kinds_in c.in_ok-layout.layout in
    let cells : layout ≡ layout_of (cells_at p.types x.type_number) = c.in_ok-layout.ensures ∙ ap layout_of (c.as_slice-2.ensures ∙ cells_read p.types c.as_slice.result.now x.type_number c.index-as_slice-global.result c.as_slice.ensures c.index-as_slice-global.is c.requires.fits.type) in
    let is = layout_is p x.type_number layout c.requires.fits.type cells in
    let fits : InitialFits (cells_at p.types x.type_number) x.elements (initial.Number c.in-Number.n) = subst (InitialFits (cells_at p.types x.type_number) x.elements) c.in-Number.is c.requires.fits.initial in
    on_ok_weaker c.add_number.result (λ e. e ∙ ap (λ o. holding (first_of s ++ o ∷ []) s) (global_is p x layout 1 (initial.Number c.in-Number.n) is fits.0 c.in-Number.is)) c.add_number.ensures

pub add_bytes-requires-clause-numbers : goal.add_bytes-requires-clause-numbers
add_bytes-requires-clause-numbers g c =
    let p = c.args.parts.now in
    let x = c.args.global.now in
    let layout = kinds_in c.in_ok-layout.layout in
    let cells : layout ≡ layout_of (cells_at p.types x.type_number) = c.in_ok-layout.ensures ∙ ap layout_of (c.as_slice-2.ensures ∙ cells_read p.types c.as_slice.result.now x.type_number c.index-as_slice-global.result c.as_slice.ensures c.index-as_slice-global.is c.requires.fits.type) in
    let fits : InitialFits (cells_at p.types x.type_number) x.elements (initial.Bytes c.in-Bytes.bytes) = subst (InitialFits (cells_at p.types x.type_number) x.elements) c.in-Bytes.is c.requires.fits.initial in
    subst IsNumber (sym cells) (one_byte (cells_at p.types x.type_number) fits.0)

pub add_bytes-requires-clause-all : goal.add_bytes-requires-clause-all
add_bytes-requires-clause-all g c =
    let p = c.args.parts.now in
    let x = c.args.global.now in
    let fits : InitialFits (cells_at p.types x.type_number) x.elements (initial.Bytes c.in-Bytes.bytes) = subst (InitialFits (cells_at p.types x.type_number) x.elements) c.in-Bytes.is c.requires.fits.initial in
    ap length c.as_slice-in-Bytes.ensures ∙ fits.1

pub returns-clause-heap : goal.returns-clause-heap
returns-clause-heap g c =
    let s = g.H.Heap.store c.args.heap.now in
    let p = c.args.parts.now in
    let x = c.args.global.now in
    let layout = kinds_in c.in_ok-layout.layout in
    let cells : layout ≡ layout_of (cells_at p.types x.type_number) = c.in_ok-layout.ensures ∙ ap layout_of (c.as_slice-2.ensures ∙ cells_read p.types c.as_slice.result.now x.type_number c.index-as_slice-global.result c.as_slice.ensures c.index-as_slice-global.is c.requires.fits.type) in
    let is = layout_is p x.type_number layout c.requires.fits.type cells in
    let first = c.in-Bytes.is ∙ ap initial.Bytes (sym c.as_slice-in-Bytes.ensures) in
    on_ok_weaker c.add_bytes.result (λ e. e ∙ ap (λ o. holding (first_of s ++ o ∷ []) s) (global_is p x layout x.elements (initial.Bytes c.as_slice-in-Bytes.result.now) is refl first)) c.add_bytes.ensures.heap

pub returns-clause-bytes : goal.returns-clause-bytes
returns-clause-bytes g c =
    let first = c.in-Bytes.is ∙ ap initial.Bytes (sym c.as_slice-in-Bytes.ensures) in
    on_ok_weaker c.add_bytes.result (λ all. subst AreBytes (sym first) all) c.add_bytes.ensures.bytes
