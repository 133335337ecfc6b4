use Rattle.std.proofs.Common.{List, ap, arith, length, subst}
use Rattle.std.specs.Prelude.{string_bytes}
use Rattle.std.proofs.lemmas.List.{length-map}
use Rattle.rc_outcomes.specs.Outside.{outside}
use Rattle.rc_requests.specs.Asking.{bytes_of}
use Rattle.rc_files.specs.declared.text_files.FileText.{FileText}
use Rattle.rc_driver.specs.Linking.{LinkedTexts}
use Rattle.rc_driver.proofs.Linked.{links_loaded, links_not_loaded}
use Rattle.rc_driver.proofs.link.link_files.Goals as goal

pub link_texts-requires : goal.link_texts-requires
link_texts-requires g c =
    let few = c.requires in
    let count = c.in-Ok.ensures.loaded.count in
    let named = length-map c.args.names.now string_bytes in
    let same = ap length c.as_slice.ensures.value in
    omega (arith, few, count, named, same)

pub returns-in-Ok : goal.returns-in-Ok
returns-in-Ok g c = λ request input out err heap row.
    links_loaded request c.args.to.now (bytes_of c.args.names.now) row (outside (g.F.Shelf.state c.args.files.now) input out err heap) (g.F.Shelf.state c.load_texts.new.files) c.in-Ok.texts.items c.in-Ok.ensures.loaded (g.F.Shelf.state c.link_texts.new.files) c.link_texts.result
    (subst (λ (texts : List FileText). LinkedTexts texts c.args.to.now (g.F.Shelf.state c.load_texts.new.files) (g.F.Shelf.state c.link_texts.new.files) c.link_texts.result) c.as_slice.ensures.value c.link_texts.ensures)

pub returns-in-Err : goal.returns-in-Err
returns-in-Err g c = λ request input out err heap row.
    links_not_loaded request c.args.to.now (bytes_of c.args.names.now) row (outside (g.F.Shelf.state c.args.files.now) input out err heap) (g.F.Shelf.state c.load_texts.new.files) c.in-Err.fault c.in-Err.ensures.failed
