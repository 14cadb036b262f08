use Rattle.std.proofs.Common.{◌≡◌, sym, ◌∙◌, rules}
use Rattle.std.proofs.lemmas.Result.{on_ok_weaker}
use Rattle.std.proofs.lemmas.Slice.Eq.{bytes_eq-Decides}
use Rattle.std.specs.Prelude.{All}
use Rattle.zic_files.specs.File.{File}
use Rattle.zic_compare.proofs.FilesLemmas.{both_files, lone_old, same_files}
use Rattle.zic_compare.proofs.files.push_old.Goals as goal

pub returns-then-eq : goal.returns-then-eq
returns-then-eq c =
    let same : c.bytes.result.now ≡ c.bytes-in-Some.result.now = (bytes_eq-Decides c.bytes.result.now c.bytes-in-Some.result.now).0 (sym c.eq.ensures ∙ c.if-eq.true) in
    same_files c.args.how.now c.args.old.now c.args.new.now c.args.file c.files_say_one.ensures c.in-Some.other c.name-name.result.now c.bytes.result.now c.bytes-in-Some.result.now c.args.lines.now.items
    c.name-name.ensures.name c.bytes.ensures c.zone-zone.ensures.read c.in-Some.ensures.found c.bytes-in-Some.ensures c.zone-new_zone.ensures.read same

pub returns-in-Some-2 : goal.returns-in-Some-2
returns-in-Some-2 c =
    on_ok_weaker c.push_both.result (λ pushed.
    both_files c.args.how.now c.args.old.now c.args.new.now c.args.file c.in-Some.other c.name-name.result.now c.in-Some-2.field.items c.args.lines.now.items c.push_both.new.lines.items pushed.0
    c.zone-zone.result.now c.zone-new_zone.result.now c.name-name.ensures.name c.zone-zone.ensures.zone c.in-Some.ensures.found c.zone-new_zone.ensures.zone
    (rw c.in-Some-2.is at c.in_ok-field-in-Some.ensures) pushed.1 pushed.2)
    (rw c.deref.ensures.value at c.push_both.ensures)

pub returns-in-Some-3 : goal.returns-in-Some-3
returns-in-Some-3 c =
    let none : All (λ (file : File). file.name ≡ c.name-name.result.now → ⊥) c.args.new.now = search rules in
    on_ok_weaker c.push_old_alone.result
    (lone_old c.args.how.now c.args.old.now c.args.new.now c.args.file c.name-name.result.now c.in-Some-3.field.items c.args.lines.now.items c.push_old_alone.new.lines.items
    c.zone-zone.result.now c.name-name.ensures.name c.zone-zone.ensures.zone none (rw c.in-Some-3.is at c.in_ok-field-in-None.ensures))
    (rw c.deref-in-Some-3.ensures.value at c.push_old_alone.ensures)
