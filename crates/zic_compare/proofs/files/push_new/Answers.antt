use Rattle.std.proofs.Common.{◌≡◌, rules}
use Rattle.std.specs.Prelude.{All}
use Rattle.zic_files.specs.File.{File}
use Rattle.zic_compare.proofs.FilesLemmas.{has_name, shared_new}
use Rattle.zic_compare.proofs.files.push_new.Goals as goal

pub returns-then-is_some : goal.returns-then-is_some
returns-then-is_some c =
    has_name c.args.how.now c.args.old.now c.args.new.now c.args.file c.name-name.result.now c.args.lines.now.items c.find.result
    c.name-name.ensures.name c.find.ensures.found (search rules)

pub returns-in-None : goal.returns-in-None
returns-in-None c =
    let none : All (λ (file : File). file.name ≡ c.name-name.result.now → ⊥) c.args.old.now = search rules in
    shared_new c.args.how.now c.args.old.now c.args.new.now c.args.file c.name-name.result.now c.args.lines.now.items c.name-name.ensures.name none
    (rw c.in-None.is at c.in_ok-field.ensures)
