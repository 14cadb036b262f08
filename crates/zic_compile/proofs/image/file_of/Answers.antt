use Rattle.std.proofs.Common.{ℕ, List, subst, ◌∙◌}
use Rattle.zic_tzif.specs.Reading.{IsFile}
use Rattle.zic_tzif.specs.Writing.{written}
use Rattle.zic_compile.proofs.zone_images.Images.{read_again}
use Rattle.zic_compile.proofs.image.file_of.Goals as goal

pub returns-clause-is : goal.returns-clause-is
returns-clause-is c =
    let octets = c.in_ok-octets in
    let read = subst (λ (xs : List ℕ). IsFile xs c.in_ok-zone.zone) c.deref.ensures.value c.in_ok-zone.ensures in
    c.new.ensures ∙ read_again octets.octets.items (written c.args.table.now) c.args.table.now c.in_ok-zone.zone octets.ensures.written octets.ensures.read read

pub returns-clause-read : goal.returns-clause-read
returns-clause-read c =
    subst (λ (xs : List ℕ). IsFile xs c.args.table.now) c.in_ok-octets.ensures.written c.in_ok-octets.ensures.read
