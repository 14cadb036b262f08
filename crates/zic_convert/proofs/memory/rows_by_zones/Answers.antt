use Rattle.std.proofs.Common.{◌≡◌, [], ap, subst, sym}
use Rattle.zic_files.specs.Sound.{AreSoundFiles}
use Rattle.zic_zones.specs.Zones.{alone}
use Rattle.zic_zones.specs.declared.zones.Releases.{Releases}
use Rattle.zic_convert.proofs.InMemory.{made_by, ok_if}
use Rattle.zic_convert.proofs.Joining.{on_ok}
use Rattle.zic_convert.proofs.memory.rows_by_zones.Goals as goal

pub returns : goal.returns
returns c =
    let by = c.args.by.now in
    let zones = c.args.zones.now in
    let new = c.convert_rows-outcome.new in
    let none : c.new-writer.result.inner.items ≡ [] = rw c.new-writer.ensures c.new.ensures.items in
    let named = rw none at (ok_if c.write_names.result _ (sym c.if-is_err.ensures.value) c.write_names.ensures.ok).0 in
    let run = rw c.new-notes.ensures at c.convert_rows-outcome.ensures in
    on_ok c.made_by.result _ _
    (λ made is. made_by by.layout.now (alone zones) by.plan.now.max_rows c.args.column.now c.write_names.new.writer.inner.items new.writer.inner.items new.log named made
    (λ a b. b ≡ a) (λ a b. b ≡ a) (λ z (releases : Releases). (releases ≡ alone z) × AreSoundFiles z) zones new.zones
    (λ then same. (ap alone (sym same), subst AreSoundFiles (sym same) c.requires.sound))
    c.convert_rows-outcome.result run.grown run.all run.halt is)
    (rw c.into_inner.ensures at c.made_by.ensures)
