use Rattle.std.proofs.Common.{Some, List, subst}
use Rattle.std.specs.List.{slice_range}
use Rattle.zic_files.specs.File.{File}
use Rattle.zic_zones.specs.code.Ready.{AreReady}
use Rattle.zic_zones.proofs.Named.{number_is}
use Rattle.zic_zones.proofs.row_zones.RowZones.find_at.Goals as goal

pub returns-in-Some : goal.returns-in-Some
returns-in-Some c =
    let files = c.args.self.now in
    let name = slice_range c.args.bytes.now c.args.start c.args.end in
    let ready = subst (λ (l : List File). AreReady l c.self.inside.ready.now) c.self.view_is c.self.invariant in
    number_is files name (Some c.in-Some.number) c.are_sound.ensures (c.in-Some.ensures files ready) tt
