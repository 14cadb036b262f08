use Rattle.std.proofs.Common.{◌≡◌, ◌≢◌, List, subst}
use Rattle.std.specs.Prelude.{All, IfNone, IfSome, IsSomeAnd, slice_get}
use Rattle.zic_files.specs.File.{File}
use Rattle.zic_zones.proofs.Named.{number_is}
use Rattle.zic_zones.proofs.row_zones.RowZones.find.Goals as goal

pub returns : goal.returns
returns c =
    let name = c.args.name.now in
    let found = subst (λ (files : List File). IfSome c.find.result (λ i. IsSomeAnd (slice_get files i) (λ file. file.name ≡ name))) c.self.view_is c.find.ensures.found in
    let missing = subst (λ (files : List File). IfNone c.find.result (All (λ file. file.name ≢ name) files)) c.self.view_is c.find.ensures.missing in
    number_is c.args.self.now name c.find.result c.are_sound.ensures found missing
