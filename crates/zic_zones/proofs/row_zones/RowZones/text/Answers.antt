use Rattle.std.proofs.Common.{List, subst}
use Rattle.std.specs.Prelude.{slice_get}
use Rattle.zic_base.proofs.Elements.{got}
use Rattle.zic_base.proofs.Options.{if_at}
use Rattle.zic_files.specs.File.{File}
use Rattle.zic_zones.proofs.Readying.{if_some_then}
use Rattle.zic_zones.proofs.Shows.{answers_at}
use Rattle.zic_tzif.specs.States.{IsStateOfNumber}
use Rattle.zic_zones.specs.code.Ready.{AreReady}
use Rattle.zic_zones.proofs.row_zones.RowZones.text.Goals as goal

pub returns : goal.returns
returns c =
    let files = c.args.self.now in
    let number = c.args.number in
    let (file, at) = got files c.args.file c.requires in
    let ready = subst (λ (l : List File). AreReady l c.self.inside.ready.now) c.self.view_is c.self.invariant in
    if_some_then c.text.result (c.text.ensures files ready) (λ text is second shows.
    answers_at files c.args.file file at number second text.now (if_at (slice_get files c.args.file) (λ (f : File). IsStateOfNumber f.image.content number text.now) file is at) shows)
