use Rattle.std.proofs.Common.{◌≡◌, List, subst}
use Rattle.std.specs.Prelude.{IfSome, slice_get}
use Rattle.zic_base.proofs.Elements.{got}
use Rattle.zic_base.proofs.Options.{if_at}
use Rattle.zic_base.specs.State.{shown}
use Rattle.zic_files.specs.File.{File}
use Rattle.zic_zones.proofs.Shows.{shows_throughout}
use Rattle.zic_zones.proofs.row_zones.RowZones.span.Goals as goal

pub returns-clause-shows : goal.returns-clause-shows
returns-clause-shows c =
    let files = c.args.self.now in
    let span = c.span-span.result in
    let (file, at) = got files c.args.file c.requires in
    let zone = subst (λ (l : List File). IfSome (slice_get l c.args.file) (λ f. c.zone.result.now ≡ f.image.content)) c.self.view_is c.zone.ensures.zone in
    let same = if_at (slice_get files c.args.file) (λ (f : File). c.zone.result.now ≡ f.image.content) file zone at in
    shows_throughout files c.args.file file at span.number span.instants c.zone.result.now (shown c.in-Known.field-0) same
    (rw c.in-Known.is at c.span-span.ensures.number) (rw c.in-Known.is at c.span-span.ensures.answers)
