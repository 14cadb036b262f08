use Rattle.std.proofs.Common.{◌≡◌, FitsSigned, to_z-of_z, w64}
use Rattle.std.specs.Int.{w128}
use Rattle.zic_row_text.specs.Count.{second_of}
use Rattle.zic_row_text.proofs.Counts.{row_second_fits}
use Rattle.zic_row_text.proofs.row_time.RowTime.of_count.Goals as goal

pub returns-clause-second : goal.returns-clause-second
returns-clause-second c =
    let moment = c.moment_of-moment in
    let whole : FitsSigned w128 c.args.count = c.ranges.count in
    let second : moment.result.second ≡ second_of c.args.unit c.args.count = rw (to_z-of_z whole) at moment.ensures.second in
    let fits = row_second_fits moment.result.second (rw second c.requires) in
    let near : FitsSigned w64 moment.result.second = fits.0 in
    let far : FitsSigned w128 moment.result.second = fits.1 in
    rw (to_z-of_z far, to_z-of_z near) second

pub returns-clause-fraction : goal.returns-clause-fraction
returns-clause-fraction c =
    let whole : FitsSigned w128 c.args.count = c.ranges.count in
    rw (to_z-of_z whole) at c.moment_of-moment.ensures.fraction
