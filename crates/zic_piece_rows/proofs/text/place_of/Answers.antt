use Rattle.std.proofs.Common.{◌≡◌, ◌∙◌, Err, FitsSigned, ap, rules, sym, to_z-of_z, w64}
use Rattle.std.specs.Int.{w128}
use Rattle.std.specs.Prelude.{slice_get}
use Rattle.zic_local.specs.declared.local_time.Unresolved.TheVariants as unresolved
use Rattle.zic_row_text.specs.Count.{second_of}
use Rattle.zic_zones.specs.Zones.{zone_in}
use Rattle.zic_piece_rows.specs.LayoutRows.{place_of}
use Rattle.zic_piece_rows.specs.code.Batch.{record_of}
use Rattle.zic_piece_rows.proofs.Columns.{number_within}
use Rattle.zic_piece_rows.proofs.RowFaults.{found}
use Rattle.zic_piece_rows.proofs.RowFields.{place_shown}
use Rattle.zic_piece_rows.proofs.text.place_of.Goals as goal

pub instant-requires-clause-within : goal.instant-requires-clause-within
instant-requires-clause-within c =
    let piece = c.args.piece.now in
    let (given, is) = c.requires in
    rw is.query.file at (number_within piece.zones.now (zone_in piece.layout.now.zone (record_of piece given).fields))

pub returns-in-Err-Gap : goal.returns-in-Err-Gap
returns-in-Err-Gap c =
    let piece = c.args.piece.now in
    let answer = c.args.answer.now in
    let u = piece.layout.now.unit in
    let local = c.in-Local-Count.local in
    let (given, is) = c.requires in
    let (f, got, called, known) = found piece.zones.now (zone_in piece.layout.now.zone (record_of piece given).fields) answer.file is.query.file in
    let whole : FitsSigned w128 local = search rules in
    let second : c.local_time_of-second.result.second ≡ second_of u local = rw (to_z-of_z whole) at c.local_time_of-second.ensures.second in
    let fits : FitsSigned w64 c.local_time_of-second.result.second = search rules in
    let means = rw (got, to_z-of_z fits, second) at c.instant.ensures in
    let why : c.instant.result ≡ Err unresolved.Gap = c.in-Err-Gap.is ∙ ap (λ w. Err w) c.in-Err-Gap.field-0-is in
    ap place_of (sym why)
    ∙ place_shown piece.layout.now.from u (slice_get piece.zones.now answer.file) f answer.input local c.in-Local-Count.field-0-0 c.instant.result c.in-Local-Count.is-0 got c.in-Local-Count.is-1 means

pub returns-in-Err-Fold : goal.returns-in-Err-Fold
returns-in-Err-Fold c =
    let piece = c.args.piece.now in
    let answer = c.args.answer.now in
    let u = piece.layout.now.unit in
    let local = c.in-Local-Count.local in
    let (given, is) = c.requires in
    let (f, got, called, known) = found piece.zones.now (zone_in piece.layout.now.zone (record_of piece given).fields) answer.file is.query.file in
    let whole : FitsSigned w128 local = search rules in
    let second : c.local_time_of-second.result.second ≡ second_of u local = rw (to_z-of_z whole) at c.local_time_of-second.ensures.second in
    let fits : FitsSigned w64 c.local_time_of-second.result.second = search rules in
    let means = rw (got, to_z-of_z fits, second) at c.instant.ensures in
    let why : c.instant.result ≡ Err unresolved.Fold = c.in-Err-Fold.is ∙ ap (λ w. Err w) c.in-Err-Fold.field-0-is in
    ap place_of (sym why)
    ∙ place_shown piece.layout.now.from u (slice_get piece.zones.now answer.file) f answer.input local c.in-Local-Count.field-0-0 c.instant.result c.in-Local-Count.is-0 got c.in-Local-Count.is-1 means
