use Rattle.std.proofs.Common.{◌<◌, ◌∙◌, FitsSigned, List, length, refl, rules, subst, sym, to_z-of_z}
use Rattle.std.specs.Int.{w64}
use Rattle.zic_files.specs.File.{File}
use Rattle.zic_zones.specs.Zones.{AnswersAt, zone_in}
use Rattle.zic_piece_rows.specs.code.Pairs.{pair_of}
use Rattle.zic_piece_rows.proofs.Columns.{number_within}
use Rattle.zic_piece_rows.proofs.PlainPairs.{pair_known}
use Rattle.zic_piece_rows.proofs.pairs.find_state.Goals as goal

pub number-requires : goal.number-requires
number-requires c =
    let piece = c.args.piece.now in
    let zone = c.requires.file c.if-file-eq-NO_FILE.false in
    rw c.requires.files (rw zone at (number_within piece.zones.now (zone_in piece.layout.now.zone (pair_of piece c.args.pair).fields)))

pub returns : goal.returns
returns c = λ says.
    let piece = c.args.piece.now in
    let pair = c.args.pair in
    let file = c.args.file in
    let time = c.args.time in
    let zone = c.requires.file c.if-file-eq-NO_FILE.false in
    let within : file < length piece.zones.now = rw zone at (number_within piece.zones.now (zone_in piece.layout.now.zone (pair_of piece pair).fields)) in
    let second : FitsSigned w64 time.second = search rules in
    let (state, got, answers) = (rw (to_z-of_z second) at c.number.ensures) says in
    let at = subst (λ (files : List File). AnswersAt files file time.second state) c.requires.files answers in
    let read = c.requires.time (λ same. c.if-time-eq-NO_TIME.false (rw same refl)) in
    (state, got, pair_known piece pair c.requires.layout c.requires.pair file time c.number.result state zone within (sym c.may_have.ensures ∙ c.if-not-may_have.false) read at)
