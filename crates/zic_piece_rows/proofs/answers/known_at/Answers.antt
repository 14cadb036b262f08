use Rattle.std.proofs.Common.{◌≡◌, ◌<◌, ◌∙◌, FitsSigned, List, Some, length, refl, rules, subst, sym, to_z-of_z}
use Rattle.std.specs.Int.{w64}
use Rattle.zic_files.specs.File.{File}
use Rattle.zic_zones.specs.Zones.{AnswersAt, zone_in}
use Rattle.zic_piece_rows.specs.code.Batch.{record_of, zone_at}
use Rattle.zic_piece_rows.proofs.Columns.{number_within}
use Rattle.zic_piece_rows.proofs.KnownRows.{known_is}
use Rattle.zic_piece_rows.proofs.answers.known_at.Goals as goal

pub instant_of-requires-clause-within : goal.instant_of-requires-clause-within
instant_of-requires-clause-within c =
    let piece = c.args.piece.now in
    rw (sym c.requires.zone ∙ c.in-Some.is) at (number_within piece.zones.now (zone_in piece.layout.now.zone (record_of piece c.args.given.now).fields))

pub number-requires : goal.number-requires
number-requires c =
    let piece = c.args.piece.now in
    rw c.requires.files (rw (sym c.requires.zone ∙ c.in-Some.is) at (number_within piece.zones.now (zone_in piece.layout.now.zone (record_of piece c.args.given.now).fields)))

pub returns : goal.returns
returns c =
    let piece = c.args.piece.now in
    let given = c.args.given.now in
    let file = c.in-Some.file in
    let instant = c.in-Some-instant_of.instant in
    let zone : zone_at piece given ≡ Some file = sym c.requires.zone ∙ c.in-Some.is in
    let within : file < length piece.zones.now = rw zone at (number_within piece.zones.now (zone_in piece.layout.now.zone (record_of piece given).fields)) in
    let second : FitsSigned w64 instant.second = search rules in
    record {
      file = sym zone;
      answer = λ says.
          let (state, got, answers) = (rw (to_z-of_z second) at c.number.ensures) says in
          let at = subst (λ (files : List File). AnswersAt files file instant.second state) c.requires.files answers in
          let is = known_is piece given file zone within (c.if-not-is_admitted.ensures refl) c.args.time (c.requires.time (λ same. c.if-time-eq-NO_TIME.false (rw same refl))) instant c.number.result state at c.in-Some-instant_of.ensures in
          (state, got, is);
    }
