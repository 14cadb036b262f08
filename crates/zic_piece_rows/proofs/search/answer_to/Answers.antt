use Rattle.std.proofs.Common.{ℤ, FitsSigned, refl, rules, to_z-of_z}
use Rattle.std.specs.Int.{w128, w64}
use Rattle.zic_layouts.specs.declared.layout.TimeFrom.{TimeFrom}
use Rattle.zic_layouts.specs.declared.layout.TimeFrom.TheVariants as times
use Rattle.zic_piece_rows.specs.code.Answer.{IsMeantBy}
use Rattle.zic_piece_rows.specs.declared.start.Input.TheVariants as given_by
use Rattle.zic_piece_rows.proofs.Columns.{state_is}
use Rattle.zic_piece_rows.proofs.search.answer_to.Goals.{in-Some, in-None}
use Rattle.zic_piece_rows.proofs.search.answer_to.Goals as goal

meant_of : (from : TimeFrom) (count : ℤ) → IsMeantBy from (given_by.Count count) count
meant_of times.Count count = tt
meant_of (times.Text form) count = tt
meant_of (times.Local choice) count = refl

pub make_text-requires-clause-shown : goal.make_text-requires-clause-shown
make_text-requires-clause-shown c =
    let second = c.of_count-time.result.second in
    let near : FitsSigned w64 second = search rules in
    let within = rw (to_z-of_z near) at c.span-number.ensures.requested in
    let shows = c.span-number.ensures.shows in
    (second, state_is c.args.piece.now.zones.now c.args.query.file second c.span-number.result within shows)

pub returns : goal.returns
returns c = λ given is.
    let files = c.args.piece.now.zones.now in
    let query = c.args.query in
    let second = c.of_count-time.result.second in
    let near : FitsSigned w64 second = search rules in
    let count : FitsSigned w128 query.counts.count = search rules in
    let input : FitsSigned w128 query.counts.input = search rules in
    let time = c.of_count-time.ensures in
    let shown = state_is files query.file second c.span-number.result (rw (to_z-of_z near) at c.span-number.ensures.requested) c.span-number.ensures.shows in
    rw (to_z-of_z input) (record {
      counts = query.counts;
      query = is;
      time = record { second = rw (to_z-of_z count) at time.second; fraction = rw (to_z-of_z count) at time.fraction; unit = time.unit };
      begins = is.counts.sound;
      says = refl;
      answers = elim c.match-text.branch [
        | in-Some w ↦ rw w.state-is (w.in-Some.ensures second shown)
        | in-None w ↦ rw w.state-is (w.make_text.ensures second shown)
      ];
      meant = meant_of c.args.piece.now.layout.now.from query.counts.input;
    })
