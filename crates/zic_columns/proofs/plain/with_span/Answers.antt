use Rattle.std.proofs.Common.{◌∷◌, [], sym, ◌∙◌, arith}
use Rattle.std.proofs.lemmas.List.{length-append}
use Rattle.zic_columns.specs.Record.{bytes_at}
use Rattle.zic_columns.proofs.PlainFacts.{picked, picked_zone}
use Rattle.zic_columns.proofs.plain.with_span.Goals as goal

pub returns-clause-has : goal.returns-clause-has
returns-clause-has c = λ d piece start stop wanted texts is has within.
    let fields = c.args.fields in
    let span = c.args.span in
    let zone = picked_zone piece texts fields.count has.count span fields.zone within has.zone_within c.pick.result wanted.zone c.args.indices.zone is.0 c.requires
    c.pick.ensures.taken c.pick.ensures.unchanged has.zone in
    let time = picked piece texts fields.count has.count span fields.time within has.time_within c.pick-2.result wanted.time
    (λ same. c.pick-2.ensures.taken (is.1 ∙ same)) (λ other. c.pick-2.ensures.unchanged (λ same. other (sym is.1 ∙ same))) has.time in
    record {
      count = omega (arith, has.count, length-append texts (bytes_at piece span ∷ []));
      zone_within = zone.0;
      zone = zone.1;
      time_within = time.0;
      time = time.1;
    }
