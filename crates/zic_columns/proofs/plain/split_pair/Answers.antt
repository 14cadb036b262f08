use Rattle.zic_columns.proofs.PairFacts.{is_pair, pair_from}
use Rattle.zic_columns.proofs.plain.split_pair.Goals as goal

pub returns-clause-from : goal.returns-clause-from
returns-clause-from c =
    let first = c.in_ok-stop.ensures in
    let last = c.in_ok-end.ensures in
    let both = pair_from c.args.delimiter.can c.args.piece.now c.args.start c.in_ok-stop.stop c.in_ok-end.«end» first.end first.within c.if-piece-stop.false last.end last.within c.if-piece-end.false c.if-piece-start-eq34.false c.if-piece-stop-eq34.false in
    record { from = both.0; ended = both.1; shows = last.shows }

pub returns-clause-pair : goal.returns-clause-pair
returns-clause-pair c =
    let first = c.in_ok-stop.ensures in
    let last = c.in_ok-end.ensures in
    is_pair c.args.delimiter.can c.args.piece.now c.args.start c.in_ok-stop.stop c.in_ok-end.«end» first.end first.within c.if-piece-stop.false last.end last.within c.if-piece-end.false c.if-piece-start-eq34.false c.if-piece-stop-eq34.false
