use Rattle.std.proofs.Common.{rules, sym, subst}
use Rattle.zic_pieces.specs.code.Crew.{IsFresh}
use Rattle.zic_pieces.proofs.run.start_workers.Goals as goal

pub map_vec-requires-after_bounds : goal.map_vec-requires-after_bounds
map_vec-requires-after_bounds g c κs within = λ i x low is. ((subst (IsFresh c.args.claims.now) (sym is) (c.requires.fresh i x low), c.requires.pieces), search rules)
