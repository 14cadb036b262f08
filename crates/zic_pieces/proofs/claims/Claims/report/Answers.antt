use Rattle.std.proofs.Common.{◌≡◌, rules, ap, arith}
use Rattle.zic_pieces.specs.Passes.{Shared}
use Rattle.zic_pieces.proofs.Steps.{report_allowed}
use Rattle.zic_pieces.proofs.BetweenCalls.{between_report}
use Rattle.zic_pieces.proofs.claims.Claims.report.Goals as goal

pub fetch_min-requires : goal.fetch_min-requires
fetch_min-requires c =
    let p : c.self.inside.pieces ≡ c.args.self.now.pieces = ap (λ (s : Shared). s.pieces) c.self.view_is in
    let low = c.requires.piece in
    (search rules, omega arith, report_allowed _ _ _ _ _ (omega arith) (omega arith))

pub invariant_of-pass : goal.invariant_of-pass
invariant_of-pass c = let t = c.fetch_min.ensures.2 in between_report _ _ _ _ _ c.pass.invariant _ t.0 t.1 t.2

pub returns-clause-reported : goal.returns-clause-reported
returns-clause-reported c = search rules

pub returns-clause-sound : goal.returns-clause-sound
returns-clause-sound c = search rules
