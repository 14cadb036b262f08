-- Reports are heard.
use Rattle.std.proofs.Common.{ℕ, [], ◌∷◌, refl, sym, subst, arith}
use Rattle.zic_pieces.specs.declared.pass.Event.TheVariants.{Drew, Glanced}
use Rattle.zic_pieces.specs.declared.pass.Known.{Known}
use Rattle.zic_pieces.specs.Events.{Has, past}
use Rattle.zic_pieces.specs.Core.{drew}
use Rattle.zic_pieces.specs.Laws.{ReportsAreHeard}
use Rattle.zic_pieces.proofs.Members.{has_back}
use Rattle.zic_pieces.proofs.Totals.{past_append}

pub reports_are_heard : ReportsAreHeard
reports_are_heard p q r all i a j g sound_p notified draws above sound_all mine theirs =
    let b : ℕ = past (drew j q).events in
    let draw : Has all.events (Drew a p.seen) = mine (Drew a p.seen) (has_back p.events (Drew a p.seen ∷ []) (Drew a p.seen) (0, refl)) in
    let glance : Has r.events (Glanced g b) = subst (λ (k : Known). Has k.events (Glanced g b)) (sym draws.3) (has_back (drew j q).events (Glanced g b ∷ []) (Glanced g b) (0, refl)) in
    let last = past_append q.events (Drew j q.seen ∷ []) in
    let h = sound_all.heard a p.seen g b draw (theirs (Glanced g b) glance) (omega arith) in
    let low = sound_p.notified i notified in
    omega arith
