use Rattle.std.proofs.Common.{refl}
use Rattle.zic_layouts.proofs.layout.Layout.without_kept_times.Goals as goal

pub returns : goal.returns
returns c = (c.in_ok-zone.zone, c.in_ok-zone.ensures, rw (c.copy-2.ensures, c.copy-3.ensures, c.copy-4.ensures) refl)
