-- A field without a byte is no time.
use Rattle.std.proofs.Common.{◌≡◌, ℕ, ◌<◌, List, [], ◌∷◌, length, Option, None, sym, ap, arith}
use Rattle.std.specs.Prelude.{ℤ, pos, option_map, not}
use Rattle.std.specs.Ordering.{int_eq}
use Rattle.zic_lines.specs.declared.clock.ClockForm.TheVariants.{Wall}
use Rattle.zic_lines.specs.Clock.{clock_time_of}
use Rattle.zic_lines.specs.Saving.{saving_of}
use Rattle.zic_lines.proofs.Times.{no_time}

pub no_clock_time : (field : List ℕ) → length field < 1 → None ≡ clock_time_of field
unfolding clock_time_of
no_clock_time [] lt = sym (ap (λ (o : Option ℤ). option_map (λ s. record { seconds = s; form = Wall }) o) (no_time 1_080_000))
no_clock_time (byte ∷ bytes) lt = absurd (omega arith)

pub no_saving : (field : List ℕ) → length field < 1 → None ≡ saving_of field
unfolding saving_of
no_saving [] lt = sym (ap (λ (o : Option ℤ). option_map (λ s. record { seconds = s; daylight = not (int_eq s (pos 0)) }) o) (no_time 86_400))
no_saving (byte ∷ bytes) lt = absurd (omega arith)
