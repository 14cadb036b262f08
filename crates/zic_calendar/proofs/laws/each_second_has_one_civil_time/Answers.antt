use Rattle.std.proofs.Common.{◌≡◌, ℕ, ◌+◌, ◌*◌, ◌<◌, sym, ◌∙◌, arith}
use Rattle.zic_calendar.proofs.DateLemmas.{day_number-injective}
use Rattle.zic_calendar.proofs.laws.each_second_has_one_civil_time.Goals as goal

-- the hours, minutes and seconds of a number of seconds are its digits
one_time : (h m s h₂ m₂ s₂ : ℕ) → m < 60 → s < 60 → m₂ < 60 → s₂ < 60 → h * 3600 + m * 60 + s ≡ h₂ * 3600 + m₂ * 60 + s₂ → (h ≡ h₂) × (m ≡ m₂) × (s ≡ s₂)
one_time h m s h₂ m₂ s₂ a b c d e = (omega arith, omega arith, omega arith)

pub returns : goal.returns
returns c = λ day second a b date time date₂ time₂.
    let same = day_number-injective a.year a.month a.day b.year b.month b.day date.0 date₂.0 (date.1 ∙ sym date₂.1) in
    let clock = one_time a.hour a.minute a.second b.hour b.minute b.second time.1 time.2 time₂.1 time₂.2 (time.3 ∙ sym time₂.3) in
    (same.0, same.1, same.2, clock.0, clock.1, clock.2)
