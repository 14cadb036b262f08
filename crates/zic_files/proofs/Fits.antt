-- Files that rows can be made of.
use Rattle.std.proofs.Common.{◌≡◌, ◌<◌, ◌+◌, ℕ, List, ⊎_elim, sym, subst, arith}
use Rattle.std.specs.Prelude.{IfSome, IfNone}
use Rattle.std.proofs.lemmas.Bool.{cases_lt}
use Rattle.zic_base.specs.State.{Shown}
use Rattle.zic_lines.specs.Limits.{IsWithinLimits}
use Rattle.zic_tzif.specs.Content.{Content}
use Rattle.zic_tzif.specs.Reading.{IsFile, IsFault, ReadNeedsMemory, reason_of}
use Rattle.zic_tzif.specs.States.{IsStateOfNumber}
use Rattle.zic_tzif.specs.declared.reason.ReadStop.{ReadStop}
use Rattle.zic_tzif.specs.declared.reason.ReadStop.TheVariants as stop
use Rattle.zic_tzif.proofs.States.{one_state}
use Rattle.zic_files.specs.Fit.{IsUnfit, IsUnfitFor}
use Rattle.zic_files.specs.code.Unfit.{IsUnfitContent}
use Rattle.zic_files.specs.declared.image.Unfit.{Unfit}
use Rattle.zic_files.specs.declared.image.Unfit.TheVariants as unfit

-- the states of the numbers below this one are within the limits
abbrev pub AreWithinUpTo : Content → ℕ → Type 0
AreWithinUpTo content count = (number : ℕ) (state : Shown) → number < count → IsStateOfNumber content number state → IsWithinLimits state

-- and so is that of one more
pub one_more_within : (content : Content) (count : ℕ) (state : Shown) → AreWithinUpTo content count → IsStateOfNumber content count state → IsWithinLimits state
    → AreWithinUpTo content (count + 1)
one_more_within content count state each of within = λ number other lt is. ⊎_elim
    (λ below. each number other below is)
    (λ from.
    let same : number ≡ count = omega (arith, lt, from) in
    let one = one_state content count state other of (subst (λ (n : ℕ). IsStateOfNumber content n other) same is) in
    subst IsWithinLimits one within)
    (cases_lt number count)

-- what a reader refuses is unfit for its reason
pub refused_is_unfit : (octets : List ℕ) (why : ReadStop) (error : Unfit) → IfSome (reason_of why) (IsFault octets) → IfNone (reason_of why) (ReadNeedsMemory octets)
    → IsUnfitFor why error → IsUnfit octets error
refused_is_unfit octets (stop.Bad reason) error fault memory is = subst (IsUnfit octets) (sym is) fault
refused_is_unfit octets stop.Memory error fault memory is = subst (IsUnfit octets) (sym is) memory

-- and bytes are, whose content is unfit
pub content_is_unfit : (octets : List ℕ) (content : Content) (why : Unfit) → IsFile octets content → IsUnfitContent content why → IsUnfit octets why
content_is_unfit octets content (unfit.Bad reason) file is = absurd is
content_is_unfit octets content unfit.NoFooter file is = (content, file, is)
content_is_unfit octets content unfit.OutsideLimits file is = (content, file, is.0, is.1)
content_is_unfit octets content unfit.Memory file is = absurd is
