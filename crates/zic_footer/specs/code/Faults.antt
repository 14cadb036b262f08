-- The fault of a zone's footer by its kind.
use Rattle.std.specs.Prelude.{◌≡◌, ◌⊎◌}
use Rattle.zic_base.specs.declared.fault.Kind.{Kind}
use Rattle.zic_base.specs.declared.fault.Kind.TheVariants.{NoFooter, PermanentDaylight}
use Rattle.zic_footer.specs.Making.{HasNoFooter, IsPermanentDaylight}
use Rattle.zic_states.specs.Zone.{Zone}

-- why the zone gets no footer
abbrev pub IsFirstFault : Zone → Kind → Type 0
IsFirstFault zone fault = ((fault ≡ PermanentDaylight) × IsPermanentDaylight zone) ⊎ ((fault ≡ NoFooter) × HasNoFooter zone)
