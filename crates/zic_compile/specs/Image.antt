-- The file of a zone: what zic(8) says that the zone shows, as RFC 9636 writes it.
use Rattle.std.specs.Prelude.{◌≡◌, ℤ, ◌↔◌, ◌⊎◌, IsSomeAnd}
use Rattle.zic_base.specs.State.{Shown}
use Rattle.zic_base.specs.declared.fault.Fault.{Fault}
use Rattle.zic_base.specs.declared.fault.Place.{Place}
use Rattle.zic_states.specs.Fault.{HasOffsetOutOfRange, IsFaultOfStates, IsSound}
use Rattle.zic_states.specs.Zone.{Zone, Shows, lines_of}
use Rattle.zic_posix.specs.Footer.{TzString}
use Rattle.zic_footer.specs.Making.{IsMade, IsFaultOfFooter}
use Rattle.zic_rules.specs.Timeline.{IsFixed}
use Rattle.zic_files.specs.File.{FileImage}
use Rattle.zic_table.specs.ContentOf.{IsContentOf, IsFaultOfTable}
use Rattle.zic_tzif.specs.Answer.{Gives}
use Rattle.zic_tzif.specs.Reading.{IsFile}
use Rattle.zic_tzif.specs.Writing.{written}

-- The image of a zone without a fault: the written form of its first state, all its changes before the explicit end, and the footer
-- that is made for it.
pub record IsImageOf (zone : Zone) (image : FileImage) : Type 0 where
  pub sound : IsSound zone
  pub footer : TzString
  pub is_made : IsMade zone footer
  pub is_content : IsContentOf zone footer image.content
  pub are_written : image.octets ≡ written image.content

-- A reader of TZif accepts the bytes, and what they give at every instant, before the first change, between changes and for ever, is
-- the UT offset, daylight flag and abbreviation that the zone's lines define.
pub record ReadsAs (zone : Zone) (image : FileImage) : Type 0 where
  pub read : IsFile image.octets image.content
  pub gives : (t : ℤ) (state : Shown) → Gives image.content t state ↔ Shows zone t state

-- why a zone without a fault of its states, whose Zone line stands at this place, has no image: the fault of its footer, or else of its
-- table
abbrev pub IsFaultOfImage : Zone → Place → Fault → Type 0
IsFaultOfImage zone place fault =
    IsFaultOfFooter zone place fault
    ⊎ (((f : TzString) × IsMade zone f) × IsFaultOfTable zone place fault)

-- the fault of a zone: of its states, or else of its image
abbrev pub IsFaultOfZone : Zone → Fault → Type 0
IsFaultOfZone zone fault =
    IsFaultOfStates zone fault
    ⊎ (IsSound zone × IsSomeAnd (lines_of zone) (λ lines. IsFaultOfImage zone lines.first.place fault))

-- Where the image of a zone may need memory: each offset is in its range, and a zone of one line without a set has no fault of its
-- states and has a footer. Those faults are found without memory.
pub record ImageNeedsMemory (zone : Zone) : Type 0 where
  pub in_range : HasOffsetOutOfRange zone → ⊥
  pub fixed : IsFixed zone → IsSound zone × ((footer : TzString) × IsMade zone footer)
