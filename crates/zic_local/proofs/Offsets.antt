-- The UT offsets of a file.
use Rattle.std.proofs.Common.{◌≡◌, ℕ, ℤ, ◌≤◌, inl, inr, true, List, All, Option, Some, None, unsigned_abs, refl, sym, subst, arith}
use Rattle.std.specs.Prelude.{IsSomeAnd, slice_get}
use Rattle.std.specs.List.{list_all}
use Rattle.zic_base.specs.Check.{check}
use Rattle.zic_base.specs.State.{Shown}
use Rattle.zic_base.specs.declared.constants.TheConstants.{FARTHEST_FILE_OFFSET}
use Rattle.zic_posix.specs.declared.footer.Dst.{Dst}
use Rattle.zic_posix.specs.Footer.{TzString}
use Rattle.zic_posix.specs.Grammar.{IsTzString}
use Rattle.zic_posix.specs.Meaning.{MeansBy}
use Rattle.zic_posix.proofs.StringLemmas.{limits_of}
use Rattle.zic_posix.proofs.Edges.{offset_within, daylight_within, daylight_is}
use Rattle.zic_tzif.specs.declared.content.LocalType.{LocalType}
use Rattle.zic_tzif.specs.Content.{Content, IsLocalType, type_state}
use Rattle.zic_tzif.specs.Designation.{is_designated}
use Rattle.zic_tzif.specs.declared.reason.Reason.TheVariants as reason
use Rattle.zic_tzif.specs.Answer.{Gives}
use Rattle.zic_tzif.specs.Block.{type_in, is_type_record, type_records, names_in}
use Rattle.zic_tzif.specs.Reading.{IsFile, checks, content_in}
use Rattle.zic_tzif.proofs.Passed.{each_passes}
use Rattle.zic_tzif.proofs.ReadAgree.{found}
use Rattle.zic_tzif.proofs.ReadContent.{types_read}
use Rattle.zic_local.specs.LocalTime.{HaveOffsets}

of_type : (content : Content) (number : ℕ) (state : Shown) → All (IsLocalType content.names) content.types → (o : Option LocalType) → slice_get content.types number ≡ o
    → IsSomeAnd o (λ t. state ≡ type_state content.names t) → unsigned_abs state.offset ≤ FARTHEST_FILE_OFFSET
of_type content number state types None e shows = absurd shows
of_type content number state types (Some t) e shows =
    let right = found (IsLocalType content.names) content.types number t types e in
    rw shows right.offset

of_string : (f : TzString) (t : ℤ) (state : Shown) → IsTzString f → (dst : Option Dst) → f.dst ≡ dst → MeansBy f dst t state → unsigned_abs state.offset ≤ FARTHEST_FILE_OFFSET
of_string f t state is None e means = rw means (offset_within f.offset is.offset)
of_string f t state is (Some dst) e means = elim means [
  | inl daylight ↦ rw daylight.1 (daylight_within f.offset dst is.offset (daylight_is f dst is e))
  | inr standard ↦ rw standard.1 (offset_within f.offset is.offset)
]

of_state : (content : Content) (t : ℤ) (state : Shown) → All (IsLocalType content.names) content.types → Gives content t state → unsigned_abs state.offset ≤ FARTHEST_FILE_OFFSET
of_state content t state types (inl by_type) =
    of_type content by_type.1.0 state types (slice_get content.types by_type.1.0) refl by_type.1.2
of_state content t state types (inr footer) =
    let f = footer.1.0 in
    of_string f t state (limits_of content.version content.text f footer.1.1) f.dst refl footer.1.2

-- each offset of a file is within 25:59:59
pub have_offsets : (octets : List ℕ) (content : Content) → IsFile octets content → HaveOffsets content
have_offsets octets content file =
    let none = check true reason.Short in
    let designated : list_all (λ r. is_designated (names_in octets) (type_in r).place) (type_records octets) ≡ true =
    each_passes (checks octets) file.passes 12 none (omega arith) in
    let records : list_all is_type_record (type_records octets) ≡ true = each_passes (checks octets) file.passes 13 none (omega arith) in
    let kept : All (IsLocalType (content_in octets).names) (content_in octets).types = types_read (names_in octets) (type_records octets) designated records in
    let types : All (IsLocalType content.names) content.types = subst (λ (c : Content). All (IsLocalType c.names) c.types) (sym file.says) kept in
    λ t offset at. rw at.is (of_state content t at.state types at.answers)
