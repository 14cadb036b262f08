-- The image of a zone is a file.
use Rattle.std.proofs.Common.{ℕ, List, length, map, get_or, All, FitsSigned, w64, refl, sym, subst}
use Rattle.std.proofs.lemmas.Bool.{leb-true}
use Rattle.std.proofs.lemmas.List.Elements.{All-contains, All-map, Contains-get_or}
use Rattle.zic_base.specs.State.{Shown}
use Rattle.zic_base.proofs.Checks.{each_passes}
use Rattle.zic_states.specs.Change as of_zone
use Rattle.zic_states.specs.Zone.{Zone, Shows}
use Rattle.zic_rules.specs.Timeline.{IsWholeZone}
use Rattle.zic_posix.specs.Footer.{TzString, version_of}
use Rattle.zic_posix.specs.Grammar.{IsTzString}
use Rattle.zic_posix.specs.Printing.{printed}
use Rattle.zic_posix.proofs.PrintLemmas.{printed_spells}
use Rattle.zic_footer.specs.Making.{IsMade, GoesOn}
use Rattle.zic_tzif.specs.declared.content.Change.{Change}
use Rattle.zic_tzif.specs.declared.content.TheConstants.{MAX_TRANSITIONS, MAX_TYPES, MAX_CHARACTERS}
use Rattle.zic_tzif.specs.Content.{Content, IsFooter, IsWritable}
use Rattle.zic_table.specs.ContentOf.{states_of, names_of, ended, local_type, transition, limits, IsContentOf}
use Rattle.zic_table.specs.code.LocalTypes.{AreLocalTypes}
use Rattle.zic_table.specs.code.Transitions.{AreTransitions}
use Rattle.zic_table.proofs.Tables.{is_footer, is_writable}
use Rattle.zic_tzif.specs.Reading.{IsFile}
use Rattle.zic_tzif.proofs.WriteFile.{written_is_file}
use Rattle.zic_compile.specs.Laws.{ImagesReadAsZones}
use Rattle.zic_compile.proofs.zone_images.ChangeBounds.{change_fits}
use Rattle.zic_table.proofs.Footers.{footer_goes_on}
use Rattle.zic_compile.proofs.zone_images.Instants.{gives_shows}

module _ (zone : Zone) (whole : IsWholeZone zone) (f : TzString) (made : IsMade zone f) (content : Content) (of : IsContentOf zone f content) where
  abbrev states : List Shown
  states = states_of of.first of.changes

  abbrev names : List (List ℕ)
  names = names_of states

  abbrev transitions : List Change
  transitions = map (transition states) of.changes

  instants_fit : All (λ c. FitsSigned w64 c.instant) transitions
  instants_fit =
      All-map (λ (c : Change). FitsSigned w64 c.instant) (transition states) of.changes
      (λ k none within.
      let d = get_or of.changes k none in
      let is = All-contains (λ c. of_zone.IsChange zone c.instant × Shows zone c.instant c.state) of.changes d of.are_changes.each (Contains-get_or of.changes k none within) in
      change_fits zone whole.orderly d.instant is.0)

  abbrev IsMadeWell : Type 0
  IsMadeWell = IsFooter content f × IsWritable content

  made_well : IsTzString f → GoesOn zone f → IsMadeWell
  made_well is_string goes_on =
      let pass = each_passes (limits of.first of.changes) of.fits in
      let few = leb-true (length of.changes) MAX_TRANSITIONS pass.0 in
      let types_fit = leb-true (length states) MAX_TYPES pass.1.0 in
      let names_fit = leb-true (length (ended names)) MAX_CHARACTERS pass.1.1.0 in
      let numbered : AreTransitions zone states transitions = record {
        first = of.first;
        changes = of.changes;
        are_changes = of.are_changes;
        is_first = of.is_first;
        are_states = refl;
        are_transitions = refl;
        fit = instants_fit;
      } in
      let types = map (local_type names) states in
      let designated : AreLocalTypes states types (ended names) = record { are_types = refl; are_names = refl; fit = names_fit } in
      let spells = printed_spells f is_string in
      let footer = is_footer zone whole of.changes of.are_changes few states transitions numbered types_fit f made goes_on types (ended names) designated
      (version_of f) (printed f) refl refl spells in
      let writable = is_writable zone whole of.changes of.are_changes few states transitions numbered types_fit f made goes_on types (ended names) designated
      (version_of f) (printed f) refl refl spells in
      (subst (λ (c : Content). IsFooter c f) (sym of.is) footer, subst IsWritable (sym of.is) writable)

pub image_reads : ImagesReadAsZones
image_reads zone whole image of =
    let (goes_on, is_string) = footer_goes_on zone whole of.footer of.is_made in
    let (footer, writable) = made_well zone whole of.footer of.is_made image.content of.is_content is_string goes_on in
    record {
      read = subst (λ (octets : List ℕ). IsFile octets image.content) (sym of.are_written) (written_is_file image.content writable);
      gives = gives_shows zone whole.source whole.is_zone whole.sound of.footer goes_on image.content of.is_content footer writable;
    }
