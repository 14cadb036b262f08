-- What the checks of a new name say, by who has it.
use Rattle.std.proofs.Common.{◌≡◌, ℕ, Bool, true, false, [], ◌∷◌, List, Option, None, refl, sym, ap, ◌∙◌}
use Rattle.std.specs.Prelude.{◌&&◌, not, is_some}
use Rattle.zic_base.specs.Check.{Check, check, first_failed}
use Rattle.zic_base.specs.declared.fault.Place.{Place}
use Rattle.zic_base.specs.declared.fault.Fault.{Fault}
use Rattle.zic_base.specs.declared.fault.Kind.{Kind}
use Rattle.zic_base.specs.declared.fault.Kind.TheVariants.{DuplicateName, TooMany}
use Rattle.zic_base.specs.Fault.{fault_at, IsFirstFailed}
use Rattle.zic_source.specs.declared.owners.Owner.{Owner}
use Rattle.zic_source.specs.declared.owners.Owners.{Owners}
use Rattle.zic_source.specs.Source.{SourceLines}
use Rattle.zic_source.specs.Checks.{has_room_for_line, has_room_for_name}
use Rattle.zic_source.specs.Links.{is_named}
use Rattle.zic_source.specs.code.Adding.{zone_checks, link_checks}
use Rattle.zic_source.specs.code.Owners.{who, IndexesNames}
use Rattle.zic_source.proofs.lookups.Named.{nobody}
use Rattle.zic_source.proofs.events.Passes.{zone_passes, link_passes}

-- a name whose first check passes is new
fresh : (named : Bool) (others : List (Check Kind)) → first_failed (check (not named) DuplicateName ∷ others) ≡ None → named ≡ false
fresh true others passes = absurd cc
fresh false others passes = refl

pub fresh_zone : (source : SourceLines) (name : List ℕ) → first_failed (zone_checks source name) ≡ None → is_named source name ≡ false
fresh_zone source name passes =
    fresh (is_named source name) (check (has_room_for_line source) TooMany ∷ check (has_room_for_name source) TooMany ∷ []) passes

pub fresh_link : (source : SourceLines) (name : List ℕ) → first_failed (link_checks source name) ≡ None → is_named source name ≡ false
fresh_link source name passes = fresh (is_named source name) (check (has_room_for_name source) TooMany ∷ []) passes

module _ (names : Owners) (source : SourceLines) (name : List ℕ) (is : IndexesNames names source) where
  pub unnamed : who names name ≡ None → is_named source name ≡ false
  unnamed new = sym (nobody names source name is) ∙ ap (λ (o : Option Owner). is_some o) new

  pub new_zone : (has_room_for_line source && has_room_for_name source) ≡ true → who names name ≡ None → first_failed (zone_checks source name) ≡ None
  new_zone room new = zone_passes _ _ _ (unnamed new) room

  pub new_link : has_room_for_name source ≡ true → who names name ≡ None → first_failed (link_checks source name) ≡ None
  new_link room new = link_passes _ _ (unnamed new) room

  known : is_some (who names name) ≡ true → is_named source name ≡ true
  known old = sym (nobody names source name is) ∙ old

  pub known_zone : (place : Place) (fault : Fault) → (fault ≡ fault_at place DuplicateName) × (is_some (who names name) ≡ true) → IsFirstFailed place (zone_checks source name) fault
  known_zone place fault old = rw (old.0, known old.1) (refl, refl)

  pub known_link : (place : Place) (fault : Fault) → (fault ≡ fault_at place DuplicateName) × (is_some (who names name) ≡ true) → IsFirstFailed place (link_checks source name) fault
  known_link place fault old = rw (old.0, known old.1) (refl, refl)
