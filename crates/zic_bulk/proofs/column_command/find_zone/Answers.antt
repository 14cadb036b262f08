use Rattle.std.proofs.Common.{◌≡◌, ◌∙◌, ◌⊎◌, ℕ, List, inl, inr, refl, true, false, sym, subst}
use Rattle.std.proofs.lemmas.Result.{err_from_is_err_and}
use Rattle.zic_zones.specs.Zones.{is_named}
use Rattle.zic_io.specs.Failing.{IsUnknownZone}
use Rattle.zic_io.specs.declared.failure.Failure.TheVariants as failures
use Rattle.zic_bulk.proofs.ConvertingLemmas.{no_list_of_zone}
use Rattle.zic_bulk.proofs.ZoneLemmas.{still_named, still_unnamed}
use Rattle.zic_bulk.proofs.column_command.find_zone.Goals as goal

pub returns-in_default-clause-grown : goal.returns-in_default-clause-grown
returns-in_default-clause-grown g c = g.met.Z.Zones.same c.args.zones.now

pub returns-in_default-clause-ok : goal.returns-in_default-clause-ok
returns-in_default-clause-ok g c = λ releases may. rw c.in_default.is tt

pub returns-in-Some-clause-ok : goal.returns-in-Some-clause-ok
returns-in-Some-clause-ok g c = λ releases may.
    let zones = c.learn.new.self in
    let name = c.as_bytes-bytes.result.now in
    let settled = c.in_ok-learn.ensures.settled in
    let found = sym (rw c.ready.ensures at c.find.ensures) ∙ c.in-Some.is in
    let named = still_named (g.Z.Zones.settled zones) (g.Z.Zones.known zones).zones releases.zones (g.met.Z.Zones.agrees zones releases may).zones name settled c.in-Some.field-0 found in
    rw c.in-Name.is (subst (λ (n : List ℕ). is_named releases.zones n ≡ true) c.as_bytes-bytes.ensures.value named)

pub returns-in_err-learn-clause-err : goal.returns-in_err-learn-clause-err
returns-in_err-learn-clause-err g c =
    let p = err_from_is_err_and c.from_residual.result c.from_residual.ensures.1 in
    rw (p.1, p.2) (rw c.in-Name.is (inl (refl, c.in_err-learn.ensures.broken)))

pub returns-in-None-clause-err : goal.returns-in-None-clause-err
returns-in-None-clause-err g c =
    let zones = c.learn.new.self in
    let name = c.as_bytes-bytes.result.now in
    let failure = c.unknown_zone.result in
    let settled = c.in_ok-learn.ensures.settled in
    let missing = sym (rw c.ready.ensures at c.find.ensures) ∙ c.in-None.is in
    rw c.in-Name.is (inr (
      c.in_ok-learn.ensures.grown,
      λ releases may. (
        subst (λ (n : List ℕ). is_named releases.zones n ≡ false) c.as_bytes-bytes.ensures.value
            (still_unnamed (g.Z.Zones.settled zones) (g.Z.Zones.known zones).zones releases.zones (g.met.Z.Zones.agrees zones releases may).zones name settled missing),
        subst (λ (n : List ℕ). (failure ≡ failures.Memory) ⊎ IsUnknownZone n failure) c.as_str.ensures.value c.unknown_zone.ensures,
      ),
    ))

pub returns-in_err-learn-clause-unlogged : goal.returns-in_err-learn-clause-unlogged
returns-in_err-learn-clause-unlogged g c =
    let p = err_from_is_err_and c.from_residual.result c.from_residual.ensures.1 in
    rw (p.1, p.2) (λ list. cc list)

pub returns-in-None-clause-unlogged : goal.returns-in-None-clause-unlogged
returns-in-None-clause-unlogged g c = λ list. no_list_of_zone c.unknown_zone.result c.as_str.result.now c.unknown_zone.ensures (cc list)
