-- The edges and the string of two rules: just those that the code makes.
use Rattle.std.proofs.Common.{◌≡◌, Some, ap, subst, ◌∙◌, refl}
use Rattle.std.specs.Prelude.{ℤ, pos, ◌+ℤ◌, ◌*ℤ◌}
use Rattle.zic_posix.specs.Footer.{TzString}
use Rattle.zic_posix.specs.declared.footer.Dst.{Dst}
use Rattle.zic_posix.specs.declared.footer.Edge.{Edge}
use Rattle.zic_rules.specs.declared.tail.TailRule.{TailRule}
use Rattle.zic_footer.specs.Making.{wall_time, IsEdgeOf, IsDaylightBy, IsByRules, IsWide, HasWideEdge}
use Rattle.zic_footer.specs.code.Edges.{day_of_form, edge_of, daylight_part, by_rules}
use Rattle.zic_footer.specs.code.Turns.{IsYearly, IsSoundTail}
use Rattle.zic_footer.proofs.SaidDays.{says_day, says_one_day}

module _ (standard : ℤ) (rule : TailRule) (saved : ℤ) (yearly : IsYearly rule.moment) where
  pub edge_is : IsEdgeOf standard rule saved (edge_of standard rule saved)
  edge_is = record {
    shift = (day_of_form rule.moment.month rule.moment.on).shift;
    day = says_day rule.moment.month rule.moment.on yearly.fits;
    time = refl;
  }

  pub one_edge : (edge : Edge) → IsEdgeOf standard rule saved edge → edge ≡ edge_of standard rule saved
  one_edge edge is =
      let (day, shift) = says_one_day rule.moment.month rule.moment.on edge.day is.shift is.day in
      let time = is.time ∙ ap (λ (s : ℤ). wall_time rule.moment.at.form standard saved rule.moment.at.seconds +ℤ (pos 86_400 *ℤ s)) shift in
      λ k. record { day = day k; time = time k }

  pub wide_edge : IsWide (edge_of standard rule saved) → HasWideEdge standard rule saved
  wide_edge wide = (edge_of standard rule saved, edge_is, wide)

  pub edge_is_wide : HasWideEdge standard rule saved → IsWide (edge_of standard rule saved)
  edge_is_wide (edge, is, wide) = subst IsWide (one_edge edge is) wide

module _ (standard : ℤ) (starting ending : TailRule) (sound_start : IsSoundTail standard starting) (sound_stop : IsSoundTail standard ending) where
  pub string_is : IsByRules standard starting ending (by_rules standard starting ending)
  string_is = record {
    std = refl;
    offset = refl;
    dst = daylight_part standard starting ending;
    has = refl;
    daylight = record {
      name = refl;
      offset = refl;
      start = edge_is standard starting ending.saving.seconds sound_start.yearly;
      stop = edge_is standard ending starting.saving.seconds sound_stop.yearly;
    };
  }

  one_part : (dst : Dst) → IsDaylightBy standard starting ending dst → dst ≡ daylight_part standard starting ending
  one_part dst is =
      let start = one_edge standard starting ending.saving.seconds sound_start.yearly dst.start is.start in
      let stop = one_edge standard ending starting.saving.seconds sound_stop.yearly dst.stop is.stop in
      λ k. record { name = is.name k; offset = is.offset k; start = start k; stop = stop k }

  pub one_string : (f : TzString) → IsByRules standard starting ending f → f ≡ by_rules standard starting ending
  one_string f is =
      let dst = is.has ∙ ap Some (one_part is.dst is.daylight) in
      λ k. record { std = is.std k; offset = is.offset k; dst = dst k }
