-- A source is whole, or has a first fault as a whole.
use Rattle.std.proofs.Common.{◌≡◌, Bool, true, false, cond, ◌⊎◌, inl, inr, ⊎_elim, List, [], ◌∷◌, ◌++◌, refl, sym, subst, arith}
use Rattle.std.specs.Prelude.{Contains, flat_map}
use Rattle.std.proofs.lemmas.List.Elements.{Contains-append_left, Contains-append_right, Contains-append_cases}
use Rattle.zic_base.specs.declared.fault.Place.{Place}
use Rattle.zic_base.specs.declared.fault.Fault.{Fault}
use Rattle.zic_base.specs.declared.fault.Kind.{Kind}
use Rattle.zic_base.specs.declared.fault.Kind.TheVariants.{UnknownRules, UnknownTarget, LinkCycle}
use Rattle.zic_base.specs.Fault.{fault_at}
use Rattle.zic_lines.specs.declared.link.Link.{Link}
use Rattle.zic_lines.specs.declared.zone_line.ZoneLine.{ZoneLine}
use Rattle.zic_source.specs.Source.{SourceLines, zone_lines_of}
use Rattle.zic_source.specs.Links.{EndsAtZone, EndsNowhere, HasNoEnd}
use Rattle.zic_source.specs.Whole.{is_unknown, IsWholeSource, HasAt, HasFirst}
use Rattle.zic_base.proofs.Elements.{first_contained, only_one, from_flat_map, into_flat_map}
use Rattle.zic_source.proofs.links.NamesDiffer.{NamesDiffer, not_nowhere, not_endless, nowhere_ends}
use Rattle.zic_source.proofs.links.ThreeEnds.{three_ends}
use Rattle.zic_source.proofs.faults.Order.{IsFirstOf, first_of}

-- ---- the faults of a source

-- the fault of a zone's line, where its set has no rule
abbrev line_faults : ZoneLine → Bool → List Fault
line_faults line unknown = cond unknown (fault_at line.place UnknownRules ∷ []) []

-- a link's chain ends in one of three ways
abbrev Ends : SourceLines → Link → Type 0
Ends source link = (EndsAtZone source link ⊎ EndsNowhere source link) ⊎ HasNoEnd source link

-- the fault of a link, where its chain doesn't end at a zone
abbrev link_faults : (source : SourceLines) (link : Link) → Ends source link → List Fault
link_faults source link (inl (inl zone)) = []
link_faults source link (inl (inr nowhere)) = fault_at link.place UnknownTarget ∷ []
link_faults source link (inr never) = fault_at link.place LinkCycle ∷ []

module _ (source : SourceLines) (differ : NamesDiffer source) where
  of_line : ZoneLine → List Fault
  of_line line = line_faults line (is_unknown source.rules line.rules)

  of_link : Link → List Fault
  of_link link = link_faults source link (three_ends source differ link)

  faults : List Fault
  faults = flat_map of_line (zone_lines_of source) ++ flat_map of_link source.links

  abbrev Has : Fault → Type 0
  Has fault = HasAt source fault.place fault.kind

  line_has : (line : ZoneLine) (fault : Fault) → Contains (zone_lines_of source) line → (b : Bool) → is_unknown source.rules line.rules ≡ b → Contains (line_faults line b) fault → Has fault
  line_has line fault at true e has = subst Has (only_one _ fault has) (line, at, refl, e)
  line_has line fault at false e has = absurd (omega (arith, has.1))

  link_has : (link : Link) (fault : Fault) → Contains source.links link → (ends : Ends source link) → Contains (link_faults source link ends) fault → Has fault
  link_has link fault at (inl (inl zone)) has = absurd (omega (arith, has.1))
  link_has link fault at (inl (inr nowhere)) has = subst Has (only_one _ fault has) (link, at, refl, nowhere)
  link_has link fault at (inr never) has = subst Has (only_one _ fault has) (link, at, refl, never)

  -- what is listed is a fault of the source
  listed_has : (fault : Fault) → Contains faults fault → Has fault
  unfolding faults of_line of_link
  listed_has fault has = ⊎_elim
      (λ lines. let line = from_flat_map of_line (zone_lines_of source) fault lines in line_has line.0 fault line.1 (is_unknown source.rules line.0.rules) refl line.2)
      (λ links. let link = from_flat_map of_link source.links fault links in link_has link.0 fault link.1 (three_ends source differ link.0) link.2)
      (Contains-append_cases (flat_map of_line (zone_lines_of source)) (flat_map of_link source.links) fault has)

  line_listed : (line : ZoneLine) (b : Bool) → b ≡ true → Contains (line_faults line b) (fault_at line.place UnknownRules)
  line_listed line true e = first_contained _ []
  line_listed line false e = absurd cc

  nowhere_listed : (link : Link) (ends : Ends source link) → EndsNowhere source link → Contains (link_faults source link ends) (fault_at link.place UnknownTarget)
  nowhere_listed link (inl (inl zone)) nowhere = absurd (not_nowhere source differ link zone nowhere)
  nowhere_listed link (inl (inr also)) nowhere = first_contained _ []
  nowhere_listed link (inr never) nowhere = absurd (nowhere_ends source link nowhere never)

  never_listed : (link : Link) (ends : Ends source link) → HasNoEnd source link → Contains (link_faults source link ends) (fault_at link.place LinkCycle)
  never_listed link (inl (inl zone)) never = absurd (not_endless source differ link zone never)
  never_listed link (inl (inr nowhere)) never = absurd (nowhere_ends source link nowhere never)
  never_listed link (inr also) never = first_contained _ []

  of_links : (link : Link) (fault : Fault) → Contains source.links link → Contains (link_faults source link (three_ends source differ link)) fault → Contains faults fault
  unfolding faults of_link
  of_links link fault at has = Contains-append_right (flat_map of_line (zone_lines_of source)) (flat_map of_link source.links) fault (into_flat_map of_link source.links link fault at has)

  of_lines : (line : ZoneLine) (fault : Fault) → Contains (zone_lines_of source) line → Contains (line_faults line (is_unknown source.rules line.rules)) fault → Contains faults fault
  unfolding faults of_line
  of_lines line fault at has = Contains-append_left (flat_map of_line (zone_lines_of source)) (flat_map of_link source.links) fault (into_flat_map of_line (zone_lines_of source) line fault at has)

  -- a fault of the source is listed
  has_listed : (place : Place) (kind : Kind) → HasAt source place kind → Contains faults (fault_at place kind)
  has_listed place UnknownRules (line, at, same, unknown) = subst (λ (p : Place). Contains faults (fault_at p UnknownRules)) same (of_lines line _ at (line_listed line _ unknown))
  has_listed place UnknownTarget (link, at, same, nowhere) = subst (λ (p : Place). Contains faults (fault_at p UnknownTarget)) same (of_links link _ at (nowhere_listed link _ nowhere))
  has_listed place LinkCycle (link, at, same, never) = subst (λ (p : Place). Contains faults (fault_at p LinkCycle)) same (of_links link _ at (never_listed link _ never))
  has_listed place _ has = absurd has

  -- ---- whole, or not

  known : (line : ZoneLine) → Contains (zone_lines_of source) line → ((fault : Fault) → Contains faults fault → ⊥) → (b : Bool) → is_unknown source.rules line.rules ≡ b → b ≡ false
  known line at none true e = absurd (none (fault_at line.place UnknownRules) (has_listed line.place UnknownRules (line, at, refl, e)))
  known line at none false e = refl

  at_zone : (link : Link) → Contains source.links link → ((fault : Fault) → Contains faults fault → ⊥) → Ends source link → EndsAtZone source link
  at_zone link at none (inl (inl zone)) = zone
  at_zone link at none (inl (inr nowhere)) = absurd (none (fault_at link.place UnknownTarget) (has_listed link.place UnknownTarget (link, at, refl, nowhere)))
  at_zone link at none (inr never) = absurd (none (fault_at link.place LinkCycle) (has_listed link.place LinkCycle (link, at, refl, never)))

  by_list : (all : List Fault) → faults ≡ all → IsWholeSource source ⊎ ((fault : Fault) × HasFirst source fault)
  by_list [] e =
      let none : (fault : Fault) → Contains faults fault → ⊥ = λ fault has. let empty : Contains [] fault = subst (λ (fs : List Fault). Contains fs fault) e has in absurd (omega (arith, empty.1)) in
      inl (record {
        sets = λ line at. known line at none (is_unknown source.rules line.rules) refl;
        links = λ link at. at_zone link at none (three_ends source differ link);
      })
  by_list (one ∷ rest) e =
      let first = first_of one rest in
      let is : IsFirstOf faults first.0 = subst (λ (fs : List Fault). IsFirstOf fs first.0) (sym e) first.1 in
      inr (first.0, record { has = listed_has first.0 is.0; first = λ place kind has sooner. is.1 (fault_at place kind) (has_listed place kind has) sooner })

  pub whole_or_first : IsWholeSource source ⊎ ((fault : Fault) × HasFirst source fault)
  whole_or_first = by_list faults refl

  -- a whole source has no fault as a whole
  pub whole_has_none : (place : Place) (kind : Kind) → IsWholeSource source → HasAt source place kind → ⊥
  whole_has_none place UnknownRules whole (line, at, same, unknown) = let known = whole.sets line at in cc
  whole_has_none place UnknownTarget whole (link, at, same, nowhere) = not_nowhere source differ link (whole.links link at) nowhere
  whole_has_none place LinkCycle whole (link, at, same, never) = not_endless source differ link (whole.links link at) never
  whole_has_none place _ whole has = has
