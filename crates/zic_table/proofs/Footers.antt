-- The footer that is made for a zone goes on for it, and is one that some text spells.
use Rattle.std.proofs.Common.{◌≡◌, ◌≤◌, ℕ, true, false, List, [], ◌∷◌, length, inl, inr, refl, sym, subst, ◌∙◌, arith}
use Rattle.std.specs.Prelude.{ℤ, pos, ◌+ℤ◌, ◌-ℤ◌}
use Rattle.std.proofs.lemmas.Int.{ints}
use Rattle.zic_base.specs.State.{Shown}
use Rattle.zic_base.specs.declared.fault.Kind.TheVariants as kind
use Rattle.zic_lines.specs.declared.rules.Rules.{Rules}
use Rattle.zic_lines.specs.declared.zone_line.ZoneLine.{ZoneLine}
use Rattle.zic_base.proofs.Elements.{only_one}
use Rattle.zic_states.specs.OccurrenceLaws.{IsLastOccurrence}
use Rattle.zic_states.specs.Occurrence.{RuleSet, year_second}
use Rattle.zic_lines.specs.Limits.{is_abbreviation}
use Rattle.zic_states.specs.End.{IsEnd, IsEndBy}
use Rattle.zic_states.specs.InForce.{InForce, in_force_of}
use Rattle.zic_states.specs.Tail.{HasLastSet, HasInForceFrom, Alternate}
use Rattle.zic_states.specs.Until.{set_of}
use Rattle.zic_states.specs.Zone.{Zone, Shows}
use Rattle.zic_states.proofs.Ends.{one_end}
use Rattle.zic_states.proofs.TailChanges.{one_state_after_changes}
use Rattle.zic_states.proofs.TailInForce.{given, has_from_last, by_one, by_none}
use Rattle.zic_states.proofs.TailLine.{governs_from_end, fixed_tail}
use Rattle.zic_states.proofs.TailSet.{rule_in, own_instant}
use Rattle.zic_rules.specs.Tail.{AreContinuing, IsTailBy, IsRulesTail, HasConstantTail}
use Rattle.zic_rules.specs.Timeline.{IsWholeZone}
use Rattle.zic_rules.specs.declared.tail.TailRule.{TailRule}
use Rattle.zic_rules.proofs.Limits.{shows_within_limits}
use Rattle.zic_rules.proofs.TailTurns.{rules_tail}
use Rattle.zic_posix.specs.Footer.{TzString, constant}
use Rattle.zic_posix.specs.Grammar.{IsTzString}
use Rattle.zic_footer.specs.Making.{IsWide, IsForEver, AreInTurn, IsByRules, IsMade, GoesOn}
use Rattle.zic_footer.specs.code.Edges.{edge_of, by_rules}
use Rattle.zic_footer.specs.code.Turns.{IsSoundTail}
use Rattle.zic_footer.proofs.ForEver.{goes_on}
use Rattle.zic_footer.proofs.Names.{is_name}
use Rattle.zic_footer.proofs.OneTail.{same_name, same_last}
use Rattle.zic_footer.proofs.Outcomes.{sound_turns}
use Rattle.zic_footer.proofs.Pairs.{is_string}
use Rattle.zic_footer.proofs.SaidEdges.{edge_is_wide, one_string}
use Rattle.zic_footer.proofs.TailRules.{HasRule, AreTwo, two_rules}

module _ (zone : Zone) (whole : IsWholeZone zone) (end : ℤ) (is_end : IsEnd zone end) where
  -- ---- one state for ever

  -- from one second before the end the zone keeps one thing
  abbrev HasOneInForce : Type 0
  HasOneInForce = (line : ZoneLine) × (in_force : InForce) × HasInForceFrom zone (end -ℤ pos 1) line in_force

  end_by_set : (number : ℕ) (line : ZoneLine) (name : List ℕ) (year : ℤ) → HasLastSet zone number line name year → end ≡ year_second (year +ℤ pos 3)
  end_by_set number line name year last =
      one_end zone whole.orderly.sets end (year_second (year +ℤ pos 3)) is_end (
        number,
        line,
        last.is_last,
        subst (λ (says : Rules). IsEndBy zone number says (year_second (year +ℤ pos 3))) (sym last.has_set) (year, last.last_year, refl),
      )

  module _ (number : ℕ) (line : ZoneLine) (name : List ℕ) (year : ℤ) (last : HasLastSet zone number line name year) where
    from_end : (in_force : InForce) → HasInForceFrom zone (year_second (year +ℤ pos 3) -ℤ pos 1) line in_force → HasOneInForce
    from_end in_force from = (line, in_force, subst (λ (t : ℤ). HasInForceFrom zone (t -ℤ pos 1) line in_force) (sym (end_by_set number line name year last)) from)

    by_set : (numbers : List ℕ) → AreContinuing (set_of zone.source.rules name) numbers → length numbers ≤ 1 → HasOneInForce
    by_set [] all few =
        let (in_force, from) = by_none zone whole.orderly number line name year last
        (λ has. let found = all.all has.0 has.1 has.2 has.3 in let lt = found.1 in absurd (omega (arith, lt))) in
        from_end in_force from
    by_set (n ∷ []) all few =
        let (rule, member, continues) = all.each 0 n (omega arith) in
        from_end (in_force_of rule)
        (by_one zone whole.orderly number line name year last n rule (record {
          member = member;
          continues = continues;
          only = λ other its is goes. sym (only_one n other (all.all other its is goes));
        }))
    by_set (n ∷ m ∷ rest) all few = absurd (omega (arith, few))

  has_one : HasConstantTail zone → HasOneInForce
  has_one few = elim few.few [
    | inl none ↦
        let (in_force, from) = fixed_tail zone whole.orderly few.number few.line few.last none in
        let governs = governs_from_end zone whole.orderly.sets few.number few.line end (end -ℤ pos 1) few.last is_end (omega (arith, ints)) in
        (few.line, in_force, from (end -ℤ pos 1) governs.begun)
    | inr (name, year, numbers, last, all, le) ↦ by_set few.number few.line name year last numbers all le
  ]

  module _ (state : Shown) (for_ever : IsForEver zone state) where
    constant_goes_on : state.daylight ≡ false → GoesOn zone (constant state.name state.offset)
    constant_goes_on standard t meant after means =
        let (line, in_force, from) = has_one for_ever.few in
        let same_end = one_end zone whole.orderly.sets for_ever.end end for_ever.is_end is_end in
        let shown = subst (λ (e : ℤ). Shows zone (e -ℤ pos 1) state) same_end for_ever.shows in
        let shows = one_state_after_changes zone whole.orderly whole.is_zone (whole.sound kind.NoLetter) end line in_force is_end from state shown t after in
        let same : Path Shown state (record { offset = state.offset; daylight = false; name = state.name }) =
        λ k. record { offset = state.offset; daylight = standard k; name = state.name } in
        subst (Shows zone t) (same ∙ sym means) shows

    constant_is_string : IsTzString (constant state.name state.offset)
    constant_is_string =
        let within = shows_within_limits zone whole.source whole.sound (for_ever.end -ℤ pos 1) state for_ever.shows in
        let offset = within.offset in
        record { std = is_name state.name within.name; offset = omega (arith, offset); dst = tt }

  -- ---- two rules in turn

  module _ (standard : ℤ) (starting ending : TailRule) (turns : AreInTurn zone standard starting ending) where
    abbrev by : IsTailBy zone standard turns.year turns.tails
    by = turns.by

    abbrev set : RuleSet
    set = set_of zone.source.rules by.name

    tail : IsRulesTail zone standard turns.year turns.tails
    tail =
        rules_tail zone whole.orderly end is_end turns.tails (record {
          number = by.number;
          line = by.line;
          name = by.name;
          year = by.last;
          tail = by.last_set;
          end_is = end_by_set by.number by.line by.name by.last by.last_set;
          numbers = by.numbers;
          continuing = by.continuing;
          rules = by.rules;
        })
        (let many = by.rules.as_many in let several = by.several in omega (arith, many, several)) standard turns.year by.of_line by.after_last

    alternate : Alternate (set_of zone.source.rules tail.by.name) tail.by.last
    alternate =
        let name = same_name zone whole.orderly standard standard turns.year turns.year turns.tails turns.tails by tail.by in
        let last = same_last zone whole.orderly standard standard turns.year turns.year turns.tails turns.tails by tail.by in
        subst (λ (y : ℤ). Alternate (set_of zone.source.rules tail.by.name) y) last
        (subst (λ (x : List ℕ). Alternate (set_of zone.source.rules x) by.last) name turns.alternate)

    two : AreTwo set by.line by.numbers turns.tails starting ending
    two = two_rules zone standard turns.year turns.tails by starting ending turns.pair

    sound : IsSoundTail standard starting × IsSoundTail standard ending
    sound = sound_turns zone whole standard starting ending turns

    start : IsWide (edge_of standard starting ending.saving.seconds)
    start = edge_is_wide standard starting ending.saving.seconds sound.0.yearly turns.start

    stop : IsWide (edge_of standard ending starting.saving.seconds)
    stop = edge_is_wide standard ending starting.saving.seconds sound.1.yearly turns.stop

    by_string : (f : TzString) → IsByRules standard starting ending f → f ≡ by_rules standard starting ending
    by_string f is = one_string standard starting ending sound.0 sound.1 f is

    rules_go_on : GoesOn zone (by_rules standard starting ending)
    rules_go_on =
        goes_on zone whole.orderly standard turns.year turns.tails tail starting ending turns.pair alternate sound.0 sound.1 start stop

    -- the zone shows the abbreviation of each at some instant
    named : (n : ℕ) (rule : TailRule) → HasRule set by.line n rule → is_abbreviation rule.name ≡ true
    named n rule (of, is) =
        let from = given zone whole.orderly by.number by.line by.name by.last by.last_set in
        let (later, t, occurs, at, late, early) = own_instant set by.line.offset by.last from n of is.member is.continues in
        let o = rule_in n of later in
        let current : IsLastOccurrence set by.line.offset t o t = record { is = occurs; instant = at; not_after = omega (arith, ints); last = λ q u is_q at_q le. le } in
        let keeps = has_from_last zone whole.orderly by.number by.line by.name by.last by.last_set t o t (omega (arith, ints)) current in
        let state : Shown = record { offset = by.line.offset +ℤ of.saving.seconds; daylight = of.saving.daylight; name = rule.name } in
        let shows : Shows zone t state = record { line = by.line; in_force = in_force_of of; keeps = keeps.keeps; offset = refl; daylight = refl; name = is.is.name } in
        (shows_within_limits zone whole.source whole.sound t state shows).name

    rules_are_string : IsTzString (by_rules standard starting ending)
    rules_are_string =
        is_string standard starting ending sound.0 sound.1
        (is_name starting.name (named two.start starting two.starts)) (is_name ending.name (named two.stop ending two.stops)) start stop

  -- ---- each

  made_goes_on : (f : TzString) → IsMade zone f → GoesOn zone f
  made_goes_on f (inl (state, for_ever, standard, is)) = subst (GoesOn zone) (sym is) (constant_goes_on state for_ever standard)
  made_goes_on f (inr (standard, starting, ending, turns, is)) = subst (GoesOn zone) (sym (by_string standard starting ending turns f is)) (rules_go_on standard starting ending turns)

  made_is_string : (f : TzString) → IsMade zone f → IsTzString f
  made_is_string f (inl (state, for_ever, standard, is)) = subst IsTzString (sym is) (constant_is_string state for_ever)
  made_is_string f (inr (standard, starting, ending, turns, is)) = subst IsTzString (sym (by_string standard starting ending turns f is)) (rules_are_string standard starting ending turns)

pub footer_goes_on : (zone : Zone) → IsWholeZone zone → (f : TzString) → IsMade zone f → GoesOn zone f × IsTzString f
footer_goes_on zone whole f made =
    let (end, is_end) = whole.has_end in
    (made_goes_on zone whole end is_end f made, made_is_string zone whole end is_end f made)
