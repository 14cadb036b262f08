-- What the footer of a zone is by its tail, and why there is none.
use Rattle.std.proofs.Common.{◌≡◌, inl, inr, Result, Ok, Err, Option, Some, None, List, true, false, sym, ap, subst, arith, ℕ}
use Rattle.std.specs.Prelude.{ℤ, pos, ◌-ℤ◌, IfOk, IfSome}
use Rattle.std.proofs.lemmas.Int.{ints}
use Rattle.zic_base.specs.Fault.{fault_at, kind_of}
use Rattle.zic_base.specs.Memory.{IfRefusal}
use Rattle.zic_base.specs.State.{Shown}
use Rattle.zic_base.specs.declared.fault.Kind.{Kind}
use Rattle.zic_base.specs.declared.fault.Kind.TheVariants as kind
use Rattle.zic_base.specs.declared.fault.Place.{Place}
use Rattle.zic_base.specs.declared.stops.ZoneStop.{ZoneStop}
use Rattle.zic_states.specs.Tail.{Alternate}
use Rattle.zic_states.specs.Until.{set_of}
use Rattle.zic_states.specs.Zone.{Zone}
use Rattle.zic_states.proofs.TailInForce.{given}
use Rattle.zic_states.proofs.TailSet.{IsNamedTo}
use Rattle.zic_lines.specs.Limits.{IsWithinLimits}
use Rattle.zic_rules.specs.Tail.{IsConstantTail, IsRulesTail}
use Rattle.zic_rules.specs.Timeline.{IsWholeZone}
use Rattle.zic_rules.specs.declared.tail.TailRule.{TailRule}
use Rattle.zic_rules.proofs.Limits.{shows_within_limits}
use Rattle.zic_posix.specs.Footer.{TzString, constant}
use Rattle.zic_footer.specs.Making.{IsPair, IsForEver, AreInTurn, IsByRules, IsMade, GoesOn, IsFaultOfFooter}
use Rattle.zic_footer.specs.code.Edges.{by_rules}
use Rattle.zic_footer.specs.code.Faults.{IsFirstFault}
use Rattle.zic_footer.specs.code.Turns.{IsSoundTail, AreSoundTails, TakeTurns, IsMadeOf, NoneTakeTurns}
use Rattle.zic_footer.proofs.Alternation.{alternate_from, in_turn_from}
use Rattle.zic_footer.proofs.ForEver.{goes_on}
use Rattle.zic_footer.proofs.OneTail.{same_name, same_last, same_pair}
use Rattle.zic_footer.proofs.Pairs.{sound_pair}
use Rattle.zic_footer.proofs.SaidEdges.{wide_edge, edge_is_wide, string_is}
use Rattle.zic_footer.proofs.TailRules.{AreTwo, two_rules, sound_tails}

-- ---- what holds of a result

-- what holds of what the call gives, by what is known of it
if_ok : {X E : Type 0} (P Q : X → Type 0) → ((x : X) → P x → Q x) → (r : Result X E) → IfOk r P → IfOk r Q
if_ok P Q step (Ok x) h = step x h
if_ok P Q step (Err e) h = tt

if_some : {X : Type 0} (P Q : X → Type 0) → ((x : X) → P x → Q x) → (o : Option X) → IfSome o P → IfSome o Q
if_some P Q step None h = tt
if_some P Q step (Some x) h = step x h

pub if_refusal : {X : Type 0} (P Q : Kind → Type 0) → ((fault : Kind) → P fault → Q fault) → (r : Result X ZoneStop) → IfRefusal kind_of r P → IfRefusal kind_of r Q
if_refusal P Q step (Ok x) h = tt
if_refusal P Q step (Err e) h = if_some P Q step (kind_of e) h

-- ---- one state for ever

module _ (zone : Zone) (whole : IsWholeZone zone) (state : Shown) (tail : IsConstantTail zone state) where
  for_ever : IsForEver zone state
  for_ever =
      let (end, is_end) = whole.has_end in
      record { few = tail.few; end = end; is_end = is_end; shows = tail.from_end (end -ℤ pos 1) (end, is_end, omega (arith, ints)) }

  pub state_within : IsWithinLimits state
  state_within = shows_within_limits zone whole.source whole.sound (for_ever.end -ℤ pos 1) state for_ever.shows

  pub constant_made : (r : Result TzString ZoneStop) → IfOk r (λ f. (state.daylight ≡ false) × (f ≡ constant state.name state.offset)) → IfOk r (IsMade zone)
  constant_made r made =
      if_ok (λ f. (state.daylight ≡ false) × (f ≡ constant state.name state.offset)) (IsMade zone) (λ f h. inl (state, for_ever, h.0, h.1)) r made

  pub constant_fault : (r : Result TzString ZoneStop)
      → IfRefusal kind_of r (λ fault. (fault ≡ kind.PermanentDaylight) × (state.daylight ≡ true)) → IfRefusal kind_of r (IsFirstFault zone)
  constant_fault r refused =
      if_refusal (λ fault. (fault ≡ kind.PermanentDaylight) × (state.daylight ≡ true)) (IsFirstFault zone)
      (λ fault h. inl (h.0, (state, for_ever, h.1))) r refused

-- ---- rules that go on for ever

module _ (zone : Zone) (whole : IsWholeZone zone) (standard year : ℤ) (tails : List TailRule) (tail : IsRulesTail zone standard year tails) where
  pub tails_are_sound : AreSoundTails standard tails
  tails_are_sound = sound_tails zone whole.orderly (whole.sound kind.OffsetRange) standard year tails tail.by

  named : IsNamedTo (set_of zone.source.rules tail.by.name) standard tail.by.last
  named = subst (λ (x : ℤ). IsNamedTo (set_of zone.source.rules tail.by.name) x tail.by.last) (sym tail.by.of_line)
      (given zone whole.orderly tail.by.number tail.by.line tail.by.name tail.by.last tail.by.last_set)

  module _ (starting ending : TailRule) where
    two : IsPair tails starting ending → AreTwo (set_of zone.source.rules tail.by.name) tail.by.line tail.by.numbers tails starting ending
    two pair = two_rules zone standard year tails tail.by starting ending pair

    alternate : TakeTurns standard tails starting ending → Alternate (set_of zone.source.rules tail.by.name) tail.by.last
    alternate turns =
        alternate_from (set_of zone.source.rules tail.by.name) standard tail.by.last named tail.by.line tail.by.numbers tails tail.by.continuing starting ending
        (two turns.pair) turns.in_turn

    sound : IsPair tails starting ending → IsSoundTail standard starting × IsSoundTail standard ending
    sound pair = sound_pair standard tails starting ending tails_are_sound pair

    are_in_turn : TakeTurns standard tails starting ending → AreInTurn zone standard starting ending
    are_in_turn turns =
        let (sound_start, sound_stop) = sound turns.pair in
        record {
          year = year;
          tails = tails;
          by = tail.by;
          pair = turns.pair;
          alternate = alternate turns;
          start = wide_edge standard starting ending.saving.seconds sound_start.yearly turns.start;
          stop = wide_edge standard ending starting.saving.seconds sound_stop.yearly turns.stop;
        }

    made_by : TakeTurns standard tails starting ending → (f : TzString) → f ≡ by_rules standard starting ending → IsByRules standard starting ending f
    made_by turns f is =
        let (sound_start, sound_stop) = sound turns.pair in
        subst (λ (x : TzString). IsByRules standard starting ending x) (sym is) (string_is standard starting ending sound_start sound_stop)

    take_turns : AreInTurn zone standard starting ending → TakeTurns standard tails starting ending
    take_turns others =
        let pair = same_pair zone whole.orderly standard standard year others.year tails others.tails tail.by others.by starting ending others.pair in
        let name = same_name zone whole.orderly standard standard year others.year tails others.tails tail.by others.by in
        let last = same_last zone whole.orderly standard standard year others.year tails others.tails tail.by others.by in
        let by_name = subst (λ (x : List ℕ). Alternate (set_of zone.source.rules x) others.by.last) (sym name) others.alternate in
        let alternate = subst (λ (y : ℤ). Alternate (set_of zone.source.rules tail.by.name) y) (sym last) by_name in
        let (sound_start, sound_stop) = sound pair in
        record {
          pair = pair;
          in_turn = in_turn_from (set_of zone.source.rules tail.by.name) standard tail.by.last named tail.by.line tail.by.numbers tails tail.by.continuing starting ending
              (two pair) alternate;
          start = edge_is_wide standard starting ending.saving.seconds sound_start.yearly others.start;
          stop = edge_is_wide standard ending starting.saving.seconds sound_stop.yearly others.stop;
        }

    turns_go_on : TakeTurns standard tails starting ending → GoesOn zone (by_rules standard starting ending)
    turns_go_on turns =
        let (sound_start, sound_stop) = sound turns.pair in
        goes_on zone whole.orderly standard year tails tail starting ending turns.pair (alternate turns) sound_start sound_stop turns.start turns.stop

  pub rules_made : (r : Result TzString ZoneStop) → IfOk r (IsMadeOf standard tails) → IfOk r (IsMade zone)
  rules_made r made = if_ok (IsMadeOf standard tails) (IsMade zone)
      (λ f h. let (starting, ending, turns, is) = h in inr (standard, starting, ending, are_in_turn starting ending turns, made_by starting ending turns f is)) r made

  pub rules_go_on : (r : Result TzString ZoneStop) → IfOk r (IsMadeOf standard tails) → IfOk r (GoesOn zone)
  rules_go_on r made = if_ok (IsMadeOf standard tails) (GoesOn zone)
      (λ f h. let (starting, ending, turns, is) = h in subst (GoesOn zone) (sym is) (turns_go_on starting ending turns)) r made

  pub rules_fault : (r : Result TzString ZoneStop)
      → IfRefusal kind_of r (λ fault. (fault ≡ kind.NoFooter) × NoneTakeTurns standard tails) → IfRefusal kind_of r (IsFirstFault zone)
  rules_fault r refused =
      if_refusal (λ fault. (fault ≡ kind.NoFooter) × NoneTakeTurns standard tails) (IsFirstFault zone)
      (λ fault h. inr (
        h.0,
        record {
          standard = standard;
          year = year;
          tails = tails;
          by = tail.by;
          none = λ starting ending others. h.1 starting ending (take_turns starting ending others);
        },
      )) r refused

-- the rules of a pair that goes on in turn are sound
pub sound_turns : (zone : Zone) → IsWholeZone zone → (standard : ℤ) (starting ending : TailRule) → AreInTurn zone standard starting ending
    → IsSoundTail standard starting × IsSoundTail standard ending
sound_turns zone whole standard starting ending turns =
    sound_pair standard turns.tails starting ending
    (sound_tails zone whole.orderly (whole.sound kind.OffsetRange) standard turns.year turns.tails turns.by) turns.pair

-- ---- the fault at the Zone line

pub placed : (zone : Zone) (place : Place) (fault : Kind) → IsFirstFault zone fault → IsFaultOfFooter zone place (fault_at place fault)
placed zone place fault (inl (is, daylight)) = inl (ap (fault_at place) is, daylight)
placed zone place fault (inr (is, none)) = inr (ap (fault_at place) is, none)
