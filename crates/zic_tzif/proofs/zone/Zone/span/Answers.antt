use Rattle.std.proofs.Common.{◌≡◌, ℕ, ◌+◌, ◌<◌, ◌≤◌, ◌⊎◌, inl, inr, true, false, ℤ, List, length, FitsSigned, w64, to_z-of_z, refl, ap, subst, arith, rules}
use Rattle.zic_base.specs.State.{shown}
use Rattle.zic_posix.specs.declared.span.Instants.{Instants}
use Rattle.zic_posix.specs.Instants.{Includes}
use Rattle.zic_tzif.specs.declared.content.Change.{Change}
use Rattle.zic_tzif.specs.Content.{Content}
use Rattle.zic_tzif.specs.Block.{changes_at}
use Rattle.zic_tzif.specs.code.StoredContent.{IsSoundContent}
use Rattle.zic_tzif.specs.code.Window.{IsSplit}
use Rattle.zic_tzif.proofs.Search.{times_rise, stored_footer, stored_none, gives_first}
use Rattle.zic_tzif.proofs.Spans.{IsPlaced, placed, type_throughout, changes_before_last, open_throughout, changes_without_footer, requested_of_both, footer_throughout, changes_with_footer}
use Rattle.zic_tzif.proofs.States.{footer_numbered}
use Rattle.zic_tzif.proofs.Transitions.{changes_length}
use Rattle.zic_tzif.proofs.zone.Zone.span.Goals as goal
use Rattle.zic_tzif.proofs.zone.Zone.span.Goals.{then-span, else-span}

-- there are as many transitions as numbers
as_long : (times : List ℤ) (numbers : List ℕ) (changes : List Change) → length times ≡ length numbers → changes_at times numbers ≡ changes → length changes ≡ length numbers
as_long times numbers changes as_many same =
    let size = ap (λ (xs : List Change). length xs) same in
    omega (arith, changes_length times numbers as_many, as_many, size)

pub gap_at-gap-requires : goal.gap_at-gap-requires
gap_at-gap-requires c = times_rise c.self.inside.times.times.items c.self.inside.numbers.items c.self.invariant.as_many c.self.invariant.sound_content.rising

pub number_after-number-requires : goal.number_after-number-requires
number_after-number-requires c =
    let times = c.self.inside.times.times.items in
    let numbers = c.self.inside.numbers.items in
    let as_many = c.self.invariant.as_many in
    let same = ap (λ (content : Content). content.changes) c.self.view_is in
    let long = as_long times numbers c.args.self.now.changes as_many same in
    let inside = c.gap_at-gap.ensures.count.inside in
    omega (arith, inside, long, as_many)

pub returns-then-gap-len-clause-answers : goal.returns-then-gap-len-clause-answers
returns-then-gap-len-clause-answers c =
    let content = c.args.self.now in
    let t = c.args.t in
    let gap = c.gap_at-gap.result.instants in
    let n = c.gap_at-gap.result.count in
    let times = c.self.inside.times.times.items in
    let numbers = c.self.inside.numbers.items in
    let as_many = c.self.invariant.as_many in
    let same = ap (λ (content : Content). content.changes) c.self.view_is in
    let split = subst (λ (z : ℤ). IsSplit times z n) (to_z-of_z c.ranges.t) c.gap_at-gap.ensures.count in
    let here = subst (λ (z : ℤ). Includes gap z) (to_z-of_z c.ranges.t) c.gap_at-gap.ensures.requested in
    let p : IsPlaced content t n gap = placed content times numbers t n gap as_many same split here c.gap_at-gap.ensures.between in
    let long = as_long times numbers content.changes as_many same in
    let inside = c.if-gap-len.true in
    type_throughout content t n gap p (shown c.state_of.result) (omega (arith, inside, c.len.ensures, long))
    (c.number_after-number.result, c.number_after-number.ensures.number, c.state_of.ensures)

pub returns-then-gap-len-clause-changes : goal.returns-then-gap-len-clause-changes
returns-then-gap-len-clause-changes c =
    let content = c.args.self.now in
    let t = c.args.t in
    let gap = c.gap_at-gap.result.instants in
    let n = c.gap_at-gap.result.count in
    let times = c.self.inside.times.times.items in
    let numbers = c.self.inside.numbers.items in
    let as_many = c.self.invariant.as_many in
    let same = ap (λ (content : Content). content.changes) c.self.view_is in
    let split = subst (λ (z : ℤ). IsSplit times z n) (to_z-of_z c.ranges.t) c.gap_at-gap.ensures.count in
    let here = subst (λ (z : ℤ). Includes gap z) (to_z-of_z c.ranges.t) c.gap_at-gap.ensures.requested in
    let p : IsPlaced content t n gap = placed content times numbers t n gap as_many same split here c.gap_at-gap.ensures.between in
    let long = as_long times numbers content.changes as_many same in
    let inside = c.if-gap-len.true in
    changes_before_last content t n gap p (omega (arith, inside, c.len.ensures, long))

pub returns-after-span : goal.returns-after-span
returns-after-span c =
    let content = c.args.self.now in
    let footer = c.self.inside.footer in
    let t = c.args.t in
    let gap = c.gap_at-gap.result.instants in
    let n = c.gap_at-gap.result.count in
    let times = c.self.inside.times.times.items in
    let numbers = c.self.inside.numbers.items in
    let as_many = c.self.invariant.as_many in
    let sound_content = subst (λ (content : Content). IsSoundContent content footer) c.self.view_is c.self.invariant.sound_content in
    let same = ap (λ (content : Content). content.changes) c.self.view_is in
    let split = subst (λ (z : ℤ). IsSplit times z n) (to_z-of_z c.ranges.t) c.gap_at-gap.ensures.count in
    let here = subst (λ (z : ℤ). Includes gap z) (to_z-of_z c.ranges.t) c.gap_at-gap.ensures.requested in
    let p : IsPlaced content t n gap = placed content times numbers t n gap as_many same split here c.gap_at-gap.ensures.between in
    let long = as_long times numbers content.changes as_many same in
    let past = c.if-gap-len.false in
    let all : length content.changes ≤ n = omega (arith, past, c.len.ensures, long) in
    let f = c.in-Some.footer in
    let span = c.span-span.result.instants in
    let requested = subst (λ (z : ℤ). Includes span z) (to_z-of_z c.ranges.t) c.span-span.ensures.requested in
    let gap_fits : FitsSigned w64 gap.first = search rules in
    let begin_fits : FitsSigned w64 span.first = search rules in
    let end_fits : FitsSigned w64 span.last = search rules in
    let first_fits : FitsSigned w64 c.max-first.result = search rules in
    let first = rw (to_z-of_z gap_fits, to_z-of_z begin_fits) at c.max-first.ensures.value in
    let instants : Instants = record { first = c.max-first.result; last = span.last } in
    let is_footer = stored_footer content footer f sound_content.footer_is c.in-Some.is in
    let means = c.span-span.ensures.means t requested in
    let types = ap (λ (content : Content). length content.types) c.self.view_is in
    let shows = (shown c.span-span.result.state).daylight in
    let number = c.if-span.number in
    let numbered : ((shows ≡ true) × (number ≡ length content.types + 1)) ⊎ ((shows ≡ false) × (number ≡ length content.types)) = elim c.if-span.branch [
      | then-span w ↦ let is = w.number-is in inl (w.if-span.true, omega (arith, is, c.len-standard.ensures, types))
      | else-span w ↦ let is = w.number-is in inr (w.if-span.false, omega (arith, is, c.len-standard.ensures, types))
    ] in
    rw (to_z-of_z first_fits, to_z-of_z end_fits) (record {
      requested = requested_of_both content t n gap p f span instants all is_footer requested c.span-span.ensures.edges end_fits first refl;
      answers = footer_throughout content t n gap p f span instants all is_footer requested c.span-span.ensures.edges end_fits first refl (shown c.span-span.result.state) c.span-span.ensures.means;
      changes = changes_with_footer content t n gap p f span instants all is_footer requested c.span-span.ensures.edges end_fits first refl;
      number = footer_numbered content f t (shown c.span-span.result.state) number is_footer.spells means numbered;
    })

pub returns-in-None-clause-changes : goal.returns-in-None-clause-changes
returns-in-None-clause-changes c =
    let content = c.args.self.now in
    let footer = c.self.inside.footer in
    let t = c.args.t in
    let gap = c.gap_at-gap.result.instants in
    let n = c.gap_at-gap.result.count in
    let times = c.self.inside.times.times.items in
    let numbers = c.self.inside.numbers.items in
    let as_many = c.self.invariant.as_many in
    let sound_content = subst (λ (content : Content). IsSoundContent content footer) c.self.view_is c.self.invariant.sound_content in
    let same = ap (λ (content : Content). content.changes) c.self.view_is in
    let split = subst (λ (z : ℤ). IsSplit times z n) (to_z-of_z c.ranges.t) c.gap_at-gap.ensures.count in
    let here = subst (λ (z : ℤ). Includes gap z) (to_z-of_z c.ranges.t) c.gap_at-gap.ensures.requested in
    let p : IsPlaced content t n gap = placed content times numbers t n gap as_many same split here c.gap_at-gap.ensures.between in
    changes_without_footer content t n gap p (stored_none content footer sound_content.footer_is c.in-None.is)

pub returns-in-None-2-clause-answers : goal.returns-in-None-2-clause-answers
returns-in-None-2-clause-answers c =
    let content = c.args.self.now in
    let footer = c.self.inside.footer in
    let t = c.args.t in
    let gap = c.gap_at-gap.result.instants in
    let n = c.gap_at-gap.result.count in
    let times = c.self.inside.times.times.items in
    let numbers = c.self.inside.numbers.items in
    let as_many = c.self.invariant.as_many in
    let sound_content = subst (λ (content : Content). IsSoundContent content footer) c.self.view_is c.self.invariant.sound_content in
    let same = ap (λ (content : Content). content.changes) c.self.view_is in
    let split = subst (λ (z : ℤ). IsSplit times z n) (to_z-of_z c.ranges.t) c.gap_at-gap.ensures.count in
    let here = subst (λ (z : ℤ). Includes gap z) (to_z-of_z c.ranges.t) c.gap_at-gap.ensures.requested in
    let p : IsPlaced content t n gap = placed content times numbers t n gap as_many same split here c.gap_at-gap.ensures.between in
    let long = as_long times numbers content.changes as_many same in
    let past = c.if-gap-len.false in
    let some = c.if-gap-eq0.false in
    let bound = p.inside in
    open_throughout content t n gap p (λ none. some (omega (arith, none, bound)))
    (omega (arith, past, c.len.ensures, long)) (stored_none content footer sound_content.footer_is c.in-None.is)

pub returns-in-None-2-clause-changes : goal.returns-in-None-2-clause-changes
returns-in-None-2-clause-changes c =
    let content = c.args.self.now in
    let footer = c.self.inside.footer in
    let t = c.args.t in
    let gap = c.gap_at-gap.result.instants in
    let n = c.gap_at-gap.result.count in
    let times = c.self.inside.times.times.items in
    let numbers = c.self.inside.numbers.items in
    let as_many = c.self.invariant.as_many in
    let sound_content = subst (λ (content : Content). IsSoundContent content footer) c.self.view_is c.self.invariant.sound_content in
    let same = ap (λ (content : Content). content.changes) c.self.view_is in
    let split = subst (λ (z : ℤ). IsSplit times z n) (to_z-of_z c.ranges.t) c.gap_at-gap.ensures.count in
    let here = subst (λ (z : ℤ). Includes gap z) (to_z-of_z c.ranges.t) c.gap_at-gap.ensures.requested in
    let p : IsPlaced content t n gap = placed content times numbers t n gap as_many same split here c.gap_at-gap.ensures.between in
    changes_without_footer content t n gap p (stored_none content footer sound_content.footer_is c.in-None.is)

pub returns-then-gap-len-clause-requested : goal.returns-then-gap-len-clause-requested
returns-then-gap-len-clause-requested c = subst (λ (z : ℤ). Includes c.gap_at-gap.result.instants z) (to_z-of_z c.ranges.t) c.gap_at-gap.ensures.requested

pub returns-in-None-clause-requested : goal.returns-in-None-clause-requested
returns-in-None-clause-requested c = subst (λ (z : ℤ). Includes c.gap_at-gap.result.instants z) (to_z-of_z c.ranges.t) c.gap_at-gap.ensures.requested

pub returns-in-None-2-clause-requested : goal.returns-in-None-2-clause-requested
returns-in-None-2-clause-requested c = subst (λ (z : ℤ). Includes c.gap_at-gap.result.instants z) (to_z-of_z c.ranges.t) c.gap_at-gap.ensures.requested

pub returns-then-gap-len-clause-number : goal.returns-then-gap-len-clause-number
returns-then-gap-len-clause-number c = inl c.state_of.ensures

pub returns-in-None-clause-number : goal.returns-in-None-clause-number
returns-in-None-clause-number c = inl c.state_of-in-None.ensures

pub state_of-requires-in-None : goal.state_of-requires-in-None
state_of-requires-in-None c = subst (λ (content : Content). 0 < length content.types) c.self.view_is c.self.invariant.sound_content.some_type

pub returns-in-None-clause-answers : goal.returns-in-None-clause-answers
returns-in-None-clause-answers c =
    let content = c.args.self.now in
    let footer = c.self.inside.footer in
    let sound_content = subst (λ (content : Content). IsSoundContent content footer) c.self.view_is c.self.invariant.sound_content in
    let same = ap (λ (content : Content). content.changes) c.self.view_is in
    let long = as_long c.self.inside.times.times.items c.self.inside.numbers.items content.changes c.self.invariant.as_many same in
    let past = c.if-gap-len.false in
    let none = c.if-gap-eq0.true in
    let empty : length content.changes ≡ 0 = omega (arith, past, none, c.len.ensures, long) in
    λ u there. gives_first content u (shown c.state_of-in-None.result) empty (stored_none content footer sound_content.footer_is c.in-None.is) c.state_of-in-None.ensures
