use Rattle.std.proofs.Common.{◌≡◌, ℕ, ℤ, List, length, FitsSigned, w64, to_z-of_z, ap, subst, arith, rules}
use Rattle.zic_base.specs.State.{shown}
use Rattle.zic_posix.specs.Meaning.{Means}
use Rattle.zic_tzif.specs.declared.content.Change.{Change}
use Rattle.zic_tzif.specs.Content.{Content, IsStateOfType}
use Rattle.zic_tzif.specs.code.StoredContent.{IsSoundContent}
use Rattle.zic_tzif.specs.code.Window.{IsSplit}
use Rattle.zic_tzif.proofs.Search.{IsFound, found, times_rise, gives_type, gives_footer, leaves_open, stored_footer, stored_none, gives_first}
use Rattle.zic_tzif.proofs.Transitions.{changes_length}
use Rattle.zic_tzif.proofs.zone.Zone.at.Goals as goal

pub count_not_after-count-requires : goal.count_not_after-count-requires
count_not_after-count-requires c = times_rise c.self.inside.times.times.items c.self.inside.numbers.items c.self.invariant.as_many c.self.invariant.sound_content.rising

pub state_after-requires : goal.state_after-requires
state_after-requires c =
    let inside = c.count_not_after-count.ensures.inside in
    let number = changes_length c.self.inside.times.times.items c.self.inside.numbers.items c.self.invariant.as_many in
    let size = ap (λ (content : Content). length content.changes) c.self.view_is in
    omega (arith, inside, number, size)

pub returns-then-count-len : goal.returns-then-count-len
returns-then-count-len c =
    let content = c.args.self.now in
    let footer = c.self.inside.footer in
    let t = c.args.t in
    let n = c.count_not_after-count.result in
    let times = c.self.inside.times.times.items in
    let numbers = c.self.inside.numbers.items in
    let sound_content = subst (λ (content : Content). IsSoundContent content footer) c.self.view_is c.self.invariant.sound_content in
    let same = ap (λ (content : Content). content.changes) c.self.view_is in
    let fits : FitsSigned w64 t = search rules in
    let split = subst (λ (z : ℤ). IsSplit times z n) (to_z-of_z fits) c.count_not_after-count.ensures in
    let point = subst (λ (changes : List Change). IsFound changes t n) same (found times numbers t n c.self.invariant.as_many split) in
    let number = changes_length times numbers c.self.invariant.as_many in
    let as_many = c.self.invariant.as_many in
    let size = ap (λ (changes : List Change). length changes) same in
    let inside = c.if-count-len.true in
    gives_type content t n point (shown c.state_after.result) (omega (arith, inside, c.len.ensures, number, as_many, size)) c.state_after.ensures

pub returns-in-Some : goal.returns-in-Some
returns-in-Some c =
    let content = c.args.self.now in
    let footer = c.self.inside.footer in
    let t = c.args.t in
    let n = c.count_not_after-count.result in
    let times = c.self.inside.times.times.items in
    let numbers = c.self.inside.numbers.items in
    let sound_content = subst (λ (content : Content). IsSoundContent content footer) c.self.view_is c.self.invariant.sound_content in
    let same = ap (λ (content : Content). content.changes) c.self.view_is in
    let fits : FitsSigned w64 t = search rules in
    let split = subst (λ (z : ℤ). IsSplit times z n) (to_z-of_z fits) c.count_not_after-count.ensures in
    let point = subst (λ (changes : List Change). IsFound changes t n) same (found times numbers t n c.self.invariant.as_many split) in
    let number = changes_length times numbers c.self.invariant.as_many in
    let as_many = c.self.invariant.as_many in
    let size = ap (λ (changes : List Change). length changes) same in
    let past = c.if-count-len.false in
    let f = c.in-Some.footer in
    let means : Means f t (shown c.state.result) = subst (λ (z : ℤ). Means f z (shown c.state.result)) (to_z-of_z fits) c.state.ensures in
    gives_footer content t n point f (shown c.state.result) (omega (arith, past, c.len.ensures, number, as_many, size)) (stored_footer content footer f sound_content.footer_is c.in-Some.is) means

pub returns-in-None-2 : goal.returns-in-None-2
returns-in-None-2 c =
    let content = c.args.self.now in
    let footer = c.self.inside.footer in
    let t = c.args.t in
    let n = c.count_not_after-count.result in
    let times = c.self.inside.times.times.items in
    let numbers = c.self.inside.numbers.items in
    let sound_content = subst (λ (content : Content). IsSoundContent content footer) c.self.view_is c.self.invariant.sound_content in
    let same = ap (λ (content : Content). content.changes) c.self.view_is in
    let fits : FitsSigned w64 t = search rules in
    let split = subst (λ (z : ℤ). IsSplit times z n) (to_z-of_z fits) c.count_not_after-count.ensures in
    let point = subst (λ (changes : List Change). IsFound changes t n) same (found times numbers t n c.self.invariant.as_many split) in
    let number = changes_length times numbers c.self.invariant.as_many in
    let as_many = c.self.invariant.as_many in
    let size = ap (λ (changes : List Change). length changes) same in
    let past = c.if-count-len.false in
    let some = c.if-count-eq0.false in
    let bound = split.inside in
    leaves_open content t n point (λ none. some (omega (arith, none, bound, size, number)))
    (omega (arith, past, c.len.ensures, number, as_many, size)) (stored_none content footer sound_content.footer_is c.in-None.is)

pub returns-in-None : goal.returns-in-None
returns-in-None c =
    let content = c.args.self.now in
    let footer = c.self.inside.footer in
    let sound_content = subst (λ (content : Content). IsSoundContent content footer) c.self.view_is c.self.invariant.sound_content in
    let numbers = changes_length c.self.inside.times.times.items c.self.inside.numbers.items c.self.invariant.as_many in
    let as_many = c.self.invariant.as_many in
    let size = ap (λ (content : Content). length content.changes) c.self.view_is in
    let past = c.if-count-len.false in
    let none = c.if-count-eq0.true in
    let empty : length content.changes ≡ 0 = omega (arith, past, none, c.len.ensures, numbers, as_many, size) in
    let after = c.state_after-in-None.ensures in
    gives_first content c.args.t (shown c.state_after-in-None.result) empty (stored_none content footer sound_content.footer_is c.in-None.is)
    (subst (λ (number : ℕ). IsStateOfType content number (shown c.state_after-in-None.result)) after.1 after.2)
