use Rattle.std.proofs.Common.{◌≡◌, ℕ, suc, ◌-◌, ◌<◌, List, length, get_or, ap, sym, subst, arith}
use Rattle.std.specs.Prelude.{slice_get, IsSomeAnd}
use Rattle.std.proofs.lemmas.Option.{slice_get-get_or}
use Rattle.zic_tzif.specs.Content.{Content}
use Rattle.zic_tzif.specs.code.After.{IsNumberAfter}
use Rattle.zic_tzif.specs.code.StoredContent.{IsSoundContent}
use Rattle.zic_tzif.proofs.Search.{number_at, numbered, number_has_type}
use Rattle.zic_tzif.proofs.Transitions.{changes_length}
use Rattle.zic_tzif.proofs.zone.Zone.number_after.Goals as goal

pub returns-then-count-eq0-clause-inside : goal.returns-then-count-eq0-clause-inside
returns-then-count-eq0-clause-inside c = (subst (λ (content : Content). IsSoundContent content c.self.inside.footer) c.self.view_is c.self.invariant.sound_content).some_type

pub bounds-numbers-count : goal.bounds-numbers-count
bounds-numbers-count c =
    let as_many = c.self.invariant.as_many in
    let number = changes_length c.self.inside.times.times.items c.self.inside.numbers.items as_many in
    let size = ap (λ (content : Content). length content.changes) c.self.view_is in
    let numbers = ap (λ (xs : List ℕ). length xs) c.as_slice-numbers.ensures.value in
    let inside = c.requires in
    let some = c.if-count-eq0.false in
    omega (arith, inside, some, numbers, size, number, as_many)

pub returns-clause-number : goal.returns-clause-number
returns-clause-number c =
    let times = c.self.inside.times.times.items in
    let numbers = c.self.inside.numbers.items in
    let k = c.args.count - 1 in
    let as_many = c.self.invariant.as_many in
    let number = changes_length times numbers as_many in
    let size = ap (λ (content : Content). length content.changes) c.self.view_is in
    let inside = c.requires in
    let some = c.if-count-eq0.false in
    let within : k < length numbers = omega (arith, inside, some, size, number, as_many) in
    let is : c.args.count ≡ suc k = omega (arith, some) in
    let m = get_or numbers k 0 in
    let at = number_at times numbers k m as_many (slice_get-get_or numbers k 0 within) in
    let there = subst (λ (content : Content). IsSomeAnd (slice_get content.changes k) (λ c. m ≡ c.number)) c.self.view_is at in
    let after = numbered c.args.self.now.changes c.args.count m k is there in
    let read = subst (λ (xs : List ℕ). IsNumberAfter c.args.self.now.changes c.args.count (get_or xs k 0)) (sym c.as_slice-numbers.ensures.value) after in
    subst (λ (found : ℕ). IsNumberAfter c.args.self.now.changes c.args.count found) (sym c.from.ensures) read

pub returns-clause-inside : goal.returns-clause-inside
returns-clause-inside c =
    let content = c.args.self.now in
    let sound_content = subst (λ (content : Content). IsSoundContent content c.self.inside.footer) c.self.view_is c.self.invariant.sound_content in
    number_has_type content c.args.count _ sound_content.have_types sound_content.some_type (returns-clause-number c)
