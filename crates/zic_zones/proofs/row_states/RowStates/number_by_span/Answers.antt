use Rattle.std.proofs.Common.{◌≡◌, ℤ, List, Some, ap, subst, to_z-of_z}
use Rattle.std.specs.Prelude.{IfSome, slice_get}
use Rattle.zic_base.proofs.Elements.{got}
use Rattle.zic_base.proofs.Options.{if_at}
use Rattle.zic_base.specs.State.{Shown, shown}
use Rattle.zic_files.specs.File.{File}
use Rattle.zic_posix.specs.Instants.{Includes}
use Rattle.zic_tzif.specs.Answer.{Answers}
use Rattle.zic_tzif.specs.Content.{Content}
use Rattle.zic_tzif.specs.States.{IsStateOfNumber}
use Rattle.zic_zones.specs.States.{HasState, NumberedStates}
use Rattle.zic_zones.specs.Zones.{IsShownAt}
use Rattle.zic_zones.specs.code.Ready.{AreReady, IsTextOf}
use Rattle.zic_zones.proofs.Shows.{answers_at}
use Rattle.zic_zones.proofs.row_states.RowStates.number_by_span.Goals as goal

pub returns-in-Known : goal.returns-in-Known
returns-in-Known c = λ says.
    let files = c.args.self.now.files in
    let span = c.span-span.result in
    let same : c.self.inside.files.now ≡ files = ap (λ (v : NumberedStates). v.files) c.self.view_is in
    let (file, at) = got files c.args.file c.requires in
    let zone = subst (λ (l : List File). IfSome (slice_get l c.args.file) (λ f. c.zone.result.now ≡ f.image.content)) same c.zone.ensures.zone in
    let content = if_at (slice_get files c.args.file) (λ (f : File). c.zone.result.now ≡ f.image.content) file zone at in
    let requested = subst (λ (t : ℤ). Includes span.instants t) (to_z-of_z c.ranges.instant) c.span-span.ensures.requested in
    let number = rw c.in-Known.is at c.span-span.ensures.number in
    let answers = rw c.in-Known.is at c.span-span.ensures.answers in
    let shows : IsShownAt files c.args.file c.args.instant span.number =
    rw at (
      shown c.in-Known.field-0,
      subst (λ (k : Content). IsStateOfNumber k span.number (shown c.in-Known.field-0)) content number,
      subst (λ (k : Content). Answers k c.args.instant (Some (shown c.in-Known.field-0))) content (answers c.args.instant requested),
    ) in
    let ready = subst (λ (l : List File). AreReady l c.self.inside.ready.now) same c.self.invariant in
    let has = subst (λ (l : List Shown). HasState l c.state.result (λ s. IsTextOf files c.args.file span.number s)) (ap (λ (v : NumberedStates). v.states) c.self.view_is) (c.state.ensures files ready) in
    let (state, gets, named) = has says in
    let of = if_at (slice_get files c.args.file) (λ (f : File). IsStateOfNumber f.image.content span.number state) file named at in
    (state, gets, answers_at files c.args.file file at span.number c.args.instant state of shows)
