use Rattle.std.proofs.Common.{◌≡◌, List, subst}
use Rattle.std.specs.Prelude.{IfSome, slice_get}
use Rattle.zic_base.proofs.Elements.{got}
use Rattle.zic_base.proofs.Options.{if_at}
use Rattle.zic_base.specs.State.{shown}
use Rattle.zic_files.specs.File.{File}
use Rattle.zic_zones.proofs.Shows.{answers_at, has_state, may_show}
use Rattle.zic_zones.proofs.row_zones.RowZones.make_text.Goals as goal

pub state-requires : goal.state-requires
state-requires c =
    let files = c.args.self.now in
    let (file, at) = got files c.args.file c.requires.within in
    let (second, shows) = c.requires.shown in
    let zone = subst (λ (l : List File). IfSome (slice_get l c.args.file) (λ f. c.zone.result.now ≡ f.image.content)) c.self.view_is c.zone.ensures.zone in
    let same = if_at (slice_get files c.args.file) (λ (f : File). c.zone.result.now ≡ f.image.content) file zone at in
    rw same (has_state files c.args.file file at c.args.number second shows)

pub new-requires : goal.new-requires
new-requires c =
    let files = c.args.self.now in
    let (file, at) = got files c.args.file c.requires.within in
    let (second, shows) = c.requires.shown in
    let zone = subst (λ (l : List File). IfSome (slice_get l c.args.file) (λ f. c.zone.result.now ≡ f.image.content)) c.self.view_is c.zone.ensures.zone in
    let same = if_at (slice_get files c.args.file) (λ (f : File). c.zone.result.now ≡ f.image.content) file zone at in
    may_show files c.args.file file at c.args.number c.are_sound.ensures second (shown c.state.result) (rw same at c.state.ensures) shows

pub returns : goal.returns
returns c = λ second shows.
    let files = c.args.self.now in
    let (file, at) = got files c.args.file c.requires.within in
    let zone = subst (λ (l : List File). IfSome (slice_get l c.args.file) (λ f. c.zone.result.now ≡ f.image.content)) c.self.view_is c.zone.ensures.zone in
    let same = if_at (slice_get files c.args.file) (λ (f : File). c.zone.result.now ≡ f.image.content) file zone at in
    answers_at files c.args.file file at c.args.number second c.new.result (rw c.new.ensures (rw same at c.state.ensures)) shows
