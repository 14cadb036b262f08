use Rattle.std.proofs.Common.{List, subst, to_z-of_z}
use Rattle.zic_base.proofs.Elements.{got}
use Rattle.zic_files.specs.File.{File}
use Rattle.zic_zones.proofs.OneState.{difference, only_answered, only_resolved, near_is}
use Rattle.zic_zones.specs.code.Ready.{AreReady}
use Rattle.zic_zones.proofs.row_zones.RowZones.only_instant.Goals as goal

pub returns-clause-instant : goal.returns-clause-instant
returns-clause-instant c =
    let files = c.args.self.now in
    let local = c.args.local in
    let text = c.state_text-text.result.now in
    let (file, at) = got files c.args.file c.requires.within in
    let ready = subst (λ (l : List File). AreReady l c.self.inside.ready.now) c.self.view_is c.self.invariant in
    let facts = (rw (to_z-of_z c.ranges.local) at c.state_near-number.ensures) files ready in
    let near = near_is files c.args.file local c.self.inside.ready.now.texts c.state_near-number.result text facts c.if-number.false c.state_text-text.ensures in
    let value = difference local text.offset c.offset.result c.from.result c.ranges.local c.requires.range c.offset.ensures.value c.offset.ensures.may c.from.ensures in
    rw value (only_resolved files c.args.file file at local text near c.are_sound.ensures c.instants_are_near.ensures c.choices_mean_one.ensures c.local_times_resolve.ensures)

pub returns-clause-state : goal.returns-clause-state
returns-clause-state c =
    let files = c.args.self.now in
    let local = c.args.local in
    let text = c.state_text-text.result.now in
    let (file, at) = got files c.args.file c.requires.within in
    let ready = subst (λ (l : List File). AreReady l c.self.inside.ready.now) c.self.view_is c.self.invariant in
    let facts = (rw (to_z-of_z c.ranges.local) at c.state_near-number.ensures) files ready in
    let near = near_is files c.args.file local c.self.inside.ready.now.texts c.state_near-number.result text facts c.if-number.false c.state_text-text.ensures in
    let value = difference local text.offset c.offset.result c.from.result c.ranges.local c.requires.range c.offset.ensures.value c.offset.ensures.may c.from.ensures in
    rw value (only_answered files c.args.file file at local text near c.are_sound.ensures c.instants_are_near.ensures)
