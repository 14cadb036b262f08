use Rattle.std.proofs.Common.{◌≡◌, ◌<◌, ◌∙◌, ℕ, [], ◌∷◌, ◌++◌, length, length-append, ap, sym, subst, arith}
use Rattle.std.specs.Prelude.{IfSome, slice_get}
use Rattle.zic_zones.proofs.Readying.{index_of_zone, keeps_is, ready_added, ready_as_more}
use Rattle.zic_zones.specs.declared.ready.Ready.{Ready}
use Rattle.zic_zones.proofs.ready.Ready.extend.Goals as goal

pub returns-in_err-index : goal.returns-in_err-index
returns-in_err-index c =
    let old = c.loop-file.self in
    let new = c.index_of.new.self in
    let is = c.index_of.ensures in
    ready_as_more c.args.files.now old new is.names (ap (λ (v : _). v.items) is.zones) (keeps_is old.texts new.texts is.texts) (keeps_is old.tables new.tables is.tables) is.indexes c.loop-file.invariant.are

pub zone-requires-in-loop-file : goal.zone-requires-in-loop-file
zone-requires-in-loop-file c =
    let files = c.args.files.now in
    let within : c.loop-file.file < length files = omega (arith, c.loop-file-test.true, c.len-file-end.ensures.count) in
    index_of_zone files c.loop-file.file c.zone.result.now c.index_of.new.self.indexes.items c.in_ok-index.index within c.in_ok-index.ensures.index c.zone.ensures.zone

pub returns-in_err-zone : goal.returns-in_err-zone
returns-in_err-zone c =
    let files = c.args.files.now in
    let old = c.loop-file.self in
    let mid = c.index_of.new.self in
    let new = c.zone-in-loop-file.new.self in
    let first = c.index_of.ensures in
    let is = c.zone-in-loop-file.ensures in
    let are = ready_as_more files old mid first.names (ap (λ (v : _). v.items) first.zones) (keeps_is old.texts mid.texts first.texts) (keeps_is old.tables mid.tables first.tables) first.indexes
    c.loop-file.invariant.are in
    ready_as_more files mid new is.names (ap (λ (v : _). v.items) is.zones) is.texts is.tables (keeps_is mid.indexes.items new.indexes.items (ap (λ (v : _). v.items) is.indexes)) are

pub returns-in_err-push : goal.returns-in_err-push
returns-in_err-push c =
    let files = c.args.files.now in
    let old = c.loop-file.self in
    let mid = c.index_of.new.self in
    let made = c.zone-in-loop-file.new.self in
    let first = c.index_of.ensures in
    let is = c.zone-in-loop-file.ensures in
    let are = ready_as_more files old mid first.names (ap (λ (v : _). v.items) first.zones) (keeps_is old.texts mid.texts first.texts) (keeps_is old.tables mid.tables first.tables) first.indexes
    c.loop-file.invariant.are in
    let new : Ready = record { names = made.names; texts = made.texts; tables = made.tables; indexes = made.indexes; zones = c.push.new.self } in
    ready_as_more files mid new is.names (c.in_err-push.ensures.items ∙ ap (λ (v : _). v.items) is.zones) is.texts is.tables
    (keeps_is mid.indexes.items made.indexes.items (ap (λ (v : _). v.items) is.indexes)) are

pub loop-file-preserved : goal.loop-file-preserved
loop-file-preserved c =
    let files = c.args.files.now in
    let old = c.loop-file.self in
    let mid = c.index_of.new.self in
    let made = c.zone-in-loop-file.new.self in
    let first = c.index_of.ensures in
    let is = c.zone-in-loop-file.ensures in
    let zones = ap (λ (v : _). v.items) first.zones in
    let stays = ap (λ (v : _). v.items) is.zones in
    let are = ready_as_more files old mid first.names zones (keeps_is old.texts mid.texts first.texts) (keeps_is old.tables mid.tables first.tables) first.indexes c.loop-file.invariant.are in
    let new : Ready = record { names = made.names; texts = made.texts; tables = made.tables; indexes = made.indexes; zones = c.push.new.self } in
    let zone = c.in_ok-zone.zone in
    let long : length mid.zones.items ≡ c.loop-file.file = ap length zones ∙ c.loop-file.invariant.long in
    let pushed : c.push.new.self.items ≡ mid.zones.items ++ zone ∷ [] = c.in_ok-push.ensures.items ∙ ap (λ (l : _). l ++ zone ∷ []) stays in
    let within : length mid.zones.items < length files = omega (arith, long, c.loop-file-test.true, c.len-file-end.ensures.count) in
    let at = subst (λ (i : ℕ). IfSome (slice_get files i) (λ file. c.zone.result.now ≡ file.image.content)) (sym long) c.zone.ensures.zone in
    record {
      long = rw pushed (omega (arith, length-append mid.zones.items (zone ∷ []), long));
      are = ready_added files mid new zone c.zone.result.now is.names pushed is.texts is.tables (keeps_is mid.indexes.items made.indexes.items (ap (λ (v : _). v.items) is.indexes)) within at
          c.in_ok-zone.ensures.ready are;
    }
