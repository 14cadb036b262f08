use Rattle.std.proofs.Common.{◌∙◌, ◌-◌, sym, arith}
use Rattle.std.proofs.lemmas.Bool.{false≢true}
use Rattle.std.proofs.lemmas.List.{get_or_default}
use Rattle.std.proofs.lemmas.Slice.Eq.{bytes_eq-Decides}
use Rattle.zic_files.specs.code.NameIndex.{bucket_in}
use Rattle.zic_files.proofs.Numbers.{sought_found, sought_in_vain, sought_less, sought_on}
use Rattle.zic_files.proofs.name_index.NameIndex.number.Goals as goal

pub returns-then-eq-clause-found : goal.returns-then-eq-clause-found
returns-then-eq-clause-found c =
    let entries = c.args.entries.now in
    let entry = c.index-entries-number.result in
    let within = c.loop-rest.invariant.within in
    let same = (bytes_eq-Decides c.octets.result.now c.args.name.now).0 (sym c.eq.ensures ∙ c.if-eq.true) in
    sought_found entries c.args.name.now (c.loop-rest.rest - 1) entry (omega (arith, within, c.loop-rest-test.true))
    (sym c.octets.ensures.octets ∙ same)

pub loop-rest-smaller : goal.loop-rest-smaller
loop-rest-smaller c =
    let number = c.loop-rest.rest - 1 in
    let before = c.args.self.now.before.items in
    let within = c.loop-rest.invariant.within in
    let count = c.requires.linked.count in
    let read = c.index.ensures ∙ get_or_default before number c.index.result.now 0 (omega (arith, within, count, c.loop-rest-test.true)) in
    sought_less (bucket_in c.args.self.now) c.args.entries.now c.args.self.now.last.items before c.loop-rest.rest number c.index.result.now c.index-entries-number.result c.requires.linked within (omega (arith, c.loop-rest-test.true)) read

pub loop-rest-preserved : goal.loop-rest-preserved
loop-rest-preserved c =
    let number = c.loop-rest.rest - 1 in
    let entries = c.args.entries.now in
    let before = c.args.self.now.before.items in
    let entry = c.index-entries-number.result in
    let within = c.loop-rest.invariant.within in
    let count = c.requires.linked.count in
    let read = c.index.ensures ∙ get_or_default before number c.index.result.now 0 (omega (arith, within, count, c.loop-rest-test.true)) in
    sought_on (bucket_in c.args.self.now) entries c.args.name.now c.args.self.now.last.items before c.loop-rest.rest number c.index.result.now entry c.requires.linked c.loop-rest.invariant (omega (arith, c.loop-rest-test.true))
    (λ named. false≢true (sym c.if-eq.false ∙ c.eq.ensures
    ∙ (bytes_eq-Decides c.octets.result.now c.args.name.now).1 (c.octets.ensures.octets ∙ named)))
    read

pub returns-clause-missing : goal.returns-clause-missing
returns-clause-missing c = sought_in_vain (bucket_in c.args.self.now) c.args.entries.now c.args.name.now c.loop-rest.rest c.loop-rest.invariant (omega (arith, c.loop-rest-test.false))
