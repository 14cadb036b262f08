use Rattle.std.proofs.Common.{◌≡◌, ℕ, Err, arith}
use Rattle.std.proofs.lemmas.Result.{err_from_is_err_and}
use Rattle.zic_base.specs.Fault.{kind_of}
use Rattle.zic_base.specs.State.{shown}
use Rattle.zic_base.specs.declared.fault.Kind.TheVariants.{TooManyTypes, TooManyChars}
use Rattle.zic_base.proofs.MemoryLemmas.{on_want}
use Rattle.zic_footer.proofs.Outcomes.{if_refusal}
use Rattle.zic_table.specs.code.Faults.{IsFirstFault}
use Rattle.zic_table.specs.code.LocalTypes.{HasManyCharacters}
use Rattle.zic_table.specs.code.Transitions.{HasManyTypes}
use Rattle.zic_table.proofs.Footers.{footer_goes_on}
use Rattle.zic_table.proofs.Tables.{has_few, too_many_changes, too_many_types, too_many_characters, is_content, is_footer, is_writable}
use Rattle.zic_table.proofs.maker.table_of.Goals as goal

pub new-requires : goal.new-requires
new-requires c =
    let (all, are_all, count) = c.len-is_long.ensures in
    is_writable c.args.t.now c.end.ensures.whole all are_all (omega arith) c.in_ok-numbered.numbered.numbering c.in_ok-numbered.numbered.changes.items c.in_ok-numbered.ensures.ok c.states.ensures.fit
    c.args.f.now c.requires (footer_goes_on c.args.t.now c.end.ensures.whole c.args.f.now c.requires).0 c.in_ok-designated.designated.types.items c.in_ok-designated.designated.names.items
    (rw c.states.ensures.states at c.in_ok-designated.ensures.ok)
    c.version.result c.in_ok-footer_text.footer_text.items c.version.ensures c.in_ok-footer_text.ensures.printed c.in_ok-footer_text.ensures.spells

pub returns-then-is_long-clause-err : goal.returns-then-is_long-clause-err
returns-then-is_long-clause-err c =
    let (all, are_all, count) = c.len-is_long.ensures in
    (too_many_changes c.args.t.now c.end.ensures.whole (shown c.first-first.result) all c.first-first.ensures are_all (omega arith))

pub returns-in_err-numbered-clause-err : goal.returns-in_err-numbered-clause-err
returns-in_err-numbered-clause-err c =
    let (all, are_all, count) = c.len-is_long.ensures in
    let p = err_from_is_err_and c.from_residual.result c.from_residual.ensures.1 in
    rw (p.1, p.2)
    (if_refusal {X = ℕ} (λ fault. (fault ≡ TooManyTypes) × HasManyTypes c.args.t.now) (IsFirstFault c.args.t.now)
    (λ fault h. too_many_types c.args.t.now c.end.ensures.whole all are_all (omega arith) fault h.0 h.1) (Err c.in_err-numbered.field-0.0) c.in_err-numbered.ensures.err)

pub returns-in_err-numbered-clause-memory : goal.returns-in_err-numbered-clause-memory
returns-in_err-numbered-clause-memory c =
    let (all, are_all, count) = c.len-is_long.ensures in
    on_want kind_of c.from_residual.result _ (has_few c.args.t.now c.end.ensures.whole all are_all (omega arith))

pub returns-in_err-designated-clause-err : goal.returns-in_err-designated-clause-err
returns-in_err-designated-clause-err c =
    let (all, are_all, count) = c.len-is_long.ensures in
    let states = c.in_ok-numbered.numbered.numbering in
    let p = err_from_is_err_and c.from_residual-in_err-designated.result c.from_residual-in_err-designated.ensures.1 in
    let refused = rw c.states.ensures.states at c.in_err-designated.ensures.err in
    rw (p.1, p.2)
    (if_refusal {X = ℕ} (λ fault. (fault ≡ TooManyChars) × HasManyCharacters states) (IsFirstFault c.args.t.now)
    (λ fault h. too_many_characters c.args.t.now c.end.ensures.whole all are_all (omega arith) states c.in_ok-numbered.numbered.changes.items c.in_ok-numbered.ensures.ok c.states.ensures.fit
    fault h.0 h.1) (Err c.in_err-designated.field-0.0) refused)

pub returns-in_err-designated-clause-memory : goal.returns-in_err-designated-clause-memory
returns-in_err-designated-clause-memory c =
    let (all, are_all, count) = c.len-is_long.ensures in
    on_want kind_of c.from_residual-in_err-designated.result _ (has_few c.args.t.now c.end.ensures.whole all are_all (omega arith))

pub returns-in_err-footer_text-clause-memory : goal.returns-in_err-footer_text-clause-memory
returns-in_err-footer_text-clause-memory c =
    let (all, are_all, count) = c.len-is_long.ensures in
    on_want kind_of c.from_residual-in_err-footer_text.result _ (has_few c.args.t.now c.end.ensures.whole all are_all (omega arith))

pub returns-clause-ok : goal.returns-clause-ok
returns-clause-ok c =
    let (all, are_all, count) = c.len-is_long.ensures in
    rw c.new.ensures
    (is_content c.args.t.now c.end.ensures.whole all are_all (omega arith) c.in_ok-numbered.numbered.numbering c.in_ok-numbered.numbered.changes.items c.in_ok-numbered.ensures.ok c.states.ensures.fit
    c.args.f.now c.requires (footer_goes_on c.args.t.now c.end.ensures.whole c.args.f.now c.requires).0 c.in_ok-designated.designated.types.items c.in_ok-designated.designated.names.items
    (rw c.states.ensures.states at c.in_ok-designated.ensures.ok)
    c.version.result c.in_ok-footer_text.footer_text.items c.version.ensures c.in_ok-footer_text.ensures.printed c.in_ok-footer_text.ensures.spells)

pub returns-clause-footer : goal.returns-clause-footer
returns-clause-footer c =
    let (all, are_all, count) = c.len-is_long.ensures in
    rw c.new.ensures
    (is_footer c.args.t.now c.end.ensures.whole all are_all (omega arith) c.in_ok-numbered.numbered.numbering c.in_ok-numbered.numbered.changes.items c.in_ok-numbered.ensures.ok c.states.ensures.fit
    c.args.f.now c.requires (footer_goes_on c.args.t.now c.end.ensures.whole c.args.f.now c.requires).0 c.in_ok-designated.designated.types.items c.in_ok-designated.designated.names.items
    (rw c.states.ensures.states at c.in_ok-designated.ensures.ok)
    c.version.result c.in_ok-footer_text.footer_text.items c.version.ensures c.in_ok-footer_text.ensures.printed c.in_ok-footer_text.ensures.spells)

pub returns-clause-writable : goal.returns-clause-writable
returns-clause-writable c =
    let (all, are_all, count) = c.len-is_long.ensures in
    rw c.new.ensures
    (is_writable c.args.t.now c.end.ensures.whole all are_all (omega arith) c.in_ok-numbered.numbered.numbering c.in_ok-numbered.numbered.changes.items c.in_ok-numbered.ensures.ok c.states.ensures.fit
    c.args.f.now c.requires (footer_goes_on c.args.t.now c.end.ensures.whole c.args.f.now c.requires).0 c.in_ok-designated.designated.types.items c.in_ok-designated.designated.names.items
    (rw c.states.ensures.states at c.in_ok-designated.ensures.ok)
    c.version.result c.in_ok-footer_text.footer_text.items c.version.ensures c.in_ok-footer_text.ensures.printed c.in_ok-footer_text.ensures.spells)
