use Rattle.std.proofs.Common.{◌≢◌, ◌+◌, ◌∙◌, List, [], ◌∷◌, ◌++◌, vec_len, ap, refl, sym, subst}
use Rattle.std.specs.Prelude.{All}
use Rattle.zic_files.specs.declared.names.Entry.{Entry}
use Rattle.zic_files.specs.File.{File}
use Rattle.zic_files.specs.code.NameIndex.{AreNumbersUpTo}
use Rattle.zic_files.proofs.Added.{files_added, entries_added, files_refused, entries_refused, if_err}
use Rattle.zic_files.proofs.Numbers.{numbers_before, numbers_after, popped}
use Rattle.zic_files.proofs.files.Files.add.Goals as goal

pub invariant_of-self : goal.invariant_of-self
invariant_of-self c =
    let i = c.self.inside in
    let grown = c.add.ensures.grown in
    entries_refused i.images i.entries.items i.names c.self.invariant _ grown.0 grown.1 _ i.names refl c.self.invariant.numbers

pub returns-in_err-zone-clause-err : goal.returns-in_err-zone-clause-err
returns-in_err-zone-clause-err c =
    let i = c.self.inside in
    let grown = c.add.ensures.grown in
    if_err c.from_residual.result _ (files_refused i.images i.entries.items i.names c.self.invariant _ grown.0 grown.1 _ refl ∙ c.self.view_is)

pub invariant_of-self-in_err-push : goal.invariant_of-self-in_err-push
invariant_of-self-in_err-push c =
    let i = c.self.inside in
    let grown = c.in_ok-zone.ensures.grown in
    entries_refused i.images i.entries.items i.names c.self.invariant _ grown.0 grown.1 _ i.names c.in_err-push.ensures.items c.self.invariant.numbers

pub returns-in_err-push-clause-err : goal.returns-in_err-push-clause-err
returns-in_err-push-clause-err c =
    let i = c.self.inside in
    let grown = c.in_ok-zone.ensures.grown in
    if_err c.from_residual-in_err-push.result _ (files_refused i.images i.entries.items i.names c.self.invariant _ grown.0 grown.1 _ c.in_err-push.ensures.items ∙ c.self.view_is)

pub add-requires-2-clause-numbers : goal.add-requires-2-clause-numbers
add-requires-2-clause-numbers c =
    let i = c.self.inside in
    numbers_before i.entries.items _ c.deref.result.now c.len-number.result (c.deref.ensures.value ∙ c.in_ok-push.ensures.items) (c.len-number.ensures ∙ i.entries.ok.0) i.names c.self.invariant.numbers

pub invariant_of-self-in-Ok : goal.invariant_of-self-in-Ok
invariant_of-self-in-Ok c =
    let i = c.self.inside in
    let name = c.args.name in
    let grown = c.in_ok-zone.ensures.grown in
    let others = subst (λ (files : List File). All (λ file. file.name ≢ name) files) (sym c.self.view_is) c.requires.new in
    let numbers = subst (λ (entries : List Entry). AreNumbersUpTo entries (c.len-number.result + 1) c.add-2.new.self) c.deref.ensures.value c.in-Ok.ensures.ok in
    entries_added i.images i.entries.items i.names c.self.invariant _ grown.0 grown.1 name c.args.image c.in_ok-zone.zone c.in_ok-zone.ensures.number
    _ c.add-2.new.self c.len-number.result c.in_ok-push.ensures.items c.file_is_sound.ensures others (c.len-number.ensures ∙ i.entries.ok.0) numbers

pub returns-in-Ok-clause-ok : goal.returns-in-Ok-clause-ok
returns-in-Ok-clause-ok c =
    let i = c.self.inside in
    let grown = c.in_ok-zone.ensures.grown in
    files_added i.images i.entries.items i.names c.self.invariant _ grown.0 grown.1 c.args.name c.args.image c.in_ok-zone.zone c.in_ok-zone.ensures.number
    _ c.in_ok-push.ensures.items ∙ ap (λ (files : List File). files ++ (record { name = c.args.name; image = c.args.image }) ∷ []) c.self.view_is

pub invariant_of-self-in-Err : goal.invariant_of-self-in-Err
invariant_of-self-in-Err c =
    let i = c.self.inside in
    let grown = c.in_ok-zone.ensures.grown in
    let entries = c.push.new.self.items in
    let gone = popped i.entries.items _ entries c.pop.new.self.items (vec_len c.push.new.self) c.in_ok-push.ensures.items c.push.new.self.ok.0 c.pop.ensures.rest in
    let numbers = numbers_after i.entries.items _ c.deref.result.now c.len-number.result (c.deref.ensures.value ∙ c.in_ok-push.ensures.items) (c.len-number.ensures ∙ i.entries.ok.0) c.add-2.new.self c.in-Err.ensures.err in
    entries_refused i.images i.entries.items i.names c.self.invariant _ grown.0 grown.1 _ c.add-2.new.self gone numbers

pub returns-in-Err-clause-err : goal.returns-in-Err-clause-err
returns-in-Err-clause-err c =
    let i = c.self.inside in
    let grown = c.in_ok-zone.ensures.grown in
    let gone = popped i.entries.items _ c.push.new.self.items c.pop.new.self.items (vec_len c.push.new.self) c.in_ok-push.ensures.items c.push.new.self.ok.0 c.pop.ensures.rest in
    files_refused i.images i.entries.items i.names c.self.invariant _ grown.0 grown.1 _ gone ∙ c.self.view_is
