use Rattle.std.proofs.Common.{◌≡◌, ◌≢◌, List, subst}
use Rattle.std.specs.Prelude.{All, IfSome, IfNone, IsSomeAnd, slice_get}
use Rattle.zic_files.specs.File.{File}
use Rattle.zic_files.specs.declared.names.Entry.{Entry}
use Rattle.zic_files.proofs.Numbers.{file_found, file_missing}
use Rattle.zic_files.proofs.files.Files.find.Goals as goal

pub returns-clause-found : goal.returns-clause-found
returns-clause-found c =
    let i = c.self.inside in
    let name = c.args.name.now in
    let found = subst (λ (entries : List Entry). IfSome c.number.result (λ k. IsSomeAnd (slice_get entries k) (λ entry. entry.name ≡ name))) c.deref.ensures.value c.number.ensures.found in
    subst (λ (files : List File). IfSome c.number.result (λ k. IsSomeAnd (slice_get files k) (λ file. file.name ≡ name))) c.self.view_is
    (file_found i.images i.entries.items name c.number.result found)

pub returns-clause-missing : goal.returns-clause-missing
returns-clause-missing c =
    let i = c.self.inside in
    let name = c.args.name.now in
    let missing = subst (λ (entries : List Entry). IfNone c.number.result (All (λ entry. entry.name ≢ name) entries)) c.deref.ensures.value c.number.ensures.missing in
    subst (λ (files : List File). IfNone c.number.result (All (λ file. file.name ≢ name) files)) c.self.view_is
    (file_missing i.images i.entries.items name c.number.result missing)
