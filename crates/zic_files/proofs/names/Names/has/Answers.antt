use Rattle.std.proofs.Common.{◌≡◌, ◌≢◌, List, ℕ, Decides, subst}
use Rattle.std.specs.Prelude.{All, Contains, IfSome, IfNone, IsSomeAnd, is_some, slice_get}
use Rattle.std.proofs.lemmas.Bool.Decides.{Decides-at}
use Rattle.zic_files.specs.declared.names.Entry.{Entry}
use Rattle.zic_files.proofs.Learning.{has_name}
use Rattle.zic_files.proofs.names.Names.has.Goals as goal

pub returns : goal.returns
returns c =
    let name = c.args.name.now in
    let found = subst (λ (entries : List Entry). IfSome c.number.result (λ k. IsSomeAnd (slice_get entries k) (λ entry. entry.name ≡ name))) c.deref.ensures.value c.number.ensures.found in
    let missing = subst (λ (entries : List Entry). IfNone c.number.result (All (λ entry. entry.name ≢ name) entries)) c.deref.ensures.value c.number.ensures.missing in
    Decides-at c.is_some.result (is_some c.number.result) c.is_some.ensures
    (subst (λ (names : List (List ℕ)). Decides (is_some c.number.result) (Contains names name)) c.self.view_is
    (has_name c.self.inside.entries.items name c.number.result found missing))
