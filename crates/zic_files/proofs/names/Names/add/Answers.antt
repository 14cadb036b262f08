use Rattle.std.proofs.Common.{◌≡◌, ℕ, List, [], ◌∷◌, ◌++◌, ◌∙◌, ap, map, vec_len, rules}
use Rattle.std.proofs.lemmas.List.{map-append}
use Rattle.zic_files.specs.declared.names.Entry.{Entry}
use Rattle.zic_files.proofs.Numbers.{numbers_before, numbers_after, popped}
use Rattle.zic_files.proofs.names.Names.add.Goals as goal

abbrev name : Entry → List ℕ
name entry = entry.name

pub add-requires-clause-numbers : goal.add-requires-clause-numbers
add-requires-clause-numbers c =
    let i = c.self.inside in
    numbers_before i.entries.items _ c.deref.result.now c.len-number.result (c.deref.ensures.value ∙ c.in_ok-push.ensures.items) (c.len-number.ensures ∙ c.self.inside.entries.ok.0) i.index c.self.invariant

pub invariant_of-self-in-Err : goal.invariant_of-self-in-Err
invariant_of-self-in-Err c =
    let i = c.self.inside in
    let gone = popped i.entries.items _ c.push.new.self.items c.pop.new.self.items (vec_len c.push.new.self) c.in_ok-push.ensures.items c.push.new.self.ok.0 c.pop.ensures.rest in
    rw gone (numbers_after i.entries.items _ c.deref.result.now c.len-number.result (c.deref.ensures.value ∙ c.in_ok-push.ensures.items) (c.len-number.ensures ∙ c.self.inside.entries.ok.0) c.add.new.self c.in-Err.ensures.err)

pub returns-in-Err-clause-err : goal.returns-in-Err-clause-err
returns-in-Err-clause-err c =
    let gone = popped c.self.inside.entries.items _ c.push.new.self.items c.pop.new.self.items (vec_len c.push.new.self) c.in_ok-push.ensures.items c.push.new.self.ok.0 c.pop.ensures.rest in
    ap (map name) gone ∙ c.self.view_is

pub returns-in-Ok-clause-ok : goal.returns-in-Ok-clause-ok
returns-in-Ok-clause-ok c =
    let same : c.in_ok-name.name ≡ c.args.name.now = search rules in
    ap (map name) c.in_ok-push.ensures.items
    ∙ map-append name c.self.inside.entries.items ((record { name = c.in_ok-name.name; zone = 0 }) ∷ [])
    ∙ ap (λ (names : List (List ℕ)). names ++ c.in_ok-name.name ∷ []) c.self.view_is
    ∙ ap (λ (added : List ℕ). c.args.self.now ++ added ∷ []) same
