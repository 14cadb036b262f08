use Rattle.std.proofs.Common.{rules, ◌≡◌, ◌<◌, ◌∙◌, ◌++◌, ◌∷◌, [], length, get_or, ap, refl, sym, ℕ, arith}
use Rattle.std.proofs.lemmas.List.{get_or_default}
use Rattle.std.proofs.lemmas.Option.{slice_get_read}
use Rattle.zic_files.specs.declared.names.Entry.{Entry}
use Rattle.zic_files.specs.code.NameIndex.{bucket_of}
use Rattle.zic_files.proofs.Numbers.{numbers_more, numbers_same, on_err}
use Rattle.zic_files.proofs.name_index.NameIndex.link.Goals as goal

pub returns-clause-ok : goal.returns-clause-ok
returns-clause-ok c =
    let entries = c.args.entries.now in
    let n = c.args.number in
    let entry = c.index-entries-number.result in
    let bucket = c.bucket_of-bucket.result in
    let last = c.args.self.now.last.items in
    let before = c.args.self.now.before.items in
    let buckets : c.len.result ≡ length last = search rules in
    let few : bucket < c.len.result = c.bucket_of-bucket.ensures.within (omega (arith, c.requires.some)) in
    let within : bucket < length last = omega (arith, few, buckets) in
    let at = slice_get_read entries (length entries) n entry refl c.requires.within c.index-entries-number.is in
    let of_name = c.bucket_of-bucket.ensures.value ∙ ap (λ (k : ℕ). bucket_of c.args.self.now.key k c.octets.result.now) buckets ∙ ap (bucket_of c.args.self.now.key (length last)) (c.octets.ensures.octets ∙ ap (λ (x : Entry). x.name) (sym c.index-entries-number.is)) in
    let read : c.index.result.now ≡ get_or last bucket 0 = c.index.ensures ∙ get_or_default last bucket c.index.result.now 0 within in
    numbers_more entries n bucket entry c.args.self.now _ c.requires.numbers within at of_name refl refl (c.in_ok-push.ensures.items ∙ ap (λ (k : _). before ++ k ∷ []) read)

pub returns-in_err-push-clause-err : goal.returns-in_err-push-clause-err
returns-in_err-push-clause-err c = on_err c.from_residual.result _ (numbers_same c.args.entries.now c.args.number c.args.self.now _ c.requires.numbers refl refl c.in_err-push.ensures.items)
