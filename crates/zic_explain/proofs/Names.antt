-- The names of entries, one entry after another.
use Rattle.std.proofs.Common.{◌≡◌, ◌≢◌, ◌<◌, ◌≤◌, ◌+◌, ◌∙◌, ℕ, List, false, take, length, get_or, sym, subst}
use Rattle.std.specs.Prelude.{bytes_eq}
use Rattle.std.proofs.lemmas.List.{take_all}
use Rattle.std.proofs.lemmas.List.Elements.{All-more}
use Rattle.std.proofs.lemmas.Slice.Eq.{bytes_eq-Decides}
use Rattle.std.proofs.lemmas.Bool.{true≢false}
use Rattle.zic_explain.specs.declared.entry.Entry.{Entry}
use Rattle.zic_explain.specs.Explanation.{HasNoName}

-- one more entry has another name
pub without_one_more : (entries : List Entry) (name : List ℕ) (i : ℕ) (d : Entry) → i < length entries
    → bytes_eq (get_or entries i d).name.now name ≡ false → HasNoName (take i entries) name
    → HasNoName (take (i + 1) entries) name
without_one_more entries name i d below other before =
    All-more (λ entry. entry.name.now ≢ name) entries i d below before
    (λ same. true≢false (sym ((bytes_eq-Decides (get_or entries i d).name.now name).1 same) ∙ other))

-- all entries were gone over
pub without_all : (entries : List Entry) (name : List ℕ) (i : ℕ) → length entries ≤ i
    → HasNoName (take i entries) name → HasNoName entries name
without_all entries name i end before =
    subst (λ (xs : List Entry). HasNoName xs name) (take_all i entries end) before
