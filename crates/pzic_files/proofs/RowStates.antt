-- Local time of a row.
use Rattle.std.proofs.Common.{◌≡◌, ℕ, ◌<◌, ◌≤◌, ℤ, List, length, true, slice_get, IfSome, sym, subst}
use Rattle.std.proofs.lemmas.Bool.{and_parts, leb-true}
use Rattle.std.specs.List.{list_all}
use Rattle.std.specs.Prelude.{◌&&◌, nat_le, IsSomeAnd}
use Rattle.zic_base.proofs.Elements.{got}
use Rattle.zic_base.specs.Byte.{is_abbreviation_byte}
use Rattle.zic_base.specs.State.{Shown}
use Rattle.zic_files.specs.File.{File}
use Rattle.zic_tzif.specs.Answer.{Gives}
use Rattle.zic_tzif.specs.Content.{Content}
use Rattle.zic_lines.specs.Limits.{is_abbreviation}

-- what the content of a file gives is what the file gives
pub given-by : (files : List File) (i : ℕ) (content : Content) (t : ℤ) (state : Shown) → i < length files → IfSome (slice_get files i) (λ file. content ≡ file.image.content)
    → Gives content t state → IsSomeAnd (slice_get files i) (λ file. Gives file.image.content t state)
given-by files i content t state inside same gives =
    let (file, at) = got files i inside in
    let is_same : content ≡ file.image.content = subst (λ o. IfSome o (λ (f : File). content ≡ f.image.content)) at same in
    subst (λ o. IsSomeAnd o (λ (f : File). Gives f.image.content t state)) (sym at) (subst (λ (c : Content). Gives c t state) is_same gives)

-- an abbreviation has at most 16 bytes
pub is-short : (name : List ℕ) → is_abbreviation name ≡ true → length name ≤ 16
is-short name is =
    let (lengths, bytes) = and_parts (nat_le 3 (length name) && nat_le (length name) 16) (list_all is_abbreviation_byte name) is in
    let (long, short) = and_parts (nat_le 3 (length name)) (nat_le (length name) 16) lengths in
    leb-true (length name) 16 short
