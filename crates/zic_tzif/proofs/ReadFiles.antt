-- Whole files: the first failing check of all groups, and what a file that passes says.
use Rattle.std.proofs.Common.{◌≡◌, ◌≢◌, ℕ, ◌+◌, ◌<◌, ◌≤◌, ℤ, List, [], ◌∷◌, ◌++◌, length, map, Option, Some, None, All, ◌⊎◌, inl, inr, refl, sym, ap, subst, ◌∙◌}
use Rattle.std.specs.Prelude.{MatchOption, Result, Ok, Err, IfSome, IfNone, nat_lt, nat_le}
use Rattle.std.specs.List.{list_all}
use Rattle.std.proofs.lemmas.List.{length-map}
use Rattle.zic_base.specs.Check.{Check, check, first_failed}
use Rattle.zic_base.specs.Memory.{IfRefusal, NeverRefuses}
use Rattle.zic_base.proofs.Checks.{each_passes, first_failed-append, first_failed-stops}
use Rattle.zic_posix.specs.Footer.{TzString}
use Rattle.zic_posix.specs.Parsing.{NeedsMemory}
use Rattle.zic_tzif.specs.declared.content.Change.{Change}
use Rattle.zic_tzif.specs.Content.{Content, IsFooter}
use Rattle.zic_tzif.specs.Designation.{is_designated}
use Rattle.zic_tzif.specs.declared.data_block.DataBlock.{DataBlock}
use Rattle.zic_tzif.specs.declared.reader.Parts.{Parts}
use Rattle.zic_tzif.specs.declared.zone.Zone.{Zone}
use Rattle.zic_tzif.specs.declared.reason.ReadStop.{ReadStop}
use Rattle.zic_tzif.specs.declared.reason.Reason.{Reason}
use Rattle.zic_tzif.specs.declared.reason.Reason.TheVariants as reason
use Rattle.zic_tzif.specs.Header.{second_counts, footer_place}
use Rattle.zic_tzif.specs.Block.{type_in, times_in, do_rise, numbers_in, changes_at, type_records, names_in, is_type_record, footer_text}
use Rattle.zic_tzif.specs.Reading.{first_checks, second_checks, block_checks, footer_checks, checks, content_in, HasFooter, EndsAfterFooter, IsFile, IsSomeFile, IsFault, ReadNeedsMemory, reason_of}
use Rattle.zic_tzif.specs.code.StoredContent.{IsSoundContent}
use Rattle.zic_tzif.specs.code.Parts.{HasParts, AreParts, times_of, records_of, checks_of, content_of}
use Rattle.zic_tzif.proofs.Passed.{pieces_length}
use Rattle.zic_tzif.proofs.ReadContent.{types_read}
use Rattle.zic_tzif.proofs.Transitions.{changes_rise, changes_have_types}

-- no check of the groups up to each fails
pub two_pass : (o : List ℕ) → first_failed (first_checks o) ≡ None → first_failed (second_checks o) ≡ None → first_failed (first_checks o ++ second_checks o) ≡ None
two_pass o e1 e2 = first_failed-append (first_checks o) (second_checks o) e1 ∙ e2

pub three_pass : (o : List ℕ) → first_failed (first_checks o) ≡ None → first_failed (second_checks o) ≡ None → first_failed (block_checks o) ≡ None → first_failed (first_checks o ++ second_checks o ++ block_checks o) ≡ None
three_pass o e1 e2 e3 = first_failed-append (first_checks o ++ second_checks o) (block_checks o) (two_pass o e1 e2) ∙ e3

pub all_pass : (o : List ℕ) → first_failed (first_checks o) ≡ None → first_failed (second_checks o) ≡ None → first_failed (block_checks o) ≡ None → first_failed (footer_checks o) ≡ None → first_failed (checks o) ≡ None
all_pass o e1 e2 e3 e4 = first_failed-append (first_checks o ++ second_checks o ++ block_checks o) (footer_checks o) (three_pass o e1 e2 e3) ∙ e4

at_some : (x : Option Reason) (r : Reason) (A : Type 0) → x ≡ Some r → MatchOption x A (λ first. r ≡ first)
at_some None r A e = absurd cc
at_some (Some first) r A e = cc

at_none : (x : Option Reason) (A : Type 0) (B : Reason → Type 0) → x ≡ None → A → MatchOption x A B
at_none None A B e a = a
at_none (Some first) A B e a = absurd cc

-- a failing check is the fault
pub fault : (o : List ℕ) (r : Reason) → first_failed (checks o) ≡ Some r → IsFault o r
fault o r e = at_some (first_failed (checks o)) r _ e

-- the first check that fails, by its group
pub fails_first : (o : List ℕ) (r : Reason) → first_failed (first_checks o) ≡ Some r → first_failed (checks o) ≡ Some r
fails_first o r e =
    first_failed-stops (first_checks o ++ second_checks o ++ block_checks o) (footer_checks o) r (first_failed-stops (first_checks o ++ second_checks o) (block_checks o) r (first_failed-stops (first_checks o) (second_checks o) r e))

pub fails_second : (o : List ℕ) (r : Reason) → first_failed (first_checks o) ≡ None → first_failed (second_checks o) ≡ Some r → first_failed (checks o) ≡ Some r
fails_second o r e1 e =
    let two = first_failed-append (first_checks o) (second_checks o) e1 ∙ e in
    first_failed-stops (first_checks o ++ second_checks o ++ block_checks o) (footer_checks o) r (first_failed-stops (first_checks o ++ second_checks o) (block_checks o) r two)

pub fails_third : (o : List ℕ) (r : Reason) → first_failed (first_checks o) ≡ None → first_failed (second_checks o) ≡ None → first_failed (block_checks o) ≡ Some r → first_failed (checks o) ≡ Some r
fails_third o r e1 e2 e =
    let three = first_failed-append (first_checks o ++ second_checks o) (block_checks o) (two_pass o e1 e2) ∙ e in
    first_failed-stops (first_checks o ++ second_checks o ++ block_checks o) (footer_checks o) r three

pub fails_footer : (o : List ℕ) (r : Reason) → first_failed (first_checks o) ≡ None → first_failed (second_checks o) ≡ None → first_failed (block_checks o) ≡ None → first_failed (footer_checks o) ≡ Some r → first_failed (checks o) ≡ Some r
fails_footer o r e1 e2 e3 e =
    first_failed-append (first_checks o ++ second_checks o ++ block_checks o) (footer_checks o) (three_pass o e1 e2 e3) ∙ e

-- after those checks
fails_later : (o : List ℕ) (r : Reason) → first_failed (checks o) ≡ None
    → ((r ≡ reason.Footer) × (HasFooter (content_in o) → ⊥)) ⊎ ((r ≡ reason.TrailingBytes) × HasFooter (content_in o) × (EndsAfterFooter o → ⊥)) → IsFault o r
fails_later o r e why = at_none (first_failed (checks o)) _ _ e why

-- the checks of a block that has the parts
block_of : List ℤ → List ℕ → ℕ → List (List ℕ) → List ℕ → List ℕ → List (Check Reason)
block_of times numbers types records names indicators =
    check (do_rise times) reason.TimesNotRising
    ∷ check (list_all (λ number. nat_lt number types) numbers) reason.TypeIndex
    ∷ check (list_all (λ r. is_designated names (type_in r).place) records) reason.Designation
    ∷ check (list_all is_type_record records) reason.TypeRecord
    ∷ check (list_all (λ b. nat_le b 1) indicators) reason.Indicators
    ∷ []

pub block_same : (o : List ℕ) (b : DataBlock) → HasParts o b → checks_of b ≡ block_checks o
unfolding block_of
block_same o b parts =
    ap (λ (times : List ℤ). block_of times b.numbers.now b.types (records_of b) b.names.now b.indicators.now) parts.times
    ∙ ap (λ (numbers : List ℕ). block_of (times_in o) numbers b.types (records_of b) b.names.now b.indicators.now) parts.numbers
    ∙ ap (λ (types : ℕ). block_of (times_in o) (numbers_in o) types (records_of b) b.names.now b.indicators.now) parts.types
    ∙ ap (λ (records : List (List ℕ)). block_of (times_in o) (numbers_in o) (second_counts o).types records b.names.now b.indicators.now) parts.records
    ∙ ap (λ (names : List ℕ). block_of (times_in o) (numbers_in o) (second_counts o).types (type_records o) names b.indicators.now) parts.names
    ∙ ap (block_of (times_in o) (numbers_in o) (second_counts o).types (type_records o) (names_in o)) parts.indicators

-- what the parts say, the bytes do
pub content_is : (o : List ℕ) (p : Parts) → AreParts o p → content_of p ≡ content_in o
content_is o p parts =
    let said : ℕ → List ℤ → List ℕ → List (List ℕ) → List ℕ → List ℕ → Content = λ version times numbers records names text. record { version = version; changes = changes_at times numbers; types = map type_in records; names = names; text = text } in
    let b = p.block in
    let has = parts.block.0 in
    ap (λ (v : ℕ). said v (times_of b) b.numbers.now (records_of b) b.names.now p.text.now) parts.version
    ∙ ap (λ (times : List ℤ). said (content_in o).version times b.numbers.now (records_of b) b.names.now p.text.now) has.times
    ∙ ap (λ (numbers : List ℕ). said (content_in o).version (times_in o) numbers (records_of b) b.names.now p.text.now) has.numbers
    ∙ ap (λ (records : List (List ℕ)). said (content_in o).version (times_in o) (numbers_in o) records b.names.now p.text.now) has.records
    ∙ ap (λ (names : List ℕ). said (content_in o).version (times_in o) (numbers_in o) (type_records o) names p.text.now) has.names
    ∙ ap (said (content_in o).version (times_in o) (numbers_in o) (type_records o) (names_in o)) parts.text.is

-- a footer that the text doesn't have is the fault
pub footer_fault : (o : List ℕ) (p : Parts) (r : Option Reason) → first_failed (checks o) ≡ None → AreParts o p → IfSome r (λ r. (r ≡ reason.Footer) × (HasFooter (content_of p) → ⊥)) → IfSome r (IsFault o)
footer_fault o p None passes parts none = tt
footer_fault o p (Some r) passes parts none =
    fails_later o r passes (inl (none.0, λ has. none.1 (subst HasFooter (sym (content_is o p parts)) has)))

-- memory may be wanting with a long name
pub footer_memory : (o : List ℕ) (p : Parts) (r : Option Reason) → first_failed (checks o) ≡ None → AreParts o p → IfNone r (NeedsMemory p.version p.text.now) → IfNone r (ReadNeedsMemory o)
footer_memory o p (Some r) passes parts needs = tt
footer_memory o p None passes parts needs =
    inr (passes, subst (λ (content : Content). NeedsMemory content.version content.text) (content_is o p parts) needs)

-- where the text ends, and the newline after it
end_of : (o : List ℕ) (p : Parts) → AreParts o p → p.block.end + length p.text.now + 2 ≡ footer_place o + length (footer_text o) + 2
end_of o p parts =
    ap (λ n. n + length p.text.now + 2) parts.block.0.end ∙ ap (λ (t : List ℕ). footer_place o + length t + 2) parts.text.is

-- a footer is read for the text, or none for no text
abbrev pub IsReadFooter : Content → Option TzString → Type 0
IsReadFooter content footer = MatchOption footer (content.text ≡ []) (IsFooter content)

has_footer : (content : Content) (footer : Option TzString) → IsReadFooter content footer → HasFooter content
has_footer content None is = inl is
has_footer content (Some f) is = inr (f, is)

pub trails : (o : List ℕ) (p : Parts) (footer : Option TzString) → first_failed (checks o) ≡ None → AreParts o p → IsReadFooter (content_of p) footer → (length o ≢ p.block.end + length p.text.now + 2) → IsFault o reason.TrailingBytes
trails o p footer passes parts is longer =
    fails_later o reason.TrailingBytes passes (inr (refl, subst HasFooter (content_is o p parts) (has_footer (content_of p) footer is), λ whole. longer (whole ∙ sym (end_of o p parts))))

-- what passes all of this is a file
pub is_file : (o : List ℕ) (p : Parts) (footer : Option TzString) → first_failed (checks o) ≡ None → AreParts o p → IsReadFooter (content_of p) footer → length o ≡ p.block.end + length p.text.now + 2 → IsFile o (content_of p)
is_file o p footer passes parts is whole = record {
  passes = passes;
  footer = has_footer (content_of p) footer is;
  whole = whole ∙ end_of o p parts;
  says = content_is o p parts;
}

-- what is kept of it
pub sound_content : (o : List ℕ) (p : Parts) (footer : Option TzString) → AreParts o p → IsReadFooter (content_of p) footer → IsSoundContent (content_of p) footer
sound_content o p footer parts is =
    let b = p.block in
    let each = each_passes (checks_of b) parts.passes in
    let number : length (map type_in (records_of b)) ≡ b.types = length-map (records_of b) type_in ∙ pieces_length 6 b.types b.records.now in
    record {
      rising = changes_rise (times_of b) b.numbers.now each.0;
      have_types = subst (λ n. All (λ (c : Change). c.number < n) (content_of p).changes) (sym number) (changes_have_types b.types (times_of b) b.numbers.now each.1.0);
      some_type = subst (λ n. 1 ≤ n) (sym number) parts.block.1;
      types = types_read b.names.now (records_of b) each.1.1.0 each.1.1.1.0;
      footer_is = is;
    }

-- the laws
no_fault : (x : Option Reason) (A : Type 0) (r : Reason) → x ≡ None → MatchOption x A (λ first. r ≡ first) → A
no_fault None A r e h = h
no_fault (Some first) A r e h = absurd cc

pub file_has_no_fault : (o : List ℕ) (content : Content) (r : Reason) → IsFile o content → IsFault o r → ⊥
file_has_no_fault o content r file h =
    let known = subst HasFooter file.says file.footer in
    elim (no_fault (first_failed (checks o)) _ r file.passes h) [ inl bad ↦ bad.1 known | inr trailing ↦ trailing.2 file.whole ]

abbrev Later : Type 0 → Type 0 → Reason → Type 0
Later Known Whole r = ((r ≡ reason.Footer) × (Known → ⊥)) ⊎ ((r ≡ reason.TrailingBytes) × Known × (Whole → ⊥))

one_later : (Known Whole : Type 0) (a b : Reason) → Later Known Whole a → Later Known Whole b → a ≡ b
one_later Known Whole a b h k =
    elim h [
      | inl bad ↦ elim k [ inl bad' ↦ bad.0 ∙ sym bad'.0 | inr trailing' ↦ absurd (bad.1 trailing'.1) ]
      | inr trailing ↦ elim k [ inl bad' ↦ absurd (bad'.1 trailing.1) | inr trailing' ↦ trailing.0 ∙ sym trailing'.0 ]
    ]

one_reason : (x : Option Reason) (Known Whole : Type 0) (a b : Reason) → MatchOption x (Later Known Whole a) (λ first. a ≡ first) → MatchOption x (Later Known Whole b) (λ first. b ≡ first) → a ≡ b
one_reason None Known Whole a b h k = one_later Known Whole a b h k
one_reason (Some first) Known Whole a b h k = h ∙ sym k

pub fault_is_one : (o : List ℕ) (a b : Reason) → IsFault o a → IsFault o b → a ≡ b
fault_is_one o a b h k = one_reason (first_failed (checks o)) (HasFooter (content_in o)) (EndsAfterFooter o) a b h k

no_reason : (o : List ℕ) (r : Option Reason) → IfSome r (IsFault o) → IsSomeFile o → IfSome r (λ _. ⊥)
no_reason o None err file = tt
no_reason o (Some r) err file = file_has_no_fault o file.0 r file.1 err

-- what is refused is no file
pub never : (o : List ℕ) (result : Result Zone ReadStop) → IfRefusal reason_of result (IsFault o) → IsSomeFile o → NeverRefuses reason_of result
never o (Ok zone) err file = tt
never o (Err stop) err file = no_reason o (reason_of stop) err file
