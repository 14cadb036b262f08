-- Whether bytes are a file, decided.
use Rattle.std.proofs.Common.{◌≡◌, ◌∙◌, ◌+◌, ℕ, ℤ, inl, inr, Bool, true, false, List, [], ◌∷◌, ◌++◌, length, get_or, Option, Some, None, ap, refl, subst, sym, arith}
use Rattle.std.specs.Prelude.{◌⊎◌, IsSomeAnd, bytes_eq, slice_get}
use Rattle.std.specs.Cmp.Lexicographic.{bytes_decides}
use Rattle.std.proofs.lemmas.Bool.{cases_Bool, cases_eq}
use Rattle.std.proofs.lemmas.Int.{ints, by_lt_z}
use Rattle.std.proofs.lemmas.List.{get_or_push, length_push}
use Rattle.zic_base.specs.Check.{first_failed}
use Rattle.zic_base.specs.State.{Shown}
use Rattle.zic_posix.specs.Footer.{TzString}
use Rattle.zic_posix.specs.Grammar.{IsTzString, Spells}
use Rattle.zic_posix.specs.Meaning.{Means}
use Rattle.zic_posix.specs.code.Reading.{string_of}
use Rattle.zic_posix.proofs.Meanings.{means_only, means_some}
use Rattle.zic_posix.proofs.StringLemmas.{limits_of, spells_one, string_again, string_takes}
use Rattle.zic_tzif.specs.Content.{Content, IsLastTransition, IsStateOfType, type_state}
use Rattle.zic_tzif.specs.declared.content.Change.{Change}
use Rattle.zic_tzif.specs.declared.content.LocalType.{LocalType}
use Rattle.zic_tzif.specs.declared.reason.Reason.{Reason}
use Rattle.zic_tzif.specs.Block.{footer_text}
use Rattle.zic_tzif.specs.Header.{footer_place}
use Rattle.zic_tzif.specs.Reading.{HasFooter, IsFile, checks, content_in}

-- a fact, or its contrary
abbrev pub IsDecided : Type 0 → Type 0
IsDecided P = P ⊎ (P → ⊥)

-- ---- states

decide_int : (a b : ℤ) → IsDecided (a ≡ b)
decide_int a b =
    by_lt_z {P = IsDecided (a ≡ b)} a b (λ less. inr (λ same. omega (arith, ints, less, same)))
    (λ not_less. by_lt_z {P = IsDecided (a ≡ b)} b a (λ more. inr (λ same. omega (arith, ints, more, same)))
    (λ not_more. inl (omega (arith, ints, not_less, not_more))))

decide_bool : (a b : Bool) → IsDecided (a ≡ b)
decide_bool true true = inl refl
decide_bool true false = inr (λ same. cc same)
decide_bool false true = inr (λ same. cc same)
decide_bool false false = inl refl

decide_bytes : (a b : List ℕ) → IsDecided (a ≡ b)
decide_bytes a b = elim (cases_Bool (bytes_eq a b)) [
  | inl same ↦ inl ((bytes_decides a b).0 same)
  | inr other ↦ inr (λ is. (let bad = sym ((bytes_decides a b).1 is) ∙ other in cc bad))
]

abbrev state_of : ℤ → Bool → List ℕ → Shown
state_of offset daylight name = record { offset = offset; daylight = daylight; name = name }

module _ (a b : Shown) where
  same_state : a.offset ≡ b.offset → a.daylight ≡ b.daylight → a.name ≡ b.name → a ≡ b
  same_state offset daylight name =
      ap (λ (z : ℤ). state_of z a.daylight a.name) offset ∙ ap (λ (x : Bool). state_of b.offset x a.name) daylight
      ∙ ap (λ (l : List ℕ). state_of b.offset b.daylight l) name

  all_parts : IsDecided (a.offset ≡ b.offset) → IsDecided (a.daylight ≡ b.daylight) → IsDecided (a.name ≡ b.name) → IsDecided (a ≡ b)
  all_parts (inl offset) (inl daylight) (inl name) = inl (same_state offset daylight name)
  all_parts (inr differs) daylight name = inr (λ same. differs (ap (λ (s : Shown). s.offset) same))
  all_parts (inl offset) (inr differs) name = inr (λ same. differs (ap (λ (s : Shown). s.daylight) same))
  all_parts (inl offset) (inl daylight) (inr differs) = inr (λ same. differs (ap (λ (s : Shown). s.name) same))

  decide_state : IsDecided (a ≡ b)
  decide_state = all_parts (decide_int a.offset b.offset) (decide_bool a.daylight b.daylight) (decide_bytes a.name b.name)

-- ---- the last transition

last_of : (xs : List Change) → (xs ≡ []) ⊎ ((c : Change) × (earlier : List Change) × (xs ≡ earlier ++ c ∷ []))
last_of [] = inl refl
last_of (x ∷ xs) = elim (last_of xs) [
  | inl none ↦ inr (x, [], ap (λ (l : List Change). x ∷ l) none)
  | inr some ↦ inr (some.0, x ∷ some.1, ap (λ (l : List Change). x ∷ l) some.2)
]

same_last : (xs ys : List Change) (x y : Change) → xs ++ x ∷ [] ≡ ys ++ y ∷ [] → x ≡ y
same_last xs ys x y same =
    let size = ap length same in
    let long : length xs ≡ length ys = omega (arith, size, length_push xs x, length_push ys y) in
    sym (get_or_push xs x x (length xs) refl)
    ∙ ap (λ (list : List Change). get_or list (length xs) x) same
    ∙ get_or_push ys y x (length xs) (sym long)

not_none : (xs : List Change) (x : Change) → [] ≡ xs ++ x ∷ [] → ⊥
not_none xs x same = let size = ap length same in omega (arith, size, length_push xs x)

-- ---- the footer

module _ (content : Content) where
  -- the string means the type that begins at the last transition
  abbrev Agrees : TzString → Type 0
  Agrees f = (c : Change) (state : Shown) → IsLastTransition content c → IsStateOfType content c.number state → Means f c.instant state

  abbrev IsStateIn : Shown → Option LocalType → Type 0
  IsStateIn state o = IsSomeAnd o (λ t. state ≡ type_state content.names t)

  module _ (f : TzString) (is : IsTzString f) where
    agrees_at : (c : Change) (earlier : List Change) → content.changes ≡ earlier ++ c ∷ [] → (o : Option LocalType) → slice_get content.types c.number ≡ o → IsDecided (Agrees f)
    agrees_at c earlier e None none = inl (λ d state last of.
        let same : c ≡ d = same_last earlier last.0 c d (sym e ∙ last.1) in
        let here : IsStateOfType content c.number state = subst (λ (x : Change). IsStateOfType content x.number state) (sym same) of in
        absurd (subst (IsStateIn state) none here))
    agrees_at c earlier e (Some t) some =
        let state = type_state content.names t in
        let means = means_some f is c.instant in
        elim (decide_state means.0 state) [
          | inl same ↦ inl (λ d other last of.
              let at : c ≡ d = same_last earlier last.0 c d (sym e ∙ last.1) in
              let here : IsStateOfType content c.number other = subst (λ (x : Change). IsStateOfType content x.number other) (sym at) of in
              let shows : other ≡ state = subst (IsStateIn other) some here in
              subst (λ (x : Change). Means f x.instant other) at (subst (λ (s : Shown). Means f c.instant s) (same ∙ sym shows) means.1))
          | inr differs ↦ inr (λ agrees.
              let of : IsStateOfType content c.number state = subst (IsStateIn state) (sym some) refl in
              differs (means_only f c.instant means.0 state means.1 (agrees c state (earlier, e) of)))
        ]

    decide_agrees : IsDecided (Agrees f)
    decide_agrees = elim (last_of content.changes) [
      | inl none ↦ inl (λ d state last of. absurd (not_none last.0 d (sym none ∙ last.1)))
      | inr some ↦ agrees_at some.0 some.1 some.2 (slice_get content.types some.0.number) refl
    ]

  by_agreement : (f : TzString) → (content.text ≡ [] → ⊥) → Spells content.version content.text f → IsDecided (Agrees f) → IsDecided (HasFooter content)
  by_agreement f some spells (inl agrees) = inl (inr (f, record { spells = spells; agrees = agrees }))
  by_agreement f some spells (inr not) = inr (λ has. elim has [
    | inl empty ↦ some empty
    | inr footer ↦ not (subst Agrees (spells_one content.version content.text footer.0 f footer.1.spells spells) footer.1.agrees)
  ])

  by_string : (content.text ≡ [] → ⊥) → (content.version ≡ 2) ⊎ (content.version ≡ 3) → (o : Option TzString) → string_of content.version content.text ≡ o → IsDecided (HasFooter content)
  by_string some known None none = inr (λ has. elim has [
    | inl empty ↦ some empty
    | inr footer ↦ (let bad = sym none ∙ string_again content.version content.text footer.0 footer.1.spells in cc bad)
  ])
  by_string some known (Some f) is =
      let spells = string_takes content.version content.text f known is in
      by_agreement f some spells (decide_agrees f (limits_of content.version content.text f spells))

  no_version : (content.text ≡ [] → ⊥) → (content.version ≡ 2 → ⊥) → (content.version ≡ 3 → ⊥) → HasFooter content → ⊥
  no_version some not_two not_three (inl empty) = some empty
  no_version some not_two not_three (inr footer) = elim footer.1.spells.known [ inl two ↦ not_two two | inr three ↦ not_three three ]

  by_version : (content.text ≡ [] → ⊥) → IsDecided (content.version ≡ 2) → IsDecided (content.version ≡ 3) → IsDecided (HasFooter content)
  by_version some (inl two) three = by_string some (inl two) (string_of content.version content.text) refl
  by_version some (inr not_two) (inl three) = by_string some (inr three) (string_of content.version content.text) refl
  by_version some (inr not_two) (inr not_three) = inr (no_version some not_two not_three)

  by_text : (text : List ℕ) → content.text ≡ text → IsDecided (HasFooter content)
  by_text [] e = inl (inl e)
  by_text (b ∷ bytes) e = by_version (λ empty. (let bad = sym e ∙ empty in cc bad)) (cases_eq content.version 2) (cases_eq content.version 3)

  decide_footer : IsDecided (HasFooter content)
  decide_footer = by_text content.text refl

-- ---- the file

module _ (octets : List ℕ) where
  abbrev pub IsRead : Type 0
  IsRead = IsFile octets (content_in octets)

  by_rest : first_failed (checks octets) ≡ None → IsDecided (length octets ≡ footer_place octets + length (footer_text octets) + 2) → IsDecided (HasFooter (content_in octets))
      → IsDecided IsRead
  by_rest passes (inl whole) (inl footer) = inl (record { passes = passes; footer = footer; whole = whole; says = refl })
  by_rest passes (inr not) footer = inr (λ file. not file.whole)
  by_rest passes (inl whole) (inr not) = inr (λ file. not file.footer)

  by_checks : (o : Option Reason) → first_failed (checks octets) ≡ o → IsDecided IsRead
  by_checks (Some reason) e = inr (λ file. (let bad = sym file.passes ∙ e in cc bad))
  by_checks None e = by_rest e (cases_eq (length octets) (footer_place octets + length (footer_text octets) + 2)) (decide_footer (content_in octets))

  pub decide_file : IsDecided IsRead
  decide_file = by_checks (first_failed (checks octets)) refl
