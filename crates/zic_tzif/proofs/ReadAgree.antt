-- Whether a footer agrees with the last transition.
use Rattle.std.proofs.Common.{◌≡◌, ℕ, suc, ◌-◌, ◌<◌, ◌≤◌, Bool, List, [], ◌∷◌, ◌++◌, length, length-append, map, slice_get, Option, Some, None, All, Decides, refl, sym, ap, subst, ◌∙◌, arith}
use Rattle.std.specs.Prelude.{IsSomeAnd}
use Rattle.std.proofs.lemmas.List.{length-map}
use Rattle.std.proofs.lemmas.Option.{slice_get_within, get_or_from_slice_get}
use Rattle.zic_base.specs.Check.{first_failed}
use Rattle.zic_base.specs.State.{Shown}
use Rattle.zic_base.proofs.Checks.{each_passes}
use Rattle.zic_posix.specs.Footer.{TzString}
use Rattle.zic_posix.specs.Laws.{MeansOneState}
use Rattle.zic_posix.specs.Meaning.{Means}
use Rattle.zic_tzif.specs.declared.content.Change.{Change}
use Rattle.zic_tzif.specs.declared.content.LocalType.{LocalType}
use Rattle.zic_tzif.specs.Content.{Content, IsLocalType, type_state}
use Rattle.zic_tzif.specs.declared.data_block.DataBlock.{DataBlock}
use Rattle.zic_tzif.specs.Block.{pieces, time_in, type_in, changes_at}
use Rattle.zic_tzif.specs.code.Parts.{DoesAgree, times_of, records_of, checks_of}
use Rattle.zic_tzif.proofs.Passed.{pieces_length}
use Rattle.zic_tzif.proofs.ReadContent.{types_read, place_inside}
use Rattle.zic_tzif.proofs.Transitions.{changes_length, changes_have_types}

-- an element found by its number has what all have
pub found : {X : Type 0} (P : X → Type 0) (xs : List X) (k : ℕ) (x : X) → All P xs → slice_get xs k ≡ Some x → P x
found P xs k x all e = subst P (get_or_from_slice_get xs k x x e) (all k x (slice_get_within xs k x e))

-- the last, by its number and by what stands before it
one_before : (x c : Change) (xs : List Change) → (earlier : List Change) × (xs ≡ earlier ++ c ∷ []) → (earlier : List Change) × (x ∷ xs ≡ earlier ++ c ∷ [])
one_before x c xs others = (x ∷ others.0, ap (λ (zs : List Change). x ∷ zs) others.1)

is_last_byte : (xs : List Change) (c : Change) → slice_get xs (length xs - 1) ≡ Some c → (earlier : List Change) × (xs ≡ earlier ++ c ∷ [])
is_last_byte [] c e = absurd cc
is_last_byte (x ∷ []) c e = let same : x ≡ c = cc in ([], ap (λ (y : Change). y ∷ []) same)
is_last_byte (x ∷ y ∷ ys) c e =
    let shift : length (x ∷ y ∷ ys) - 1 ≡ suc (length (y ∷ ys) - 1) = omega arith in
    one_before x c (y ∷ ys) (is_last_byte (y ∷ ys) c (sym (ap (slice_get (x ∷ y ∷ ys)) shift) ∙ e))

has_last : (earlier : List Change) (c : Change) → slice_get (earlier ++ c ∷ []) (length (earlier ++ c ∷ []) - 1) ≡ Some c
has_last [] c = refl
has_last (x ∷ xs) c =
    let some = length-append xs (c ∷ []) in
    let shift : length (x ∷ (xs ++ c ∷ [])) - 1 ≡ suc (length (xs ++ c ∷ []) - 1) = omega arith in
    ap (slice_get (x ∷ (xs ++ c ∷ []))) shift ∙ has_last xs c

-- a footer agrees where its state at the last transition is that of the type, and there only
pub agrees_by : (content : Content) (f : TzString) (c : Change) (t : LocalType) (state : Shown) (same : Bool) → slice_get content.changes (length content.changes - 1) ≡ Some c → slice_get content.types c.number ≡ Some t → Means f c.instant state → MeansOneState → Decides same (state ≡ type_state content.names t) → Decides same (DoesAgree content f)
agrees_by content f c t state same last type means law decides =
    let agrees : state ≡ type_state content.names t → DoesAgree content f = λ one d other is_last is_other.
    let found : Some d ≡ Some c = sym (has_last is_last.0 d) ∙ ap (λ (cs : List Change). slice_get cs (length cs - 1)) (sym is_last.1) ∙ last in
    let is : d ≡ c = cc in
    let there = subst (λ (e : Change). IsSomeAnd (slice_get content.types e.number) (λ u. other ≡ type_state content.names u)) is is_other in
    let shows : other ≡ type_state content.names t = rw type at there in
    subst (λ (e : Change). Means f e.instant other) (sym is) (subst (λ (s : Shown). Means f c.instant s) (one ∙ sym shows) means) in
    let shows : DoesAgree content f → state ≡ type_state content.names t = λ agree.
    let is : IsSomeAnd (slice_get content.types c.number) (λ u. type_state content.names t ≡ type_state content.names u) = rw type refl in
    law.only f c.instant state (type_state content.names t) means (agree c (type_state content.names t) (is_last_byte content.changes c last) is) in
    (λ yes. agrees (decides.0 yes), λ agree. decides.1 (shows agree))

-- with no transition it agrees
pub agrees_with_none : (content : Content) (f : TzString) → slice_get content.changes (length content.changes - 1) ≡ None → DoesAgree content f
agrees_with_none content f none c state is_last is =
    let found : Some c ≡ None = sym (has_last is_last.0 c) ∙ ap (λ (cs : List Change). slice_get cs (length cs - 1)) (sym is_last.1) ∙ none in
    absurd cc

-- ---- the last transition of a block

pub last_of : (b : DataBlock) (found : Option Change) → length b.numbers.now ≡ b.transitions → found ≡ slice_get (changes_at (map time_in (pieces 8 (length b.numbers.now) b.times.now)) b.numbers.now) (length b.numbers.now - 1) → slice_get (changes_at (times_of b) b.numbers.now) (length (changes_at (times_of b) b.numbers.now) - 1) ≡ found
last_of b found number is =
    let times : length (times_of b) ≡ length b.numbers.now = length-map (pieces 8 b.transitions b.times.now) time_in ∙ pieces_length 8 b.transitions b.times.now ∙ sym number in
    let changes = changes_at (times_of b) b.numbers.now in
    ap (λ n. slice_get changes (n - 1)) (changes_length (times_of b) b.numbers.now times ∙ times)
    ∙ ap (λ n. slice_get (changes_at (map time_in (pieces 8 n b.times.now)) b.numbers.now) (length b.numbers.now - 1)) (sym number)
    ∙ sym is

-- the number of a transition is that of a type, and the place of a type is inside the designations
pub number_below : (b : DataBlock) (k : ℕ) (c : Change) → first_failed (checks_of b) ≡ None → slice_get (changes_at (times_of b) b.numbers.now) k ≡ Some c → c.number < b.types
number_below b k c passes is =
    let each = each_passes (checks_of b) passes in
    found (λ (c : Change). c.number < b.types) (changes_at (times_of b) b.numbers.now) k c (changes_have_types b.types (times_of b) b.numbers.now each.1.0) is

pub place_below : (b : DataBlock) (k : ℕ) (t : LocalType) → first_failed (checks_of b) ≡ None → slice_get (map type_in (records_of b)) k ≡ Some t → t.place ≤ length b.names.now
place_below b k t passes is =
    let each = each_passes (checks_of b) passes in
    let right = found (IsLocalType b.names.now) (map type_in (records_of b)) k t (types_read b.names.now (records_of b) each.1.1.0 each.1.1.1.0) is in
    let inside = place_inside b.names.now t.place right.designation in
    omega arith
