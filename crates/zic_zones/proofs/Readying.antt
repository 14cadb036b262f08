-- What is made ready of files.
use Rattle.std.proofs.Common.{◌≡◌, ◌∙◌, ◌<◌, ◌++◌, ℕ, zero, suc, List, [], ◌∷◌, length, Option, Some, None, inl, inr, ap, refl, subst, sym, length-append, arith}
use Rattle.std.specs.Prelude.{ℤ, pos, ◌+ℤ◌, ◌-ℤ◌, ◌+◌, IfSome, is_some, slice_get, slice_index_or, unsigned_abs}
use Rattle.std.proofs.Math.Dec.{ltb}
use Rattle.std.proofs.lemmas.Bool.{ltb-true}
use Rattle.std.proofs.lemmas.Int.{ints}
use Rattle.std.proofs.lemmas.Option.{same_Some, slice_get_read, slice_get_within}
use Rattle.zic_base.proofs.Elements.{got}
use Rattle.zic_base.proofs.Options.{if_at, some_of}
use Rattle.zic_base.specs.State.{Shown}
use Rattle.zic_files.specs.File.{File, FileImage}
use Rattle.zic_files.specs.Sound.{IsAlwaysKnown}
use Rattle.zic_local.specs.Index.{IsIndexOf}
use Rattle.zic_local.specs.LocalTime.{HaveOffsets}
use Rattle.zic_local.specs.declared.local_index.LocalIndex.{LocalIndex}
use Rattle.zic_zones.proofs.Slots.{got_more}
use Rattle.zic_zones.specs.Places.{IsPlaceOf, base_of, start_of}
use Rattle.zic_zones.specs.Slots.{number_at}
use Rattle.zic_zones.specs.declared.slot.TheConstants.{SLOT_SECONDS}
use Rattle.zic_zones.specs.declared.slot.Place.{Place}
use Rattle.zic_zones.specs.declared.slot.Slot.{Slot}
use Rattle.zic_tzif.specs.Content.{Content}
use Rattle.zic_zones.proofs.Held.{names_still}
use Rattle.zic_zones.proofs.Slotted.{table_still}
use Rattle.zic_zones.proofs.Keeping.{keeps_same, numbers_still}
use Rattle.zic_zones.specs.code.Ready.{AnswersState, AreReady, HasIndex, IsReadyZone, IsTextOf}
use Rattle.zic_zones.specs.code.NameKeys.{AreNamesOf}
use Rattle.zic_zones.specs.code.Near.{AnswersNear, IsNumberNear}
use Rattle.zic_zones.specs.code.Tables.{HasTexts}
use Rattle.zic_zones.specs.States.{HasState}
use Rattle.zic_zones.specs.Zones.{AnswersAt}
use Rattle.zic_zones.specs.code.Numbered.{IsValue, Keeps}
use Rattle.zic_zones.specs.declared.ready.Ready.{Ready}
use Rattle.zic_zones.specs.declared.ready.ReadyZone.{ReadyZone}

got_before : {X : Type 0} (xs ys : List X) (i : ℕ) (x : X) → i < length xs → slice_get (xs ++ ys) i ≡ Some x → slice_get xs i ≡ Some x
got_before [] ys i x lt e = absurd (omega (arith, lt))
got_before (z ∷ xs) ys zero x lt e = e
got_before (z ∷ xs) ys (suc i) x lt e = got_before xs ys i x (omega (arith, lt)) e

-- what follows for each value follows for whatever is there
pub if_some_then : {X : Type 0} (o : Option X) {P Q : X → Type 0} → IfSome o P → ((x : X) → P x → Q x) → IfSome o Q
if_some_then None holds then = tt
if_some_then (Some x) holds then = then x holds

-- what follows for the item of a number follows for what was found
pub found_then : {A X : Type 0} (now : A → X) (xs : List X) (i : ℕ) (o : Option A) (P : X → Type 0) → is_some o ≡ ltb i (length xs) → IfSome o (λ a. now a ≡ slice_index_or xs i (now a))
    → ((x : X) → slice_get xs i ≡ Some x → P x) → IfSome o (λ a. P (now a))
found_then now xs i None P some is then = tt
found_then now xs i (Some a) P some is then = then (now a) (slice_get_read xs (length xs) i (now a) refl (ltb-true i (length xs) (sym some)) is)

-- UT offsets within 24:00:00 are near
pub near_known : (content : Content) → IsAlwaysKnown content → HaveOffsets content
near_known content known t offset at = let within = (known t (Some at.state) at.answers).offset in let is = at.is in omega (arith, ints, within, is)

got_pushed : {X : Type 0} (xs : List X) (x : X) → slice_get (xs ++ x ∷ []) (length xs) ≡ Some x
got_pushed [] x = refl
got_pushed (y ∷ xs) x = got_pushed xs x

-- an index that is added has the next number
pub index_pushed : (files : List File) (file : ℕ) (content : Content) (old new : List LocalIndex) (index : LocalIndex) (number : ℕ) → new ≡ old ++ index ∷ [] → number ≡ length old → IsIndexOf content index
    → IfSome (slice_get files file) (λ f. content ≡ f.image.content) → IfSome (slice_get files file) (λ f. HasIndex f.image.content new number)
index_pushed files file content old new index number pushed count is at =
    if_some_then (slice_get files file) at (λ f same. rw (pushed, count, got_pushed old index) (subst (λ (c : Content). IsIndexOf c index) same is))

-- and it is that of the zone
pub index_of_zone : (files : List File) (file : ℕ) (content : Content) (indexes : List LocalIndex) (index : Option ℕ) → file < length files
    → IfSome index (λ number. IfSome (slice_get files file) (λ f. HasIndex f.image.content indexes number)) → IfSome (slice_get files file) (λ f. content ≡ f.image.content)
    → IfSome index (HasIndex content indexes)
index_of_zone files file content indexes index within has is =
    let (f, at) = got files file within in
    let same = if_at (slice_get files file) (λ (g : File). content ≡ g.image.content) f is at in
    if_some_then index has (λ number of. subst (λ (c : Content). HasIndex c indexes number) (sym same) (if_at (slice_get files file) (λ (g : File). HasIndex g.image.content indexes number) f of at))

-- what stays keeps its numbers
pub keeps_is : {X : Type 0} (old new : List X) → new ≡ old → Keeps old new
keeps_is old new same = subst (Keeps old) (sym same) (keeps_same old)

-- an index keeps its number
pub index_still : (content : Content) (old new : List LocalIndex) → Keeps old new → (number : Option ℕ) → IfSome number (HasIndex content old) → IfSome number (HasIndex content new)
index_still content old new keeps None has = tt
index_still content old new keeps (Some n) has =
    let (index, at, is) = some_of (slice_get old n) (IsIndexOf content) has in
    rw (keeps.still n index at) is

zone_still : (content : Content) (old new : Ready) (zone : ReadyZone) → Keeps old.texts new.texts → Keeps old.tables new.tables → Keeps old.indexes.items new.indexes.items
    → IsReadyZone content old.texts old.tables old.indexes.items zone → IsReadyZone content new.texts new.tables new.indexes.items zone
zone_still content old new zone texts tables indexes is = record {
  numbers = numbers_still content old.texts new.texts zone.numbers.items texts is.numbers;
  tables = λ era start at. table_still old.texts new.texts old.tables new.tables (AnswersState content) (base_of era) start texts tables (is.tables era start at);
  index = index_still content old.indexes.items new.indexes.items indexes zone.index is.index;
}

-- files that follow aren't ready
pub files_added : (files more : List File) (ready : Ready) → AreReady files ready → AreReady (files ++ more) ready
files_added files more ready are = record {
  names = names_still files ready.names are.names more;
  few = let few = are.few in omega (arith, few, length-append files more);
  each = λ i file zone at ready_at.
      let few = are.few in
      let lt = slice_get_within ready.zones.items i zone ready_at in
      let within : i < length files = omega (arith, few, lt) in
      are.each i file zone (got_before files more i file within at) ready_at;
}

-- the files stay ready as texts, tables and indexes are added
pub ready_as_more : (files : List File) (old new : Ready) → new.names ≡ old.names → new.zones.items ≡ old.zones.items → Keeps old.texts new.texts → Keeps old.tables new.tables
    → Keeps old.indexes.items new.indexes.items → AreReady files old → AreReady files new
ready_as_more files old new named same texts tables indexes are = record {
  names = subst (λ (l : List (List ℕ)). AreNamesOf files l) (sym named) are.names;
  few = rw same are.few;
  each = λ i file zone at ready_at.
      let before : slice_get old.zones.items i ≡ Some zone = ap (λ (l : List ReadyZone). slice_get l i) (sym same) ∙ ready_at in
      zone_still file.image.content old new zone texts tables indexes (are.each i file zone at before);
}

-- one file more is ready
pub ready_added : (files : List File) (old new : Ready) (zone : ReadyZone) (content : Content) → new.names ≡ old.names → new.zones.items ≡ old.zones.items ++ zone ∷ []
    → Keeps old.texts new.texts → Keeps old.tables new.tables → Keeps old.indexes.items new.indexes.items → length old.zones.items < length files
    → IfSome (slice_get files (length old.zones.items)) (λ file. content ≡ file.image.content) → IsReadyZone content new.texts new.tables new.indexes.items zone → AreReady files old → AreReady files new
ready_added files old new zone content named pushed texts tables indexes lt is made are = record {
  names = subst (λ (l : List (List ℕ)). AreNamesOf files l) (sym named) are.names;
  few = rw pushed (omega (arith, lt, length-append old.zones.items (zone ∷ [])));
  each = λ i file one at ready_at.
      let more : slice_get (old.zones.items ++ zone ∷ []) i ≡ Some one = ap (λ (l : List ReadyZone). slice_get l i) (sym pushed) ∙ ready_at in
      elim (got_more old.zones.items zone one i more) [
        | inl before ↦ zone_still file.image.content old new one texts tables indexes (are.each i file one at before)
        | inr last ↦
            let same = if_at (slice_get files (length old.zones.items)) (λ (f : File). content ≡ f.image.content) file is (ap (slice_get files) last.0 ∙ at) in
            subst (λ (z : ReadyZone). IsReadyZone file.image.content new.texts new.tables new.indexes.items z) last.1
            (subst (λ (c : Content). IsReadyZone c new.texts new.tables new.indexes.items zone) same made)
      ];
}

-- what a number says of the state of its text
pub facts : (states : List Shown) (n : ℕ) (state : Shown) (holds : Shown → Type 0) → HasState states n holds → IsValue states n state → holds state
facts states n state holds has is =
    let (other, got, it) = has is.0 in
    subst holds (same_Some other state (sym got ∙ is.1)) it

-- what has a number in a list is one
same_at : {X : Type 0} (xs : List X) (n : ℕ) (a b : X) → slice_get xs n ≡ Some a → slice_get xs n ≡ Some b → a ≡ b
same_at xs n a b at_a at_b = same_Some a b (sym at_a ∙ at_b)

module _ (files : List File) (ready : Ready) (are : AreReady files ready) (file : ℕ) (zone : ReadyZone) (ready_at : slice_get ready.zones.items file ≡ Some zone) where
  -- the file of the zone
  its_file : (f : File) × (slice_get files file ≡ Some f)
  its_file =
      let few = are.few in
      let lt = slice_get_within ready.zones.items file zone ready_at in
      got files file (omega (arith, few, lt))

  own_index : (f : File) → slice_get files file ≡ Some f → (number : ℕ) → zone.index ≡ Some number → HasIndex f.image.content ready.indexes.items number
  own_index f at number has = if_at zone.index (HasIndex f.image.content ready.indexes.items) number (are.each file f zone at ready_at).index has

  -- the index that is found by its number
  pub index_found : (number : ℕ) → zone.index ≡ Some number → {A : Type 0} (found : Option A) (now : A → LocalIndex) → is_some found ≡ ltb number (length ready.indexes.items)
      → IfSome found (λ a. now a ≡ slice_index_or ready.indexes.items number (now a)) → IfSome (slice_get files file) (λ f. IfSome found (λ a. IsIndexOf f.image.content (now a)))
  index_found number has found now some is =
      let (f, at) = its_file in
      let (index, at_index, of) = some_of (slice_get ready.indexes.items number) (IsIndexOf f.image.content) (own_index f at number has) in
      rw at (found_then now ready.indexes.items number found (IsIndexOf f.image.content) some is
      (λ other at_other. subst (λ (i : LocalIndex). IsIndexOf f.image.content i) (same_Some index other (sym at_index ∙ at_other)) of))

  -- a file with the same image has it too
  pub index_shared : (number : ℕ) → zone.index ≡ Some number → (other : ℕ) → IfSome (slice_get files file) (λ a. IfSome (slice_get files other) (λ b. a.image ≡ b.image))
      → IfSome (slice_get files other) (λ f. HasIndex f.image.content ready.indexes.items number)
  index_shared number has other share =
      let (f, at) = its_file in
      let own = own_index f at number has in
      if_some_then (slice_get files other) (if_at (slice_get files file) (λ (a : File). IfSome (slice_get files other) (λ b. a.image ≡ b.image)) f share at)
      (λ g same. subst (λ (image : FileImage). HasIndex image.content ready.indexes.items number) same own)

  -- the number of a state
  pub state_found : (number n : ℕ) → slice_get zone.numbers.items number ≡ Some n → HasState ready.texts n (λ s. IsTextOf files file number s)
  state_found number n named = λ says.
      let (f, at) = its_file in
      let (state, got, of) = (are.each file f zone at ready_at).numbers.each number n named says in
      (state, got, rw at of)

  -- the number that a table tells
  pub quick_is : (instant : ℤ) (place : Place) (start : ℕ) (slot : Slot) → IsPlaceOf instant place → slice_index_or zone.tables place.era None ≡ Some start
      → slice_get ready.tables (start + place.slot) ≡ Some slot → HasState ready.texts (number_at slot place.second) (λ s. AnswersAt files file instant s)
  quick_is instant place start slot lies begins at_slot = λ says.
      let (f, at) = its_file in
      let content = f.image.content in
      let table = (are.each file f zone at ready_at).tables place.era start begins in
      let (other, at_other, has) = table.is place.slot lies.slot in
      let texts = subst (λ (s : Slot). HasTexts ready.texts (AnswersState content) (start_of place.era place.slot) s) (same_Some other slot (sym at_other ∙ at_slot)) has in
      let (state, got, answers) = texts place.second lies.second says in
      (state, got, rw at (subst (λ (t : ℤ). AnswersState content t state) lies.is answers))

  -- the number that a table tells of all instants near a local time
  pub near_found : (local : ℤ) (place : Place) (start : ℕ) (slot : Slot) (n : ℕ) → IsPlaceOf local place → slice_index_or zone.tables place.era None ≡ Some start
      → slice_get ready.tables (start + place.slot) ≡ Some slot → IsNumberNear slot place.second n → HasState ready.texts n (λ s. AnswersNear files file local s)
  near_found local place start slot n lies begins at_slot near = λ says.
      let (f, at) = its_file in
      let content = f.image.content in
      let table = (are.each file f zone at ready_at).tables place.era start begins in
      let (other, at_other, has) = table.is place.slot lies.slot in
      let from = start_of place.era place.slot in
      let slot_is : other ≡ slot = same_at ready.tables (start + place.slot) other slot at_other at_slot in
      let texts = subst (λ (s : Slot). HasTexts ready.texts (AnswersState content) from s) slot_is has in
      let number : (x : ℕ) → HasState ready.texts (number_at slot x) (AnswersState content (from +ℤ pos x)) → number_at slot x ≡ n → HasState ready.texts n (AnswersState content (from +ℤ pos x)) =
      λ x it same. subst (λ (m : ℕ). HasState ready.texts m (AnswersState content (from +ℤ pos x))) same it in
      let here = near.is place.second (omega arith) (omega arith) in
      let (state, got, answers) = number place.second (texts place.second lies.second) here says in
      let at_second : (x : ℕ) (t : ℤ) → from +ℤ pos x ≡ t → x < SLOT_SECONDS → number_at slot x ≡ n → AnswersState content t state =
      λ x t counted within same.
      let (state', got', answers') = number x (texts x within) same says in
      subst (λ (u : ℤ). AnswersState content u state) counted
      (subst (λ (s : Shown). AnswersState content (from +ℤ pos x) s) (same_at ready.texts n state' state got' got) answers') in (
        state,
        got,
        rw at (λ t close.
            let x = unsigned_abs (t -ℤ from) in
            let is = lies.is in
            let low = near.from in
            let high = near.to in
            let counted : from +ℤ pos x ≡ t = omega (arith, ints, close, is, low) in
            let within : x < SLOT_SECONDS = omega (arith, ints, close, is, low, high) in
            at_second x t counted within (near.is x (omega (arith, ints, close, is, counted)) (omega (arith, ints, close, is, counted)))),
      )
