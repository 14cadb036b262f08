-- Files with one more.
use Rattle.std.proofs.Common.{◌≡◌, ◌≢◌, ◌<◌, ◌+◌, ℕ, ℤ, true, List, [], ◌∷◌, ◌++◌, length, Option, Some, None, refl, sym, ap, subst, ◌∙◌, arith, length-append}
use Rattle.std.specs.Prelude.{All, IfErr, IsSomeAnd, Result, Ok, Err, map, slice_get}
use Rattle.std.proofs.lemmas.List.{get_or_append_left, map-append}
use Rattle.std.proofs.lemmas.List.Elements.{All-head, All-tail, All-push, All-weaker}
use Rattle.std.proofs.lemmas.List.Quantifiers.{all_pairs_push}
use Rattle.std.proofs.lemmas.Option.{get_or_from_slice_get, slice_get_within}
use Rattle.zic_base.specs.State.{Shown}
use Rattle.zic_lines.specs.Limits.{IsWithinLimits}
use Rattle.zic_lines.specs.Name.{is_name}
use Rattle.zic_tzif.specs.Answer.{Answers}
use Rattle.zic_tzif.specs.Content.{Content}
use Rattle.zic_tzif.specs.Laws.{StatesHaveNumbers, FootersLeaveNothingOpen}
use Rattle.zic_tzif.specs.Reading.{IsFile}
use Rattle.zic_files.specs.declared.names.Entry.{Entry}
use Rattle.zic_files.specs.declared.name_index.NameIndex.{NameIndex}
use Rattle.zic_files.specs.File.{FileImage, File, no_image, file_of}
use Rattle.zic_files.specs.Fit.{IsFit}
use Rattle.zic_files.specs.Sound.{IsSoundFile, AreSoundFiles}
use Rattle.zic_files.specs.code.Entries.{AreEntries}
use Rattle.zic_files.specs.code.NameIndex.{AreNumbersUpTo, AreNumbersOf}
use Rattle.zic_files.proofs.Numbers.{numbers_now}

-- ---- a file that rows can be made of

pub answer_within : StatesHaveNumbers → FootersLeaveNothingOpen → (content : Content) → IsFit content → (t : ℤ) (answer : Option Shown) → Answers content t answer → IsSomeAnd answer IsWithinLimits
answer_within numbers closed content fit t (Some state) answers = let found = numbers.some content t state answers in fit.states found.0 state found.1
answer_within numbers closed content fit t None answers = absurd (closed content t fit.footer answers)

pub sound_file : StatesHaveNumbers → FootersLeaveNothingOpen → (name : List ℕ) (image : FileImage) → is_name name ≡ true → IsFile image.octets image.content → IsFit image.content
    → IsSoundFile (record { name = name; image = image })
sound_file numbers closed name image named read fit = record {
  named = named;
  read = read;
  footer = fit.footer;
  known = answer_within numbers closed image.content fit;
}

-- ---- more images

file_more : (images more : List FileImage) (entry : Entry) → entry.zone < length images → file_of (images ++ more) entry ≡ file_of images entry
file_more images more entry within =
    ap (λ (image : FileImage). let file : File = record { name = entry.name; image = image } in file) (get_or_append_left images more no_image entry.zone within)

pub files_more : (images more : List FileImage) (entries : List Entry) → All (λ (entry : Entry). entry.zone < length images) entries
    → map (file_of (images ++ more)) entries ≡ map (file_of images) entries
files_more images more [] zones = refl
files_more images more (entry ∷ entries) zones =
    let first = file_more images more entry (All-head (λ (e : Entry). e.zone < length images) entry entries zones) in
    let rest = files_more images more entries (All-tail (λ (e : Entry). e.zone < length images) entry entries zones) in
    cc

zones_more : (images more : List FileImage) (entries : List Entry) → All (λ (entry : Entry). entry.zone < length images) entries → All (λ (entry : Entry). entry.zone < length (images ++ more)) entries
zones_more images more entries zones =
    All-weaker (λ (e : Entry). e.zone < length images) (λ e. e.zone < length (images ++ more)) (λ e lt. omega (arith, lt, length-append images more)) entries zones

pub entries_more : (images more : List FileImage) (entries : List Entry) (names : NameIndex) → AreEntries images entries names → AreEntries (images ++ more) entries names
entries_more images more entries names entries_are = record {
  zones = zones_more images more entries entries_are.zones;
  numbers = entries_are.numbers;
  sound = subst AreSoundFiles (sym (files_more images more entries entries_are.zones)) entries_are.sound;
}

-- ---- one more file

pub sound_added : (files : List File) (file : File) → AreSoundFiles files → IsSoundFile file → All (λ (f : File). f.name ≢ file.name) files → AreSoundFiles (files ++ file ∷ [])
sound_added files file sound one others = record {
  each = All-push IsSoundFile files file sound.each one;
  names_differ = all_pairs_push (λ (a b : File). a.name ≢ b.name) files file sound.names_differ others;
}

module _ (images : List FileImage) (entries : List Entry) (names : NameIndex) (entries_are : AreEntries images entries names) (images' more : List FileImage) (grown : images' ≡ images ++ more) where
  module _ (name : List ℕ) (image : FileImage) (zone : ℕ) (got : slice_get images' zone ≡ Some image) where
    abbrev entry : Entry
    entry = record { name = name; zone = zone }

    abbrev file : File
    file = record { name = name; image = image }

    file_added : file_of images' entry ≡ file
    file_added =
        ap (λ (found : FileImage). let made : File = record { name = name; image = found } in made) (get_or_from_slice_get images' zone image no_image got)

    pub files_added : (entries' : List Entry) → entries' ≡ entries ++ entry ∷ [] → map (file_of images') entries' ≡ map (file_of images) entries ++ file ∷ []
    files_added entries' added =
        ap (map (file_of images')) added
        ∙ map-append (file_of images') entries (entry ∷ [])
        ∙ ap (λ (files : List File). files ++ file_of images' entry ∷ []) (ap (λ (l : List FileImage). map (file_of l) entries) grown ∙ files_more images more entries entries_are.zones)
        ∙ ap (λ (f : File). map (file_of images) entries ++ f ∷ []) file_added

    -- the fields with the entry
    pub entries_added : (entries' : List Entry) (now : NameIndex) (n : ℕ) → entries' ≡ entries ++ entry ∷ [] → IsSoundFile file → All (λ (f : File). f.name ≢ name) (map (file_of images) entries)
        → n ≡ length entries → AreNumbersUpTo entries' (n + 1) now → AreEntries images' entries' now
    entries_added entries' now n added one others long numbers =
        let within : zone < length images' = slice_get_within images' zone image got in
        let before : All (λ (e : Entry). e.zone < length images') entries = rw grown (zones_more images more entries entries_are.zones) in
        record {
          zones = rw added (All-push (λ (e : Entry). e.zone < length images') entries entry before within);
          numbers = numbers_now entries entry entries' n added long now numbers;
          sound = subst AreSoundFiles (sym (files_added entries' added)) (sound_added (map (file_of images) entries) file entries_are.sound one others);
        }

  -- the fields without it
  pub files_refused : (entries' : List Entry) → entries' ≡ entries → map (file_of images') entries' ≡ map (file_of images) entries
  files_refused entries' same = rw (grown, same) (files_more images more entries entries_are.zones)

  pub entries_refused : (entries' : List Entry) (now : NameIndex) → entries' ≡ entries → AreNumbersOf entries now → AreEntries images' entries' now
  entries_refused entries' now same numbers = record {
    zones = rw (grown, same) (zones_more images more entries entries_are.zones);
    numbers = rw same numbers;
    sound = subst AreSoundFiles (sym (files_refused entries' same)) entries_are.sound;
  }

-- ---- what holds where memory is refused

pub if_err : {X E : Type 0} (r : Result X E) (P : Type 0) → P → IfErr r (λ _. P)
if_err (Ok x) P p = tt
if_err (Err e) P p = p
