-- The lines of the files so far.
use Rattle.std.proofs.Common.{◌≢◌, true, All, Option, Some, None, Any, ◌≡◌, ℕ, ◌+◌, ◌-◌, ◌<◌, ◌≤◌, inl, inr, List, [], ◌∷◌, ◌++◌, length, take, drop, slice_range, refl, sym, ap, subst, ◌∙◌, arith, append-nil}
use Rattle.std.specs.Prelude.{Contains, IfSome, IsSomeAnd, MatchOption, is_some, slice_get}
use Rattle.std.specs.List.{AllZip, flat_map}
use Rattle.std.proofs.lemmas.Grind.{flat_map-append}
use Rattle.std.proofs.Math.Seq.{take-add}
use Rattle.std.proofs.lemmas.List.{drop-drop, drop_more, take_all}
use Rattle.std.proofs.lemmas.Option.{get_or_from_slice_get, slice_get_within}
use Rattle.zic_base.proofs.Elements.{contains_got, got}
use Rattle.zic_base.proofs.Options.{if_at, some_of}
use Rattle.zic_compare.specs.Files.{AreLinesOfBoth, AreLinesOfNew, AreLinesOfOld, AreLinesOfOldUnder, IsDiff, IsLineOfNew, IsLineOfOld, grouping_of, names_of}
use Rattle.zic_compare.specs.Groups.{zone_field}
use Rattle.zic_compare.specs.Lines.{AreLinesOfAll}
use Rattle.zic_compare.specs.Refused.{RefusedNames, refused_lines}
use Rattle.zic_compare.specs.Text.{with_names}
use Rattle.zic_compare.specs.declared.sides.Listed.{Listed}
use Rattle.zic_compare.proofs.SameLemmas.{same_bytes}
use Rattle.zic_files.specs.File.{File}
use Rattle.zic_tzif.specs.Content.{Content}
use Rattle.zic_tzif.specs.Laws.{FilesSayOne}
use Rattle.zic_tzif.specs.Reading.{IsFile}

-- one pair more
pub zip_more : {X Y : Type 0} (Q : X → Y → Type 0) (xs : List X) (ys : List Y) (x : X) (y : Y) → AllZip Q xs ys → Q x y → AllZip Q (xs ++ x ∷ []) (ys ++ y ∷ [])
zip_more Q [] [] x y each last = (last, tt)
zip_more Q [] (b ∷ ys) x y each last = absurd each
zip_more Q (a ∷ xs) [] x y each last = absurd each
zip_more Q (a ∷ xs) (b ∷ ys) x y each last = (each.0, zip_more Q xs ys x y each.1 last)

-- one text more
pub joined_more : (texts : List (List ℕ)) (text : List ℕ) → flat_map (λ (l : List ℕ). l) (texts ++ text ∷ []) ≡ flat_map (λ (l : List ℕ). l) texts ++ text
joined_more texts text =
    flat_map-append (λ (l : List ℕ). l) texts (text ∷ []) ∙ ap (λ (l : List ℕ). flat_map (λ (l : List ℕ). l) texts ++ l) (append-nil text)

-- a part of the files, and one more
pub part_more : (files : List File) (first i : ℕ) (file : File) → first ≤ i → slice_get files i ≡ Some file → slice_range files first (i + 1) ≡ slice_range files first i ++ file ∷ []
part_more files first i file low at =
    let within : i < length files = slice_get_within files i file at in
    let sum : i + 1 - first ≡ (i - first) + 1 = omega arith in
    let back : first + (i - first) ≡ i = omega arith in
    let next : drop (i - first) (drop first files) ≡ file ∷ drop (i + 1) files =
    drop-drop (i - first) first files ∙ ap (λ (n : ℕ). drop n files) back ∙ drop_more files i file within
    ∙ ap (λ (f : File). f ∷ drop (i + 1) files) (get_or_from_slice_get files i file file at) in
    ap (λ (n : ℕ). take n (drop first files)) sum ∙ take-add (i - first) 1 (drop first files)
    ∙ ap (λ (l : List File). take (i - first) (drop first files) ++ take 1 l) next

-- no file has no lines
pub lines_of_none : (Q : File → List ℕ → Type 0) (files : List File) (first : ℕ) → AreLinesOfAll Q (slice_range files first first) []
lines_of_none Q files first =
    let none : first - first ≡ 0 = omega arith in
    subst (λ (n : ℕ). AreLinesOfAll Q (take n (drop first files)) []) (sym none) (record { of_each = []; each = tt; joined = refl })

-- the lines of one file more
pub lines_more : (Q : File → List ℕ → Type 0) (files : List File) (first i : ℕ) (lines next : List ℕ) → first ≤ i → i < length files
    → AreLinesOfAll Q (slice_range files first i) lines → IfSome (slice_get files i) (λ file. (more : List ℕ) × Q file more × (next ≡ lines ++ more))
    → AreLinesOfAll Q (slice_range files first (i + 1)) next
lines_more Q files first i lines next low lt before more =
    let (file, at) = got files i lt in
    let (text, is, pushed) = if_at (slice_get files i) (λ (f : File). (more : List ℕ) × Q f more × (next ≡ lines ++ more)) file more at in
    let part = slice_range files first i in
    let whole : AreLinesOfAll Q (part ++ file ∷ []) next = record {
      of_each = before.of_each ++ text ∷ [];
      each = zip_more Q part before.of_each file text before.each is;
      joined = pushed ∙ ap (λ (l : List ℕ). l ++ text) before.joined ∙ sym (joined_more before.of_each text);
    } in
    subst (λ (fs : List File). AreLinesOfAll Q fs next) (sym (part_more files first i file low at)) whole

-- those of all files, taken as one part
pub lines_of_whole : (Q : File → List ℕ → Type 0) (files : List File) (lines : List ℕ) → AreLinesOfAll Q (slice_range files 0 (length files)) lines → AreLinesOfAll Q files lines
lines_of_whole Q files lines are =
    let all : length files ≤ length files - 0 = omega arith in
    subst (λ (fs : List File). AreLinesOfAll Q fs lines) (take_all (length files - 0) files all) are

-- the text of both
pub diff_of_both : (how : Listed) (old new : List File) (refused : RefusedNames) (of_old of_new text : List ℕ) → AreLinesOfAll (AreLinesOfOld how old new) old of_old
    → AreLinesOfAll (AreLinesOfNew how old new) new of_new → text ≡ with_names (names_of how) ((of_old ++ of_new) ++ refused_lines how refused) → IsDiff how old new refused text
diff_of_both how old new refused of_old of_new text are_old are_new is = record {
  of_old = are_old.of_each;
  each_old = are_old.each;
  of_new = are_new.of_each;
  each_new = are_new.each;
  is_text = is ∙ ap (λ (l : List ℕ). with_names (names_of how) (l ++ refused_lines how refused)) (ap (λ (l : List ℕ). l ++ of_new) are_old.joined ∙ ap (λ (l : List ℕ). flat_map (λ (x : List ℕ). x) are_old.of_each ++ l) are_new.joined);
}

of_option : (o : Option File) (P : File → Type 0) → ((file : File) → o ≡ Some file → P file) → IfSome o P
of_option None P holds = tt
of_option (Some file) P holds = holds file refl

-- what is shown of the file of a number
pub file_at : (files : List File) (i : ℕ) (P : File → Type 0) → ((file : File) → slice_get files i ≡ Some file → P file) → IfSome (slice_get files i) P
file_at files i P holds = of_option (slice_get files i) P holds

-- nothing more
pub same_text : (lines : List ℕ) → lines ≡ lines ++ []
same_text lines = sym (append-nil lines)

-- some file has the name
pub any_of : (files : List File) (i : ℕ) (name : List ℕ) → IsSomeAnd (slice_get files i) (λ file. file.name ≡ name) → Any (λ (file : File). file.name ≡ name) files
any_of files i name found =
    let (file, at, named) = some_of (slice_get files i) (λ (f : File). f.name ≡ name) found in
    let has = contains_got files i file at in
    (has.0, file, has.1, has.2, named)

-- the file that is found for a name
pub other_of : (files : List File) (i : ℕ) (name : List ℕ) → IsSomeAnd (slice_get files i) (λ file. file.name ≡ name)
    → (other : File) × (slice_get files i ≡ Some other) × Contains files other × (other.name ≡ name)
other_of files i name found =
    let (file, at, named) = some_of (slice_get files i) (λ (f : File). f.name ≡ name) found in
    (file, at, contains_got files i file at, named)

-- no lines are there without a first field
shared_under : (Q : List ℕ → Type 0) (field : Option (List ℕ)) (more : List ℕ) → more ≡ [] → None ≡ field → MatchOption field (more ≡ []) Q
shared_under Q None more none is = none
shared_under Q (Some zone) more none is = absurd cc

-- nor under any, where nothing differs
nothing_under : (Q : List ℕ → Type 0) (field : Option (List ℕ)) (more : List ℕ) → more ≡ [] → ((zone : List ℕ) → Q zone) → MatchOption field (more ≡ []) Q
nothing_under Q None more none under = none
nothing_under Q (Some zone) more none under = under zone

-- a new file whose name an old one has
pub has_name : (how : Listed) (old new : List File) (i : ℕ) (name lines : List ℕ) (found : Option ℕ) → IfSome (slice_get new i) (λ file. name ≡ file.name)
    → IfSome found (λ k. IsSomeAnd (slice_get old k) (λ file. file.name ≡ name)) → is_some found ≡ true
    → IfSome (slice_get new i) (λ file. (more : List ℕ) × AreLinesOfNew how old new file more × (lines ≡ lines ++ more))
has_name how old new i name lines None named found some = absurd cc
has_name how old new i name lines (Some k) named found some =
    file_at new i (λ file. (more : List ℕ) × AreLinesOfNew how old new file more × (lines ≡ lines ++ more))
    (λ file at.
    let same = if_at (slice_get new i) (λ (f : File). name ≡ f.name) file named at in
    ([], inl (subst (λ (n : List ℕ). Any (λ (f : File). f.name ≡ n) old) same (any_of old k name found), refl), same_text lines))

-- one that shares the line of another
pub shared_new : (how : Listed) (old new : List File) (i : ℕ) (name lines : List ℕ) → IfSome (slice_get new i) (λ file. name ≡ file.name)
    → All (λ (file : File). file.name ≢ name) old → IfSome (slice_get new i) (λ file. None ≡ zone_field (grouping_of how) new old file)
    → IfSome (slice_get new i) (λ file. (more : List ℕ) × AreLinesOfNew how old new file more × (lines ≡ lines ++ more))
shared_new how old new i name lines named none under =
    file_at new i (λ file. (more : List ℕ) × AreLinesOfNew how old new file more × (lines ≡ lines ++ more))
    (λ file at.
    let same = if_at (slice_get new i) (λ (f : File). name ≡ f.name) file named at in
    let field_is = if_at (slice_get new i) (λ (f : File). None ≡ zone_field (grouping_of how) new old f) file under at in
    let absent = subst (λ (n : List ℕ). All (λ (f : File). f.name ≢ n) old) same none in
    ([], inr (absent, shared_under (λ zone. IsLineOfNew how zone file.image.content []) (zone_field (grouping_of how) new old file) [] refl field_is), same_text lines))

module _ (how : Listed) (old new : List File) (i : ℕ) where
  -- the lines of an old file with a first field
  with_field : (file : File) (field more : List ℕ) → slice_get old i ≡ Some file → IfSome (slice_get old i) (λ file. Some field ≡ zone_field (grouping_of how) old new file)
      → AreLinesOfOldUnder how new file more field → AreLinesOfOld how old new file more
  with_field file field more at under are =
      subst (λ (z : Option (List ℕ)). MatchOption z (more ≡ []) (AreLinesOfOldUnder how new file more))
      (if_at (slice_get old i) (λ (f : File). Some field ≡ zone_field (grouping_of how) old new f) file under at) are

  -- an old file whose name no new one has
  pub lone_old : (name field lines next : List ℕ) (content : Content) → IfSome (slice_get old i) (λ file. name ≡ file.name)
      → IfSome (slice_get old i) (λ file. content ≡ file.image.content) → All (λ (file : File). file.name ≢ name) new
      → IfSome (slice_get old i) (λ file. Some field ≡ zone_field (grouping_of how) old new file) → (more : List ℕ) × IsLineOfOld how field content more × (next ≡ lines ++ more)
      → IfSome (slice_get old i) (λ file. (more : List ℕ) × AreLinesOfOld how old new file more × (next ≡ lines ++ more))
  lone_old name field lines next content named of none under (more, is, pushed) =
      file_at old i (λ file. (more : List ℕ) × AreLinesOfOld how old new file more × (next ≡ lines ++ more))
      (λ file at.
      let same = if_at (slice_get old i) (λ (f : File). name ≡ f.name) file named at in
      let content_is = if_at (slice_get old i) (λ (f : File). content ≡ f.image.content) file of at in
      let absent = subst (λ (n : List ℕ). All (λ (f : File). f.name ≢ n) new) same none in
      (more, with_field file field more at under (inr (absent, subst (λ (c : Content). IsLineOfOld how field c more) content_is is)), pushed))

  -- one and the new one of its name
  pub both_files : (k : ℕ) (name field lines next more : List ℕ) (one other : Content) → IfSome (slice_get old i) (λ file. name ≡ file.name)
      → IfSome (slice_get old i) (λ file. one ≡ file.image.content) → IsSomeAnd (slice_get new k) (λ file. file.name ≡ name)
      → IfSome (slice_get new k) (λ file. other ≡ file.image.content) → IfSome (slice_get old i) (λ file. Some field ≡ zone_field (grouping_of how) old new file)
      → AreLinesOfBoth how field one other more → next ≡ lines ++ more
      → IfSome (slice_get old i) (λ file. (more : List ℕ) × AreLinesOfOld how old new file more × (next ≡ lines ++ more))
  both_files k name field lines next more one other named of found of_other under are pushed =
      file_at old i (λ file. (more : List ℕ) × AreLinesOfOld how old new file more × (next ≡ lines ++ more))
      (λ file at.
      let same = if_at (slice_get old i) (λ (f : File). name ≡ f.name) file named at in
      let one_is = if_at (slice_get old i) (λ (f : File). one ≡ f.image.content) file of at in
      let (match, at_match, among, match_named) = other_of new k name found in
      let other_is = if_at (slice_get new k) (λ (f : File). other ≡ f.image.content) match of_other at_match in
      let by_old = subst (λ (c : Content). AreLinesOfBoth how field c other more) one_is are in
      let by_both = subst (λ (c : Content). AreLinesOfBoth how field file.image.content c more) other_is by_old in
      (more, with_field file field more at under (inl (match, among, match_named ∙ same, by_both)), pushed))

  -- of files with the same bytes
  pub same_files : FilesSayOne → (k : ℕ) (name a b lines : List ℕ) → IfSome (slice_get old i) (λ file. name ≡ file.name)
      → IfSome (slice_get old i) (λ file. a ≡ file.image.octets) → IfSome (slice_get old i) (λ file. IsFile file.image.octets file.image.content)
      → IsSomeAnd (slice_get new k) (λ file. file.name ≡ name) → IfSome (slice_get new k) (λ file. b ≡ file.image.octets)
      → IfSome (slice_get new k) (λ file. IsFile file.image.octets file.image.content) → a ≡ b
      → IfSome (slice_get old i) (λ file. (more : List ℕ) × AreLinesOfOld how old new file more × (lines ≡ lines ++ more))
  same_files one k name a b lines named of is_file found of_other is_other same =
      file_at old i (λ file. (more : List ℕ) × AreLinesOfOld how old new file more × (lines ≡ lines ++ more))
      (λ file at.
      let name_is = if_at (slice_get old i) (λ (f : File). name ≡ f.name) file named at in
      let a_is = if_at (slice_get old i) (λ (f : File). a ≡ f.image.octets) file of at in
      let reads = if_at (slice_get old i) (λ (f : File). IsFile f.image.octets f.image.content) file is_file at in
      let (match, at_match, among, match_named) = other_of new k name found in
      let b_is = if_at (slice_get new k) (λ (f : File). b ≡ f.image.octets) match of_other at_match in
      let right = if_at (slice_get new k) (λ (f : File). IsFile f.image.octets f.image.content) match is_other at_match in
      let none : (zone : List ℕ) → AreLinesOfOldUnder how new file [] zone = λ zone. inl (match, among, match_named ∙ name_is, same_bytes one how zone file.image.octets match.image.octets file.image.content match.image.content reads right (sym a_is ∙ same ∙ b_is)) in
      ([], nothing_under (AreLinesOfOldUnder how new file []) (zone_field (grouping_of how) old new file) [] refl none, same_text lines))
