-- Files of more replies.
use Rattle.std.proofs.Common.{◌≡◌, ◌≢◌, ◌<◌, ℕ, List, ◌++◌, length, get_or, ⊎_elim, sym, ap, subst, ◌∙◌, arith}
use Rattle.std.specs.Prelude.{AllPairs, Any, Contains, IsSomeAnd}
use Rattle.std.proofs.lemmas.Bool.{cases_lt}
use Rattle.std.proofs.lemmas.List.{get_or_default}
use Rattle.std.proofs.lemmas.List.Elements.{All-contains, Contains-append_left}
use Rattle.std.proofs.lemmas.Option.{same_Some}
use Rattle.zic_tzif.specs.Content.{Content}
use Rattle.zic_tzif.specs.Laws.{FilesSayOne}
use Rattle.zic_tzif.specs.Reading.{IsFile}
use Rattle.zic_files.specs.File.{File}
use Rattle.zic_files.specs.Fit.{AreFit, IsFit}
use Rattle.zic_files.specs.Sound.{IsSoundFile}
use Rattle.zic_files.specs.Tree.{AreRequestedOnce, AreFilesOfReplies, IsSettled, Reply, reply_of}

-- a reply of each name
one_at : (xs : List Reply) (i j : ℕ) (a b : Reply) → AllPairs (λ (r s : Reply). r.name ≢ s.name) xs → i < j → j < length xs → get_or xs i a ≡ a → get_or xs j b ≡ b → a.name ≡ b.name → a ≡ b
one_at xs i j a b once lt within at at₂ same =
    let first : get_or xs i b ≡ a = get_or_default xs i b a (omega (arith, lt, within)) ∙ at in
    absurd (once i j b lt within (ap (λ (r : Reply). r.name) first ∙ same ∙ ap (λ (r : Reply). r.name) (sym at₂)))

one_of_name : (xs : List Reply) (a b : Reply) → AllPairs (λ (r s : Reply). r.name ≢ s.name) xs → Contains xs a → Contains xs b → a.name ≡ b.name → a ≡ b
one_of_name xs a b once (i, lt, at) (j, lt₂, at₂) same = ⊎_elim
    (λ before. one_at xs i j a b once before lt₂ at at₂ same)
    (λ from. ⊎_elim
    (λ after. sym (one_at xs j i b a once after lt at₂ at (sym same)))
    (λ to.
    let here : j ≡ i = omega (arith, from, to) in
    sym at ∙ get_or_default xs i a b lt ∙ sym (ap (λ (k : ℕ). get_or xs k b) here) ∙ at₂)
    (cases_lt j i))
    (cases_lt i j)

-- a file of each name
same_parts : (a b : File) → a.name ≡ b.name → a.image.octets ≡ b.image.octets → a.image.content ≡ b.image.content → a ≡ b
same_parts a b name octets content =
    ap (λ (n : List ℕ). let f : File = record { name = n; image = a.image } in f) name
    ∙ ap (λ (o : List ℕ). let f : File = record { name = b.name; image = record { octets = o; content = a.image.content } } in f) octets
    ∙ ap (λ (c : Content). let f : File = record { name = b.name; image = record { octets = b.image.octets; content = c } } in f) content

same_file : FilesSayOne → (a b : File) → reply_of a ≡ reply_of b → IsFile a.image.octets a.image.content → IsFile b.image.octets b.image.content → a ≡ b
same_file one a b same read read₂ =
    let octets = same_Some a.image.octets b.image.octets (ap (λ (r : Reply). r.octets) same) in
    let name = ap (λ (r : Reply). r.name) same in
    let content = one b.image.octets a.image.content b.image.content (subst (λ (bytes : List ℕ). IsFile bytes a.image.content) octets read) read₂ in
    same_parts a b name octets content

some_among : (files : List File) (name : List ℕ) → Any (λ (f : File). f.name ≡ name) files → (f : File) × Contains files f × (f.name ≡ name)
some_among files name (k, f, lt, at, is) = (f, (k, lt, at), is)

reply_among : (replies : List Reply) (name : List ℕ) → Any (λ (r : Reply). r.name ≡ name) replies → (r : Reply) × Contains replies r × (r.name ≡ name)
reply_among replies name (k, r, lt, at, is) = (r, (k, lt, at), is)

-- of a file its reply, and that rows can be made of it
given_of : (replies : List Reply) (files : List File) → AreFilesOfReplies replies files → (file : File) → Contains files file → Contains replies (reply_of file)
given_of replies files are file has = All-contains (λ (f : File). Contains replies (reply_of f)) files file are.given has

sound_of : (replies : List Reply) (files : List File) → AreFilesOfReplies replies files → (file : File) → Contains files file → IsSoundFile file
sound_of replies files are file has = All-contains IsSoundFile files file are.sound.each has

fit_of : (replies : List Reply) (files : List File) → AreFilesOfReplies replies files → (file : File) → Contains files file → AreFit file.image.octets
fit_of replies files are file has =
    (file.image.content, (sound_of replies files are file has).read, All-contains (λ (f : File). IsFit f.image.content) files file are.fit has)

-- what is among the files of replies, where one of them gives it
entries_of : FilesSayOne → (replies all : List Reply) (files others : List File) → AreFilesOfReplies replies files → AreFilesOfReplies all others → AreRequestedOnce all → ((r : Reply) → Contains replies r → Contains all r)
    → (file : File) → Contains others file → Contains replies (reply_of file) → Contains files file
entries_of one replies all files others are are_all requested within file has given =
    let fit = fit_of all others are_all file has in
    let found = some_among files file.name (All-contains (λ (r : Reply). IsSomeAnd r.octets AreFit → Any (λ (f : File). f.name ≡ r.name) files) replies (reply_of file) are.all given fit) in
    let other = found.0 in
    let given_other = within (reply_of other) (given_of replies files are other found.1) in
    let same = one_of_name all (reply_of other) (reply_of file) requested.once given_other (within (reply_of file) given) found.2 in
    let is = same_file one other file same (sound_of replies files are other found.1).read (sound_of all others are_all file has).read in
    subst (Contains files) is found.1

module _ (one : FilesSayOne) (replies more : List Reply) (files others : List File) (are : AreFilesOfReplies replies files) (are_more : AreFilesOfReplies (replies ++ more) others) (file : File) where
  pub still : Contains files file → Contains others file
  still has =
      let given = Contains-append_left replies more (reply_of file) (given_of replies files are file has) in
      let fit = fit_of replies files are file has in
      let found = some_among others file.name
      (All-contains (λ (r : Reply). IsSomeAnd r.octets AreFit → Any (λ (f : File). f.name ≡ r.name) others) (replies ++ more) (reply_of file) are_more.all given fit) in
      let other = found.0 in
      let same = one_of_name (replies ++ more) (reply_of other) (reply_of file) are_more.requested.once (given_of (replies ++ more) others are_more other found.1) given found.2 in
      let is = same_file one other file same (sound_of (replies ++ more) others are_more other found.1).read (sound_of replies files are file has).read in
      subst (Contains others) is found.1

  pub settled : Contains others file → IsSettled replies file.name → Contains files file
  settled has known =
      let sound = sound_of (replies ++ more) others are_more file has in
      let requested = reply_among replies file.name (known sound.named) in
      let same = one_of_name (replies ++ more) requested.0 (reply_of file) are_more.requested.once (Contains-append_left replies more requested.0 requested.1)
      (given_of (replies ++ more) others are_more file has) requested.2 in
      entries_of one replies (replies ++ more) files others are are_more are_more.requested (λ r among. Contains-append_left replies more r among) file has (subst (Contains replies) same requested.1)
