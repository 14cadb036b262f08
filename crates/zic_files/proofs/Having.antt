-- Replies have files.
use Rattle.std.proofs.Common.{◌≡◌, ◌≢◌, ◌<◌, ℕ, true, List, [], ◌∷◌, ◌++◌, length, Option, Some, None, refl, sym, ap, subst, ◌∙◌, arith, append_assoc, length-append}
use Rattle.std.specs.Prelude.{All, Contains, map}
use Rattle.std.proofs.Math.Seq.{get_or-append_seam}
use Rattle.std.proofs.lemmas.List.{append-nil, get_or_append_left}
use Rattle.std.proofs.lemmas.List.Elements.{All-contains, All-weaker, Contains-append_right}
use Rattle.zic_base.proofs.Elements.{first_contained, into_map}
use Rattle.zic_lines.specs.Name.{is_name}
use Rattle.zic_tzif.specs.Laws.{StatesHaveNumbers, FootersLeaveNothingOpen}
use Rattle.zic_files.specs.File.{File, FileImage}
use Rattle.zic_files.specs.Fit.{AreFit}
use Rattle.zic_files.specs.Sound.{AreSoundFiles}
use Rattle.zic_files.specs.Tree.{AreRequestedOnce, AreFilesOfReplies, IsLearntFrom, Learnt, Reply, files_named, reply_of}
use Rattle.zic_files.specs.code.Tree.{IsImageOf}
use Rattle.zic_files.proofs.Added.{sound_added, sound_file}
use Rattle.zic_files.proofs.Learning.{learnt_more, learnt_nothing, name_of, nothing_more}

-- a reply gives an image or none
some_image : (name : List ℕ) (octets : Option (List ℕ)) → ((image : Option FileImage) → IsImageOf (record { name = name; octets = octets }) image → ⊥) → ⊥
some_image name None none = none None tt
some_image name (Some bytes) none =
    let unfit : AreFit bytes → ⊥ = λ fit. none (Some (record { octets = bytes; content = fit.0 })) (refl, fit.1, fit.2) in
    none None unfit

-- the name of a reply is new among those before it
is_new : (done rest : List Reply) (reply : Reply) → AreRequestedOnce (done ++ reply ∷ rest) → Contains (map (λ (r : Reply). r.name) done) reply.name → ⊥
is_new done rest reply requested has =
    let (k, r, lt, at, is) = name_of done reply.name has in
    let within : length done < length (done ++ reply ∷ rest) = omega (arith, length-append done (reply ∷ rest)) in
    let first = get_or_append_left done (reply ∷ rest) r k lt ∙ at in
    let second = get_or-append_seam done reply rest r in
    requested.once k (length done) r lt within (ap (λ (x : Reply). x.name) first ∙ is ∙ sym (ap (λ (x : Reply). x.name) second))

module _ (numbers : StatesHaveNumbers) (closed : FootersLeaveNothingOpen) where
  -- the files with that of a new name are sound
  sound_more : (done : List Reply) (learnt : Learnt) → IsLearntFrom done learnt → (reply : Reply) → is_name reply.name ≡ true → (Contains learnt.requested reply.name → ⊥)
      → (image : Option FileImage) → IsImageOf reply image → AreSoundFiles (learnt.files ++ files_named reply.name image)
  sound_more done learnt from reply proper new None is = subst AreSoundFiles (sym (append-nil learnt.files)) from.files.sound
  sound_more done learnt from reply proper new (Some image) is =
      let file : File = record { name = reply.name; image = image } in
      let others : All (λ (f : File). f.name ≢ reply.name) learnt.files =
      All-weaker (λ (f : File). Contains done (reply_of f)) (λ f. f.name ≢ reply.name) (λ f has same.
      let among : Contains (map (λ (r : Reply). r.name) done) f.name = into_map (λ (r : Reply). r.name) done (reply_of f) has in
      new (subst (λ (names : List (List ℕ)). Contains names reply.name) (sym from.requested) (subst (Contains (map (λ (r : Reply). r.name) done)) same among))) learnt.files from.files.given in
      sound_added learnt.files file from.files.sound (sound_file numbers closed reply.name image proper is.1 is.2) others

  -- those after replies that have files
  have_files_on : (done rest : List Reply) (learnt : Learnt) → AreRequestedOnce (done ++ rest) → IsLearntFrom done learnt
      → ((now : Learnt) → IsLearntFrom (done ++ rest) now → ⊥) → ⊥
  have_files_on done [] learnt requested from none = none learnt (nothing_more done learnt from)
  have_files_on done (reply ∷ rest) learnt requested from none = some_image reply.name reply.octets (λ image is.
      let here = Contains-append_right done (reply ∷ rest) reply (first_contained reply rest) in
      let proper = All-contains (λ (r : Reply). is_name r.name ≡ true) (done ++ reply ∷ rest) reply requested.named here in
      let new : Contains learnt.requested reply.name → ⊥ = λ has. is_new done rest reply requested (subst (λ (names : List (List ℕ)). Contains names reply.name) from.requested has) in
      let now : Learnt = record { requested = learnt.requested ++ reply.name ∷ []; files = learnt.files ++ files_named reply.name image } in
      let more = learnt_more done learnt now from reply proper new image is refl refl (sound_more done learnt from reply proper new image is) in
      let joined : (done ++ reply ∷ []) ++ rest ≡ done ++ reply ∷ rest = append_assoc done (reply ∷ []) rest in
      have_files_on (done ++ reply ∷ []) rest now (subst AreRequestedOnce (sym joined) requested) more (λ later of. none later (subst (λ (rs : List Reply). IsLearntFrom rs later) joined of)))

  pub have_files : (replies : List Reply) → AreRequestedOnce replies → ((files : List File) → AreFilesOfReplies replies files → ⊥) → ⊥
  have_files replies requested none =
      let nothing : Learnt = record { requested = []; files = [] } in
      have_files_on [] replies nothing requested (learnt_nothing nothing refl refl) (λ learnt from. none learnt.files from.files)
