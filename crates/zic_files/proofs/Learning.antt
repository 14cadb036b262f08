-- What is learnt of a tree.
use Rattle.std.proofs.Common.{◌≡◌, ◌≢◌, ℕ, zero, suc, true, inl, inr, List, [], ◌∷◌, ◌++◌, get_or, Option, Some, None, refl, sym, ap, subst, ◌∙◌, arith, length-append, Decides}
use Rattle.std.specs.Prelude.{All, Any, Contains, IfSome, IfNone, IfOk, IfErr, Result, Ok, Err, IsSomeAnd, is_some, map, slice_get}
use Rattle.std.proofs.lemmas.List.{append-nil, get_or_append_left, map-append}
use Rattle.std.proofs.lemmas.List.Elements.{All-map, All-push, All-weaker, Contains-append_left, Contains-append_right, Contains-get_or}
use Rattle.std.proofs.lemmas.List.Quantifiers.{all_pairs_push, Any-push}
use Rattle.zic_base.proofs.Elements.{contains_got, into_map}
use Rattle.zic_base.proofs.Options.{some_of}
use Rattle.zic_lines.specs.Name.{is_name}
use Rattle.zic_tzif.specs.Content.{Content}
use Rattle.zic_tzif.specs.Laws.{FilesHaveNoFault, FilesSayOne}
use Rattle.zic_tzif.specs.Reading.{IsFile}
use Rattle.zic_files.specs.declared.names.Entry.{Entry}
use Rattle.zic_files.specs.declared.image.Unfit.{Unfit}
use Rattle.zic_files.specs.declared.image.Unfit.TheVariants as unfit
use Rattle.zic_files.specs.File.{FileImage, File}
use Rattle.zic_files.specs.Fit.{AreFit, IsFit, IsUnfit}
use Rattle.zic_files.specs.Sound.{AreSoundFiles}
use Rattle.zic_base.specs.Growth.{Gains}
use Rattle.zic_files.specs.Tree.{Adds, AreOfName, GrowsBy, Reply, AreRequestedOnce, IsSettled, AreFilesOfReplies, reply_of, Learnt, IsLearntFrom, files_named}
use Rattle.zic_files.specs.code.Tree.{IsAtMostOne, IsImageOf, AreOfNames}

-- ---- names

not_among : (entries : List Entry) (name : List ℕ) → All (λ (entry : Entry). entry.name ≢ name) entries → Contains (map (λ (entry : Entry). entry.name) entries) name → ⊥
not_among entries name none (k, lt, is) = All-map (λ (other : List ℕ). other ≢ name) (λ (entry : Entry). entry.name) entries none k name lt is

pub has_name : (entries : List Entry) (name : List ℕ) (found : Option ℕ) → IfSome found (λ i. IsSomeAnd (slice_get entries i) (λ entry. entry.name ≡ name))
    → IfNone found (All (λ (entry : Entry). entry.name ≢ name) entries) → Decides (is_some found) (Contains (map (λ (entry : Entry). entry.name) entries) name)
has_name entries name None is none = (λ e. absurd cc, λ has. absurd (not_among entries name none has))
has_name entries name (Some i) is none =
    let (entry, at, named) = some_of (slice_get entries i) (λ (entry : Entry). entry.name ≡ name) is in
    (λ e. subst (Contains (map (λ (e : Entry). e.name) entries)) named (into_map (λ (e : Entry). e.name) entries entry (contains_got entries i entry at)), λ has. refl)

-- ---- bytes that are unfit

has_no_footer : FilesSayOne → (octets : List ℕ) (content : Content) → IsFile octets content → (content.text ≡ []) → AreFit octets → ⊥
has_no_footer one octets content file empty fit =
    let same = one octets content fit.0 file fit.1 in
    fit.2.footer (ap (λ (c : Content). c.text) (sym same) ∙ empty)

pub unfit_is_not_fit : FilesHaveNoFault → FilesSayOne → (octets : List ℕ) (why : Unfit) → IsUnfit octets why → why ≢ unfit.Memory → AreFit octets → ⊥
unfit_is_not_fit none one octets (unfit.Bad reason) is some fit = none octets fit.0 reason fit.1 is
unfit_is_not_fit none one octets unfit.NoFooter is some fit = has_no_footer one octets is.0 is.1 is.2 fit
unfit_is_not_fit none one octets unfit.OutsideLimits is some fit =
    let same = one octets is.0 fit.0 is.1 fit.1 in
    let outside = is.3 in
    let states = subst (λ (c : Content). IsFit c) (sym same) fit.2 in
    outside.3 (states.states outside.0 outside.1 outside.2)
unfit_is_not_fit none one octets unfit.Memory is some fit = absurd (some refl)

-- the reply gives no image
pub unfit_reply : FilesHaveNoFault → FilesSayOne → (old now : Option (List Reply)) (name octets : List ℕ) (why : Unfit) → Gains old now (record { name = name; octets = Some octets } ∷ [])
    → IsUnfit octets why → why ≢ unfit.Memory → (reply : Reply) × Gains old now (reply ∷ []) × (reply.name ≡ name) × IsImageOf reply None
unfit_reply none one old now name octets why gains is some =
    (record { name = name; octets = Some octets }, gains, refl, unfit_is_not_fit none one octets why is some)

-- ---- replies

pub gains_none : (replied : Option (List Reply)) → Gains replied replied []
gains_none None = tt
gains_none (Some replies) = sym (append-nil replies)

named_among : (replies : List Reply) (name : List ℕ) → (Contains (map (λ (r : Reply). r.name) replies) name → ⊥) → All (λ (r : Reply). r.name ≢ name) replies
named_among replies name none = λ k d lt is.
    none (subst (Contains (map (λ (r : Reply). r.name) replies)) is (into_map (λ (r : Reply). r.name) replies (get_or replies k d) (Contains-get_or replies k d lt)))

module _ (replies : List Reply) (learnt : Learnt) (from : IsLearntFrom replies learnt) (reply : Reply) (proper : is_name reply.name ≡ true) (new : Contains learnt.requested reply.name → ⊥) where
  differ : All (λ (r : Reply). r.name ≢ reply.name) replies
  differ = named_among replies reply.name (subst (λ (requested : List (List ℕ)). Contains requested reply.name → ⊥) from.requested new)

  -- a new name is asked for
  pub requested_more : AreRequestedOnce (replies ++ reply ∷ [])
  requested_more = record {
    named = All-push (λ (r : Reply). is_name r.name ≡ true) replies reply from.files.requested.named proper;
    once = all_pairs_push (λ (a b : Reply). a.name ≢ b.name) replies reply from.files.requested.once differ;
  }

pub name_of : (replies : List Reply) (name : List ℕ) → Contains (map (λ (r : Reply). r.name) replies) name → Any (λ (r : Reply). r.name ≡ name) replies
name_of [] name (k, lt, is) = absurd (omega arith)
name_of (r ∷ replies) name (zero, lt, is) = (0, r, omega arith, refl, is)
name_of (r ∷ replies) name (suc k, lt, is) =
    let rest = name_of replies name (k, omega arith, is) in
    (suc rest.0, rest.1, let within = rest.2 in omega (arith, within), rest.3, rest.4)

-- the name was asked for, as what is learnt tells
pub settled_before : (replies : List Reply) (learnt : Learnt) (name : List ℕ) → IsLearntFrom replies learnt → Contains learnt.requested name → IsSettled replies name
settled_before replies learnt name from has proper =
    let among = subst (λ (requested : List (List ℕ)). Contains requested name) from.requested has in
    name_of replies name among

-- no more is asked
pub nothing_more : (replies : List Reply) (learnt : Learnt) → IsLearntFrom replies learnt → IsLearntFrom (replies ++ []) learnt
nothing_more replies learnt from = subst (λ (rs : List Reply). IsLearntFrom rs learnt) (sym (append-nil replies)) from

pub requested_nothing_more : (replies : List Reply) (learnt : Learnt) → IsLearntFrom replies learnt → AreRequestedOnce (replies ++ [])
requested_nothing_more replies learnt from = subst AreRequestedOnce (sym (append-nil replies)) from.files.requested

pub settled_nothing_more : (replies : List Reply) (name : List ℕ) → IsSettled replies name → IsSettled (replies ++ []) name
settled_nothing_more replies name settled = subst (λ (rs : List Reply). IsSettled rs name) (sym (append-nil replies)) settled

pub settled_last : (replies : List Reply) (reply : Reply) (name : List ℕ) → reply.name ≡ name → IsSettled (replies ++ reply ∷ []) name
settled_last replies reply name is proper = Any-push (λ (r : Reply). r.name ≡ name) replies reply is

-- nothing yet
pub learnt_nothing : (learnt : Learnt) → learnt.requested ≡ [] → learnt.files ≡ [] → IsLearntFrom [] learnt
learnt_nothing learnt none none₂ = record {
  requested = none;
  files = subst (λ (files : List File). AreFilesOfReplies [] files) (sym none₂) (record {
    requested = record { named = λ k d lt. absurd (omega (arith, lt)); once = λ i j d lt within. absurd (omega (arith, within)) };
    sound = record { each = λ k d lt. absurd (omega (arith, lt)); names_differ = λ i j d lt within. absurd (omega (arith, within)) };
    fit = λ k d lt. absurd (omega (arith, lt));
    given = λ k d lt. absurd (omega (arith, lt));
    all = λ k d lt. absurd (omega (arith, lt));
  });
}

-- ---- files

pub of_names_more : (requested : List (List ℕ)) (name : List ℕ) (files : List File) → AreOfNames requested files → AreOfNames (requested ++ name ∷ []) files
of_names_more requested name files are =
    All-weaker (λ (f : File). Contains requested f.name) (λ f. Contains (requested ++ name ∷ []) f.name) (λ f has. Contains-append_left requested (name ∷ []) f.name has) files are

of_names_push : (requested : List (List ℕ)) (file : File) (files : List File) → AreOfNames requested files → Contains requested file.name → AreOfNames requested (files ++ file ∷ [])
of_names_push requested file files are has = All-push (λ (f : File). Contains requested f.name) files file are has

-- a file is added, or memory is refused
pub of_names_either : {E : Type 0} (requested : List (List ℕ)) (file : File) (files now : List File) (result : Result (Unit {0}) E) → IfOk result (λ _. now ≡ files ++ file ∷ [])
    → IfErr result (λ _. now ≡ files) → AreOfNames requested files → Contains requested file.name → AreOfNames requested now
of_names_either requested file files now (Ok x) added same are has = subst (AreOfNames requested) (sym added) (of_names_push requested file files are has)
of_names_either requested file files now (Err e) added same are has = subst (AreOfNames requested) (sym same) are

pub of_others : (requested : List (List ℕ)) (name : List ℕ) (files : List File) → AreOfNames requested files → (Contains requested name → ⊥) → All (λ (f : File). f.name ≢ name) files
of_others requested name files are new = All-weaker (λ (f : File). Contains requested f.name) (λ f. f.name ≢ name) (λ f has is. new (subst (Contains requested) is has)) files are

pub last_requested : (requested : List (List ℕ)) (name : List ℕ) → Contains (requested ++ name ∷ []) name
last_requested requested name = Contains-append_right requested (name ∷ []) name (0, omega arith, refl)

not_both : (octets : Option (List ℕ)) → IfSome octets (λ bytes. AreFit bytes → ⊥) → IsSomeAnd octets AreFit → ⊥
not_both None none some = some
not_both (Some bytes) none some = none some

fit_pushed : (files : List File) (name : List ℕ) (image : Option FileImage) → All (λ (f : File). IsFit f.image.content) files → IfSome image (λ i. IsFit i.content)
    → All (λ (f : File). IsFit f.image.content) (files ++ files_named name image)
fit_pushed files name None fit one = subst (All (λ (f : File). IsFit f.image.content)) (sym (append-nil files)) fit
fit_pushed files name (Some image) fit one = All-push (λ (f : File). IsFit f.image.content) files (record { name = name; image = image }) fit one

given_on : (replies : List Reply) (reply : Reply) (files : List File) → All (λ f. Contains replies (reply_of f)) files → All (λ f. Contains (replies ++ reply ∷ []) (reply_of f)) files
given_on replies reply files given =
    All-weaker (λ (f : File). Contains replies (reply_of f)) (λ f. Contains (replies ++ reply ∷ []) (reply_of f)) (λ f has. Contains-append_left replies (reply ∷ []) (reply_of f) has) files given

given_pushed : (replies : List Reply) (reply : Reply) (files : List File) (image : Option FileImage) → All (λ f. Contains replies (reply_of f)) files → IsImageOf reply image
    → All (λ f. Contains (replies ++ reply ∷ []) (reply_of f)) (files ++ files_named reply.name image)
given_pushed replies reply files None given is =
    subst (All (λ (f : File). Contains (replies ++ reply ∷ []) (reply_of f))) (sym (append-nil files)) (given_on replies reply files given)
given_pushed replies reply files (Some image) given is =
    let file : File = record { name = reply.name; image = image } in
    let same : reply_of file ≡ reply = ap (λ (o : Option (List ℕ)). let r : Reply = record { name = reply.name; octets = o } in r) (sym is.0) in
    All-push (λ (f : File). Contains (replies ++ reply ∷ []) (reply_of f)) files file (given_on replies reply files given)
    (Contains-append_right replies (reply ∷ []) (reply_of file) (0, omega arith, sym same))

any_left : (P : File → Type 0) (xs ys : List File) → Any P xs → Any P (xs ++ ys)
any_left P xs ys (k, x, lt, at, p) = (k, x, omega (arith, lt, length-append xs ys), get_or_append_left xs ys x k lt ∙ at, p)

has_pushed : (reply : Reply) (files : List File) (image : Option FileImage) → IsImageOf reply image → IsSomeAnd reply.octets AreFit
    → Any (λ (f : File). f.name ≡ reply.name) (files ++ files_named reply.name image)
has_pushed reply files None is fit = absurd (not_both reply.octets is fit)
has_pushed reply files (Some image) is fit = Any-push (λ (f : File). f.name ≡ reply.name) files (record { name = reply.name; image = image }) refl

pub fits_of : (reply : Reply) (image : Option FileImage) → IsImageOf reply image → IfSome image (λ i. IsFit i.content)
fits_of reply None is = tt
fits_of reply (Some image) is = is.2

module _ (replies : List Reply) (learnt now : Learnt) (from : IsLearntFrom replies learnt) (reply : Reply) (proper : is_name reply.name ≡ true) (new : Contains learnt.requested reply.name → ⊥)
    (image : Option FileImage) (is : IsImageOf reply image) where
  all_more : All (λ (r : Reply). IsSomeAnd r.octets AreFit → Any (λ (f : File). f.name ≡ r.name) (learnt.files ++ files_named reply.name image)) (replies ++ reply ∷ [])
  all_more =
      All-push (λ (r : Reply). IsSomeAnd r.octets AreFit → Any (λ (f : File). f.name ≡ r.name) (learnt.files ++ files_named reply.name image)) replies reply
      (All-weaker (λ (r : Reply). IsSomeAnd r.octets AreFit → Any (λ (f : File). f.name ≡ r.name) learnt.files)
      (λ r. IsSomeAnd r.octets AreFit → Any (λ (f : File). f.name ≡ r.name) (learnt.files ++ files_named reply.name image))
      (λ r has fit. any_left (λ (f : File). f.name ≡ r.name) learnt.files (files_named reply.name image) (has fit)) replies from.files.all)
      (has_pushed reply learnt.files image is)

  -- one reply more
  pub learnt_more : now.requested ≡ learnt.requested ++ reply.name ∷ [] → now.files ≡ learnt.files ++ files_named reply.name image → AreSoundFiles now.files
      → IsLearntFrom (replies ++ reply ∷ []) now
  learnt_more requested files sound = record {
    requested = requested ∙ ap (λ (names : List (List ℕ)). names ++ reply.name ∷ []) from.requested ∙ sym (map-append (λ (r : Reply). r.name) replies (reply ∷ []));
    files = record {
      requested = requested_more replies learnt from reply proper new;
      sound = sound;
      fit = subst (All (λ (f : File). IsFit f.image.content)) (sym files) (fit_pushed learnt.files reply.name image from.files.fit (fits_of reply image is));
      given = subst (All (λ (f : File). Contains (replies ++ reply ∷ []) (reply_of f))) (sym files) (given_pushed replies reply learnt.files image from.files.given is);
      all = subst (λ (fs : List File). All (λ (r : Reply). IsSomeAnd r.octets AreFit → Any (λ (f : File). f.name ≡ r.name) fs) (replies ++ reply ∷ [])) (sym files) all_more;
    };
  }

-- ---- what a call tells

pub none_of_name : (name : List ℕ) → AreOfName name []
none_of_name name = λ k d lt. absurd (omega (arith, lt))

one_of_name : (name : List ℕ) (reply : Reply) → reply.name ≡ name → AreOfName name (reply ∷ [])
one_of_name name reply is = All-push (λ (r : Reply). r.name ≡ name) [] reply (none_of_name name) is

-- the tree was asked for a new name, or for none
pub requested_at_most : (replies : List Reply) (learnt : Learnt) → IsLearntFrom replies learnt → (name : List ℕ) → is_name name ≡ true → (Contains learnt.requested name → ⊥)
    → (old now : Option (List Reply)) → IsAtMostOne old now name → (more : List Reply) × Gains old now more × AreRequestedOnce (replies ++ more) × AreOfName name more
requested_at_most replies learnt from name proper new old now (inl gains) = ([], gains, requested_nothing_more replies learnt from, none_of_name name)
requested_at_most replies learnt from name proper new old now (inr (reply, gains, is)) = (
  reply ∷ [],
  gains,
  requested_more replies learnt from reply (subst (λ (n : List ℕ). is_name n ≡ true) (sym is) proper) (subst (λ (n : List ℕ). Contains learnt.requested n → ⊥) (sym is) new),
  one_of_name name reply is,
)

module _ {E : Type 0} (replies : List Reply) (learnt now : Learnt) (from : IsLearntFrom replies learnt) (name : List ℕ) (proper : is_name name ≡ true) (new : Contains learnt.requested name → ⊥)
    (image : Option FileImage) (old gave : Option (List Reply)) (facts : (reply : Reply) × Gains old gave (reply ∷ []) × (reply.name ≡ name) × IsImageOf reply image) where
  -- the reply is kept
  pub entries_if_ok : (result : Result (Unit {0}) E) → IfOk result (λ _. now.requested ≡ learnt.requested ++ name ∷ []) → IfOk result (λ _. now.files ≡ learnt.files ++ files_named name image)
      → IfOk result (λ _. AreSoundFiles now.files)
      → IfOk result (λ _. (reply : Reply) × Gains old gave (reply ∷ []) × IsLearntFrom (replies ++ reply ∷ []) now × (reply.name ≡ name))
  entries_if_ok (Ok x) requested files sound =
      let (reply, gains, is, made) = facts in (
        reply,
        gains,
        learnt_more replies learnt now from reply (subst (λ (n : List ℕ). is_name n ≡ true) (sym is) proper) (subst (λ (n : List ℕ). Contains learnt.requested n → ⊥) (sym is) new)
            image made (subst (λ (n : List ℕ). now.requested ≡ learnt.requested ++ n ∷ []) (sym is) requested) (subst (λ (n : List ℕ). now.files ≡ learnt.files ++ files_named n image) (sym is) files) sound,
        is,
      )
  entries_if_ok (Err e) requested files sound = tt

  -- or memory is refused
  pub requested_if_err : (result : Result (Unit {0}) E) → IfErr result (λ _. (more : List Reply) × Gains old gave more × AreRequestedOnce (replies ++ more) × AreOfName name more)
  requested_if_err (Ok x) = tt
  requested_if_err (Err e) = requested_at_most replies learnt from name proper new old gave (inr (facts.0, facts.1, facts.2))

-- the name is settled once the tree was asked for it
pub settled_if_ok : {E : Type 0} (replies : List Reply) (now : Learnt) (name : List ℕ) (old gave : Option (List Reply)) (result : Result (Unit {0}) E)
    → IfOk result (λ _. (reply : Reply) × Gains old gave (reply ∷ []) × IsLearntFrom (replies ++ reply ∷ []) now × (reply.name ≡ name))
    → IfOk result (λ _. (more : List Reply) × Gains old gave more × IsLearntFrom (replies ++ more) now × IsSettled (replies ++ more) name × AreOfName name more)
settled_if_ok replies now name old gave (Ok x) (reply, gains, from, is) = (reply ∷ [], gains, from, settled_last replies reply name is, one_of_name name reply is)
settled_if_ok replies now name old gave (Err e) facts = tt

-- the name was added
pub added_if_ok : {E : Type 0} (learnt now : Learnt) (name : List ℕ) → is_name name ≡ true → (Contains learnt.requested name → ⊥) → (image : Option FileImage) (result : Result (Unit {0}) E)
    → IfOk result (λ _. now.requested ≡ learnt.requested ++ name ∷ []) → IfOk result (λ _. now.files ≡ learnt.files ++ files_named name image) → IfOk result (λ _. Adds name learnt now)
added_if_ok learnt now name proper new image (Ok x) requested files = record { named = proper; first = new; image = image; requested = requested; files = files }
added_if_ok learnt now name proper new image (Err e) requested files = tt

pub grown_if_ok : {E : Type 0} (old now : Learnt) (name : List ℕ) (result : Result (Unit {0}) E) → IfOk result (λ _. Adds name old now) → IfOk result (λ _. GrowsBy name old now)
grown_if_ok old now name (Ok x) added = inr added
grown_if_ok old now name (Err e) added = tt
