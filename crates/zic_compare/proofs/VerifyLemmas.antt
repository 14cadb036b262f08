-- The lines of files that a tree doesn't have as they are.
use Rattle.std.proofs.Common.{◌≡◌, ℕ, ◌+◌, ◌<◌, Bool, true, false, inl, inr, List, [], ◌∷◌, ◌++◌, length, map, take, Option, Some, None, refl, sym, ap, subst, ◌∙◌, arith, append_assoc, append-nil, length-append}
use Rattle.std.specs.Prelude.{IfSome, bytes_eq, codes, if◌then◌else◌, slice_get}
use Rattle.std.proofs.lemmas.List.{map-append, take_all, take_more}
use Rattle.std.proofs.lemmas.Option.{slice_get_cases}
use Rattle.std.proofs.lemmas.Slice.Eq.{bytes_eq-Decides}
use Rattle.zic_files.specs.File.{File}
use Rattle.zic_files.specs.Tree.{Gains, Reply, reply_of}
use Rattle.zic_compare.specs.Verifying.{AreFindings, finding, finding_line, findings, HasFiles}

-- a tree that is as it was gained nothing
pub gains_none : (tree : Option (List Reply)) → Gains tree tree []
gains_none None = tt
gains_none (Some replies) = sym (append-nil replies)

-- and what it gained twice in turn it gained together
pub gains_both : (old mid new : Option (List Reply)) (first second : List Reply) → Gains old mid first → Gains mid new second → Gains old new (first ++ second)
gains_both None mid new first second p q = tt
gains_both (Some a) None new first second p q = absurd p
gains_both (Some a) (Some b) None first second p q = absurd q
gains_both (Some a) (Some b) (Some c) first second p q = q ∙ ap (λ (l : List Reply). l ++ second) p ∙ append_assoc a first second

abbrev pub names_of_files : List File → List (List ℕ)
names_of_files files = map (λ (file : File). file.name) files

abbrev pub names_of_replies : List Reply → List (List ℕ)
names_of_replies replies = map (λ (reply : Reply). reply.name) replies

same_tail : (a b : List ℕ) (xs ys : List (List ℕ)) → a ∷ xs ≡ b ∷ ys → xs ≡ ys
same_tail a b xs ys same = cc

same_head : (a b : List ℕ) (xs ys : List (List ℕ)) → a ∷ xs ≡ b ∷ ys → a ≡ b
same_head a b xs ys same = cc

-- one file more
findings_push : (files : List File) (replies : List Reply) (file : File) (reply : Reply) → names_of_replies replies ≡ names_of_files files
    → findings (files ++ file ∷ []) (replies ++ reply ∷ []) ≡ findings files replies ++ finding file reply.octets
findings_push [] [] file reply same = append-nil (finding file reply.octets)
findings_push [] (r ∷ replies) file reply same = absurd cc
findings_push (f ∷ files) [] file reply same = absurd cc
findings_push (f ∷ files) (r ∷ replies) file reply same =
    ap (λ (l : List ℕ). finding f r.octets ++ l)
    (findings_push files replies file reply (same_tail r.name f.name (names_of_replies replies) (names_of_files files) same))
    ∙ sym (append_assoc (finding f r.octets) (findings files replies) (finding file reply.octets))

pub finding_more : (files : List File) (i : ℕ) (old mid new : Option (List Reply)) (lines more : List ℕ) → i < length files → AreFindings (take i files) old mid lines
    → IfSome (slice_get files i) (λ file. (octets : Option (List ℕ)) × Gains mid new (record { name = file.name; octets = octets } ∷ []) × (more ≡ lines ++ finding file octets))
    → AreFindings (take (i + 1) files) old new more
finding_more files i old mid new lines more lt before next =
    elim (slice_get_cases files i).1 [
      | inl some ↦
          let file = some.0 in
          let facts : (octets : Option (List ℕ)) × Gains mid new (record { name = file.name; octets = octets } ∷ []) × (more ≡ lines ++ finding file octets) = rw some.2 at next in
          let reply : Reply = record { name = file.name; octets = facts.0 } in
          let is : take (i + 1) files ≡ take i files ++ file ∷ [] = rw some.3 at (take_more files i file lt) in
          let whole : AreFindings (take i files ++ file ∷ []) old new more = record {
            replies = before.replies ++ reply ∷ [];
            requested = record {
              names = map-append (λ (r : Reply). r.name) before.replies (reply ∷ []) ∙ ap (λ (l : List (List ℕ)). l ++ file.name ∷ []) before.requested.names
                  ∙ sym (map-append (λ (f : File). f.name) (take i files) (file ∷ []));
              gained = gains_both old mid new before.replies (reply ∷ []) before.requested.gained facts.1;
            };
            are_lines = facts.2 ∙ ap (λ (l : List ℕ). l ++ finding file facts.0) before.are_lines ∙ sym (findings_push (take i files) before.replies file reply before.requested.names);
          } in
          subst (λ (fs : List File). AreFindings fs old new more) (sym is) whole
      | inr past ↦ absurd (omega (arith, lt, past.0))
    ]

-- ---- nothing is told

left_none : (xs ys : List ℕ) → [] ≡ xs ++ ys → xs ≡ []
left_none [] ys e = refl
left_none (x ∷ xs) ys e = absurd cc

right_none : (xs ys : List ℕ) → [] ≡ xs ++ ys → [] ≡ ys
right_none [] ys e = e
right_none (x ∷ xs) ys e = absurd cc

some_line : (word name : List ℕ) → finding_line word name ≡ [] → ⊥
some_line word name e =
    let long = ap (λ (xs : List ℕ). length xs) e in
    omega (arith, long, length-append word (name ++ 10 ∷ []), length-append name (10 ∷ []))

by_test : (test : Bool) (line : List ℕ) → (if test then [] else line) ≡ [] → (line ≡ [] → ⊥) → test ≡ true
by_test true line e some = refl
by_test false line e some = absurd (some e)

-- of a file that the tree has as it is
pub found : (file : File) (octets : Option (List ℕ)) → finding file octets ≡ [] → octets ≡ Some file.image.octets
found file None e = absurd (some_line (codes "missing ") file.name e)
found file (Some octets) e =
    let test = by_test (bytes_eq octets file.image.octets) (finding_line (codes "differs ") file.name) e (some_line (codes "differs ") file.name) in
    ap (λ (l : List ℕ). Some l) ((bytes_eq-Decides octets file.image.octets).0 test)

abbrev reply : List ℕ → Option (List ℕ) → Reply
reply name octets = record { name = name; octets = octets }

-- the tree has all files
pub all_found : (files : List File) (replies : List Reply) → names_of_replies replies ≡ names_of_files files → [] ≡ findings files replies → replies ≡ map reply_of files
all_found [] [] same none = refl
all_found [] (r ∷ replies) same none = absurd cc
all_found (f ∷ files) [] same none = absurd cc
all_found (f ∷ files) (r ∷ replies) same none =
    let name = same_head r.name f.name (names_of_replies replies) (names_of_files files) same in
    let octets = found f r.octets (left_none (finding f r.octets) (findings files replies) none) in
    let rest = all_found files replies (same_tail r.name f.name (names_of_replies replies) (names_of_files files) same) (right_none (finding f r.octets) (findings files replies) none) in
    let first : r ≡ reply_of f = ap (λ (n : List ℕ). reply n r.octets) name ∙ ap (λ (o : Option (List ℕ)). reply f.name o) octets in
    ap (λ (x : Reply). x ∷ replies) first ∙ ap (λ (xs : List Reply). reply_of f ∷ xs) rest

-- no line is told: the tree has all files
pub has_files : (files : List File) (old new : Option (List Reply)) (lines : List ℕ) → AreFindings files old new lines → lines ≡ [] → HasFiles files old new
has_files files old new lines are none =
    let all = all_found files are.replies are.requested.names (sym none ∙ are.are_lines) in
    record {
      names = ap names_of_replies (sym all) ∙ are.requested.names;
      gained = subst (Gains old new) all are.requested.gained;
    }

-- all files were asked for
pub whole : (files : List File) (i : ℕ) (old new : Option (List Reply)) (lines : List ℕ) → i ≡ length files → AreFindings (take i files) old new lines → AreFindings files old new lines
whole files i old new lines is are = subst (λ (fs : List File). AreFindings fs old new lines) (take_all i files (omega (arith, is))) are
