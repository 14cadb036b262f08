-- What is told by one name more.
use Rattle.std.proofs.Common.{◌≡◌, ◌<◌, ◌+◌, ℕ, List, [], ◌∷◌, ◌++◌, Option, length, take, map, get_or, sym, subst, ap, ◌∙◌}
use Rattle.std.specs.Prelude.{Contains}
use Rattle.std.proofs.lemmas.List.{map-append, take_more}
use Rattle.std.proofs.lemmas.List.Elements.{All-append, All-push, All-weaker, Contains-append_left, Contains-push}
use Rattle.zic_files.specs.File.{File}
use Rattle.zic_files.specs.Tree.{AreOfName, Gains, IsLearntFrom, IsSettled, Learnt, Reply}
use Rattle.zic_compare.specs.Reading.{IsReadAt}
use Rattle.zic_compare.specs.Verifying.{AreExtras, IsExtraLine}
use Rattle.zic_compare.proofs.FilesLemmas.{joined_more, zip_more}
use Rattle.zic_compare.proofs.VerifyLemmas.{gains_both}

-- one text more
pub text_more : {X : Type 0} (f : X → List ℕ) (xs : List X) (i : ℕ) (x : X) (text : List ℕ) → i < length xs → x ≡ get_or xs i x → text ≡ f x
    → map f (take i xs) ++ text ∷ [] ≡ map f (take (i + 1) xs)
text_more f xs i x text lt at is =
    ap (λ (t : List ℕ). map f (take i xs) ++ t ∷ []) (is ∙ ap f at)
    ∙ sym (ap (map f) (take_more xs i x lt) ∙ map-append f (take i xs) (get_or xs i x ∷ []))

-- what is settled stays so
settled_on : (replies more : List Reply) (name : List ℕ) → IsSettled replies name → IsSettled (replies ++ more) name
settled_on replies more name settled proper =
    let has = settled proper in
    let wide = Contains-append_left replies more has.1 (has.0, has.2, has.3) in
    (wide.0, has.1, wide.1, wide.2, has.4)

pub read_more : (names : List (List ℕ)) (name : List ℕ) (old mid new : Option (List Reply)) (before after : Learnt) (was : IsReadAt names old mid before)
    → (more : List Reply) × Gains mid new more × IsLearntFrom (was.replies ++ more) after × IsSettled (was.replies ++ more) name × AreOfName name more
    → IsReadAt (names ++ name ∷ []) old new after
read_more names name old mid new before after was facts =
    let all = names ++ name ∷ [] in
    let replies = was.replies ++ facts.0 in
    record {
      replies = replies;
      gained = gains_both old mid new was.replies facts.0 was.gained facts.1;
      from = facts.2;
      settled = All-push (IsSettled replies) names name
          (All-weaker (IsSettled was.replies) (IsSettled replies) (λ n s. settled_on was.replies facts.0 n s) names was.settled) facts.3;
      among = All-append (λ (r : Reply). Contains all r.name) was.replies facts.0
          (All-weaker (λ (r : Reply). Contains names r.name) (λ r. Contains all r.name) (λ r has. Contains-append_left names (name ∷ []) r.name has) was.replies was.among)
          (All-weaker (λ (r : Reply). r.name ≡ name) (λ r. Contains all r.name) (λ r is. subst (Contains all) (sym is) (Contains-push names name)) facts.0 facts.4);
    }

pub extras_more : (files : List File) (names : List (List ℕ)) (name lines next : List ℕ) → AreExtras files names lines
    → (more : List ℕ) × IsExtraLine files name more × (next ≡ lines ++ more) → AreExtras files (names ++ name ∷ []) next
extras_more files names name lines next was facts = record {
  of_names = was.of_names ++ facts.0 ∷ [];
  each = zip_more (IsExtraLine files) names was.of_names name facts.0 was.each facts.1;
  are_lines = facts.2 ∙ ap (λ (l : List ℕ). l ++ facts.0) was.are_lines ∙ sym (joined_more was.of_names facts.0);
}
