-- What is learnt of a tree.
use Rattle.std.proofs.Common.{◌≡◌, ℕ, inl, inr, List, [], ◌∷◌, ◌++◌, Option, Some, None, ap, refl, sym, subst, arith}
use Rattle.std.specs.Prelude.{All, Contains, OnOk, Ok, Err, Result}
use Rattle.std.proofs.lemmas.List.Elements.{All-weaker, Contains-append_cases, Contains-append_left, Contains-append_right}
use Rattle.zic_base.proofs.Elements.{only_one}
use Rattle.zic_files.specs.File.{File, FileImage}
use Rattle.zic_files.specs.Tree.{AreOfName, Gains, GrowsBy, IsKnown, IsLearntFrom, IsSettled, Learnt, Reply, files_named}
use Rattle.zic_zones.specs.Tree.{Grows, TreeOf}
use Rattle.zic_zones.specs.code.Ready.{AreReady}
use Rattle.zic_zones.specs.declared.ready.Ready.{Ready}
use Rattle.zic_zones.proofs.Readying.{files_added}

-- ---- what a name adds

name_of_one : (name : List ℕ) (image : Option FileImage) (file : File) → Contains (files_named name image) file → file.name ≡ name
name_of_one name None file has = absurd (omega (arith, has.1))
name_of_one name (Some image) file has = ap (λ (f : File). f.name) (sym (only_one (record { name = name; image = image }) file has))

module _ (name : List ℕ) (old new : Learnt) (grows : GrowsBy name old new) where
  pub known_then : IsKnown new name
  known_then proper = elim grows [
    | inl same ↦ subst (λ (l : Learnt). Contains l.requested name) (sym same.1) (same.0 proper)
    | inr adds ↦ subst (λ (l : List (List ℕ)). Contains l name) (sym adds.requested) (Contains-append_right old.requested (name ∷ []) name (0, omega arith, refl))
  ]

  requested_still : (other : List ℕ) → Contains old.requested other → Contains new.requested other
  requested_still other has = elim grows [
    | inl same ↦ subst (λ (l : Learnt). Contains l.requested other) (sym same.1) has
    | inr adds ↦ subst (λ (l : List (List ℕ)). Contains l other) (sym adds.requested) (Contains-append_left old.requested (name ∷ []) other has)
  ]

  files_still : (file : File) → Contains old.files file → Contains new.files file
  files_still file has = elim grows [
    | inl same ↦ subst (λ (l : Learnt). Contains l.files file) (sym same.1) has
    | inr adds ↦ subst (λ (l : List File). Contains l file) (sym adds.files) (Contains-append_left old.files (files_named name adds.image) file has)
  ]

  only_before : (file : File) → Contains new.files file → IsKnown old file.name → Contains old.files file
  only_before file has known = elim grows [
    | inl same ↦ subst (λ (l : Learnt). Contains l.files file) same.1 has
    | inr adds ↦ elim (Contains-append_cases old.files (files_named name adds.image) file (subst (λ (l : List File). Contains l file) adds.files has)) [
      | inl before ↦ before
      | inr added ↦
          let is = name_of_one name adds.image file added in
          absurd (adds.first (subst (Contains old.requested) is (known (rw is adds.named))))
    ]
  ]

  -- the texts of the files that were learnt before
  pub ready_still : (ready : Ready) → AreReady old.files ready → AreReady new.files ready
  ready_still ready are = elim grows [
    | inl same ↦ subst (λ (l : Learnt). AreReady l.files ready) (sym same.1) are
    | inr adds ↦ subst (λ (l : List File). AreReady l ready) (sym adds.files) (files_added old.files (files_named name adds.image) ready are)
  ]

-- ---- a call

pub grows_by : {T : Type 0} (replied : T → Option (List Reply)) (old new : TreeOf T) (name : List ℕ)
    → ((replies : List Reply) → IsLearntFrom replies old.learnt
    → (more : List Reply) × Gains (replied old.tree) (replied new.tree) more × IsLearntFrom (replies ++ more) new.learnt × IsSettled (replies ++ more) name × AreOfName name more)
    → GrowsBy name old.learnt new.learnt → Grows replied old new
grows_by replied old new name facts grows = record {
  replies = λ replies from. let (more, gains, learnt, settled, of_name) = facts replies from in (more, gains, learnt);
  requested = requested_still name old.learnt new.learnt grows;
  files = files_still name old.learnt new.learnt grows;
  only = only_before name old.learnt new.learnt grows;
}

pub on_ok : {X E : Type 0} (result : Result X E) (P : Type 0) → P → OnOk result P
on_ok (Ok x) P p = p
on_ok (Err e) P p = tt

-- ---- what grew, and broke then

-- names that are known stay so
pub known_on : {T : Type 0} (replied : T → Option (List Reply)) (a b : TreeOf T) (name : List ℕ) → Grows replied a b → IsKnown a.learnt name → IsKnown b.learnt name
known_on replied a b name grows known proper = grows.requested name (known proper)

pub all_known_on : {T : Type 0} (replied : T → Option (List Reply)) (a b : TreeOf T) (names : List (List ℕ)) → Grows replied a b → All (IsKnown a.learnt) names → All (IsKnown b.learnt) names
all_known_on replied a b names grows known = All-weaker (IsKnown a.learnt) (IsKnown b.learnt) (λ name is. known_on replied a b name grows is) names known
