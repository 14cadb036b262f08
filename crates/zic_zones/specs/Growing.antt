-- The laws of the zones of a tree, where what was learnt grows, and of the zones of two releases.
use Rattle.std.proofs.Common.{subst, sym, ap, append_assoc, ◌∙◌}
use Rattle.std.proofs.lemmas.List.{append-nil}
use Rattle.std.specs.Prelude.{ℕ, List, [], ◌++◌, Option, None, Some}
use Rattle.zic_files.specs.File.{File}
use Rattle.zic_files.specs.Tree.{Gains, IsKnown, IsLearntFrom, Learnt, Reply}
use Rattle.zic_zones.specs.Tree.{Grows, MayHave, TreeOf}
use Rattle.zic_zones.specs.Compared.{MayCompare, compared}
use Rattle.zic_zones.specs.Zones.{Agree, OldAgree, ReleasesAgree, alone}
use Rattle.zic_zones.specs.declared.zones.Releases.{Releases}

gains_none : (replied : Option (List Reply)) → Gains replied replied []
gains_none None = tt
gains_none (Some replies) = sym (append-nil replies)

pub gains_on : (a b c : Option (List Reply)) (xs ys : List Reply) → Gains a b xs → Gains b c ys → Gains a c (xs ++ ys)
gains_on None b c xs ys first second = tt
gains_on (Some a) None c xs ys first second = absurd first
gains_on (Some a) (Some b) None xs ys first second = absurd second
gains_on (Some a) (Some b) (Some c) xs ys first second = second ∙ ap (λ (l : List Reply). l ++ ys) first ∙ append_assoc a xs ys

-- Nothing more was requested.
pub grows_same : {T : Type 0} (replied : T → Option (List Reply)) (z : TreeOf T) → Grows replied z z
grows_same replied z = record {
  replies = λ replies from. ([], gains_none (replied z.tree), subst (λ (l : List Reply). IsLearntFrom l z.learnt) (sym (append-nil replies)) from);
  requested = λ name has. has;
  files = λ file has. has;
  only = λ file has known. has;
}

-- More was requested, and then still more.
pub grows_then : {T : Type 0} (replied : T → Option (List Reply)) (a b c : TreeOf T) → Grows replied a b → Grows replied b c → Grows replied a c
grows_then replied a b c first second = record {
  replies = λ replies from.
      let (more, gains, learnt) = first.replies replies from in
      let (others, gains_others, learnt_others) = second.replies (replies ++ more) learnt in (
        more ++ others,
        gains_on (replied a.tree) (replied b.tree) (replied c.tree) more others gains gains_others,
        subst (λ (l : List Reply). IsLearntFrom l c.learnt) (append_assoc replies more others) learnt_others,
      );
  requested = λ name has. second.requested name (first.requested name has);
  files = λ file has. second.files file (first.files file has);
  only = λ file has known. first.only file (second.only file has (λ proper. first.requested file.name (known proper))) known;
}

-- Files that agree with what was learnt agree with what was learnt before.
pub grows_narrows : {T : Type 0} (replied : T → Option (List Reply)) (a b : TreeOf T) (releases : Releases) → Grows replied a b → MayHave b.learnt releases → MayHave a.learnt releases
grows_narrows replied a b releases grows are = record {
  agree = record {
    sound = are.agree.sound;
    still = λ file has. are.agree.still file (grows.files file has);
    only = λ file has known. grows.only file (are.agree.only file has (λ proper. grows.requested file.name (known proper))) known;
  };
  alone = are.alone;
}

-- They agree with those that are known.
pub grows_agrees : (learnt : Learnt) (releases : Releases) → MayHave learnt releases → ReleasesAgree (IsKnown learnt) (alone learnt.files) releases
grows_agrees learnt releases are = record {
  zones = are.agree;
  old = subst (λ (old : Option (List File)). OldAgree (IsKnown learnt) None old) (sym are.alone) tt;
}

-- If each of two releases may have fewer files, so may both together.
pub compared_narrows : (MayBe OldMayBe MayBe' OldMayBe' : Releases → Type 0) (releases : Releases)
    → ((r : Releases) → MayBe' r → MayBe r) → ((r : Releases) → OldMayBe' r → OldMayBe r)
    → MayCompare MayBe' OldMayBe' releases → MayCompare MayBe OldMayBe releases
compared_narrows MayBe OldMayBe MayBe' OldMayBe' releases narrows old_narrows may = record {
  new = may.new;
  old = may.old;
  may_be = narrows may.new may.may_be;
  old_may_be = old_narrows may.old may.old_may_be;
  are = may.are;
}

-- They agree with what is known, and a name is settled once it is settled in both.
pub compared_agrees : (Settled OldSettled : List ℕ → Type 0) (MayBe OldMayBe : Releases → Type 0) (known old_known releases : Releases)
    → ((r : Releases) → MayBe r → ReleasesAgree Settled known r) → ((r : Releases) → OldMayBe r → ReleasesAgree OldSettled old_known r)
    → MayCompare MayBe OldMayBe releases → ReleasesAgree (λ name. Settled name × OldSettled name) (compared known old_known) releases
compared_agrees Settled OldSettled MayBe OldMayBe known old_known releases agree old_agree may =
    rw may.are (record { zones = fewer.0; old = fewer.1 }) where
      ours : Agree Settled known.zones may.new.zones
      ours = (agree may.new may.may_be).zones

      others : Agree OldSettled old_known.zones may.old.zones
      others = (old_agree may.old may.old_may_be).zones

      fewer : Agree (λ name. Settled name × OldSettled name) known.zones may.new.zones × Agree (λ name. Settled name × OldSettled name) old_known.zones may.old.zones
      fewer = (
        record { sound = ours.sound; still = ours.still; only = λ file has settled. ours.only file has settled.0 },
        record { sound = others.sound; still = others.still; only = λ file has settled. others.only file has settled.1 },
      )
