-- What is meant by a local time, as a function of a file's bytes.
use Rattle.std.proofs.Common.{◌≡◌, ℕ, ℤ, inl, inr, ◌-ℤ◌, List, [], ◌∷◌, ◌++◌, Option, Result, Ok, Err, refl, subst, sym, arith}
use Rattle.std.specs.Prelude.{MatchResult}
use Rattle.std.proofs.lemmas.Int.{ints}
use Rattle.zic_base.specs.State.{Shown}
use Rattle.zic_layouts.specs.declared.disambiguation.Disambiguation.{Disambiguation}
use Rattle.zic_layouts.specs.declared.disambiguation.Disambiguation.TheVariants as choice
use Rattle.zic_tzif.specs.Answer.{Answers}
use Rattle.zic_tzif.specs.Content.{Content}
use Rattle.zic_tzif.specs.Reading.{IsFile, content_in}
use Rattle.zic_tzif.proofs.AnswerLemmas.{answer_at}
use Rattle.zic_tzif.proofs.Passed.{have_types, rising, some_type}
use Rattle.zic_local.specs.declared.local_time.Unresolved.{Unresolved}
use Rattle.zic_local.specs.declared.local_time.Unresolved.TheVariants as unresolved
use Rattle.zic_local.specs.declared.local_time.LocalInstants.{LocalInstants}
use Rattle.zic_local.specs.declared.local_time.LocalInstants.TheVariants as instants
use Rattle.zic_local.specs.LocalTime.{AnswersLocal}
use Rattle.zic_local.specs.Choice.{IsUnresolved, Means}
use Rattle.zic_local.proofs.Choices.{first_of, last_of, means_only}
use Rattle.zic_local.proofs.Deciding.{IsDecided, IsRead, decide_file}
use Rattle.zic_local.proofs.Existing.{some_known}
use Rattle.zic_local.proofs.Offsets.{have_offsets}

module _ (content : Content) (local : ℤ) where
  abbrev pub IsResolved : Disambiguation → Result ℤ Unresolved → Type 0
  IsResolved disambiguation result = MatchResult result (Means content local disambiguation) (IsUnresolved content local disambiguation)

  abbrev pub HasResolved : Disambiguation → Type 0
  HasResolved disambiguation = (result : Result ℤ Unresolved) × IsResolved disambiguation result

  -- each choice means something by what is told
  resolve : (disambiguation : Disambiguation) (given : LocalInstants) → AnswersLocal content local given → HasResolved disambiguation
  resolve disambiguation (instants.One t) tells = (Ok t, means_only content local disambiguation t tells)
  resolve disambiguation instants.Unspecified tells = (Err unresolved.Unspecified, tells)
  resolve choice.Reject (instants.Fold fold) tells = (Err unresolved.Fold, (refl, (fold, tells)))
  resolve choice.Earlier (instants.Fold fold) tells = (Ok fold.first, inl (first_of content local fold.first (tells.between ++ fold.last ∷ []) tells.are))
  resolve choice.Later (instants.Fold fold) tells = (Ok fold.last, inl (last_of content local (fold.first ∷ tells.between) fold.last tells.are))
  resolve choice.Compatible (instants.Fold fold) tells = (Ok fold.first, inl (first_of content local fold.first (tells.between ++ fold.last ∷ []) tells.are))
  resolve choice.Reject (instants.Gap gap) tells = (Err unresolved.Gap, (refl, (gap, tells)))
  resolve choice.Earlier (instants.Gap gap) tells = (Ok (local -ℤ gap.after), inr (record { gap = gap; in_gap = tells; is = omega (arith, ints) }))
  resolve choice.Later (instants.Gap gap) tells = (Ok (local -ℤ gap.before), inr (record { gap = gap; in_gap = tells; is = omega (arith, ints) }))
  resolve choice.Compatible (instants.Gap gap) tells = (Ok (local -ℤ gap.before), inr (record { gap = gap; in_gap = tells; is = omega (arith, ints) }))

module _ (octets : List ℕ) (local : ℤ) (disambiguation : Disambiguation) where
  answers : IsRead octets → (t : ℤ) → (answer : Option Shown) × Answers (content_in octets) t answer
  answers file t = answer_at (content_in octets) t (rising octets file.passes) (have_types octets file.passes) (some_type octets file.passes) file.footer

  of_file : IsRead octets → HasResolved (content_in octets) local disambiguation
  of_file file =
      let given = some_known (content_in octets) local (have_offsets octets (content_in octets) file) (answers file) in
      resolve (content_in octets) local disambiguation given.0 given.1

  by_decision : IsDecided (IsRead octets) → Result ℤ Unresolved
  by_decision (inl file) = (of_file file).0
  by_decision (inr none) = Err unresolved.Unspecified

  -- what is meant by the file of these bytes, where they are one
  pub resolved_by : Result ℤ Unresolved
  resolved_by = by_decision (decide_file octets)

  decided : (is : IsDecided (IsRead octets)) → IsRead octets → IsResolved (content_in octets) local disambiguation (by_decision is)
  unfolding by_decision of_file
  decided (inl file) read = (of_file file).1
  decided (inr none) read = absurd (none read)

  pub resolved_is : (content : Content) → IsFile octets content → IsResolved content local disambiguation resolved_by
  unfolding resolved_by
  resolved_is content file =
      let read : IsRead octets = subst (λ (c : Content). IsFile octets c) file.says file in
      subst (λ (c : Content). IsResolved c local disambiguation resolved_by) (sym file.says) (decided (decide_file octets) read)
