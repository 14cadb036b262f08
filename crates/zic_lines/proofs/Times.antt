-- Times, part by part.
use Rattle.std.proofs.Common.{◌≡◌, ℕ, eqb, List, [], ◌∷◌, None, refl, ap, ◌∙◌}
use Rattle.std.specs.List.{slice_split}
use Rattle.zic_base.specs.Number.{number}
use Rattle.zic_lines.specs.Parts.{one_or_two, split_at_most_once}
use Rattle.zic_lines.specs.Time.{magnitude, signed_seconds, time_of_parts, whole_seconds}
use Rattle.zic_lines.proofs.Splits.{first_part}

too_many : (hours first : List ℕ) (others : List (List ℕ)) → one_or_two (first ∷ others) ≡ None → time_of_parts (hours ∷ first ∷ others) ≡ None
too_many hours first [] e = absurd cc
too_many hours first (other ∷ []) e = absurd cc
too_many hours first (other ∷ more ∷ parts) e = refl

-- what has more than two parts after the hours is no time
pub no_more_parts : (text hours rest : List ℕ) → slice_split (λ byte. eqb byte 58) text ≡ hours ∷ slice_split (λ byte. eqb byte 58) rest → None ≡ split_at_most_once rest 58
    → None ≡ magnitude text
unfolding magnitude split_at_most_once
no_more_parts text hours rest parts none =
    let first = first_part (λ byte. eqb byte 58) rest in
    let many : one_or_two (first.0 ∷ first.1) ≡ None = cc (first.2, none) in
    cc (ap time_of_parts (parts ∙ ap (λ (ps : List (List ℕ)). hours ∷ ps) first.2), too_many hours first.0 first.1 many)

-- a time has hours
pub no_time : (limit : ℕ) → signed_seconds limit [] ≡ None
unfolding signed_seconds whole_seconds magnitude number
no_time limit = refl
