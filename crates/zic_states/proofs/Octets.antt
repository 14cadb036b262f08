-- How an abbreviation is kept in 16 octets.
use Rattle.std.proofs.Common.{◌≡◌, ℕ, true, ◌++◌, List, length, replicate, drop, refl}
use Rattle.std.proofs.lemmas.List.{take_at, drop-replicate}
use Rattle.zic_base.specs.declared.constants.TheConstants.{LONGEST_ABBREVIATION}
use Rattle.zic_lines.specs.Limits.{is_abbreviation}
use Rattle.zic_states.specs.code.Octets.{HoldAbbreviation}

-- an abbreviation written over the front of 16 zeros
pub written_over : (name written : List ℕ) → written ≡ name → is_abbreviation name ≡ true → HoldAbbreviation (written ++ drop (length name) (replicate LONGEST_ABBREVIATION 0)) (length name)
written_over name written e good =
    let zeros : List ℕ = drop (length name) (replicate LONGEST_ABBREVIATION 0) in
    let front = take_at name zeros (length name) refl in
    rw e (record { zeros = rw (front, drop-replicate {X = ℕ} (length name) LONGEST_ABBREVIATION 0); within = rw front; name = rw front good })
