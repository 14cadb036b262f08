-- Abbreviations are names of POSIX TZ strings.
use Rattle.std.proofs.Common.{◌≡◌, ℕ, List, length, true}
use Rattle.std.specs.Prelude.{◌&&◌, nat_le}
use Rattle.std.specs.List.{list_all}
use Rattle.std.proofs.lemmas.Bool.{and_parts, leb-true}
use Rattle.std.proofs.lemmas.List.Sums.{AllPass-from_list_all}
use Rattle.zic_base.specs.Byte.{is_abbreviation_byte}
use Rattle.zic_lines.specs.Limits.{is_abbreviation}
use Rattle.zic_posix.specs.Grammar.{IsName}

pub is_name : (name : List ℕ) → is_abbreviation name ≡ true → IsName name
is_name name is =
    let (lengths, bytes) = and_parts (nat_le 3 (length name) && nat_le (length name) 16) (list_all is_abbreviation_byte name) is in
    let (long, short) = and_parts (nat_le 3 (length name)) (nat_le (length name) 16) lengths in
    record { long = leb-true 3 (length name) long; bytes = AllPass-from_list_all is_abbreviation_byte name bytes }
