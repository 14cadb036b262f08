-- What holds of the types of a block that passes its checks.
use Rattle.std.proofs.Common.{◌≡◌, ℕ, ◌<◌, true, List, [], ◌∷◌, length, map, All}
use Rattle.std.specs.List.{list_all}
use Rattle.std.proofs.lemmas.Bool.{and_parts, ltb-true, leb-true}
use Rattle.std.proofs.lemmas.List.Elements.{All-nil, All-cons}
use Rattle.zic_tzif.specs.Content.{IsLocalType}
use Rattle.zic_tzif.specs.Designation.{is_designated}
use Rattle.zic_tzif.specs.Block.{type_in, is_type_record}

pub types_read : (names : List ℕ) (records : List (List ℕ)) → list_all (λ r. is_designated names (type_in r).place) records ≡ true → list_all is_type_record records ≡ true → All (IsLocalType names) (map type_in records)
types_read names [] d t = All-nil (IsLocalType names)
types_read names (r ∷ rs) d t =
    let designated = and_parts (is_designated names (type_in r).place) (list_all (λ r. is_designated names (type_in r).place) rs) d in
    let right = and_parts (is_type_record r) (list_all is_type_record rs) t in
    let flag_offset = and_parts _ _ right.0 in
    All-cons (IsLocalType names) (type_in r) (map type_in rs) (record { offset = leb-true _ _ flag_offset.1; designation = designated.0 }) (types_read names rs designated.1 right.1)

-- a place that begins a designation is inside
pub place_inside : (names : List ℕ) (place : ℕ) → is_designated names place ≡ true → place < length names
place_inside names place e =
    let a = and_parts _ _ e in
    let b = and_parts _ _ a.0 in
    ltb-true place (length names) b.0
