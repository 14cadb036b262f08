use Rattle.std.proofs.Common.{◌≡◌, ◌+◌, ℕ, List, [], ◌∷◌, ◌++◌, Result, Ok, Err, replicate, ap, ◌∙◌}
use Rattle.std.specs.Bool.{if◌then◌else◌}
use Rattle.std.specs.List.{flat_map}
use Rattle.std.specs.Result.{OnOk, is_ok}
use Rattle.byteorder.specs.Endian.{big_bytes}
use Rattle.zic_tzif.proofs.WriteLists.{three_after}
use Rattle.zic_tzif.proofs.writer.put_header.Goals as goal

-- a list that a call extends is all that is to be written
extended : {T E : Type 0} (r : Result T E) (new old more all : List ℕ) → new ≡ (if is_ok r then old ++ more else old) → old ++ more ≡ all → OnOk r (new ≡ all)
extended (Ok x) new old more all is same = is ∙ same
extended (Err e) new old more all is same = tt

pub returns : goal.returns
returns c =
    let front = c.args.out.now.items in
    let mark : List ℕ = 84 ∷ 90 ∷ 105 ∷ 102 ∷ (48 + c.args.version) ∷ [] in
    let reserved : List ℕ = replicate 15 0 in
    let counts = flat_map (big_bytes 4) (0 ∷ 0 ∷ 0 ∷ c.args.transitions ∷ c.args.types ∷ c.args.characters ∷ []) in
    let written : List ℕ = c.write_u32_into.new.dst in
    extended c.extend_from_slice-3.result _ c.extend_from_slice-2.new.self.items written _ c.extend_from_slice-3.ensures.items
    (ap (λ (xs : List ℕ). xs ++ written) c.in_ok-extend_from_slice-2.ensures.items
    ∙ ap (λ (xs : List ℕ). (xs ++ reserved) ++ written) c.in_ok-extend_from_slice.ensures.items
    ∙ ap (λ (bytes : List ℕ). ((front ++ mark) ++ reserved) ++ bytes) c.write_u32_into.ensures
    ∙ three_after front mark reserved counts)
