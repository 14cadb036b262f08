-- The parts of the second data block, cut one after the other.
use Rattle.std.proofs.Common.{◌≡◌, ℕ, ◌+◌, ◌*◌, List, take, drop, map, ap, ◌∙◌, arith}
use Rattle.std.proofs.lemmas.List.{drop-drop}
use Rattle.zic_tzif.specs.Header.{Counts, second_block, second_counts, numbers_place, types_place, names_place, indicators_place}
use Rattle.zic_tzif.specs.Block.{pieces, time_in, times_in, numbers_in, type_records, names_in, indicators_in}
use Rattle.zic_tzif.proofs.ReadPieces.{pieces-take}

-- what is left from the times on, after the times, after the numbers of types, after the records, and after the designations
pub at_times : (o : List ℕ) (place : ℕ) (rest : List ℕ) → place ≡ second_block o → rest ≡ drop place o → rest ≡ drop (second_block o) o
at_times o place rest p-is e = e ∙ ap (λ n. drop n o) p-is

pub at_numbers : (o : List ℕ) (c : Counts) (rest following : List ℕ) → c ≡ second_counts o → rest ≡ drop (second_block o) o → following ≡ drop (c.transitions * 8) rest → following ≡ drop (numbers_place o) o
at_numbers o c rest following c-is r-is e =
    e ∙ ap (λ (d : Counts). drop (d.transitions * 8) rest) c-is ∙ ap (drop ((second_counts o).transitions * 8)) r-is
    ∙ drop-drop ((second_counts o).transitions * 8) (second_block o) o

pub at_types : (o : List ℕ) (c : Counts) (rest following : List ℕ) → c ≡ second_counts o → rest ≡ drop (numbers_place o) o → following ≡ drop c.transitions rest → following ≡ drop (types_place o) o
at_types o c rest following c-is r-is e =
    let place : numbers_place o + (second_counts o).transitions ≡ types_place o = omega arith in
    e ∙ ap (λ (d : Counts). drop d.transitions rest) c-is ∙ ap (drop (second_counts o).transitions) r-is
    ∙ drop-drop (second_counts o).transitions (numbers_place o) o ∙ ap (λ n. drop n o) place

pub at_names : (o : List ℕ) (c : Counts) (rest following : List ℕ) → c ≡ second_counts o → rest ≡ drop (types_place o) o → following ≡ drop (c.types * 6) rest → following ≡ drop (names_place o) o
at_names o c rest following c-is r-is e =
    e ∙ ap (λ (d : Counts). drop (d.types * 6) rest) c-is ∙ ap (drop ((second_counts o).types * 6)) r-is
    ∙ drop-drop ((second_counts o).types * 6) (types_place o) o

pub at_indicators : (o : List ℕ) (c : Counts) (rest following : List ℕ) → c ≡ second_counts o → rest ≡ drop (names_place o) o → following ≡ drop c.characters rest → following ≡ drop (indicators_place o) o
at_indicators o c rest following c-is r-is e =
    e ∙ ap (λ (d : Counts). drop d.characters rest) c-is ∙ ap (drop (second_counts o).characters) r-is
    ∙ drop-drop (second_counts o).characters (names_place o) o

-- the parts at those places
pub times_cut : (o : List ℕ) (c : Counts) (rest times : List ℕ) → c ≡ second_counts o → rest ≡ drop (second_block o) o → times ≡ take (c.transitions * 8) rest → map time_in (pieces 8 c.transitions times) ≡ times_in o
times_cut o c rest times c-is r-is e =
    ap (map time_in)
    (ap (pieces 8 c.transitions) e ∙ pieces-take 8 c.transitions rest ∙ ap (λ (d : Counts). pieces 8 d.transitions rest) c-is ∙ ap (pieces 8 (second_counts o).transitions) r-is)

pub numbers_cut : (o : List ℕ) (c : Counts) (rest numbers : List ℕ) → c ≡ second_counts o → rest ≡ drop (numbers_place o) o → numbers ≡ take c.transitions rest → numbers ≡ numbers_in o
numbers_cut o c rest numbers c-is r-is e =
    e ∙ ap (λ (d : Counts). take d.transitions rest) c-is ∙ ap (take (second_counts o).transitions) r-is

pub records_cut : (o : List ℕ) (c : Counts) (rest records : List ℕ) → c ≡ second_counts o → rest ≡ drop (types_place o) o → records ≡ take (c.types * 6) rest → pieces 6 c.types records ≡ type_records o
records_cut o c rest records c-is r-is e =
    ap (pieces 6 c.types) e ∙ pieces-take 6 c.types rest ∙ ap (λ (d : Counts). pieces 6 d.types rest) c-is ∙ ap (pieces 6 (second_counts o).types) r-is

pub names_cut : (o : List ℕ) (c : Counts) (rest names : List ℕ) → c ≡ second_counts o → rest ≡ drop (names_place o) o → names ≡ take c.characters rest → names ≡ names_in o
names_cut o c rest names c-is r-is e =
    e ∙ ap (λ (d : Counts). take d.characters rest) c-is ∙ ap (take (second_counts o).characters) r-is

pub indicators_cut : (o : List ℕ) (c : Counts) (rest indicators : List ℕ) → c ≡ second_counts o → rest ≡ drop (indicators_place o) o → indicators ≡ take (c.standard_indicators + c.ut_indicators) rest → indicators ≡ indicators_in o
indicators_cut o c rest indicators c-is r-is e =
    e ∙ ap (λ (d : Counts). take (d.standard_indicators + d.ut_indicators) rest) c-is
    ∙ ap (take ((second_counts o).standard_indicators + (second_counts o).ut_indicators)) r-is
