use Rattle.std.proofs.Common.{◌≡◌, ◌∙◌, ◌++◌, ◌∷◌, ℕ, List, append_assoc, map, ap, sym}
use Rattle.std.specs.Prelude.{codes}
use Rattle.std.proofs.lemmas.Grind.{flat_map-append}
use Rattle.std.proofs.lemmas.List.{map-append}
use Rattle.std.proofs.lemmas.Simd.{map-map}
use Rattle.zic_layouts.specs.RowField.{fields_of}
use Rattle.zic_layouts.specs.declared.row_field.RowField.{RowField}
use Rattle.zic_piece_rows.specs.LayoutRows.{following}
use Rattle.zic_convert.specs.Column.{delimited, name_among}
use Rattle.zic_convert.proofs.FieldNames.{following_names}
use Rattle.zic_convert.proofs.names.push_added.Goals as goal

pub returns-in-Some-clause-items : goal.returns-in-Some-clause-items
returns-in-Some-clause-items c =
    let layout = c.args.layout.now in
    let d = layout.delimiter in
    let text = c.args.text.now.items in
    let among : RowField → List ℕ = name_among layout.fields layout.from in
    let fields = fields_of layout.fields layout.from in
    let names = map among fields in
    let others = following layout.start names in
    let begin : List ℕ → List ℕ = λ name. layout.prefix ++ name in
    let of_old : List ℕ → List ℕ = λ name. codes "old_" ++ name in
    let own = map begin others in
    let old = map (λ (name : List ℕ). begin (of_old name)) names in
    let follow : c.following.result.now ≡ following layout.start fields = c.following.ensures ∙ ap (following layout.start) c.fields-fields.ensures.fields in
    let named : c.push_names.new.text.items ≡ text ++ delimited d (map begin (map among (following layout.start fields))) =
    rw (c.name_start.ensures.delimiter, c.name_start.ensures.prefix, c.name_start.ensures.release, follow) at c.push_names.ensures.items in
    let first : c.push_names.new.text.items ≡ text ++ delimited d own = named ∙ ap (λ (l : List (List ℕ)). text ++ delimited d (map begin l)) (sym (following_names layout.start among fields)) in
    let then : c.push_names-in-Some.new.text.items ≡ c.push_names.new.text.items ++ delimited d old =
    rw (c.name_start-in-Some.ensures.delimiter, c.name_start-in-Some.ensures.prefix, c.name_start-in-Some.ensures.release, c.fields-fields.ensures.fields) at c.push_names-in-Some.ensures.items in
    let both : map begin (others ++ map of_old names) ≡ own ++ old = map-append begin others (map of_old names) ∙ ap (λ (l : List (List ℕ)). own ++ l) (map-map begin of_old names) in
    let all : delimited d (map begin (others ++ map of_old names)) ≡ delimited d own ++ delimited d old =
    ap (λ (l : List (List ℕ)). delimited d l) both ∙ flat_map-append (λ (name : List ℕ). d ∷ name) own old in
    rw c.in-Some.is
    (then ∙ ap (λ (l : List ℕ). l ++ delimited d old) first ∙ append_assoc text (delimited d own) (delimited d old) ∙ ap (λ (l : List ℕ). text ++ l) (sym all))
