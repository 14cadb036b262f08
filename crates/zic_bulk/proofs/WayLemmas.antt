-- Where symbolic links lead.
use Rattle.std.proofs.Common.{◌≡◌, ◌≢◌, ℕ, Bool, true, false, cond, eqb, not, ◌&&◌, List, [], ◌∷◌, ◌++◌, All, length, refl, sym, ap, subst, ◌∙◌, append_assoc, append-nil, arith}
use Rattle.std.specs.Prelude.{codes, nat_le, ◌==◌}
use Rattle.std.specs.List.{list_all, slice_split}
use Rattle.std.proofs.lemmas.Bool.{and_parts, eqb-false, eqb-true}
use Rattle.std.proofs.lemmas.List.Elements.{All-push, All-weaker}
use Rattle.std.proofs.lemmas.List.Splits.{slice_split_at}
use Rattle.zic_lines.specs.Dash.{is_dash}
use Rattle.zic_lines.specs.Name.{is_name_byte, is_name_part}
use Rattle.zic_lines.specs.declared.name.TheConstants.{LONGEST_NAME}
use Rattle.zic_bulk.specs.Linking.{LeadsFrom, LinkLeads, way_up}
use Rattle.zic_bulk.specs.Linking.LeadsFrom.{down, up}
use Rattle.zic_bulk.specs.Laws.{SymbolicLinksLead}

abbrev step : List ℕ
step = codes "../"

-- a step more at the end is one more at the start
last_is_first : (name : List ℕ) → way_up name ++ step ≡ step ++ way_up name
last_is_first [] = refl
last_is_first (b ∷ name) =
    let rest = last_is_first name in
    (elim (eqb b 47) as (λ v. (cond v step [] ++ way_up name) ++ step ≡ step ++ (cond v step [] ++ way_up name)) [
      | true ↦ ap (λ (l : List ℕ). step ++ l) rest
      | false ↦ rest
    ])

-- the way from the folder that the part of a name so far leads to
way_from : (folder part rest way path : List ℕ) → All (λ (b : ℕ). (b == 47) ≡ false) part
    → list_all is_name_part (slice_split (λ byte. byte == 47) (part ++ rest)) ≡ true → LeadsFrom folder way path
    → LinkLeads (folder ++ 47 ∷ (part ++ rest)) (way_up rest ++ way) path
way_from folder part [] way path inner proper leads = record {
  folder = folder;
  name = part;
  is = ap (λ (l : List ℕ). folder ++ 47 ∷ l) (append-nil part);
  last = All-weaker (λ (b : ℕ). (b == 47) ≡ false) (λ b. b ≢ 47) (λ b e. eqb-false b 47 e) part inner;
  leads = leads;
}
way_from folder part (b ∷ rest) way path inner proper leads =
    let at : (v : Bool) → eqb b 47 ≡ v → LinkLeads (folder ++ 47 ∷ (part ++ b ∷ rest)) ((cond v step [] ++ way_up rest) ++ way) path = λ v.
    elim v as (λ v. eqb b 47 ≡ v → LinkLeads (folder ++ 47 ∷ (part ++ b ∷ rest)) ((cond v step [] ++ way_up rest) ++ way) path) [
      | true ↦ λ e.
          let is : b ≡ 47 = eqb-true b 47 e in
          let parts = slice_split_at (λ byte. byte == 47) part b rest inner e in
          let both = and_parts (is_name_part part) (list_all is_name_part (slice_split (λ byte. byte == 47) rest)) (ap (list_all is_name_part) (sym parts) ∙ proper) in
          let none : All (λ (b : ℕ). (b == 47) ≡ false) [] = λ k d lt. absurd (omega (arith, lt)) in
          let apart = All-weaker (λ (b : ℕ). (b == 47) ≡ false) (λ b. b ≢ 47) (λ b e. eqb-false b 47 e) part inner in
          let next = way_from (folder ++ 47 ∷ part) [] rest (step ++ way) path none both.1 (up folder part way path both.0 apart leads) in
          let link : (folder ++ 47 ∷ part) ++ 47 ∷ rest ≡ folder ++ 47 ∷ (part ++ b ∷ rest)
          = append_assoc folder (47 ∷ part) (47 ∷ rest) ∙ ap (λ (c : ℕ). folder ++ 47 ∷ (part ++ c ∷ rest)) (sym is) in
          let target : way_up rest ++ (step ++ way) ≡ (step ++ way_up rest) ++ way
          = sym (append_assoc (way_up rest) step way) ∙ ap (λ (l : List ℕ). l ++ way) (last_is_first rest) in
          subst (λ (l : List ℕ). LinkLeads l ((step ++ way_up rest) ++ way) path) link (subst (λ (t : List ℕ). LinkLeads ((folder ++ 47 ∷ part) ++ 47 ∷ rest) t path) target next)
      | false ↦ λ e.
          let joined : (part ++ b ∷ []) ++ rest ≡ part ++ b ∷ rest = append_assoc part (b ∷ []) rest in
          let next = way_from folder (part ++ b ∷ []) rest way path (All-push (λ (b : ℕ). (b == 47) ≡ false) part b inner e)
          (subst (λ (l : List ℕ). list_all is_name_part (slice_split (λ byte. byte == 47) l) ≡ true) (sym joined) proper) leads in
          subst (λ (l : List ℕ). LinkLeads (folder ++ 47 ∷ l) (way_up rest ++ way) path) joined next
    ] in
    at (eqb b 47) refl

pub symbolic_leads : SymbolicLinksLead
symbolic_leads folder name zone named =
    let long = nat_le (length name) LONGEST_NAME in
    let bytes = list_all is_name_byte name in
    let proper = (and_parts (long && not (is_dash name) && bytes) (list_all is_name_part (slice_split (λ byte. byte == 47) name)) named).1 in
    let none : All (λ (b : ℕ). (b == 47) ≡ false) [] = λ k d lt. absurd (omega (arith, lt)) in
    way_from folder [] name zone (folder ++ 47 ∷ zone) none proper (down folder zone)
