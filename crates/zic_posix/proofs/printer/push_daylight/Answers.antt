use Rattle.std.proofs.Common.{◌≡◌, ℕ, List, ◌∷◌, ◌++◌, ◌∙◌, ap, append_assoc, rules, FitsSigned, w32}
use Rattle.std.proofs.lemmas.Int.{to_z-of_z}
use Rattle.std.proofs.lemmas.Result.{on_ok_weaker}
use Rattle.zic_posix.specs.Printing.{printed_name, printed_saving, printed_edge}
use Rattle.zic_posix.proofs.printer.push_daylight.Goals as goal

-- one after another
joined : (old a b c d name saving start stop : List ℕ) → a ≡ old ++ name → b ≡ a ++ saving → c ≡ b ++ 44 ∷ start → d ≡ c ++ 44 ∷ stop → d ≡ old ++ ((name ++ saving) ++ 44 ∷ (start ++ 44 ∷ stop))
joined old a b c d name saving start stop ea eb ec ed = rw (ed, ec, eb, ea) (simp append_assoc)

pub returns : goal.returns
returns c =
    let dst = c.args.dst.now in
    let old = c.args.text.now.items in
    let standard_fits : FitsSigned w32 c.args.standard = search rules in
    let offset_fits : FitsSigned w32 dst.offset = search rules in
    let saved = simp to_z-of_z at c.in_ok-push_saving.ensures in
    let named = c.in_ok-push_name.ensures ∙ ap (λ (n : List ℕ). old ++ printed_name n) c.octets.ensures in
    on_ok_weaker c.push_next_edge-2.result (λ e. joined old _ _ _ _ (printed_name dst.name) (printed_saving c.args.standard dst.offset) (printed_edge dst.start) (printed_edge dst.stop) named saved c.in_ok-push_next_edge.ensures e) c.push_next_edge-2.ensures
