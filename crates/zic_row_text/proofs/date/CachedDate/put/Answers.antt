use Rattle.std.proofs.Common.{◌≡◌, ◌+◌, ◌++◌, ◌∙◌, ℕ, List, ap, append_assoc, arith, length-take-le, take}
use Rattle.zic_row_text.proofs.Stores.{parted}
use Rattle.zic_row_text.proofs.date.CachedDate.put.Goals as goal

pub returns-clause-written : goal.returns-clause-written
returns-clause-written c =
    let at = c.args.at in
    let text = c.args.text.now in
    let year = c.args.self.now.text.year in
    let day = c.args.self.now.text.day in
    let mid = c.put_8.new.text in
    let new = c.put_8-2.new.text in
    let dated : take (at + 4) mid ≡ take at text ++ take 4 year =
    parted (take at text) year mid at (at + 8) 4 (length-take-le at text (omega arith)) c.put_8.ensures.written (omega arith) in
    let all : take (at + 4 + 7) new ≡ take (at + 4) mid ++ take 7 day =
    parted (take (at + 4) mid) day new (at + 4) (at + 4 + 8) 7 (length-take-le (at + 4) mid (omega arith)) c.put_8-2.ensures.written (omega arith) in
    let size : at + 11 ≡ at + 4 + 7 = omega arith in
    ap (λ (n : ℕ). take n new) size ∙ all ∙ ap (λ (l : List ℕ). l ++ take 7 day) dated
    ∙ append_assoc (take at text) (take 4 year) (take 7 day) ∙ ap (λ (l : List ℕ). take at text ++ l) c.args.self.now.is_date
