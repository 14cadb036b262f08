use Rattle.std.proofs.Common.{◌≡◌, None, sym, ap, subst}
use Rattle.std.specs.Option.{option_copied}
use Rattle.std.proofs.lemmas.Option.{slice_get_within}
use Rattle.zic_states.specs.InForce.{IsLetterBefore}
use Rattle.zic_states.specs.Until.{set_of}
use Rattle.zic_states.proofs.Letters.{numbers_within, no_letter, letter_of_first}
use Rattle.zic_states.proofs.observance.letter_before.Goals as goal

pub first_standard-requires : goal.first_standard-requires
first_standard-requires c = numbers_within (set_of c.args.source.now.rules c.args.set.now) c.set_rules.result.now c.set_rules.ensures

pub returns-in_err-first : goal.returns-in_err-first
returns-in_err-first c =
    let set = set_of c.args.source.now.rules c.args.set.now in
    let none : option_copied c.from_residual.result ≡ None = ap option_copied c.from_residual.ensures in
    subst (IsLetterBefore set) (sym none) (no_letter set c.set_rules.result.now c.set_rules.ensures c.in_err-first.ensures)

pub rule-requires : goal.rule-requires
rule-requires c = slice_get_within c.args.source.now.rules c.in_ok-first.first c.in_ok-first.ensures.rule c.in_ok-first.ensures.is.numbered

pub returns : goal.returns
returns c =
    letter_of_first (set_of c.args.source.now.rules c.args.set.now) c.set_rules.result.now c.in_ok-first.first c.rule.result.now
    c.rules.ensures.sound.rules c.set_rules.ensures c.in_ok-first.ensures c.rule.ensures.rule
