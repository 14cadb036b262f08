use Rattle.std.proofs.Common.{ap, ◌+◌, ◌∙◌, rules}
use Rattle.std.specs.Prelude.{option_map}
use Rattle.zic_lines.specs.Month.{month_of}
use Rattle.zic_lines.proofs.day_form.parse_month.Goals as goal

pub returns-in_err-place-clause-value : goal.returns-in_err-place-clause-value
unfolding month_of
returns-in_err-place-clause-value c = c.from_residual.ensures ∙ ap (option_map (λ place. place + 1)) c.in_err-place.ensures.value

pub returns-clause-value : goal.returns-clause-value
unfolding month_of
returns-clause-value c = ap (option_map (λ place. place + 1)) c.in_ok-place.ensures.value

pub returns-clause-low : goal.returns-clause-low
returns-clause-low c = search rules

pub returns-clause-high : goal.returns-clause-high
returns-clause-high c = search rules
