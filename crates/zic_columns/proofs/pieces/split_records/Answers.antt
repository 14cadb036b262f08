use Rattle.std.proofs.Common.{◌≡◌, ◌-◌, ℕ, drop, length, take, ap, arith, length-append, subst}
use Rattle.std.proofs.lemmas.List.{take_rest}
use Rattle.zic_columns.proofs.FirstFacts.{HasPassed, passed_cut, passed_none}
use Rattle.zic_columns.proofs.RecordCounts.{passed_on, passed_to_end}
use Rattle.zic_columns.proofs.pieces.split_records.Goals as goal

pub loop-left-init : goal.loop-left-init
loop-left-init c =
    let bytes = c.args.bytes.now in
    record { few = omega arith; passed = subst (λ (n : ℕ). HasPassed c.args.delimiter.can bytes n bytes) (omega arith) (passed_none c.args.delimiter.can bytes) }

pub returns-in_default : goal.returns-in_default
returns-in_default c =
    let rest = c.loop-left.rest.now in
    let len = c.pass_records-passed.result.len in
    passed_to_end c.args.delimiter.can c.args.bytes.now c.args.count c.loop-left.left rest c.pass_records-passed.result (take (length rest - len) (drop len rest))
    c.loop-left.invariant.few c.loop-left.invariant.passed (c.pass_records-passed.ensures c.args.delimiter.byte c.args.delimiter.can) (take_rest rest len) c.in_default.ensures

pub loop-left-preserved : goal.loop-left-preserved
loop-left-preserved c =
    let rest = c.loop-left.rest.now in
    let len = c.pass_records-passed.result.len in
    let after = take (length rest - len) (drop len rest) in
    record {
      few = omega (arith, c.loop-left.invariant.few);
      passed = passed_on c.args.delimiter.can c.args.bytes.now c.args.count c.loop-left.left rest c.pass_records-passed.result after c.loop-left.invariant.few
          c.loop-left.invariant.passed (c.pass_records-passed.ensures c.args.delimiter.byte c.args.delimiter.can) (take_rest rest len) c.in-Some.len (take (length after - c.in-Some.len) (drop c.in-Some.len after))
          c.in-Some.ensures (take_rest after c.in-Some.len);
    }

pub overflow_sub-bytes : goal.overflow_sub-bytes
overflow_sub-bytes c =
    let passed = c.loop-left.invariant.passed in
    omega (arith, ap length passed.parts, length-append passed.first c.loop-left.rest.now)

pub returns : goal.returns
returns c =
    let bytes = c.args.bytes.now in
    let rest = c.loop-left.rest.now in
    let all : c.args.count - c.loop-left.left ≡ c.args.count = omega (arith, c.loop-left-test.false) in
    rw (c.split_at.ensures.front, c.split_at.ensures.back) (passed_cut c.args.delimiter.can bytes c.args.count rest (subst (λ (n : ℕ). HasPassed c.args.delimiter.can bytes n rest) all c.loop-left.invariant.passed))
