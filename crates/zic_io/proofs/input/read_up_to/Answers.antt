use Rattle.std.proofs.Common.{ℕ, arith, ap, sym, subst, refl, ◌∙◌, length, length-take}
use Rattle.std.proofs.KnownBytes.{Consumes-nil, Consumes-trans, starts_with_rest}
use Rattle.std.specs.Io.{appended_bytes}
use Rattle.std.specs.Io.KnownBytes.{Consumes}
use Rattle.std.proofs.lemmas.Result.{err_from_is_err_and}
use Rattle.zic_counted.specs.Counts.{HasFailedSince}
use Rattle.zic_io.proofs.InputLemmas.{full, stopped}
use Rattle.zic_io.proofs.input.read_up_to.Goals as goal

pub loop-init : goal.loop-init
loop-init g c =
    let none = c.new-bytes.ensures.items in
    let known = g.R.Read.remaining c.args.reader.now.inner in
    (omega arith, omega (arith, ap length none), (refl, omega (arith, ap length none), λ some. omega (arith, some, ap length none)), subst (Consumes known known) (sym none) (Consumes-nil known))

pub returns-then-branch-eq0-clause-bytes : goal.returns-then-branch-eq0-clause-bytes
returns-then-branch-eq0-clause-bytes g c =
    let e = c.in_ok-read_block.ensures in
    let inv = c.loop.invariant in
    let known = g.R.Read.remaining c.args.reader.now.inner in
    let new = c.read_block.new.bytes.items in
    let given = subst (Consumes known (g.R.Read.remaining c.read_block.new.reader.inner)) (sym (starts_with_rest new c.loop.bytes.items e.appends))
    (Consumes-trans _ _ _ c.loop.bytes.items (appended_bytes c.loop.bytes.items new) inv.3 e.consumes) in
    stopped known _ new c.args.limit _ given (omega (arith, inv.1, e.count, c.if-branch-eq0.true)) (e.end c.if-branch-eq0.true)
    (λ none. omega (arith, none, inv.1, e.count, c.if-branch-eq0.true, length-take c.min-room.result c.loop.block, c.min-room.ensures))

pub loop-preserved : goal.loop-preserved
loop-preserved g c =
    let e = c.in_ok-read_block.ensures in
    let inv = c.loop.invariant in
    let known = g.R.Read.remaining c.args.reader.now.inner in
    let new = c.read_block.new.bytes.items in
    let given = subst (Consumes known (g.R.Read.remaining c.read_block.new.reader.inner)) (sym (starts_with_rest new c.loop.bytes.items e.appends))
    (Consumes-trans _ _ _ c.loop.bytes.items (appended_bytes c.loop.bytes.items new) inv.3 e.consumes) in (
      omega (arith, inv.0, e.count, c.if-branch-eq0.false),
      omega (arith, inv.1, e.count, e.room, length-take c.min-room.result c.loop.block, c.min-room.ensures),
      (e.taken.failures ∙ inv.2.0, omega (arith, e.taken.taken, inv.2.1, e.count), λ some. omega (arith, e.taken.taken)),
      given,
    )

pub returns-clause-bytes : goal.returns-clause-bytes
returns-clause-bytes g c =
    full _ _ c.loop.bytes.items c.args.limit c.loop.invariant.3 (omega (arith, c.loop.invariant.0, c.loop.invariant.1, c.loop-test.false))

pub returns-in_err-read_block-clause-err : goal.returns-in_err-read_block-clause-err
returns-in_err-read_block-clause-err g c =
    let p = err_from_is_err_and c.from_residual.result c.from_residual.ensures.1 in
    rw (p.1, p.2) (λ is. subst (λ (failures : ℕ). HasFailedSince c.read_block.new.reader failures) c.loop.invariant.2.0 (c.in_err-read_block.ensures.err is))
