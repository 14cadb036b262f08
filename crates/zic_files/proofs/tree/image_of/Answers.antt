use Rattle.std.proofs.Common.{◌≡◌, Some, refl, ap, sym, ◌∙◌}
use Rattle.zic_tzif.specs.declared.reason.Reason.{Reason}
use Rattle.zic_files.specs.declared.image.Unfit.TheVariants as unfit
use Rattle.zic_files.proofs.Learning.{unfit_reply}
use Rattle.zic_files.proofs.tree.image_of.Goals as goal

-- no want of memory
bad : (reason : Reason) → unfit.Bad reason ≡ unfit.Memory → ⊥
bad reason e = cc

no_footer : unfit.NoFooter ≡ unfit.Memory → ⊥
no_footer e = cc

outside_limits : unfit.OutsideLimits ≡ unfit.Memory → ⊥
outside_limits e = cc

pub returns-in-Err-Bad : goal.returns-in-Err-Bad
returns-in-Err-Bad g c =
    let gains = rw c.in-Some.is at c.in_ok-octets.ensures.ok in
    let is = c.in-Err-Bad.field-0-is in
    record {
      ok = unfit_reply c.files_have_no_fault.ensures c.files_say_one.ensures (g.T.ZoneTree.replied c.args.tree.now) (g.T.ZoneTree.replied c.read.new.self) c.args.name.now
          c.in-Some.octets.items c.in-Err-Bad.field-0 gains c.in-Err-Bad.ensures.err (λ e. bad _ (sym is ∙ e));
      err = tt;
    }

pub returns-in-Err-NoFooter : goal.returns-in-Err-NoFooter
returns-in-Err-NoFooter g c =
    let gains = rw c.in-Some.is at c.in_ok-octets.ensures.ok in
    let is = c.in-Err-NoFooter.field-0-is in
    record {
      ok = unfit_reply c.files_have_no_fault.ensures c.files_say_one.ensures (g.T.ZoneTree.replied c.args.tree.now) (g.T.ZoneTree.replied c.read.new.self) c.args.name.now
          c.in-Some.octets.items c.in-Err-NoFooter.field-0 gains c.in-Err-NoFooter.ensures.err (λ e. no_footer (sym is ∙ e));
      err = tt;
    }

pub returns-in-Err-OutsideLimits : goal.returns-in-Err-OutsideLimits
returns-in-Err-OutsideLimits g c =
    let gains = rw c.in-Some.is at c.in_ok-octets.ensures.ok in
    let is = c.in-Err-OutsideLimits.field-0-is in
    record {
      ok = unfit_reply c.files_have_no_fault.ensures c.files_say_one.ensures (g.T.ZoneTree.replied c.args.tree.now) (g.T.ZoneTree.replied c.read.new.self) c.args.name.now
          c.in-Some.octets.items c.in-Err-OutsideLimits.field-0 gains c.in-Err-OutsideLimits.ensures.err (λ e. outside_limits (sym is ∙ e));
      err = tt;
    }

pub returns-in-Ok-clause-ok : goal.returns-in-Ok-clause-ok
returns-in-Ok-clause-ok g c =
    let gains = rw c.in-Some.is at c.in_ok-octets.ensures.ok in
    let e = c.in-Ok.ensures in
    (record { name = c.args.name.now; octets = Some c.in-Some.octets.items }, gains, refl, (ap Some (sym e.octets), e.read, e.fit))
