use Rattle.std.proofs.Common.{◌≡◌, Option, true, false, refl, sym, ap, ◌∙◌}
use Rattle.std.specs.Prelude.{is_some}
use Rattle.zic_source.specs.declared.owners.Owner.{Owner}
use Rattle.zic_source.specs.Links.{is_named}
use Rattle.zic_source.specs.code.Lines.{source_lines}
use Rattle.zic_source.proofs.lookups.Named.{nobody}
use Rattle.zic_source.proofs.reader.Reader.no_room.Goals as goal

pub returns-in-Some : goal.returns-in-Some
returns-in-Some c =
    let known : is_named (source_lines c.args.self.now.lines) c.args.name.now ≡ true =
    sym (nobody _ _ c.args.name.now c.requires.names) ∙ ap (λ (o : Option Owner). is_some o) (sym c.get.ensures ∙ c.in-Some.is) in
    rw known refl

pub returns-in-None : goal.returns-in-None
returns-in-None c =
    let new : is_named (source_lines c.args.self.now.lines) c.args.name.now ≡ false =
    sym (nobody _ _ c.args.name.now c.requires.names) ∙ ap (λ (o : Option Owner). is_some o) (sym c.get.ensures ∙ c.in-None.is) in
    rw new refl
