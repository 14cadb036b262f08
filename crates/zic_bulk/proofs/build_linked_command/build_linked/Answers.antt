use Rattle.std.proofs.Common.{◌≡◌, ◌⊎◌, inr}
use Rattle.std.proofs.lemmas.Result.{err_from_is_err_and, on_ok_weaker, IfErr-weaker}
use Rattle.zic_source.specs.Texts.{texts_of}
use Rattle.zic_bulk.specs.Failing.{IsFailureOfTexts}
use Rattle.zic_bulk.specs.Linking.{IsFailureOfLinked, IsFailureOfLinks}
use Rattle.zic_bulk.proofs.LinkLemmas.{all_placed, files_of_source, links_stop, zones_stop}
use Rattle.zic_bulk.proofs.build_linked_command.build_linked.Goals as goal

pub place_zones-requires : goal.place_zones-requires
place_zones-requires g c = files_of_source (texts_of c.args.texts.now) c.in_ok-source.source c.in_ok-files.files c.in_ok-source.ensures.ok c.in_ok-files.ensures.ok

pub returns-in_err-place_zones-clause-err : goal.returns-in_err-place_zones-clause-err
returns-in_err-place_zones-clause-err g c =
    let texts = texts_of c.args.texts.now in
    let of = files_of_source texts c.in_ok-source.source c.in_ok-files.files c.in_ok-source.ensures.ok c.in_ok-files.ensures.ok in
    let p = err_from_is_err_and c.from_residual-in_err-place_zones.result c.from_residual-in_err-place_zones.ensures.1 in
    rw (p.1, p.2) (inr (zones_stop texts c.in_ok-source.source c.in_ok-source.ensures.ok c.in_ok-files.files of c.args.folder.now (g.D.Tree.refused c.place_zones.new.tree)
    (g.D.Tree.placed c.args.tree.now) (g.D.Tree.placed c.place_zones.new.tree) (g.D.Tree.linked c.args.tree.now) (g.D.Tree.linked c.place_zones.new.tree) c.in_err-place_zones.field-0.0
    c.in_err-place_zones.ensures.err c.place_zones.ensures.links))

pub returns-clause-ok : goal.returns-clause-ok
returns-clause-ok g c =
    let texts = texts_of c.args.texts.now in
    let of = files_of_source texts c.in_ok-source.source c.in_ok-files.files c.in_ok-source.ensures.ok c.in_ok-files.ensures.ok in
    on_ok_weaker c.place_links.result (all_placed texts c.in_ok-source.source c.in_ok-source.ensures.ok c.in_ok-files.files of c.args.folder.now
    (g.D.Tree.placed c.args.tree.now) (g.D.Tree.placed c.place_zones.new.tree) (g.D.Tree.placed c.place_links.new.tree)
    (g.D.Tree.linked c.args.tree.now) (g.D.Tree.linked c.place_zones.new.tree) (g.D.Tree.linked c.place_links.new.tree)
    c.in_ok-place_zones.ensures.ok c.place_links.ensures.files c.place_zones.ensures.links c.in_ok-place_zones.ensures.named) c.place_links.ensures.ok

pub returns-clause-err : goal.returns-clause-err
returns-clause-err g c =
    let texts = texts_of c.args.texts.now in
    let of = files_of_source texts c.in_ok-source.source c.in_ok-files.files c.in_ok-source.ensures.ok c.in_ok-files.ensures.ok in
    IfErr-weaker c.place_links.result (IsFailureOfLinks (g.D.Tree.refused c.place_links.new.tree) c.in_ok-source.source c.args.folder.now
    (g.D.Tree.linked c.place_zones.new.tree) (g.D.Tree.linked c.place_links.new.tree))
    (λ failure. (IsFailureOfTexts texts failure × (c.place_links.new.tree ≡ c.args.tree.now)) ⊎ IsFailureOfLinked (g.D.Tree.refused c.place_links.new.tree) texts c.args.folder.now
    (g.D.Tree.placed c.args.tree.now) (g.D.Tree.placed c.place_links.new.tree) (g.D.Tree.linked c.args.tree.now) (g.D.Tree.linked c.place_links.new.tree) failure)
    (λ failure stop. inr (links_stop texts c.in_ok-source.source c.in_ok-source.ensures.ok c.in_ok-files.files of c.args.folder.now
    (g.D.Tree.placed c.args.tree.now) (g.D.Tree.placed c.place_zones.new.tree) (g.D.Tree.placed c.place_links.new.tree)
    (g.D.Tree.linked c.args.tree.now) (g.D.Tree.linked c.place_zones.new.tree) (g.D.Tree.linked c.place_links.new.tree)
    c.in_ok-place_zones.ensures.ok c.place_links.ensures.files c.place_zones.ensures.links (g.D.Tree.refused c.place_links.new.tree) failure stop)) c.place_links.ensures.err
