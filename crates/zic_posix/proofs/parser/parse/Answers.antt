use Rattle.std.proofs.Common.{◌≡◌, None, rules}
use Rattle.zic_base.proofs.MemoryLemmas.{on_want}
use Rattle.zic_posix.specs.Parsing.{refusal_of, NeedsMemory}
use Rattle.zic_posix.specs.code.Reading.{string_of}
use Rattle.zic_posix.specs.code.Text.{string}
use Rattle.zic_posix.proofs.StringLemmas.{string_again, string_takes, limits_of}
use Rattle.zic_posix.proofs.parser.parse.Goals as goal

pub returns-in_default-clause-only : goal.returns-in_default-clause-only
returns-in_default-clause-only c = λ f spells.
    let again = string_again c.args.version c.args.text.now f spells in
    let none : string_of c.args.version c.args.text.now ≡ None = search rules in
    absurd cc

pub footer_of-requires : goal.footer_of-requires
footer_of-requires c =
    let f = string c.in-Some.string in
    limits_of c.args.version c.args.text.now f (string_takes c.args.version c.args.text.now f c.requires c.in-Some.ensures)

pub returns-in_err-footer_of-clause-memory : goal.returns-in_err-footer_of-clause-memory
returns-in_err-footer_of-clause-memory c =
    let f = string c.in-Some.string in
    let spells = string_takes c.args.version c.args.text.now f c.requires c.in-Some.ensures in
    on_want refusal_of c.from_residual.result (NeedsMemory c.args.version c.args.text.now) (f, spells, c.in_err-footer_of.ensures.long)

pub returns-clause-ok : goal.returns-clause-ok
returns-clause-ok c =
    rw c.in_ok-footer_of.ensures.ok (string_takes c.args.version c.args.text.now (string c.in-Some.string) c.requires c.in-Some.ensures)
