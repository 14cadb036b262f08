use Rattle.std.proofs.Common.{refl}
use Rattle.zic_tzif.proofs.WriteParts.{length_written}
use Rattle.zic_tzif.proofs.writer.file_length.Goals as goal

pub returns : goal.returns
returns c = rw (c.changes.ensures, c.types.ensures, c.names.ensures, c.footer_text.ensures, length_written c.args.t.now) refl
