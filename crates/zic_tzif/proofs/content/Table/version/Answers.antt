use Rattle.std.proofs.Common.{rules}
use Rattle.zic_tzif.proofs.content.Table.version.Goals as goal

pub returns-clause-version : goal.returns-clause-version
returns-clause-version c = search rules

pub returns-clause-writable : goal.returns-clause-writable
returns-clause-writable c = search rules
