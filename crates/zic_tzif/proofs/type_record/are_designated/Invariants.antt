use Rattle.std.proofs.Common.{◌≡◌, ◌-◌, ◌*◌, ◌≤◌, length}
use Rattle.std.specs.List.{list_all}
use Rattle.zic_tzif.specs.Designation.{is_designated}
use Rattle.zic_tzif.specs.Block.{pieces, type_in}
use Rattle.zic_tzif.proofs.type_record.are_designated.Given as goal

abbrev pub invariant-loop : goal.invariant-loop
invariant-loop l = record {
  enough : (l.count - l.counter) * 6 ≤ length l.rest;
  left : list_all (λ r. is_designated l.names (type_in r).place) (pieces 6 (l.count - l.counter) l.rest) ≡ list_all (λ r. is_designated l.names (type_in r).place) (pieces 6 l.count l.records);
}
