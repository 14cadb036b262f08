use Rattle.std.proofs.Common.{◌≡◌, ◌-◌, ◌*◌, ◌≤◌, length}
use Rattle.std.specs.List.{list_all}
use Rattle.zic_tzif.specs.Block.{pieces, is_type_record}
use Rattle.zic_tzif.proofs.type_record.are_type_records.Given as goal

abbrev pub invariant-loop : goal.invariant-loop
invariant-loop l = record {
  enough : (l.count - l.counter) * 6 ≤ length l.rest;
  left : list_all is_type_record (pieces 6 (l.count - l.counter) l.rest) ≡ list_all is_type_record (pieces 6 l.count l.records);
}
