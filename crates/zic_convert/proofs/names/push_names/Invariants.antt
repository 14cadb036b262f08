use Rattle.std.proofs.Common.{◌≡◌, ◌+◌, ◌*◌, ◌≤◌, ◌++◌, drop, map}
use Rattle.arrayvec.specs.ArrayVec.{array_vec_len}
use Rattle.zic_convert.specs.Column.{delimited, name_among}
use Rattle.zic_convert.proofs.names.push_names.Given as goal

-- the names so far and those that are left are all of them
abbrev pub invariant-loop-field : goal.invariant-loop-field
invariant-loop-field l = record {
  items : l.text.items ++ delimited l.start.delimiter (map (λ name. l.start.prefix.now ++ (l.start.release.now ++ name)) (map (name_among l.layout.fields l.layout.from) (drop l.field-index l.fields)))
      ≡ l.fn.text.items ++ delimited l.start.delimiter (map (λ name. l.start.prefix.now ++ (l.start.release.now ++ name)) (map (name_among l.layout.fields l.layout.from) l.fields));
  len : array_vec_len l.text ≤ array_vec_len l.fn.text + 81 * l.field-index;
}
