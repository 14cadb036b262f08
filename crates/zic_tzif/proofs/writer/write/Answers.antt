use Rattle.std.proofs.Common.{◌≡◌, ℕ, ◌<◌, ◌≤◌, ◌^◌, List, Fits, w32, ap, arith, ◌++◌, replicate, length, map, sym, subst}
use Rattle.std.specs.List.{flat_map}
use Rattle.zic_tzif.specs.declared.content.Change.{Change}
use Rattle.zic_tzif.specs.declared.content.TheConstants.{MAX_TRANSITIONS, MAX_TYPES, MAX_CHARACTERS}
use Rattle.zic_tzif.specs.Reading.{IsFile}
use Rattle.zic_tzif.specs.Writing.{header, time_octets, type_octets}
use Rattle.zic_tzif.proofs.WriteLists.{line_after}
use Rattle.zic_tzif.proofs.WriteFile.{written_is_file}
use Rattle.zic_tzif.proofs.writer.write.Goals as goal

pub returns-clause-written : goal.returns-clause-written
returns-clause-written c =
    let t = c.args.t.now in
    rw (
      c.in_ok-push-2.ensures.items,
      c.in_ok-extend_from_slice-3.ensures.items,
      c.in_ok-push.ensures.items,
      c.in_ok-extend_from_slice-2.ensures.items,
      c.in_ok-put_types.ensures,
      c.in_ok-put_numbers.ensures,
      c.in_ok-put_times.ensures,
      c.in_ok-put_header-2.ensures,
      c.in_ok-extend_from_slice.ensures.items,
      c.in_ok-put_header.ensures,
      c.in_ok-out.ensures.items,
      c.version-version.ensures.version,
      c.changes-changes.ensures,
      c.types-types.ensures,
      c.names-names.ensures,
      c.footer_text.ensures,
    ) (line_after (header t.version 0 1 1 ++ replicate 7 0 ++ header t.version (length t.changes) (length t.types) (length t.names) ++ flat_map time_octets t.changes ++ map (λ (a : Change). a.number) t.changes ++ flat_map type_octets t.types ++ t.names) t.text)

pub returns-clause-read : goal.returns-clause-read
returns-clause-read c =
    subst (λ (octets : List ℕ). IsFile octets c.args.t.now) (sym (returns-clause-written c)) (written_is_file c.args.t.now c.version-version.ensures.writable)

-- a number of items that is within a limit fits
few : {A : Type 0} (read all : List A) (most : ℕ) → read ≡ all → length all ≤ most → most < 2 ^ 32 → Fits w32 (length read)
few read all most same fits small = let size = ap (λ (xs : List _). length xs) same in record { fits = omega (arith, size, fits, small) }

pub overflow_cast-changes : goal.overflow_cast-changes
overflow_cast-changes c = few c.changes-changes.result.now c.args.t.now.changes MAX_TRANSITIONS c.changes-changes.ensures c.version-version.ensures.writable.transitions_fit (omega arith)

pub overflow_cast-types : goal.overflow_cast-types
overflow_cast-types c = few c.types-types.result.now c.args.t.now.types MAX_TYPES c.types-types.ensures c.version-version.ensures.writable.types_fit (omega arith)

pub overflow_cast-names : goal.overflow_cast-names
overflow_cast-names c = few c.names-names.result.now c.args.t.now.names MAX_CHARACTERS c.names-names.ensures c.version-version.ensures.writable.names_fit (omega arith)
