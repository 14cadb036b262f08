-- A column that is converted round by round, by zones that are made ready before each round.
use Rattle.std.proofs.Common.{◌≡◌, ◌+◌, ◌++◌, ℕ, false, List, [], ◌∷◌, length, Option, Some, inl, inr, refl, sym, subst, length-append, arith}
use Rattle.std.specs.Prelude.{All}
use Rattle.std.proofs.lemmas.List.{get_or_append_left}
use Rattle.zic_columns.specs.Own.{CsvRecord}
use Rattle.zic_columns.specs.Round.{HasNoRecord, IsNextTooLong, Takes, may_have, taken_records}
use Rattle.zic_columns.specs.declared.columns.Taken.{Taken}
use Rattle.zic_columns.specs.declared.columns.Taken.TheVariants as takens
use Rattle.zic_counted.specs.Counts.{Counts}
use Rattle.zic_counted.specs.Written.{FailsWithin}
use Rattle.zic_tzif.specs.Laws.{FilesAnswerOnce}
use Rattle.zic_zones.specs.declared.zones.Releases.{Releases}
use Rattle.zic_convert.specs.By.{by_of}
use Rattle.zic_convert.specs.Laws.{AreSoundReleases}
use Rattle.zic_layouts.specs.Plan.{Limits}
use Rattle.zic_layouts.specs.declared.layout.Layout.{Layout}
use Rattle.zic_layouts.specs.Noted.{RowNote}
use Rattle.zic_base.specs.declared.stops.RunStop.{RunStop}
use Rattle.zic_base.specs.declared.stops.RunStop.TheVariants as stop
use Rattle.zic_zones.specs.Zones.{ReleasesAgree}
use Rattle.zic_convert.specs.Run.{EndsByZones, EndsIn}
use Rattle.zic_convert.specs.code.Halt.{stop_of}
use Rattle.zic_convert.specs.code.Progress.{ComeNext, ConvertsRest, EndsAtTaking, EndsInRest, EndsInTaken, IsSoFar, longest_of, output, records_left, taken_rows, tally_of}
use Rattle.zic_piece_rows.specs.PieceRows.{RowsOf}
use Rattle.zic_convert.specs.code.Written.{EndsInRecords, EndsInRows, WritesRecords, Wrote, numbered, writing}
use Rattle.zic_convert.specs.declared.tally.Tally.{Tally}
use Rattle.zic_convert.specs.declared.halt.Halt.{Halt}
use Rattle.zic_convert.specs.declared.halt.Halt.TheVariants as halt
use Rattle.zic_convert.proofs.Halts.{ends_at_flush, ends_in_rows, ends_still}
use Rattle.zic_convert.proofs.Options.{if_some}
use Rattle.zic_convert.proofs.Progress.{all_written, at_start, later, long_comes_next, none_taken, taken_come_next}
use Rattle.zic_convert.proofs.Sounds.{agree_sound}
use Rattle.zic_convert.proofs.Staying.{AreKnownZones, KeepsBoth, come_same, kept, rows_same}

-- how far a conversion of bytes, where they are known, has come by these releases
abbrev pub IsFarBy : Layout → ℕ → Option ℕ → Option (List ℕ) → Option (List ℕ) → ℕ → Option ℕ → Option (List ℕ) → Option (List ℕ) → Option (List RowNote) → Option (List RowNote) → Releases → Type 0
IsFarBy layout most limit known left n more held now log noted releases =
    (bytes : List ℕ) → known ≡ Some bytes → IsSoFar (by_of layout releases most limit) (records_left layout bytes) left (tally_of n more) (output held now log noted)

pub far_at_start : (layout : Layout) (most : ℕ) (limit : Option ℕ) (known held : Option (List ℕ)) (log : Option (List RowNote)) (releases : Releases) → IsFarBy layout most limit known known 0 limit held held log log releases
far_at_start layout most limit known held log releases bytes e = at_start (by_of layout releases most limit) (records_left layout bytes) known held log bytes e refl

module _ {W : Type 0} (contents : W → Option (List ℕ)) (once : FilesAnswerOnce) (layout : Layout) (plan : Limits) (limit : Option ℕ) (known left : Option (List ℕ)) (n : ℕ) (more : Option ℕ) (held : Option (List ℕ)) (mid : Counts W)
    (log now : Option (List RowNote)) (releases : Releases) (sound : AreSoundReleases releases) (far : IsFarBy layout plan.max_rows limit known left n more held (contents mid.inner) log now releases) where
  -- the column can't be read on
  unread_ends : EndsInRest (by_of layout releases plan.max_rows limit) known stop.ReadFailed (output held (contents mid.inner) log now)
  unread_ends = if_some known _ (λ bytes e.
      ends_still once (by_of layout releases plan.max_rows limit) sound (records_left layout bytes) left n more held (contents mid.inner) log now (far bytes e) stop.ReadFailed)

  -- memory was refused
  memory_ends : EndsInRest (by_of layout releases plan.max_rows limit) known stop.Memory (output held (contents mid.inner) log now)
  memory_ends = if_some known _ (λ bytes e.
      ends_still once (by_of layout releases plan.max_rows limit) sound (records_left layout bytes) left n more held (contents mid.inner) log now (far bytes e) stop.Memory)

  -- some records were taken
  module _ (rs : List CsvRecord) (next : Option (List ℕ)) (taken : Takes layout.records layout.delimiter left next rs) (new : Counts W) (last : Option (List RowNote)) where
    -- their rows were written
    far_after_round : (tally : Tally) → WritesRecords (by_of layout releases plan.max_rows more) (writing contents mid new now last) (numbered (n + 1) rs) tally
        → IsFarBy layout plan.max_rows limit known next (n + tally.rows) tally.left held (contents new.inner) log last releases
    far_after_round tally (rows, are, wrote, left_is) bytes e =
        rw wrote.1 (later (by_of layout releases plan.max_rows limit) (records_left layout bytes) left n more held (contents mid.inner) (contents new.inner) log now last (far bytes e)
        rs rows are next tally.left wrote.0 taken wrote.2.0 wrote.3 left_is)

    -- or the conversion ended in them
    ends_in_round : (why : RunStop) → EndsInRecords (by_of layout releases plan.max_rows more) (writing contents mid new now last) (numbered (n + 1) rs) why
        → EndsInRest (by_of layout releases plan.max_rows limit) known why (output held (contents new.inner) log last)
    ends_in_round why (inl memory) = rw (memory.0, memory.1, memory.2) memory_ends
    ends_in_round why (inr (rows, are, ends)) = if_some known _ (λ bytes e.
        ends_in_rows contents once (by_of layout releases plan.max_rows limit) sound (records_left layout bytes) left n more held mid new log now last (far bytes e)
        rs (taken_come_next layout left next rs taken) rows are why ends)

  -- the next record has too many bytes
  ends_at_record : (next : Option (List ℕ)) → Takes layout.records layout.delimiter left next [] → IsNextTooLong (longest_of layout) layout.records layout.delimiter next → (new : Counts W) (why : RunStop)
      → ((given : CsvRecord) → may_have (longest_of layout) (length given.own) ≡ false → EndsInRecords (by_of layout releases plan.max_rows more) (writing contents mid new now now) (numbered (n + 1) (given ∷ [])) why)
      → EndsInRest (by_of layout releases plan.max_rows limit) known why (output held (contents new.inner) log now)
  ends_at_record next none long new why ends = if_some known _ (λ bytes e.
      let all = records_left layout bytes in
      let far_next = none_taken (by_of layout releases plan.max_rows limit) all left next n more held (contents mid.inner) log now none (far bytes e) in
      let (given, over, others, same) = long_comes_next layout next long far_next.rest far_next.bytes in
      let come : ComeNext layout next (given ∷ []) = subst (λ (o : Option (List ℕ)). ComeNext layout o (given ∷ [])) (sym far_next.bytes) (others, same) in
      ended all next far_next given come (ends given over))
    where
      ended : (all : List CsvRecord) (next : Option (List ℕ)) → IsSoFar (by_of layout releases plan.max_rows limit) all next (tally_of n more) (output held (contents mid.inner) log now) → (given : CsvRecord) → ComeNext layout next (given ∷ [])
          → EndsInRecords (by_of layout releases plan.max_rows more) (writing contents mid new now now) (numbered (n + 1) (given ∷ [])) why → EndsIn (by_of layout releases plan.max_rows limit) [] all why (output held (contents new.inner) log now)
      ended all next far_next given come (inl memory) = rw (memory.0, memory.1) (ends_still once (by_of layout releases plan.max_rows limit) sound all next n more held (contents mid.inner) log now far_next stop.Memory)
      ended all next far_next given come (inr (rows, are, then)) =
          ends_in_rows contents once (by_of layout releases plan.max_rows limit) sound all next n more held mid new log now now far_next (given ∷ []) come rows are why then

  -- the writer failed in the end
  flush_ends : (new : Counts W) → FailsWithin contents mid new [] → EndsInRest (by_of layout releases plan.max_rows limit) known stop.WriteFailed (output held (contents new.inner) log now)
  flush_ends new fails = if_some known _ (λ bytes e.
      ends_at_flush contents once (by_of layout releases plan.max_rows limit) sound (records_left layout bytes) left n more held mid new log now (far bytes e) fails)

  -- no record is left, and all rows are written and flushed
  all_done : (next : Option (List ℕ)) → Takes layout.records layout.delimiter left next [] → HasNoRecord layout.records layout.delimiter next → (new : Counts W) → Wrote contents mid new []
      → ConvertsRest (by_of layout releases plan.max_rows limit) known n (output held (contents new.inner) log now)
  all_done next none end new flushed = if_some known _ (λ bytes e.
      let all = records_left layout bytes in
      let end_far = none_taken (by_of layout releases plan.max_rows limit) all left next n more held (contents mid.inner) log now none (far bytes e) in
      all_written (by_of layout releases plan.max_rows limit) all next n more held (contents mid.inner) (contents new.inner) log now end_far end flushed.0)

-- what holds of the elements of a list holds of the first of them
all_front : (P : CsvRecord → Type 0) (xs ys : List CsvRecord) → All P (xs ++ ys) → All P xs
all_front P xs ys all = λ k d lt. subst P (get_or_append_left xs ys d k lt) (all k d (omega (arith, lt, length-append xs ys)))

-- ---- a round by the releases that are known, and by all that may be

module _ (layout : Layout) (most : ℕ) (limit : Option ℕ) (rs : List CsvRecord) (first : ℕ) (known releases : Releases) (keeps : KeepsBoth known releases)
    (only : All (AreKnownZones layout.zone known releases) rs) {W : Type 0} (contents : W → Option (List ℕ)) (held now : Counts W) (log log' : Option (List RowNote)) where
  written_alike : (tally : Tally) → WritesRecords (by_of layout known most limit) (writing contents held now log log') (numbered first rs) tally → WritesRecords (by_of layout releases most limit) (writing contents held now log log') (numbered first rs) tally
  written_alike tally (rows, are, wrote, left_is) = (rows, rows_same known releases keeps layout most first rs rows only are, wrote, left_is)

  rows_end_alike : (rows : RowsOf) (why : RunStop) → EndsInRows (by_of layout known most limit) (writing contents held now log log') (numbered first rs) rows why
      → EndsInRows (by_of layout releases most limit) (writing contents held now log log') (numbered first rs) rows why
  rows_end_alike rows (stop.Row row kind) (inl h) = inl h
  rows_end_alike rows (stop.Row row kind) (inr h) = inr (record {
    front = h.front;
    rest = h.rest;
    come = come_same known releases keeps layout most first rs (h.front ++ h.rest) rows.fault only h.come;
    before = h.before;
    too_many = h.too_many;
    number = h.number;
    wrote = h.wrote;
    noted = h.noted;
  })
  rows_end_alike rows stop.WriteFailed h = record {
    done = h.done;
    more = h.more;
    parts = h.parts;
    front = h.front;
    are = rows_same known releases keeps layout most first h.done h.front (all_front (AreKnownZones layout.zone known releases) h.done h.more (rw h.parts at only)) h.are;
    reached = h.reached;
    beyond = h.beyond;
    within = h.within;
    upto = h.upto;
    are_upto = rows_same known releases keeps layout most first h.reached h.upto (all_front (AreKnownZones layout.zone known releases) h.reached h.beyond (rw h.within at only)) h.are_upto;
    fails = h.fails;
    noted = h.noted;
    few = h.few;
    may = h.may;
  }
  rows_end_alike rows (stop.Source fault) h = absurd h
  rows_end_alike rows stop.ReadFailed h = absurd h
  rows_end_alike rows stop.ColumnTooLong h = absurd h
  rows_end_alike rows stop.Memory h = absurd h
  rows_end_alike rows stop.NoThread h = absurd h
  rows_end_alike rows stop.LogFailed h = h

  ends_alike : (why : RunStop) → EndsInRecords (by_of layout known most limit) (writing contents held now log log') (numbered first rs) why → EndsInRecords (by_of layout releases most limit) (writing contents held now log log') (numbered first rs) why
  ends_alike why (inl memory) = inl memory
  ends_alike why (inr (rows, are, ends)) = inr (rows, rows_same known releases keeps layout most first rs rows only are, rows_end_alike rows why ends)

-- ---- by zones

-- what is known of zones, and what may be
module _ {Z : Type 0} (known_of : Z → Releases) (settled : Z → List ℕ → Type 0) (may_be : Z → Releases → Type 0) (grown broken : Z → Z → Type 0)
    (same : (z : Z) → grown z z) (joins : (a b c : Z) → grown a b → grown b c → grown a c) (narrows : (a b : Z) (releases : Releases) → grown a b → may_be b releases → may_be a releases)
    (agrees : (z : Z) (releases : Releases) → may_be z releases → ReleasesAgree (settled z) (known_of z) releases)
    {W : Type 0} (contents : W → Option (List ℕ)) (once : FilesAnswerOnce) (layout : Layout) (plan : Limits) (limit : Option ℕ) (known left : Option (List ℕ)) (n : ℕ) (more : Option ℕ) (held : Option (List ℕ)) (mid : Counts W)
    (log now : Option (List RowNote)) (begun zones : Z) (grew : grown begun zones)
    (far : (releases : Releases) → may_be zones releases → IsFarBy layout plan.max_rows limit known left n more held (contents mid.inner) log now releases) where
  -- no round could be taken
  pub no_round : (new : Z) (why : Halt) → EndsAtTaking broken zones new why
      → EndsByZones grown broken may_be begun new (stop_of why) (λ releases. EndsInRest (by_of layout releases plan.max_rows limit) known (stop_of why) (output held (contents mid.inner) log now))
  no_round new halt.Unread is = record {
    then = zones;
    grown = grew;
    ends = inl is;
    by = λ releases may. unread_ends contents once layout plan limit known left n more held mid log now releases (agree_sound (agrees zones releases may)) (far releases may);
  }
  no_round new (halt.Stop stop.Memory) is = record {
    then = zones;
    grown = grew;
    ends = inr (refl, is);
    by = λ releases may. memory_ends contents once layout plan limit known left n more held mid log now releases (agree_sound (agrees zones releases may)) (far releases may);
  }
  no_round new (halt.Stop (stop.Row row kind)) is = absurd is
  no_round new (halt.Stop (stop.Source fault)) is = absurd is
  no_round new (halt.Stop stop.ReadFailed) is = absurd is
  no_round new (halt.Stop stop.WriteFailed) is = absurd is
  no_round new (halt.Stop stop.ColumnTooLong) is = absurd is
  no_round new (halt.Stop stop.NoThread) is = absurd is
  no_round new (halt.Stop stop.LogFailed) is = absurd is

  -- some records were taken, and their zones made ready
  module _ (then : Z) (grows : grown zones then) (rs : List CsvRecord) (next : Option (List ℕ)) (takes : Takes layout.records layout.delimiter left next rs) where
    -- the writer failed in the end
    pub flush_fails : (new : Counts W) → FailsWithin contents mid new []
        → EndsByZones grown broken may_be begun then stop.WriteFailed (λ releases. EndsInRest (by_of layout releases plan.max_rows limit) known stop.WriteFailed (output held (contents new.inner) log now))
    flush_fails new fails = record {
      then = then;
      grown = joins begun zones then grew grows;
      ends = inl refl;
      by = λ releases may. flush_ends contents once layout plan limit known left n more held mid log now releases (agree_sound (agrees then releases may)) (far releases (narrows zones then releases grows may)) new fails;
    }

    -- the next record has too many bytes
    pub long_ends : Takes layout.records layout.delimiter left next [] → IsNextTooLong (longest_of layout) layout.records layout.delimiter next → (new : Counts W) (why : RunStop)
        → ((releases : Releases) (given : CsvRecord) → may_have (longest_of layout) (length given.own) ≡ false → EndsInRecords (by_of layout releases plan.max_rows more) (writing contents mid new now now) (numbered (n + 1) (given ∷ [])) why)
        → EndsByZones grown broken may_be begun then why (λ releases. EndsInRest (by_of layout releases plan.max_rows limit) known why (output held (contents new.inner) log now))
    long_ends none long new why ends = record {
      then = then;
      grown = joins begun zones then grew grows;
      ends = inl refl;
      by = λ releases may. ends_at_record contents once layout plan limit known left n more held mid log now releases (agree_sound (agrees then releases may)) (far releases (narrows zones then releases grows may)) next none long new why (ends releases);
    }

    -- no record was left
    pub rounds_done : Takes layout.records layout.delimiter left next [] → HasNoRecord layout.records layout.delimiter next → (new : Counts W) → Wrote contents mid new [] → (releases : Releases) → may_be then releases
        → ConvertsRest (by_of layout releases plan.max_rows limit) known n (output held (contents new.inner) log now)
    rounds_done none end new flushed releases may =
        all_done contents once layout plan limit known left n more held mid log now releases (agree_sound (agrees then releases may)) (far releases (narrows zones then releases grows may)) next none end new flushed

    module _ (only : (releases : Releases) → may_be then releases → All (AreKnownZones layout.zone (known_of then) releases) rs) (new : Counts W) (last : Option (List RowNote)) where
      -- their rows were written
      pub far_on : (tally : Tally) → WritesRecords (by_of layout (known_of then) plan.max_rows more) (writing contents mid new now last) (numbered (n + 1) rs) tally → (releases : Releases) → may_be then releases
          → IsFarBy layout plan.max_rows limit known next (n + tally.rows) tally.left held (contents new.inner) log last releases
      far_on tally writes releases may =
          far_after_round contents once layout plan limit known left n more held mid log now releases (agree_sound (agrees then releases may)) (far releases (narrows zones then releases grows may)) rs next takes new last tally
          (written_alike layout plan.max_rows more rs (n + 1) (known_of then) releases (kept (agrees then releases may)) (only releases may) contents mid new now last tally writes)

      -- or the conversion ended in them
      pub round_ends : (why : RunStop) → EndsInRecords (by_of layout (known_of then) plan.max_rows more) (writing contents mid new now last) (numbered (n + 1) rs) why
          → EndsByZones grown broken may_be begun then why (λ releases. EndsInRest (by_of layout releases plan.max_rows limit) known why (output held (contents new.inner) log last))
      round_ends why ends = record {
        then = then;
        grown = joins begun zones then grew grows;
        ends = inl refl;
        by = λ releases may.
            ends_in_round contents once layout plan limit known left n more held mid log now releases (agree_sound (agrees then releases may)) (far releases (narrows zones then releases grows may)) rs next takes new last why
            (ends_alike layout plan.max_rows more rs (n + 1) (known_of then) releases (kept (agrees then releases may)) (only releases may) contents mid new now last why ends);
      }

  -- what was taken ends the run
  pub taken_ends : (then : Z) → grown zones then → (taking : Taken) (pieces : List (List ℕ)) (next : Option (List ℕ)) → Takes layout.records layout.delimiter left next (taken_records layout.delimiter taking pieces)
      → (taking ≡ takens.TooLong → IsNextTooLong (longest_of layout) layout.records layout.delimiter next)
      → ((releases : Releases) → may_be then releases → All (AreKnownZones layout.zone (known_of then) releases) (taken_records layout.delimiter taking pieces))
      → (new : Counts W) (last : Option (List RowNote)) (why : RunStop) → EndsInTaken (by_of layout (known_of then) plan.max_rows more) (writing contents mid new now last) (taken_rows (n + 1) taking pieces) why
      → EndsByZones grown broken may_be begun then why (λ releases. EndsInRest (by_of layout releases plan.max_rows limit) known why (output held (contents new.inner) log last))
  taken_ends then grows takens.End pieces next takes long only new last why ends = absurd ends
  taken_ends then grows takens.TooLong pieces next takes long only new last why ends = rw ends.1 (long_ends then grows [] next takes takes (long refl) new why ends.0)
  taken_ends then grows takens.Round pieces next takes long only new last why ends = round_ends then grows (taken_records layout.delimiter takens.Round pieces) next takes only new last why ends
  taken_ends then grows (takens.OpenLine line) pieces next takes long only new last why ends =
      round_ends then grows (taken_records layout.delimiter (takens.OpenLine line) pieces) next takes only new last why ends

-- what follows where a conversion ends by zones
pub ends_map : {Z : Type 0} (grown broken : Z → Z → Type 0) (may_be : Z → Releases → Type 0) (old new : Z) (a b : RunStop) (P Q : Releases → Type 0) → (a ≡ stop.Memory → b ≡ stop.Memory)
    → ((releases : Releases) → P releases → Q releases) → EndsByZones grown broken may_be old new a P → EndsByZones grown broken may_be old new b Q
ends_map grown broken may_be old new a b P Q memory then ends = record {
  then = ends.then;
  grown = ends.grown;
  ends = elim ends.ends [
    | inl same ↦ inl same
    | inr refused ↦ inr (memory refused.0, refused.1)
  ];
  by = λ releases may. then releases (ends.by releases may);
}

-- the zones had grown before
pub ends_from : {Z : Type 0} (grown broken : Z → Z → Type 0) (may_be : Z → Releases → Type 0) (joins : (a b c : Z) → grown a b → grown b c → grown a c) (old mid new : Z) → grown old mid → (why : RunStop) (P Q : Releases → Type 0)
    → ((releases : Releases) (z : Z) → grown mid z → may_be z releases → P releases → Q releases) → EndsByZones grown broken may_be mid new why P → EndsByZones grown broken may_be old new why Q
ends_from grown broken may_be joins old mid new first why P Q then ends = record {
  then = ends.then;
  grown = joins old mid ends.then first ends.grown;
  ends = ends.ends;
  by = λ releases may. then releases ends.then ends.grown may (ends.by releases may);
}
