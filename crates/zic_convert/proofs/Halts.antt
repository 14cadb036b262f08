-- How many rows there are, and how a conversion ends in a round.
use Rattle.std.proofs.Common.{◌≡◌, ◌≤◌, ◌+◌, ℕ, List, [], length, Option, None, inl, inr, refl, sym, subst, ◌∙◌, arith}
use Rattle.std.proofs.Math.Seq.{take-length}
use Rattle.std.proofs.lemmas.List.{append-nil}
use Rattle.zic_columns.specs.Own.{CsvRecord}
use Rattle.zic_counted.specs.Counts.{Counts}
use Rattle.zic_counted.specs.Written.{FailsWithin}
use Rattle.zic_zones.specs.declared.zones.Releases.{Releases}
use Rattle.zic_convert.specs.By.{By}
use Rattle.zic_convert.specs.Laws.{AreSoundReleases}
use Rattle.zic_tzif.specs.Laws.{FilesAnswerOnce}
use Rattle.zic_layouts.specs.declared.layout.Layout.{Layout}
use Rattle.zic_layouts.specs.Noted.{RowNote}
use Rattle.zic_base.specs.declared.stops.RunStop.{RunStop}
use Rattle.zic_base.specs.declared.stops.RunStop.TheVariants as stop
use Rattle.zic_convert.specs.Run.{EndsAfterLines, EndsAtRow, EndsIn}
use Rattle.zic_piece_rows.specs.PieceRows.{AreRowsOf, RowsOf}
use Rattle.zic_convert.specs.code.Progress.{ComeNext, IsSoFar, output, tally_of}
use Rattle.zic_convert.specs.code.Written.{EndsInRows, numbered, writing}
use Rattle.csv.proofs.WriteFacts.{appends-none}
use Rattle.zic_piece_rows.proofs.Coming.{all_texts, all_within, few_texts}
use Rattle.zic_convert.proofs.Progress.{ends_after, ends_here, up_to_fault, up_to_row}

-- rows without a fault are as many as their records
pub as_many : (layout : Layout) (releases : Releases) (most n : ℕ) (rs : List CsvRecord) (rows : RowsOf) → AreRowsOf layout releases most n rs rows → rows.fault ≡ None → rows.count ≡ length rs
as_many layout releases most n rs rows are none = are.count ∙ all_texts layout releases most n rs are.texts (rw none at are.come)

-- and no more than there may be
pub no_more : (layout : Layout) (releases : Releases) (most n : ℕ) (rs : List CsvRecord) (rows : RowsOf) → AreRowsOf layout releases most (n + 1) rs rows → rows.fault ≡ None → n ≤ most → n + rows.count ≤ most
no_more layout releases most n rs rows are none within =
    let all = all_within layout releases most (n + 1) rs are.texts (rw none at are.come) (omega (arith, within)) in
    omega (arith, are.count, all)

-- rows are no more than their records
pub few : (layout : Layout) (releases : Releases) (most n : ℕ) (rs : List CsvRecord) (rows : RowsOf) → AreRowsOf layout releases most n rs rows → rows.count ≤ length rs
few layout releases most n rs rows are = omega (arith, are.count, few_texts layout releases most n rs are.texts rows.fault are.come)

module _ {W : Type 0} (contents : W → Option (List ℕ)) (once : FilesAnswerOnce) (by : By) (sound : AreSoundReleases by.releases) (all : List CsvRecord)
    (left : Option (List ℕ)) (n : ℕ) (more : Option ℕ) (old : Option (List ℕ)) (mid new : Counts W) (log now last : Option (List RowNote))
    (far : IsSoFar by all left (tally_of n more) (output old (contents mid.inner) log now)) where
  -- a row ends the run, or the writer or the log failed
  pub ends_in_rows : (rs : List CsvRecord) → ComeNext by.layout left rs → (rows : RowsOf) → AreRowsOf by.layout by.releases by.most_rows (n + 1) rs rows → (why : RunStop)
      → EndsInRows (record by { max_faults = more }) (writing contents mid new now last) (numbered (n + 1) rs) rows why → EndsIn by [] all why (output old (contents new.inner) log last)
  ends_in_rows rs come rows are (stop.Row row kind) (inl (h, few)) = inl
      (subst (λ (k : ℕ). EndsAtRow by [] all (record { row = k; kind = kind }) (output old (contents new.inner) log last)) (sym h.1)
      (up_to_row by all left n more old (contents mid.inner) (contents new.inner) log now last far rs rows are come kind h.0 h.2.0 h.3 few))
  ends_in_rows rs come rows are (stop.Row row kind) (inr h) = inr
      (up_to_fault by all left n more old (contents mid.inner) (contents new.inner) log now last far rs rows are come once sound row kind h.front h.rest h.come h.before h.too_many
      h.number h.wrote.0 h.noted)
  ends_in_rows rs come rows are stop.WriteFailed h =
      ends_after by all left n more old (contents mid.inner) (contents new.inner) log now last far rs rows are come once sound h.done h.more h.parts h.front h.are
      h.reached h.beyond h.within h.upto h.are_upto h.fails.part h.fails.starts h.fails.least stop.WriteFailed (inr refl) h.fails.wrote h.noted h.few h.may
  ends_in_rows rs come rows are (stop.Source fault) h = absurd h
  ends_in_rows rs come rows are stop.ReadFailed h = absurd h
  ends_in_rows rs come rows are stop.ColumnTooLong h = absurd h
  ends_in_rows rs come rows are stop.Memory h = absurd h
  ends_in_rows rs come rows are stop.NoThread h = absurd h
  ends_in_rows rs come rows are stop.LogFailed h =
      ends_after by all left n more old (contents mid.inner) (contents new.inner) log now last far rs rows are come once sound rs [] (sym (append-nil rs)) rows are
      rs [] (sym (append-nil rs)) rows are rows.text (take-length rows.text) (take-length rows.text) stop.LogFailed (inl refl) h.0.2.0 h.0.3 h.1 h.1

module _ (once : FilesAnswerOnce) (by : By) (sound : AreSoundReleases by.releases) (all : List CsvRecord)
    (left : Option (List ℕ)) (n : ℕ) (more : Option ℕ) (old mid : Option (List ℕ)) (log now : Option (List RowNote)) (far : IsSoFar by all left (tally_of n more) (output old mid log now)) where
  -- nothing more was written
  pub ends_still : (why : RunStop) → EndsAfterLines by [] all why (output old mid log now)
  ends_still why = ends_here by all once sound left n more old mid mid log now far why [] refl (inl refl) (appends-none mid)

-- the writer failed as it passed on what it held back
pub ends_at_flush : {W : Type 0} (contents : W → Option (List ℕ)) (once : FilesAnswerOnce) (by : By) (sound : AreSoundReleases by.releases) (all : List CsvRecord)
    (left : Option (List ℕ)) (n : ℕ) (more : Option ℕ) (old : Option (List ℕ)) (mid new : Counts W) (log now : Option (List RowNote))
    → IsSoFar by all left (tally_of n more) (output old (contents mid.inner) log now) → FailsWithin contents mid new []
    → EndsAfterLines by [] all stop.WriteFailed (output old (contents new.inner) log now)
ends_at_flush contents once by sound all left n more old mid new log now far fails =
    ends_here by all once sound left n more old (contents mid.inner) (contents new.inner) log now far stop.WriteFailed fails.part fails.starts (inr refl) fails.wrote
