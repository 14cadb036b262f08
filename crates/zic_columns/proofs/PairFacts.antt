-- A record of two fields, neither of which begins with a double quote.
use Rattle.std.proofs.Common.{◌≡◌, ◌≢◌, ℕ, ◌+◌, ◌<◌, ◌≤◌, ◌==◌, ◌∷◌, false, List, [], length, drop, get_or, inr, refl, sym, ap, subst, ◌∙◌, ⊎_elim, arith}
use Rattle.std.proofs.lemmas.Bool.{cases_lt, false_from_ne_true, ne_eqb}
use Rattle.std.proofs.lemmas.List.{get_or-drop, length-append, length-drop}
use Rattle.zic_columns.specs.Column.{CanDelimit, ends_line}
use Rattle.zic_columns.specs.Record.{IsPairOf, bytes_at, pair_record}
use Rattle.zic_columns.specs.code.Field.{IsFieldAt}
use Rattle.zic_columns.specs.code.Machine.{BeginsRecord}
use Rattle.zic_columns.specs.code.Plain.{IsLineEndAt, no_fields, record_of, zone_and_time}
use Rattle.zic_columns.specs.code.Walk.{HasWalked, IsFieldEnd, IsRecordFrom}
use Rattle.zic_columns.specs.declared.fields.Pair.{Pair}
use Rattle.zic_columns.specs.declared.fields.Record.{Record}
use Rattle.zic_columns.proofs.PlainFacts.{last_text, other_text}
use Rattle.zic_columns.proofs.StepFacts.{either}
use Rattle.zic_columns.proofs.WalkFacts.{field_ends, field_to, line_end_ends, plain_at, record_out, walked_none, walked_on}

module _ {d : ℕ} (can : CanDelimit d) (piece : List ℕ) where
  -- a line end is no delimiter
  pub delimits : (byte : ℕ) → byte ≡ d → ends_line byte ≡ false
  delimits byte is = subst (λ (b : ℕ). ends_line b ≡ false) (sym is) (rw (ne_eqb d 13 can.return, ne_eqb d 10 can.feed) refl)

  module _ (start middle stop : ℕ) (first : IsFieldEnd d piece start middle) (inside : middle < length piece) (here : get_or piece middle 0 ≡ d)
      (last : IsFieldEnd d piece (middle + 1) stop) (within : stop < length piece) (other : get_or piece stop 0 ≢ d)
      (bare : get_or piece start 0 ≢ 34) (bare_too : get_or piece (middle + 1) 0 ≢ 34) where
    abbrev pub pair : Pair
    pair = record { start = start; stop = middle; end = stop }

    -- the first byte ends no line, since a delimiter ends the first field
    starts : ends_line (get_or piece start 0) ≡ false
    starts = ⊎_elim
        (λ (before : start < middle).
        false_from_ne_true (ends_line (get_or piece start 0)) (λ yes. first.before start (omega arith) before (line_end_ends can (get_or piece start 0) yes)))
        (λ (le : middle ≤ start). let same : start ≡ middle = omega (arith, le, first.low) in delimits (get_or piece start 0) (ap (λ (n : ℕ). get_or piece n 0) same ∙ here))
        (cases_lt start middle)

    begins : BeginsRecord (drop start piece)
    begins = record {
      some = omega (arith, length-drop start piece, first.low, inside);
      begins = let at : start + 0 ≡ start = omega arith in ap ends_line (get_or-drop start piece 0 0) ∙ ap (λ (n : ℕ). ends_line (get_or piece n 0)) at ∙ starts;
    }

    none : HasWalked d piece start zone_and_time (record_of start start (no_fields start)) start
    none = walked_none can piece start zone_and_time (record_of start start (no_fields start)) (omega (arith, first.low, inside)) refl refl refl refl refl

    zone : IsFieldAt d piece start (field_to start middle)
    zone = plain_at can piece start middle first (λ _. bare)

    -- the first field alone
    abbrev begun : Record
    begun = record_of start start (record { count = 1; zone = record { start = start; end = middle }; time = record { start = start; end = start } })

    walked : HasWalked d piece start zone_and_time begun (middle + 1)
    walked =
        let text = bytes_at piece (record { start = start; end = middle }) in
        let no = none.has.count in
        walked_on can piece start zone_and_time (record_of start start (no_fields start)) start none (field_to start middle) zone begun inside here refl refl
        (record {
          count = omega (arith, no, length-append none.fields (text ∷ []));
          zone_within = (first.low, first.high);
          zone = sym (last_text none.fields text 0 no);
          time_within = none.has.time_within;
          time = none.has.time ∙ sym (other_text none.fields text 1 (λ is. omega (arith, no, is)));
        }) refl (record { taken = λ is. absurd (omega (arith, is)); same = λ _. refl })

    time : IsFieldAt d piece (middle + 1) (field_to (middle + 1) stop)
    time = plain_at can piece (middle + 1) stop last (λ _. bare_too)

    no_delimiter : (get_or piece stop 0 == d) ≡ false
    no_delimiter = ne_eqb (get_or piece stop 0) d other

    from : IsRecordFrom d piece start zone_and_time (pair_record pair)
    from =
        let text = bytes_at piece (record { start = middle + 1; end = stop }) in
        let one = walked.has.count in
        record_out can piece start zone_and_time begun (middle + 1) walked (field_to (middle + 1) stop) time begins (pair_record pair) refl
        (record {
          count = omega (arith, one, length-append walked.fields (text ∷ []));
          zone_within = (first.low, first.high);
          zone = walked.has.zone ∙ sym (other_text walked.fields text 0 (λ is. omega (arith, one, is)));
          time_within = (last.low, last.high);
          time = sym (last_text walked.fields text 1 one);
        }) refl (record { taken = λ _. refl; same = λ other. absurd (other refl) }) (inr (within, no_delimiter))

    ended : IsLineEndAt piece stop
    ended = record {
      within = within;
      here = either (get_or piece stop 0 == d) (ends_line (get_or piece stop 0)) (field_ends can piece (middle + 1) stop last within) no_delimiter;
    }

    pub pair_from : (IsRecordFrom d piece start zone_and_time (pair_record pair)) × IsLineEndAt piece stop
    pair_from = (from, ended)

    pub is_pair : IsPairOf d piece pair
    is_pair = record { first = first.low; second = omega (arith, last.low); within = omega (arith, within); between = here }
