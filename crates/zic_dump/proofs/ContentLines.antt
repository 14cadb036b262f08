-- Content lines that grow.
use Rattle.std.proofs.Common.{◌+◌, ◌≤◌, ℕ, ⊎_elim, Bool, true, false, List, [], ◌∷◌, ◌++◌, length, length-append, ◌∙◌, arith}
use Rattle.std.specs.Prelude.{if◌then◌else◌}
use Rattle.std.proofs.lemmas.Bool.{cases_lt}
use Rattle.std.proofs.lemmas.List.{get_or_append_left, get_or-append-add}
use Rattle.zic_dump.specs.ContentLines.{HasFeed, AreLines}

-- a line feed stays where it is, and is there before a later end too
pub feed_stays : (text more : List ℕ) (from end later : ℕ) → end ≤ length text → end ≤ later → HasFeed text from end → HasFeed (text ++ more) from later
feed_stays text more from end later within after feed =
    let high = feed.2 in
    (feed.0, feed.1, omega (arith, high, after), get_or_append_left text more 0 feed.0 (omega (arith, high, within)) ∙ feed.3)

-- no text
pub no_lines : AreLines [] 0
no_lines = record { short = λ i far. absurd (omega (arith, far)); last = λ i far. absurd (omega (arith, far)); room = omega arith }

-- a greater number of bytes is as good
pub more_room : (text : List ℕ) (used room : ℕ) → AreLines text used → used ≤ room → room ≤ 75 → AreLines text room
more_room text used room lines le most = record { short = lines.short; last = λ i far. lines.last i (omega (arith, far, le)); room = most }

-- bytes that the last line has room for
pub appended : (text more : List ℕ) (used : ℕ) → AreLines text used → used + length more ≤ 75 → AreLines (text ++ more) (used + length more)
appended text more used lines room =
    let len = length-append text more in
    record {
      short = λ i far. ⊎_elim
          (λ inside. feed_stays text more i (i + 77) (i + 77) (omega (arith, inside)) (omega arith) (lines.short i inside))
          (λ outside. feed_stays text more i (length text) (i + 77) (omega arith) (omega (arith, outside)) (lines.last i (omega (arith, far, len, room))))
          (cases_lt (i + 76) (length text));
      last = λ i far. feed_stays text more i (length text) (length (text ++ more)) (omega arith) (omega (arith, len)) (lines.last i (omega (arith, far, len)));
      room = room;
    }

-- the end of a line, and the bytes after it
pub ended : (text rest : List ℕ) (used : ℕ) → AreLines text used → length rest ≤ 75 → AreLines (text ++ (13 ∷ 10 ∷ rest)) (length rest)
ended text rest used lines fits =
    let more = 13 ∷ 10 ∷ rest in
    let len = length-append text more in
    let room = lines.room in
    let feed = get_or-append-add text more 1 0 in
    record {
      short = λ i far. ⊎_elim
          (λ inside. feed_stays text more i (i + 77) (i + 77) (omega (arith, inside)) (omega arith) (lines.short i inside))
          (λ outside. ⊎_elim
          (λ before. feed_stays text more i (length text) (i + 77) (omega arith) (omega (arith, outside)) (lines.last i before))
          (λ after. (length text + 1, omega (arith, far, len, fits), omega (arith, after, room), feed))
          (cases_lt (i + used) (length text)))
          (cases_lt (i + 76) (length text));
      last = λ i far. (length text + 1, omega (arith, far, len), omega (arith, len), feed);
      room = fits;
    }

-- bytes that the last line has room for, if there was memory
pub pushed : (ok : Bool) (text more : List ℕ) (used : ℕ) → AreLines text used → used + length more ≤ 75 → AreLines (if ok then text ++ more else text) (used + length more)
pushed true text more used lines room = appended text more used lines room
pushed false text more used lines room = more_room text used (used + length more) lines (omega arith) room
