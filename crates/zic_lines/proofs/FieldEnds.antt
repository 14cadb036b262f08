-- The bytes of a line, one after the other and run by run.
use Rattle.std.proofs.Common.{◌≡◌, ℕ, ◌+◌, ◌-◌, ◌<◌, ◌≤◌, Bool, true, false, not, cond, leb, List, [], ◌∷◌, ◌++◌, length, get_or, drop, sym, ap, refl, ◌∙◌, append_assoc, arith}
use Rattle.std.specs.Prelude.{◌&&◌, slice_range}
use Rattle.std.proofs.lemmas.Bool.{ne_eqb, and_parts, leb-true, lt-leb, le-leb, or_right}
use Rattle.std.proofs.lemmas.List.{append_cancel_right, drop_more, length-drop, length-take-le}
use Rattle.std.proofs.lemmas.List.Elements.{filter-append, All-head, All-tail}
use Rattle.std.proofs.lemmas.List.Folds.{drop_split}
use Rattle.zic_lines.specs.declared.field.Role.TheVariants as role
use Rattle.zic_lines.specs.Field.{is_quote, is_space, starts_comment}
use Rattle.zic_lines.specs.code.Taken.{role_of, is_plain, ArePlain, without_quotes}
use Rattle.zic_lines.proofs.Marks.{role-text, mark_of, means}

-- ---- parts of a line

pub joined : (line : List ℕ) (start stop «end» : ℕ) → start ≤ stop → stop ≤ «end» → slice_range line start «end» ≡ slice_range line start stop ++ slice_range line stop «end»
joined line start stop end' le le' =
    append_cancel_right (slice_range line start end') (slice_range line start stop ++ slice_range line stop end') (drop end' line)
    (sym (drop_split line start end' (omega (arith, le, le')))
    ∙ drop_split line start stop le
    ∙ ap (λ (l : List ℕ). slice_range line start stop ++ l) (drop_split line stop end' le')
    ∙ sym (append_assoc (slice_range line start stop) (slice_range line stop end') (drop end' line)))

pub one_byte : (line : List ℕ) (at : ℕ) → at < length line → slice_range line at (at + 1) ≡ get_or line at 0 ∷ []
one_byte line at lt =
    append_cancel_right (slice_range line at (at + 1)) (get_or line at 0 ∷ []) (drop (at + 1) line)
    (sym (drop_split line at (at + 1) (omega arith)) ∙ drop_more line at 0 lt)

pub no_byte : (line : List ℕ) (at : ℕ) → slice_range line at at ≡ []
no_byte line at = append_cancel_right (slice_range line at at) [] (drop at line) (sym (drop_split line at at (omega arith)))

pub one_more : (line : List ℕ) (start at : ℕ) → start ≤ at → at < length line → slice_range line start (at + 1) ≡ slice_range line start at ++ get_or line at 0 ∷ []
one_more line start at le lt = joined line start at (at + 1) le (omega arith) ∙ ap (λ (l : List ℕ). slice_range line start at ++ l) (one_byte line at lt)

pub slice_length : (line : List ℕ) (start stop : ℕ) → stop ≤ length line → length (slice_range line start stop) ≡ stop - start
slice_length line start stop within = length-take-le (stop - start) (drop start line) (omega (arith, length-drop start line, within))

-- ---- bytes without the double quotes

text_unchanged : (byte : ℕ) → is_quote byte ≡ false → without_quotes (byte ∷ []) ≡ byte ∷ []
text_unchanged byte e = ap (λ (b : Bool). cond (not b) (byte ∷ []) []) e

without_push : (bytes : List ℕ) (more : List ℕ) → without_quotes (bytes ++ more) ≡ without_quotes bytes ++ without_quotes more
without_push bytes more = filter-append (λ byte. not (is_quote byte)) bytes more

-- ---- what a byte is

no_space : (byte : ℕ) → is_plain byte ≡ true → is_space byte ≡ false
no_space byte e =
    let least : 36 ≤ byte = leb-true 36 byte (and_parts (leb 36 byte) (leb byte 126) e).0 in
    rw (ne_eqb byte 32 (λ at. omega (arith, at, least)), ne_eqb byte 9 (λ at. omega (arith, at, least)), lt-leb byte 13 (omega (arith, least)), le-leb 11 byte (omega (arith, least))) refl

plain_is_other : (byte : ℕ) → is_plain byte ≡ true → is_quote byte ≡ false
plain_is_other byte e = ne_eqb byte 34 (λ at. omega (arith, at, leb-true 36 byte (and_parts (leb 36 byte) (leb byte 126) e).0))

pub plain_is_text : (byte : ℕ) (quoted : Bool) → is_plain byte ≡ true → role_of byte quoted ≡ role.Text
plain_is_text byte quoted e =
    let parts = and_parts (leb 36 byte) (leb byte 126) e in
    let least : 36 ≤ byte = leb-true 36 byte parts.0 in
    let number : starts_comment (mark_of byte quoted) ≡ false = ap (λ (b : Bool). b && not quoted) (ne_eqb byte 35 (λ at. omega (arith, at, least))) in
    let printed : (leb 33 byte && leb byte 126) ≡ true = rw (le-leb 33 byte (omega (arith, least)), parts.1) refl in
    role-text byte quoted number (plain_is_other byte e) (or_right (is_space byte) _ printed) (ap (λ (b : Bool). b && not quoted) (no_space byte e))

text_is_other : (byte : ℕ) (quoted : Bool) → role_of byte quoted ≡ role.Text → is_quote byte ≡ false
text_is_other byte quoted e = let text = means byte quoted e in text.0.other

-- ---- text without double quotes

plain_bare : (run : List ℕ) → ArePlain run → without_quotes run ≡ run
plain_bare [] h = refl
plain_bare (byte ∷ run) h =
    without_push (byte ∷ []) run
    ∙ ap (λ (l : List ℕ). l ++ without_quotes run) (text_unchanged byte (plain_is_other byte (All-head (λ b. is_plain b ≡ true) byte run h)))
    ∙ ap (λ (l : List ℕ). byte ∷ l) (plain_bare run (All-tail (λ b. is_plain b ≡ true) byte run h))

module _ (line : List ℕ) (start at stop : ℕ) (rises : start ≤ at) (on : at ≤ stop) (plain : ArePlain (slice_range line at stop)) where
  pub run_bare : without_quotes (slice_range line start at) ≡ slice_range line start at → without_quotes (slice_range line start stop) ≡ slice_range line start stop
  run_bare bare =
      ap without_quotes (joined line start at stop rises on)
      ∙ without_push (slice_range line start at) (slice_range line at stop)
      ∙ ap (λ (l : List ℕ). l ++ without_quotes (slice_range line at stop)) bare
      ∙ ap (λ (l : List ℕ). slice_range line start at ++ l) (plain_bare (slice_range line at stop) plain)
      ∙ sym (joined line start at stop rises on)

module _ (line : List ℕ) (start at : ℕ) (rises : start ≤ at) (lt : at < length line) (quoted : Bool) where
  pub text_bare : role_of (get_or line at 0) quoted ≡ role.Text → without_quotes (slice_range line start at) ≡ slice_range line start at → without_quotes (slice_range line start (at + 1)) ≡ slice_range line start (at + 1)
  text_bare e bare =
      ap without_quotes (one_more line start at rises lt)
      ∙ without_push (slice_range line start at) (get_or line at 0 ∷ [])
      ∙ ap (λ (l : List ℕ). l ++ without_quotes (get_or line at 0 ∷ [])) bare
      ∙ ap (λ (l : List ℕ). slice_range line start at ++ l) (text_unchanged (get_or line at 0) (text_is_other (get_or line at 0) quoted e))
      ∙ sym (one_more line start at rises lt)

pub no_byte_bare : (line : List ℕ) (at : ℕ) → without_quotes (slice_range line at at) ≡ slice_range line at at
no_byte_bare line at = ap without_quotes (no_byte line at) ∙ sym (no_byte line at)
