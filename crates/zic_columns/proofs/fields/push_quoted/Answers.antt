use Rattle.std.proofs.Common.{◌≡◌, ◌∙◌, ◌+◌, ◌++◌, ℕ, List, length, take, get_or, inl, inr, sym, ap, subst, append_assoc, arith}
use Rattle.std.proofs.lemmas.List.{append-nil, take_more}
use Rattle.zic_columns.specs.code.Field.{Spells}
use Rattle.zic_columns.specs.declared.machine.Place.{Place}
use Rattle.zic_columns.proofs.FieldFacts.{spells_byte, text_after, text_of}
use Rattle.zic_columns.proofs.fields.push_quoted.Goals.{then-read+in_ok-push, else-read}
use Rattle.zic_columns.proofs.fields.push_quoted.Goals as goal

pub returns-in_default : goal.returns-in_default
returns-in_default c =
    let loop = c.loop-byte.invariant in
    let after = c.after_line_ends-rest in
    let text = text_after c.args.delimiter.can c.args.bytes.now after.result.now loop.0 c.loop-byte.byte-index after.ensures
    (record { within = omega arith; place_now = c.loop-byte.place_now; spells = loop.2; ends = inr c.in_default.ensures }) in
    loop.1 ∙ ap (λ (t : List ℕ). c.args.text.now.items ++ t) (sym text)

pub loop-byte-preserved : goal.loop-byte-preserved
loop-byte-preserved c =
    let loop = c.loop-byte.invariant in
    let rest = c.after_line_ends-rest.result.now in
    let index = c.loop-byte.byte-index in
    let byte = get_or rest index 0 in
    let read = c.in-Some.read in
    let more = text_of byte read.is_text in
    let items : c.if-read.text.items ≡ c.loop-byte.text.items ++ more = elim c.if-read.branch [
      | then-read+in_ok-push w ↦ rw (w.text-is, w.if-read.true) w.in_ok-push.ensures.items
      | else-read w ↦ rw (w.text-is, w.if-read.false) (sym (append-nil c.loop-byte.text.items))
    ] in
    let place_now : read.next ≡ c.if-read.place_now = elim c.if-read.branch [
      | then-read+in_ok-push w ↦ sym w.place_now-is
      | else-read w ↦ sym w.place_now-is
    ] in (
      loop.0 ++ more,
      items ∙ ap (λ (t : List ℕ). t ++ more) loop.1 ∙ append_assoc c.args.text.now.items loop.0 more,
      subst (λ (p : Place). Spells c.args.delimiter.byte (take (index + 1) rest) (loop.0 ++ more) p) place_now
          (subst (λ (b : List ℕ). Spells c.args.delimiter.byte b (loop.0 ++ more) read.next) (sym (take_more rest index 0 c.loop-byte-test.true))
          (spells_byte c.args.delimiter.can (take index rest) loop.0 c.loop-byte.place_now byte read loop.2 c.in-Some.ensures.0)),
    )

pub returns : goal.returns
returns c =
    let loop = c.loop-byte.invariant in
    let after = c.after_line_ends-rest in
    let all : c.loop-byte.byte-index ≡ length after.result.now = omega arith in
    let text = text_after c.args.delimiter.can c.args.bytes.now after.result.now loop.0 c.loop-byte.byte-index after.ensures
    (record { within = omega arith; place_now = c.loop-byte.place_now; spells = loop.2; ends = inl all }) in
    loop.1 ∙ ap (λ (t : List ℕ). c.args.text.now.items ++ t) (sym text)
