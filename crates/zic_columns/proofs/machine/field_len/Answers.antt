use Rattle.std.proofs.Common.{◌≡◌, ◌+◌, ◌++◌, ◌||◌, ◌∙◌, ℕ, Bool, true, List, [], length, take, get_or, inl, inr, refl, sym, ap, subst, arith}
use Rattle.std.proofs.Math.Bool.{or-false, or-true}
use Rattle.std.proofs.lemmas.List.{take_more}
use Rattle.csv.specs.Machine.{step}
use Rattle.csv.specs.declared.parser.State.{State}
use Rattle.csv.specs.declared.parser.State.TheVariants as st
use Rattle.zic_columns.specs.Column.{config_of, state_after}
use Rattle.zic_columns.specs.Quotes.{goes_past, is_past_quote}
use Rattle.zic_columns.specs.code.Field.{HasQuotes, Spells}
use Rattle.zic_columns.specs.code.Machine.{state_at}
use Rattle.zic_columns.proofs.FieldFacts.{spells_byte, spells_none, text_of}
use Rattle.zic_columns.proofs.LineStates.{not_quoted}
use Rattle.zic_columns.proofs.QuoteFacts.{not_open, past_last, quotes_none, state_last}
use Rattle.zic_columns.specs.declared.machine.Place.{Place}
use Rattle.zic_columns.proofs.machine.field_len.Goals.{then-read, else-read}
use Rattle.zic_columns.proofs.machine.field_len.Goals as goal

pub loop-index-init : goal.loop-index-init
loop-index-init c = ([], spells_none c.args.delimiter.can, (quotes_none c.args.delimiter.can).0, (quotes_none c.args.delimiter.can).1)

pub returns-in-None : goal.returns-in-None
returns-in-None c =
    let loop = c.loop-index.invariant in
    let bytes = take c.loop-index.index c.args.bytes.now in (
      loop.0,
      record { within = omega arith; place_now = c.loop-index.place_now; spells = loop.1; ends = inr c.in-None.ensures },
      (loop.2, loop.3 ∙ ap (λ (x : Bool). x || goes_past c.args.delimiter.byte st.StartField bytes) (sym (not_open c.args.delimiter.can c.loop-index.place_now c.in-None.ensures.1))),
    )

pub loop-index-preserved : goal.loop-index-preserved
loop-index-preserved c =
    let bytes = c.args.bytes.now in
    let index = c.loop-index.index in
    let loop = c.loop-index.invariant in
    let byte = get_or bytes index 0 in
    let front = take index bytes in
    let read = c.in-Some.read in
    let is = c.in-Some.ensures in
    let more = take_more bytes index 0 c.loop-index-test.true in
    let next : read.next ≡ c.if-read.place_now = elim c.if-read.branch [
      | then-read w ↦ sym w.place_now-is
      | else-read w ↦ sym w.place_now-is
    ] in
    let past : goes_past c.args.delimiter.byte st.StartField (take (index + 1) bytes) ≡ (c.loop-index.stray || read.is_past) =
    ap (goes_past c.args.delimiter.byte st.StartField) more ∙ past_last c.args.delimiter.can st.StartField front byte ∙ ap (λ (s : State). goes_past c.args.delimiter.byte st.StartField front || is_past_quote c.args.delimiter.byte s byte) loop.2
    ∙ ap (λ (x : Bool). goes_past c.args.delimiter.byte st.StartField front || x) (sym is.1) ∙ ap (λ (x : Bool). x || read.is_past) (sym loop.3) in
    let stray : c.if-read.stray ≡ goes_past c.args.delimiter.byte st.StartField (take (index + 1) bytes) = elim c.if-read.branch [
      | then-read w ↦ w.stray-is ∙ sym (past ∙ ap (λ (x : Bool). c.loop-index.stray || x) w.if-read.true ∙ or-true c.loop-index.stray)
      | else-read w ↦ w.stray-is ∙ sym (past ∙ ap (λ (x : Bool). c.loop-index.stray || x) w.if-read.false ∙ or-false c.loop-index.stray)
    ] in (
      loop.0 ++ text_of byte read.is_text,
      subst (λ (p : Place). Spells c.args.delimiter.byte (take (index + 1) bytes) (loop.0 ++ text_of byte read.is_text) p) next
          (subst (λ (b : List ℕ). Spells c.args.delimiter.byte b (loop.0 ++ text_of byte read.is_text) read.next) (sym more) (spells_byte c.args.delimiter.can front loop.0 c.loop-index.place_now byte read loop.1 is.0)),
      subst (λ (p : Place). state_after (config_of c.args.delimiter.byte) st.StartField (take (index + 1) bytes) ≡ state_at p) next
          (ap (state_after (config_of c.args.delimiter.byte) st.StartField) more ∙ state_last c.args.delimiter.can st.StartField front byte ∙ ap (λ (s : State). (step (config_of c.args.delimiter.byte) s byte).0) loop.2 ∙ ap (λ p. p.0) is.0),
      stray,
    )

pub returns-in-Quoted : goal.returns-in-Quoted
returns-in-Quoted c =
    let bytes = c.args.bytes.now in
    let loop = c.loop-index.invariant in
    let all : c.loop-index.index ≡ length bytes = omega arith in
    let quotes : HasQuotes c.args.delimiter.byte (take c.loop-index.index bytes) c.loop-index.place_now true = (loop.2, rw c.in-Quoted.is refl) in (
      loop.0,
      record { within = omega arith; place_now = c.loop-index.place_now; spells = subst (λ (n : ℕ). Spells c.args.delimiter.byte (take n bytes) loop.0 c.loop-index.place_now) all loop.1; ends = inl refl },
      subst (λ (n : ℕ). HasQuotes c.args.delimiter.byte (take n bytes) c.loop-index.place_now true) all quotes,
    )

pub returns-in_default : goal.returns-in_default
returns-in_default c =
    let bytes = c.args.bytes.now in
    let loop = c.loop-index.invariant in
    let all : c.loop-index.index ≡ length bytes = omega arith in
    let front = take c.loop-index.index bytes in
    let quotes : HasQuotes c.args.delimiter.byte front c.loop-index.place_now c.loop-index.stray =
    (loop.2, loop.3 ∙ ap (λ (x : Bool). x || goes_past c.args.delimiter.byte st.StartField front) (sym (not_quoted c.loop-index.place_now c.in_default.not-Quoted))) in (
      loop.0,
      record { within = omega arith; place_now = c.loop-index.place_now; spells = subst (λ (n : ℕ). Spells c.args.delimiter.byte (take n bytes) loop.0 c.loop-index.place_now) all loop.1; ends = inl refl },
      subst (λ (n : ℕ). HasQuotes c.args.delimiter.byte (take n bytes) c.loop-index.place_now c.loop-index.stray) all quotes,
    )
