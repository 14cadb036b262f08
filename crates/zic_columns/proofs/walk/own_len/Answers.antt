use Rattle.std.proofs.Common.{◌≡◌, ◌<◌, ◌∙◌, ◌+◌, ◌-◌, ℕ, ◌∷◌, List, length, take, drop, ap, subst, arith}
use Rattle.csv.specs.declared.parser.State.TheVariants as st
use Rattle.zic_columns.specs.Own.{own_texts}
use Rattle.zic_columns.specs.code.Machine.{IsEndOfRecord}
use Rattle.zic_columns.specs.code.Own.{IsOwnLen}
use Rattle.zic_columns.specs.code.Plain.{record_of}
use Rattle.zic_columns.specs.code.Walk.{IsRecordFrom}
use Rattle.zic_columns.specs.declared.fields.Record.{Record}
use Rattle.zic_columns.specs.declared.fields.Wanted.{Wanted}
use Rattle.zic_columns.proofs.walk.own_len.Goals as goal

module _ (d : ℕ) (bytes : List ℕ) (wanted : Wanted) (given : Record) (is : IsRecordFrom d bytes 0 wanted given) where
  -- the length of the record's own bytes
  own_is : IsOwnLen d bytes given.own.«end»
  own_is =
      let len = given.own.«end» in
      let all : len - 0 ≡ len = omega arith in
      record {
        within = is.split.own.1;
        first = is.owns ∙ ap (λ (s : ℕ). take (len - s) (drop s bytes) ∷ own_texts d (drop len bytes)) is.at ∙ ap (λ (n : ℕ). take n bytes ∷ own_texts d (drop len bytes)) all;
      }

  ended_is : given.own.«end» < length bytes → IsEndOfRecord d st.StartField bytes (given.own.«end» + 1)
  ended_is inside =
      let len = given.own.«end» in
      let all : len - 0 ≡ len = omega arith in
      subst (λ (n : ℕ). IsEndOfRecord d st.StartField bytes (n + 1)) all (is.ended inside)

pub returns-in-Some-clause-own : goal.returns-in-Some-clause-own
returns-in-Some-clause-own c =
    let plain = c.in-Some.plain in
    own_is c.args.delimiter.byte c.args.bytes.now _ (record_of plain.start plain.«end» plain.fields) c.in-Some.ensures.from

pub returns-in-Some-clause-ended : goal.returns-in-Some-clause-ended
returns-in-Some-clause-ended c =
    let plain = c.in-Some.plain in
    ended_is c.args.delimiter.byte c.args.bytes.now _ (record_of plain.start plain.«end» plain.fields) c.in-Some.ensures.from

pub returns-clause-own : goal.returns-clause-own
returns-clause-own c = own_is c.args.delimiter.byte c.args.bytes.now _ c.split_record.result c.split_record.ensures

pub returns-clause-ended : goal.returns-clause-ended
returns-clause-ended c = ended_is c.args.delimiter.byte c.args.bytes.now _ c.split_record.result c.split_record.ensures
