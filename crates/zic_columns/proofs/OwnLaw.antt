-- A column is the own bytes of its records and line ends.
use Rattle.std.proofs.Common.{◌≡◌, ◌+◌, ◌<◌, ℕ, zero, suc, true, false, List, [], ◌∷◌, ◌++◌, length, length-append, refl, sym, ap, ◌∙◌, subst, ⊎_elim, append_assoc, arith}
use Rattle.std.proofs.lemmas.Bool.{both_ways, cases_Bool}
use Rattle.std.proofs.lemmas.List.{append-nil}
use Rattle.std.proofs.lemmas.List.Elements.{All-cons, All-nil}
use Rattle.csv.specs.Machine.{is_end, step}
use Rattle.csv.specs.declared.parser.State.{State}
use Rattle.csv.specs.declared.parser.State.TheVariants as st
use Rattle.zic_columns.specs.Column.{CanDelimit, config_of, ends_line}
use Rattle.zic_columns.specs.Ends.{AreBetweenEnds, BeginsWithEnd, BeginsWithin}
use Rattle.zic_columns.specs.Own.{own_from, own_texts}
use Rattle.zic_columns.proofs.CutLaw.{in_record, stays}
use Rattle.zic_columns.proofs.OwnFacts.{own_before}
use Rattle.zic_columns.proofs.OwnLens.{line_ends, own_end, own_last, own_more, own_nil, own_then, starts}
use Rattle.zic_columns.proofs.SomeRecords.{step_before}

-- one line end more before the first text
one_end_more : (byte : ℕ) (texts : List (List ℕ)) (bytes : List ℕ) → ends_line byte ≡ true → AreBetweenEnds texts bytes → AreBetweenEnds texts (byte ∷ bytes)
one_end_more byte [] bytes ends are = All-cons (λ b. ends_line b ≡ true) byte bytes ends are
one_end_more byte (text ∷ texts) bytes ends are =
    (byte ∷ are.0, are.1, All-cons (λ b. ends_line b ≡ true) byte are.0 ends are.2, are.3, ap (λ (b : List ℕ). byte ∷ b) are.4, are.5, are.6)

fewer_left : (byte : ℕ) (front rest bytes : List ℕ) → bytes ≡ front ++ rest → length rest < length (byte ∷ bytes)
fewer_left byte front rest bytes whole =
    let sum : length bytes ≡ length front + length rest = ap length whole ∙ length-append front rest in omega (arith, sum)

module _ {d : ℕ} (can : CanDelimit d) where
  -- The machine, in a record that has some own bytes, goes on to the end of the record: a line end or the end of the bytes follows.
  record GoesToEnd (s : State) (own bytes : List ℕ) : Type 0 where
    pub front : List ℕ
    pub rest : List ℕ
    pub whole : bytes ≡ front ++ rest
    pub begins : BeginsWithEnd rest
    pub owns : own_from (config_of d) s own bytes ≡ (own ++ front) ∷ own_texts d rest

  goes_to_end : (s : State) (own bytes : List ℕ) → in_record s ≡ true → GoesToEnd s own bytes
  goes_to_end s own [] is = record {
    front = [];
    rest = [];
    whole = refl;
    begins = tt;
    owns = own_last can s own is ∙ ap (λ (b : List ℕ). b ∷ []) (sym (append-nil own)) ∙ ap (λ (t : List (List ℕ)). (own ++ []) ∷ t) (sym (own_nil can));
  }
  goes_to_end s own (byte ∷ bytes) is =
      let to = step (config_of d) s byte in
      ⊎_elim
      (λ (ends : is_end to.1 ≡ true).
      let line_end = line_ends can s byte is ends in
      record {
        front = [];
        rest = byte ∷ bytes;
        whole = refl;
        begins = line_end;
        owns = own_then can s byte own bytes ends
            ∙ ap (λ (t : List (List ℕ)). own ∷ t) (own_before can to.0 bytes (step_before d s byte ends) ∙ sym (own_end can byte bytes line_end))
            ∙ ap (λ (b : List ℕ). b ∷ own_texts d (byte ∷ bytes)) (sym (append-nil own));
      })
      (λ (goes : is_end to.1 ≡ false).
      let later = goes_to_end to.0 (own ++ byte ∷ []) bytes (stays can s byte is goes) in
      record {
        front = byte ∷ later.front;
        rest = later.rest;
        whole = ap (λ (b : List ℕ). byte ∷ b) later.whole;
        begins = later.begins;
        owns = own_more can s byte own bytes is goes ∙ later.owns ∙ ap (λ (b : List ℕ). b ∷ own_texts d later.rest) (append_assoc own (byte ∷ []) later.front);
      })
      (cases_Bool (is_end to.1))

  -- the first record's own bytes, before what follows
  record IsFirst (bytes : List ℕ) : Type 0 where
    pub own : List ℕ
    pub rest : List ℕ
    pub whole : bytes ≡ own ++ rest
    pub fewer : length rest < length bytes
    pub starts : BeginsWithin own
    pub begins : BeginsWithEnd rest
    pub owns : own_texts d bytes ≡ own ∷ own_texts d rest

  first_of_record : (byte : ℕ) (bytes : List ℕ) → ends_line byte ≡ false → IsFirst (byte ∷ bytes)
  first_of_record byte bytes within =
      let s = st.StartField in
      let to = step (config_of d) s byte in
      let goes : is_end to.1 ≡ false = ⊎_elim (λ yes. absurd (both_ways (ends_line byte) within (line_ends can s byte refl yes))) (λ no. no) (cases_Bool (is_end to.1)) in
      let later = goes_to_end to.0 (byte ∷ []) bytes (stays can s byte refl goes) in
      record {
        own = byte ∷ later.front;
        rest = later.rest;
        whole = ap (λ (b : List ℕ). byte ∷ b) later.whole;
        fewer = fewer_left byte later.front later.rest bytes later.whole;
        starts = within;
        begins = later.begins;
        owns = starts can byte bytes within ∙ own_more can s byte [] bytes refl goes ∙ later.owns;
      }

  between_up_to : (n : ℕ) (bytes : List ℕ) → length bytes < n → AreBetweenEnds (own_texts d bytes) bytes
  between_up_to zero bytes few = absurd (omega (arith, few))
  between_up_to (suc n) [] few = subst (λ (t : List (List ℕ)). AreBetweenEnds t []) (sym (own_nil can)) (All-nil (λ b. ends_line b ≡ true))
  between_up_to (suc n) (byte ∷ bytes) few = ⊎_elim
      (λ (ends : ends_line byte ≡ true).
      let later = between_up_to n bytes (omega (arith, few)) in
      subst (λ (t : List (List ℕ)). AreBetweenEnds t (byte ∷ bytes)) (sym (own_end can byte bytes ends)) (one_end_more byte (own_texts d bytes) bytes ends later))
      (λ (within : ends_line byte ≡ false).
      let first = first_of_record byte bytes within in
      let later = between_up_to n first.rest (omega (arith, few, first.fewer)) in
      subst (λ (t : List (List ℕ)). AreBetweenEnds t (byte ∷ bytes)) (sym first.owns)
      ([], first.rest, All-nil (λ b. ends_line b ≡ true), first.starts, first.whole, first.begins, later))
      (cases_Bool (ends_line byte))

  pub between_ends : (bytes : List ℕ) → AreBetweenEnds (own_texts d bytes) bytes
  between_ends bytes = between_up_to (length bytes + 1) bytes (omega arith)
