-- What the words for sources and files name.
use Rattle.std.proofs.Common.{◌≡◌, ◌≢◌, ◌⊎◌, ◌≤◌, ℕ, inl, inr, Bool, true, false, List, [], ◌∷◌, ◌++◌, length, Option, None, ◌∙◌, refl, sym}
use Rattle.std.specs.Prelude.{All, IfSome, bytes_eq, if◌then◌else◌}
use Rattle.std.proofs.lemmas.Bool.{cases_Bool, true≢false}
use Rattle.std.proofs.lemmas.List.Elements.{All-cons, All-head, All-nil, All-tail}
use Rattle.std.proofs.lemmas.Slice.Eq.{bytes_eq-Decides}
use Rattle.zic_counted.specs.Counts.{Counts}
use Rattle.zic_io.specs.Failing.{IsFailureOfSources}
use Rattle.zic_io.specs.code.Word.{IsFailureOfWord}
use Rattle.zic_io.specs.Sources.{known_of, known_after, AreTextsOf, IsTextOf}
use Rattle.zic_io.specs.declared.failure.Failure.{Failure}
use Rattle.zic_io.specs.declared.input.TheConstants.{MAX_SOURCE}
use Rattle.zic_base.specs.declared.constants.TheConstants.{STANDARD_INPUT}

-- what is known of standard input once the texts of words were read
abbrev pub known_afters : List (List ℕ) → Option (List ℕ) → Option (List ℕ)
known_afters [] input = input
known_afters (word ∷ words) input = known_afters words (known_after word input)

-- nothing is known, or it is what a reader has left
abbrev pub IsKnown : Option (List ℕ) → Option (List ℕ) → Type 0
IsKnown known left = (known ≡ None) ⊎ (known ≡ left)

-- one word more
pub known_more : (words : List (List ℕ)) (word : List ℕ) (input : Option (List ℕ)) → known_afters (words ++ word ∷ []) input ≡ known_after word (known_afters words input)
known_more [] word input = refl
known_more (first ∷ words) word input = known_more words word (known_after first input)

of_none : (is_input : Bool) (text : List ℕ) → IfSome (if is_input then None else None) (λ (all : List ℕ). text ≡ all)
of_none true text = tt
of_none false text = tt

-- the text of a word, by what its reader has left
pub text_of : (word : List ℕ) (known left : Option (List ℕ)) (text : List ℕ) → IsKnown known left → length text ≤ MAX_SOURCE → IfSome (known_of word left) (λ all. text ≡ all) → IsTextOf word known text
text_of word known left text (inl none) fits whole = record { fits = fits; whole = rw none (of_none (bytes_eq word STANDARD_INPUT.now) text) }
text_of word known left text (inr is) fits whole = record { fits = fits; whole = rw is whole }

other_word : (word : List ℕ) → bytes_eq word STANDARD_INPUT.now ≡ false → word ≢ STANDARD_INPUT.now
other_word word other is = true≢false (sym ((bytes_eq-Decides word STANDARD_INPUT.now).1 is) ∙ other)

-- what is known after a word
pub known_on : (word : List ℕ) (known left left' : Option (List ℕ)) → IsKnown known left → (word ≢ STANDARD_INPUT.now → left' ≡ left) → IsKnown (known_after word known) left'
known_on word known left left' is same =
    elim (cases_Bool (bytes_eq word STANDARD_INPUT.now)) [
      | inl dash ↦ inl (rw dash refl)
      | inr other ↦ rw other (elim is [
        | inl none ↦ inl none
        | inr here ↦ inr (here ∙ sym (same (other_word word other)))
      ])
    ]

-- one text more
pub text_more : (words : List (List ℕ)) (input : Option (List ℕ)) (texts : List (List ℕ)) (word text : List ℕ) → AreTextsOf words input texts → IsTextOf word (known_afters words input) text
    → AreTextsOf (words ++ word ∷ []) input (texts ++ text ∷ [])
text_more [] input texts word text none is = rw none (is, refl)
text_more (first ∷ words) input [] word text are is = absurd are
text_more (first ∷ words) input (of_first ∷ texts) word text are is = (are.0, text_more words (known_after first input) texts word text are.1 is)

-- none of the words is that of standard input
abbrev pub AreFiles : List (List ℕ) → Type 0
AreFiles words = All (λ word. word ≢ STANDARD_INPUT.now) words

-- none of the words is that of standard input: so it is of those before a word, and of the word
pub files_parts : (before : List (List ℕ)) (word : List ℕ) (after : List (List ℕ)) → AreFiles (before ++ word ∷ after) → AreFiles before × (word ≢ STANDARD_INPUT.now)
files_parts [] word after files = (All-nil (λ w. w ≢ STANDARD_INPUT.now), All-head (λ w. w ≢ STANDARD_INPUT.now) word after files)
files_parts (first ∷ before) word after files =
    let P = λ (w : List ℕ). w ≢ STANDARD_INPUT.now in
    let rest = files_parts before word after (All-tail P first (before ++ word ∷ after) files) in
    (All-cons P first before (All-head P first (before ++ word ∷ after) files) rest.0, rest.1)

-- the word at which reading ends
pub source_stop : {I : Type 0} (words before : List (List ℕ)) (word : List ℕ) (after : List (List ℕ)) (input : Option (List ℕ)) (texts : List (List ℕ)) (first old new : Counts I)
    (failure : Failure) → words ≡ before ++ word ∷ after → AreTextsOf before input texts → (AreFiles before → old ≡ first) → IsFailureOfWord word old new failure
    → IsFailureOfSources words input first new failure
source_stop words before word after input texts first old new failure parts are same (inl memory) = inl memory
source_stop words before word after input texts first old new failure parts are same (inr unread) =
    inr (record {
      before = before;
      word = word;
      after = after;
      parts = parts;
      texts = texts;
      are_texts = are;
      unread = unread.0;
      reason = λ dash files. rw (← same files) (unread.1 dash);
    })
