-- Lines that are written with the names of their fields before the first of them.
use Rattle.std.proofs.Common.{◌≡◌, ◌==◌, Bool, ◌≤◌, ◌<◌, ◌+◌, ℕ, List, [], ◌∷◌, ◌++◌, length, take, drop, slice_range, get_or, flat_map, Option, inl, inr, refl, sym, ap, subst, ◌∙◌, append_assoc, append-nil, arith}
use Rattle.std.proofs.KnownBytes.{Appends-nil}
use Rattle.std.proofs.lemmas.Grind.{flat_map-append}
use Rattle.std.proofs.lemmas.List.{take-append-drop, take_all, take_more}
use Rattle.zic_compare.specs.Files.{AreLinesOfNew, AreLinesOfOld, names_of}
use Rattle.zic_compare.specs.Lines.{AreLinesOfAll}
use Rattle.zic_compare.specs.Refused.{RefusedNames, refused_lines}
use Rattle.zic_compare.specs.Text.{with_names}
use Rattle.zic_compare.specs.Written.{EndsAfter, EndsDiff, WritesDiff, has_lines}
use Rattle.zic_compare.specs.code.Rounds.{AreLinesIn, EndsList, EndsRefused, EndsRound, FileLists, WritesLines, files_of, names_after}
use Rattle.zic_compare.specs.declared.sides.Listed.{Listed}
use Rattle.zic_compare.specs.declared.sides.Listed.TheVariants as listed
use Rattle.zic_compare.specs.declared.lists.Side.TheVariants as sides
use Rattle.zic_compare.specs.declared.sides.DiffStop.{DiffStop}
use Rattle.zic_compare.specs.declared.sides.DiffStop.TheVariants as stops
use Rattle.zic_compare.proofs.FilesLemmas.{diff_of_both}
use Rattle.zic_compare.proofs.Joining.{first_more, lines_of_both}
use Rattle.zic_counted.proofs.Bytes.{fails_after, writes_both}
use Rattle.zic_counted.specs.Counts.{Counts}
use Rattle.zic_counted.specs.Written.{FailsWithin, Writes}
use Rattle.zic_files.specs.File.{File}

no_names : (lines : List ℕ) → with_names [] lines ≡ lines
no_names [] = refl
no_names (byte ∷ lines) = refl

-- some lines, and then more
pub with_names_both : (names a b : List ℕ) → with_names names (a ++ b) ≡ with_names names a ++ with_names (names_after names a) b
with_names_both names [] b = refl
with_names_both names (x ∷ a) b = sym (ap (λ (l : List ℕ). (names ++ x ∷ a) ++ l) (no_names b) ∙ append_assoc names (x ∷ a) b)

pub names_after_both : (names a b : List ℕ) → names_after names (a ++ b) ≡ names_after (names_after names a) b
names_after_both names [] b = refl
names_after_both names (x ∷ a) [] = refl
names_after_both names (x ∷ a) (y ∷ b) = refl

-- no names are left just where there was a line
told : (how : Listed) (lines : List ℕ) → (length (names_after (names_of how) lines) == 0) ≡ has_lines (with_names (names_of how) lines)
told (listed.Spans how) [] = refl
told (listed.Spans how) (byte ∷ lines) = refl
told (listed.Summaries survey) [] = refl
told (listed.Summaries survey) (byte ∷ lines) = refl

abbrev all_of : List (List ℕ) → List ℕ
all_of texts = flat_map (λ (text : List ℕ). text) texts

-- the lines of the first pieces, and of one more
pub texts_more : (texts : List (List ℕ)) (i : ℕ) (text : List ℕ) → i < length texts → text ≡ get_or texts i text
    → flat_map (λ (text : List ℕ). text) (take (i + 1) texts) ≡ flat_map (λ (text : List ℕ). text) (take i texts) ++ text
texts_more texts i text lt at =
    ap all_of (take_more texts i text lt) ∙ flat_map-append (λ (x : List ℕ). x) (take i texts) (get_or texts i text ∷ [])
    ∙ ap (λ (l : List ℕ). all_of (take i texts) ++ l) (append-nil (get_or texts i text) ∙ sym at)

-- and of all that follow
texts_whole : (texts : List (List ℕ)) (i : ℕ) (text : List ℕ) → i < length texts → text ≡ get_or texts i text
    → (more : List ℕ) × (flat_map (λ (text : List ℕ). text) texts ≡ (flat_map (λ (text : List ℕ). text) (take i texts) ++ text) ++ more)
texts_whole texts i text lt at =
    let rest = drop (i + 1) texts in (
      all_of rest,
      ap all_of (sym (take-append-drop (i + 1) texts)) ∙ flat_map-append (λ (x : List ℕ). x) (take (i + 1) texts) rest
          ∙ ap (λ (l : List ℕ). l ++ all_of rest) (texts_more texts i text lt at),
    )

module _ {W : Type 0} (contents : W → Option (List ℕ)) where
  -- nothing is written
  pub writes_none : (a : Counts W) → Writes contents a a []
  writes_none a = record { wrote = Appends-nil (contents a.inner); counts = record { failures = refl; taken = refl } }

  -- a write fails within some bytes, after which more were to come
  pub fails_early : (a b : Counts W) (xs more : List ℕ) → FailsWithin contents a b xs → FailsWithin contents a b (xs ++ more)
  fails_early a b xs more fails = fails_after contents a a b [] xs more (writes_none a) fails

  -- some bytes are written, and then a write fails within others
  pub fails_then : (a b c : Counts W) (xs ys : List ℕ) → Writes contents a b xs → FailsWithin contents b c ys → FailsWithin contents a c (xs ++ ys)
  fails_then a b c xs ys first fails =
      subst (λ (l : List ℕ). FailsWithin contents a c l) (append-nil (xs ++ ys)) (fails_after contents a b c xs ys [] first fails)

  ends_then : (a b c : Counts W) (xs ys : List ℕ) (stop : DiffStop) → Writes contents a b xs → EndsAfter contents b c ys stop → EndsAfter contents a c (xs ++ ys) stop
  ends_then a b c xs ys stops.Memory first ends = writes_both contents a b c xs ys first ends
  ends_then a b c xs ys stops.WriteFailed first ends = fails_then a b c xs ys first ends

  -- some lines are written, and then others
  pub lines_then : (a b c : Counts W) (names left one other : List ℕ) → Writes contents a b (with_names names one) → left ≡ names_after names one
      → Writes contents b c (with_names left other) → Writes contents a c (with_names names (one ++ other))
  lines_then a b c names left one other first is then =
      let second = subst (λ (n : List ℕ). Writes contents b c (with_names n other)) is then in
      subst (λ (l : List ℕ). Writes contents a c l) (sym (with_names_both names one other))
      (writes_both contents a b c (with_names names one) (with_names (names_after names one) other) first second)

  ends_in_lines : (a b c : Counts W) (names left one other : List ℕ) (stop : DiffStop) → Writes contents a b (with_names names one) → left ≡ names_after names one
      → EndsAfter contents b c (with_names left other) stop → EndsAfter contents a c (with_names names (one ++ other)) stop
  ends_in_lines a b c names left one other stop first is then =
      let second = subst (λ (n : List ℕ). EndsAfter contents b c (with_names n other) stop) is then in
      subst (λ (l : List ℕ). EndsAfter contents a c l stop) (sym (with_names_both names one other))
      (ends_then a b c (with_names names one) (with_names (names_after names one) other) stop first second)

  -- a write fails within the lines of a piece, after which more were to come
  pub fails_in_texts : (a b c : Counts W) (names left : List ℕ) (texts : List (List ℕ)) (i : ℕ) (text : List ℕ) → i < length texts → text ≡ get_or texts i text
      → left ≡ names_after names (flat_map (λ (text : List ℕ). text) (take i texts)) → Writes contents a b (with_names names (flat_map (λ (text : List ℕ). text) (take i texts)))
      → FailsWithin contents b c (with_names left text) → FailsWithin contents a c (with_names names (flat_map (λ (text : List ℕ). text) texts))
  fails_in_texts a b c names left texts i text lt at is first fails =
      let (more, whole) = texts_whole texts i text lt at in
      let done = all_of (take i texts) in
      let last = with_names (names_after names (done ++ text)) more in
      let within = fails_early a c (with_names names (done ++ text)) last (ends_in_lines a b c names left done text stops.WriteFailed first is fails) in
      subst (λ (l : List ℕ). FailsWithin contents a c l) (sym (ap (with_names names) whole ∙ with_names_both names (done ++ text) more)) within

  module _ (l : FileLists) (names : List ℕ) where
    -- no file has no lines
    pub wrote_none : (a : Counts W) → WritesLines contents l names (take 0 (files_of l)) a a names
    wrote_none a = record { lines = []; are = record { of_each = []; each = tt; joined = refl }; writes = writes_none a; left_is = refl }

    more_lines : (first end : ℕ) (one other : List ℕ) → first ≤ end → AreLinesOfAll (AreLinesIn l) (take first (files_of l)) one
        → AreLinesOfAll (AreLinesIn l) (slice_range (files_of l) first end) other → AreLinesOfAll (AreLinesIn l) (take end (files_of l)) (one ++ other)
    more_lines first end one other order before more =
        subst (λ (fs : List File). AreLinesOfAll (AreLinesIn l) fs (one ++ other)) (first_more (files_of l) first end order)
        (lines_of_both (AreLinesIn l) (take first (files_of l)) (slice_range (files_of l) first end) one other before more)

    -- the lines of a round more
    pub wrote_more : (first end : ℕ) (a b c : Counts W) (left next : List ℕ) → first ≤ end → WritesLines contents l names (take first (files_of l)) a b left
        → WritesLines contents l left (slice_range (files_of l) first end) b c next → WritesLines contents l names (take end (files_of l)) a c next
    wrote_more first end a b c left next order before more = record {
      lines = before.lines ++ more.lines;
      are = more_lines first end before.lines more.lines order before.are more.are;
      writes = lines_then a b c names left before.lines more.lines before.writes before.left_is more.writes;
      left_is = more.left_is ∙ ap (λ (n : List ℕ). names_after n more.lines) before.left_is ∙ sym (names_after_both names before.lines more.lines);
    }

    -- a round that ends early
    pub ended_in : (first end size : ℕ) (a b c : Counts W) (left : List ℕ) (stop : DiffStop) → first ≤ end → WritesLines contents l names (take first (files_of l)) a b left
        → EndsRound contents (record { lists = l; first = first; end = end; size = size }) left b c stop → EndsList contents l names a c stop
    ended_in first end size a b c left stops.Memory order before same = record {
      count = first;
      lines = before.lines;
      are = before.are;
      ends = subst (λ (w : Counts W). Writes contents a w (with_names names before.lines)) (sym same) before.writes;
    }
    ended_in first end size a b c left stops.WriteFailed order before within = record {
      count = end;
      lines = before.lines ++ within.lines;
      are = more_lines first end before.lines within.lines order before.are within.are;
      ends = ends_in_lines a b c names left before.lines within.lines stops.WriteFailed before.writes before.left_is within.fails;
    }

  module _ (how : Listed) (old new : List File) (refused : RefusedNames) where
    abbrev of_old : FileLists
    of_old = record { how = how; old = old; new = new; side = sides.Old }

    abbrev of_new : FileLists
    of_new = record { how = how; old = old; new = new; side = sides.New }

    abbrev of_refused : List ℕ
    of_refused = refused_lines how refused

    -- what is left after the lines of both lists
    left_after : (a b c : Counts W) (left end : List ℕ) (one : WritesLines contents of_old (names_of how) old a b left) (other : WritesLines contents of_new left new b c end)
        → end ≡ names_after (names_of how) (one.lines ++ other.lines)
    left_after a b c left end one other =
        other.left_is ∙ ap (λ (n : List ℕ). names_after n other.lines) one.left_is ∙ sym (names_after_both (names_of how) one.lines other.lines)

    -- the lines of both lists
    both_lists : (a b c : Counts W) (left end : List ℕ) (one : WritesLines contents of_old (names_of how) old a b left) (other : WritesLines contents of_new left new b c end)
        → Writes contents a c (with_names (names_of how) (one.lines ++ other.lines))
    both_lists a b c left end one other = lines_then a b c (names_of how) left one.lines other.lines one.writes one.left_is other.writes

    -- and of the files that are refused
    pub wrote_all : (a b c d e : Counts W) (left end last : List ℕ) (differs : Bool) → WritesLines contents of_old (names_of how) old a b left
        → WritesLines contents of_new left new b c end → last ≡ names_after end (refused_lines how refused) → Writes contents c d (with_names end (refused_lines how refused))
        → Writes contents d e [] → differs ≡ (length last == 0) → WritesDiff contents how old new refused a e differs
    wrote_all a b c d e left end last differs one other last_is third flushed differs_is =
        let names = names_of how in
        let both = one.lines ++ other.lines in
        let lines = both ++ of_refused in
        let text = with_names names lines in
        let end_is = left_after a b c left end one other in
        let whole = lines_then a c d names end both of_refused (both_lists a b c left end one other) end_is third in
        let last_of : last ≡ names_after names lines = last_is ∙ ap (λ (n : List ℕ). names_after n of_refused) end_is ∙ sym (names_after_both names both of_refused) in
        record {
          text = text;
          is_diff = diff_of_both how old new refused one.lines other.lines text one.are other.are refl;
          writes = subst (λ (l : List ℕ). Writes contents a e l) (append-nil text) (writes_both contents a d e text [] whole flushed);
          tells = differs_is ∙ ap (λ (l : List ℕ). length l == 0) last_of ∙ told how lines;
        }

    -- it ends early in the old files
    pub ended_old : (a b : Counts W) (stop : DiffStop) → EndsList contents of_old (names_of how) a b stop → EndsDiff contents how old new refused a b stop
    ended_old a b stop ended = record {
      text = with_names (names_of how) ended.lines;
      so_far = record {
        old_count = ended.count;
        of_old = ended.lines;
        are_old = ended.are;
        new_count = 0;
        of_new = [];
        are_new = record { of_each = []; each = tt; joined = refl };
        in_order = inl refl;
        of_refused = [];
        are_refused = inl refl;
        is_text = ap (with_names (names_of how)) (sym (append-nil (ended.lines ++ []) ∙ append-nil ended.lines));
      };
      ends = ended.ends;
    }

    -- or in the new ones
    pub ended_new : (a b c : Counts W) (left : List ℕ) (stop : DiffStop) → WritesLines contents of_old (names_of how) old a b left → EndsList contents of_new left b c stop
        → EndsDiff contents how old new refused a c stop
    ended_new a b c left stop one ended = record {
      text = with_names (names_of how) (one.lines ++ ended.lines);
      so_far = record {
        old_count = length old;
        of_old = one.lines;
        are_old = subst (λ (fs : List File). AreLinesOfAll (AreLinesOfOld how old new) fs one.lines) (sym (take_all (length old) old (omega arith))) one.are;
        new_count = ended.count;
        of_new = ended.lines;
        are_new = ended.are;
        in_order = inr (omega arith);
        of_refused = [];
        are_refused = inl refl;
        is_text = ap (with_names (names_of how)) (sym (append-nil (one.lines ++ ended.lines)));
      };
      ends = ends_in_lines a b c (names_of how) left one.lines ended.lines stop one.writes one.left_is ended.ends;
    }

    -- or after them, in those that are refused
    ended_after : (a b c d : Counts W) (left end : List ℕ) (stop : DiffStop) (one : WritesLines contents of_old (names_of how) old a b left)
        (other : WritesLines contents of_new left new b c end) → EndsAfter contents a d (with_names (names_of how) ((one.lines ++ other.lines) ++ refused_lines how refused)) stop
        → EndsDiff contents how old new refused a d stop
    ended_after a b c d left end stop one other ended = record {
      text = with_names (names_of how) ((one.lines ++ other.lines) ++ refused_lines how refused);
      so_far = record {
        old_count = length old;
        of_old = one.lines;
        are_old = subst (λ (fs : List File). AreLinesOfAll (AreLinesOfOld how old new) fs one.lines) (sym (take_all (length old) old (omega arith))) one.are;
        new_count = length new;
        of_new = other.lines;
        are_new = subst (λ (fs : List File). AreLinesOfAll (AreLinesOfNew how old new) fs other.lines) (sym (take_all (length new) new (omega arith))) other.are;
        in_order = inr (omega arith);
        of_refused = refused_lines how refused;
        are_refused = inr (omega arith, omega arith, refl);
        is_text = refl;
      };
      ends = ended;
    }

    pub ended_refused : (a b c d : Counts W) (left end : List ℕ) (stop : DiffStop) → WritesLines contents of_old (names_of how) old a b left
        → WritesLines contents of_new left new b c end → EndsRefused contents end (refused_lines how refused) c d stop → EndsDiff contents how old new refused a d stop
    ended_refused a b c d left end stops.Memory one other same = ended_new a b d left stops.Memory one (record {
      count = length new;
      lines = other.lines;
      are = subst (λ (fs : List File). AreLinesOfAll (AreLinesOfNew how old new) fs other.lines) (sym (take_all (length new) new (omega arith))) other.are;
      ends = subst (λ (w : Counts W). Writes contents b w (with_names left other.lines)) (sym same) other.writes;
    })
    ended_refused a b c d left end stops.WriteFailed one other fails =
        let names = names_of how in
        ended_after a b c d left end stops.WriteFailed one other
        (ends_in_lines a c d names end (one.lines ++ other.lines) of_refused stops.WriteFailed (both_lists a b c left end one other) (left_after a b c left end one other) fails)

    -- or at the flush
    pub ended_last : (a b c d e : Counts W) (left end : List ℕ) (stop : DiffStop) → WritesLines contents of_old (names_of how) old a b left
        → WritesLines contents of_new left new b c end → Writes contents c d (with_names end (refused_lines how refused)) → EndsAfter contents d e [] stop
        → EndsDiff contents how old new refused a e stop
    ended_last a b c d e left end stop one other third ended =
        let names = names_of how in
        let both = one.lines ++ other.lines in
        let text = with_names names (both ++ of_refused) in
        let whole = lines_then a c d names end both of_refused (both_lists a b c left end one other) (left_after a b c left end one other) third in
        ended_after a b c e left end stop one other
        (subst (λ (l : List ℕ). EndsAfter contents a e l stop) (append-nil text) (ends_then a d e text [] stop whole ended))
