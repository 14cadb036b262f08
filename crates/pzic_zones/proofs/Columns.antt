-- A column is written cell by cell.
use Rattle.std.proofs.Common.{◌≡◌, ℕ, ◌+◌, ◌<◌, ◌≤◌, ℤ, ◌<ℤ◌, arith, List, length, take, sym, subst, ◌∙◌}
use Rattle.std.proofs.Common.{set, get_or}
use Rattle.std.proofs.lemmas.List.{take_all, take_more, take_more_set, length-set}
use Rattle.std.proofs.lemmas.Slice.Zip.{all_zipped_more, get_or-zip, length-zip}
use Rattle.std.specs.List.{AllZip, zip}
use Rattle.zic_tzif.specs.Content.{Content}
use Rattle.pzic_zones.specs.code.Cached.{IsCached}
use Rattle.pzic_zones.specs.code.Written.{AreCellsWritten, IsWritten}
use Rattle.pzic_zones.specs.declared.column.Cached.{Cached}

-- one more item is written
AllZip-next : {A B : Type 0} (R : A → B → Type 0) (xs : List A) (ys : List B) (i : ℕ) (d : A) (y : B)
    → length ys ≡ length xs → i < length xs → AllZip R (take i xs) (take i ys) → R (get_or xs i d) y → AllZip R (take (i + 1) xs) (take (i + 1) (set ys i y))
AllZip-next R xs ys i d y long inside all r =
    rw (take_more xs i d inside, take_more_set ys i y (subst (λ n. i < n) (sym long) inside)) (all_zipped_more R (take i xs) (take i ys) (get_or xs i d) y all r)

pub written-next : {K : Type 0} (P : K → ℤ → Type 0) (Q : K → ℕ → Type 0) (keys : List K) (numbers : List ℤ) (marks : List ℕ) (i : ℕ) (d : K) (number : ℤ) (mark : ℕ)
    → i < length keys → P (get_or keys i d) number → Q (get_or keys i d) mark → IsWritten P Q keys numbers marks i
    → IsWritten P Q keys (set numbers i number) (set marks i mark) (i + 1)
written-next P Q keys numbers marks i d number mark inside p q w = record {
  numbers_long = length-set numbers i number ∙ w.numbers_long;
  marks_long = length-set marks i mark ∙ w.marks_long;
  numbers_written = AllZip-next P keys numbers i d number w.numbers_long inside w.numbers_written p;
  marks_written = AllZip-next Q keys marks i d mark w.marks_long inside w.marks_written q;
}

-- ---- keys that are two items beside each other

long-zip : {A B : Type 0} (ks : List A) (vs : List B) → length ks ≡ length vs → length (zip ks vs) ≡ length vs
long-zip ks vs same = let long = length-zip ks vs in omega (arith, same, long)

pub begun : {A B C : Type 0} (P : A × B → C → Type 0) (ks : List A) (vs : List B) (cells : List C) → length ks ≡ length vs → length cells ≡ length vs
    → AreCellsWritten P (zip ks vs) cells 0
begun P ks vs cells same long = record { long = long ∙ sym (long-zip ks vs same); written = tt }

pub cell-next : {A B C : Type 0} (P : A × B → C → Type 0) (ks : List A) (vs : List B) (cells : List C) (i : ℕ) (d : A) (e : B) (cell : C) → length ks ≡ length vs
    → i < length vs → P (get_or ks i d, get_or vs i e) cell → AreCellsWritten P (zip ks vs) cells i → AreCellsWritten P (zip ks vs) (set cells i cell) (i + 1)
cell-next {A = A} {B = B} P ks vs cells i d e cell same inside p w =
    let long = long-zip ks vs same in
    let within : i < length (zip ks vs) = subst (λ (n : ℕ). i < n) (sym long) inside in
    let key = get_or-zip ks vs i (d, e) (subst (λ (n : ℕ). i < n) (sym same) inside) inside in
    record {
      long = length-set cells i cell ∙ w.long;
      written = AllZip-next P (zip ks vs) cells i (d, e) cell w.long within w.written (subst (λ (k : A × B). P k cell) (sym key) p);
    }

pub all-written : {A B C : Type 0} (P : A × B → C → Type 0) (ks : List A) (vs : List B) (cells : List C) (i : ℕ) → length ks ≡ length vs → length vs ≤ i
    → AreCellsWritten P (zip ks vs) cells i → AllZip P (zip ks vs) cells
all-written {A = A} {B = B} {C = C} P ks vs cells i same past w =
    let long = long-zip ks vs same in
    let keys : length (zip ks vs) ≤ i = omega (arith, long, past) in
    let values : length cells ≤ i = let as_long = w.long in omega (arith, as_long, keys) in
    subst (λ (ys : List C). AllZip P (zip ks vs) ys) (take_all i cells values)
    (subst (λ (xs : List (A × B)). AllZip P xs (take i cells)) (take_all i (zip ks vs) keys) w.written)

-- of no instant nothing is told
pub none-cached : (content : Content) (cached : Cached) → cached.instants.last <ℤ cached.instants.first → IsCached content cached
none-cached content cached none t among = absurd (grind (arith, none, among.from, among.to))
