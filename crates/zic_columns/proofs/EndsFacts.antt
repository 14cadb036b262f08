-- The next delimiters and line ends of a piece.
use Rattle.std.proofs.Common.{◌≡◌, ℕ, ◌+◌, ◌-◌, ◌^◌, ◌<◌, ◌≤◌, true, List, length, get_or, map, inr, sym, ap, ◌∙◌, arith, w64, bit_and, ⊎_elim}
use Rattle.std.specs.Int.{bit_at, trailing_zeros}
use Rattle.std.specs.Int.Bits.{and_le_r}
use Rattle.std.specs.Simd.Lanes.{chunk, mask_l}
use Rattle.std.proofs.lemmas.Bool.{cases_lt}
use Rattle.std.proofs.lemmas.Nat.Bits.{bit_at-trailing_zeros, bit_at-zero}
use Rattle.zic_columns.specs.code.Block.{ends_field}
use Rattle.zic_columns.specs.code.Ends.{ShowsEnds}
use Rattle.zic_columns.specs.code.Walk.{IsFieldEnd}
use Rattle.zic_columns.specs.declared.ends.FieldEnds.{FieldEnds}
use Rattle.zic_columns.proofs.LowestBit.{none_left, others_left}
use Rattle.zic_columns.proofs.Masks.{bit_found, bit_set, bit_within}

module _ (d : ℕ) (bytes : List ℕ) (at : ℕ) (ends : FieldEnds) (shows : ShowsEnds d bytes at ends) where
  -- none is left, and one more block was looked at
  pub shows_block : ends.mask ≡ 0 → ends.seen + 64 ≤ length bytes → (mask : ℕ) → mask < 2 ^ 64 → mask ≡ mask_l (map (ends_field d) (chunk ends.seen 64 bytes))
      → ShowsEnds d bytes at (record { mask = mask; block = ends.seen; seen = ends.seen + 64 })
  shows_block none within mask fits is = record {
    low = omega (arith, shows.low);
    before = omega arith;
    high = within;
    fits = fits;
    set = λ k one.
        let bit = ap (λ (m : ℕ). bit_at m k) (sym is) ∙ one in (
          omega (arith, shows.low),
          omega (arith, bit_within 64 (ends_field d) bytes ends.seen within k bit),
          bit_set 64 (ends_field d) bytes ends.seen within k bit,
        );
    all = λ j from to passes. ⊎_elim
        (λ (old : j < ends.seen).
        let has = shows.all j from old passes in
        absurd (omega (arith, has.1, ap (λ (m : ℕ). bit_at m (j - ends.block)) none, bit_at-zero (j - ends.block))))
        (λ (new : ends.seen ≤ j).
        let place : ends.seen + (j - ends.seen) ≡ j = omega (arith, new) in (
          new,
          ap (λ (m : ℕ). bit_at m (j - ends.seen)) is
              ∙ bit_found 64 (ends_field d) bytes ends.seen within (j - ends.seen) (omega (arith, to, new)) (ap (λ (i : ℕ). ends_field d (get_or bytes i 0)) place ∙ passes),
        ))
        (cases_lt j ends.seen);
  }

  module _ (some : 0 < ends.mask) where
    abbrev pub place : ℕ
    place = trailing_zeros w64 ends.mask

    lowest : (place < 64) × (bit_at ends.mask place ≡ 1) × ((i : ℕ) → i < place → bit_at ends.mask i ≡ 0)
    lowest = bit_at-trailing_zeros w64 ends.mask some shows.fits

    there : (at ≤ ends.block + place) × (ends.block + place < ends.seen) × (ends_field d (get_or bytes (ends.block + place) 0) ≡ true)
    there = shows.set place lowest.1

    pub end_within : ends.block + place < length bytes
    end_within = omega (arith, there.1, shows.high)

    pub end_next : IsFieldEnd d bytes at (ends.block + place)
    end_next = record {
      low = there.0;
      high = omega (arith, end_within);
      before = λ j from lt passes.
          let has = shows.all j from (omega (arith, lt, there.1)) passes in
          absurd (omega (arith, has.1, lowest.2 (j - ends.block) (omega (arith, lt, has.0))));
      ends = inr there.2;
    }

    pub shows_rest : ShowsEnds d bytes (ends.block + place + 1) (record { mask = bit_and ends.mask (ends.mask - 1); block = ends.block; seen = ends.seen })
    shows_rest =
        let m = ends.mask in
        record {
          low = omega (arith, there.1);
          before = shows.before;
          high = shows.high;
          fits = omega (arith, shows.fits, and_le_r m (m - 1));
          set = λ k one. ⊎_elim
              (λ (past : place < k).
              let old = shows.set k (sym (others_left m place lowest.1 lowest.2 k past) ∙ one) in
              (omega (arith, past), old.1, old.2))
              (λ (le : k ≤ place). absurd (omega (arith, one, none_left m place lowest.1 lowest.2 k le)))
              (cases_lt place k);
          all = λ j from to passes.
              let has = shows.all j (omega (arith, from, there.0)) to passes in
              (has.0, others_left m place lowest.1 lowest.2 (j - ends.block) (omega (arith, from, has.0)) ∙ has.1);
        }
