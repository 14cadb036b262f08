use Rattle.std.proofs.Common.{◌≡◌, ◌+◌, ◌≤◌, ◌==◌, ℕ, Some, length, sym, subst, arith, w64}
use Rattle.std.specs.Int.{trailing_zeros}
use Rattle.memchr.specs.Find.{IsFirst, Passes}
use Rattle.zic_columns.specs.code.Block.{mask_at}
use Rattle.zic_columns.proofs.Masks.{first_in_mask}
use Rattle.zic_columns.proofs.blocks.near_quote.Goals as goal

pub returns : goal.returns
returns c =
    let bytes = c.args.bytes.now in
    let is = c.quotes_at-quotes.ensures in
    let P = Passes (λ (byte : ℕ). byte == 34) bytes in
    let within : 0 + 32 ≤ length bytes = omega (arith, c.if-bytes-lt-BLOCK.false) in
    let k = trailing_zeros w64 (mask_at (λ byte. byte == 34) bytes 0) in
    let at : 0 + k ≡ k = omega arith in
    let found = first_in_mask (λ (byte : ℕ). byte == 34) bytes 0 within (omega (arith, c.if-quotes-eq0.false, is)) in
    subst (λ (m : ℕ). IsFirst P 0 (length bytes) (Some (trailing_zeros w64 m))) (sym is) (subst (λ (n : ℕ). IsFirst P 0 (length bytes) (Some n)) at found)
