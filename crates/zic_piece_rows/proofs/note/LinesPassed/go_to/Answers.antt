use Rattle.std.proofs.Common.{◌≡◌, ◌<◌, ◌^◌, ◌∙◌, ap, arith}
use Rattle.zic_piece_rows.specs.Detail.{line_feeds_before}
use Rattle.zic_piece_rows.specs.code.Note.{ArePassed}
use Rattle.zic_piece_rows.specs.declared.note.LinesPassed.{LinesPassed}
use Rattle.zic_piece_rows.proofs.PassedLines.{feeds_between, feeds_few}
use Rattle.zic_piece_rows.proofs.note.LinesPassed.go_to.Goals as goal
use Rattle.zic_piece_rows.proofs.note.LinesPassed.go_to.Goals.{then-self-at, else-self-at}

pub returns-clause-counted : goal.returns-clause-counted
returns-clause-counted c =
    let piece = c.args.piece.now in
    let old = c.args.self.now in
    let at = c.args.at in
    let fits : at < 2 ^ 64 = c.ranges.at.fits in
    λ are within. elim c.if-self-at.branch [
      | then-self-at w ↦
          let reached : w.saturating_add-self.result ≡ line_feeds_before piece at =
          omega (arith, w.saturating_add-self.ensures, w.line_feeds-more.ensures, are.counted, feeds_between piece old.at at (omega (arith, w.if-self-at.true)), feeds_few piece at, fits) in
          ap (λ (s : LinesPassed). s.line_feeds) w.self-is ∙ reached
      | else-self-at w ↦
          let same : old.at ≡ at = omega (arith, within, w.if-self-at.false) in
          ap (λ (s : LinesPassed). s.line_feeds) w.self-is ∙ are.counted ∙ ap (line_feeds_before piece) same
    ]

pub returns-clause-passed : goal.returns-clause-passed
returns-clause-passed c =
    let piece = c.args.piece.now in
    let old = c.args.self.now in
    let at = c.args.at in
    let fits : at < 2 ^ 64 = c.ranges.at.fits in
    λ are. elim c.if-self-at.branch [
      | then-self-at w ↦
          let reached : w.saturating_add-self.result ≡ line_feeds_before piece at =
          omega (arith, w.saturating_add-self.ensures, w.line_feeds-more.ensures, are.counted, feeds_between piece old.at at (omega (arith, w.if-self-at.true)), feeds_few piece at, fits) in
          let passed : ArePassed piece (record { at = at; line_feeds = w.saturating_add-self.result }) = record { within = c.requires; counted = reached } in
          rw w.self-is passed
      | else-self-at w ↦ rw w.self-is are
    ]
