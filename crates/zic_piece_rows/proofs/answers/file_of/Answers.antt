use Rattle.zic_piece_rows.proofs.answers.file_of.Goals as goal

pub returns-in-Name : goal.returns-in-Name
returns-in-Name c =
    let named = rw c.in-Name.is at c.requires.named in
    rw c.in-Name.is named
