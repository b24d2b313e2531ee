use Rattle.krs_desk.proofs.desk.Desk.look_as_one.Given as goal

abbrev pub ghosts-check : goal.ghosts-check
ghosts-check a = record { opening = a.board.now.key }
