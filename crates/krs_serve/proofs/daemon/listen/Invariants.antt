use Rattle.krs_serve.proofs.daemon.listen.Given as goal

-- the desk that was opened
abbrev pub ghosts-listen_at : goal.ghosts-listen_at
ghosts-listen_at g a = record { desk = a.desk.now }
