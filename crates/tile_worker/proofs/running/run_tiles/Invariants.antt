use Rattle.tile_worker.proofs.running.run_tiles.Given as goal

abbrev pub ghosts-work_all-L-Begun : goal.ghosts-work_all-L-Begun
ghosts-work_all-L-Begun g a = record { history = a.book.sound.view.history; output = a.book.sound.view.output }

abbrev pub ghosts-work_all-L-Ledger : goal.ghosts-work_all-L-Ledger
ghosts-work_all-L-Ledger g a = record { name = a.blank.name; parts = a.blank.parts }
