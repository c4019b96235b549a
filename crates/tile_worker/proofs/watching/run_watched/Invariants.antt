use Rattle.tile_worker.proofs.watching.run_watched.Given as goal

abbrev pub ghosts-watch_all-L-Followable : goal.ghosts-watch_all-L-Followable
ghosts-watch_all-L-Followable g a = record { board = a.board.now; before = a.writer.told }

abbrev pub ghosts-watch_all-L-Ledger : goal.ghosts-watch_all-L-Ledger
ghosts-watch_all-L-Ledger g a = record { name = a.blank.name; parts = a.blank.parts }

abbrev pub ghosts-watch_all-L-Begun : goal.ghosts-watch_all-L-Begun
ghosts-watch_all-L-Begun g a = record { history = a.book.sound.view.history; output = a.book.sound.view.output }
