use Rattle.machine_tests.proofs.workers.a_reader_sees_a_commit_of_workers_while_they_run.Given as goal

abbrev pub ghosts-watch_whole : goal.ghosts-watch_whole
ghosts-watch_whole g a = record { image = a.image.now; budget = a.settings.budget; commits = a.settings.commits }
