use Rattle.machine_tests.proofs.books.a_list_of_events_fills_a_queue.Given as goal

abbrev pub ghosts-stalls_at_once : goal.ghosts-stalls_at_once
ghosts-stalls_at_once g a = record { image = a.image.now; budget = a.settings.budget; commits = a.settings.commits }
