use Rattle.machine_tests.proofs.books.a_list_of_events_takes_the_reader_back.Given as goal

abbrev pub ghosts-made_at_once : goal.ghosts-made_at_once
ghosts-made_at_once g a = record { image = a.image.now; budget = a.settings.budget; commits = a.settings.commits }
