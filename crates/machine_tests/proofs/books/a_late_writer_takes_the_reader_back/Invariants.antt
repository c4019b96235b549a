use Rattle.machine_tests.proofs.books.a_late_writer_takes_the_reader_back.Given as goal

abbrev pub ghosts-made_one_by_one : goal.ghosts-made_one_by_one
ghosts-made_one_by_one g a = record { image = a.image.now; budget = a.settings.budget; commits = a.settings.commits }
