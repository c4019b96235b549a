use Rattle.machine_tests.proofs.scripts.each_schedule_says_what_was_walked.Given as goal

abbrev pub ghosts-plays_row : goal.ghosts-plays_row
ghosts-plays_row g a =
    record { image = a.image.now; budget = a.row.now.settings.budget; commits = a.row.now.settings.commits }
