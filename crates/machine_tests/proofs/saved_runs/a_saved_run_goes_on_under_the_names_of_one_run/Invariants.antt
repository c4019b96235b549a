use Rattle.machine_tests.proofs.saved_runs.a_saved_run_goes_on_under_the_names_of_one_run.Given as goal

abbrev pub ghosts-goes_on : goal.ghosts-goes_on
ghosts-goes_on g a =
    record { image = a.image.now; budget = a.join.now.settings.budget; commits = a.join.now.settings.commits }
