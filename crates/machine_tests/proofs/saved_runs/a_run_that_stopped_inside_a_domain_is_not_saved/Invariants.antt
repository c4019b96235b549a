use Rattle.machine_tests.proofs.saved_runs.a_run_that_stopped_inside_a_domain_is_not_saved.Given as goal

abbrev pub ghosts-stops_inside : goal.ghosts-stops_inside
ghosts-stops_inside g a = record { image = a.image.now; budget = a.settings.budget; commits = a.settings.commits }
