use Rattle.machine_tests.proofs.whole_runs.a_tap_tells_of_a_script.Given as goal

abbrev pub ghosts-script_trace : goal.ghosts-script_trace
ghosts-script_trace g a = record { image = a.image.now; budget = a.settings.budget; commits = a.settings.commits }
