use Rattle.machine_tests.proofs.whole_runs.a_script_is_played.Given as goal

abbrev pub ghosts-script_play : goal.ghosts-script_play
ghosts-script_play g a = record { image = a.image.now; budget = a.settings.budget; commits = a.settings.commits }
