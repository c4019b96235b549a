use Rattle.bench_placers.proofs.print_row.Given as goal

abbrev pub ghosts-row_of_play : goal.ghosts-row_of_play
ghosts-row_of_play g a = record { image = a.image.now; budget = a.settings.budget; commits = a.settings.commits }
