use Rattle.std.proofs.Common.{refl, rules, Err}
use Rattle.sim_io.specs.Parts.{Writes}
use Rattle.sim_io.proofs.Proved.{writes_front, writes_then}
use Rattle.fractal_sim.specs.Texts.{commits_line, load_line}
use Rattle.fractal_sim.proofs.publishing.write_load_lines.Goals as goal

pub returns-in-Ok : goal.returns-in-Ok
returns-in-Ok g c =
    let load = c.args.load in
    let line = load_line load.load load.seed load.size in
    let before = g.K.Sink.state c.args.sink.now in
    let between = g.K.Sink.state c.write_all.new.sink in
    let first : Writes before between c.write_all.result line = search (rules, c.write_all.ensures) in
    writes_then _ _ _ c.write_all.result _ line (commits_line c.args.commits) (search rules) first c.write_commits.ensures

pub returns-in-Err : goal.returns-in-Err
returns-in-Err g c =
    let load = c.args.load in
    let line = load_line load.load load.seed load.size in
    let before = g.K.Sink.state c.args.sink.now in
    let after = g.K.Sink.state c.write_all.new.sink in
    let first : Writes before after (Err c.in-Err.failed) line = search (rules, c.in-Err.ensures) in
    writes_front _ _ _ _ line (commits_line c.args.commits) refl first
