use Rattle.event_prelude.proofs.Victims.{aborted_moves, aborted_one, creator_there, freed_by_creator, freed_by_victim}
use Rattle.event_prelude.proofs.rooming.take_victim.Goals as goal
use Rattle.spec_commit.proofs.Victims.{read_firm, read_loose}

pub spill-requires-clause-some : goal.spill-requires-clause-some
spill-requires-clause-some g c =
    let v = c.victim_of-last.ensures in
    let firm = read_firm c.args.state.now.view _ v.0 c.firm.result v.1.there c.firm.ensures c.if-firm.true in
    let aborts = aborted_one g.N.Naming.image _ _ _ _ _ c.requires.sound c.abort-aborted.ensures.aborts in
    aborted_moves g.N.Naming.image c.args.tile _ c.args.state.now.view _ v.0 c.requires.sound c.requires.runs
    c.requires.least v.1 firm _ _ aborts.0

pub abort-requires : goal.abort-requires
abort-requires g c =
    let v = c.victim_of-last.ensures in
    let loose = read_loose c.args.state.now.view _ v.0 c.firm.result v.1.there c.firm.ensures c.if-firm.false in
    record {
      live =
          creator_there g.N.Naming.image c.args.tile _ c.args.state.now.view _ _ v.0 c.requires.sound c.requires.runs c.requires.none_moves
          c.requires.least v.1 loose c.creator_of-creator.ensures;
    }

pub returns-then-firm-clause-makes : goal.returns-then-firm-clause-makes
returns-then-firm-clause-makes g c =
    let v = c.victim_of-last.ensures in
    let firm = read_firm c.args.state.now.view _ v.0 c.firm.result v.1.there c.firm.ensures c.if-firm.true in
    let aborts = aborted_one g.N.Naming.image _ _ _ _ _ c.requires.sound c.abort-aborted.ensures.aborts in
    freed_by_victim c.args.tile _ c.args.state.now.view _ v.0 _ _ c.spill.new.state.effect
    c.requires.full c.requires.none_moves c.requires.least v.1
    c.abort-aborted.new.state.view c.abort-aborted.new.state.effect firm aborts
    c.spill.ensures.moves c.spill.ensures.effect

pub returns-else-firm-clause-makes : goal.returns-else-firm-clause-makes
returns-else-firm-clause-makes g c =
    let v = c.victim_of-last.ensures in
    let loose = read_loose c.args.state.now.view _ v.0 c.firm.result v.1.there c.firm.ensures c.if-firm.false in
    let aborts = aborted_one g.N.Naming.image _ _ _ _ _ c.requires.sound c.abort.ensures.aborts in
    freed_by_creator c.args.tile _ c.args.state.now.view _ v.0 _ _ c.abort.new.state.effect
    c.requires.full c.requires.none_moves c.requires.least v.1
    _ loose c.creator_of-creator.ensures aborts c.abort.ensures.effect
